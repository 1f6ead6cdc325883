-- Types without labels, and types without holes.
use Rattle.std.specs.Prelude.{◌≡◌, Bool, true, false, ◌||◌, [], Option, Some, None}
use Rattle.std.specs.List.{list_any}
use Rattle.hir_types.specs.declared.ty.Const.{Const}
use Rattle.hir_types.specs.declared.ty.Const.TheVariants as const
use Rattle.hir_types.specs.declared.ty.Region.{Region}
use Rattle.hir_types.specs.declared.ty.AliasBound.{AliasBound, AliasBound-F, roll-AliasBound}
use Rattle.hir_types.specs.declared.ty.GenericArg.{GenericArg, GenericArg-F, fold-GenericArg, roll-GenericArg}
use Rattle.hir_types.specs.declared.ty.TraitRef.{TraitRef, TraitRef-F, roll-TraitRef}
use Rattle.hir_types.specs.declared.ty.Ty.{Ty, Ty-F, fold-Ty, roll-Ty}
use Rattle.hir_types.specs.declared.ty.Ty.TheVariants as ty

-- ---- labels

-- the label of an erased lifetime
abbrev pub no_label : Region
no_label = record { 0 = [] }

abbrev pub erased_step : Ty-F GenericArg Ty AliasBound TraitRef → Ty
erased_step (Ty-F.Ref m r t) = ty.Ref m no_label t
erased_step x = roll-Ty x

-- the type without its lifetime labels
abbrev pub erased : Ty → Ty
erased = fold-Ty GenericArg Ty AliasBound TraitRef roll-GenericArg erased_step roll-AliasBound
    roll-TraitRef

abbrev pub arg_erased : GenericArg → GenericArg
arg_erased = fold-GenericArg GenericArg Ty AliasBound TraitRef roll-GenericArg erased_step
    roll-AliasBound roll-TraitRef

-- the two types are the same but for labels
abbrev pub Same : Ty → Ty → Type 0
Same s t = erased s ≡ erased t

-- ---- holes

-- holes that inference made, and a written `_`
abbrev pub hole_const : Const → Bool
hole_const (const.Value n) = false
hole_const (const.Param n) = false
hole_const const.Unknown = false
hole_const (const.Var n) = true
hole_const const.Hole = true

abbrev pub so_or_none : Option Bool → Bool
so_or_none None = false
so_or_none (Some b) = b

abbrev pub hole_arg : GenericArg-F Bool Bool Bool Bool → Bool
hole_arg (GenericArg-F.Ty b) = b
hole_arg (GenericArg-F.Const c) = hole_const c

abbrev pub hole_bound : AliasBound-F Bool Bool Bool Bool → Bool
hole_bound b = b.ty

abbrev pub hole_trait : TraitRef-F Bool Bool Bool Bool → Bool
hole_trait t = list_any (λ b. b) t.args

abbrev pub hole_step : Ty-F Bool Bool Bool Bool → Bool
hole_step Ty-F.Bool = false
hole_step Ty-F.Char = false
hole_step (Ty-F.Int i) = false
hole_step (Ty-F.Uint i) = false
hole_step (Ty-F.Float f) = false
hole_step Ty-F.Str = false
hole_step Ty-F.Never = false
hole_step (Ty-F.Tuple bs) = list_any (λ b. b) bs
hole_step (Ty-F.Array b c) = b || hole_const c
hole_step (Ty-F.Slice b) = b
hole_step (Ty-F.Ref m r b) = b
hole_step (Ty-F.RawPtr m b) = b
hole_step (Ty-F.Adt i bs) = list_any (λ b. b) bs
hole_step (Ty-F.FnDef i bs) = list_any (λ b. b) bs
hole_step (Ty-F.FnPtr s bs b) = list_any (λ b. b) bs || b
hole_step (Ty-F.Closure i bs b) = list_any (λ b. b) bs || b
hole_step (Ty-F.Dynamic o bs ts) = so_or_none o || list_any (λ b. b) bs
hole_step (Ty-F.Param n) = false
hole_step (Ty-F.Projection i bs) = list_any (λ b. b) bs
hole_step (Ty-F.AssociatedType i bs) = list_any (λ b. b) bs
hole_step (Ty-F.Opaque i bs) = list_any (λ b. b) bs
hole_step Ty-F.Error = false
hole_step (Ty-F.Var n) = true
hole_step (Ty-F.IntVar n) = true
hole_step Ty-F.Hole = true

abbrev pub has_hole : Ty → Bool
has_hole = fold-Ty Bool Bool Bool Bool hole_arg hole_step hole_bound hole_trait

-- no hole stands in the type
abbrev pub IsClosed : Ty → Type 0
IsClosed t = has_hole t ≡ false
