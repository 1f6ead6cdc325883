-- Types in which `{unknown}` stands.
use Rattle.std.specs.Prelude.{◌≡◌, Bool, true, false, ◌||◌}
use Rattle.std.specs.List.{list_any}
use Rattle.infer_result.specs.Words.{Const, AliasBound, AliasBound-F, fold-AliasBound, GenericArg, GenericArg-F, fold-GenericArg, TraitRef, TraitRef-F, fold-TraitRef, Ty, Ty-F, fold-Ty, so_or_none}
use Rattle.hir_types.specs.declared.ty.Const.TheVariants as const

-- `{unknown}` is a type or a const
abbrev pub unknown_const : Const → Bool
unknown_const (const.Value n) = false
unknown_const (const.Param n) = false
unknown_const const.Unknown = true
unknown_const (const.Var n) = false
unknown_const const.Hole = false

abbrev pub unknown_arg : GenericArg-F Bool Bool Bool Bool → Bool
unknown_arg (GenericArg-F.Ty b) = b
unknown_arg (GenericArg-F.Const c) = unknown_const c

abbrev pub unknown_bound : AliasBound-F Bool Bool Bool Bool → Bool
unknown_bound b = b.ty

abbrev pub unknown_trait : TraitRef-F Bool Bool Bool Bool → Bool
unknown_trait t = list_any (λ b. b) t.args

abbrev pub unknown_step : Ty-F Bool Bool Bool Bool → Bool
unknown_step Ty-F.Bool = false
unknown_step Ty-F.Char = false
unknown_step (Ty-F.Int i) = false
unknown_step (Ty-F.Uint i) = false
unknown_step (Ty-F.Float f) = false
unknown_step Ty-F.Str = false
unknown_step Ty-F.Never = false
unknown_step (Ty-F.Tuple bs) = list_any (λ b. b) bs
unknown_step (Ty-F.Array b c) = b || unknown_const c
unknown_step (Ty-F.Slice b) = b
unknown_step (Ty-F.Ref m r b) = b
unknown_step (Ty-F.RawPtr m b) = b
unknown_step (Ty-F.Adt i bs) = list_any (λ b. b) bs
unknown_step (Ty-F.FnDef i bs) = list_any (λ b. b) bs
unknown_step (Ty-F.FnPtr s bs b) = list_any (λ b. b) bs || b
unknown_step (Ty-F.Closure i bs b) = list_any (λ b. b) bs || b
unknown_step (Ty-F.Dynamic o bs ts) = so_or_none o || list_any (λ b. b) bs
unknown_step (Ty-F.Param n) = false
unknown_step (Ty-F.Projection i bs) = list_any (λ b. b) bs
unknown_step (Ty-F.AssociatedType i bs) = list_any (λ b. b) bs
unknown_step (Ty-F.Opaque i bs) = list_any (λ b. b) bs
unknown_step Ty-F.Error = true
unknown_step (Ty-F.Var n) = false
unknown_step (Ty-F.IntVar n) = false
unknown_step Ty-F.Hole = false

abbrev pub has_unknown : Ty → Bool
has_unknown = fold-Ty Bool Bool Bool Bool unknown_arg unknown_step unknown_bound unknown_trait

abbrev pub arg_has_unknown : GenericArg → Bool
arg_has_unknown = fold-GenericArg Bool Bool Bool Bool unknown_arg unknown_step unknown_bound unknown_trait

abbrev pub bound_has_unknown : AliasBound → Bool
bound_has_unknown = fold-AliasBound Bool Bool Bool Bool unknown_arg unknown_step unknown_bound unknown_trait

abbrev pub trait_has_unknown : TraitRef → Bool
trait_has_unknown = fold-TraitRef Bool Bool Bool Bool unknown_arg unknown_step unknown_bound unknown_trait

-- `{unknown}` does not stand in the type
abbrev pub IsKnown : Ty → Type 0
IsKnown t = has_unknown t ≡ false
