-- Types that name what there is.
use Rattle.std.specs.List.{list_all}
use Rattle.std.specs.Prelude.{ℕ, Bool, true, false, ◌&&◌, nat_lt, List, [], ◌∷◌, length, slice_get, Option, Some, None}
use Rattle.hir_raw.specs.Words.{GenericDefId, TraitId, Ty, Ty-F, fold-Ty, AliasBound-F, GenericArg, GenericArg-F, fold-GenericArg, TraitRef-F, Const}
use Rattle.hir_types.specs.declared.ty.Const.TheVariants as const
use Rattle.hir_raw.specs.declared.raw.RawFacts.{RawFacts}
use Rattle.hir_raw.specs.Scope.{Scope, adt_params, alias_params_by, callable_params, has_params, item_scope}

-- no parameter stands for a const yet
abbrev pub const_fits : Const → Bool
const_fits (const.Value n) = true
const_fits (const.Param n) = false
const_fits const.Unknown = true
const_fits (const.Var n) = true
const_fits const.Hole = true

-- so an argument that is a const fits no parameter
abbrev pub fits_arg : GenericArg-F Bool Bool Bool Bool → Bool
fits_arg (GenericArg-F.Ty b) = b
fits_arg (GenericArg-F.Const c) = false

-- no object type that names a trait is carried yet, and no opaque type, so what is one does not fit
abbrev pub fits_bound : AliasBound-F Bool Bool Bool Bool → Bool
fits_bound b = false

abbrev pub fits_trait : TraitRef-F Bool Bool Bool Bool → Bool
fits_trait t = false

-- an object type names no trait and no associated type
abbrev pub names_none : {T B : Type 0} → Option T → List B → List TraitId → Bool
names_none None [] [] = true
names_none None [] (t ∷ ts) = false
names_none None (b ∷ bs) ts = false
names_none (Some t) bs ts = false

-- under so many parameters
abbrev pub fits_step : RawFacts → ℕ → Ty-F Bool Bool Bool Bool → Bool
fits_step raw n Ty-F.Bool = true
fits_step raw n Ty-F.Char = true
fits_step raw n (Ty-F.Int i) = true
fits_step raw n (Ty-F.Uint i) = true
fits_step raw n (Ty-F.Float f) = true
fits_step raw n Ty-F.Str = true
fits_step raw n Ty-F.Never = true
fits_step raw n (Ty-F.Tuple bs) = list_all (λ b. b) bs
fits_step raw n (Ty-F.Array b c) = b && const_fits c
fits_step raw n (Ty-F.Slice b) = b
fits_step raw n (Ty-F.Ref m r b) = b
fits_step raw n (Ty-F.RawPtr m b) = b
fits_step raw n (Ty-F.Adt i bs) = has_params (adt_params raw i) (length bs) && list_all (λ b. b) bs
fits_step raw n (Ty-F.FnDef i bs) = has_params (callable_params raw i) (length bs) && list_all (λ b. b) bs
fits_step raw n (Ty-F.FnPtr s bs b) = list_all (λ b. b) bs && b
fits_step raw n (Ty-F.Closure i bs b) = list_all (λ b. b) bs && b
fits_step raw n (Ty-F.Dynamic o bs ts) = names_none o bs ts
fits_step raw n (Ty-F.Param i) = nat_lt i n
fits_step raw n (Ty-F.Projection i bs) = has_params (alias_params_by raw (slice_get raw.aliases i.0)) (length bs) && list_all (λ b. b) bs
fits_step raw n (Ty-F.AssociatedType i bs) =
    has_params (alias_params_by raw (slice_get raw.aliases i.0)) (length bs) && list_all (λ b. b) bs
fits_step raw n (Ty-F.Opaque i bs) = false
fits_step raw n Ty-F.Error = true
fits_step raw n (Ty-F.Var i) = true
fits_step raw n (Ty-F.IntVar i) = true
fits_step raw n Ty-F.Hole = true

-- Each id other than a closure's and each parameter in the type is in range, and argument lists are as the
-- parameters. Holes are not the facts' concern.
abbrev pub ty_fits : Scope → Ty → Bool
ty_fits sc = fold-Ty Bool Bool Bool Bool fits_arg (fits_step sc.facts sc.params) fits_bound fits_trait

-- an argument is a type that fits
abbrev pub arg_fits : Scope → GenericArg → Bool
arg_fits sc = fold-GenericArg Bool Bool Bool Bool fits_arg (fits_step sc.facts sc.params) fits_bound fits_trait

-- under the parameters of this item
abbrev pub fits : RawFacts → GenericDefId → Ty → Bool
fits raw item t = ty_fits (item_scope raw item) t
