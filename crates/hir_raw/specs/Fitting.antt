-- A type fits where its parts do.
use Rattle.std.proofs.Common.{◌≡◌, refl, sym, ap, ◌∙◌, Bool, true, false, ◌&&◌, ℕ, List, [], ◌∷◌, map, length, Option, Some, None, nat_lt, ◌⊎◌, inl, inr}
use Rattle.std.proofs.lemmas.List.{length-map}
use Rattle.std.specs.List.{list_all}
use Rattle.std.specs.Prelude.{slice_get}
use Rattle.hir_raw.specs.Words.{AdtId, CallableDefId, ClosureId, OpaqueId, TraitId, TypeAliasId, IntTy, UintTy, FloatTy, Mutability, Safety, Region, Const, GenericArg, GenericArg-F, fold-roll-GenericArg, TraitRef, AliasBound, Ty, Ty-F, fold-roll-Ty}
use Rattle.hir_types.specs.declared.ty.GenericArg.TheVariants as arg
use Rattle.hir_types.specs.declared.ty.Ty.TheVariants as ty
use Rattle.hir_raw.specs.Scope.{Scope, adt_params, alias_params_by, callable_params, has_params}
use Rattle.hir_raw.specs.Fit.{const_fits, fits_arg, fits_step, fits_bound, fits_trait, ty_fits, arg_fits, names_none}

list_all_map : {X : Type 0} (f : X → Bool) (xs : List X) → list_all (λ b. b) (map f xs) ≡ list_all f xs
list_all_map f [] = refl
list_all_map f (x ∷ xs) = λ i. f x && list_all_map f xs i

-- there are as many answers as arguments
args_map : (sc : Scope) (count : Option ℕ) (xs : List GenericArg)
    → (has_params count (length (map (arg_fits sc) xs)) && list_all (λ b. b) (map (arg_fits sc) xs))
    ≡ (has_params count (length xs) && list_all (arg_fits sc) xs)
args_map sc count xs = λ i. has_params count (length-map xs (arg_fits sc) i) && list_all_map (arg_fits sc) xs i

pub ty_fits_bool : (sc : Scope) → ty_fits sc ty.Bool ≡ true
ty_fits_bool sc = ap (ty_fits sc) (sym ty.rolls-Bool) ∙ fold-roll-Ty Bool Bool Bool Bool fits_arg (fits_step sc.facts sc.params) fits_bound
    fits_trait Ty-F.Bool

pub ty_fits_char : (sc : Scope) → ty_fits sc ty.Char ≡ true
ty_fits_char sc = ap (ty_fits sc) (sym ty.rolls-Char) ∙ fold-roll-Ty Bool Bool Bool Bool fits_arg (fits_step sc.facts sc.params) fits_bound
    fits_trait Ty-F.Char

pub ty_fits_int : (sc : Scope) (i : IntTy) → ty_fits sc (ty.Int i) ≡ true
ty_fits_int sc i = ap (ty_fits sc) (sym (ty.rolls-Int i)) ∙ fold-roll-Ty Bool Bool Bool Bool fits_arg (fits_step sc.facts sc.params)
    fits_bound fits_trait (Ty-F.Int i)

pub ty_fits_uint : (sc : Scope) (i : UintTy) → ty_fits sc (ty.Uint i) ≡ true
ty_fits_uint sc i = ap (ty_fits sc) (sym (ty.rolls-Uint i)) ∙ fold-roll-Ty Bool Bool Bool Bool fits_arg (fits_step sc.facts sc.params)
    fits_bound fits_trait (Ty-F.Uint i)

pub ty_fits_float : (sc : Scope) (f : FloatTy) → ty_fits sc (ty.Float f) ≡ true
ty_fits_float sc f = ap (ty_fits sc) (sym (ty.rolls-Float f)) ∙ fold-roll-Ty Bool Bool Bool Bool fits_arg (fits_step sc.facts sc.params)
    fits_bound fits_trait (Ty-F.Float f)

pub ty_fits_str : (sc : Scope) → ty_fits sc ty.Str ≡ true
ty_fits_str sc = ap (ty_fits sc) (sym ty.rolls-Str) ∙ fold-roll-Ty Bool Bool Bool Bool fits_arg (fits_step sc.facts sc.params) fits_bound
    fits_trait Ty-F.Str

pub ty_fits_never : (sc : Scope) → ty_fits sc ty.Never ≡ true
ty_fits_never sc = ap (ty_fits sc) (sym ty.rolls-Never) ∙ fold-roll-Ty Bool Bool Bool Bool fits_arg (fits_step sc.facts sc.params)
    fits_bound fits_trait Ty-F.Never

pub ty_fits_tuple : (sc : Scope) (ts : List Ty) → ty_fits sc (ty.Tuple ts) ≡ list_all (ty_fits sc) ts
ty_fits_tuple sc ts = ap (ty_fits sc) (sym (ty.rolls-Tuple ts)) ∙
    (fold-roll-Ty Bool Bool Bool Bool fits_arg (fits_step sc.facts sc.params) fits_bound fits_trait (Ty-F.Tuple ts) ∙ list_all_map
    (ty_fits sc) ts)

pub ty_fits_array : (sc : Scope) (t : Ty) (c : Const) → ty_fits sc (ty.Array t c) ≡ (ty_fits sc t && const_fits c)
ty_fits_array sc t c = ap (ty_fits sc) (sym (ty.rolls-Array t c)) ∙ fold-roll-Ty Bool Bool Bool Bool fits_arg
    (fits_step sc.facts sc.params) fits_bound fits_trait (Ty-F.Array t c)

pub ty_fits_slice : (sc : Scope) (t : Ty) → ty_fits sc (ty.Slice t) ≡ ty_fits sc t
ty_fits_slice sc t = ap (ty_fits sc) (sym (ty.rolls-Slice t)) ∙ fold-roll-Ty Bool Bool Bool Bool fits_arg (fits_step sc.facts sc.params)
    fits_bound fits_trait (Ty-F.Slice t)

pub ty_fits_ref : (sc : Scope) (m : Mutability) (r : Region) (t : Ty) → ty_fits sc (ty.Ref m r t) ≡ ty_fits sc t
ty_fits_ref sc m r t = ap (ty_fits sc) (sym (ty.rolls-Ref m r t)) ∙ fold-roll-Ty Bool Bool Bool Bool fits_arg
    (fits_step sc.facts sc.params) fits_bound fits_trait (Ty-F.Ref m r t)

pub ty_fits_rawptr : (sc : Scope) (m : Mutability) (t : Ty) → ty_fits sc (ty.RawPtr m t) ≡ ty_fits sc t
ty_fits_rawptr sc m t = ap (ty_fits sc) (sym (ty.rolls-RawPtr m t)) ∙ fold-roll-Ty Bool Bool Bool Bool fits_arg
    (fits_step sc.facts sc.params) fits_bound fits_trait (Ty-F.RawPtr m t)

pub ty_fits_adt : (sc : Scope) (i : AdtId) (xs : List GenericArg)
    → ty_fits sc (ty.Adt i xs) ≡ (has_params (adt_params sc.facts i) (length xs) && list_all (arg_fits sc) xs)
ty_fits_adt sc i xs = ap (ty_fits sc) (sym (ty.rolls-Adt i xs)) ∙
    (fold-roll-Ty Bool Bool Bool Bool fits_arg (fits_step sc.facts sc.params) fits_bound fits_trait (Ty-F.Adt i xs) ∙ args_map sc
    (adt_params sc.facts i) xs)

pub ty_fits_fndef : (sc : Scope) (i : CallableDefId) (xs : List GenericArg)
    → ty_fits sc (ty.FnDef i xs) ≡ (has_params (callable_params sc.facts i) (length xs) && list_all (arg_fits sc) xs)
ty_fits_fndef sc i xs = ap (ty_fits sc) (sym (ty.rolls-FnDef i xs)) ∙
    (fold-roll-Ty Bool Bool Bool Bool fits_arg (fits_step sc.facts sc.params) fits_bound fits_trait (Ty-F.FnDef i xs) ∙ args_map sc
    (callable_params sc.facts i) xs)

pub ty_fits_fnptr : (sc : Scope) (s : Safety) (ts : List Ty) (t : Ty)
    → ty_fits sc (ty.FnPtr s ts t) ≡ (list_all (ty_fits sc) ts && ty_fits sc t)
ty_fits_fnptr sc s ts t = ap (ty_fits sc) (sym (ty.rolls-FnPtr s ts t)) ∙
    (fold-roll-Ty Bool Bool Bool Bool fits_arg (fits_step sc.facts sc.params) fits_bound fits_trait (Ty-F.FnPtr s ts t) ∙ ap
    (λ (b : Bool). b && ty_fits sc t) (list_all_map (ty_fits sc) ts))

pub ty_fits_closure : (sc : Scope) (i : ClosureId) (ts : List Ty) (t : Ty)
    → ty_fits sc (ty.Closure i ts t) ≡ (list_all (ty_fits sc) ts && ty_fits sc t)
ty_fits_closure sc i ts t = ap (ty_fits sc) (sym (ty.rolls-Closure i ts t)) ∙
    (fold-roll-Ty Bool Bool Bool Bool fits_arg (fits_step sc.facts sc.params) fits_bound fits_trait (Ty-F.Closure i ts t) ∙ ap
    (λ (b : Bool). b && ty_fits sc t) (list_all_map (ty_fits sc) ts))

pub fits_inputs : (sc : Scope) (t : Ty) (ts : List Ty) (u : Ty) → ((s : Safety) × (t ≡ ty.FnPtr s ts u))
    ⊎ ((i : ClosureId) × (t ≡ ty.Closure i ts u)) → ty_fits sc t ≡ (list_all (ty_fits sc) ts && ty_fits sc u)
fits_inputs sc t ts u (inl p) = ap (ty_fits sc) p.1 ∙ ty_fits_fnptr sc p.0 ts u
fits_inputs sc t ts u (inr c) = ap (ty_fits sc) c.1 ∙ ty_fits_closure sc c.0 ts u

pub ty_fits_param : (sc : Scope) (n : ℕ) → ty_fits sc (ty.Param n) ≡ nat_lt n sc.params
ty_fits_param sc n = ap (ty_fits sc) (sym (ty.rolls-Param n)) ∙ fold-roll-Ty Bool Bool Bool Bool fits_arg (fits_step sc.facts sc.params)
    fits_bound fits_trait (Ty-F.Param n)

pub ty_fits_projection : (sc : Scope) (i : TypeAliasId) (xs : List GenericArg)
    → ty_fits sc (ty.Projection i xs)
    ≡ (has_params (alias_params_by sc.facts (slice_get sc.facts.aliases i.0)) (length xs) && list_all (arg_fits sc) xs)
ty_fits_projection sc i xs =
    ap (ty_fits sc) (sym (ty.rolls-Projection i xs))
    ∙ (fold-roll-Ty Bool Bool Bool Bool fits_arg (fits_step sc.facts sc.params) fits_bound fits_trait (Ty-F.Projection i xs) ∙ args_map sc
    (alias_params_by sc.facts (slice_get sc.facts.aliases i.0)) xs)

pub ty_fits_associated : (sc : Scope) (i : TypeAliasId) (xs : List GenericArg)
    → ty_fits sc (ty.AssociatedType i xs)
    ≡ (has_params (alias_params_by sc.facts (slice_get sc.facts.aliases i.0)) (length xs) && list_all (arg_fits sc) xs)
ty_fits_associated sc i xs =
    ap (ty_fits sc) (sym (ty.rolls-AssociatedType i xs))
    ∙ (fold-roll-Ty Bool Bool Bool Bool fits_arg (fits_step sc.facts sc.params) fits_bound fits_trait (Ty-F.AssociatedType i xs) ∙ args_map
    sc (alias_params_by sc.facts (slice_get sc.facts.aliases i.0)) xs)

pub fits_alias : (sc : Scope) (t : Ty) (i : TypeAliasId) (xs : List GenericArg) → (t ≡ ty.Projection i xs) ⊎ (t ≡ ty.AssociatedType i xs)
    → ty_fits sc t ≡ (has_params (alias_params_by sc.facts (slice_get sc.facts.aliases i.0)) (length xs) && list_all (arg_fits sc) xs)
fits_alias sc t i xs (inl p) = ap (ty_fits sc) p ∙ ty_fits_projection sc i xs
fits_alias sc t i xs (inr a) = ap (ty_fits sc) a ∙ ty_fits_associated sc i xs

pub ty_fits_opaque : (sc : Scope) (i : OpaqueId) (xs : List GenericArg) → ty_fits sc (ty.Opaque i xs) ≡ false
ty_fits_opaque sc i xs = ap (ty_fits sc) (sym (ty.rolls-Opaque i xs)) ∙ fold-roll-Ty Bool Bool Bool Bool fits_arg
    (fits_step sc.facts sc.params) fits_bound fits_trait (Ty-F.Opaque i xs)

pub ty_fits_error : (sc : Scope) → ty_fits sc ty.Error ≡ true
ty_fits_error sc = ap (ty_fits sc) (sym ty.rolls-Error) ∙ fold-roll-Ty Bool Bool Bool Bool fits_arg (fits_step sc.facts sc.params)
    fits_bound fits_trait Ty-F.Error

pub ty_fits_var : (sc : Scope) (n : ℕ) → ty_fits sc (ty.Var n) ≡ true
ty_fits_var sc n = ap (ty_fits sc) (sym (ty.rolls-Var n)) ∙ fold-roll-Ty Bool Bool Bool Bool fits_arg (fits_step sc.facts sc.params)
    fits_bound fits_trait (Ty-F.Var n)

pub ty_fits_intvar : (sc : Scope) (n : ℕ) → ty_fits sc (ty.IntVar n) ≡ true
ty_fits_intvar sc n = ap (ty_fits sc) (sym (ty.rolls-IntVar n)) ∙ fold-roll-Ty Bool Bool Bool Bool fits_arg (fits_step sc.facts sc.params)
    fits_bound fits_trait (Ty-F.IntVar n)

pub ty_fits_hole : (sc : Scope) → ty_fits sc ty.Hole ≡ true
ty_fits_hole sc = ap (ty_fits sc) (sym ty.rolls-Hole) ∙ fold-roll-Ty Bool Bool Bool Bool fits_arg (fits_step sc.facts sc.params) fits_bound
    fits_trait Ty-F.Hole

pub ty_fits_dynamic : (sc : Scope) (o : Option TraitRef) (bs : List AliasBound) (ts : List TraitId)
    → ty_fits sc (ty.Dynamic o bs ts) ≡ names_none o bs ts
ty_fits_dynamic sc None [] [] =
    ap (ty_fits sc) (sym (ty.rolls-Dynamic None [] [])) ∙ fold-roll-Ty Bool Bool Bool Bool fits_arg (fits_step sc.facts sc.params)
    fits_bound fits_trait (Ty-F.Dynamic None [] [])
ty_fits_dynamic sc None [] (t ∷ ts) =
    ap (ty_fits sc) (sym (ty.rolls-Dynamic None [] (t ∷ ts))) ∙ fold-roll-Ty Bool Bool Bool Bool fits_arg (fits_step sc.facts sc.params)
    fits_bound fits_trait (Ty-F.Dynamic None [] (t ∷ ts))
ty_fits_dynamic sc None (b ∷ bs) ts =
    ap (ty_fits sc) (sym (ty.rolls-Dynamic None (b ∷ bs) ts)) ∙ fold-roll-Ty Bool Bool Bool Bool fits_arg (fits_step sc.facts sc.params)
    fits_bound fits_trait (Ty-F.Dynamic None (b ∷ bs) ts)
ty_fits_dynamic sc (Some t) bs ts =
    ap (ty_fits sc) (sym (ty.rolls-Dynamic (Some t) bs ts)) ∙ fold-roll-Ty Bool Bool Bool Bool fits_arg (fits_step sc.facts sc.params)
    fits_bound fits_trait (Ty-F.Dynamic (Some t) bs ts)

pub arg_fits_ty : (sc : Scope) (t : Ty) → arg_fits sc (arg.Ty t) ≡ ty_fits sc t
arg_fits_ty sc t = ap (arg_fits sc) (sym (arg.rolls-Ty t)) ∙ fold-roll-GenericArg Bool Bool Bool Bool fits_arg
    (fits_step sc.facts sc.params) fits_bound fits_trait (GenericArg-F.Ty t)

pub arg_fits_const : (sc : Scope) (c : Const) → arg_fits sc (arg.Const c) ≡ false
arg_fits_const sc c = ap (arg_fits sc) (sym (arg.rolls-Const c)) ∙ fold-roll-GenericArg Bool Bool Bool Bool fits_arg
    (fits_step sc.facts sc.params) fits_bound fits_trait (GenericArg-F.Const c)

pub ruleset ty_fits_is = (
  ty_fits_bool,
  ty_fits_char,
  ty_fits_int,
  ty_fits_uint,
  ty_fits_float,
  ty_fits_str,
  ty_fits_never,
  ty_fits_tuple,
  ty_fits_array,
  ty_fits_slice,
  ty_fits_ref,
  ty_fits_rawptr,
  ty_fits_adt,
  ty_fits_fndef,
  ty_fits_fnptr,
  ty_fits_closure,
  ty_fits_param,
  ty_fits_projection,
  ty_fits_opaque,
  ty_fits_error,
  ty_fits_var,
  ty_fits_intvar,
  ty_fits_hole,
  ty_fits_dynamic,
  arg_fits_ty,
  arg_fits_const,
)
