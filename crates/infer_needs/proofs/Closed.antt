-- Types without holes that fit have terms without holes.
use Rattle.std.specs.Prelude.{◌≡◌, ℕ, zero, suc, Bool, true, false, ◌&&◌, ◌||◌, List, [], ◌∷◌, ◌++◌, map, slice_get, Some, None, refl}
use Rattle.std.specs.List.{list_all, list_any}
use Rattle.std.proofs.Common.{sym, ap, ◌∙◌, subst, true≢false}
use Rattle.infer_needs.specs.Words.{AliasBound, Const, GenericArg, GenericArg-F, map-GenericArg, roll-GenericArg, out-GenericArg, roll-out-GenericArg, TraitRef, Ty, Ty-F, map-Ty, ind-Ty, roll-Ty, out-Ty, roll-out-Ty, arg_as_type, IsClosed, hole_const, hole_arg, hole_step, hole_bound, hole_trait, Steps, folds, folds_follow, in_arg, in_ty, Term, chain, const_term, type_part, arg_step, ty_step, term, arg_term, terms, term_at, arg_term_at, term_error, Scope, fits_arg, fits_bound, fits_trait, fits_step, ty_fits, IsWritten, item_args}
use Rattle.hir_types.specs.declared.ty.Const.TheVariants as const
use Rattle.hir_types.specs.Assigned.{type_of}

-- ---- tests

pub both : (a b : Bool) → (a && b) ≡ true → (a ≡ true) × (b ≡ true)
both true b h = (refl, h)
both false b h = absurd (true≢false (sym h))

neither : (a b : Bool) → (a || b) ≡ false → (a ≡ false) × (b ≡ false)
neither false b h = (refl, h)
neither true b h = absurd (true≢false h)

-- ---- terms

const_closed : (c : Const) → hole_const c ≡ false → IsWritten (const_term c)
const_closed (const.Value n) h = (tt, tt)
const_closed (const.Param n) h = (tt, tt)
const_closed const.Unknown h = (tt, tt)
const_closed (const.Var n) h = absurd (true≢false h)
const_closed const.Hole h = absurd (true≢false h)

chain_last : (us : List Term) (u : Term) → IsWritten (chain us) → IsWritten u → IsWritten (chain (us ++ u ∷ []))
chain_last [] u h k = (k, tt)
chain_last (x ∷ us) u h k = (h.0, chain_last us u h.1 k)

-- ---- types

abbrev pub hole_steps : Steps Bool Bool Bool Bool
hole_steps = record { arg = hole_arg; ty = hole_step; bound = hole_bound; trait = hole_trait }

abbrev pub fit_steps : Scope → Steps Bool Bool Bool Bool
fit_steps sc = record { arg = fits_arg; ty = fits_step sc.facts sc.params; bound = fits_bound; trait = fits_trait }

module _ (sc : Scope) where
  abbrev ArgIsClosed : GenericArg → Type 0
  ArgIsClosed x = (folds hole_steps).arg x ≡ false → (folds (fit_steps sc)).arg x ≡ true → IsWritten (arg_term x)

  abbrev TyIsClosed : Ty → Type 0
  TyIsClosed t = (folds hole_steps).ty t ≡ false → (folds (fit_steps sc)).ty t ≡ true → IsWritten (term t)

  abbrev ClosedArg : Type 0
  ClosedArg = (x : GenericArg) × ArgIsClosed x

  abbrev ClosedTy : Type 0
  ClosedTy = (t : Ty) × TyIsClosed t

  abbrev AnyBound : Type 0
  AnyBound = AliasBound × Unit {0}

  abbrev AnyTrait : Type 0
  AnyTrait = TraitRef × Unit {0}

  abbrev layer_of : Ty-F ClosedArg ClosedTy AnyBound AnyTrait → Ty-F GenericArg Ty AliasBound TraitRef
  layer_of = map-Ty ClosedArg ClosedTy AnyBound AnyTrait GenericArg Ty AliasBound TraitRef (λ e. e.0) (λ e. e.0) (λ e. e.0) (λ e. e.0)

  abbrev arg_layer_of : GenericArg-F ClosedArg ClosedTy AnyBound AnyTrait → GenericArg-F GenericArg Ty AliasBound TraitRef
  arg_layer_of = map-GenericArg ClosedArg ClosedTy AnyBound AnyTrait GenericArg Ty AliasBound TraitRef (λ e. e.0) (λ e. e.0) (λ e. e.0) (λ e. e.0)

  types_closed : (ts : List ClosedTy) → list_any (λ b. b) (map (folds hole_steps).ty (map (λ e. e.0) ts)) ≡ false → list_all (λ b. b) (map (folds (fit_steps sc)).ty (map (λ e. e.0) ts)) ≡ true
      → IsWritten (chain (map type_part (map term (map (λ e. e.0) ts))))
  types_closed [] h k = tt
  types_closed (t ∷ ts) h k =
      let a = neither _ _ h in
      let b = both _ _ k in
      ((tt, t.1 a.0 b.0), types_closed ts a.1 b.1)

  args_closed : (xs : List ClosedArg) → list_any (λ b. b) (map (folds hole_steps).arg (map (λ e. e.0) xs)) ≡ false → list_all (λ b. b) (map (folds (fit_steps sc)).arg (map (λ e. e.0) xs)) ≡ true
      → IsWritten (chain (map arg_term (map (λ e. e.0) xs)))
  args_closed [] h k = tt
  args_closed (x ∷ xs) h k =
      let a = neither _ _ h in
      let b = both _ _ k in
      (x.1 a.0 b.0, args_closed xs a.1 b.1)

  layer_closed : (y : Ty-F ClosedArg ClosedTy AnyBound AnyTrait) → hole_step (in_ty (folds hole_steps) (layer_of y)) ≡ false → fits_step sc.facts sc.params (in_ty (folds (fit_steps sc)) (layer_of y)) ≡ true
      → IsWritten (ty_step (in_ty terms (layer_of y)))
  layer_closed Ty-F.Bool h k = (tt, tt)
  layer_closed Ty-F.Char h k = (tt, tt)
  layer_closed (Ty-F.Int i) h k = (tt, tt)
  layer_closed (Ty-F.Uint i) h k = (tt, tt)
  layer_closed (Ty-F.Float i) h k = (tt, tt)
  layer_closed Ty-F.Str h k = (tt, tt)
  layer_closed Ty-F.Never h k = (tt, tt)
  layer_closed (Ty-F.Tuple ts) h k = (tt, types_closed ts h k)
  layer_closed (Ty-F.Array t c) h k =
      let a = neither _ _ h in
      let b = both _ _ k in
      (tt, ((tt, t.1 a.0 b.0), ((tt, const_closed c a.1), tt)))
  layer_closed (Ty-F.Slice t) h k = (tt, ((tt, t.1 h k), tt))
  layer_closed (Ty-F.Ref m r t) h k = (tt, ((tt, t.1 h k), tt))
  layer_closed (Ty-F.RawPtr m t) h k = (tt, ((tt, t.1 h k), tt))
  layer_closed (Ty-F.Adt i xs) h k = (tt, args_closed xs h (both _ _ k).1)
  layer_closed (Ty-F.FnDef i xs) h k = (tt, args_closed xs h (both _ _ k).1)
  layer_closed (Ty-F.FnPtr s ts t) h k =
      let a = neither _ _ h in
      let b = both _ _ k in
      (tt, chain_last _ _ (types_closed ts a.0 b.0) (tt, t.1 a.1 b.1))
  layer_closed (Ty-F.Closure i ts t) h k =
      let a = neither _ _ h in
      let b = both _ _ k in
      (tt, chain_last _ _ (types_closed ts a.0 b.0) (tt, t.1 a.1 b.1))
  layer_closed (Ty-F.Dynamic None [] []) h k = (tt, (tt, tt))
  layer_closed (Ty-F.Dynamic None [] (i ∷ is)) h k = absurd (true≢false (sym k))
  layer_closed (Ty-F.Dynamic None (b ∷ bs) is) h k = absurd (true≢false (sym k))
  layer_closed (Ty-F.Dynamic (Some r) bs is) h k = absurd (true≢false (sym k))
  layer_closed (Ty-F.Param n) h k = (tt, tt)
  layer_closed (Ty-F.Projection i xs) h k = (tt, args_closed xs h (both _ _ k).1)
  layer_closed (Ty-F.AssociatedType i xs) h k = (tt, args_closed xs h (both _ _ k).1)
  layer_closed (Ty-F.Opaque i xs) h k = absurd (true≢false (sym k))
  layer_closed Ty-F.Error h k = (tt, tt)
  layer_closed (Ty-F.Var n) h k = absurd (true≢false h)
  layer_closed (Ty-F.IntVar n) h k = absurd (true≢false h)
  layer_closed Ty-F.Hole h k = absurd (true≢false h)

  arg_layer_closed : (y : GenericArg-F ClosedArg ClosedTy AnyBound AnyTrait) → hole_arg (in_arg (folds hole_steps) (arg_layer_of y)) ≡ false → fits_arg (in_arg (folds (fit_steps sc)) (arg_layer_of y)) ≡ true
      → IsWritten (arg_step (in_arg terms (arg_layer_of y)))
  arg_layer_closed (GenericArg-F.Ty t) h k = (tt, t.1 h k)
  arg_layer_closed (GenericArg-F.Const c) h k = absurd (true≢false (sym k))

  step_closed : (x : Ty-F GenericArg Ty AliasBound TraitRef) (y : Ty-F ClosedArg ClosedTy AnyBound AnyTrait) → layer_of y ≡ x → TyIsClosed (roll-Ty x)
  step_closed x y is h k =
      let at = subst (λ z. hole_step (in_ty (folds hole_steps) z) ≡ false → fits_step sc.facts sc.params (in_ty (folds (fit_steps sc)) z) ≡ true → IsWritten (ty_step (in_ty terms z))) is (layer_closed y) in
      subst IsWritten (sym (term_at x)) (at (sym ((folds_follow hole_steps).ty x) ∙ h) (sym ((folds_follow (fit_steps sc)).ty x) ∙ k))

  arg_step_closed : (x : GenericArg-F GenericArg Ty AliasBound TraitRef) (y : GenericArg-F ClosedArg ClosedTy AnyBound AnyTrait) → arg_layer_of y ≡ x → ArgIsClosed (roll-GenericArg x)
  arg_step_closed x y is h k =
      let at = subst (λ z. hole_arg (in_arg (folds hole_steps) z) ≡ false → fits_arg (in_arg (folds (fit_steps sc)) z) ≡ true → IsWritten (arg_step (in_arg terms z))) is (arg_layer_closed y) in
      subst IsWritten (sym (arg_term_at x)) (at (sym ((folds_follow hole_steps).arg x) ∙ h) (sym ((folds_follow (fit_steps sc)).arg x) ∙ k))

  -- a type without holes that fits
  pub type_closed : (t : Ty) → IsClosed t → ty_fits sc t ≡ true → IsWritten (term t)
  type_closed = ind-Ty ArgIsClosed TyIsClosed (λ _. Unit {0}) (λ _. Unit {0}) arg_step_closed step_closed (λ x y is. tt) (λ x y is. tt)

-- ---- arguments

-- what stands for each parameter
abbrev pub AreClosed : List GenericArg → Type 0
AreClosed xs = (m : ℕ) → IsWritten (term (type_of (slice_get xs m)))

error_closed : IsWritten (term (type_of None))
error_closed = subst IsWritten (sym term_error) (tt, tt)

arg_layer : (y : GenericArg-F GenericArg Ty AliasBound TraitRef) → IsWritten (arg_step (in_arg terms y)) → IsWritten (term (arg_as_type y))
arg_layer (GenericArg-F.Ty t) h = h.1
arg_layer (GenericArg-F.Const c) h = error_closed

arg_closed : (x : GenericArg) → IsWritten (arg_term x) → IsWritten (term (type_of (Some x)))
arg_closed x h =
    let y = out-GenericArg x in
    let is : arg_term x ≡ arg_step (in_arg terms y) = ap arg_term (sym (roll-out-GenericArg x)) ∙ arg_term_at y in
    arg_layer y (subst IsWritten is h)

list_closed : (xs : List GenericArg) → IsWritten (chain (map arg_term xs)) → AreClosed xs
list_closed [] h m = error_closed
list_closed (x ∷ xs) h zero = arg_closed x h.0
list_closed (x ∷ xs) h (suc m) = list_closed xs h.1 m

item_layer : (y : Ty-F GenericArg Ty AliasBound TraitRef) → IsWritten (ty_step (in_ty terms y)) → AreClosed (item_args y)
item_layer (Ty-F.Adt i xs) h = list_closed xs h.1
item_layer (Ty-F.FnDef i xs) h = list_closed xs h.1
item_layer _ h = λ m. error_closed

-- those of the item of which a type without holes is
pub item_closed : (t : Ty) → IsWritten (term t) → AreClosed (item_args (out-Ty t))
item_closed t h =
    let y = out-Ty t in
    let is : term t ≡ ty_step (in_ty terms y) = ap term (sym (roll-out-Ty t)) ∙ term_at y in
    item_layer y (subst IsWritten is h)
