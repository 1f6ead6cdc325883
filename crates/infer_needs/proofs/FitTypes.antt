-- Types whose terms fit, and are without holes: they fit, and are closed.
use Rattle.std.specs.Prelude.{◌≡◌, zero, suc, Bool, true, false, ◌||◌, List, [], ◌∷◌, ◌++◌, map, Some, None, refl}
use Rattle.std.specs.List.{list_any}
use Rattle.std.proofs.Common.{sym, ap, ◌∙◌, subst, true≢false}
use Rattle.infer_needs.specs.Words.{TypeAliasId, Goal, AliasBound, Const, GenericArg, GenericArg-F, map-GenericArg, roll-GenericArg, out-GenericArg, roll-out-GenericArg, TraitRef, out-TraitRef, Ty, Ty-F, map-Ty, ind-Ty, roll-Ty, IsClosed, hole_const, hole_arg, hole_step, folds, folds_follow, in_arg, in_ty, Term, leaf, pair, chain, const_term, type_part, arg_step, ty_step, term, arg_term, terms, term_at, arg_term_at, term_projection, Scope, asked_goal, IsWritten}
use Rattle.hir_types.specs.declared.goal.Goal.TheVariants as goal
use Rattle.hir_types.specs.declared.head.Head.TheVariants as head
use Rattle.hir_types.specs.declared.ty.Const.TheVariants as const
use Rattle.hir_types.specs.declared.ty.GenericArg.TheVariants as arg
use Rattle.hir_types.specs.declared.ty.Ty.TheVariants as ty
use Rattle.infer_needs.proofs.Words.{no_bound, no_principal}
use Rattle.infer_needs.specs.Own.{IsFitType, AreFitArgs, IsFitGoal, is_type, are_types, Fits, AskedFits}
use Rattle.infer_needs.proofs.Closed.{both, hole_steps}
use Rattle.infer_needs.proofs.FitTerms.{type_same}
use Rattle.infer_needs.proofs.ReadsFit.{split}

-- ---- closed types

neither : (a b : Bool) → a ≡ false → b ≡ false → (a || b) ≡ false
neither a b h k = ap (λ x. x || b) h ∙ k

const_closed : (c : Const) → IsWritten (const_term c) → hole_const c ≡ false
const_closed (const.Value n) w = refl
const_closed (const.Param n) w = refl
const_closed const.Unknown w = refl
const_closed (const.Var n) w = absurd w
const_closed const.Hole w = absurd w.0

abbrev ArgIsClosed : GenericArg → Type 0
ArgIsClosed x = IsWritten (arg_term x) → (folds hole_steps).arg x ≡ false

abbrev TyIsClosed : Ty → Type 0
TyIsClosed t = IsWritten (term t) → (folds hole_steps).ty t ≡ false

abbrev ClosedArg : Type 0
ClosedArg = (x : GenericArg) × ArgIsClosed x

abbrev ClosedTy : Type 0
ClosedTy = (t : Ty) × TyIsClosed t

abbrev AnyBound : Type 0
AnyBound = AliasBound × Unit {0}

abbrev AnyTrait : Type 0
AnyTrait = TraitRef × Unit {0}

abbrev layer_of : Ty-F ClosedArg ClosedTy AnyBound AnyTrait → Ty-F GenericArg Ty AliasBound TraitRef
layer_of = map-Ty ClosedArg ClosedTy AnyBound AnyTrait GenericArg Ty AliasBound TraitRef (λ e. e.0) (λ e. e.0) (λ e. e.0) (λ e. e.0)

abbrev arg_layer_of : GenericArg-F ClosedArg ClosedTy AnyBound AnyTrait → GenericArg-F GenericArg Ty AliasBound TraitRef
arg_layer_of = map-GenericArg ClosedArg ClosedTy AnyBound AnyTrait GenericArg Ty AliasBound TraitRef (λ e. e.0) (λ e. e.0) (λ e. e.0) (λ e. e.0)

abbrev holes_of : List ClosedTy → List Bool
holes_of ts = map (folds hole_steps).ty (map (λ e. e.0) ts)

types_closed : (ts : List ClosedTy) → IsWritten (chain (map type_part (map term (map (λ e. e.0) ts)))) → list_any (λ b. b) (holes_of ts) ≡ false
types_closed [] w = refl
types_closed (t ∷ ts) w = neither ((folds hole_steps).ty t.0) (list_any (λ b. b) (holes_of ts)) (t.1 w.0.1) (types_closed ts w.1)

types_then : (ts : List ClosedTy) (t : ClosedTy) → IsWritten (chain (map type_part (map term (map (λ e. e.0) ts)) ++ type_part (term t.0) ∷ [])) → (list_any (λ b. b) (holes_of ts) || (folds hole_steps).ty t.0) ≡ false
types_then [] t w = t.1 w.0.1
types_then (u ∷ us) t w =
    let all = types_then us t w.1 in
    ap (λ b. ((b || list_any (λ z. z) (holes_of us)) || (folds hole_steps).ty t.0)) (u.1 w.0.1) ∙ all

args_closed : (xs : List ClosedArg) → IsWritten (chain (map arg_term (map (λ e. e.0) xs))) → list_any (λ b. b) (map (folds hole_steps).arg (map (λ e. e.0) xs)) ≡ false
args_closed [] w = refl
args_closed (x ∷ xs) w = neither ((folds hole_steps).arg x.0) (list_any (λ b. b) (map (folds hole_steps).arg (map (λ e. e.0) xs))) (x.1 w.0) (args_closed xs w.1)

layer_closed : (y : Ty-F ClosedArg ClosedTy AnyBound AnyTrait) → IsWritten (ty_step (in_ty terms (layer_of y))) → hole_step (in_ty (folds hole_steps) (layer_of y)) ≡ false
layer_closed Ty-F.Bool w = refl
layer_closed Ty-F.Char w = refl
layer_closed (Ty-F.Int i) w = refl
layer_closed (Ty-F.Uint i) w = refl
layer_closed (Ty-F.Float i) w = refl
layer_closed Ty-F.Str w = refl
layer_closed Ty-F.Never w = refl
layer_closed (Ty-F.Tuple ts) w = types_closed ts w.1
layer_closed (Ty-F.Array t c) w = neither ((folds hole_steps).ty t.0) (hole_const c) (t.1 w.1.0.1) (const_closed c w.1.1.0.1)
layer_closed (Ty-F.Slice t) w = t.1 w.1.0.1
layer_closed (Ty-F.Ref m l t) w = t.1 w.1.0.1
layer_closed (Ty-F.RawPtr m t) w = t.1 w.1.0.1
layer_closed (Ty-F.Adt i xs) w = args_closed xs w.1
layer_closed (Ty-F.FnDef i xs) w = args_closed xs w.1
layer_closed (Ty-F.FnPtr s ts t) w = types_then ts t w.1
layer_closed (Ty-F.Closure i ts t) w = types_then ts t w.1
layer_closed (Ty-F.Dynamic None [] is) w = refl
layer_closed (Ty-F.Dynamic None (b ∷ bs) is) w = absurd (no_bound b.0 (map (λ e. e.0) bs) is w.1.1)
layer_closed (Ty-F.Dynamic (Some t) bs is) w = absurd (no_principal t.0 (map (λ e. e.0) bs) is w.1)
layer_closed (Ty-F.Param n) w = refl
layer_closed (Ty-F.Projection i xs) w = args_closed xs w.1
layer_closed (Ty-F.AssociatedType i xs) w = args_closed xs w.1
layer_closed (Ty-F.Opaque i xs) w = args_closed xs w.1
layer_closed Ty-F.Error w = refl
layer_closed (Ty-F.Var n) w = absurd w
layer_closed (Ty-F.IntVar n) w = absurd w
layer_closed Ty-F.Hole w = absurd w.0

arg_layer_closed : (y : GenericArg-F ClosedArg ClosedTy AnyBound AnyTrait) → IsWritten (arg_step (in_arg terms (arg_layer_of y))) → hole_arg (in_arg (folds hole_steps) (arg_layer_of y)) ≡ false
arg_layer_closed (GenericArg-F.Ty t) w = t.1 w.1
arg_layer_closed (GenericArg-F.Const c) w = const_closed c w.1

step_closed : (x : Ty-F GenericArg Ty AliasBound TraitRef) (y : Ty-F ClosedArg ClosedTy AnyBound AnyTrait) → layer_of y ≡ x → TyIsClosed (roll-Ty x)
step_closed x y is w =
    let at = subst (λ z. IsWritten (ty_step (in_ty terms z)) → hole_step (in_ty (folds hole_steps) z) ≡ false) is (layer_closed y) in
    (folds_follow hole_steps).ty x ∙ at (subst IsWritten (term_at x) w)

arg_step_closed : (x : GenericArg-F GenericArg Ty AliasBound TraitRef) (y : GenericArg-F ClosedArg ClosedTy AnyBound AnyTrait) → arg_layer_of y ≡ x → ArgIsClosed (roll-GenericArg x)
arg_step_closed x y is w =
    let at = subst (λ z. IsWritten (arg_step (in_arg terms z)) → hole_arg (in_arg (folds hole_steps) z) ≡ false) is (arg_layer_closed y) in
    (folds_follow hole_steps).arg x ∙ at (subst IsWritten (arg_term_at x) w)

pub written_closed : (t : Ty) → IsWritten (term t) → IsClosed t
written_closed = ind-Ty ArgIsClosed TyIsClosed (λ _. Unit {0}) (λ _. Unit {0}) arg_step_closed step_closed (λ x y is. tt) (λ x y is. tt)

-- ---- types that fit

module _ (sc : Scope) where
  abbrev Right : Term → Type 0
  Right t = Fits sc.facts sc.params t

  pub fit_type : (t : Ty) → Right (term t) → IsWritten (term t) → IsFitType sc t
  fit_type t h w = record { fits = type_same sc t ∙ h; closed = written_closed t w }

  abbrev IsFitArg : GenericArg → Type 0
  IsFitArg x = (t : Ty) × (x ≡ arg.Ty t) × IsFitType sc t

  arg_layer : (y : GenericArg-F GenericArg Ty AliasBound TraitRef) → is_type (arg_step (in_arg terms y)) ≡ true → Right (arg_step (in_arg terms y)) → IsWritten (arg_step (in_arg terms y)) → IsFitArg (roll-GenericArg y)
  arg_layer (GenericArg-F.Ty t) is h w = (t, arg.rolls-Ty t, fit_type t h w.1)
  arg_layer (GenericArg-F.Const c) is h w = absurd (true≢false (sym is))

  fit_arg : (x : GenericArg) → is_type (arg_term x) ≡ true → Right (arg_term x) → IsWritten (arg_term x) → IsFitArg x
  fit_arg x is h w =
      let y = out-GenericArg x in
      let at : arg_term x ≡ arg_step (in_arg terms y) = ap arg_term (sym (roll-out-GenericArg x)) ∙ arg_term_at y in
      subst IsFitArg (roll-out-GenericArg x) (arg_layer y (subst (λ u. is_type u ≡ true) at is) (subst Right at h) (subst IsWritten at w))

  fit_args : (xs : List GenericArg) → are_types (chain (map arg_term xs)) ≡ true → Right (chain (map arg_term xs)) → IsWritten (chain (map arg_term xs)) → AreFitArgs sc xs
  fit_args [] is h w k x at = absurd (cc)
  fit_args (y ∷ xs) is h w zero x at =
      let same : y ≡ x = cc in
      let rest = chain (map arg_term xs) in
      subst IsFitArg same (fit_arg y (both (is_type (arg_term y)) (are_types rest) is).0 (split sc.facts sc.params (arg_term y) rest h).first w.0)
  fit_args (y ∷ xs) is h w (suc k) x at =
      let rest = chain (map arg_term xs) in
      fit_args xs (both (is_type (arg_term y)) (are_types rest) is).1 (split sc.facts sc.params (arg_term y) rest h).rest w.1 k x at

  pub fit_alias : (k : TypeAliasId) (xs : List GenericArg) → Right (pair (leaf (head.AssociatedType k)) (chain (map arg_term xs))) → IsWritten (chain (map arg_term xs)) → IsFitType sc (ty.Projection k xs)
  fit_alias k xs h w = fit_type (ty.Projection k xs) (subst Right (sym (term_projection k xs)) h) (subst IsWritten (sym (term_projection k xs)) (tt, w))

  -- of a goal that fits and is without holes
  pub fit_goal : (q : Goal) → AskedFits sc.facts sc.params (asked_goal q).kind (asked_goal q).parts → IsWritten (asked_goal q).parts → IsFitGoal sc q
  fit_goal (goal.Trait r) h w = fit_args (out-TraitRef r).args h.0 h.1 w
  fit_goal (goal.Projection k xs t) h w = (fit_alias k xs h.0 w.0, fit_type t h.1 w.1)
