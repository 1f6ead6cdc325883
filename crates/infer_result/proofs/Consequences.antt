-- What follows of typed tables about calls.
use Rattle.std.specs.Prelude.{ℕ, Bool, true, false, zero, suc, ◌≡◌, ◌<◌, List, [], ◌∷◌, map, length, slice_get, Option, Some}
use Rattle.std.proofs.Common.{inl, inr, refl, sym, subst, ◌∙◌}
use Rattle.infer_result.specs.Words.{ExprId, Ty, Same, param_at, RawExpr, Signature, at_args}
use Rattle.hir_types.specs.declared.ids.ExprOrPatId.TheVariants as node
use Rattle.hir_types.specs.declared.ty.Ty.TheVariants as ty
use Rattle.infer_result.specs.Words.hir_raw.declared.raw.RawExpr.TheVariants as expr
use Rattle.infer_result.specs.Own.{InferenceResult, InferenceDiagnostic, has_unknown, HasTy, HasMismatch, HasDiagnostic, WasSeen, Given, IsAtOrMismatch, IsCallee, ArgsRule, CallRule, IsPathToItem, at_or_mismatch, AllAt, Rule, IsTrueSeen, Up, IsTyped}
use Rattle.infer_result.proofs.Derived.{one_at}

-- the call's item is at these types; where its input at this position is a parameter, the type in that one's place is u
pub record DecidesItsParameter (g : Given) (t : InferenceResult) (called : ExprId) (i : ℕ) (u : Ty) : Type 0 where
  pub signature : Signature
  pub types : List Ty
  pub is_callee : IsCallee g t called signature types
  pub decides : (k : ℕ) (v : Ty) → slice_get signature.inputs i ≡ Some (ty.Param k) → slice_get types k ≡ Some v → Same u v

all_at : (P : ExprId → Ty → Type 0) (f : Ty → Ty) (es : List ExprId) (ss : List Ty) → AllAt P es (map f ss) → (i : ℕ) (e : ExprId) (s : Ty) → slice_get es i ≡ Some e → slice_get ss i ≡ Some s → P e (f s)
all_at P f [] ss h i e s k l = absurd (cc)
all_at P f (x ∷ es) [] h i e s k l = absurd h
all_at P f (x ∷ es) (y ∷ ss) h zero e s k l =
    let one : x ≡ e = cc in
    let two : y ≡ s = cc in
    subst (λ z. P e (f z)) two (subst (λ z. P z (f y)) one h.0)
all_at P f (x ∷ es) (y ∷ ss) h (suc i) e s k l = all_at P f es ss h.1 i e s k l

same_call : (a b : ExprId) → node.ExprId a ≡ node.ExprId b → a ≡ b
same_call a b k = cc

same_called : (o : Option RawExpr) (a b : ExprId) (xs ys : List ExprId) → o ≡ Some (expr.Call a xs) → o ≡ Some (expr.Call b ys) → a ≡ b
same_called o a b xs ys h k = (let e : Some (expr.Call a xs) ≡ Some (expr.Call b ys) = sym h ∙ k in cc)

-- In a typed table: of a call of what a path to an item names, without a complaint at the call or the argument, an argument
-- that has a type by itself decides the parameter that its whole input is. So that is not `{unknown}`, which no such type is.
module _ (g : Given) (t : InferenceResult) (h : IsTyped g t) (n called : ExprId) (args : List ExprId) (within : n.0 < length g.body.exprs) (is : slice_get g.body.exprs n.0 ≡ Some (expr.Call called args)) (path : IsPathToItem g called) (none : (x : InferenceDiagnostic) → HasDiagnostic t n x → ⊥) (i : ℕ) (e : ExprId) (u : Ty) (is_arg : slice_get args i ≡ Some e) (up : Up g e u) (right : HasMismatch t e → ⊥) where
  stands : (s : Ty) → IsAtOrMismatch t e s → Same u s
  stands s (a, has, so) = elim so [
    | inl same ↦ subst (λ v. Same v s) (one_at t.type_of_expr e.0 a u has (h.upward e u up)) same
    | inr wrong ↦ absurd (right wrong)
  ]

  by_arguments : (σ : Signature) (ts : List Ty) → ArgsRule (at_or_mismatch g t) n args (map (at_args ts) σ.inputs) → (k : ℕ) (v : Ty) → slice_get σ.inputs i ≡ Some (ty.Param k) → slice_get ts k ≡ Some v → Same u v
  by_arguments σ ts (inl all) k v input found = subst (λ s. Same u s) (param_at ts k v found) (stands (at_args ts (ty.Param k)) (all_at (IsAtOrMismatch t) (at_args ts) args σ.inputs all i e (ty.Param k) is_arg input))
  by_arguments σ ts (inr wrong) k v input found = absurd (none _ wrong)

  by_rule : CallRule (at_or_mismatch g t) g t n called args → DecidesItsParameter g t called i u
  by_rule (inl h) = record { signature = h.signature; types = h.types; is_callee = h.is_callee; decides = by_arguments h.signature h.types h.arguments }
  by_rule (inr (w, any)) =
      let seen = h.complaints.seen w.position w.entry w.found in
      let same : seen.call ≡ n = same_call seen.call n (sym seen.is_node ∙ w.is_node) in
      let at_n : slice_get g.body.exprs n.0 ≡ Some (expr.Call seen.called seen.args) = subst (λ (z : ExprId). slice_get g.body.exprs z.0 ≡ Some (expr.Call seen.called seen.args)) same seen.is_call in
      absurd (seen.no_item (subst (λ z. IsPathToItem g z) (same_called (slice_get g.body.exprs n.0) called seen.called args seen.args is at_n) path))

  pub argument_decides : DecidesItsParameter g t called i u
  argument_decides = by_rule (subst (λ o. Rule (at_or_mismatch g t) g t n o) is (h.clauses n within))

-- Where a call was seen to be of no function, a complaint names the call, or `{unknown}` is in the type of what is called.
pub data IsSeenForCause (g : Given) (t : InferenceResult) (n : ExprId) : Type 0 where
  is_named : (x : InferenceDiagnostic) → HasDiagnostic t n x → IsSeenForCause g t n
  is_unknown : (called : ExprId) (args : List ExprId) (s : Ty) → slice_get g.body.exprs n.0 ≡ Some (expr.Call called args) → HasTy t called s → has_unknown s ≡ true → IsSeenForCause g t n

pub seen_for_cause : (g : Given) (t : InferenceResult) → IsTyped g t → (n : ExprId) → WasSeen t n → IsSeenForCause g t n
seen_for_cause g t h n w = by_type (has_unknown seen.type) refl
  where
    seen : IsTrueSeen g t w.entry
    seen = h.complaints.seen w.position w.entry w.found

    same : seen.call ≡ n
    same = same_call seen.call n (sym seen.is_node ∙ w.is_node)

    at_n : slice_get g.body.exprs n.0 ≡ Some (expr.Call seen.called seen.args)
    at_n = subst (λ (z : ExprId). slice_get g.body.exprs z.0 ≡ Some (expr.Call seen.called seen.args)) same seen.is_call

    by_type : (b : Bool) → has_unknown seen.type ≡ b → IsSeenForCause g t n
    by_type true unknown = is_unknown seen.called seen.args seen.type at_n seen.has unknown
    by_type false known = is_named _ (h.complaints.said w.position w.entry w.found n seen.called seen.args seen.type w.is_node at_n seen.has known)
