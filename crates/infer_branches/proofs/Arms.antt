-- The arms of a `match`: their parts, and what is said of them.
use Rattle.std.proofs.Common.{◌+◌, ◌≡◌, List, [], ◌∷◌, ◌++◌, refl, ap, ◌⊎◌, inl, inr, false, true, subst, IsTrue, ℕ, take, drop, sym, Option, suc, ◌<◌, length, get_or, ◌∙◌, arith, zero, append_assoc, ◌≤◌, append-nil}
use Rattle.std.proofs.lemmas.List.{take-append-drop}
use Rattle.std.proofs.Math.ListN.{drop_of_length-le}
use Rattle.infer_branches.specs.Words.{Ty, ExprId, RawArm, guard, Part, arm_patterns, arms_parts, inner, after, expr_part, arm_pattern, pat_part, arm, maybe_part, arm_parts, RawBody, is_carried_expr, is_carried_body, Schedule, arm_exprs, ArmPatterns, GuardRule, ArmsRule, MatchRule, InferenceResult, Given, at_or_mismatch, AnyMismatch, TypeMismatch, ObeysOrMismatch, Extends, PaidBy, Owed, LieAhead, IsLess}
use Rattle.hir_types.specs.declared.ids.ExprOrPatId.TheVariants as node
use Rattle.infer_branches.specs.Words.hir_raw.declared.raw.RawExpr.TheVariants as expr
use Rattle.infer_branches.specs.Words.infer_result.Rules.{Rule}
use Rattle.infer_branches.proofs.Words.{guard_kept, carried_expr, ahead_stands, ahead_left, ahead_right, drop-step}
use Rattle.infer_branches.specs.Own.{AllAtType, IsMatchOf}
use Rattle.infer_branches.proofs.Alternatives.{FirstBefore}

-- ---- lists of arms
pub arm_exprs_more : (arms : List RawArm) (a : RawArm) → arm_exprs (arms ++ a ∷ []) ≡ arm_exprs arms ++ a.expr ∷ []
arm_exprs_more [] a = refl
arm_exprs_more (y ∷ arms) a = ap (λ es. y.expr ∷ es) (arm_exprs_more arms a)

pub arm_exprs_some : (arms : List RawArm) → (arms ≡ [] → ⊥) → arm_exprs arms ≡ [] → ⊥
arm_exprs_some [] some h = some refl
arm_exprs_some (a ∷ arms) some h = absurd (cc)

pub patterns_push : (g : Given) (r : InferenceResult) (arms : List RawArm) (a : RawArm) (t : Ty) → ArmPatterns (at_or_mismatch g r) arms t
    → ArmPatterns (at_or_mismatch g r) (a ∷ []) t → ArmPatterns (at_or_mismatch g r) (arms ++ a ∷ []) t
patterns_push g r [] a t h k = k
patterns_push g r (y ∷ arms) a t h k = (h.0, patterns_push g r arms a t h.1 k)

-- each guard is a truth value, or has a mismatch
abbrev pub AllGuards : Given → InferenceResult → List RawArm → Type 0
AllGuards g r [] = Unit {0}
AllGuards g r (a ∷ arms) = GuardRule (at_or_mismatch g r) a.guard × AllGuards g r arms

pub guards_push : (g : Given) (r : InferenceResult) (arms : List RawArm) (a : RawArm) → AllGuards g r arms
    → GuardRule (at_or_mismatch g r) a.guard → AllGuards g r (arms ++ a ∷ [])
guards_push g r [] a h k = (k, tt)
guards_push g r (y ∷ arms) a h k = (h.0, guards_push g r arms a h.1 k)

pub guards_kept : (g : Given) (a b : InferenceResult) → Extends a b → (arms : List RawArm) → AllGuards g a arms → AllGuards g b arms
guards_kept g a b x [] h = tt
guards_kept g a b x (y ∷ arms) h = (guard_kept g a b x y.guard h.0, guards_kept g a b x arms h.1)

pub arms_made : (g : Given) (r : InferenceResult) (es : List ExprId) (arms : List RawArm) (t : Ty) → AllGuards g r arms
    → AllAtType r (arm_exprs arms) t ⊎ AnyMismatch r es → ArmsRule (at_or_mismatch g r) es arms t
arms_made g r es [] t h k = tt
arms_made g r es (a ∷ arms) t h (inl k) = ((h.0, inl k.0), arms_made g r es arms t h.1 (inl k.1))
arms_made g r es (a ∷ arms) t h (inr k) = ((h.0, inr k), arms_made g r es arms t h.1 (inr k))

-- a `match` has an arm
pub arms_some : (b : RawBody) (n d : ExprId) (arms : List RawArm) → IsTrue (is_carried_body b) → IsMatchOf b n d arms → arms ≡ [] → ⊥
arms_some b n d arms carried is none =
    let k : false ≡ true = subst (λ l. IsTrue (is_carried_expr (expr.Match d l))) none (carried_expr b n.0 (expr.Match d arms) carried is) in
    cc

pub all_taken : (arms : List RawArm) (i : ℕ) → length arms ≤ i → take i arms ≡ arms
all_taken arms i over =
    let none : drop i arms ≡ [] = drop_of_length-le arms over in
    sym (append-nil (take i arms)) ∙ (ap (λ l. take i arms ++ l) (sym none) ∙ take-append-drop i arms)

-- ---- their parts

-- the patterns from the position i on, and then the arms
abbrev pub after_patterns : List RawArm → ℕ → ExprId → List RawArm → List Part
after_patterns arms i d rest = arm_patterns d i rest ++ arms_parts 0 arms

module _ (arms : List RawArm) (i : ℕ) (a : RawArm) (is : a ≡ get_or arms i a) (k : i < length arms) where
  arms_step : drop i arms ≡ a ∷ drop (i + 1) arms
  arms_step = drop-step arms i a k ∙ ap (λ z. z ∷ drop (i + 1) arms) (sym is)

  next_is : suc i ≡ i + 1
  next_is = omega arith

  pub pattern_step : (d : ExprId)
      → after_patterns arms i d (drop i arms) ≡ pat_part (arm_pattern d i) a.pat ∷ after_patterns arms (i + 1) d (drop (i + 1) arms)
  pattern_step d =
      ap (λ l. after_patterns arms i d l) arms_step ∙ ap (λ j. pat_part (arm_pattern d i) a.pat ∷ after_patterns arms j d (drop (i + 1) arms)) next_is

  pub arm_step : arms_parts i (drop i arms) ≡ maybe_part (guard i) a.guard ++ expr_part (arm i) a.expr ∷ arms_parts (i + 1) (drop (i + 1) arms)
  arm_step =
      ap (λ l. arms_parts i l) arms_step
      ∙ (ap (λ j. arm_parts i a ++ arms_parts j (drop (i + 1) arms)) next_is
      ∙ append_assoc (maybe_part (guard i) a.guard) (expr_part (arm i) a.expr ∷ []) (arms_parts (i + 1) (drop (i + 1) arms)))

-- the first arm comes before the later ones
pub first_before : (b : RawBody) (s : Schedule) (n : ExprId) (from : ℕ) (arms : List RawArm) (i : ℕ)
    → LieAhead b s (inner (node.ExprId n)) from (arms_parts 0 arms) → FirstBefore b n (arm i) (arm_exprs (take i arms))
first_before b s n from arms zero h = tt
first_before b s n from [] (suc i) h = tt
first_before b s n from (a ∷ arms) (suc i) h =
    let own = ahead_left b s (inner (node.ExprId n)) from (arm_parts 0 a) (arms_parts 1 arms) h in
    let it = ahead_right b s (inner (node.ExprId n)) from (maybe_part (guard 0) a.guard) (expr_part (arm 0) a.expr ∷ []) own in
    (arm 0, ahead_stands b s (inner (node.ExprId n)) (after b s from (maybe_part (guard 0) a.guard)) (expr_part (arm 0) a.expr) [] it, omega arith)

-- ---- the whole

-- what is owed where less is expected
pub paid_less : (g : Given) (n : ExprId) (x y : Option Ty) (t : Ty) → IsLess x y → (e : ExprId) (m : TypeMismatch) → PaidBy g n y t e m
    → PaidBy g n x t e m
paid_less g n x y t (inl h) e m p = subst (λ o. PaidBy g n o t e m) h p
paid_less g n x y t (inr h) e m (inl p) = inl p
paid_less g n x y t (inr h) e m (inr p) = absurd (subst (λ o. Owed n o e m) h p)

pub obeys_match : (g : Given) (r : InferenceResult) (n d : ExprId) (arms : List RawArm) → IsMatchOf g.body n d arms
    → MatchRule (at_or_mismatch g r) r n d arms → ObeysOrMismatch g r n
obeys_match g r n d arms is h = subst (λ o. Rule (at_or_mismatch g r) g r n o) (sym is) h
