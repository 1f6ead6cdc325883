-- An expression has its type, and what it needs at that is registered.
use Rattle.std.proofs.Common.{◌≡◌, ◌≤◌, ◌∙◌, refl, ap, subst, arith, map, List, [], ◌∷◌, ℕ, zero, suc, Option, Some, None, slice_get}
use Rattle.std.specs.Prelude.{option_map}
use Rattle.hir_types.specs.Subst.{folded, Assignment}
use Rattle.hir_types.specs.declared.ids.ExprId.{ExprId}
use Rattle.hir_types.specs.declared.ty.Ty.{Ty}
use Rattle.hir_raw.specs.declared.raw.RawExpr.{RawExpr}
use Rattle.hir_raw.specs.declared.schedule.Schedule.{Schedule}
use Rattle.hir_facts.specs.Lawful.{IsLawful}
use Rattle.goal_answers.specs.Goals.{Each}
use Rattle.goal_search.specs.Sources.{system}
use Rattle.infer_goals.specs.Words.{HasHeadsIfConcrete}
use Rattle.infer_goals.specs.declared.table.GoalTable.{GoalTable}
use Rattle.infer_goals.specs.Obligations.{AreKept, HasAllOpen}
use Rattle.infer_result.specs.Needs.{needed_goals}
use Rattle.infer_result.specs.Places.{Given}
use Rattle.infer_result.specs.Placing.{at_or_mismatch}
use Rattle.infer_result.specs.Rules.{Rule}
use Rattle.infer_ctx.specs.Closings.{Closes, closed_types, found_under, expected_under}
use Rattle.infer_ctx.specs.Context as context
use Rattle.infer_ctx.specs.Fine.{is_fine_head}
use Rattle.infer_ctx.specs.Found as found
use Rattle.infer_ctx.specs.Steps.{Before, KindDone, OwnDone}
use Rattle.infer_ctx.specs.Under.{OwnWalked}
use Rattle.infer_ctx.specs.Walks.{IsFree}
use Rattle.infer_ctx.specs.declared.context.InferenceContext.{InferenceContext}
use Rattle.infer_ctx.proofs.AtEach.{before_under, closes_before}
use Rattle.infer_ctx.proofs.Expressions.{own_done}
use Rattle.infer_ctx.proofs.Lists.{found as found_at}
use Rattle.infer_ctx.proofs.OwnRecord.{close}
use Rattle.infer_ctx.proofs.UnderClosings.{closes_same}
use Rattle.infer_obligations.specs.Registering.{asked_for, Registers}
use Rattle.infer_obligations.proofs.FineNeeds.{needs_in_scope}
use Rattle.infer_obligations.proofs.Registering.{told_registered}

-- where nothing stands with holes closed, nothing stands
free_open : {A B : Type 0} (f : A → B) (xs : List (Option A)) (n : ℕ) → IsFree (map (option_map f) xs) n → IsFree xs n
free_open f [] n h = absurd (cc)
free_open f (None ∷ xs) zero h = refl
free_open f (Some x ∷ xs) zero h = absurd (cc)
free_open f (o ∷ xs) (suc n) h = free_open f xs n h

module _ (g : Given) (s : Schedule) (law : IsLawful g.scope.facts) (e : ExprId) (x : Option Ty) (t : Ty) (old mid : InferenceContext) (h : Before g s e x old) (k : KindDone g s e x t (context.entered old) mid) where
  -- some assignment closes what is found out
  abbrev a : Assignment
  a = k.follows.sound.some.0

  closes : Closes a mid
  closes = k.follows.sound.some.1

  closed_before : Closes a old
  closed_before = closes_same a (context.entered old) old refl (closes_before g a (context.entered old) mid k.follows closes)

  walked : OwnWalked g s e (expected_under a x) (folded a t) (found_under a old) (found.with_expr_ty (found_under a mid) e (folded a t))
  walked = close g s e (expected_under a x) (folded a t) (found_under a old) (found_under a mid) (before_under g s a old closed_before e x h) (k.each a closes)

  -- no type was recorded for the expression
  free : IsFree mid.result.type_of_expr e.0
  free =
      let start : old.clock ≤ _ = omega (arith, h.here) in
      let before : IsFree (closed_types a old.result.type_of_expr) e.0 = (h.state.each a closed_before).free_exprs e h.within start in
      free_open (folded a) mid.result.type_of_expr e.0 ((k.each a closes).walks.kept e h.within (omega (arith, h.here)) ∙ before)

  module _ (y : RawExpr) (is : slice_get g.body.exprs e.0 ≡ Some y) where
    needs_fine : Each (HasHeadsIfConcrete (is_fine_head g.scope)) (needed_goals g.scope.facts y t)
    needs_fine =
        let r = (found.with_expr_ty (found_under a mid) e (folded a t)).result in
        let obeys = walked.walks.made e h.within (omega (arith, h.here)) (omega (arith, h.here, k.follows.clock)) in
        let rule : Rule (at_or_mismatch g r) g r e (Some y) = subst (λ o. Rule (at_or_mismatch g r) g r e o) is obeys in
        needs_in_scope g law e t k.fine.heads k.tells a r walked.type_is y is rule (λ v named. h.ready.written.constructors e v (is ∙ ap (λ z. Some z) named))

    pub own_registered : (goals : GoalTable) → goals.table ≡ mid.goals.table → goals.sources ≡ mid.goals.sources → goals.bounded ≡ mid.goals.bounded
        → AreKept goals.sources.facts (system goals.sources.sources) goals.table goals.obligations → HasAllOpen (system goals.sources.sources) goals.table goals.obligations
        → Registers mid.goals.sources.facts (asked_for e.0 (needed_goals g.scope.facts y t)) mid.goals.obligations goals.obligations
        → OwnDone g s e x t old (context.with_goal_table (context.with_expr_ty mid e t) goals)
    own_registered goals table sources bounded kept all registers =
        own_done g s e x t old mid goals h k table sources
        (told_registered g e y t mid goals is free needs_fine registers sources bounded kept all)

  -- the expression is there
  pub own_expr : (y : RawExpr) × (slice_get g.body.exprs e.0 ≡ Some y)
  own_expr = found_at g.body.exprs e.0 h.within
