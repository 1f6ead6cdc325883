-- The arms of a `match`: the loop over them, and their guards.
use Rattle.std.proofs.Common.{ℕ, List, get_or, None, ◌+◌, ◌<◌, ◌≤◌, ◌≡◌, length, Option, Some, sym, ap, subst, ◌∙◌, [], ◌∷◌, ◌++◌, take, drop, refl}
use Rattle.std.proofs.lemmas.List.{take_more}
use Rattle.std.proofs.Math.ListN.{drop_of_length-le}
use Rattle.infer_branches.specs.Words.{ExprId, Ty, folded, RawArm, Part, after, arm, arms_parts, guard, inner, expr_part, maybe_part, Schedule, Given, arm_exprs, InferenceContext, Closes, found_under, expected_under, Before, CoerceDone, LieAhead, Nothing, OwedByAlternatives, CoerceMany, common_under, Completes, common_of}
use Rattle.hir_types.specs.declared.ids.ExprOrPatId.TheVariants as node
use Rattle.hir_types.specs.declared.ty.Ty.TheVariants as ty
use Rattle.infer_branches.proofs.Words.{follows_twice, closes_before, walking_after, follows_itself, walks_refl, walks_trans, walks_paid, fine_expectation_grown, fine_bool, ahead_stands, ahead_left, ahead_right, after_append}
use Rattle.infer_branches.specs.Own.{BeforeArms, ArmsDone, AlternativeDone, BeforeGuard, GuardDone}
use Rattle.infer_branches.proofs.Alternatives.{merged_kept}
use Rattle.infer_branches.proofs.Arms.{AllGuards, all_taken, arm_exprs_more, arm_exprs_some, arm_step, arms_made, first_before, guards_kept, guards_push}
use Rattle.infer_branches.proofs.InAlternatives.{AtAlternatives, begins_alternatives, bool_walked, comes_to_alternative, completed_follows, ends_alternatives, fine_common_grown, past_alternative}

-- ---- the arms
module _ (g : Given) (s : Schedule) (n : ExprId) (arms : List RawArm) (x : Option Ty) where
  -- the arms of the list are typed, and the parts ps lie ahead
  abbrev AtSome : List RawArm → List RawArm → CoerceMany → List Part → InferenceContext → InferenceContext → Type 0
  AtSome typed guarded m ps mid f =
      AtAlternatives g s n x (arm_exprs typed) m (λ r. AllGuards g r guarded) ps (after g.body s mid.clock (arms_parts 0 arms)) mid f

  -- the first i arms are typed, and m is what they have in common, and the others lie ahead
  pub record ArmWalk (i : ℕ) (m : CoerceMany) (mid f : InferenceContext) : Type 0 where
    pub walk : AtSome (take i arms) (take i arms) m (arms_parts i (drop i arms)) mid f

  pub begins_arms : (none : CoerceMany) (f : InferenceContext) → none ≡ common_of x → BeforeArms g s n arms x f → ArmWalk 0 none f f
  begins_arms none f is b = record {
    walk = begins_alternatives g s n x none (λ r. AllGuards g r []) (arms_parts 0 arms) (after g.body s f.clock (arms_parts 0 arms)) f f is b.expected
        (follows_itself g f b.state.of_body b.state.sound) b.ahead refl (λ a q. walks_refl g s Nothing (found_under a f) (b.state.each a q)) (λ a q. tt);
  }

  module _ (i : ℕ) (m : CoerceMany) (mid f : InferenceContext) (b : BeforeArms g s n arms x mid) (h : ArmWalk i m mid f) where
    module _ (y : RawArm) (is : y ≡ get_or arms i y) (k : i < length arms) where
      abbrev other_arms : List Part
      other_arms = arms_parts (i + 1) (drop (i + 1) arms)

      arm_ahead : LieAhead g.body s (inner (node.ExprId n)) f.clock (maybe_part (guard i) y.guard ++ expr_part (arm i) y.expr ∷ other_arms)
      arm_ahead = subst (λ ps. LieAhead g.body s (inner (node.ExprId n)) f.clock ps) (arm_step arms i y is k) h.walk.ahead

      pub comes_to_guard : BeforeGuard g s n y.guard f
      comes_to_guard = record {
        ready = b.ready;
        state = walking_after g s mid f b.state.told h.walk.follows (λ a l. (h.walk.each a l).walks.state);
        position = i;
        ahead = ahead_left g.body s (inner (node.ExprId n)) f.clock (maybe_part (guard i) y.guard) (expr_part (arm i) y.expr ∷ other_arms) arm_ahead;
      }

      -- past the guard of the arm y
      module _ (last : InferenceContext) (p : GuardDone g s y.guard f last) where
        pub past_guard : AtSome (take i arms) (take i arms ++ y ∷ []) m (expr_part (arm i) y.expr ∷ other_arms) mid last
        past_guard =
            let gs : List Part = maybe_part (guard i) y.guard in
            let ps : List Part = expr_part (arm i) y.expr ∷ other_arms in
            let some = p.follows.sound.some in
            let clock : last.clock ≡ after g.body s f.clock gs = (p.each some.0 some.1).clock i in
            record {
              follows = follows_twice g mid f last h.walk.follows p.follows;
              expected = fine_expectation_grown g.scope f.goals.table last.goals.table x p.follows.grew h.walk.expected;
              fine = fine_common_grown g.scope f.goals.table last.goals.table m p.follows.grew h.walk.fine;
              ahead = subst (λ j. LieAhead g.body s (inner (node.ExprId n)) j ps) (sym clock) (ahead_right _ _ _ _ gs ps arm_ahead);
              ends = ap (λ j. after g.body s j ps) clock
                  ∙ (sym (after_append g.body s f.clock gs ps) ∙ (ap (λ l. after g.body s f.clock l) (sym (arm_step arms i y is k)) ∙ h.walk.ends));
              each = λ a q.
                  let l : Closes a f = closes_before g a f last p.follows q in
                  let v = h.walk.each a l in
                  let z = p.each a q in
                  let r = (found_under a f).result in
                  let later = (found_under a last).result in
                  record {
                    walks = walks_trans g s (OwedByAlternatives g n (expected_under a x)) _ _ _ v.walks (
                        walks_paid g s Nothing (OwedByAlternatives g n (expected_under a x)) _ _ (λ e o c. absurd c) z.walks
                        );
                    merged = merged_kept g r later z.walks.extends (arm_exprs (take i arms)) (expected_under a x) (common_under a m) v.merged;
                    beside = guards_push g later (take i arms) y (guards_kept g r later z.walks.extends (take i arms) v.beside) z.made;
                  };
            }

        pub comes_to_arm : Before g s y.expr x last
        comes_to_arm = comes_to_alternative _ _ _ _ _ _ _ other_arms _ _ _ (arm i) y.expr past_guard b.ready b.state.told

        pub goes_past_arm : (made : CoerceMany) (next : InferenceContext) → AlternativeDone g s y.expr x m made last next
            → ArmWalk (i + 1) made mid next
        goes_past_arm made next d =
            let typed : List RawArm = take i arms ++ y ∷ [] in
            let more : typed ≡ take (i + 1) arms = ap (λ z. take i arms ++ z ∷ []) is ∙ sym (take_more arms i y k) in
            let first = first_before g.body s n mid.clock arms i b.ahead in
            let done = past_alternative _ _ _ _ _ _ _ other_arms _ _ _ (arm i) y.expr past_guard tt first (λ u v e. guards_kept g u v e typed) made next d in
            record {
              walk = subst (λ l. AtSome l l made other_arms mid next) more (
                  subst (λ es. AtAlternatives g s n x es made (λ r. AllGuards g r typed) other_arms (after g.body s mid.clock (arms_parts 0 arms)) mid next)
                  (sym (arm_exprs_more (take i arms) y)) done
                  );
            }

    pub ends_arms : length arms ≤ i → (t : Ty) (last : InferenceContext) → Completes g.scope x m t f last → ArmsDone g s n arms x t mid last
    ends_arms over t last k =
        let none : AtSome (take i arms) (take i arms) m [] mid f =
        subst (λ l. AtSome (take i arms) (take i arms) m (arms_parts i l) mid f) (drop_of_length-le arms over) h.walk in
        let all : AtSome arms arms m [] mid f = subst (λ l. AtSome l l m [] mid f) (all_taken arms i over) none in
        record {
          follows = completed_follows g x m t mid f last h.walk.follows k;
          fine = k.fine;
          each = λ a q.
              let e = ends_alternatives _ _ _ _ (arm_exprs arms) _ (λ r. AllGuards g r arms) _ _ _ all (arm_exprs_some arms b.some) x t last k a q in
              record {
                walks = e.walks;
                clock = k.clock ∙ all.ends;
                carried = e.carried;
                made = arms_made g (found_under a last).result (arm_exprs arms) arms (folded a t) e.beside e.placed;
              };
        }

-- ---- guards
module _ (g : Given) (s : Schedule) (n : ExprId) where
  guard_at : (e : ExprId) (o : Option ExprId) (f : InferenceContext) → o ≡ Some e → (b : BeforeGuard g s n o f)
      → LieAhead g.body s (inner (node.ExprId n)) f.clock (expr_part (guard b.position) e ∷ [])
  guard_at e o f is b = subst (λ z. LieAhead g.body s (inner (node.ExprId n)) f.clock (maybe_part (guard b.position) z)) is b.ahead

  pub comes_to_guard_expr : (e : ExprId) (o : Option ExprId) (f : InferenceContext) → o ≡ Some e → BeforeGuard g s n o f
      → Before g s e (Some ty.Bool) f
  comes_to_guard_expr e o f is b =
      let a = guard_at e o f is b in
      record { ready = b.ready; state = b.state; within = a.fit.0; here = a.fit.1; expected = fine_bool g.scope f.goals.table }

  pub guard_typed : (e : ExprId) (o : Option ExprId) (t : Ty) (f new : InferenceContext) → o ≡ Some e → BeforeGuard g s n o f
      → CoerceDone g s e (Some ty.Bool) t f new → GuardDone g s o f new
  guard_typed e o t f new is b d =
      let at = ahead_stands g.body s (inner (node.ExprId n)) f.clock (expr_part (guard b.position) e) [] (guard_at e o f is b) in
      subst (λ z. GuardDone g s z f new) (sym is) (record { follows = d.follows; each = bool_walked g s n (guard b.position) e t f new at (λ r u h. h) d })

  pub guard_missing : (o : Option ExprId) (f : InferenceContext) → o ≡ None → BeforeGuard g s n o f → GuardDone g s o f f
  guard_missing o f is b =
      subst (λ z. GuardDone g s z f f) (sym is) (record {
        follows = follows_itself g f b.state.of_body b.state.sound;
        each = λ a q. record { walks = walks_refl g s Nothing (found_under a f) (b.state.each a q); clock = λ j. refl; made = tt };
      })
