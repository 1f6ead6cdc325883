-- The type of a `match`: the loop over the patterns of its arms.
use Rattle.std.proofs.Common.{ℕ, List, get_or, None, inr, ◌+◌, ◌<◌, ◌≤◌, ◌≡◌, length, Option, Some, subst, ◌∙◌, [], ◌∷◌, ◌++◌, take, drop}
use Rattle.std.proofs.lemmas.List.{take_more}
use Rattle.std.proofs.Math.ListN.{drop_of_length-le}
use Rattle.infer_branches.specs.Words.{ExprId, Ty, Assignment, folded, RawArm, Part, arm_pattern, arms_parts, inner, expr_part, pat_part, scrutinee, Schedule, Given, arm_exprs, ArmPatterns, at_or_mismatch, HasTy, InferenceContext, IsLess, Closes, found_under, expected_under, IsFine, Before, Within, CoerceDone, KindDone, Nothing, PaidBy, BeforePat, PatDone}
use Rattle.hir_types.specs.declared.ids.ExprOrPatId.TheVariants as node
use Rattle.infer_branches.specs.Words.hir_raw.declared.raw.RawExpr.TheVariants as expr
use Rattle.infer_branches.proofs.Words.{follows_twice, closes_before, walking_after, walks_trans, walks_paid, fine_grown, fine_expectation_grown, WalksParts, begins_parts, comes_to, goes_past, goes_past_coerced, arm_patterns_kept, arms_kept, extends_trans, ahead_stands, no_telling_match, arm_tells}
use Rattle.infer_branches.specs.Own.{BeforeArms, ArmsDone, IsMatchOf}
use Rattle.infer_branches.proofs.Arms.{after_patterns, all_taken, arms_some, obeys_match, paid_less, pattern_step, patterns_push}
use Rattle.infer_branches.proofs.InAlternatives.{less_fine, less_under}
use Rattle.infer_branches.specs.Words.infer_result.Columns as column

-- the arm that is read at this position
abbrev pub arm_at : List RawArm → ℕ → RawArm
arm_at arms i = get_or arms i (record { pat = record { 0 = 0 }; guard = None; expr = record { 0 = 0 } })

module _ (g : Given) (s : Schedule) (n d : ExprId) (arms : List RawArm) where
  -- the patterns of the first i arms have the type t of the scrutinee d, and what follows lies ahead
  pub record PatternWalk (i : ℕ) (t : Ty) (mid f : InferenceContext) : Type 0 where
    pub walk : WalksParts g s (inner (node.ExprId n)) (λ a. Nothing) (after_patterns arms i d (drop i arms)) mid f
    pub fine : IsFine g.scope f.goals.table t
    pub scrutinee_is : (a : Assignment) → Closes a f → HasTy (found_under a f).result d (folded a t)
    pub made : (a : Assignment) → Closes a f → ArmPatterns (at_or_mismatch g (found_under a f).result) (take i arms) (folded a t)

  match_begins : (x : Option Ty) (f : InferenceContext) → Within g s n x f → IsMatchOf g.body n d arms
      → WalksParts g s (inner (node.ExprId n)) (λ a. Nothing) (expr_part scrutinee d ∷ after_patterns arms 0 d arms) f f
  match_begins x f w is = begins_parts g s n (expr.Match d arms) x f (λ a. Nothing) w is

  pub comes_to_scrutinee : (x : Option Ty) (f : InferenceContext) → Within g s n x f → IsMatchOf g.body n d arms → Before g s d None f
  comes_to_scrutinee x f w is =
      comes_to _ _ _ _ scrutinee d (after_patterns arms 0 d arms) f f (match_begins x f w is) None w.ready w.state.told tt

  pub begins_patterns : (x : Option Ty) (t : Ty) (mid f : InferenceContext) → Within g s n x mid → IsMatchOf g.body n d arms
      → CoerceDone g s d None t mid f → PatternWalk 0 t mid f
  begins_patterns x t mid f w is k = record {
    walk = goes_past_coerced _ _ _ _ scrutinee d (after_patterns arms 0 d arms) mid mid (match_begins x mid w is) (λ a. Nothing) None t f k
        (λ a b m o. o) (λ a q b m o. absurd o);
    fine = k.fine;
    scrutinee_is = λ a q. (k.each a q).placed;
    made = λ a q. tt;
  }

  module _ (i : ℕ) (t : Ty) (mid f : InferenceContext) (h : PatternWalk i t mid f) where
    module _ (y : RawArm) (is : y ≡ get_or arms i y) (k : i < length arms) where
      abbrev other_patterns : List Part
      other_patterns = after_patterns arms (i + 1) d (drop (i + 1) arms)

      here_pattern : WalksParts g s (inner (node.ExprId n)) (λ a. Nothing) (pat_part (arm_pattern d i) y.pat ∷ other_patterns) mid f
      here_pattern = subst (λ ps. WalksParts g s (inner (node.ExprId n)) (λ a. Nothing) ps mid f) (pattern_step arms i y is k d) h.walk

      pub comes_to_pattern : (x : Option Ty) → Within g s n x mid → BeforePat g s y.pat (Some t) f
      comes_to_pattern x w =
          let q = h.walk.follows.sound.some in
          let ahead = (here_pattern.each q.0 q.1).ahead in
          let at = ahead_stands g.body s (inner (node.ExprId n)) f.clock (pat_part (arm_pattern d i) y.pat) other_patterns ahead in
          record {
            ready = w.ready;
            state = walking_after g s mid f w.state.told h.walk.follows (λ a l. (h.walk.each a l).walks.state);
            within = ahead.fit.0;
            here = ahead.fit.1;
            fine = h.fine;
            tells = λ u e. arm_tells g s w.ready.law (inner (node.ExprId n)) at.0 y.pat d i at.1 u;
            incoming = λ a l u e.
                (let z : folded a t ≡ u = cc in
                record {
                  parent = inner (node.ExprId n);
                  at_part = at.0;
                  role = arm_pattern d i;
                  stands = at.1;
                  gives = subst (λ v. HasTy (found_under a f).result d v) z (h.scrutinee_is a l);
                });
          }

      pub goes_past_pattern : (next : InferenceContext) → PatDone g s y.pat (Some t) f next → PatternWalk (i + 1) t mid next
      goes_past_pattern next p =
          let before : (a : Assignment) → Closes a next → Closes a f = λ a q. closes_before g a f next p.follows q in
          record {
            walk = goes_past _ _ _ _ (λ a. Nothing) (λ a. Nothing) (pat_part (arm_pattern d i) y.pat) other_patterns mid f next here_pattern p.follows
                (λ a q. ((p.each a q).walks, (p.each a q).clock)) (λ a b m o. o) (λ a q b m o. absurd o);
            fine = fine_grown g.scope f.goals.table next.goals.table t p.follows.grew h.fine;
            scrutinee_is = λ a q. (p.each a q).walks.extends.columns column.type_of_expr d.0 (folded a t) (h.scrutinee_is a (before a q));
            made = λ a q.
                rw (take_more arms i y k) (
                subst (λ z. ArmPatterns (at_or_mismatch g (found_under a next).result) (take i arms ++ z ∷ []) (folded a t)) is (
                patterns_push g (found_under a next).result (take i arms) y (folded a t)
                (arm_patterns_kept g _ _ (p.each a q).walks.extends (take i arms) (folded a t) (h.made a (before a q))) ((p.each a q).placed, tt)
                ));
          }

    module _ (over : length arms ≤ i) (x y : Option Ty) (is : IsMatchOf g.body n d arms) (less : IsLess x y) where
      -- all patterns are behind
      at_arms : WalksParts g s (inner (node.ExprId n)) (λ a. Nothing) (arms_parts 0 arms) mid f
      at_arms =
          subst (λ l. WalksParts g s (inner (node.ExprId n)) (λ a. Nothing) (after_patterns arms i d l) mid f) (drop_of_length-le arms over) h.walk

      pub comes_to_arms : Within g s n x mid → BeforeArms g s n arms y f
      comes_to_arms w =
          let q = h.walk.follows.sound.some in
          record {
            ready = w.ready;
            state = walking_after g s mid f w.state.told h.walk.follows (λ a l. (h.walk.each a l).walks.state);
            within = w.within;
            ahead = (at_arms.each q.0 q.1).ahead;
            some = arms_some g.body n d arms w.ready.law.carried is;
            expected = fine_expectation_grown g.scope mid.goals.table f.goals.table y h.walk.follows.grew (less_fine g.scope mid.goals.table x y less w.expected);
          }

      pub ends_match : (u : Ty) (new : InferenceContext) → ArmsDone g s n arms y u f new → KindDone g s n x u mid new
      ends_match u new k = record {
        follows = follows_twice g mid f new h.walk.follows k.follows;
        fine = k.fine;
        tells = no_telling_match g n d arms is u;
        each = λ a q.
            let l : Closes a f = closes_before g a f new k.follows q in
            let w = at_arms.each a l in
            let z = k.each a q in
            let made = subst (λ r. ArmPatterns (at_or_mismatch g (found_under a f).result) r (folded a t)) (all_taken arms i over) (h.made a l) in
            let Q = PaidBy g n (expected_under a x) (folded a u) in
            record {
              walks = walks_trans g s Q _ _ _ (walks_paid g s Nothing Q _ _ (λ e m o. absurd o) w.walks) (
                  walks_paid g s (PaidBy g n (expected_under a y) (folded a u)) Q _ _ (λ e m p. inr (paid_less g n _ _ (folded a u) (less_under a x y less) e m p)) z.walks
                  );
              clock = z.clock ∙ w.ends;
              carried = z.carried;
              rule = λ r b has.
                  let e = extends_trans (found_under a f).result (found_under a new).result r z.walks.extends b in
                  obeys_match g r n d arms is (record {
                    scrutinee = folded a t;
                    comes = e.columns column.type_of_expr d.0 (folded a t) (h.scrutinee_is a l);
                    patterns = arm_patterns_kept g _ r e arms (folded a t) made;
                    type = folded a u;
                    has = has;
                    alternatives = arms_kept g _ r b (arm_exprs arms) arms (folded a u) z.made;
                  });
            };
      }
