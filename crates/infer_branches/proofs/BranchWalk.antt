-- The type of an `if`, part after part.
use Rattle.std.proofs.Common.{sym, subst, Option, ap, ◌≡◌, Some, None, ◌∙◌, List, [], ◌∷◌, ℕ, slice_get}
use Rattle.infer_branches.specs.Words.{Ty, Assignment, folded, ExprId, unit, Schedule, Part, inner, condition, then_branch, else_branch, expr_part, maybe_part, part_at, parts_of_expr, Given, IsAtOrMismatch, IsLess, expected_under, found_under, Closes, InferenceContext, CoerceDone, Before, Within, KindDone, KindWalked, LieAhead, Nothing, expr_end, common_under, common_of, Completes, Merges, MergesInto, CoerceMany}
use Rattle.hir_types.specs.declared.ty.Ty.TheVariants as ty
use Rattle.hir_types.specs.declared.ids.ExprOrPatId.TheVariants as node
use Rattle.infer_branches.specs.Words.hir_raw.declared.raw.RawExpr.TheVariants as expr
use Rattle.infer_branches.proofs.Words.{fine_bool, fine_expectation_grown, follows_twice, closes_before, walking_after, within_under, same_found, closes_earlier, WalksParts, begins_parts, comes_to, goes_past, at_kept, carried_closed, no_telling_if, carried_unit}
use Rattle.infer_branches.specs.Own.{AlternativeDone, ElseDone, BeforeElse, IsIfOf}
use Rattle.infer_branches.proofs.Alternatives.{StandsAs}
use Rattle.infer_branches.proofs.Branches.{both_done, merged_done}
use Rattle.infer_branches.proofs.InAlternatives.{AtAlternatives, bool_walked, less_fine, less_under, completed_fine, completed_follows, completes_under, begins_alternatives, comes_to_alternative, past_alternative, ends_alternatives}

-- ---- the parts of an `if`
abbrev branch_parts : ExprId → Option ExprId → List Part
branch_parts first other = expr_part then_branch first ∷ maybe_part else_branch other

-- the branches of the `if` n that are typed, beside which the condition is a truth value, or has a mismatch
abbrev pub InIf : Given → Schedule → ExprId → ExprId → Option Ty → List ExprId → CoerceMany → List Part → InferenceContext → InferenceContext → Type 0
InIf g s n c y es m ps mid f = AtAlternatives g s n y es m (λ r. IsAtOrMismatch r c ty.Bool) ps (expr_end g.body s n) mid f

module _ (g : Given) (s : Schedule) (n c first : ExprId) (other : Option ExprId) (is : IsIfOf g.body n c first other) where
  if_begins : (x : Option Ty) (f : InferenceContext) → Within g s n x f
      → WalksParts g s (inner (node.ExprId n)) (λ a. Nothing) (expr_part condition c ∷ branch_parts first other) f f
  if_begins x f w = begins_parts g s n (expr.If c first other) x f (λ a. Nothing) w is

  part_is : (k : ℕ) → part_at g.body (inner (node.ExprId n)) k ≡ slice_get (expr_part condition c ∷ branch_parts first other) k
  part_is k = ap (λ o. slice_get (parts_of_expr g.body o) k) is

  pub comes_to_condition : (x : Option Ty) (f : InferenceContext) → Within g s n x f → Before g s c (Some ty.Bool) f
  comes_to_condition x f w =
      comes_to _ _ _ _ condition c (branch_parts first other) f f (if_begins x f w) (Some ty.Bool) w.ready w.state.told (fine_bool g.scope f.goals.table)

  module _ (x y : Option Ty) (mid : InferenceContext) (w : Within g s n x mid) where
    pub past_condition : IsLess x y → (t : Ty) (none : CoerceMany) (f : InferenceContext) → none ≡ common_of y
        → CoerceDone g s c (Some ty.Bool) t mid f → InIf g s n c y [] none (branch_parts first other) mid f
    past_condition less t none f empty d =
        let is_bool = bool_walked g s n condition c t mid f (0, record { node_is = w.within; part = part_is 0 }) (λ r u h. h) d in
        let h : WalksParts g s (inner (node.ExprId n)) (λ a. Nothing) (branch_parts first other) mid f =
        goes_past _ _ _ _ (λ a. Nothing) (λ a. Nothing) (expr_part condition c) (branch_parts first other) mid mid f (if_begins x mid w) d.follows
        (λ a q. ((is_bool a q).walks, (is_bool a q).clock 0)) (λ a b m o. o) (λ a q b m o. absurd o) in
        let some = d.follows.sound.some in
        let there = h.each some.0 some.1 in
        begins_alternatives g s n y none (λ r. IsAtOrMismatch r c ty.Bool) (branch_parts first other) (expr_end g.body s n) mid f empty
        (fine_expectation_grown g.scope mid.goals.table f.goals.table y d.follows.grew (less_fine g.scope mid.goals.table x y less w.expected))
        h.follows there.ahead there.ends (λ a q. (h.each a q).walks) (λ a q. (is_bool a q).made)

    pub comes_to_branch : (none : CoerceMany) (f : InferenceContext) → InIf g s n c y [] none (branch_parts first other) mid f → Before g s first y f
    comes_to_branch none f h = comes_to_alternative _ _ _ _ _ _ _ _ _ _ _ then_branch first h w.ready w.state.told

    pub past_branch : (none m : CoerceMany) (f next : InferenceContext) → InIf g s n c y [] none (branch_parts first other) mid f
        → AlternativeDone g s first y none m f next → InIf g s n c y (first ∷ []) m (maybe_part else_branch other) mid next
    past_branch none m f next h d = past_alternative _ _ _ _ _ _ _ _ _ _ _ then_branch first h tt tt (λ a b k. at_kept g a b k c ty.Bool) m next d

    pub comes_to_else : (m : CoerceMany) (f : InferenceContext) → InIf g s n c y (first ∷ []) m (maybe_part else_branch other) mid f
        → BeforeElse g s n other y m f
    comes_to_else m f h = record {
      ready = w.ready;
      state = walking_after g s mid f w.state.told h.follows (λ a l. (h.each a l).walks.state);
      within = w.within;
      ahead = h.ahead;
      expected = h.expected;
      common = h.fine;
    }

-- everything is done at the `if`
if_walked : (g : Given) (s : Schedule) (n c first : ExprId) (other : Option ExprId) → IsIfOf g.body n c first other
    → (x y : Option Ty) (m made : CoerceMany) (t : Ty) (mid f new last : InferenceContext) → Within g s n x mid → IsLess x y
    → InIf g s n c y (first ∷ []) m (maybe_part else_branch other) mid f → ElseDone g s n other y m made f new
    → Completes g.scope y made t new last → (a : Assignment) → Closes a last
    → KindWalked g s n (expected_under a x) (folded a t) (found_under a mid) (found_under a last)
if_walked g s n c first (Some e) is x y m made t mid f new last w less h d k a q =
    let then_stands : StandsAs g.body n then_branch first = (1, record { node_is = w.within; part = part_is g s n c first (Some e) is 1 }) in
    let it : AlternativeDone g s e y m made f new = record { follows = d.follows; fine = d.fine; each = d.each } in
    let both = past_alternative g s n y (first ∷ []) m (λ r. IsAtOrMismatch r c ty.Bool) [] (expr_end g.body s n) mid f else_branch e h tt
    (then_branch, then_stands, tt) (λ i j z. at_kept g i j z c ty.Bool) made new it in
    both_done g s n c first e is (expected_under a x) (folded a t) (found_under a mid) (found_under a last)
    (ends_alternatives g s n y (first ∷ e ∷ []) made (λ r. IsAtOrMismatch r c ty.Bool) (expr_end g.body s n) mid new both (λ none. absurd (cc)) x t last k a q)
    (k.clock ∙ both.ends)
if_walked g s n c first None is x y m made t mid f new last w less h d k a q =
    let p : Closes a new = closes_earlier a new last k.grew q in
    let l : Closes a f = closes_before g a f new d.follows p in
    let o : Closes a mid = closes_before g a mid f h.follows l in
    let before = h.each a l in
    subst (λ z. KindWalked g s n (expected_under a x) (folded a t) (found_under a mid) z) (sym (same_found a new last k.result k.asked k.clock)) (
    merged_done g s n c first is _ _ _ _ (found_under a f) (within_under g s a mid o n x w) (less_under a x y less) h.ends before.beside
    (completed_fine a y made t new last k q) before.walks (common_under a m) (common_under a made) (found_under a new) before.merged
    (d.each a p) (completes_under a y made t k.is)
    )

pub ends_if : (g : Given) (s : Schedule) (n c first : ExprId) (other : Option ExprId) → IsIfOf g.body n c first other
    → (x y : Option Ty) (m made : CoerceMany) (t : Ty) (mid f new last : InferenceContext) → Within g s n x mid → IsLess x y
    → InIf g s n c y (first ∷ []) m (maybe_part else_branch other) mid f → ElseDone g s n other y m made f new
    → Completes g.scope y made t new last → KindDone g s n x t mid last
ends_if g s n c first other is x y m made t mid f new last w less h d k = record {
  follows = completed_follows g y made t mid new last (follows_twice g mid f new h.follows d.follows) k;
  fine = k.fine;
  tells = no_telling_if g n c first other is t;
  each = if_walked g s n c first other is x y m made t mid f new last w less h d k;
}

-- ---- the other branch
pub else_before : (g : Given) (s : Schedule) (n e : ExprId) (other : Option ExprId) (x : Option Ty) (m : CoerceMany) (f : InferenceContext)
    → other ≡ Some e → BeforeElse g s n other x m f → Before g s e x f
else_before g s n e other x m f is h =
    let a : LieAhead g.body s (inner (node.ExprId n)) f.clock (expr_part else_branch e ∷ []) =
    subst (λ o. LieAhead g.body s (inner (node.ExprId n)) f.clock (maybe_part else_branch o)) is h.ahead in
    record { ready = h.ready; state = h.state; within = a.fit.0; here = a.fit.1; expected = h.expected }

pub else_typed : (g : Given) (s : Schedule) (n e : ExprId) (other : Option ExprId) (x : Option Ty) (before after : CoerceMany) (old new : InferenceContext)
    → other ≡ Some e → AlternativeDone g s e x before after old new → ElseDone g s n other x before after old new
else_typed g s n e other x before after old new is d =
    subst (λ o. ElseDone g s n o x before after old new) (sym is) (record { follows = d.follows; fine = d.fine; each = d.each })

pub else_missing : (g : Given) (s : Schedule) (n : ExprId) (other : Option ExprId) (x : Option Ty) (before after : CoerceMany) (old new : InferenceContext)
    → other ≡ None → Merges g n unit before after old new → ElseDone g s n other x before after old new
else_missing g s n other x before after old new is d =
    subst (λ o. ElseDone g s n o x before after old new) (sym is) (record {
      follows = d.follows;
      fine = d.fine;
      each = λ a q.
          subst (λ t. MergesInto n t (common_under a before) (common_under a after) (found_under a old) (found_under a new))
          (carried_closed a unit carried_unit) (d.each a q);
    })
