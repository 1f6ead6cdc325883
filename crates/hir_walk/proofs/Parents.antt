-- The innermost node around an expression or pattern is the one of which it is a part.
use Rattle.std.proofs.Common.{◌≡◌, ◌≤◌, ◌+◌, ℕ, Some, None, ◌∙◌, ap, subst, arith, inl, inr}
use Rattle.std.proofs.lemmas.Bool.{cases_lt}
use Rattle.hir_walk.specs.Words.{RawBody, Schedule, ExprOrPatId, IsInBody, IsSchedule, Node, Part, inner, part_at, parts, position, start, end}
use Rattle.hir_walk.specs.Own.{IsAroundFrom, IsInnermost}
use Rattle.hir_walk.proofs.Words.{Reached, nested, part_inside, parts_apart, reached_by, under}

module _ (b : RawBody) (s : Schedule) (law : IsSchedule b s) (k : ℕ) (x : ExprOrPatId) (is : IsInBody b x) (at : start b s (inner x) ≡ k) where
  -- that node
  pub above : Reached b s x
  above = reached_by b s law x is

  -- it is around what stands in it
  above_around : IsAroundFrom b s k k above.parent
  above_around =
      let inside = part_inside b s law above.parent above.place above.part above.is_node above.there in
      let same : end b s (inner above.part.node) ≡ end b s (inner x) = ap (λ (y : ExprOrPatId). end b s (inner y)) above.same in
      let grown = law.order (inner x) is in
      let later = above.later in
      let to = inside.2 in
      (above.is_node, (omega (arith, later, at), omega (arith, to, same, grown, at)), omega (arith, later, at))

  pub some_innermost : IsInnermost b s k k None → ⊥
  some_innermost none = none above.parent above_around

  -- no other node around it begins after that one
  begins_last : (n : Node) → IsAroundFrom b s k k n → start b s n ≤ start b s above.parent
  begins_last n around = elim (cases_lt (start b s above.parent) (start b s n)) [
    | inl lt ↦
        (let from = around.1.0 in
        let to = around.1.1 in
        let u = under b s law above.parent (start b s n) above.is_node lt (let all = above_around.1.1 in omega (arith, from, all)) in
        let c = part_inside b s law above.parent u.place u.part above.is_node u.there in
        let held = nested b s law (end b s (inner u.part.node)) (inner u.part.node) n c.0 around.0 (omega arith) u.from u.below in
        let grown = law.order (inner x) is in
        let own : start b s (inner above.part.node) ≡ start b s (inner x) = ap (λ (y : ExprOrPatId). start b s (inner y)) above.same in
        let own_end : end b s (inner above.part.node) ≡ end b s (inner x) = ap (λ (y : ExprOrPatId). end b s (inner y)) above.same in
        let before = u.from in
        let place : u.place ≡ above.place = parts_apart b s law (start b s above.parent + 1) (parts b above.parent) u.place above.place k u.part above.part (law.fits above.parent above.is_node) u.there above.there
        (omega (arith, before, from)) (omega (arith, held, to)) (omega (arith, own, at)) (omega (arith, own_end, grown, at)) in
        let there : part_at b above.parent above.place ≡ Some u.part = subst (λ (i : ℕ). part_at b above.parent i ≡ Some u.part) place u.there in
        let there_too = above.there in
        let part : u.part ≡ above.part = cc in
        let same : start b s (inner u.part.node) ≡ start b s (inner above.part.node) = ap (λ (p : Part). start b s (inner p.node)) part in
        absurd (omega (arith, same, own, at, before, from)))
    | inr ge ↦ ge
  ]

  pub innermost_above : (i : ℕ) → IsInnermost b s k k (Some i) → position b above.parent ≡ i
  innermost_above i n =
      let no_later = begins_last n.0 n.1 in
      let no_sooner = n.3 above.parent above_around in
      ap (position b) (law.apart above.parent n.0 above.is_node n.1.0 (omega (arith, no_later, no_sooner))) ∙ n.2
