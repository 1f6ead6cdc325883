use Rattle.std.proofs.Common.{true≢false, refl, sym, ◌∙◌, Some, None}
use Rattle.goal_search.specs.Words.{hole, implements, term_of}
use Rattle.goal_search.proofs.Words.{each_all}
use Rattle.goal_search.specs.Own.{system, IsSizedBy}
use Rattle.goal_search.proofs.Heads.{reading_done, heads_in}
use Rattle.goal_search.proofs.Walking.{stay_done}
use Rattle.goal_search.proofs.Sizes.{walk_not, by_none_so_far, sized_by_none, sized_by_one, sized_by_neither}
use Rattle.goal_search.proofs.search.Search.is_sized.Goals as goal

pub read-requires-clause-fills : goal.read-requires-clause-fills
read-requires-clause-fills c = stay_done (term_of c.args.ty.now)

pub returns-in_default-clause-answer : goal.returns-in_default-clause-answer
returns-in_default-clause-answer c =
    let none = rw c.in_default.is at c.in_ok-reading.ensures.answer in
    (λ e. absurd (true≢false (sym e)), λ s. absurd (none s.0 s.1))

pub sized-requires : goal.sized-requires
sized-requires c =
    record { ty = reading_done (system c.args.self.now) (heads_in (c.self.view_is ∙ c.read.ensures.same) c.self.invariant.1) c.args.depth hole (term_of c.args.ty.now) (term_of c.in-Some.reading) c.requires.heads (stay_done (term_of c.args.ty.now)) (rw c.in-Some.is at c.in_ok-reading.ensures.answer) }

pub sized-requires-in-loop-listed : goal.sized-requires-in-loop-listed
sized-requires-in-loop-listed c =
    record { ty = reading_done (system c.args.self.now) (heads_in (c.self.view_is ∙ c.read.ensures.same) c.self.invariant.1) c.args.depth hole (term_of c.args.ty.now) (term_of c.in-Some.reading) c.requires.heads (stay_done (term_of c.args.ty.now)) (rw c.in-Some.is at c.in_ok-reading.ensures.answer) }

pub returns-then-is_yes-clause-answer : goal.returns-then-is_yes-clause-answer
returns-then-is_yes-clause-answer c =
    let read = rw c.in-Some.is at c.in_ok-reading.ensures.answer in
    (λ e. sized_by_none (system c.args.self.now) c.args.depth (term_of c.args.ty.now) (term_of c.in-Some.reading) read c.in_ok-sized.field-0 (rw (c.self.view_is, c.read.ensures.same) at c.in_ok-sized.ensures.answer) (c.is_yes.ensures.0 c.if-is_yes.true), λ s. refl)

pub returns-then-is_yes-2-clause-answer : goal.returns-then-is_yes-2-clause-answer
returns-then-is_yes-2-clause-answer c =
    let read = rw c.in-Some.is at c.in_ok-reading.ensures.answer in
    let within = rw (c.as_slice-listed-items.ensures.value, c.self.view_is, c.read.ensures.same) at c.loop-listed-test.true in
    let walk = rw (c.as_slice-listed-items.ensures.value, c.self.view_is, c.read.ensures.same, c.loop-listed.invariant.same) at c.in_ok-sized-2.ensures.answer in
    (λ e. sized_by_one (system c.args.self.now) c.args.depth (term_of c.args.ty.now) (term_of c.in-Some.reading) read c.loop-listed.listed-index _ within c.in_ok-sized-2.field-0 walk (c.is_yes-in-loop-listed.ensures.0 c.if-is_yes-2.true), λ s. refl)

pub loop-listed-preserved : goal.loop-listed-preserved
loop-listed-preserved c =
    let within = rw (c.as_slice-listed-items.ensures.value, c.self.view_is, c.read.ensures.same) at c.loop-listed-test.true in
    let walk = rw (c.as_slice-listed-items.ensures.value, c.self.view_is, c.read.ensures.same, c.loop-listed.invariant.same) at c.in_ok-sized-2.ensures.answer in
    record {
      same = c.sized-in-loop-listed.ensures.same ∙ c.loop-listed.invariant.same;
      so_far =
          by_none_so_far (system c.args.self.now) c.args.depth (term_of c.in-Some.reading) c.loop-listed.listed-index _ within c.in_ok-sized-2.field-0 walk
          (λ e. true≢false (sym (c.is_yes-in-loop-listed.ensures.1 e) ∙ c.if-is_yes-2.false)) c.loop-listed.invariant.so_far;
    }

pub returns-clause-answer : goal.returns-clause-answer
returns-clause-answer c =
    let f = system c.args.self.now in let n = c.args.depth in let u = term_of c.in-Some.reading in
    let read = rw c.in-Some.is at c.in_ok-reading.ensures.answer in
    let none = walk_not f n None f.tail u c.in_ok-sized.field-0 (rw (c.self.view_is, c.read.ensures.same) at c.in_ok-sized.ensures.answer) (λ e. true≢false (sym (c.is_yes.ensures.1 e) ∙ c.if-is_yes.false)) in
    let past = rw (c.as_slice-listed-items.ensures.value, c.self.view_is, c.read.ensures.same) at c.loop-listed-test.false in
    let each = each_all (λ j. IsSizedBy f n (Some (implements j)) f.tail u → ⊥) f.sized c.loop-listed.listed-index past c.loop-listed.invariant.so_far in
    (λ e. absurd (true≢false (sym e)), λ s. absurd (sized_by_neither f n (term_of c.args.ty.now) u read none each s))
