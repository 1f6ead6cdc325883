use Rattle.std.proofs.Common.{◌≡◌, ◌+◌, [], length, inl, refl, sym, ap, ◌∙◌, subst, arith}
use Rattle.std.specs.Prelude.{Some, slice_get}
use Rattle.std.proofs.lemmas.Option.{slice_get_read}
use Rattle.infer_needs.specs.Words.{system, needs_at, scope_of}
use Rattle.infer_needs.specs.Own.{EntriesFitIn, AreAllJudged, FitOrAreSaid, WereRead, ListsAnswers, AddsRootsOf, first_needs}
use Rattle.infer_needs.proofs.Telling.{tells_none, tells_both, tells_here, first_more}
use Rattle.infer_needs.proofs.Rooted.{roots_both, roots_here}
use Rattle.infer_needs.proofs.Coming.{fit_then}
use Rattle.infer_needs.proofs.Judging.{all_none, all_more, judged_here}
use Rattle.infer_needs.proofs.Writing.{all_listed_later, lists_left_and}
use Rattle.infer_needs.proofs.prove.prove_exprs.Goals as goal

pub look_at_written-requires-clause-read : goal.look_at_written-requires-clause-read
look_at_written-requires-clause-read c =
    c.in_ok-look_at_table.ensures.adds.read (subst (WereRead (system c.args.sources.now.sources) c.args.sources.now.facts.limits.goal_depth) (sym c.new-found.ensures) (λ i x at. cc))

pub loop-at-init : goal.loop-at-init
loop-at-init c =
    let raw = c.args.sources.now.facts in
    let item = c.args.sources.now.item in
    let f = system c.args.sources.now.sources in
    let b = c.args.body.now in
    let r = c.args.table.now in
    let new = c.look_at_written.new in
    let left = lists_left_and raw c.args.def b r item f _ _ _ _ _ _ c.in_ok-look_at_table.ensures c.in_ok-look_at_written.ensures in
    record {
      judged = subst (λ gss. AreAllJudged raw (scope_of c.args.sources.now.facts c.args.def) f b r 0 new.proofs.items new.found gss) (sym c.new-gaps.ensures)
          (all_none raw item (scope_of c.args.sources.now.facts c.args.def) f b r new.proofs.items new.found (rw (c.new-found.ensures, c.new-proofs.ensures.items) at left));
      fit = λ k x at. inl (left.adds.fit (subst (EntriesFitIn raw item) (sym c.new-found.ensures) (λ j y there. absurd (cc))) k x at);
      written = c.in_ok-look_at_written.ensures.none;
      told = tells_none f raw.limits.goal_depth c.args.told.now.items;
      roots = subst (λ ps. AddsRootsOf c.args.sources.now.facts c.args.sources.now.item (system c.args.sources.now.sources) [] ps new.proofs.items) c.new-proofs.ensures.items left.adds.roots;
    }

pub prove_at-requires : goal.prove_at-requires
prove_at-requires c =
    let at = c.loop-at in
    let found : slice_get c.args.body.now.exprs at.at ≡ Some c.expr-item.result = ap (λ xs. slice_get xs at.at) (sym c.as_slice-expr-items.ensures) ∙ slice_get_read _ _ at.at _ refl c.loop-at-test.true c.expr-item.is in
    c.requires.needs at.at c.expr-item.result found

pub loop-at-preserved : goal.loop-at-preserved
loop-at-preserved c =
    let at = c.loop-at in
    let raw = c.args.sources.now.facts in
    let n = raw.limits.goal_depth in
    let f = system c.args.sources.now.sources in
    let b = c.args.body.now in
    let r = c.args.table.now in
    let x = c.expr-item.result in
    let new = c.prove_at.new in
    let done = c.in_ok-here.ensures in
    let found : slice_get b.exprs at.at ≡ Some x = ap (λ xs. slice_get xs at.at) (sym c.as_slice-expr-items.ensures) ∙ slice_get_read _ _ at.at _ refl c.loop-at-test.true c.expr-item.is in
    record {
      judged = subst (λ gss. AreAllJudged raw (scope_of c.args.sources.now.facts c.args.def) f b r (at.at + 1) new.proofs.items new.found gss) (sym c.in_ok-push.ensures.ok)
          (all_more raw (scope_of c.args.sources.now.facts c.args.def) f b r at.at at.proofs.items new.proofs.items at.found new.found at.gaps c.in_ok-here.here at.invariant.judged (judged_here raw (scope_of c.args.sources.now.facts c.args.def) f b r at.at x at.proofs.items new.proofs.items at.found new.found c.in_ok-here.here found done.judged));
      fit = subst (λ xs. FitOrAreSaid raw c.args.sources.now.item f xs new.found) (first_more raw b r at.at)
          (fit_then raw c.args.sources.now.item f (first_needs raw b r at.at) (needs_at raw b r at.at) at.found new.found at.invariant.fit (judged_here raw (scope_of c.args.sources.now.facts c.args.def) f b r at.at x at.proofs.items new.proofs.items at.found new.found c.in_ok-here.here found done.judged).from);
      written = all_listed_later raw c.args.def b r f at.found new.found done.judged.lists.behind at.invariant.written;
      told = subst (λ xs. ListsAnswers f n xs c.args.told.now.items new.told.items) (first_more raw b r at.at)
          (tells_both f n (first_needs raw b r at.at) (needs_at raw b r at.at) c.args.told.now.items at.told.items new.told.items at.invariant.told (tells_here f n raw b r at.at x at.told.items new.told.items found done.told));
      roots = subst (λ xs. AddsRootsOf c.args.sources.now.facts c.args.sources.now.item (system c.args.sources.now.sources) xs [] new.proofs.items) (first_more raw b r at.at)
          (roots_both (first_needs raw b r at.at) (needs_at raw b r at.at) [] at.proofs.items new.proofs.items at.invariant.roots (roots_here raw b r at.at x at.proofs.items new.proofs.items found done.roots));
    }

pub returns-clause-roots : goal.returns-clause-roots
returns-clause-roots c =
    let at = c.loop-at in
    let long = ap length c.as_slice-expr-items.ensures in
    let end : at.at ≡ length c.args.body.now.exprs = omega (arith, long) in
    subst (λ n. AddsRootsOf c.args.sources.now.facts c.args.sources.now.item (system c.args.sources.now.sources) (first_needs c.args.sources.now.facts c.args.body.now c.args.table.now n) [] at.proofs.items) end at.invariant.roots

pub returns-clause-fit : goal.returns-clause-fit
returns-clause-fit c =
    let at = c.loop-at in
    let raw = c.args.sources.now.facts in
    let long = ap length c.as_slice-expr-items.ensures in
    let end : at.at ≡ length c.args.body.now.exprs = omega (arith, long) in
    subst (λ n. FitOrAreSaid raw c.args.sources.now.item (system c.args.sources.now.sources) (first_needs raw c.args.body.now c.args.table.now n) at.found) end at.invariant.fit
