use Rattle.std.proofs.Common.{◌+◌, [], sym, subst}
use Rattle.infer_needs.specs.Words.{system, pat_needs_at, scope_of}
use Rattle.infer_needs.specs.Own.{ArePatsJudged, ListsAnswers, AddsRootsOf, first_pat_needs}
use Rattle.infer_needs.proofs.Telling.{tells_none, tells_both, first_pat_more}
use Rattle.infer_needs.proofs.Rooted.{roots_none, roots_both}
use Rattle.infer_needs.proofs.Judging.{pats_none, pats_more}
use Rattle.infer_needs.proofs.prove.prove_pats.Goals as goal

pub loop-at-init : goal.loop-at-init
loop-at-init c =
    let raw = c.args.sources.now.facts in
    let f = system c.args.sources.now.sources in
    record {
      judged = rw c.new-gaps.ensures (pats_none raw (scope_of c.args.sources.now.facts c.args.def) f c.args.table.now c.args.proofs.now.items c.args.found.now);
      told = tells_none f raw.limits.goal_depth c.args.told.now.items;
      roots = roots_none [] c.args.proofs.now.items;
    }

pub loop-at-preserved : goal.loop-at-preserved
loop-at-preserved c =
    let at = c.loop-at in
    let raw = c.args.sources.now.facts in
    let n = raw.limits.goal_depth in
    let f = system c.args.sources.now.sources in
    let r = c.args.table.now in
    let new = c.prove_pat.new in
    let done = c.in_ok-here.ensures in
    record {
      judged = subst (λ gss. ArePatsJudged raw (scope_of c.args.sources.now.facts c.args.def) f r (at.at + 1) c.args.proofs.now.items new.proofs.items c.args.found.now new.found gss) (sym c.in_ok-push.ensures.ok)
          (pats_more raw (scope_of c.args.sources.now.facts c.args.def) f r at.at c.args.proofs.now.items at.proofs.items new.proofs.items c.args.found.now at.found new.found at.gaps c.in_ok-here.here at.invariant.judged done.judged);
      told = subst (λ xs. ListsAnswers f n xs c.args.told.now.items new.told.items) (first_pat_more raw r at.at)
          (tells_both f n (first_pat_needs raw r at.at) (pat_needs_at raw r at.at) c.args.told.now.items at.told.items new.told.items at.invariant.told done.told);
      roots = subst (λ xs. AddsRootsOf c.args.sources.now.facts c.args.sources.now.item (system c.args.sources.now.sources) xs c.args.proofs.now.items new.proofs.items) (first_pat_more raw r at.at)
          (roots_both (first_pat_needs raw r at.at) (pat_needs_at raw r at.at) c.args.proofs.now.items at.proofs.items new.proofs.items at.invariant.roots done.roots);
    }
