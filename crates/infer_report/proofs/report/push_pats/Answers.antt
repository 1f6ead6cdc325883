use Rattle.std.proofs.Common.{string_bytes}
use Rattle.infer_report.specs.Words.{pat_line}
use Rattle.infer_report.proofs.Lines.{writes_on, is_written}
use Rattle.infer_report.proofs.report.push_pats.Goals as goal

pub loop-at-preserved : goal.loop-at-preserved
loop-at-preserved c =
    writes_on (pat_line c.args.facts.now c.args.modes.now c.args.variants.now) c.args.types.now c.loop-at.at c.index-types-at.result (string_bytes c.loop-at.out) (string_bytes c.push_pat.new.out) _
    c.loop-at-test.true c.index-types-at.is c.in_ok-push_pat.ensures c.loop-at.invariant

pub returns : goal.returns
returns c = is_written (pat_line c.args.facts.now c.args.modes.now c.args.variants.now) c.args.types.now c.loop-at.at (string_bytes c.loop-at.out) _ c.loop-at-test.false c.loop-at.invariant
