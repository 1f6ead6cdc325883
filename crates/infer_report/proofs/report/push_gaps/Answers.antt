use Rattle.std.proofs.Common.{string_bytes}
use Rattle.infer_report.specs.Words.{gap_line}
use Rattle.infer_report.proofs.Lines.{writes_on, is_written}
use Rattle.infer_report.proofs.report.push_gaps.Goals as goal

pub loop-gap-preserved : goal.loop-gap-preserved
loop-gap-preserved c =
    writes_on (gap_line c.args.facts.now) c.args.gaps.now c.loop-gap.gap-index c.gap-item.result (string_bytes c.loop-gap.out) (string_bytes c.push_gap.new.out) _
    c.loop-gap-test.true c.gap-item.is c.in_ok-push_gap.ensures c.loop-gap.invariant

pub returns : goal.returns
returns c = is_written (gap_line c.args.facts.now) c.args.gaps.now c.loop-gap.gap-index (string_bytes c.loop-gap.out) _ c.loop-gap-test.false c.loop-gap.invariant
