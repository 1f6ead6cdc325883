use Rattle.std.proofs.Common.{string_bytes}
use Rattle.infer_report.specs.Words.{complaints}
use Rattle.infer_report.proofs.Lines.{writes_on, is_written}
use Rattle.infer_report.proofs.report.push_complaints.Goals as goal

pub loop-at-preserved : goal.loop-at-preserved
loop-at-preserved c =
    writes_on (complaints c.args.facts.now c.args.letter.now c.args.diagnostics.now c.args.gaps.now) c.args.mismatches.now c.loop-at.at c.index-mismatches-at.result (string_bytes c.loop-at.out) (string_bytes c.push_complaints_at.new.out) _
    c.loop-at-test.true c.index-mismatches-at.is c.in_ok-push_complaints_at.ensures c.loop-at.invariant

pub returns : goal.returns
returns c = is_written (complaints c.args.facts.now c.args.letter.now c.args.diagnostics.now c.args.gaps.now) c.args.mismatches.now c.loop-at.at (string_bytes c.loop-at.out) _ c.loop-at-test.false c.loop-at.invariant
