use Rattle.std.proofs.Common.{string_bytes}
use Rattle.infer_report.specs.Words.{binding_line}
use Rattle.infer_report.proofs.Lines.{writes_on, is_written}
use Rattle.infer_report.proofs.report.push_bindings.Goals as goal

pub loop-at-preserved : goal.loop-at-preserved
loop-at-preserved c =
    writes_on (binding_line c.args.facts.now) c.args.types.now c.loop-at.at c.index-types-at.result (string_bytes c.loop-at.out) (string_bytes c.push_binding.new.out) _
    c.loop-at-test.true c.index-types-at.is c.in_ok-push_binding.ensures c.loop-at.invariant

pub returns : goal.returns
returns c = is_written (binding_line c.args.facts.now) c.args.types.now c.loop-at.at (string_bytes c.loop-at.out) _ c.loop-at-test.false c.loop-at.invariant
