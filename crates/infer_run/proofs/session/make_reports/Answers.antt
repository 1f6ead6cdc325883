use Rattle.infer_run.proofs.MadeReports.{nothing_yet, seen_more, all_seen}
use Rattle.infer_run.proofs.session.make_reports.Goals as goal

pub loop-def-init : goal.loop-def-init
loop-def-init c = nothing_yet c.args.facts.now c.args.defs.now c.new-reports.result c.new-reports.ensures.empty

pub loop-def-preserved : goal.loop-def-preserved
loop-def-preserved c =
    seen_more c.args.facts.now c.args.defs.now c.loop-def.def-index c.loop-def.reports c.add_report.new.reports _ c.loop-def-test.true c.loop-def.invariant c.in_ok-add_report.ensures

pub returns : goal.returns
returns c = all_seen c.args.facts.now c.args.defs.now c.loop-def.def-index c.loop-def.reports c.loop-def-test.false c.loop-def.invariant
