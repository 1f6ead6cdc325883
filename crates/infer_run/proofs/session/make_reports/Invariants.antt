use Rattle.infer_run.proofs.MadeReports.{SoFar}
use Rattle.infer_run.proofs.session.make_reports.Given as goal

abbrev pub invariant-loop-def : goal.invariant-loop-def
invariant-loop-def l = SoFar l.facts l.defs l.def-index l.reports
