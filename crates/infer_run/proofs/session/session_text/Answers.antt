use Rattle.infer_run.proofs.MadeReports.{is_due, whole_text}
use Rattle.infer_run.proofs.session.session_text.Goals as goal

pub returns : goal.returns
returns c =
    let told = c.in_ok-complains.ensures c.in_ok-reports.ensures.answers c.in_ok-reports.ensures.fits in
    is_due c.args.facts.now c.args.defs.now c.in_ok-reports.reports c.in_ok-reports.ensures c.in_ok-complains.complains _ told.0
    (whole_text _ _ _ _ c.len-count.result _ c.in_ok-writeln.ensures.bytes told.1 c.new-text.ensures.bytes c.len-count.ensures.len)
