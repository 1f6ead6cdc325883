use Rattle.std.proofs.Common.{◌≡◌, None, sym, ◌∙◌}
use Rattle.std.specs.HashMap.{get}
use Rattle.infer_run.specs.Reports.{def_eq}
use Rattle.infer_run.proofs.MadeReports.{is_none, one_more}
use Rattle.infer_run.proofs.session.add_report.Goals as goal

pub returns : goal.returns
returns c = λ seen made.
    let absent : get def_eq c.args.reports.now c.args.def ≡ None = is_none _ (sym c.contains_key.ensures ∙ c.if-contains_key.false) in
    let old : c.in_ok-insert.field-0 ≡ None = c.in_ok-insert.ensures.old ∙ absent in
    one_more c.args.facts.now seen c.args.reports.now made c.args.def c.in_ok-report.report c.in_ok-report.ensures absent c.insert.new.self c.in_ok-insert.ensures.updates (rw old at c.in_ok-insert.ensures.len)
