use Rattle.std.proofs.Common.{◌≡◌, true, refl, ap, sym, ◌∙◌}
use Rattle.infer_run.specs.Request.{status_by}
use Rattle.infer_run.specs.declared.words.Request.TheVariants as request
use Rattle.std.specs.Prelude.{nat_lt}
use Rattle.infer_run.proofs.Endings.{by_later, kept}
use Rattle.infer_run.proofs.running.answer_table.Goals as goal

pub returns-in-Ok-write_report : goal.returns-in-Ok-write_report
returns-in-Ok-write_report g c = λ defs.
    c.finish.ensures (request.Table c.args.def) defs (record {
      table = c.in-Ok.table;
      promised = c.in-Ok.ensures;
      table_is = refl;
      due_is = c.as_str.ensures.value ∙ c.in-Ok-write_report.ensures;
      status_is = ap (λ n. status_by (nat_lt 0 n)) c.count_complaints-complains.ensures;
    })

pub returns-then-not-has_carried_body : goal.returns-then-not-has_carried_body
returns-then-not-has_carried_body g c = λ defs.
    rw c.later.ensures (by_later (request.Table c.args.def) c.args.facts defs c.in-Some.body
    (sym c.in-Some.ensures, λ has. (let yes : c.has_carried_body.result ≡ true = c.has_carried_body.ensures.1 has in let no = c.if-not-has_carried_body.true in cc))
    _ _ _ _ (kept (g.K.Sink.written c.args.sink.now)))
