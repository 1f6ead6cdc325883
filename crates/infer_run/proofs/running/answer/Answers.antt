use Rattle.std.proofs.Common.{[], ◌∷◌}
use Rattle.infer_run.specs.Answer.{read, unread}
use Rattle.infer_run.proofs.Endings.{kept, read_none, read_one}
use Rattle.infer_run.proofs.running.answer.Goals as goal

pub returns-in-Ok : goal.returns-in-Ok
returns-in-Ok g c = rw c.in-Table.is (read (c.in-Ok.facts, c.in-Table.def ∷ []) (read_one c.in-Table.def c.in-Ok.facts _ c.in-Ok.ensures) (c.answer_table.ensures (c.in-Table.def ∷ [])))

pub returns-in-Ok-read_session : goal.returns-in-Ok-read_session
returns-in-Ok-read_session g c = rw c.in-Session.is (read (c.in-Ok-read_session.facts, c.in-Ok-read_session.defs) c.in-Ok-read_session.ensures (rw c.as_slice.ensures at c.answer_session.ensures))

pub returns-in-Err : goal.returns-in-Err
returns-in-Err g c = rw c.in-Table.is (unread c.in-Err.fault (read_none c.in-Table.def c.in-Err.fault _ c.in-Err.ensures) c.refused.ensures (kept (g.K.Sink.written c.args.sink.now)))

pub returns-in-Err-read_session : goal.returns-in-Err-read_session
returns-in-Err-read_session g c = rw c.in-Session.is (unread c.in-Err-read_session.fault c.in-Err-read_session.ensures c.refused-in-Err-read_session.ensures (kept (g.K.Sink.written c.args.sink.now)))
