use Rattle.std.proofs.Common.{subst}
use Rattle.infer_table.proofs.CompletionLaws.{completion_meets, completion_respects}
use Rattle.infer_table.specs.Own.{Triangular, log_of, State, bindings}
use Rattle.infer_table.proofs.table.InferenceTable.lawful.Goals as goal

abbrev HasNoCycle : State → Type 0
HasNoCycle s = Triangular (log_of (bindings s))

pub returns-clause-meets : goal.returns-clause-meets
returns-clause-meets c = completion_meets c.args.self.now (subst HasNoCycle c.self.view_is c.log-log.ensures.acyclic)

pub returns-clause-respects : goal.returns-clause-respects
returns-clause-respects c = completion_respects c.args.self.now (subst HasNoCycle c.self.view_is c.log-log.ensures.acyclic)
