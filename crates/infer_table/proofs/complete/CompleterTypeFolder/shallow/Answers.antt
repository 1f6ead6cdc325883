use Rattle.infer_table.proofs.CompletionLaws.{completed_same}
use Rattle.infer_table.proofs.complete.CompleterTypeFolder.shallow.Goals as goal

pub returns-clause-same : goal.returns-clause-same
returns-clause-same c =
    completed_same c.args.self.now.bindings.now.log c.shallow_resolve.result.now c.args.ty.now c.shallow_resolve.ensures.same
