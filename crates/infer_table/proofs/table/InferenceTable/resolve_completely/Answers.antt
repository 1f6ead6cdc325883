use Rattle.infer_table.proofs.CompletionLaws.{completed_if_ok}
use Rattle.infer_table.proofs.table.InferenceTable.resolve_completely.Goals as goal

pub returns-clause-no_hole : goal.returns-clause-no_hole
returns-clause-no_hole g c =
    completed_if_ok g.T.Folded.replaced g.met.T.Folded.composition c.self.inside.bindings.log c.args.value.now c.fold_with.result c.fold_with.ensures
