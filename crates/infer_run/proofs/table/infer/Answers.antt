use Rattle.infer_run.proofs.Promised.{promised}
use Rattle.infer_run.proofs.table.infer.Goals as goal

pub returns : goal.returns
returns c =
    let q = c.infer_query_with_inspect.ensures in
    promised c.args.facts.now c.args.def c.requires c.infer_query_with_inspect.result
    q.table q.general q.stays q.goals q.left q.written q.roots q.fit q.proofs q.selected
