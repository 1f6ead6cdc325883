use Rattle.infer_table.proofs.Unifying.{known_same, known_none_bound}
use Rattle.infer_table.proofs.bindings.Bindings.known.Goals as goal

pub returns-clause-same : goal.returns-clause-same
returns-clause-same c = known_same c.resolve_ty.result c.args.self.now.log c.args.ty.now c.resolve_ty.ensures

pub returns-clause-none_bound : goal.returns-clause-none_bound
returns-clause-none_bound c =
    known_none_bound c.resolve_ty.result c.args.self.now c.args.ty.now c.log-log.ensures.acyclic c.log-log.ensures.made c.requires c.resolve_ty.ensures
