use Rattle.std.proofs.Common.{ap, ◌∙◌}
use Rattle.infer_table.specs.Words.{const_term}
use Rattle.infer_table.specs.Own.{resolution_const_term}
use Rattle.infer_table.proofs.Unifying.{known_resolved}
use Rattle.infer_table.proofs.bindings.Bindings.known_const.Goals as goal

pub returns-clause-same : goal.returns-clause-same
returns-clause-same c = ap const_term c.resolve_const.ensures ∙ resolution_const_term c.args.self.now.log c.args.value

pub returns-clause-none_bound : goal.returns-clause-none_bound
returns-clause-none_bound c =
    known_resolved c.args.self.now (const_term c.args.value) (const_term c.resolve_const.result) c.log-log.ensures.acyclic c.log-log.ensures.made c.requires
    (ap const_term c.resolve_const.ensures ∙ resolution_const_term c.args.self.now.log c.args.value)
