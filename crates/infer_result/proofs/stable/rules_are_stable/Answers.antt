use Rattle.infer_result.proofs.StableRules.{node_rules_are_stable}
use Rattle.infer_result.proofs.stable.rules_are_stable.Goals as goal

pub returns : goal.returns
returns c = node_rules_are_stable c.args.facts.now c.lawful.ensures
