use Rattle.std.proofs.Common.{◌≡◌}
use Rattle.std.specs.Prelude.{slice_get, Some}
use Rattle.std.proofs.lemmas.Result.{IfOk-weaker}
use Rattle.goal_facts.specs.Words.{Rule, system}
use Rattle.goal_facts.specs.Own.{ComesFrom, IsPlaceOf}
use Rattle.goal_facts.proofs.RulePlaces.{rule_from}
use Rattle.goal_facts.proofs.item_sources.ItemSources.rule_impl.Goals as goal

pub returns : goal.returns
returns c =
    let raw = c.args.self.now.facts in
    let rs = (system c.args.self.now.sources).rules in
    IfOk-weaker c.impl_at.result
    (λ found. IsPlaceOf raw c.args.place found)
    (λ found. (r : Rule) → slice_get rs c.args.place ≡ Some r → ComesFrom raw r found)
    (λ found h r at. rule_from raw rs c.lawful.ensures.rules c.args.place found h r at)
    (rw c.facts.ensures at c.impl_at.ensures)
