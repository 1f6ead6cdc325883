use Rattle.std.proofs.Common.{◌≡◌, take}
use Rattle.std.specs.Prelude.{flat_map}
use Rattle.goal_facts.specs.Own.{sized_by}
use Rattle.goal_facts.proofs.sources.sized_traits.Given as goal

abbrev pub invariant-loop-item : goal.invariant-loop-item
invariant-loop-item l = l.made.items ≡ flat_map sized_by (take l.item-index l.lang)
