use Rattle.std.proofs.Common.{◌++◌}
use Rattle.std.specs.Prelude.{map}
use Rattle.infer_result.specs.Words.{asked_goal}
use Rattle.infer_result.specs.Own.{alias_goals_from}
use Rattle.infer_result.proofs.AliasGoals.{AreUpTo}
use Rattle.infer_result.proofs.needed.push_aliases.Given as goal

abbrev pub invariant-loop-place : goal.invariant-loop-place
invariant-loop-place l = AreUpTo l.facts l.args l.params l.aliases (map asked_goal l.fn.made.items ++ alias_goals_from l.facts l.args l.params l.aliases) (map asked_goal l.made.items) l.place
