use Rattle.std.proofs.Common.{◌≡◌, false, take}
use Rattle.std.specs.List.{list_any}
use Rattle.goal_search.specs.Words.{is_trait}
use Rattle.goal_search.proofs.parts.is_listed.Given as goal

-- none of those before is the wanted one
abbrev pub invariant-loop-listed : goal.invariant-loop-listed
invariant-loop-listed l = list_any (is_trait l.wanted) (take l.listed-index l.traits) ≡ false
