use Rattle.std.proofs.Common.{◌≡◌, map, take}
use Rattle.std.specs.Prelude.{IfSome}
use Rattle.std.specs.Option.{option_map}
use Rattle.goal_facts.specs.Words.{Each, term_of, HasHeads}
use Rattle.goal_facts.specs.Own.{last_field_of}
use Rattle.goal_facts.proofs.sources.last_fields.Given as goal

abbrev pub invariant-loop-adt : goal.invariant-loop-adt
invariant-loop-adt l = (map (option_map term_of) l.made.items ≡ map (last_field_of l.facts) (take l.adt-index l.adts)) × Each (λ o. IfSome o (λ ty. HasHeads (term_of ty))) l.made.items
