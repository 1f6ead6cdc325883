-- The bounds that are listed at associated types: The Rust Reference, "Associated types", "Trait bounds".
use Rattle.std.specs.Prelude.{◌≡◌, ℕ, List, ◌∷◌, map}
use Rattle.goal_facts.specs.Words.{TypeAliasId, TypeRefId, GenericArg, pair, chain, type_part, arg_term, RawGoal, RawAlias, RawFacts, alias_at, staying, Asked}
use Rattle.goal_facts.specs.Arguments.{type_at, args_at, goal_types, goal_with}
use Rattle.goal_facts.specs.Additions.{SomeSays}
use Rattle.goal_facts.specs.Environment.{trait_holes}

-- a bound on the alias says this of it where it was read and stays
abbrev pub BoundSays : RawFacts → TypeAliasId → List GenericArg → RawGoal → Asked → Type 0
BoundSays raw k xs g d =
    (w : TypeRefId) × (ws : List TypeRefId) × (goal_types g ≡ w ∷ ws)
    × (type_at raw xs w ≡ alias_at k (chain (map arg_term xs)))
    × (d ≡ goal_with raw xs g (pair (type_part (staying k (chain (map arg_term xs)))) (args_at raw xs ws)))

-- the associated type with this number lists it
abbrev pub AliasLists : RawFacts → ℕ → RawAlias → Asked → Type 0
AliasLists raw i a d = (k : TypeAliasId) × (k.0 ≡ i) × SomeSays (λ j g. BoundSays raw k (trait_holes raw a.trait_) g) a.bounds d

abbrev pub IsListed : RawFacts → Asked → Type 0
IsListed raw = SomeSays (AliasLists raw) raw.aliases
