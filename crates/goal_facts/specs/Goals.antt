-- The goals of inference, and their answers at the depth to which the facts let goals be followed.
use Rattle.std.specs.Prelude.{ℕ, map}
use Rattle.goal_facts.specs.Words.{GenericDefId, Goal, TraitRef, out-TraitRef, pair, chain, term, arg_term, RawFacts, Asked, System, implements, projects, answers, Answer, Sources, Decides}
use Rattle.hir_types.specs.declared.goal.Goal.TheVariants as goal

abbrev pub trait_goal : TraitRef → Asked
trait_goal r = record { kind = implements (out-TraitRef r).id; parts = chain (map arg_term (out-TraitRef r).args) }

-- what a goal of inference asks
abbrev pub asked_goal : Goal → Asked
asked_goal (goal.Trait r) = trait_goal r
asked_goal (goal.Projection k xs t) = record { kind = projects k; parts = pair (chain (map arg_term xs)) (term t) }

-- the answer at a depth
abbrev pub IsAnswer : System → ℕ → Asked → Answer → Type 0
IsAnswer f n g a = Decides ((answers f n).Yes g) ((answers f n).No g) a

-- what the goals of an item of the facts are answered by
pub record ItemSources : Type 0 where
  pub facts : RawFacts
  pub item : GenericDefId
  pub sources : Sources
