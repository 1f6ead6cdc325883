-- Bindings that make terms equal.
use Rattle.std.specs.Prelude.{◌≡◌, ◌++◌, [], ◌∷◌}
use Rattle.goal_terms.specs.Words.{Log, Triangular}
use Rattle.goal_terms.specs.Terms.{HasHeads}

abbrev pub HaveHeads : Log → Type 0
HaveHeads [] = Unit {0}
HaveHeads (p ∷ l) = HasHeads p.1 × HaveHeads l

-- without cycles, to terms with heads
pub record IsLog (l : Log) : Type 0 where
  pub triangular : Triangular l
  pub heads : HaveHeads l

-- only bindings are added
pub record Extends (before after : Log) : Type 0 where
  pub is_log : IsLog after
  pub added : (l : Log) × (after ≡ before ++ l)
