-- The limits are in their ranges.
use Rattle.std.specs.Prelude.{ℕ, zero, suc, ◌≤◌, List, [], ◌∷◌}
use Rattle.hir_facts.specs.Words.{RawFacts}

-- goal depth, goal steps, autoderef, tail
abbrev pub limits_of : RawFacts → List ℕ
limits_of raw = raw.limits.goal_depth ∷ raw.limits.goal_steps ∷ raw.limits.autoderef ∷ raw.limits.tail ∷ []

abbrev pub most_at : ℕ → ℕ
most_at zero = 32
most_at (suc zero) = 65536
most_at (suc (suc i)) = 32

abbrev pub IsInRange : ℕ → ℕ → Type 0
IsInRange i n = (1 ≤ n) × (n ≤ most_at i)
