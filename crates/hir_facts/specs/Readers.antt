-- What the readers of the facts give where that is no field.
use Rattle.std.specs.Prelude.{ℕ, List, [], ◌∷◌}
use Rattle.hir_facts.specs.Words.{Edition, RawLimits}
use Rattle.hir_raw.specs.declared.raw.Edition.TheVariants as edition

abbrev pub edition_year : Edition → ℕ
edition_year edition.Edition2015 = 2015
edition_year edition.Edition2018 = 2018
edition_year edition.Edition2021 = 2021
edition_year edition.Edition2024 = 2024

-- of goals, of their steps, of dereferences and of tails
abbrev pub limits_in_order : RawLimits → List ℕ
limits_in_order l = l.goal_depth ∷ l.goal_steps ∷ l.autoderef ∷ l.tail ∷ []
