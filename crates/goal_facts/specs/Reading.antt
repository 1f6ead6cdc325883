-- What types read as.
use Rattle.std.specs.Prelude.{◌≡◌, ◌⊎◌, ℕ, Option, Some, None}
use Rattle.goal_facts.specs.Words.{Ty, term, ReadsAs, System, answers}

-- the type reads as the type at the depth; its holes stay
abbrev pub TypeReads : System → ℕ → Ty → Ty → Type 0
TypeReads f n t u = ReadsAs (answers f n).Alias (term t) (term u)

-- it reads so, or as no type
abbrev pub IsTypeRead : System → ℕ → Ty → Option Ty → Type 0
IsTypeRead f n t (Some u) = TypeReads f n t u
IsTypeRead f n t None = (u : Ty) → TypeReads f n t u → ⊥

-- what it reads as, or the type itself where it reads as none
abbrev pub IsReadOrItself : System → ℕ → Ty → Ty → Type 0
IsReadOrItself f n t u = TypeReads f n t u ⊎ (IsTypeRead f n t None × (u ≡ t))
