-- The least that makes two terms equal, with aliases and `{unknown}` in them: what is bound, and what holes are left.
use Rattle.std.specs.Prelude.{◌≡◌, ℕ, ◌≤◌, true, List, [], ◌∷◌, ◌++◌, None}
use Rattle.std.proofs.Common.{◌⊎◌}
use Rattle.infer_table.specs.Words.{Hole, Term, hole_number, apply, occurs}
use Rattle.hir_types.specs.declared.head.Hole.TheVariants as hole_of
use Rattle.infer_table.specs.declared.binding.Binding.{Binding}
use Rattle.infer_table.specs.Solutions.{Log, Solves}
use Rattle.infer_table.specs.Bindings.{found_binding}
use Rattle.infer_table.specs.Opened.{opened, origins}

-- ---- two terms with a hole of its own in the place of each alias and of each `{unknown}`, from number n on

abbrev pub first_opened : ℕ → Term → Term
first_opened n t = (opened n t).0

abbrev pub second_opened : ℕ → Term → Term → Term
second_opened n t u = (opened (opened n t).1 u).0

-- the number after them
abbrev pub number_after_both : ℕ → Term → Term → ℕ
number_after_both n t u = (opened (opened n t).1 u).1

-- those that stand for aliases, each with its alias
abbrev pub origins_of_both : ℕ → Term → Term → List (ℕ × Term)
origins_of_both n t u = origins n t ++ origins (opened n t).1 u

-- ---- some of the holes for their aliases

abbrev pub IsOneOf : ℕ × Term → List (ℕ × Term) → Type 0
IsOneOf p [] = ⊥
IsOneOf p (q ∷ ps) = (p ≡ q) ⊎ IsOneOf p ps

abbrev pub AreAmong : List (ℕ × Term) → List (ℕ × Term) → Type 0
AreAmong [] ps = Unit {0}
AreAmong (q ∷ qs) ps = IsOneOf q ps × AreAmong qs ps

-- each hole comes to its alias
abbrev pub AllStand : (Hole → Term) → List (ℕ × Term) → Type 0
AllStand s [] = Unit {0}
AllStand s (p ∷ ps) = (s (hole_of.Ty p.0) ≡ apply s p.1) × AllStand s ps

-- each hole, in their order, the last first: before it came to its alias it could still come to anything
abbrev pub AreFree : ((Hole → Term) → Type 0) → List (ℕ × Term) → Type 0
AreFree P [] = Unit {0}
AreFree P (p ∷ ps) = ((v : Term) → (s : Hole → Term) × P s × AllStand s ps × (s (hole_of.Ty p.0) ≡ v)) × AreFree P ps

-- whatever the term, some assignment that solves the bindings sends the hole to it
abbrev pub CanBeAnything : Log → ℕ → Type 0
CanBeAnything l n = (v : Term) → (s : Hole → Term) × Solves s l × (s (hole_of.Ty n) ≡ v)

-- exactly the assignments that solve `before` and have some holes, each free till then, stand for their aliases
-- solve `after`
pub record BindsSome (before after : Log) (ps : List (ℕ × Term)) : Type 0 where
  pub bound : List (ℕ × Term)
  pub among : AreAmong bound ps
  pub free : AreFree (λ s. Solves s before) bound
  pub keeps : (s : Hole → Term) → Solves s after → Solves s before
  pub stand : (s : Hole → Term) → Solves s after → AllStand s bound
  pub general : (s : Hole → Term) → Solves s before → AllStand s bound → Solves s after

-- exactly these assignments solve `after`: those that solve `before`, make the two terms equal with a hole
-- of its own in the place of each alias and of each `{unknown}`, and have some of these holes, each free
-- till then, stand for their aliases
pub record BindsLeast (n : ℕ) (before after : Log) (t u : Term) : Type 0 where
  pub bound : List (ℕ × Term)
  pub among : AreAmong bound (origins_of_both n t u)
  pub free : AreFree (λ s. Solves s before × (apply s (first_opened n t) ≡ apply s (second_opened n t u))) bound
  pub keeps : (s : Hole → Term) → Solves s after → Solves s before
  pub unifies : (s : Hole → Term) → Solves s after → apply s (first_opened n t) ≡ apply s (second_opened n t u)
  pub stand : (s : Hole → Term) → Solves s after → AllStand s bound
  pub general : (s : Hole → Term) → Solves s before → apply s (first_opened n t) ≡ apply s (second_opened n t u) → AllStand s bound
      → Solves s after

-- ---- which holes are left

-- an open hole that stands in one of the two terms, or has a number from n on
pub record IsLeftHole (n : ℕ) (bindings : List Binding) (t u : Term) (k : Hole) : Type 0 where
  pub is_open : found_binding bindings k ≡ None
  pub from : (occurs k t ≡ true) ⊎ (occurs k u ≡ true) ⊎ (n ≤ hole_number k)

abbrev pub HolesAreLeft : ℕ → List Binding → Term → Term → Term → Type 0
HolesAreLeft n bindings t u v = (k : Hole) → occurs k v ≡ true → IsLeftHole n bindings t u k
