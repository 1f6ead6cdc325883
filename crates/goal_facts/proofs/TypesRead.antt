-- What a type reads as, or that it reads as none.
use Rattle.std.specs.Prelude.{◌≡◌, ℕ, None}
use Rattle.std.proofs.Common.{sym, ◌∙◌, subst}
use Rattle.goal_facts.specs.Words.{Ty, Term, hole, term, ReadsAs, System, answers, IsOne}
use Rattle.goal_facts.proofs.Words.{answers_are_one, reads_one}
use Rattle.goal_facts.specs.Own.{TypeReads, IsTypeRead}

module _ (f : System) (n : ℕ) (t : Ty) where
  one : IsOne (answers f n).Alias
  one k w u v h j = (answers_are_one f n n).1 k w u v h j

  -- what was read is the term of this type
  pub reads_back : (made : Ty) (read back : Term) → ReadsAs (answers f n).Alias (term t) read → back ≡ term made → back ≡ read → TypeReads f n t made
  reads_back made read back reads is same = subst (ReadsAs (answers f n).Alias (term t)) (sym same ∙ is) reads

  -- it is not, though it would be if it were of any
  pub reads_none : (made : Ty) (read back : Term) → ReadsAs (answers f n).Alias (term t) read → back ≡ term made → ((u : Ty) → term u ≡ read → term made ≡ read) → (back ≡ read → ⊥) → IsTypeRead f n t None
  reads_none made read back reads is whole differ u h = differ (is ∙ whole u (reads_one (answers f n).Alias one hole (term t) (term u) read h reads))
