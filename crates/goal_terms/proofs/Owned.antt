-- Parts of owned terms.
use Rattle.std.specs.Prelude.{◌≡◌, Option, Some, None, option_map}
use Rattle.std.proofs.Common.{sym, ap, ap₂, ◌∙◌, subst, IfOk, Result}
use Rattle.std.proofs.lemmas.Result.{IfOk-weaker}
use Rattle.goal_terms.specs.Words.{Term, pair}
use Rattle.goal_terms.specs.Own.{Term as Owned, term_of, term_of_pair}
use Rattle.goal_terms.specs.declared.term.Term.TheVariants as owned

pub pair_of : (t a b a' b' : Owned) → t ≡ owned.Pair a b → a' ≡ a → b' ≡ b → term_of t ≡ pair (term_of a') (term_of b')
pair_of t a b a' b' e f g = ap term_of e ∙ term_of_pair a b ∙ ap₂ pair (ap term_of (sym f)) (ap term_of (sym g))

pub none_of : {X Y : Type 0} (f : X → Y) (r : Option X) (o : Option Y) → option_map f r ≡ o → r ≡ None → o ≡ None
none_of f r o e n = sym e ∙ ap (option_map f) n

pub some_of : {X Y : Type 0} (f : X → Y) (r : Option X) (o : Option Y) (v : X) → option_map f r ≡ o → r ≡ Some v → o ≡ Some (f v)
some_of f r o v e n = sym e ∙ ap (option_map f) n

-- what holds of an equal term
pub same_made : {E : Type 0} (P : Term → Type 0) (r : Result Owned E) (v : Term) → IfOk r (λ x. term_of x ≡ v) → P v → IfOk r (λ x. P (term_of x))
same_made P r v e p = IfOk-weaker r (λ x. term_of x ≡ v) (λ x. P (term_of x)) (λ x f. subst P (sym f) p) e
