-- What is allowed was not broken.
use Rattle.std.proofs.Common.{◌≡◌, ℕ, List, Option, Some, None, Result, Ok, Err}
use Rattle.std.specs.Prelude.{MatchOption}
use Rattle.hir_laws.specs.Words.{Law, FactsList, AllHold, BreaksAt}
use Rattle.hir_laws.specs.Own.{FactsError}
use Rattle.hir_laws.specs.declared.facts_error.FactsError.TheVariants as error

pub allowed : {A : Type 0} (P : ℕ → A → Type 0) (xs : List A) (o : Option ℕ) (r : Result (Unit {0}) FactsError) (l : Law) (k : FactsList) (u : Unit {0})
    → MatchOption o (AllHold P xs) (λ i. BreaksAt P xs i) → MatchOption o (r ≡ Ok tt) (λ i. r ≡ Err (error.Law l k i)) → r ≡ Ok u → AllHold P xs
allowed P xs None r l k u found allows was = found
allowed P xs (Some i) r l k u found allows was = cc
