-- Associated types that stand as types of their own.
use Rattle.std.specs.Prelude.{◌≡◌, ◌⊎◌, false}
use Rattle.hir_types.specs.declared.head.Head.TheVariants as head
use Rattle.infer_end.specs.Words.{DefWithBodyId, Term, hole, leaf, pair, term, RawFacts, has_associated, InferenceResult, AllTypes}

-- one that stays stands in the term
abbrev pub HoldsStaying : Term → Type 0
HoldsStaying (hole k) = ⊥
HoldsStaying (leaf (head.AssociatedType k)) = Unit {0}
HoldsStaying (leaf _) = ⊥
HoldsStaying (pair a b) = HoldsStaying a ⊎ HoldsStaying b

-- where none may be types in the body, none stands in a type of the table, in those of mismatches included
abbrev pub NoneStays : RawFacts → DefWithBodyId → InferenceResult → Type 0
NoneStays raw d r = has_associated raw d ≡ false → AllTypes (λ t. HoldsStaying (term t) → ⊥) r
