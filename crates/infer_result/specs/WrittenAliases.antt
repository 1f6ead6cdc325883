-- Associated types that a table lists though no type of a node holds them: those that what the definition takes and gives is written with,
-- and its `let`s, and those in goals that nodes need, or that one is about in which `{unknown}` stands. Of each, at the arguments that
-- its own read as, the table says what it is, unless it stays.
use Rattle.std.specs.Prelude.{◌≡◌, ℕ, List, map, slice_get, Some}
use Rattle.infer_result.specs.Words.{DefWithBodyId, ExprOrPatId, TypeAliasId, GenericArg, Ty, Term, chain, term, arg_term, let_aliases, lowered, answers, Asked, System, projects, args_of, ReadsAs, alias_at, IsSystemOf}
use Rattle.infer_result.specs.declared.result.InferenceResult.{InferenceResult}
use Rattle.infer_result.specs.Needs.{HoldsUnknown, IsNeeded, scope_item}
use Rattle.infer_result.specs.OwnTypes.{HoldsPlaceholder, aliases_of}
use Rattle.infer_result.specs.Places.{Given}
use Rattle.infer_result.specs.Projections.{IsPartOf, StaysOrIsListed}

-- the arguments of an associated type
abbrev pub args_term : List GenericArg → Term
args_term xs = chain (map arg_term xs)

-- whatever its arguments read as: at those it stays, or it is listed as what it reads as, or `{unknown}` stands in one of them
abbrev pub IsListedOnceRead : System → ℕ → List (Ty × Ty) → TypeAliasId → List GenericArg → Type 0
IsListedOnceRead f n js k xs =
    (ys : List GenericArg) → ReadsAs (answers f n).Alias (args_term xs) (args_term ys) → StaysOrIsListed f n js k ys

-- so is each that is written in the term, but for those among whose arguments a `_` stands
abbrev pub WrittenAreListed : System → ℕ → List (Ty × Ty) → Term → Type 0
WrittenAreListed f n js t = (k : TypeAliasId) (xs : List GenericArg) → IsPartOf (alias_at k (args_term xs)) t
    → (HoldsPlaceholder (args_term xs) → ⊥) → IsListedOnceRead f n js k xs

-- so is the one that a goal is about in which `{unknown}` stands
abbrev pub AboutIsListed : System → ℕ → List (Ty × Ty) → Asked → Type 0
AboutIsListed f n js a =
    HoldsUnknown a.parts → (k : TypeAliasId) (xs : List GenericArg) → a.kind ≡ projects k → args_of a.parts ≡ args_term xs
    → (HoldsPlaceholder (args_term xs) → ⊥) → IsListedOnceRead f n js k xs

-- so is each in what the definition takes and gives, in the types of the `let`s, and in what nodes need
pub record AllWrittenAreListed (d : DefWithBodyId) (g : Given) (r : InferenceResult) : Type 0 where
  pub system : System
  pub of_item : IsSystemOf g.scope.facts (scope_item g.scope.facts d) system
  pub own : (i k : ℕ) → slice_get (aliases_of g.scope.facts d) i ≡ Some k
      → WrittenAreListed system g.scope.facts.limits.goal_depth r.projections (term (lowered g.scope.facts.types k))
  pub lets : (i k : ℕ) → slice_get (let_aliases g.scope.facts.types g.body) i ≡ Some k
      → WrittenAreListed system g.scope.facts.limits.goal_depth r.projections (term (lowered g.scope.facts.types k))
  pub needs : (n : ExprOrPatId) (a : Asked) → IsNeeded g r n a
      → WrittenAreListed system g.scope.facts.limits.goal_depth r.projections a.parts
  pub about : (n : ExprOrPatId) (a : Asked) → IsNeeded g r n a → AboutIsListed system g.scope.facts.limits.goal_depth r.projections a
