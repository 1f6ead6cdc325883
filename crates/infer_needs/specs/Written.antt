-- Associated types that a definition, its `let`s and the goals of its nodes are written with: each is listed with what it reads as, at what
-- its arguments read as.
use Rattle.std.specs.Prelude.{◌≡◌, ◌⊎◌, ℕ, List, slice_get, Option, Some}
use Rattle.infer_needs.specs.Words.{DefWithBodyId, GenericDefId, TypeAliasId, GenericArg, Ty, Term, hole, leaf, pair, term, RawBody, RawExpr, RawFacts, RawType, let_aliases, lowered, Asked, System, alias_at, IsWrittenHead, InferenceResult, needs_of, pat_needs_of, HoldsPlaceholder, aliases_of, recorded, args_term, IsListedOnceRead, WrittenAreListed, AboutIsListed}
use Rattle.infer_needs.specs.FitTerms.{FitsIn, GoalsFitIn}
use Rattle.infer_needs.specs.Judged.{AreProvable}

-- ---- terms of written types

-- no hole is in it, and such are its heads: a `_` may stand in it
abbrev pub IsAsWritten : Term → Type 0
IsAsWritten (hole k) = ⊥
IsAsWritten (leaf h) = IsWrittenHead h ⊎ HoldsPlaceholder (leaf h)
IsAsWritten (pair a b) = IsAsWritten a × IsAsWritten b

-- ---- what is listed

-- the associated type, where these are its arguments
abbrev pub ListedAt : System → ℕ → TypeAliasId → Term → List (Ty × Ty) → Type 0
ListedAt f n k w js = (xs : List GenericArg) → args_term xs ≡ w → (HoldsPlaceholder w → ⊥) → IsListedOnceRead f n js k xs

-- the one that the two make, if they do
abbrev pub ListedHere : System → ℕ → Term → Term → List (Ty × Ty) → Type 0
ListedHere f n a b js = (k : TypeAliasId) (xs : List GenericArg) → alias_at k (args_term xs) ≡ pair a b
    → (HoldsPlaceholder (args_term xs) → ⊥) → IsListedOnceRead f n js k xs

-- each that is written in the type of this number
abbrev pub TypeIsListed : System → ℕ → List RawType → ℕ → List (Ty × Ty) → Type 0
TypeIsListed f n types k js = WrittenAreListed f n js (term (lowered types k))

abbrev pub TypesAreListed : System → ℕ → List RawType → List ℕ → List (Ty × Ty) → Type 0
TypesAreListed f n types ks js = (i k : ℕ) → slice_get ks i ≡ Some k → TypeIsListed f n types k js

-- each in the goal, and the one that it is about
pub record GoalIsListed (f : System) (n : ℕ) (a : Asked) (js : List (Ty × Ty)) : Type 0 where
  pub parts : WrittenAreListed f n js a.parts
  pub about : AboutIsListed f n js a

-- so it is of these goals
abbrev pub GoalsAreListed : System → ℕ → List Asked → List (Ty × Ty) → Type 0
GoalsAreListed f n xs js = (i : ℕ) (a : Asked) → slice_get xs i ≡ Some a → GoalIsListed f n a js

-- each in what the expressions of the body need
abbrev pub ExprsAreListed : RawFacts → System → RawBody → InferenceResult → List (Ty × Ty) → Type 0
ExprsAreListed raw f b r js = (i : ℕ) (x : RawExpr) → slice_get b.exprs i ≡ Some x
    → GoalsAreListed f raw.limits.goal_depth (needs_of raw (Some x) (recorded r.type_of_expr i)) js

-- and in what patterns need of which these are the items
abbrev pub ItemsAreListed : RawFacts → System → List (Option Ty) → List (Ty × Ty) → Type 0
ItemsAreListed raw f ts js = (i : ℕ) (o : Option Ty) → slice_get ts i ≡ Some o
    → GoalsAreListed f raw.limits.goal_depth (pat_needs_of raw o) js

-- what each of these patterns needs can be proved
abbrev pub CanItemsBeProved : RawFacts → List (Option Ty) → Type 0
CanItemsBeProved raw ts = (i : ℕ) (o : Option Ty) → slice_get ts i ≡ Some o → AreProvable (pat_needs_of raw o)

-- the type of this number fits
abbrev pub TypeFitsIn : RawFacts → GenericDefId → ℕ → Type 0
TypeFitsIn raw item k = FitsIn raw item (term (lowered raw.types k))

abbrev pub TypesFitIn : RawFacts → GenericDefId → List ℕ → Type 0
TypesFitIn raw item ks = (i k : ℕ) → slice_get ks i ≡ Some k → TypeFitsIn raw item k

-- so does what the expressions of the body need
abbrev pub ExprsFitIn : RawFacts → GenericDefId → RawBody → InferenceResult → Type 0
ExprsFitIn raw item b r = (i : ℕ) (x : RawExpr) → slice_get b.exprs i ≡ Some x
    → GoalsFitIn raw item (needs_of raw (Some x) (recorded r.type_of_expr i))

-- and what patterns need of which these are the items
abbrev pub ItemsFitIn : RawFacts → GenericDefId → List (Option Ty) → Type 0
ItemsFitIn raw item ts = (i : ℕ) (o : Option Ty) → slice_get ts i ≡ Some o → GoalsFitIn raw item (pat_needs_of raw o)

-- all that is written in a definition, and all that its nodes need
pub record AllFitIn (raw : RawFacts) (item : GenericDefId) (d : DefWithBodyId) (b : RawBody) (r : InferenceResult) : Type 0 where
  pub own : TypesFitIn raw item (aliases_of raw d)
  pub lets : TypesFitIn raw item (let_aliases raw.types b)
  pub exprs : ExprsFitIn raw item b r
  pub pats : ItemsFitIn raw item r.item_of_pat

-- each in all of these
pub record AreAllListed (raw : RawFacts) (d : DefWithBodyId) (b : RawBody) (r : InferenceResult) (f : System)
    (js : List (Ty × Ty)) : Type 0 where
  pub own : TypesAreListed f raw.limits.goal_depth raw.types (aliases_of raw d) js
  pub lets : TypesAreListed f raw.limits.goal_depth raw.types (let_aliases raw.types b) js
  pub exprs : ExprsAreListed raw f b r js
  pub pats : ItemsAreListed raw f r.item_of_pat js
