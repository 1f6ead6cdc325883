-- What was found out about a body before its open holes fall back, by what it comes to then.
use Rattle.std.specs.Prelude.{◌≡◌, List, Option}
use Rattle.infer_end.specs.Words.{terms_of, DefWithBodyId, Ty, RawBody, RawFacts, Proof, completion, Respects, Triangular, Meets, bindings, Gap, InferenceResult, HasGeneral, with_goals, AreOwnTypes, AreLetTypes, IsTableOf, given_by, EndsSettled, InferenceContext, closed_table, BodyDone, scope_item}
use Rattle.infer_end.specs.Words.infer_table.Solutions.{log_of}
use Rattle.infer_end.specs.SelectedBody.{SettlesLast}
use Rattle.infer_end.specs.KeptTypes.{HasAllTypes, KeepsGeneral}
use Rattle.infer_end.specs.Staying.{NoneStays}

-- the table that it comes to, with these proofs and what could not be shown
abbrev pub ended : List Proof → List (Ty × Ty) → List (List Gap) → List (List Gap) → InferenceContext → InferenceResult
ended ps js gs hs z = with_goals ps js gs hs (closed_table (completion z.goals.table) z.asked z.result)

-- it is a table of the definition, with the types before fallback where the body is plain, and associated types where they may be types
-- alone
abbrev pub EndsAs : RawFacts → DefWithBodyId → List Proof → List (Ty × Ty) → List (List Gap) → List (List Gap) → InferenceContext → Type 0
EndsAs raw d ps js gs hs z =
    Meets (terms_of (completion z.goals.table)) z.goals.table → Respects (terms_of (completion z.goals.table))
    → Triangular (log_of (bindings z.goals.table))
    → IsTableOf raw d (ended ps js gs hs z) × HasGeneral raw d (ended ps js gs hs z) × NoneStays raw d (ended ps js gs hs z)

-- whatever proofs there are
abbrev pub EndsWell : RawFacts → DefWithBodyId → InferenceContext → Type 0
EndsWell raw d z = (ps : List Proof) (js : List (Ty × Ty)) (gs hs : List (List Gap)) → EndsAs raw d ps js gs hs z

-- ---- where a table comes from

-- The body is walked, with a type at each node and what its nodes need registered, and what associated types are read as far as is known
-- then: goals are those of these facts, in the scope of the definition. Types before fallback are kept where it is plain. Else what is
-- registered is selected, open holes for integer types fall back, and it is selected and read on, selected last.
pub record IsSelectedBody (raw : RawFacts) (d : DefWithBodyId) (b : RawBody) (z : InferenceContext) : Type 0 where
  pub inputs : List (Option Ty)
  pub output : Option Ty
  pub own : AreOwnTypes raw d inputs output
  pub aliases : List (Option Ty)
  pub lets : AreLetTypes raw d b aliases
  pub settled : InferenceContext
  pub facts : settled.goals.sources.facts ≡ raw
  pub item : settled.goals.sources.item ≡ scope_item raw d
  pub types : HasAllTypes settled.result
  pub read : EndsSettled (given_by raw d b inputs output aliases) settled
  pub walked : InferenceContext
  pub kept : KeepsGeneral raw d settled walked
  pub done : BodyDone (given_by raw d b inputs output aliases) walked
  pub last : SettlesLast d (given_by raw d b inputs output aliases) walked z

-- the table is what such a body comes to
pub record ComesOfSelection (raw : RawFacts) (d : DefWithBodyId) (b : RawBody) (r : InferenceResult) : Type 0 where
  pub found : InferenceContext
  pub selected : IsSelectedBody raw d b found
  pub is : r ≡ ended r.proofs r.projections r.expr_gaps r.pat_gaps found
