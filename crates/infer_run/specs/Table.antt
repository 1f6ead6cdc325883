-- What is promised of one table, whichever command asks for it.
use Rattle.std.specs.Prelude.{◌≡◌, Some}
use Rattle.hir_types.specs.declared.ids.DefWithBodyId.{DefWithBodyId}
use Rattle.hir_raw.specs.declared.raw.RawBody.{RawBody}
use Rattle.hir_raw.specs.declared.raw.RawFacts.{RawFacts}
use Rattle.hir_facts.specs.Bodies.{HasCarriedBody, body_of}
use Rattle.infer_result.specs.declared.result.InferenceResult.{InferenceResult}
use Rattle.infer_result.specs.Typed.{IsTableOf, given}
use Rattle.infer_result.specs.General.{HasGeneral}
use Rattle.infer_result.specs.Needs.{GoalsHold, HasNoneLeft}
use Rattle.infer_result.specs.WrittenAliases.{AllWrittenAreListed}
use Rattle.infer_expr.specs.Below.{ComesOfSelection, EntriesFit, NoneStays, ProofsFit, RootsAreNeeded}

-- what nodes of the definition's body need is proved, or it is said that it has no proof, or `{unknown}` stands in it and it may hold with
-- other types there
abbrev pub HasGoals : RawFacts → DefWithBodyId → InferenceResult → Type 0
HasGoals raw def table = (b : RawBody) → body_of raw def ≡ Some b → GoalsHold def (given raw def b) table

-- in no type is an associated type left that could be read, unless the table says what it is
abbrev pub IsReadThrough : RawFacts → DefWithBodyId → InferenceResult → Type 0
IsReadThrough raw def table = (b : RawBody) → body_of raw def ≡ Some b → HasNoneLeft def (given raw def b) table

-- what each associated type is that the definition, its `let`s and what nodes need are written with is listed, unless it stays
abbrev pub HasWritten : RawFacts → DefWithBodyId → InferenceResult → Type 0
HasWritten raw def table = (b : RawBody) → body_of raw def ≡ Some b → AllWrittenAreListed def (given raw def b) table

-- each listed proof of a goal about a trait is one that another asks for, or a node needs its goal
abbrev pub HasAskedProofs : RawFacts → DefWithBodyId → InferenceResult → Type 0
HasAskedProofs raw def table = (b : RawBody) → body_of raw def ≡ Some b → RootsAreNeeded (given raw def b) table

-- what is listed, and what is said could not be shown, names what the facts have, with as many arguments as it takes, and has no holes
abbrev pub HasFitEntries : RawFacts → DefWithBodyId → InferenceResult → Type 0
HasFitEntries raw def table = (b : RawBody) → body_of raw def ≡ Some b → EntriesFit (given raw def b) table

-- so does what each proof is of, and what stands for the parameters of its impl
abbrev pub HasFitProofs : RawFacts → DefWithBodyId → InferenceResult → Type 0
HasFitProofs raw def table = (b : RawBody) → body_of raw def ≡ Some b → ProofsFit def (given raw def b) table

-- what they need was selected before its open holes fell back
abbrev pub IsSelectedTable : RawFacts → DefWithBodyId → InferenceResult → Type 0
IsSelectedTable raw def table = (b : RawBody) → body_of raw def ≡ Some b → ComesOfSelection raw def b table

-- the definition has a body that is carried, and this is its table, which has the types before open holes fell back exactly
-- where the body is plain, and what becomes of the goals of its nodes
pub record IsPromised (raw : RawFacts) (def : DefWithBodyId) (table : InferenceResult) : Type 0 where
  pub has_body : HasCarriedBody raw def
  pub typed : IsTableOf raw def table
  pub general : HasGeneral raw def table
  pub stays : NoneStays raw def table
  pub goals : HasGoals raw def table
  pub left : IsReadThrough raw def table
  pub written : HasWritten raw def table
  pub roots : HasAskedProofs raw def table
  pub fit : HasFitEntries raw def table
  pub proofs : HasFitProofs raw def table
  pub selected : IsSelectedTable raw def table
