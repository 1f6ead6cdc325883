-- The reports of a session, of which each is made once.
use Rattle.std.specs.Prelude.{◌≡◌, ◌↔◌, List, length, string_bytes, Bool, Option, Some, None, IsSome, IfSome}
use Rattle.std.specs.HashMap.{HashMap, get, hash_map_len}
use Rattle.hir_types.specs.declared.ids.DefWithBodyId.{DefWithBodyId}
use Rattle.hir_raw.specs.declared.raw.RawFacts.{RawFacts}
use Rattle.hir_facts.specs.Bodies.{HasCarriedBody}
use Rattle.infer_result.specs.declared.result.InferenceResult.{InferenceResult}
use Rattle.infer_result.specs.Report.{report}
use Rattle.infer_run.specs.Request.{IsOneOf, AreDistinct, has_complaint}
use Rattle.infer_run.specs.Table.{IsPromised}
use Rattle.infer_run.specs.declared.session.Report.{Report}
use Rattle.hir_types.specs.contracts.ids.DefWithBodyIdPartialEq.TheImpl as def_impl

abbrev pub def_eq : DefWithBodyId → DefWithBodyId → Bool
def_eq = def_impl.ghosts.eq

-- the report is that on a table
abbrev pub Tells : RawFacts → DefWithBodyId → Report → InferenceResult → Type 0
Tells raw def r table = (string_bytes r.text ≡ report def raw table) × (r.has_complaint ≡ has_complaint table)

-- it is that on the definition's table
pub record IsReportOn (raw : RawFacts) (def : DefWithBodyId) (r : Report) : Type 0 where
  pub table : InferenceResult
  pub promised : IsPromised raw def table
  pub tells : Tells raw def r table

-- a report is there exactly where a table was made, and is that on it
abbrev pub Fits : RawFacts → DefWithBodyId → Option Report → Option InferenceResult → Type 0
Fits raw def (Some r) (Some table) = Tells raw def r table
Fits raw def (Some r) None = ⊥
Fits raw def None (Some table) = ⊥
Fits raw def None None = Unit {0}

-- the reports are those on the definitions among these with a body that is carried, each made once
pub record AreMade {S : Type 0} (raw : RawFacts) (defs : List DefWithBodyId) (reports : HashMap DefWithBodyId Report S) : Type 0 where
  pub answers : DefWithBodyId → Option InferenceResult
  pub inferred : List DefWithBodyId
  pub promised : (d : DefWithBodyId) → IfSome (answers d) (λ table. IsPromised raw d table)
  pub listed : (d : DefWithBodyId) → IsSome (answers d) → IsOneOf inferred d
  pub answered : (d : DefWithBodyId) → IsOneOf inferred d → IsSome (answers d)
  pub those : (d : DefWithBodyId) → IsOneOf inferred d ↔ (IsOneOf defs d × HasCarriedBody raw d)
  pub once : AreDistinct inferred
  pub fits : (d : DefWithBodyId) → Fits raw d (get def_eq reports d) (answers d)
  pub count : hash_map_len reports ≡ length inferred
