-- What words ask for, what a text stands for under it, and what is due then.
use Rattle.std.specs.Prelude.{◌≡◌, ◌⊎◌, ◌↔◌, ◌++◌, ℕ, List, [], ◌∷◌, length, flat_map, Bool, true, false, Option, Some, None, Result, Ok, Err, codes, nat_lt, if◌then◌else◌}
use Rattle.std.specs.List.{list_any}
use Rattle.std.specs.Fmt.{decimal}
use Rattle.hir_types.specs.declared.ids.BodyId.{BodyId}
use Rattle.hir_types.specs.declared.ids.DefWithBodyId.{DefWithBodyId}
use Rattle.hir_raw.specs.declared.raw.RawFacts.{RawFacts}
use Rattle.hir_facts.specs.Bodies.{HasBody, HasCarriedBody, body_id_of}
use Rattle.infer_result.specs.declared.result.InferenceResult.{InferenceResult}
use Rattle.infer_result.specs.Report.{report, complaint_count, line}
use Rattle.infer_text.specs.Facts.{Fault, raw_facts}
use Rattle.infer_text.specs.Session.{Session, raw_session}
use Rattle.infer_run.specs.Command.{IsCommand}
use Rattle.infer_run.specs.Table.{IsPromised}
use Rattle.infer_run.specs.declared.words.Request.{Request}
use Rattle.infer_run.specs.declared.words.Request.TheVariants as request

-- the words ask for this: `table KIND N`, or `session`
abbrev pub IsAsked : List (List ℕ) → Request → Type 0
IsAsked words (request.Table d) = IsCommand words d
IsAsked words request.Session = words ≡ codes "session" ∷ []

-- ---- the text

abbrev pub asking_for : DefWithBodyId → Result RawFacts Fault → Result Session Fault
asking_for d (Ok raw) = Ok (raw, d ∷ [])
asking_for d (Err f) = Err f

-- the facts that a text stands for, with the definitions whose tables are asked for, or its first fault
abbrev pub meant : Request → List ℕ → Result Session Fault
meant (request.Table d) text = asking_for d (raw_facts text)
meant request.Session text = raw_session text

-- ---- the text that is due for one definition

-- whether something is complained of in a table
abbrev pub has_complaint : InferenceResult → Bool
has_complaint table = nat_lt 0 (complaint_count table)

-- 1 exactly where there is a complaint
abbrev pub status_by : Bool → ℕ
status_by b = if b then 1 else 0

-- the report on the definition's table, which is kept
pub record IsReportDue (raw : RawFacts) (def : DefWithBodyId) (kept : Option InferenceResult) (due : List ℕ) (status : ℕ) : Type 0 where
  pub table : InferenceResult
  pub promised : IsPromised raw def table
  pub table_is : kept ≡ Some table
  pub due_is : due ≡ report def raw table
  pub status_is : status ≡ status_by (has_complaint table)

-- ---- the text that is due for a session

-- the definition is one of these
abbrev pub IsOneOf : List DefWithBodyId → DefWithBodyId → Type 0
IsOneOf [] d = ⊥
IsOneOf (x ∷ xs) d = (x ≡ d) ⊎ IsOneOf xs d

-- none stands twice
abbrev pub AreDistinct : List DefWithBodyId → Type 0
AreDistinct [] = Unit {0}
AreDistinct (x ∷ xs) = (IsOneOf xs x → ⊥) × AreDistinct xs

-- a table is the definition's, or it has no body that is carried
abbrev pub IsAnswer : RawFacts → DefWithBodyId → Option InferenceResult → Type 0
IsAnswer raw def (Some table) = IsPromised raw def table
IsAnswer raw def None = HasCarriedBody raw def → ⊥

-- why there is no table of a definition with this body, or with none
abbrev pub no_table : Option BodyId → List ℕ
no_table (Some body) = codes "not carried"
no_table None = codes "no body"

-- the report on the table, or a line
abbrev pub answer_text : RawFacts → DefWithBodyId → Option InferenceResult → List ℕ
answer_text raw def (Some table) = report def raw table
answer_text raw def None = line (no_table (body_id_of raw def))

abbrev pub is_complaint : Option InferenceResult → Bool
is_complaint (Some table) = has_complaint table
is_complaint None = true

-- how many definitions were inferred
abbrev pub last_line : ℕ → List ℕ
last_line n = line (codes "inferred " ++ decimal n)

-- Each definition that is asked for has its answer, and it is written as often as it is asked for. Those with a
-- body that is carried were inferred once each.
pub record IsSessionDue (raw : RawFacts) (defs : List DefWithBodyId) (kept : Option InferenceResult) (due : List ℕ)
    (status : ℕ) : Type 0 where
  pub answers : DefWithBodyId → Option InferenceResult
  pub answered : (d : DefWithBodyId) → IsOneOf defs d → IsAnswer raw d (answers d)
  pub inferred : List DefWithBodyId
  pub once : AreDistinct inferred
  pub those : (d : DefWithBodyId) → IsOneOf inferred d ↔ (IsOneOf defs d × HasCarriedBody raw d)
  pub due_is : due ≡ flat_map (λ d. answer_text raw d (answers d)) defs ++ last_line (length inferred)
  pub none_kept : kept ≡ None
  pub status_is : status ≡ status_by (list_any (λ d. is_complaint (answers d)) defs)

-- ---- either

-- the text that is due, the status with which it is written whole, and the table that is kept
abbrev pub IsDue : Request → RawFacts → List DefWithBodyId → Option InferenceResult → List ℕ → ℕ → Type 0
IsDue (request.Table d) raw defs kept due status = IsReportDue raw d kept due status
IsDue request.Session raw defs kept due status = IsSessionDue raw defs kept due status

-- something can be due
abbrev pub CanAnswer : Request → RawFacts → Type 0
CanAnswer (request.Table d) raw = HasCarriedBody raw d
CanAnswer request.Session raw = Unit {0}

-- the one definition that is asked for has this body, which is not carried yet
abbrev pub IsLater : Request → RawFacts → BodyId → Type 0
IsLater (request.Table d) raw body = (body_id_of raw d ≡ Some body) × (HasCarriedBody raw d → ⊥)
IsLater request.Session raw body = ⊥

-- the one definition that is asked for is out of range or has no body
abbrev pub LacksBody : Request → RawFacts → Type 0
LacksBody (request.Table d) raw = HasBody raw d → ⊥
LacksBody request.Session raw = ⊥

abbrev pub keeps_table : Request → Bool
keeps_table (request.Table d) = true
keeps_table request.Session = false
