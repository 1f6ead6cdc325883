-- What is done for a request and its facts, by the status.
use Rattle.std.specs.Prelude.{◌≡◌, ◌==◌, ◌||◌, ◌≤◌, ℕ, List, Bool, true, Option, Some, None, Err, is_some, nat_le}
use Rattle.std.specs.Io.KnownBytes.{Appends, Keeps}
use Rattle.hir_types.specs.declared.ids.DefWithBodyId.{DefWithBodyId}
use Rattle.hir_raw.specs.declared.raw.RawFacts.{RawFacts}
use Rattle.infer_text.specs.Facts.{IsRead, Reads}
use Rattle.infer_text.specs.Session.{Session, facts_of}
use Rattle.infer_text.specs.declared.fault.ReadError.{ReadError}
use Rattle.infer_run.specs.Causes.{Rose}
use Rattle.infer_run.specs.Outcome.{AppendsFront, SaysLater, has_facts, has_table, has_fault}
use Rattle.infer_run.specs.Request.{IsDue, LacksBody, meant}
use Rattle.infer_run.specs.declared.running.Ran.{Ran}
use Rattle.infer_run.specs.declared.words.Request.{Request}
use Rattle.infer_text.specs.declared.fault.ReadError.TheVariants as error

-- all that was due was written
pub record IsWhole (request : Request) (raw : RawFacts) (defs : List DefWithBodyId) (old new : Option (List ℕ)) (ran : Ran) : Type 0 where
  pub due : List ℕ
  pub is_due : IsDue request raw defs ran.table due ran.status
  pub wrote : Appends old new due

-- the sink failed before
pub record IsCut (request : Request) (raw : RawFacts) (defs : List DefWithBodyId) (old new : Option (List ℕ)) (before now : ℕ)
    (ran : Ran) : Type 0 where
  pub rose : Rose before now
  pub due : List ℕ
  pub status : ℕ
  pub is_due : IsDue request raw defs ran.table due status
  pub wrote : AppendsFront old new due

abbrev pub is_answer : ℕ → Bool
is_answer n = nat_le n 1 || (n == 4 || (n == 5 || (n == 8 || n == 9)))

pub record Answered (request : Request) (raw : RawFacts) (defs : List DefWithBodyId) (old new : Option (List ℕ)) (before now : ℕ)
    (ran : Ran) : Type 0 where
  pub done : ran.status ≤ 1 → IsWhole request raw defs old new ran
  pub sink : ran.status ≡ 4 → IsCut request raw defs old new before now ran
  pub memory : ran.status ≡ 5 → ran.fault ≡ Some error.OutOfMemory
  pub later : ran.status ≡ 8 → SaysLater request raw ran
  pub body : ran.status ≡ 9 → LacksBody request raw
  pub silent : 2 ≤ ran.status → (ran.status ≡ 4 → ⊥) → Keeps old new
  pub kinds : is_answer ran.status ≡ true
  pub facts_is : has_facts ran.status ≡ true → ran.facts ≡ Some raw
  pub facts : is_some ran.facts ≡ has_facts ran.status
  pub table : is_some ran.table ≡ has_table request ran.status
  pub fault : is_some ran.fault ≡ has_fault ran.status

-- ---- where there are no facts

-- nothing but the status
abbrev pub silence : ℕ → Ran
silence n = record { status = n; facts = None; table = None; fault = None }

abbrev pub fault_status : ReadError → ℕ
fault_status error.OutOfMemory = 5
fault_status error.Json = 6
fault_status (error.Shape path) = 7
fault_status (error.Unlawful law list index) = 8

-- nothing but the fault
abbrev pub refusal : ReadError → Ran
refusal f = record { status = fault_status f; facts = None; table = None; fault = Some f }

-- ---- either

-- the facts were answered, or it is said why there are none
pub data AnsweredText (request : Request) (text : List ℕ) (old new : Option (List ℕ)) (before now : ℕ) (ran : Ran) : Type 0 where
  read : (s : Session) → IsRead facts_of (meant request text) s → Answered request s.0 s.1 old new before now ran
      → AnsweredText request text old new before now ran
  unread : (f : ReadError) → Reads facts_of (Err f) (meant request text) → ran ≡ refusal f → Keeps old new
      → AnsweredText request text old new before now ran
