-- What a run of the command does, by the status that it ends with.
use Rattle.std.specs.Prelude.{◌≡◌, ◌==◌, ◌||◌, ◌&&◌, ◌<◌, ◌≤◌, ◌+◌, ◌↔◌, ◌⊎◌, ℕ, List, length, take, Bool, Option, Some, None, Result, Err, is_some, nat_le}
use Rattle.std.specs.Io.KnownBytes.{Appends, Consumes, IsAtEnd, Keeps}
use Rattle.hir_types.specs.declared.ids.BodyId.{BodyId}
use Rattle.hir_types.specs.declared.ids.DefWithBodyId.{DefWithBodyId}
use Rattle.hir_raw.specs.declared.raw.RawFacts.{RawFacts}
use Rattle.hir_facts.specs.declared.laws.Law.{Law}
use Rattle.hir_facts.specs.declared.laws.FactsList.{FactsList}
use Rattle.infer_text.specs.Facts.{Fault, IsUnlawful, no_json, shape, IsRead}
use Rattle.infer_text.specs.Session.{Session, facts_of}
use Rattle.infer_text.specs.declared.fault.ReadError.{ReadError}
use Rattle.infer_run.specs.Causes.{Rose}
use Rattle.infer_run.specs.Request.{IsAsked, IsDue, IsLater, LacksBody, keeps_table, meant}
use Rattle.infer_run.specs.declared.running.Ran.{Ran}
use Rattle.infer_run.specs.declared.words.Request.{Request}
use Rattle.hir_facts.specs.declared.laws.Law.TheVariants as law
use Rattle.hir_facts.specs.declared.laws.FactsList.TheVariants as list
use Rattle.infer_text.specs.declared.fault.ReadError.TheVariants as error

-- the most bytes that are read
abbrev pub limit : ℕ
limit = 16777216

-- the ends, before and after: what is left to read, what was written, and how often each failed
pub record Ends : Type 0 where
  pub left : Option (List ℕ)
  pub left_new : Option (List ℕ)
  pub written : Option (List ℕ)
  pub written_new : Option (List ℕ)
  pub reads : ℕ
  pub reads_new : ℕ
  pub writes : ℕ
  pub writes_new : ℕ

-- the ends of a run, of a source and a sink as they were and as they are now, by what each tells
abbrev pub between : {S K : Type 0} → (S → Option (List ℕ)) → (S → ℕ) → (K → Option (List ℕ)) → (K → ℕ) → S
    → S → K → K → Ends
between left reads written writes source source_new sink sink_new = record {
  left = left source;
  left_new = left source_new;
  written = written sink;
  written_new = written sink_new;
  reads = reads source;
  reads_new = reads source_new;
  writes = writes sink;
  writes_new = writes sink_new;
}

-- these are the bytes that were read
pub record Took (e : Ends) (bytes : List ℕ) : Type 0 where
  pub short : length bytes ≤ limit
  pub consumed : Consumes e.left e.left_new bytes

-- and there were no more
pub record TookAll (e : Ends) (text : List ℕ) : Type 0 where
  pub took : Took e text
  pub ended : IsAtEnd e.left_new

-- what is written is a front of the text that is due, and some of that is missing
pub record AppendsFront (old new : Option (List ℕ)) (due : List ℕ) : Type 0 where
  pub count : ℕ
  pub missing : count < length due
  pub front : Appends old new (take count due)

-- ---- what was found out

-- the words ask for something, and the text stands for lawful facts
pub record HasFacts (words : List (List ℕ)) (e : Ends) (ran : Ran) : Type 0 where
  pub request : Request
  pub asked : IsAsked words request
  pub text : List ℕ
  pub took : TookAll e text
  pub raw : RawFacts
  pub defs : List DefWithBodyId
  pub is_read : IsRead facts_of (meant request text) (raw, defs)
  pub facts_is : ran.facts ≡ Some raw

-- and with tables made of them this text is due, which is written whole with this status
pub record HasDue (words : List (List ℕ)) (e : Ends) (ran : Ran) (due : List ℕ) (status : ℕ) : Type 0 where
  pub facts : HasFacts words e ran
  pub is_due : IsDue facts.request facts.raw facts.defs ran.table due status

-- ---- each status

-- all that was due was written
pub record Reported (words : List (List ℕ)) (e : Ends) (ran : Ran) : Type 0 where
  pub due : List ℕ
  pub found : HasDue words e ran due ran.status
  pub wrote : Appends e.written e.written_new due

-- the source failed before too much was read
pub record SourceFailed (e : Ends) : Type 0 where
  pub rose : Rose e.reads e.reads_new
  pub bytes : List ℕ
  pub took : Took e bytes

-- the sink failed before all that was due was written
pub record SinkFailed (words : List (List ℕ)) (e : Ends) (ran : Ran) : Type 0 where
  pub rose : Rose e.writes e.writes_new
  pub due : List ℕ
  pub status : ℕ
  pub found : HasDue words e ran due status
  pub wrote : AppendsFront e.written e.written_new due

-- all of a text was read, under what the words ask for
pub record HasText (words : List (List ℕ)) (e : Ends) : Type 0 where
  pub request : Request
  pub asked : IsAsked words request
  pub text : List ℕ
  pub took : TookAll e text

-- what it stands for, or its first fault
abbrev pub meaning : {words : List (List ℕ)} {e : Ends} → HasText words e → Result Session Fault
meaning x = meant x.request x.text

-- the text is no JSON
pub record IsNoJson (words : List (List ℕ)) (e : Ends) (ran : Ran) : Type 0 where
  pub read : HasText words e
  pub stands : meaning read ≡ Err no_json
  pub fault_is : ran.fault ≡ Some error.Json

-- another shape is wanted at a path
pub record IsMisshapen (words : List (List ℕ)) (e : Ends) (ran : Ran) : Type 0 where
  pub read : HasText words e
  pub path : List ℕ
  pub stands : meaning read ≡ Err (shape path)
  pub fault_is : ran.fault ≡ Some (error.Shape path)

-- a law is broken, and all before hold
pub record BreaksLaw (words : List (List ℕ)) (e : Ends) (ran : Ran) : Type 0 where
  pub read : HasText words e
  pub law : Law
  pub list : FactsList
  pub index : ℕ
  pub stands : IsUnlawful facts_of (meaning read) law list index
  pub fault_is : ran.fault ≡ Some (error.Unlawful law list index)

-- law 0 is broken by this body
abbrev pub later_fault : BodyId → ReadError
later_fault body = error.Unlawful law.Carried list.Bodies body.0

-- it is said that the one definition that is asked for has a body that is not carried yet
pub record SaysLater (request : Request) (raw : RawFacts) (ran : Ran) : Type 0 where
  pub body : BodyId
  pub is_later : IsLater request raw body
  pub fault_is : ran.fault ≡ Some (later_fault body)

-- the facts are lawful, and it has
pub record AsksLater (words : List (List ℕ)) (e : Ends) (ran : Ran) : Type 0 where
  pub read : HasText words e
  pub raw : RawFacts
  pub defs : List DefWithBodyId
  pub is_read : IsRead facts_of (meaning read) (raw, defs)
  pub says : SaysLater read.request raw ran

-- the definition is out of range or has no body
pub record HasNoBody (words : List (List ℕ)) (e : Ends) (ran : Ran) : Type 0 where
  pub found : HasFacts words e ran
  pub no_body : LacksBody found.request found.raw

-- the source gave more than is read
pub record IsTooLong (e : Ends) : Type 0 where
  pub bytes : List ℕ
  pub long : length bytes ≡ limit + 1
  pub consumed : Consumes e.left e.left_new bytes

-- ---- what is answered, by the status

abbrev pub has_facts : ℕ → Bool
has_facts n = nat_le n 1 || (n == 4 || n == 9)

-- of one definition that is asked for
abbrev pub has_table : Request → ℕ → Bool
has_table r n = (nat_le n 1 || n == 4) && keeps_table r

abbrev pub has_fault : ℕ → Bool
has_fault n = nat_le 5 n && nat_le n 8

-- What a run did, by the status that it ended with.
pub record Outcome (words : List (List ℕ)) (e : Ends) (ran : Ran) : Type 0 where
  pub no_command : (ran.status ≡ 2) ↔ ((r : Request) → IsAsked words r → ⊥)
  pub unread : ran.status ≡ 2 → Keeps e.left e.left_new
  pub done : ran.status ≤ 1 → Reported words e ran
  pub source : ran.status ≡ 3 → SourceFailed e
  pub sink : ran.status ≡ 4 → SinkFailed words e ran
  pub memory : ran.status ≡ 5 → ran.fault ≡ Some error.OutOfMemory
  pub json : ran.status ≡ 6 → IsNoJson words e ran
  pub misshapen : ran.status ≡ 7 → IsMisshapen words e ran
  pub unlawful : ran.status ≡ 8 → BreaksLaw words e ran ⊎ AsksLater words e ran
  pub body : ran.status ≡ 9 → HasNoBody words e ran
  pub long : ran.status ≡ 10 → IsTooLong e
  pub silent : 2 ≤ ran.status → (ran.status ≡ 4 → ⊥) → Keeps e.written e.written_new
  pub kinds : ran.status ≤ 10
  pub facts : is_some ran.facts ≡ has_facts ran.status
  pub table : (r : Request) → IsAsked words r → is_some ran.table ≡ has_table r ran.status
  pub no_table : ran.status ≡ 2 → ran.table ≡ None
  pub fault : is_some ran.fault ≡ has_fault ran.status
