-- How a run ends, whole.
use Rattle.std.proofs.Common.{◌≡◌, ◌≤◌, ◌⊎◌, inl, inr, length, ℕ, zero, suc, List, [], ◌∷◌, Bool, true, false, Option, Some, None, Err, Result, is_some, refl, ◌∙◌, ap, subst, arith}
use Rattle.std.proofs.lemmas.Bool.Decides.{nat_tests}
use Rattle.std.specs.Io.KnownBytes.{Appends, Consumes, IsAtEnd, Keeps}
use Rattle.hir_types.specs.declared.ids.BodyId.{BodyId}
use Rattle.hir_types.specs.declared.ids.DefWithBodyId.{DefWithBodyId}
use Rattle.hir_raw.specs.declared.raw.RawFacts.{RawFacts}
use Rattle.infer_text.specs.Facts.{Fault, IsRead, Reads}
use Rattle.infer_text.specs.Session.{facts_of}
use Rattle.infer_text.specs.declared.fault.ReadError.{ReadError}
use Rattle.infer_run.specs.Answer.{Answered, AnsweredText, is_answer, refusal, read, unread}
use Rattle.infer_run.specs.Causes.{Rose}
use Rattle.infer_result.specs.declared.result.InferenceResult.{InferenceResult}
use Rattle.infer_run.specs.Outcome.{AppendsFront, Ends, TookAll, HasText, HasFacts, Reported, SourceFailed, SinkFailed, IsNoJson, IsMisshapen, BreaksLaw, AsksLater, HasNoBody, IsTooLong, Outcome, has_facts, has_table, has_fault, later_fault}
use Rattle.infer_run.specs.Request.{IsAsked, IsDue, IsLater, meant, asking_for, keeps_table, status_by}
use Rattle.infer_run.specs.declared.running.Ran.{Ran}
use Rattle.infer_run.specs.declared.words.Request.{Request}
use Rattle.infer_run.specs.declared.words.Request.TheVariants as asked_for
use Rattle.infer_text.specs.declared.fault.ReadError.TheVariants as error
use mir.Val.{bool_byte}

-- what holds at a status
abbrev pub AtStatus : List (List ℕ) → Ends → Ran → ℕ → Type 0
AtStatus words e ran zero = Reported words e ran
AtStatus words e ran (suc zero) = Reported words e ran
AtStatus words e ran (suc (suc zero)) = ((r : Request) → IsAsked words r → ⊥) × Keeps e.left e.left_new × (ran.table ≡ None)
AtStatus words e ran (suc (suc (suc zero))) = SourceFailed e
AtStatus words e ran (suc (suc (suc (suc zero)))) = SinkFailed words e ran
AtStatus words e ran (suc (suc (suc (suc (suc zero))))) = ran.fault ≡ Some error.OutOfMemory
AtStatus words e ran (suc (suc (suc (suc (suc (suc zero)))))) = IsNoJson words e ran
AtStatus words e ran (suc (suc (suc (suc (suc (suc (suc zero))))))) = IsMisshapen words e ran
AtStatus words e ran (suc (suc (suc (suc (suc (suc (suc (suc zero)))))))) = BreaksLaw words e ran ⊎ AsksLater words e ran
AtStatus words e ran (suc (suc (suc (suc (suc (suc (suc (suc (suc zero))))))))) = HasNoBody words e ran
AtStatus words e ran (suc (suc (suc (suc (suc (suc (suc (suc (suc (suc zero)))))))))) = IsTooLong e
AtStatus words e ran (suc (suc (suc (suc (suc (suc (suc (suc (suc (suc (suc n))))))))))) = ⊥

is_known : (words : List (List ℕ)) (e : Ends) (ran : Ran) (n : ℕ) → AtStatus words e ran n → n ≤ 10
is_known words e ran zero p = omega arith
is_known words e ran (suc zero) p = omega arith
is_known words e ran (suc (suc zero)) p = omega arith
is_known words e ran (suc (suc (suc zero))) p = omega arith
is_known words e ran (suc (suc (suc (suc zero)))) p = omega arith
is_known words e ran (suc (suc (suc (suc (suc zero))))) p = omega arith
is_known words e ran (suc (suc (suc (suc (suc (suc zero)))))) p = omega arith
is_known words e ran (suc (suc (suc (suc (suc (suc (suc zero))))))) p = omega arith
is_known words e ran (suc (suc (suc (suc (suc (suc (suc (suc zero)))))))) p = omega arith
is_known words e ran (suc (suc (suc (suc (suc (suc (suc (suc (suc zero))))))))) p = omega arith
is_known words e ran (suc (suc (suc (suc (suc (suc (suc (suc (suc (suc zero)))))))))) p = omega arith
is_known words e ran (suc (suc (suc (suc (suc (suc (suc (suc (suc (suc (suc n))))))))))) p = absurd p

is_done : (words : List (List ℕ)) (e : Ends) (ran : Ran) (n : ℕ) → AtStatus words e ran n → n ≤ 1 → Reported words e ran
is_done words e ran zero p le = p
is_done words e ran (suc zero) p le = p
is_done words e ran (suc (suc n)) p le = absurd (omega arith)

-- no answer ends with so great a status
no_answer : (n : ℕ) → is_answer (suc (suc (suc (suc (suc (suc (suc (suc (suc (suc (suc n))))))))))) ≡ true → ⊥
no_answer n h = grind (arith, nat_tests)

-- what holds at its status, and what holds at each
pub whole : (words : List (List ℕ)) (e : Ends) (ran : Ran) → AtStatus words e ran ran.status → (((r : Request) → IsAsked words r → ⊥) → ran.status ≡ 2)
    → (2 ≤ ran.status → (ran.status ≡ 4 → ⊥) → Keeps e.written e.written_new)
    → is_some ran.facts ≡ has_facts ran.status → ((r : Request) → IsAsked words r → is_some ran.table ≡ has_table r ran.status) → is_some ran.fault ≡ has_fault ran.status → Outcome words e ran
whole words e ran here none silent facts table fault =
    let at : (n : ℕ) → ran.status ≡ n → AtStatus words e ran n = λ n is. subst (λ k. AtStatus words e ran k) is here in
    record {
      no_command = (λ is. (at 2 is).0, none);
      unread = λ is. (at 2 is).1;
      done = is_done words e ran ran.status here;
      source = at 3;
      sink = at 4;
      memory = at 5;
      json = at 6;
      misshapen = at 7;
      unlawful = at 8;
      body = at 9;
      long = at 10;
      silent = silent;
      kinds = is_known words e ran ran.status here;
      facts = facts;
      table = table;
      no_table = λ is. (at 2 is).2;
      fault = fault;
    }

module _ (words : List (List ℕ)) (e : Ends) (request : Request) (asked : IsAsked words request) where
  named : (n : ℕ) → ((r : Request) → IsAsked words r → ⊥) → n ≡ 2
  named n none = absurd (none request asked)

  by_memory : Keeps e.written e.written_new → Outcome words e (refusal error.OutOfMemory)
  by_memory written = whole words e (refusal error.OutOfMemory) refl (named 5) (λ h k. written) refl (λ r a. refl) refl

  module _ (text : List ℕ) (took : TookAll e text) where
    abbrev has_text : HasText words e
    has_text = record { request = request; asked = asked; text = text; took = took }

    -- the text stands for no lawful facts
    by_fault : (f : ReadError) → Reads facts_of (Err f) (meant request text) → Keeps e.written e.written_new → Outcome words e (refusal f)
    by_fault error.OutOfMemory reads written = by_memory written
    by_fault error.Json reads written =
        whole words e (refusal error.Json) (record { read = has_text; stands = reads; fault_is = refl }) (named 6) (λ h k. written) refl (λ r a. refl) refl
    by_fault (error.Shape path) reads written =
        whole words e (refusal (error.Shape path)) (record { read = has_text; path = path; stands = reads; fault_is = refl }) (named 7) (λ h k. written) refl (λ r a. refl) refl
    by_fault (error.Unlawful law list index) reads written =
        whole words e (refusal (error.Unlawful law list index)) (inl (record { read = has_text; law = law; list = list; index = index; stands = reads; fault_is = refl })) (named 8) (λ h k. written) refl (λ r a. refl) refl

    -- it stands for lawful facts
    module _ (raw : RawFacts) (defs : List DefWithBodyId) (is_read : IsRead facts_of (meant request text) (raw, defs)) (ran : Ran) (a : Answered request raw defs e.written e.written_new e.writes e.writes_new ran) where
      abbrev with_facts : has_facts ran.status ≡ true → HasFacts words e ran
      with_facts h = record { request = request; asked = asked; text = text; took = took; raw = raw; defs = defs; is_read = is_read; facts_is = a.facts_is h }

      reported : (n : ℕ) → ran.status ≡ n → n ≤ 1 → has_facts n ≡ true → Reported words e ran
      reported n is le h =
          let w = a.done (rw is le) in
          record { due = w.due; found = record { facts = with_facts (ap has_facts is ∙ h); is_due = w.is_due }; wrote = w.wrote }

      answered : (n : ℕ) → ran.status ≡ n → is_answer n ≡ true → AtStatus words e ran n
      answered zero is h = reported zero is (omega arith) refl
      answered (suc zero) is h = reported 1 is (omega arith) refl
      answered (suc (suc zero)) is h = absurd (cc)
      answered (suc (suc (suc zero))) is h = absurd (cc)
      answered (suc (suc (suc (suc zero)))) is h =
          let w = a.sink is in
          record { rose = w.rose; due = w.due; status = w.status; found = record { facts = with_facts (ap has_facts is); is_due = w.is_due }; wrote = w.wrote }
      answered (suc (suc (suc (suc (suc zero))))) is h = a.memory is
      answered (suc (suc (suc (suc (suc (suc zero)))))) is h = absurd (cc)
      answered (suc (suc (suc (suc (suc (suc (suc zero))))))) is h = absurd (cc)
      answered (suc (suc (suc (suc (suc (suc (suc (suc zero)))))))) is h =
          inr (record { read = has_text; raw = raw; defs = defs; is_read = is_read; says = a.later is })
      answered (suc (suc (suc (suc (suc (suc (suc (suc (suc zero))))))))) is h = record { found = with_facts (ap has_facts is); no_body = a.body is }
      answered (suc (suc (suc (suc (suc (suc (suc (suc (suc (suc zero)))))))))) is h = absurd (cc)
      answered (suc (suc (suc (suc (suc (suc (suc (suc (suc (suc (suc n))))))))))) is h = absurd (no_answer n h)

      -- no other request is asked for
      module _ (one : (r : Request) → IsAsked words r → request ≡ r) where
        by_answer : Outcome words e ran
        by_answer = whole words e ran (answered ran.status refl a.kinds) (named ran.status) a.silent a.facts (λ r other. subst (λ q. is_some ran.table ≡ has_table q ran.status) (one r other) a.table) a.fault

    pub by_text : (ran : Ran) → ((r : Request) → IsAsked words r → request ≡ r) → AnsweredText request text e.written e.written_new e.writes e.writes_new ran → Outcome words e ran
    by_text ran one (read s is_read a) = by_answer s.0 s.1 is_read ran a one
    by_text ran one (unread f reads is keeps) = rw is (by_fault f reads keeps)

-- ---- a text that is due is written

module _ (r : Request) (raw : RawFacts) (defs : List DefWithBodyId) (table : Option InferenceResult) (due : List ℕ) (status : ℕ) (is_due : IsDue r raw defs table due status) where
  -- its table is kept exactly where one definition is asked for
  is_kept : is_some table ≡ keeps_table r
  is_kept = by r is_due
    where
      by : (q : Request) → IsDue q raw defs table due status → is_some table ≡ keeps_table q
      by (asked_for.Table d) h = ap is_some h.table_is
      by asked_for.Session h = ap is_some h.none_kept

  abbrev ran_at : ℕ → Ran
  ran_at n = record { status = n; facts = Some raw; table = table; fault = None }

  module _ (old new : Option (List ℕ)) (before now : ℕ) where
    pub front_written : Rose before now → AppendsFront old new due → Answered r raw defs old new before now (ran_at 4)
    front_written rose wrote = record {
      done = λ le. absurd (omega arith);
      sink = λ is. record { rose = rose; due = due; status = status; is_due = is_due; wrote = wrote };
      memory = λ is. absurd (cc);
      later = λ is. absurd (cc);
      body = λ is. absurd (cc);
      silent = λ le other. absurd (other refl);
      kinds = refl;
      facts_is = λ h. refl;
      facts = refl;
      table = is_kept;
      fault = refl;
    }

-- a truth value as a byte is the status
pub byte_is : (b : Bool) → bool_byte b ≡ status_by b
byte_is true = refl
byte_is false = refl

-- all of it, with the status that is due
pub whole_written : (r : Request) (raw : RawFacts) (defs : List DefWithBodyId) (table : Option InferenceResult) (due : List ℕ) (complains : Bool) → IsDue r raw defs table due (status_by complains)
    → (old new : Option (List ℕ)) (before now : ℕ) → Appends old new due → Answered r raw defs old new before now (record { status = status_by complains; facts = Some raw; table = table; fault = None })
whole_written r raw defs table due true is_due old new before now wrote = record {
  done = λ le. record { due = due; is_due = is_due; wrote = wrote };
  sink = λ is. absurd (cc);
  memory = λ is. absurd (cc);
  later = λ is. absurd (cc);
  body = λ is. absurd (cc);
  silent = λ le other. absurd (omega arith);
  kinds = refl;
  facts_is = λ h. refl;
  facts = refl;
  table = is_kept r raw defs table due 1 is_due;
  fault = refl;
}
whole_written r raw defs table due false is_due old new before now wrote = record {
  done = λ le. record { due = due; is_due = is_due; wrote = wrote };
  sink = λ is. absurd (cc);
  memory = λ is. absurd (cc);
  later = λ is. absurd (cc);
  body = λ is. absurd (cc);
  silent = λ le other. absurd (omega arith);
  kinds = refl;
  facts_is = λ h. refl;
  facts = refl;
  table = is_kept r raw defs table due 0 is_due;
  fault = refl;
}

-- ---- a text that is read

pub kept : (o : Option (List ℕ)) → Keeps o o
kept None = tt
kept (Some xs) = refl

pub read_whole : (e : Ends) (text items : List ℕ) → text ≡ items → (length items ≤ 16777216) × Consumes e.left e.left_new items × IsAtEnd e.left_new → TookAll e text
read_whole e text items is (short, consumed, ended) = record { took = record { short = rw is short; consumed = rw is consumed }; ended = ended }

-- ---- a body that is not carried

pub by_later : (r : Request) (raw : RawFacts) (defs : List DefWithBodyId) (body : BodyId) → IsLater r raw body → (old new : Option (List ℕ)) (before now : ℕ) → Keeps old new
    → Answered r raw defs old new before now (refusal (later_fault body))
by_later r raw defs body is_later old new before now keeps = record {
  done = λ le. absurd (omega arith);
  sink = λ is. absurd (cc);
  memory = λ is. absurd (cc);
  later = λ is. record { body = body; is_later = is_later; fault_is = refl };
  body = λ is. absurd (cc);
  silent = λ le other. keeps;
  kinds = refl;
  facts_is = λ h. absurd (cc);
  facts = refl;
  table = refl;
  fault = refl;
}

-- ---- what a text stands for that is read for one definition

pub read_one : (d : DefWithBodyId) (raw : RawFacts) (meaning : Result RawFacts Fault) → IsRead (λ f. f) meaning raw → IsRead facts_of (asking_for d meaning) (raw, d ∷ [])
read_one d raw meaning h = record { stands = ap (asking_for d) h.stands; lawful = h.lawful }

pub read_none : (d : DefWithBodyId) (f : ReadError) (meaning : Result RawFacts Fault) → Reads {A = RawFacts} (λ x. x) (Err f) meaning → Reads facts_of (Err f) (asking_for d meaning)
read_none d error.OutOfMemory meaning h = tt
read_none d error.Json meaning h = ap (asking_for d) h
read_none d (error.Shape path) meaning h = ap (asking_for d) h
read_none d (error.Unlawful law list index) meaning h = record { broken = (h.broken, d ∷ []); stands = ap (asking_for d) h.stands; first = h.first }
