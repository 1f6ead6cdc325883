-- When a run must end as it did: over ends that do not fail each cause has its status, but for want of memory.
use Rattle.std.specs.Prelude.{◌≡◌, ◌<◌, ◌≤◌, ◌-◌, ◌^◌, ◌⊎◌, ℕ, List, length, Some}
use Rattle.hir_types.specs.declared.ids.BodyId.{BodyId}
use Rattle.hir_types.specs.declared.ids.DefWithBodyId.{DefWithBodyId}
use Rattle.hir_raw.specs.declared.raw.RawFacts.{RawFacts}
use Rattle.infer_text.specs.Facts.{IsRead}
use Rattle.infer_text.specs.Session.{facts_of}
use Rattle.infer_run.specs.Outcome.{limit, Ends}
use Rattle.infer_run.specs.Request.{IsAsked, CanAnswer, IsLater, LacksBody, meant}
use Rattle.infer_run.specs.declared.running.Ran.{Ran}
use Rattle.infer_run.specs.declared.words.Request.{Request}

-- neither count of faults rose, and neither stands at its type's last value
pub record AreSure (e : Ends) : Type 0 where
  pub reads : e.reads_new ≡ e.reads
  pub reads_few : e.reads < 2 ^ 64 - 1
  pub writes : e.writes_new ≡ e.writes
  pub writes_few : e.writes < 2 ^ 64 - 1

-- the words ask for something, the source tells that it gives this text, and neither end fails
pub record IsGiven (words : List (List ℕ)) (e : Ends) (text : List ℕ) : Type 0 where
  pub request : Request
  pub asked : IsAsked words request
  pub tells : e.left ≡ Some text
  pub sure : AreSure e

-- and the text stands for lawful facts
pub record IsGivenFacts (words : List (List ℕ)) (e : Ends) : Type 0 where
  pub text : List ℕ
  pub given : IsGiven words e text
  pub short : length text ≤ limit
  pub raw : RawFacts
  pub defs : List DefWithBodyId
  pub is_read : IsRead facts_of (meant given.request text) (raw, defs)

-- Lawful facts give what is due for a session, and a table where its one definition has a body there that is carried,
-- and else it is said that its body is not, or that it has none; of a text that is too long that is said.
pub record Exactly (words : List (List ℕ)) (e : Ends) (ran : Ran) : Type 0 where
  pub due : (x : IsGivenFacts words e) → CanAnswer x.given.request x.raw → (ran.status ≤ 1) ⊎ (ran.status ≡ 5)
  pub later : (x : IsGivenFacts words e) (body : BodyId) → IsLater x.given.request x.raw body → (ran.status ≡ 8) ⊎ (ran.status ≡ 5)
  pub no_body : (x : IsGivenFacts words e) → LacksBody x.given.request x.raw → (ran.status ≡ 9) ⊎ (ran.status ≡ 5)
  pub too_long : (text : List ℕ) → IsGiven words e text → limit < length text → (ran.status ≡ 10)
      ⊎ (ran.status ≡ 5)
