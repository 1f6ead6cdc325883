-- The reports of a session, made one after another and then written.
use Rattle.std.proofs.Common.{rules, ◌≡◌, ℕ, ◌+◌, ◌<◌, ◌≤◌, List, [], ◌∷◌, ◌++◌, length, drop, get_or, Bool, true, false, ◌||◌, cond, Option, Some, None, IsSome, is_some, refl, sym, ap, subst, ◌∙◌, inl, inr, arith, append_assoc, add-one, drop-cons}
use Rattle.std.specs.Prelude.{◌↔◌, ◌⊎◌, flat_map, IfSome}
use Rattle.std.specs.List.{list_any}
use Rattle.std.proofs.lemmas.List.{append-nil, drop_all}
use Rattle.std.specs.HashMap.{HashMap, get, hash_map_len, Updates}
use Rattle.hir_types.specs.declared.ids.DefWithBodyId.{DefWithBodyId}
use Rattle.hir_raw.specs.declared.raw.RawFacts.{RawFacts}
use Rattle.hir_facts.specs.Bodies.{HasCarriedBody}
use Rattle.infer_result.specs.declared.result.InferenceResult.{InferenceResult}
use Rattle.infer_run.specs.Reports.{AreMade, Fits, IsReportOn, def_eq}
use Rattle.infer_run.specs.Request.{IsOneOf, IsAnswer, IsSessionDue, answer_text, is_complaint, last_line, status_by}
use Rattle.infer_run.specs.Table.{IsPromised}
use Rattle.infer_run.specs.declared.session.Report.{Report}

-- ---- equal definitions

def_tells : (a b : DefWithBodyId) → def_eq a b ≡ true → a ≡ b
def_tells a b h = search rules

def_is : (a b : DefWithBodyId) → a ≡ b → def_eq a b ≡ true
def_is a b h = search rules

-- ---- a report and a table

some_fit : (raw : RawFacts) (d : DefWithBodyId) (r : Option Report) (a : Option InferenceResult) → Fits raw d r a → IsSome r → IsSome a
some_fit raw d (Some r) (Some a) h some = refl
some_fit raw d (Some r) None h some = absurd h
some_fit raw d None a h some = absurd (cc)

none_fit : (raw : RawFacts) (d : DefWithBodyId) (a : Option InferenceResult) → Fits raw d None a → IsSome a → ⊥
none_fit raw d (Some a) h some = h
none_fit raw d None h some = cc

pub is_none : {A : Type 0} (o : Option A) → is_some o ≡ false → o ≡ None
is_none None is = refl
is_none (Some x) is = absurd (cc)

none_some : (A : Type 0) → IsSome {T = A} None → ⊥
none_some A h = cc

-- ---- one more definition

module _ {S : Type 0} (raw : RawFacts) (seen : List DefWithBodyId) (m : HashMap DefWithBodyId Report S) (a : AreMade raw seen m) (d : DefWithBodyId) where
  before : (q : DefWithBodyId) → IsOneOf a.inferred q → IsOneOf (d ∷ seen) q × HasCarriedBody raw q
  before q h = let p = (a.those q).0 h in (inr p.0, p.1)

  -- which has no body that is carried
  pub without_body : (HasCarriedBody raw d → ⊥) → AreMade raw (d ∷ seen) m
  without_body lacks =
      let back : (q : DefWithBodyId) → (d ≡ q) ⊎ IsOneOf seen q → HasCarriedBody raw q → IsOneOf a.inferred q = λ q h has. elim h [
        | inl is ↦ absurd (lacks (subst (λ x. HasCarriedBody raw x) (sym is) has))
        | inr l ↦ (a.those q).1 (l, has)
      ] in
      record {
        answers = a.answers;
        inferred = a.inferred;
        promised = a.promised;
        listed = a.listed;
        answered = a.answered;
        those = λ q. (before q, λ h. back q h.0 h.1);
        once = a.once;
        fits = a.fits;
        count = a.count;
      }

  -- whose report is there
  pub is_there : IsSome (get def_eq m d) → AreMade raw (d ∷ seen) m
  is_there has_report =
      let here : IsOneOf a.inferred d = a.listed d (some_fit raw d (get def_eq m d) (a.answers d) (a.fits d) has_report) in
      let back : (q : DefWithBodyId) → (d ≡ q) ⊎ IsOneOf seen q → HasCarriedBody raw q → IsOneOf a.inferred q = λ q h has. elim h [
        | inl is ↦ subst (λ x. IsOneOf a.inferred x) is here
        | inr l ↦ (a.those q).1 (l, has)
      ] in
      record {
        answers = a.answers;
        inferred = a.inferred;
        promised = a.promised;
        listed = a.listed;
        answered = a.answered;
        those = λ q. (before q, λ h. back q h.0 h.1);
        once = a.once;
        fits = a.fits;
        count = a.count;
      }

  -- whose report is made
  module _ (r : Report) (on : IsReportOn raw d r) (absent : get def_eq m d ≡ None) where
    abbrev chosen : Bool → DefWithBodyId → Option InferenceResult
    chosen b q = cond b (Some on.table) (a.answers q)

    promised_by : (b : Bool) (q : DefWithBodyId) → def_eq d q ≡ b → IfSome (chosen b q) (λ table. IsPromised raw q table)
    promised_by true q is = subst (λ x. IsPromised raw x on.table) (def_tells d q is) on.promised
    promised_by false q is = a.promised q

    listed_by : (b : Bool) (q : DefWithBodyId) → def_eq d q ≡ b → IsSome (chosen b q) → (d ≡ q) ⊎ IsOneOf a.inferred q
    listed_by true q is some = inl (def_tells d q is)
    listed_by false q is some = inr (a.listed q some)

    answered_by : (b : Bool) (q : DefWithBodyId) → IsOneOf a.inferred q → IsSome (chosen b q)
    answered_by true q l = refl
    answered_by false q l = a.answered q l

    answered_here : (q : DefWithBodyId) → d ≡ q → IsSome (chosen (def_eq d q) q)
    answered_here q is = rw (def_is d q is) refl

    fits_by : (b : Bool) (q : DefWithBodyId) → def_eq d q ≡ b → Fits raw q (cond b (Some r) (get def_eq m q)) (chosen b q)
    fits_by true q is = subst (λ x. Fits raw x (Some r) (Some on.table)) (def_tells d q is) on.tells
    fits_by false q is = a.fits q

    not_yet : IsOneOf a.inferred d → ⊥
    not_yet l = none_fit raw d (a.answers d) (subst (λ o. Fits raw d o (a.answers d)) absent (a.fits d)) (a.answered d l)

    pub one_more : (n : HashMap DefWithBodyId Report S) → Updates def_eq m n d (Some r) → hash_map_len n ≡ hash_map_len m + 1 → AreMade raw (d ∷ seen) n
    one_more n puts count =
        let forth : (q : DefWithBodyId) → (d ≡ q) ⊎ IsOneOf a.inferred q → IsOneOf (d ∷ seen) q × HasCarriedBody raw q = λ q h. elim h [
          | inl is ↦ (inl is, subst (λ x. HasCarriedBody raw x) is on.promised.has_body)
          | inr l ↦ before q l
        ] in
        let back : (q : DefWithBodyId) → (d ≡ q) ⊎ IsOneOf seen q → HasCarriedBody raw q → IsOneOf (d ∷ a.inferred) q = λ q h has. elim h [
          | inl is ↦ inl is
          | inr l ↦ inr ((a.those q).1 (l, has))
        ] in
        let told : (q : DefWithBodyId) → (d ≡ q) ⊎ IsOneOf a.inferred q → IsSome (chosen (def_eq d q) q) = λ q h. elim h [
          | inl is ↦ answered_here q is
          | inr l ↦ answered_by (def_eq d q) q l
        ] in
        record {
          answers = λ q. chosen (def_eq d q) q;
          inferred = d ∷ a.inferred;
          promised = λ q. promised_by (def_eq d q) q refl;
          listed = λ q some. listed_by (def_eq d q) q refl some;
          answered = told;
          those = λ q. (forth q, λ h. back q h.0 h.1);
          once = (not_yet, a.once);
          fits = λ q. subst (λ o. Fits raw q o (chosen (def_eq d q) q)) (sym (puts.0 q)) (fits_by (def_eq d q) q refl);
          count = let so_far = a.count in omega arith;
        }

-- ---- all definitions

-- those before the one at i were seen
pub record SoFar {S : Type 0} (raw : RawFacts) (defs : List DefWithBodyId) (i : ℕ) (m : HashMap DefWithBodyId Report S) : Type 0 where
  pub seen : List DefWithBodyId
  pub made : AreMade raw seen m
  pub so_far : (d : DefWithBodyId) → IsOneOf defs d ↔ (IsOneOf seen d ⊎ IsOneOf (drop i defs) d)

pub nothing_yet : {S : Type 0} (raw : RawFacts) (defs : List DefWithBodyId) (m : HashMap DefWithBodyId Report S) → m.entries ≡ [] → SoFar raw defs 0 m
nothing_yet raw defs m empty =
    record {
      seen = [];
      made = record {
        answers = λ d. None;
        inferred = [];
        promised = λ d. tt;
        listed = λ d some. absurd (cc);
        answered = λ d l. absurd l;
        those = λ d. (λ l. absurd l, λ h. absurd h.0);
        once = tt;
        fits = λ d. rw empty tt;
        count = rw empty refl;
      };
      so_far = λ d. (
        λ l. inr l,
        λ h. elim h [
          | inl l ↦ absurd l
          | inr l ↦ l
        ],
      );
    }

at_drop : (defs : List DefWithBodyId) (i : ℕ) (z : DefWithBodyId) → i < length defs → drop i defs ≡ get_or defs i z ∷ drop (i + 1) defs
at_drop defs i z lt = rw add-one (drop-cons defs i z lt)

pub seen_more : {S : Type 0} (raw : RawFacts) (defs : List DefWithBodyId) (i : ℕ) (m n : HashMap DefWithBodyId Report S) (z : DefWithBodyId) → i < length defs → SoFar raw defs i m
    → ((seen : List DefWithBodyId) → AreMade raw seen m → AreMade raw (get_or defs i z ∷ seen) n) → SoFar raw defs (i + 1) n
seen_more raw defs i m n z lt s step =
    let d : DefWithBodyId = get_or defs i z in
    let cut : drop i defs ≡ d ∷ drop (i + 1) defs = at_drop defs i z lt in
    let forth : (q : DefWithBodyId) → IsOneOf s.seen q ⊎ IsOneOf (d ∷ drop (i + 1) defs) q → IsOneOf (d ∷ s.seen) q ⊎ IsOneOf (drop (i + 1) defs) q = λ q h. elim h [
      | inl l ↦ inl (inr l)
      | inr (inl e) ↦ inl (inl e)
      | inr (inr l) ↦ inr l
    ] in
    let back : (q : DefWithBodyId) → IsOneOf (d ∷ s.seen) q ⊎ IsOneOf (drop (i + 1) defs) q → IsOneOf s.seen q ⊎ IsOneOf (d ∷ drop (i + 1) defs) q = λ q h. elim h [
      | inl (inl e) ↦ inr (inl e)
      | inl (inr l) ↦ inl l
      | inr l ↦ inr (inr l)
    ] in
    record {
      seen = d ∷ s.seen;
      made = step s.seen s.made;
      so_far = λ q. (
        λ l. forth q (subst (λ ds. IsOneOf s.seen q ⊎ IsOneOf ds q) cut ((s.so_far q).0 l)),
        λ h. (s.so_far q).1 (subst (λ ds. IsOneOf s.seen q ⊎ IsOneOf ds q) (sym cut) (back q h)),
      );
    }

pub all_seen : {S : Type 0} (raw : RawFacts) (defs : List DefWithBodyId) (i : ℕ) (m : HashMap DefWithBodyId Report S) → length defs ≤ i → SoFar raw defs i m → AreMade raw defs m
all_seen raw defs i m le s =
    let a = s.made in
    let ended : drop i defs ≡ [] = drop_all i defs le in
    let forth : (q : DefWithBodyId) → IsOneOf s.seen q → IsOneOf defs q = λ q l. (s.so_far q).1 (inl l) in
    let back : (q : DefWithBodyId) → IsOneOf defs q → IsOneOf s.seen q = λ q l. elim (subst (λ ds. IsOneOf s.seen q ⊎ IsOneOf ds q) ended ((s.so_far q).0 l)) [
      | inl x ↦ x
      | inr x ↦ absurd x
    ] in
    record {
      answers = a.answers;
      inferred = a.inferred;
      promised = a.promised;
      listed = a.listed;
      answered = a.answered;
      those = λ q. (λ l. (forth q ((a.those q).0 l).0, ((a.those q).0 l).1), λ h. (a.those q).1 (back q h.0, h.1));
      once = a.once;
      fits = a.fits;
      count = a.count;
    }

-- ---- what is written

-- the text of those before the one at i was written, and it is known whether something is complained of there
pub record WrittenTo (raw : RawFacts) (answers : DefWithBodyId → Option InferenceResult) (defs : List DefWithBodyId) (i : ℕ) (start now : List ℕ) (complains : Bool) : Type 0 where
  pub text : now ++ flat_map (λ d. answer_text raw d (answers d)) (drop i defs) ≡ start ++ flat_map (λ d. answer_text raw d (answers d)) defs
  pub told : (complains || list_any (λ d. is_complaint (answers d)) (drop i defs)) ≡ list_any (λ d. is_complaint (answers d)) defs

pub write_none : (raw : RawFacts) (answers : DefWithBodyId → Option InferenceResult) (defs : List DefWithBodyId) (start : List ℕ) → WrittenTo raw answers defs 0 start start false
write_none raw answers defs start = record { text = refl; told = refl }

or_assoc : (a b c : Bool) → ((a || b) || c) ≡ (a || (b || c))
or_assoc true b c = refl
or_assoc false b c = refl

or_nothing : (a : Bool) → (a || false) ≡ a
or_nothing true = refl
or_nothing false = refl

module _ (raw : RawFacts) (answers : DefWithBodyId → Option InferenceResult) (defs : List DefWithBodyId) (i : ℕ) (start now : List ℕ) (complains : Bool) where
  pub write_more : (z : DefWithBodyId) (next : List ℕ) (c : Bool) → i < length defs → WrittenTo raw answers defs i start now complains → c ≡ is_complaint (answers (get_or defs i z))
      → next ≡ now ++ answer_text raw (get_or defs i z) (answers (get_or defs i z)) → WrittenTo raw answers defs (i + 1) start next (complains || c)
  write_more z next c lt w told wrote =
      let d : DefWithBodyId = get_or defs i z in
      let cut : drop i defs ≡ d ∷ drop (i + 1) defs = at_drop defs i z lt in
      let texts : List DefWithBodyId → List ℕ = λ ds. flat_map (λ x. answer_text raw x (answers x)) ds in
      let any : List DefWithBodyId → Bool = λ ds. list_any (λ x. is_complaint (answers x)) ds in
      record {
        text = rw wrote (append_assoc now (answer_text raw d (answers d)) (texts (drop (i + 1) defs)) ∙ (ap (λ ds. now ++ texts ds) (sym cut) ∙ w.text));
        told = rw told (or_assoc complains (is_complaint (answers d)) (any (drop (i + 1) defs)) ∙ (ap (λ ds. complains || any ds) (sym cut) ∙ w.told));
      }

  pub write_all : length defs ≤ i → WrittenTo raw answers defs i start now complains
      → (complains ≡ list_any (λ d. is_complaint (answers d)) defs) × (now ≡ start ++ flat_map (λ d. answer_text raw d (answers d)) defs)
  write_all le w =
      let ended : drop i defs ≡ [] = drop_all i defs le in (
        sym (or_nothing complains) ∙ (ap (λ ds. complains || list_any (λ d. is_complaint (answers d)) ds) (sym ended) ∙ w.told),
        sym (append-nil now) ∙ (ap (λ ds. now ++ flat_map (λ d. answer_text raw d (answers d)) ds) (sym ended) ∙ w.text),
      )

-- ---- the whole

pub whole_text : (written start answered final : List ℕ) (count n : ℕ) → final ≡ written ++ last_line count → written ≡ start ++ answered → start ≡ [] → count ≡ n → final ≡ answered ++ last_line n
whole_text written start answered final count n p q r c = rw (p, q, r, c) refl

module _ {S : Type 0} (raw : RawFacts) (defs : List DefWithBodyId) (m : HashMap DefWithBodyId Report S) (a : AreMade raw defs m) where
  answer_by : (d : DefWithBodyId) (x : Option InferenceResult) → a.answers d ≡ x → IsOneOf defs d → IsAnswer raw d x
  answer_by d (Some table) is l = subst (λ x. IfSome x (λ t. IsPromised raw d t)) is (a.promised d)
  answer_by d None is l = λ has. none_some InferenceResult (subst (λ x. IsSome x) is (a.answered d ((a.those d).1 (l, has))))

  pub is_due : (complains : Bool) (text : List ℕ) → complains ≡ list_any (λ d. is_complaint (a.answers d)) defs
      → text ≡ flat_map (λ d. answer_text raw d (a.answers d)) defs ++ last_line (hash_map_len m) → IsSessionDue raw defs None text (status_by complains)
  is_due complains text told wrote =
      record {
        answers = a.answers;
        answered = λ d l. answer_by d (a.answers d) refl l;
        inferred = a.inferred;
        once = a.once;
        those = a.those;
        due_is = wrote ∙ ap (λ n. flat_map (λ d. answer_text raw d (a.answers d)) defs ++ last_line n) a.count;
        none_kept = refl;
        status_is = ap status_by told;
      }
