-- Goals answered Yes have proofs, and those answered No have none.
use Rattle.std.proofs.Common.{◌≡◌, ◌⊎◌, inl, inr, ℕ, zero, suc, true, false, Bool, sym, ◌∙◌, subst, [], Some}
use Rattle.std.proofs.lemmas.Option.{same_Some}
use Rattle.goal_answers.specs.Words.{TypeAliasId, Term, hole}
use Rattle.goal_answers.specs.Own.{Fill, Aliases, Reads, Kind, Asked, Rule, System, asked_at, args_of, type_of, key, IsKnown, self_type, only, is_among, OneIf, Each, Verdicts, SizedYes, SizedNo, Gives, GivesNone, alias_next, alias_first, Proves, RuleIsRefuted, Shadows, ShadowsNot, IsItself, YesAt, NoAt, nothing, answers, HasSource as IsAnswered, HasNoSource, IsOne, IsSource, HasProof, IsGiven, Claims, IsEntry, YesHasProofs, NoHasNoProof}
use Rattle.goal_answers.specs.Proofs.{HasSource}
use Rattle.goal_answers.proofs.Lists.{one_if, each_map, some_map, some_each, one_some, or_map}
use Rattle.goal_answers.proofs.Readings.{AliasWithin, reads_within, reads_one}
use Rattle.goal_answers.proofs.Filled.{first_stays, answers_stay}
use Rattle.goal_answers.proofs.Deeper.{IsWithin, within_itself, within_twice, copy_yes_more, sized_yes_more, sized_no_more, shadows_more, one_deeper}
use Rattle.goal_answers.proofs.One.{head_tells, key_tells, args_tell, Never, AlwaysStays, AliasAlwaysStays, not_refuted, copy_or, sized_or, itself_or, answers_sound}

-- the sides are the same, or there is a source
abbrev pub IsProvedBy : System → Aliases → (Asked → Type 0) → Kind → Term → Type 0
IsProvedBy f P Proved c w = IsItself c w ⊎ OneIf (is_among f.sized c) (SizedYes f P (λ t. HasSource f P Proved c (only t)) f.tail (self_type w)) (HasSource f P Proved c w)

pub first_always : (f : System) → AlwaysStays (nothing f)
first_always f s h = record { yes = λ g y. y; no = λ g y. y; alias = (first_stays f s h).alias }

-- ---- Yes

module _ (f : System) (P : Aliases) (one : IsOne P) (v : Verdicts) (stays : AlwaysStays v) (A : Aliases) (alias_stays : AliasAlwaysStays A) (i : AliasWithin A P) (Proved : Asked → Type 0) (up : (g : Asked) → v.Yes g → Proved g) where
  reads_more : (p : Fill) (t u : Term) → Reads A p t u → Reads P p t u
  reads_more p t u h = reads_within A P i p t u h

  is_source : (c : Kind) (w : Term) (r : Rule) → Proves A v.Yes c w r → IsSource P Proved c w r
  is_source c w r h = record { kind = h.kind; at = h.at; head = reads_more h.at r.head.parts w h.head; preds = each_map (λ q y. up (asked_at h.at q) y) r.preds h.preds }

  no_shadow : (c : Kind) (w : Term) (r : Rule) → ShadowsNot A v c w r → Shadows P c w r → ⊥
  no_shadow c w r (inl n) h = n h.kind
  no_shadow c w r (inr n) h = not_refuted v stays (λ g. ⊥) (λ g y n. y) A alias_stays P one reads_more r (key c r.head.parts) (key c w) [] h.at (key_tells c r h.kind) h.head tt n

  answered_source : (c : Kind) (w : Term) → IsAnswered f A v c w → HasSource f P Proved c w
  answered_source c w h =
      or_map (some_map (is_source c w) f.clauses)
      (λ x. (each_map (no_shadow c w) f.clauses x.0, or_map (some_map (is_source c w) f.rules) (copy_yes_more f v.Yes Proved up c w) x.1)) h

  yes_at_proved : (c : Kind) (w : Term) → YesAt f A v c w → IsProvedBy f P Proved c w
  yes_at_proved c w y =
      or_map (λ x. x) (one_if (is_among f.sized c)
      (sized_yes_more f A P i (λ t. IsKnown (only t) × IsAnswered f A v c (only t)) (λ t. HasSource f P Proved c (only t)) (λ t h. answered_source c (only t) h.1) f.tail (self_type w))
      (answered_source c w)) y.1

module _ (f : System) (m : ℕ) where
  abbrev table : Aliases
  table = (answers f m).Alias

  table_one : IsOne table
  table_one = (answers_sound f m).one

  alias_always : (n : ℕ) → AliasAlwaysStays (answers f n).Alias
  alias_always n s h = (answers_stay f n s h).alias

  pub yes_has_proof : (n : ℕ) → IsWithin (answers f n) (answers f m) → (g : Asked) → (answers f n).Yes g → HasProof f table (suc n) g
  yes_has_proof zero i g y = (
    y.0,
    reads_within (alias_first f) table i.alias hole g.parts y.0 y.1,
    yes_at_proved f table table_one (nothing f) (first_always f) (alias_first f) (alias_always zero) i.alias (HasProof f table zero) (λ g h. h) g.kind y.0 y.3,
  )
  yes_has_proof (suc n) i g y =
      let below = within_twice (answers f n) (answers f (suc n)) (answers f m) (one_deeper f n) i in (
        y.0,
        reads_within (answers f (suc n)).Alias table i.alias hole g.parts y.0 y.1,
        yes_at_proved f table table_one (answers f n) (λ s h. answers_stay f n s h) (answers f (suc n)).Alias (alias_always (suc n)) i.alias (HasProof f table (suc n)) (yes_has_proof n below) g.kind y.0 y.2,
      )

  -- ---- entries

  module _ (n : ℕ) (i : IsWithin (answers f n) (answers f m)) where
    reads_in : (p : Fill) (t u : Term) → Reads (answers f n).Alias p t u → Reads table p t u
    reads_in p t u h = reads_within (answers f n).Alias table i.alias p t u h

    is_given : (k : TypeAliasId) (w u : Term) (r : Rule) → Gives (answers f n) k w u r → IsGiven table (HasProof f table (suc n)) k w u r
    is_given k w u r h = record {
      kind = h.kind;
      at = h.at;
      args = reads_in h.at (args_of r.head.parts) w h.args;
      type = reads_in h.at (type_of r.head.parts) u h.type;
      preds = each_map (λ q y. yes_has_proof n i (asked_at h.at q) y) r.preds h.preds;
    }

    no_claim : (k : TypeAliasId) (w : Term) (r : Rule) → GivesNone (answers f n) k w r → Claims table k w r → ⊥
    no_claim k w r (inl x) h = x h.kind
    no_claim k w r (inr x) h =
        not_refuted (answers f n) (λ s h. answers_stay f n s h) (λ g. ⊥) (λ g y n. y) (answers f n).Alias (alias_always n) table table_one reads_in r (args_of r.head.parts) w r.preds h.at (args_tell k r h.kind) h.args
        (subst (Each (λ q. ⊥)) (sym h.no_preds) tt) x

    pub next_is_entry : (k : TypeAliasId) (w u : Term) → alias_next f (answers f n) k w u → IsEntry f table (suc n) k w u
    next_is_entry k w u (known, inl a) = inr (inl (one_some (Gives (answers f n) k w u) (GivesNone (answers f n) k w) (IsGiven table (HasProof f table (suc n)) k w u) (is_given k w u) f.clauses a))
    next_is_entry k w u (known, inr (none, inl a)) = inr (inr (each_map (no_claim k w) f.clauses none, one_some (Gives (answers f n) k w u) (GivesNone (answers f n) k w) (IsGiven table (HasProof f table (suc n)) k w u) (is_given k w u) f.rules a))
    next_is_entry k w u (known, inr (none, inr a)) = inl a.1

  pub alias_is_entry : (n : ℕ) → IsWithin (answers f n) (answers f m) → (k : TypeAliasId) (w u : Term) → (answers f n).Alias k w u → IsEntry f table n k w u
  alias_is_entry zero i k w u a = inl a.3
  alias_is_entry (suc n) i k w u a = next_is_entry n (within_twice (answers f n) (answers f (suc n)) (answers f m) (one_deeper f n) i) k w u a

pub yes_has_proofs : YesHasProofs
yes_has_proofs f n = (
  λ g s filling y. yes_has_proof f n n (within_itself (answers f n)) (asked_at s g) ((answers_stay f n s filling).yes g y),
  λ k w u a. alias_is_entry f n n (within_itself (answers f n)) k w u a,
)

-- ---- No

module _ (f : System) (P : Aliases) (one : IsOne P) (v : Verdicts) (stays : AlwaysStays v) (A : Aliases) (alias_stays : AliasAlwaysStays A) (i : AliasWithin A P) (Proved : Asked → Type 0) (never : Never Proved v) where
  pub refuted_source : (c : Kind) (w : Term) (r : Rule) → IsSource P Proved c w r → RuleIsRefuted A v c w r → ⊥
  refuted_source c w r h (inl n) = n h.kind
  refuted_source c w r h (inr n) = not_refuted v stays Proved never A alias_stays P one (λ p t u x. reads_within A P i p t u x) r r.head.parts w r.preds h.at (head_tells r) h.head h.preds n

  no_source : (c : Kind) (w : Term) → HasSource f P Proved c w → HasNoSource f A v c w → ⊥
  no_source c w (inl y) n = some_each (refuted_source c w) f.clauses y n.0
  no_source c w (inr y) (refuted, inl n) = some_each (λ r s k. k (shadows_more v v (within_itself v) A P i c w r s)) f.clauses n y.0
  no_source c w (inr (y, inl z)) (refuted, inr n) = some_each (refuted_source c w) f.rules z n.0
  no_source c w (inr (y, inr z)) (refuted, inr n) = copy_or f Proved v.No never c w z n.1

  pub no_at_proved : (c : Kind) (w : Term) → IsProvedBy f P Proved c w → NoAt f A v c w → ⊥
  no_at_proved c w (inl y) n = itself_or c w y n.1
  no_at_proved c w (inr y) n = by_kind (is_among f.sized c) y n.2
    where
      by_kind : (b : Bool) → OneIf b (SizedYes f P (λ t. HasSource f P Proved c (only t)) f.tail (self_type w)) (HasSource f P Proved c w) → OneIf b (SizedNo f A (λ t. IsKnown (only t) × HasNoSource f A v c (only t)) f.tail (self_type w)) (HasNoSource f A v c w) → ⊥
      by_kind true y n =
          sized_or f P one (λ t. HasSource f P Proved c (only t)) (λ t. HasNoSource f A v c (only t)) (λ t. no_source c (only t)) f.tail (self_type w) y
          (sized_no_more f A P i (λ t. IsKnown (only t) × HasNoSource f A v c (only t)) (λ t. HasNoSource f A v c (only t)) (λ t h. h.1) f.tail (self_type w) n)
      by_kind false y n = no_source c w y n

module _ (f : System) (P : Aliases) (one : IsOne P) where
  pub no_has_none : (n height : ℕ) → AliasWithin (answers f n).Alias P → (g : Asked) → HasProof f P height g → (answers f n).No g → ⊥
  no_has_none n zero i g h m = h
  no_has_none zero (suc height) i g h m =
      let A = alias_first f in
      let e = reads_one P one hole g.parts m.0 h.0 (reads_within A P i hole g.parts m.0 m.1) h.1 in
      no_at_proved f P one (nothing f) (first_always f) A (λ s k. (first_stays f s k).alias) i (HasProof f P height) (λ g y n. n) g.kind h.0 h.2 (subst (NoAt f A (nothing f) g.kind) e m.3)
  no_has_none (suc n) (suc height) i g h m =
      let A = (answers f (suc n)).Alias in
      let e = reads_one P one hole g.parts m.0 h.0 (reads_within A P i hole g.parts m.0 m.1) h.1 in
      no_at_proved f P one (answers f n) (λ s k. answers_stay f n s k) A (λ s k. (answers_stay f (suc n) s k).alias) i (HasProof f P height)
      (no_has_none n height (λ k w u a. i k w u ((one_deeper f n).alias k w u a))) g.kind h.0 h.2 (subst (NoAt f A (answers f n) g.kind) e m.2)

pub no_has_no_proof : NoHasNoProof
no_has_no_proof f n table says g s filling m height h =
    no_has_none f (λ k w u. table k w ≡ Some u) (λ k w u u' a b. same_Some u u' (sym a ∙ b)) n height says (asked_at s g) h ((answers_stay f n s filling).no g m)
