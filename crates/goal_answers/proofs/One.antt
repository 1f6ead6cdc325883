-- No goal is answered both, and what an alias reads as is one thing.
use Rattle.std.proofs.Common.{◌≡◌, ◌⊎◌, inl, inr, ℕ, zero, suc, ◌+◌, true, false, Bool, true≢false, refl, sym, ap, ◌∙◌, subst, arith, List, []}
use Rattle.std.proofs.lemmas.Bool.{or_left, or_right}
use Rattle.goal_answers.specs.Words.{TypeAliasId, Hole, Term, hole, leaf, pair, apply, occurs, hole_number, apply_apply, apply_agree, hole_respects}
use Rattle.goal_answers.specs.Own.{Fill, Role, plain, alias, role, IsFilling, stands, Aliases, Reads, ReadsAs, Kind, implements, projects, Asked, Rule, System, asked_at, args_of, type_of, key, IsKnown, self_type, only, is_among, OneIf, Each, SomeOf, OneOf, IsToldBy, IsTold, Verdicts, types_of, Copied, with_parts, by_impls, unclear, copied, CopyYes, CopyNo, Tail, has_size, has_none, field, last, asked, unclear_tail, tail_of, SizedYes, SizedNo, NeverSame, IsRefuted, Gives, GivesNone, ByRules, alias_next, alias_first, Proves, RuleIsRefuted, Shadows, ShadowsNot, HasSource, HasNoSource, IsItself, IsNeverItself, YesAt, NoAt, next, nothing, first, answers, IsOne, Tells, AnswersAreOne}
use Rattle.goal_answers.proofs.Lists.{each_map, some_each, one_each, one_one, picked}
use Rattle.goal_answers.proofs.Parts.{types_or, last_one, nth_one}
use Rattle.goal_answers.proofs.Readings.{apply_hole, AliasStays, reads_filled, reads_one, reads_may, reads_agree, may_here, may_tells, hole_filling, stands_by}
use Rattle.goal_answers.proofs.Filled.{Stays, CopyYesBy, CopyNoBy, SizedYesBy, SizedNoBy, alias_next_stays, first_stays, answers_stay}
use Rattle.goal_answers.proofs.Deeper.{IsWithin, deeper}

-- ---- what a key tells

-- what stands in the key stands in the whole
no_alias : (a : Term) (k : Hole) (m : TypeAliasId) → role a ≡ alias m → stands k a ≡ true → ⊥
no_alias (hole j) k m e h = cc
no_alias (leaf x) k m e h = true≢false (sym h)
no_alias (pair b c) k m e h = cc

stands_args : (k : Hole) (t : Term) → stands k (args_of t) ≡ true → stands k t ≡ true
stands_args k (hole j) h = absurd (true≢false (sym h))
stands_args k (leaf x) h = absurd (true≢false (sym h))
stands_args k (pair a b) h = by_role (role a) refl
  where
    by_role : (x : Role) → role a ≡ x → stands_by (role a) k a b ≡ true
    by_role plain e = subst (λ (x : Role). stands_by x k a b ≡ true) (sym e) (or_left (stands k a) (stands k b) h)
    by_role (alias m) e = absurd (no_alias a k m e h)

stands_key : (c : Kind) (k : Hole) (t : Term) → stands k (key c t) ≡ true → stands k t ≡ true
stands_key (implements n) k t h = h
stands_key (projects m) k t h = stands_args k t h

occurs_args : (k : Hole) (t : Term) → occurs k (args_of t) ≡ true → occurs k t ≡ true
occurs_args k (hole j) h = absurd (true≢false (sym h))
occurs_args k (leaf x) h = absurd (true≢false (sym h))
occurs_args k (pair a b) h = or_left (occurs k a) (occurs k b) h

pub occurs_type : (k : Hole) (t : Term) → occurs k (type_of t) ≡ true → occurs k t ≡ true
occurs_type k (hole j) h = absurd (true≢false (sym h))
occurs_type k (leaf x) h = absurd (true≢false (sym h))
occurs_type k (pair a b) h = or_right (occurs k a) (occurs k b) h

pub occurs_key : (c : Kind) (k : Hole) (t : Term) → occurs k (key c t) ≡ true → occurs k t ≡ true
occurs_key (implements n) k t h = h
occurs_key (projects m) k t h = occurs_args k t h

pub head_tells : (r : Rule) → IsTold r → Tells r r.head.parts r.preds
head_tells r t = record {
  itself = λ k h. stands_key r.head.kind k r.head.parts (t.head k h);
  preds = each_map (λ q h k o. stands_key r.head.kind k r.head.parts (h k o)) r.preds t.preds;
}

pub key_tells : (c : Kind) (r : Rule) → r.head.kind ≡ c → IsTold r → Tells r (key c r.head.parts) []
key_tells c r e t = record {
  itself = λ k h. subst (λ (d : Kind). stands k (key d r.head.parts) ≡ true) e (t.head k (occurs_key c k r.head.parts h));
  preds = tt;
}

pub args_tell : (k : TypeAliasId) (r : Rule) → r.head.kind ≡ projects k → IsTold r → Tells r (args_of r.head.parts) r.preds
args_tell k r e t = record {
  itself = λ j h. subst (λ (d : Kind). stands j (key d r.head.parts) ≡ true) e (t.head j (occurs_args j r.head.parts h));
  preds = each_map (λ q h j o. subst (λ (d : Kind). stands j (key d r.head.parts) ≡ true) e (h j o)) r.preds t.preds;
}

-- ---- what fits is not refuted

-- no goal is answered both
abbrev pub Never : (Asked → Type 0) → Verdicts → Type 0
Never Yes v = (g : Asked) → Yes g → v.No g → ⊥

abbrev pub AlwaysStays : Verdicts → Type 0
AlwaysStays v = (s : Fill) → IsFilling s → Stays s v

abbrev pub AliasAlwaysStays : Aliases → Type 0
AliasAlwaysStays A = (s : Fill) → IsFilling s → AliasStays s A

-- where what is refuted is read by `A`, and what fits by `P`, which says more
module _ (v : Verdicts) (stays : AlwaysStays v) (Yes : Asked → Type 0) (never : Never Yes v) (A : Aliases) (alias_stays : AliasAlwaysStays A) (P : Aliases) (one : IsOne P) (more : (p : Fill) (t u : Term) → Reads A p t u → Reads P p t u) where
  pub same_at : (x p p' : Fill) (t : Term) → ((k : Hole) → stands k t ≡ true → p k ≡ apply x (p' k)) → (q : Asked) → IsToldBy t q.parts → asked_at x (asked_at p' q) ≡ asked_at p q
  same_at x p p' t e q told =
      ap (λ (y : Term). let r : Asked = record { kind = q.kind; parts = y } in r)
      (apply_apply x p' q.parts ∙ apply_agree (λ k. apply x (p' k)) p q.parts (λ k h. sym (e k (told k h))))

  pub not_refuted : (r : Rule) (t w : Term) (preds : List Asked) (p : Fill) → (IsTold r → Tells r t preds) → Reads P p t w → Each (λ q. Yes (asked_at p q)) preds → IsRefuted A v r t preds w → ⊥
  not_refuted r t w preds p tells fits holds (inl a) = a p hole hole_filling (may_here p t w (reads_may P p t w fits))
  not_refuted r t w preds p telling fits holds (inr (told, fails)) = by_case fails.fails
    where
      tells : Tells r t preds
      tells = telling told

      instance : (x : Fill) × IsFilling x × ((k : Hole) → stands k t ≡ true → p k ≡ apply x (fails.at k))
      instance = fails.general p hole hole_filling (may_here p t w (reads_may P p t w fits))

      by_case : ((h : Term) × Reads A fails.at t h × NeverSame h w) ⊎ SomeOf (λ q. v.No (asked_at fails.at q)) preds → ⊥
      by_case (inl a) =
          let x = instance in
          let there = more (λ k. apply x.0 (fails.at k)) t (apply x.0 a.0) (reads_filled x.0 A (alias_stays x.0 x.1) fails.at t a.0 a.1) in
          let here = reads_agree P (λ k. apply x.0 (fails.at k)) p t (apply x.0 a.0) (λ k h. sym (x.2 k (tells.itself k h))) there in
          a.2 x.0 hole x.1.respects hole_respects (reads_one P one p t (apply x.0 a.0) w here fits ∙ sym (apply_hole w))
      by_case (inr a) =
          let x = instance in
          let q = picked preds a holds tells.preds in
          never (asked_at p q.0) q.2 (subst v.No (same_at x.0 p fails.at t x.2 q.0 q.3) ((stays x.0 x.1).no (asked_at fails.at q.0) q.1))

-- ---- rows

pub copy_or : (f : System) (Y N : Asked → Type 0) → ((g : Asked) → Y g → N g → ⊥) → (c : Kind) (w : Term) → CopyYes f Y c w → CopyNo f N c w → ⊥
copy_or f Y N never c w y (inl n) = n y.0
copy_or f Y N never c w y (inr n) = by_copied (copied (self_type w)) y.1 n
  where
    by_copied : (x : Copied) → CopyYesBy Y c x → CopyNoBy N c x → ⊥
    by_copied (with_parts ts) y n = types_or (λ t. never (record { kind = c; parts = only t })) (types_of ts) y n
    by_copied by_impls y n = y
    by_copied unclear y n = y

module _ (f : System) (A : Aliases) (one : IsOne A) (Y N : Term → Type 0) (never : (t : Term) → Y t → N t → ⊥) where
  pub sized_or : (n : ℕ) (t : Term) → SizedYes f A Y n t → SizedNo f A N n t → ⊥
  sized_or zero t y x = x
  sized_or (suc n) t y x = by_tail (tail_of f t) (sized_or n) y x
    where
      by_tail : (x : Tail) → ((u : Term) → SizedYes f A Y n u → SizedNo f A N n u → ⊥) → SizedYesBy f A Y n t x → SizedNoBy f A N n t x → ⊥
      by_tail has_size on y x = x
      by_tail has_none on y x = y
      by_tail (field u args) on y x =
          let same = apply_agree y.0 x.0 u (λ k h. nth_one (hole_number k) args (y.0 k) (x.0 k) (y.2 k h) (x.2 k h)) in
          let there = subst (λ (z : Term). ReadsAs A z y.1) same y.3 in
          let e = reads_one A one hole (apply x.0 u) y.1 x.1 there x.3 in
          on x.1 (subst (SizedYes f A Y n) e y.4) x.4
      by_tail (last ts) on y x = on x.0 (subst (SizedYes f A Y n) (last_one ts y.0 x.0 y.1 x.1) y.2) x.2
      by_tail asked on y x = never t y x
      by_tail unclear_tail on y x = y

-- ---- one depth

pub itself_or : (c : Kind) (w : Term) → IsItself c w → IsNeverItself c w → ⊥
itself_or (implements n) w i m = i
itself_or (projects k) w i m = m hole i.0 hole_respects (apply_hole w ∙ i.1)

module _ (f : System) (v : Verdicts) (never : Never v.Yes v) (stays : AlwaysStays v) (one : IsOne v.Alias) where
  abbrev pub alias_stays : AliasAlwaysStays v.Alias
  alias_stays s h = (stays s h).alias

  pub gives_or_none : (k : TypeAliasId) (w u : Term) (r : Rule) → Gives v k w u r → GivesNone v k w r → ⊥
  gives_or_none k w u r g (inl n) = n g.kind
  gives_or_none k w u r g (inr n) =
      not_refuted v stays v.Yes never v.Alias alias_stays v.Alias one (λ p t u h. h) r (args_of r.head.parts) w r.preds g.at (args_tell k r g.kind) g.args g.preds n

  gives_same : (k : TypeAliasId) (w u u' : Term) (r : Rule) → Gives v k w u r → Gives v k w u' r → u ≡ u'
  gives_same k w u u' r g h =
      let same = may_tells g.at h.at (args_of r.head.parts) w (reads_may v.Alias g.at (args_of r.head.parts) w g.args) (reads_may v.Alias h.at (args_of r.head.parts) w h.args) in
      let told = λ (j : Hole) (o : occurs j (type_of r.head.parts) ≡ true). subst (λ (d : Kind). stands j (key d r.head.parts) ≡ true) g.kind (g.told.head j (occurs_type j r.head.parts o)) in
      reads_one v.Alias one h.at (type_of r.head.parts) u u' (reads_agree v.Alias g.at h.at (type_of r.head.parts) u (λ j o. same j (told j o)) g.type) h.type

  given_same : (rs : List Rule) (k : TypeAliasId) (w u u' : Term) → OneOf (Gives v k w u) (GivesNone v k w) rs → OneOf (Gives v k w u') (GivesNone v k w) rs → u ≡ u'
  given_same rs k w u u' a b = let x = one_one (gives_or_none k w u) (gives_or_none k w u') rs a b in gives_same k w u u' x.0 x.1 x.2

  by_rules_same : (rs : List Rule) (k : TypeAliasId) (w u u' : Term) → ByRules v rs k w u → ByRules v rs k w u' → u ≡ u'
  by_rules_same rs k w u u' (inl a) (inl b) = given_same rs k w u u' a b
  by_rules_same rs k w u u' (inl a) (inr b) = absurd (one_each (Gives v k w u) (GivesNone v k w) (GivesNone v k w) (gives_or_none k w u) rs a b.0)
  by_rules_same rs k w u u' (inr a) (inl b) = absurd (one_each (Gives v k w u') (GivesNone v k w) (GivesNone v k w) (gives_or_none k w u') rs b a.0)
  by_rules_same rs k w u u' (inr a) (inr b) = a.1 ∙ sym b.1

  pub alias_next_one : IsOne (alias_next f v)
  alias_next_one k w u u' (known, inl a) (known', inl b) = given_same f.clauses k w u u' a b
  alias_next_one k w u u' (known, inl a) (known', inr b) = absurd (one_each (Gives v k w u) (GivesNone v k w) (GivesNone v k w) (gives_or_none k w u) f.clauses a b.0)
  alias_next_one k w u u' (known, inr a) (known', inl b) = absurd (one_each (Gives v k w u') (GivesNone v k w) (GivesNone v k w) (gives_or_none k w u') f.clauses b a.0)
  alias_next_one k w u u' (known, inr a) (known', inr b) = by_rules_same f.rules k w u u' a.1 b.1

module _ (f : System) (v : Verdicts) (never : Never v.Yes v) (stays : AlwaysStays v) (A : Aliases) (one : IsOne A) (alias_stays : AliasAlwaysStays A) where
  pub proves_or_refuted : (c : Kind) (w : Term) (r : Rule) → Proves A v.Yes c w r → RuleIsRefuted A v c w r → ⊥
  proves_or_refuted c w r h (inl n) = n h.kind
  proves_or_refuted c w r h (inr n) = not_refuted v stays v.Yes never A alias_stays A one (λ p t u x. x) r r.head.parts w r.preds h.at (head_tells r) h.head h.preds n

  pub shadows_or_not : (c : Kind) (w : Term) (r : Rule) → Shadows A c w r → ShadowsNot A v c w r → ⊥
  shadows_or_not c w r h (inl n) = n h.kind
  shadows_or_not c w r h (inr n) = not_refuted v stays v.Yes never A alias_stays A one (λ p t u x. x) r (key c r.head.parts) (key c w) [] h.at (key_tells c r h.kind) h.head tt n

  pub source_or_none : (c : Kind) (w : Term) → HasSource f A v c w → HasNoSource f A v c w → ⊥
  source_or_none c w (inl y) n = some_each (proves_or_refuted c w) f.clauses y n.0
  source_or_none c w (inr y) (refuted, inl n) = some_each (shadows_or_not c w) f.clauses n y.0
  source_or_none c w (inr (y, inl z)) (refuted, inr n) = some_each (proves_or_refuted c w) f.rules z n.0
  source_or_none c w (inr (y, inr z)) (refuted, inr n) = copy_or f v.Yes v.No never c w z n.1

  pub yes_or_no : (c : Kind) (w : Term) → YesAt f A v c w → NoAt f A v c w → ⊥
  yes_or_no c w y n = by_case y.1
    where
      by_kind : (b : Bool) → OneIf b (SizedYes f A (λ t. IsKnown (only t) × HasSource f A v c (only t)) f.tail (self_type w)) (HasSource f A v c w) → OneIf b (SizedNo f A (λ t. IsKnown (only t) × HasNoSource f A v c (only t)) f.tail (self_type w)) (HasNoSource f A v c w) → ⊥
      by_kind true y n =
          sized_or f A one (λ t. IsKnown (only t) × HasSource f A v c (only t)) (λ t. IsKnown (only t) × HasNoSource f A v c (only t)) (λ t x z. source_or_none c (only t) x.1 z.1) f.tail (self_type w) y n
      by_kind false y n = source_or_none c w y n

      by_case : IsItself c w ⊎ OneIf (is_among f.sized c) (SizedYes f A (λ t. IsKnown (only t) × HasSource f A v c (only t)) f.tail (self_type w)) (HasSource f A v c w) → ⊥
      by_case (inl y) = itself_or c w y n.1
      by_case (inr y) = by_kind (is_among f.sized c) y n.2

pub record IsSound (v : Verdicts) : Type 0 where
  pub never : Never v.Yes v
  pub one : IsOne v.Alias

first_one : (f : System) → IsOne (alias_first f)
first_one f k w u u' a b = a.3 ∙ sym b.3

pub first_sound : (f : System) → IsSound (first f)
first_sound f =
    let A = alias_first f in
    let stays = λ (s : Fill) (h : IsFilling s). (first_stays f s h).alias in
    let none : AlwaysStays (nothing f) = λ s h. record { yes = λ g y. y; no = λ g y. y; alias = stays s h } in
    record {
      never = λ g y n.
          let e = reads_one A (first_one f) hole g.parts n.0 y.0 n.1 y.1 in
          yes_or_no f (nothing f) (λ g y n. y) none A (first_one f) stays g.kind y.0 y.3 (subst (NoAt f A (nothing f) g.kind) e n.3);
      one = first_one f;
    }

pub next_sound : (f : System) (v : Verdicts) → AlwaysStays v → IsSound v → IsSound (next f v)
next_sound f v stays h =
    let A = alias_next f v in
    let one = alias_next_one f v h.never stays h.one in
    record {
      never = λ g y n.
          let e = reads_one A one hole g.parts n.0 y.0 n.1 y.1 in
          yes_or_no f v h.never stays A one (λ s k. alias_next_stays f s k v (stays s k)) g.kind y.0 y.2 (subst (NoAt f A v g.kind) e n.2);
      one = one;
    }

pub answers_sound : (f : System) (n : ℕ) → IsSound (answers f n)
answers_sound f zero = first_sound f
answers_sound f (suc n) = next_sound f (answers f n) (λ s h. answers_stay f n s h) (answers_sound f n)

pub answers_are_one : AnswersAreOne
answers_are_one f n m =
    let left = deeper f n m in
    let e : n + m ≡ m + n = omega arith in
    let right = subst (λ (k : ℕ). IsWithin (answers f m) (answers f k)) e (deeper f m n) in
    let h = answers_sound f (m + n) in
    (λ g y k. h.never g (left.yes g y) (right.no g k), λ k w u u' a b. h.one k w u u' (left.alias k w u a) (right.alias k w u' b))
