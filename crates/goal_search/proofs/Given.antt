-- What rules give an alias, one by one.
use Rattle.std.proofs.lemmas.Bool.{or_right}
use Rattle.std.proofs.Common.{◌≡◌, inl, inr, ℕ, zero, suc, ◌+◌, ◌-◌, ◌<◌, ◌≤◌, arith, true, refl, sym, ap, ◌∙◌, subst, List, [], ◌∷◌, length, get_or, Option, Some, None}
use Rattle.goal_search.specs.Words.{TypeAliasId, Hole, Term, pair, occurs, Fill, role, alias, stands, Aliases, Reads, Kind, projects, Rule, System, args_of, type_of, key, Each, OneOf, Verdicts, IsRefuted, Gives, GivesNone, answers, IsOne, known_below, HoldsAt, ReadingIs, AliasIs, term_of, HasHeads, IsHead, term_of_pair}
use Rattle.goal_search.specs.Words.goal_answers.Goals.{IsTold}
use Rattle.goal_search.proofs.Words.{each_more, each_at, each_all, one_more, last_one_more, one_all, one_at, one_before, each_of_map, each_in_map, one_of_map, one_in_map, ReadsBy, reads_may, reads_one, reads_agree, may_tells, not_refuted, args_tell, occurs_type, level}
use Rattle.goal_terms.specs.declared.term.Term.{Term as Owned}
use Rattle.goal_terms.specs.declared.term.Term.TheVariants as owned
use Rattle.goal_search.specs.declared.rules.Side.TheVariants as side
use Rattle.goal_search.specs.Own.{Rule as OwnedRule, rule_of, rules_of, IsDone, FillsAreDone, side_part, side_preds, GivenIs}
use Rattle.goal_search.specs.declared.search.Given.TheVariants as given
use Rattle.goal_search.proofs.SoFar.{GivenSoFar}
use Rattle.goal_search.proofs.Heads.{may_done}

-- ---- one rule

module _ (f : System) (n : ℕ) (k : TypeAliasId) (w : Term) (r : Rule) (kind : r.head.kind ≡ projects k) where
  abbrev v : Verdicts
  v = answers f n

  abbrev HoldsHere : Fill → Type 0
  HoldsHere q = HoldsAt v.Alias v r (side_part side.Args r) (side_preds side.Args r) w q

  args_here : (q : Fill) → HoldsHere q → Reads v.Alias q (args_of r.head.parts) w
  args_here q h = subst (λ (d : Kind). Reads v.Alias q (key d r.head.parts) w) kind h.part

  stands_here : IsTold r → (j : Hole) → occurs j (type_of r.head.parts) ≡ true → stands j (args_of r.head.parts) ≡ true
  stands_here told j o = subst (λ (d : Kind). stands j (key d r.head.parts) ≡ true) kind (told.head j (occurs_type j r.head.parts o))

  pub type_fills_done : (q : Fill) → HoldsHere q → IsDone w → FillsAreDone q (type_of r.head.parts)
  type_fills_done q h d j o = may_done q (args_of r.head.parts) w (reads_may v.Alias q (args_of r.head.parts) w (args_here q h)) d j (stands_here h.told j o)

  pub gives_here : (q : Fill) → HoldsHere q → (u : Term) → Reads v.Alias q (type_of r.head.parts) u → Gives v k w u r
  gives_here q h u i = record { kind = kind; told = h.told; at = q; args = args_here q h; type = i; preds = h.preds }

  -- where the type is open, the rule gives none
  pub open_gives_not : (q : Fill) → HoldsHere q → ((u : Term) → Reads v.Alias q (type_of r.head.parts) u → ⊥) → (u : Term) → Gives v k w u r → ⊥
  open_gives_not q h none u g =
      let same = may_tells g.at q (args_of r.head.parts) w (reads_may v.Alias g.at (args_of r.head.parts) w g.args) (reads_may v.Alias q (args_of r.head.parts) w (args_here q h)) in
      none u (reads_agree v.Alias g.at q (type_of r.head.parts) u (λ j o. same j (stands_here g.told j o)) g.type)

  -- and yet it is not refuted
  pub holds_not_none : (q : Fill) → HoldsHere q → GivesNone v k w r → ⊥
  holds_not_none q h (inl x) = x kind
  holds_not_none q h (inr x) =
      let l = level f n (suc n) in
      not_refuted v l.stays v.Yes l.never v.Alias l.alias_stays v.Alias l.one (λ p t u y. y) r (args_of r.head.parts) w r.preds q (args_tell k r kind) (args_here q h) h.preds x

  pub no_fit_gives_not : ((q : Fill) → HoldsHere q → ⊥) → (u : Term) → Gives v k w u r → ⊥
  no_fit_gives_not none u g =
      none g.at (record { told = g.told; part = subst (λ (d : Kind). Reads v.Alias g.at (key d r.head.parts) w) (sym kind) g.args; preds = g.preds })

  abbrev RefutedBy : Kind → Type 0
  RefutedBy d = IsRefuted v.Alias v r (key d r.head.parts) r.preds w

  pub refuted_none : IsRefuted v.Alias v r (side_part side.Args r) (side_preds side.Args r) w → GivesNone v k w r
  refuted_none x = inr (subst RefutedBy kind x)

  pub none_refuted : GivesNone v k w r → IsRefuted v.Alias v r (side_part side.Args r) (side_preds side.Args r) w
  none_refuted (inl x) = absurd (x kind)
  none_refuted (inr x) = subst RefutedBy (sym kind) x

pub gives_not_none : (f : System) (n : ℕ) (k : TypeAliasId) (w u : Term) (r : Rule) → Gives (answers f n) k w u r → GivesNone (answers f n) k w r → ⊥
gives_not_none f n k w u r g x =
    holds_not_none f n k w r g.kind g.at (record { told = g.told; part = subst (λ (d : Kind). Reads (answers f n).Alias g.at (key d r.head.parts) w) (sym g.kind) g.args; preds = g.preds }) x

-- ---- several rules

module _ (f : System) (n : ℕ) (k : TypeAliasId) (w : Term) (rs : List OwnedRule) where
  abbrev vs : Verdicts
  vs = answers f n

  abbrev P : Term → OwnedRule → Type 0
  P u r = Gives vs k w u (rule_of r)

  abbrev N : OwnedRule → Type 0
  N r = GivesNone vs k w (rule_of r)

  abbrev NoneIsGiven : Type 0
  NoneIsGiven = ((u : Term) → OneOf (Gives vs k w u) (GivesNone vs k w) (rules_of rs) → ⊥) × (Each (GivesNone vs k w) (rules_of rs) → ⊥)

  module _ (i : ℕ) (r : OwnedRule) (within : i < length rs) (is : r ≡ get_or rs i r) where
    -- one that neither gives a type nor gives none
    pub open_at : ((u : Term) → P u r → ⊥) → (N r → ⊥) → NoneIsGiven
    open_at gives none =
        (λ u o. one_at (P u) N rs i r within is (gives u) none (one_in_map rule_of (Gives vs k w u) (GivesNone vs k w) rs o), λ e. none (each_at N rs i r within is (each_in_map rule_of (GivesNone vs k w) rs e)))

    -- a second that gives one
    pub second_at : (t : Term) → GivenSoFar vs k w rs i (Some t) → (u : Term) → P u r → NoneIsGiven
    second_at t so u g = (
      λ u' o. one_before (P t) N (P u') N rs i r within is (λ y. gives_not_none f n k w t (rule_of y)) so (gives_not_none f n k w u (rule_of r) g) (one_in_map rule_of (Gives vs k w u') (GivesNone vs k w) rs o),
      λ e. gives_not_none f n k w u (rule_of r) g (each_at N rs i r within is (each_in_map rule_of (GivesNone vs k w) rs e)),
    )

    pub none_more : (o : Option Term) → N r → GivenSoFar vs k w rs i o → GivenSoFar vs k w rs (i + 1) o
    none_more None none so = each_more N rs i r within is so none
    none_more (Some u) none so = one_more (P u) N rs i r within is so none

    pub first_given : (u : Term) → P u r → GivenSoFar vs k w rs i None → GivenSoFar vs k w rs (i + 1) (Some u)
    first_given u g so = last_one_more (P u) N rs i r within is so g

  pub one_given : (t : Owned) (i : ℕ) → length rs ≤ i → GivenSoFar vs k w rs i (Some (term_of t)) → GivenIs vs k w (rules_of rs) (given.One t)
  one_given t i e so = one_of_map rule_of (Gives vs k w (term_of t)) (GivesNone vs k w) rs (one_all (P (term_of t)) N rs i e so)

  pub none_given : (i : ℕ) → length rs ≤ i → GivenSoFar vs k w rs i None → GivenIs vs k w (rules_of rs) given.Nothing
  none_given i e so = each_of_map rule_of (GivesNone vs k w) rs (each_all N rs i e so)

-- ---- an alias

pub open_clauses : (f : System) (n : ℕ) → (n ≡ 0 → ⊥) → (k : TypeAliasId) (w : Term) → GivenIs (known_below f n) k w f.clauses given.Open → (u : Term) → (answers f n).Alias k w u → ⊥
open_clauses f zero z k w g u a = z refl
open_clauses f (suc n) z k w g u (known, inl a) = g.0 u a
open_clauses f (suc n) z k w g u (known, inr a) = g.1 a.0

pub open_rules : (f : System) (n : ℕ) → (n ≡ 0 → ⊥) → (k : TypeAliasId) (w : Term) → GivenIs (known_below f n) k w f.clauses given.Nothing → GivenIs (known_below f n) k w f.rules given.Open → (u : Term) → (answers f n).Alias k w u → ⊥
open_rules f zero z k w c g u a = z refl
open_rules f (suc n) z k w c g u (known, inl a) = clause_excluded f.clauses c a
  where
    clause_excluded : (rs : List Rule) → Each (GivesNone (answers f n) k w) rs → OneOf (Gives (answers f n) k w u) (GivesNone (answers f n) k w) rs → ⊥
    clause_excluded [] h o = o
    clause_excluded (r ∷ rs) h (inl o) = gives_not_none f n k w u r o.0 h.0
    clause_excluded (r ∷ rs) h (inr o) = clause_excluded rs h.1 o.1
open_rules f (suc n) z k w c g u (known, inr (none, inl a)) = g.0 u a
open_rules f (suc n) z k w c g u (known, inr (none, inr a)) = g.1 a.0

-- ---- a pair

pub pair_heads : (t a b : Owned) → t ≡ owned.Pair a b → HasHeads (term_of t) → IsHead (term_of a) × HasHeads (term_of a) × HasHeads (term_of b)
pair_heads t a b e h = subst HasHeads (ap term_of e ∙ term_of_pair a b) h

pub pair_fills : (p : Fill) (t a b : Owned) → t ≡ owned.Pair a b → FillsAreDone p (term_of t) → FillsAreDone p (term_of b)
pair_fills p t a b e h =
    let d = subst (FillsAreDone p) (ap term_of e ∙ term_of_pair a b) h in
    λ k o. d k (or_right (occurs k (term_of a)) (occurs k (term_of b)) o)

-- an alias whose arguments read as these
pub alias_reading : (A : Aliases) → IsOne A → (p : Fill) (t a b : Owned) (k : TypeAliasId) (x : Term) (o : Option Term) → t ≡ owned.Pair a b → role (term_of a) ≡ alias k → Reads A p (term_of b) x → AliasIs A k x o → ReadingIs A p (term_of t) o
alias_reading A one p t a b k x o e role_is r h =
    subst (λ (z : Term). ReadingIs A p z o) (sym (ap term_of e ∙ term_of_pair a b)) (by_option o h)
  where
    by_option : (o : Option Term) → AliasIs A k x o → ReadingIs A p (pair (term_of a) (term_of b)) o
    by_option (Some u) h = subst (λ (y : _). ReadsBy y A p (term_of a) (term_of b) u) (sym role_is) (x, r, h)
    by_option None h = λ u i.
        let s = subst (λ (y : _). ReadsBy y A p (term_of a) (term_of b) u) role_is i in
        h u (subst (λ (y : Term). A k y u) (reads_one A one p (term_of b) s.0 x s.1 r) s.2)

-- ---- after some steps

abbrev pub NoneIsGivenAt : System → ℕ → TypeAliasId → Term → List OwnedRule → Type 0
NoneIsGivenAt f m k w rs =
    ((u : Term) → OneOf (Gives (known_below f m) k w u) (GivesNone (known_below f m) k w) (rules_of rs) → ⊥) × (Each (GivesNone (known_below f m) k w) (rules_of rs) → ⊥)

abbrev pub ArgsHold : System → ℕ → Term → Rule → Fill → Type 0
ArgsHold f m w r q = HoldsAt (answers f (m - 1)).Alias (known_below f m) r (side_part side.Args r) (side_preds side.Args r) w q

abbrev pub ArgsRefuted : System → ℕ → Term → Rule → Type 0
ArgsRefuted f m w r = IsRefuted (answers f (m - 1)).Alias (known_below f m) r (side_part side.Args r) (side_preds side.Args r) w

less_one : (n : ℕ) → suc n - 1 ≡ n
less_one n = omega arith

module _ (f : System) (n : ℕ) (w : Term) (r : Rule) where
  abbrev HoldAt : ℕ → Fill → Type 0
  HoldAt j q = HoldsAt (answers f j).Alias (answers f n) r (side_part side.Args r) (side_preds side.Args r) w q

  abbrev RefutedAt : ℕ → Type 0
  RefutedAt j = IsRefuted (answers f j).Alias (answers f n) r (side_part side.Args r) (side_preds side.Args r) w

  hold_back : (q : Fill) → HoldAt (suc n - 1) q → HoldAt n q
  hold_back q h = subst (λ (j : ℕ). HoldAt j q) (less_one n) h

  hold_forth : (q : Fill) → HoldAt n q → HoldAt (suc n - 1) q
  hold_forth q h = subst (λ (j : ℕ). HoldAt j q) (sym (less_one n)) h

  refuted_back : RefutedAt (suc n - 1) → RefutedAt n
  refuted_back h = subst RefutedAt (less_one n) h

  refuted_forth : RefutedAt n → RefutedAt (suc n - 1)
  refuted_forth h = subst RefutedAt (sym (less_one n)) h

reads_back : (f : System) (n : ℕ) (q : Fill) (t u : Term) → Reads (answers f (suc n - 1)).Alias q t u → Reads (answers f n).Alias q t u
reads_back f n q t u h = subst (λ (j : ℕ). Reads (answers f j).Alias q t u) (less_one n) h

reads_forth : (f : System) (n : ℕ) (q : Fill) (t u : Term) → Reads (answers f n).Alias q t u → Reads (answers f (suc n - 1)).Alias q t u
reads_forth f n q t u h = subst (λ (j : ℕ). Reads (answers f j).Alias q t u) (sym (less_one n)) h

pub given_fills : (f : System) (m : ℕ) → 0 < m → (k : TypeAliasId) (w : Term) (r : Rule) → r.head.kind ≡ projects k → (q : Fill) → ArgsHold f m w r q → IsDone w → FillsAreDone q (type_of r.head.parts)
given_fills f zero z k w r e q h d = absurd (omega arith)
given_fills f (suc n) z k w r e q h d = type_fills_done f n k w r e q (hold_back f n w r q h) d

module _ (f : System) (k : TypeAliasId) (w : Term) (rs : List OwnedRule) (i : ℕ) (r : OwnedRule) (within : i < length rs) (is : r ≡ get_or rs i r) where
  pub given_open : (m : ℕ) → 0 < m → (rule_of r).head.kind ≡ projects k → (q : Fill) → ArgsHold f m w (rule_of r) q → ((u : Term) → Reads (answers f (m - 1)).Alias q (type_of (rule_of r).head.parts) u → ⊥) → NoneIsGivenAt f m k w rs
  given_open zero z e q h none = absurd (omega arith)
  given_open (suc n) z e q h none =
      let here = hold_back f n w (rule_of r) q h in
      open_at f n k w rs i r within is (open_gives_not f n k w (rule_of r) e q here (λ u x. none u (reads_forth f n q (type_of (rule_of r).head.parts) u x))) (holds_not_none f n k w (rule_of r) e q here)

  pub given_twice : (m : ℕ) → 0 < m → (rule_of r).head.kind ≡ projects k → (q : Fill) → ArgsHold f m w (rule_of r) q → (u : Term) → Reads (answers f (m - 1)).Alias q (type_of (rule_of r).head.parts) u → (t : Term) → GivenSoFar (known_below f m) k w rs i (Some t) → NoneIsGivenAt f m k w rs
  given_twice zero z e q h u reads t so = absurd (omega arith)
  given_twice (suc n) z e q h u reads t so =
      second_at f n k w rs i r within is t so u (gives_here f n k w (rule_of r) e q (hold_back f n w (rule_of r) q h) u (reads_back f n q (type_of (rule_of r).head.parts) u reads))

  pub given_neither : (m : ℕ) → 0 < m → (rule_of r).head.kind ≡ projects k → ((q : Fill) → ArgsHold f m w (rule_of r) q → ⊥) → (ArgsRefuted f m w (rule_of r) → ⊥) → NoneIsGivenAt f m k w rs
  given_neither zero z e holds refuted = absurd (omega arith)
  given_neither (suc n) z e holds refuted =
      open_at f n k w rs i r within is (no_fit_gives_not f n k w (rule_of r) e (λ q h. holds q (hold_forth f n w (rule_of r) q h))) (λ x. refuted (refuted_forth f n w (rule_of r) (none_refuted f n k w (rule_of r) e x)))

  pub given_first : (m : ℕ) → 0 < m → (rule_of r).head.kind ≡ projects k → (q : Fill) → ArgsHold f m w (rule_of r) q → (u : Term) → Reads (answers f (m - 1)).Alias q (type_of (rule_of r).head.parts) u → GivenSoFar (known_below f m) k w rs i None → GivenSoFar (known_below f m) k w rs (i + 1) (Some u)
  given_first zero z e q h u reads so = absurd (omega arith)
  given_first (suc n) z e q h u reads so =
      first_given f n k w rs i r within is u (gives_here f n k w (rule_of r) e q (hold_back f n w (rule_of r) q h) u (reads_back f n q (type_of (rule_of r).head.parts) u reads)) so

  pub given_refuted : (m : ℕ) → 0 < m → (rule_of r).head.kind ≡ projects k → ArgsRefuted f m w (rule_of r) → (o : Option Term) → GivenSoFar (known_below f m) k w rs i o → GivenSoFar (known_below f m) k w rs (i + 1) o
  given_refuted zero z e x o so = absurd (omega arith)
  given_refuted (suc n) z e x o so = none_more f n k w rs i r within is o (refuted_none f n k w (rule_of r) e (refuted_back f n w (rule_of r) x)) so

  pub given_other : (m : ℕ) → 0 < m → ((rule_of r).head.kind ≡ projects k → ⊥) → (o : Option Term) → GivenSoFar (known_below f m) k w rs i o → GivenSoFar (known_below f m) k w rs (i + 1) o
  given_other zero z e o so = absurd (omega arith)
  given_other (suc n) z e o so = none_more f n k w rs i r within is o (inl e) so

pub given_is : (f : System) (m : ℕ) → 0 < m → (k : TypeAliasId) (w : Term) (rs : List OwnedRule) (i : ℕ) → length rs ≤ i → (t : Owned) → GivenSoFar (known_below f m) k w rs i (Some (term_of t)) → GivenIs (known_below f m) k w (rules_of rs) (given.One t)
given_is f zero z k w rs i e t so = absurd (omega arith)
given_is f (suc n) z k w rs i e t so = one_given f n k w rs t i e so

pub nothing_is : (f : System) (m : ℕ) → 0 < m → (k : TypeAliasId) (w : Term) (rs : List OwnedRule) (i : ℕ) → length rs ≤ i → GivenSoFar (known_below f m) k w rs i None → GivenIs (known_below f m) k w (rules_of rs) given.Nothing
nothing_is f zero z k w rs i e so = absurd (omega arith)
nothing_is f (suc n) z k w rs i e so = none_given f n k w rs i e so
