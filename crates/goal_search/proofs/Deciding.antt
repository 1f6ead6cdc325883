-- Answers, of what was asked one by one.
use Rattle.std.proofs.Common.{◌≡◌, ◌⊎◌, inl, inr, ℕ, zero, suc, Bool, true, false, true≢false, refl, sym, ap, ◌∙◌, subst, eqb-true, eq-eqb, List, [], ◌∷◌, map, Option, nat_eq}
use Rattle.goal_search.specs.Words.{TraitId, TypeAliasId, Term, hole, apply, Fill, Aliases, Reads, ReadsAs, Kind, implements, projects, Asked, Rule, System, asked_at, key, IsKnown, self_type, only, is_among, OneIf, Each, SomeOf, Verdicts, Copied, with_parts, by_impls, unclear, copied, types_of, EachType, SomeType, CopyYes, CopyNo, SizedYes, SizedNo, IsRefuted, Proves, RuleIsRefuted, Shadows, ShadowsNot, HasSource, HasNoSource, IsItself, IsNeverItself, YesAt, NoAt, alias_first, nothing, answers, known_below}
use Rattle.goal_search.proofs.Words.{each_map, some_map, some_each, apply_hole, reads_one, CopyYesBy, CopyNoBy, proves_or_refuted, shadows_or_not, copy_or, itself_or, source_or_none, FillsAreRead, level}
use Rattle.goal_search.specs.Own.{Answer, Copies, either, unless_no, shadowed, asked_list, copied_asked, PartsAre, CopiedAre, CopiesIf, CopiesAre, PredIsDone, Decides, Holds, HoldsNot}
use Rattle.goal_search.specs.declared.answer.Answer.TheVariants as answer
use Rattle.goal_search.specs.declared.rules.Side.TheVariants as side
use Rattle.goal_search.specs.declared.rows.Copies.TheVariants as copies
use Rattle.goal_search.proofs.SoFar.{decides_same}
use Rattle.goal_search.proofs.Heads.{reads_at, reads_before}

-- ---- of several

pub either_decides : {P NP Q NQ : Type 0} (a b : Answer) → (P → NP → ⊥) → (Q → NQ → ⊥) → Decides P NP a → Decides Q NQ b → Decides (P ⊎ Q) (NP × NQ) (either a b)
either_decides answer.Yes b p q d e = inl d
either_decides answer.No answer.Yes p q d e = inr e
either_decides answer.No answer.No p q d e = (d, e)
either_decides {P = P} {Q = Q} answer.No answer.Undecided p q d e = (neither, λ n. e.1 n.1)
  where
    neither : P ⊎ Q → ⊥
    neither (inl x) = p x d
    neither (inr x) = e.0 x
either_decides answer.Undecided answer.Yes p q d e = inr e
either_decides {P = P} {Q = Q} answer.Undecided answer.No p q d e = (neither, λ n. d.1 n.0)
  where
    neither : P ⊎ Q → ⊥
    neither (inl x) = d.0 x
    neither (inr x) = q x e
either_decides {P = P} {Q = Q} answer.Undecided answer.Undecided p q d e = (neither, λ n. d.1 n.0)
  where
    neither : P ⊎ Q → ⊥
    neither (inl x) = d.0 x
    neither (inr x) = e.0 x

module _ {C NC S NS R NR : Type 0} (c_or : C → NC → ⊥) (s_or : S → NS → ⊥) (r_or : R → NR → ⊥) where
  no_source : (C → ⊥) → (NS → R → ⊥) → C ⊎ (NS × R) → ⊥
  no_source c r (inl x) = c x
  no_source c r (inr x) = r x.0 x.1

  some_source : (NC → S → ⊥) → (NC → NR → ⊥) → NC × (S ⊎ NR) → ⊥
  some_source s r (n, inl x) = s n x
  some_source s r (n, inr x) = r n x

  pub shadowed_decides : (a b c : Answer) → Decides C NC a → Decides S NS b → Decides R NR c → Decides (C ⊎ (NS × R)) (NC × (S ⊎ NR)) (shadowed a b c)
  shadowed_decides answer.Yes b c x y z = inl x
  shadowed_decides answer.No answer.Yes c x y z = (x, inl y)
  shadowed_decides answer.No answer.No answer.Yes x y z = inr (y, z)
  shadowed_decides answer.No answer.No answer.No x y z = (x, inr z)
  shadowed_decides answer.No answer.No answer.Undecided x y z = (no_source (λ k. c_or k x) (λ n r. z.0 r), some_source (λ n k. s_or k y) (λ n k. z.1 k))
  shadowed_decides answer.No answer.Undecided answer.Yes x y z = (no_source (λ k. c_or k x) (λ n r. y.1 n), some_source (λ n k. y.0 k) (λ n k. r_or z k))
  shadowed_decides answer.No answer.Undecided answer.No x y z = (x, inr z)
  shadowed_decides answer.No answer.Undecided answer.Undecided x y z = (no_source (λ k. c_or k x) (λ n r. y.1 n), some_source (λ n k. y.0 k) (λ n k. z.1 k))
  shadowed_decides answer.Undecided answer.Yes c x y z = (no_source x.0 (λ n r. s_or y n), some_source (λ n k. x.1 n) (λ n k. x.1 n))
  shadowed_decides answer.Undecided answer.No answer.Yes x y z = inr (y, z)
  shadowed_decides answer.Undecided answer.No answer.No x y z = (no_source x.0 (λ n r. r_or r z), some_source (λ n k. x.1 n) (λ n k. x.1 n))
  shadowed_decides answer.Undecided answer.No answer.Undecided x y z = (no_source x.0 (λ n r. z.0 r), some_source (λ n k. x.1 n) (λ n k. x.1 n))
  shadowed_decides answer.Undecided answer.Undecided c x y z = (no_source x.0 (λ n r. y.1 n), some_source (λ n k. x.1 n) (λ n k. x.1 n))

-- ---- kinds

trait_or : (a b : TraitId) (c : Bool) → nat_eq a.0 b.0 ≡ c → (implements a ≡ implements b) ⊎ (implements a ≡ implements b → ⊥)
trait_or a b true e = inl (ap (λ (n : ℕ). implements (record { 0 = n })) (eqb-true a.0 b.0 e))
trait_or a b false e = inr (λ f. true≢false (sym (same f) ∙ e))
  where
    number : Kind → ℕ
    number (implements t) = t.0
    number (projects k) = 0

    same : implements a ≡ implements b → nat_eq a.0 b.0 ≡ true
    same f = subst (λ (n : ℕ). nat_eq a.0 n ≡ true) (ap number f) (eq-eqb a.0 a.0 refl)

alias_or : (a b : TypeAliasId) (c : Bool) → nat_eq a.0 b.0 ≡ c → (projects a ≡ projects b) ⊎ (projects a ≡ projects b → ⊥)
alias_or a b true e = inl (ap (λ (n : ℕ). projects (record { 0 = n })) (eqb-true a.0 b.0 e))
alias_or a b false e = inr (λ f. true≢false (sym (same f) ∙ e))
  where
    number : Kind → ℕ
    number (projects t) = t.0
    number (implements k) = 0

    same : projects a ≡ projects b → nat_eq a.0 b.0 ≡ true
    same f = subst (λ (n : ℕ). nat_eq a.0 n ≡ true) (ap number f) (eq-eqb a.0 a.0 refl)

same_kind_or : (a b : Kind) → (a ≡ b) ⊎ (a ≡ b → ⊥)
same_kind_or (implements a) (implements b) = trait_or a b (nat_eq a.0 b.0) refl
same_kind_or (projects a) (projects b) = alias_or a b (nat_eq a.0 b.0) refl
same_kind_or (implements a) (projects b) = inr (λ e. cc)
same_kind_or (projects a) (implements b) = inr (λ e. cc)

-- ---- sources

module _ (f : System) (n : ℕ) where
  abbrev A : Aliases
  A = (answers f n).Alias

  abbrev v : Verdicts
  v = known_below f n

  holds_proves : (c : Kind) (w : Term) (r : Rule) → Holds A v side.Whole c w r → Proves A v.Yes c w r
  holds_proves c w r h = record { kind = h.kind; told = h.holds.told; at = h.at; head = h.holds.part; preds = h.holds.preds }

  proves_holds : (c : Kind) (w : Term) (r : Rule) → Proves A v.Yes c w r → Holds A v side.Whole c w r
  proves_holds c w r h = record { kind = h.kind; at = h.at; holds = record { told = h.told; part = h.head; preds = h.preds } }

  pub holds_shadows : (c : Kind) (w : Term) (r : Rule) → Holds A v side.Key c (key c w) r → Shadows A c w r
  holds_shadows c w r h = record {
    kind = h.kind;
    told = h.holds.told;
    at = h.at;
    head = subst (λ (d : Kind). Reads A h.at (key d r.head.parts) (key c w)) h.kind h.holds.part;
  }

  pub shadows_holds : (c : Kind) (w : Term) (r : Rule) → Shadows A c w r → Holds A v side.Key c (key c w) r
  shadows_holds c w r h = record {
    kind = h.kind;
    at = h.at;
    holds = record { told = h.told; part = subst (λ (d : Kind). Reads A h.at (key d r.head.parts) (key c w)) (sym h.kind) h.head; preds = tt };
  }

  abbrev KeyRefuted : Kind → Term → Rule → Kind → Type 0
  KeyRefuted c w r d = IsRefuted A v r (key d r.head.parts) [] (key c w)

  pub key_refuted : (c : Kind) (w : Term) (r : Rule) → HoldsNot A v side.Key c (key c w) r → ShadowsNot A v c w r
  key_refuted c w r (inl x) = inl x
  key_refuted c w r (inr x) = elim (same_kind_or r.head.kind c) [
    | inl e ↦ inr (subst (KeyRefuted c w r) e x)
    | inr e ↦ inl e
  ]

  pub refuted_key : (c : Kind) (w : Term) (r : Rule) → ShadowsNot A v c w r → HoldsNot A v side.Key c (key c w) r
  refuted_key c w r (inl x) = inl x
  refuted_key c w r (inr x) = elim (same_kind_or r.head.kind c) [
    | inl e ↦ inr (subst (KeyRefuted c w r) (sym e) x)
    | inr e ↦ inl e
  ]

  -- ---- what is copied

  copied_list : (c : Kind) (P : Asked → Type 0) (ts : List Term) → Each (λ q. P (asked_at hole q)) (map (copied_asked c) ts) → Each (λ t. P (copied_asked c t)) ts
  copied_list c P [] h = tt
  copied_list c P (t ∷ ts) h = (subst P (at_hole (copied_asked c t)) h.0, copied_list c P ts h.1)
    where
      at_hole : (g : Asked) → asked_at hole g ≡ g
      at_hole g = ap (λ (x : Term). let r : Asked = record { kind = g.kind; parts = x } in r) (apply_hole g.parts)

  list_copied : (c : Kind) (P : Asked → Type 0) (ts : List Term) → Each (λ t. P (copied_asked c t)) ts → Each (λ q. P (asked_at hole q)) (map (copied_asked c) ts)
  list_copied c P [] h = tt
  list_copied c P (t ∷ ts) h = (subst P (sym (at_hole (copied_asked c t))) h.0, list_copied c P ts h.1)
    where
      at_hole : (g : Asked) → asked_at hole g ≡ g
      at_hole g = ap (λ (x : Term). let r : Asked = record { kind = g.kind; parts = x } in r) (apply_hole g.parts)

  copied_some : (c : Kind) (P : Asked → Type 0) (ts : List Term) → SomeOf (λ q. P (asked_at hole q)) (map (copied_asked c) ts) → SomeOf (λ t. P (copied_asked c t)) ts
  copied_some c P [] h = h
  copied_some c P (t ∷ ts) (inl h) = inl (subst P (ap (λ (x : Term). let r : Asked = record { kind = c; parts = x } in r) (apply_hole (only t))) h)
  copied_some c P (t ∷ ts) (inr h) = inr (copied_some c P ts h)

  some_copied : (c : Kind) (P : Asked → Type 0) (ts : List Term) → SomeOf (λ t. P (copied_asked c t)) ts → SomeOf (λ q. P (asked_at hole q)) (map (copied_asked c) ts)
  some_copied c P [] h = h
  some_copied c P (t ∷ ts) (inl h) = inl (subst P (ap (λ (x : Term). let r : Asked = record { kind = c; parts = x } in r) (sym (apply_hole (only t)))) h)
  some_copied c P (t ∷ ts) (inr h) = inr (some_copied c P ts h)

  -- what is known without asking, or was asked
  abbrev pub PartsAnswer : Copies → Answer → Type 0
  PartsAnswer (copies.Known a) b = a ≡ b
  PartsAnswer (copies.Of goals) b = Decides (Each (λ q. v.Yes (asked_at hole q)) (asked_list goals.items)) (SomeOf (λ q. v.No (asked_at hole q)) (asked_list goals.items)) b

  undecided : {Y N : Type 0} (b : Answer) → answer.Undecided ≡ b → (Y → ⊥) → (N → ⊥) → Decides Y N b
  undecided answer.Undecided e y n = (y, n)
  undecided answer.Yes e y n = cc
  undecided answer.No e y n = cc

  refused : (Y N : Type 0) (b : Answer) → answer.No ≡ b → N → Decides Y N b
  refused Y N answer.No e n = n
  refused Y N answer.Yes e n = cc
  refused Y N answer.Undecided e n = cc

  types_decide : (c : Kind) (types : Option (List Term)) (x : Copies) (b : Answer) → PartsAre c types x → PartsAnswer x b →
      Decides (EachType (λ t. v.Yes (copied_asked c t)) types) (SomeType (λ t. v.No (copied_asked c t)) types) b
  types_decide c types (copies.Of goals) b p d =
      let P : Option (List Term) → Type 0 = λ o. Decides (EachType (λ t. v.Yes (copied_asked c t)) o) (SomeType (λ t. v.No (copied_asked c t)) o) b in
      let Q : List Asked → Type 0 = λ gs. Decides (Each (λ q. v.Yes (asked_at hole q)) gs) (SomeOf (λ q. v.No (asked_at hole q)) gs) b in
      subst P (sym p.1) (decides_same b (copied_list c v.Yes p.0) (list_copied c v.Yes p.0) (copied_some c v.No p.0) (some_copied c v.No p.0) (subst Q p.2 d))
  types_decide c types (copies.Known a) b p d =
      let P : Option (List Term) → Type 0 = λ o. Decides (EachType (λ t. v.Yes (copied_asked c t)) o) (SomeType (λ t. v.No (copied_asked c t)) o) b in
      subst P (sym p.0) (undecided b (sym p.1 ∙ d) (λ y. y) (λ y. y))

  copied_decide : (c : Kind) (row : Copied) (x : Copies) (b : Answer) → CopiedAre c row x → PartsAnswer x b → Decides (CopyYesBy v.Yes c row) (CopyNoBy v.No c row) b
  copied_decide c (with_parts ts) x b p d = types_decide c (types_of ts) x b p d
  copied_decide c by_impls x b p d = refused ⊥ (Unit {0}) b (subst (λ (y : Copies). PartsAnswer y b) p d) tt
  copied_decide c unclear x b p d = undecided b (subst (λ (y : Copies). PartsAnswer y b) p d) (λ y. y) (λ y. y)

  pub copies_decide : (c : Kind) (w : Term) (x : Copies) (b : Answer) → CopiesAre f c w x → PartsAnswer x b → Decides (CopyYes f v.Yes c w) (CopyNo f v.No c w) b
  copies_decide c w x b p d = by_among (is_among f.copied c) refl p
    where
      add : (e : is_among f.copied c ≡ true) (b : Answer) → Decides (CopyYesBy v.Yes c (copied (self_type w))) (CopyNoBy v.No c (copied (self_type w))) b → Decides (CopyYes f v.Yes c w) (CopyNo f v.No c w) b
      add e answer.Yes d = (e, d)
      add e answer.No d = inr d
      add e answer.Undecided d = (λ y. d.0 y.1, never_so)
        where
          never_so : CopyNo f v.No c w → ⊥
          never_so (inl n) = n e
          never_so (inr n) = d.1 n

      by_among : (a : Bool) → is_among f.copied c ≡ a → CopiesIf a c w x → Decides (CopyYes f v.Yes c w) (CopyNo f v.No c w) b
      by_among true e p = add e b (copied_decide c (copied (self_type w)) x b p d)
      by_among false e p = refused (CopyYes f v.Yes c w) (CopyNo f v.No c w) b (subst (λ (y : Copies). PartsAnswer y b) p d) (inl (λ h. true≢false (sym h ∙ e)))

  -- ---- all sources

  pub source_decides : (c : Kind) (w : Term) (x : Copies) (a b d e : Answer) → CopiesAre f c w x →
      Decides (SomeOf (Holds A v side.Whole c w) f.clauses) (Each (HoldsNot A v side.Whole c w) f.clauses) a →
      Decides (SomeOf (Holds A v side.Key c (key c w)) f.clauses) (Each (HoldsNot A v side.Key c (key c w)) f.clauses) b →
      Decides (SomeOf (Holds A v side.Whole c w) f.rules) (Each (HoldsNot A v side.Whole c w) f.rules) d →
      PartsAnswer x e → Decides (HasSource f A v c w) (HasNoSource f A v c w) (shadowed a b (either d e))
  source_decides c w x a b d e are by_clauses shadows by_rules by_parts =
      let l = level f n n in
      let p_or = proves_or_refuted f v l.never l.stays A l.one l.alias_stays c w in
      let s_or = shadows_or_not f v l.never l.stays A l.one l.alias_stays c w in
      let copy = copy_or f v.Yes v.No l.never c w in
      shadowed_decides (some_each p_or f.clauses) (some_each s_or f.clauses) rules_or a b (either d e)
      (decides_same a (some_map (holds_proves c w) f.clauses) (some_map (proves_holds c w) f.clauses) (each_map (λ r h. h) f.clauses) (each_map (λ r h. h) f.clauses) by_clauses)
      (decides_same b (some_map (holds_shadows c w) f.clauses) (some_map (shadows_holds c w) f.clauses) (each_map (key_refuted c w) f.clauses) (each_map (refuted_key c w) f.clauses) shadows)
      (either_decides d e (some_each p_or f.rules) copy
      (decides_same d (some_map (holds_proves c w) f.rules) (some_map (proves_holds c w) f.rules) (each_map (λ r h. h) f.rules) (each_map (λ r h. h) f.rules) by_rules)
      (copies_decide c w x e are by_parts))
    where
      rules_or : SomeOf (Proves A v.Yes c w) f.rules ⊎ CopyYes f v.Yes c w → Each (RuleIsRefuted A v c w) f.rules × CopyNo f v.No c w → ⊥
      rules_or (inl y) k = some_each (proves_or_refuted f v (level f n n).never (level f n n).stays A (level f n n).one (level f n n).alias_stays c w) f.rules y k.0
      rules_or (inr y) k = copy_or f v.Yes v.No (level f n n).never c w y k.1

  -- ---- a goal that is read

  pub sized_decides : (c : Kind) (w : Term) → IsKnown (key c w) → is_among f.sized c ≡ true → (a : Answer) →
      Decides (SizedYes f A (λ t. IsKnown (only t) × HasSource f A v c (only t)) f.tail (self_type w)) (SizedNo f A (λ t. IsKnown (only t) × HasNoSource f A v c (only t)) f.tail (self_type w)) a → Decides (YesAt f A v c w) (NoAt f A v c w) a
  sized_decides (projects k) w known e a d = absurd (true≢false (sym e))
  sized_decides (implements t) w known e a d = by_answer a d
    where
      Y : Type 0
      Y = SizedYes f A (λ t'. IsKnown (only t') × HasSource f A v (implements t) (only t')) f.tail (self_type w)

      N : Type 0
      N = SizedNo f A (λ t'. IsKnown (only t') × HasNoSource f A v (implements t) (only t')) f.tail (self_type w)

      put : (X Z : Type 0) → X → OneIf (is_among f.sized (implements t)) X Z
      put X Z x = subst (λ (b : Bool). OneIf b X Z) (sym e) x

      take_out : (X Z : Type 0) → OneIf (is_among f.sized (implements t)) X Z → X
      take_out X Z x = subst (λ (b : Bool). OneIf b X Z) e x

      not_yes : (Y → ⊥) → YesAt f A v (implements t) w → ⊥
      not_yes y (k, inl x) = x
      not_yes y (k, inr x) = y (take_out Y (HasSource f A v (implements t) w) x)

      by_answer : (a : Answer) → Decides Y N a → Decides (YesAt f A v (implements t) w) (NoAt f A v (implements t) w) a
      by_answer answer.Yes d = (known, inr (put Y (HasSource f A v (implements t) w) d))
      by_answer answer.No d = (known, tt, put N (HasNoSource f A v (implements t) w) d)
      by_answer answer.Undecided d = (not_yes d.0, λ x. d.1 (take_out N (HasNoSource f A v (implements t) w) x.2))

  module _ (c : Kind) (w : Term) (known : IsKnown (key c w)) (not_sized : is_among f.sized c ≡ false) where
    abbrev WalksYes : Type 0
    WalksYes = SizedYes f A (λ t. IsKnown (only t) × HasSource f A v c (only t)) f.tail (self_type w)

    abbrev WalksNo : Type 0
    WalksNo = SizedNo f A (λ t. IsKnown (only t) × HasNoSource f A v c (only t)) f.tail (self_type w)

    put_source : (X Z : Type 0) → Z → OneIf (is_among f.sized c) X Z
    put_source X Z x = subst (λ (b : Bool). OneIf b X Z) (sym not_sized) x

    source_of : (X Z : Type 0) → OneIf (is_among f.sized c) X Z → Z
    source_of X Z x = subst (λ (b : Bool). OneIf b X Z) not_sized x

    not_yes_at : (IsItself c w → ⊥) → (HasSource f A v c w → ⊥) → YesAt f A v c w → ⊥
    not_yes_at i s (k, inl x) = i x
    not_yes_at i s (k, inr x) = s (source_of WalksYes (HasSource f A v c w) x)

    pub itself_yes : IsItself c w → YesAt f A v c w
    itself_yes i = (known, inl i)

    pub never_itself_decides : IsNeverItself c w → (a : Answer) → Decides (HasSource f A v c w) (HasNoSource f A v c w) a → Decides (YesAt f A v c w) (NoAt f A v c w) a
    never_itself_decides never answer.Yes d = (known, inr (put_source WalksYes (HasSource f A v c w) d))
    never_itself_decides never answer.No d = (known, never, put_source WalksNo (HasNoSource f A v c w) d)
    never_itself_decides never answer.Undecided d = (not_yes_at (λ i. itself_or c w i never) d.0, λ x. d.1 (source_of WalksNo (HasNoSource f A v c w) x.2))

    pub maybe_itself_decides : (IsItself c w → ⊥) → (IsNeverItself c w → ⊥) → (a : Answer) → Decides (HasSource f A v c w) (HasNoSource f A v c w) a → Decides (YesAt f A v c w) (NoAt f A v c w) (unless_no a)
    maybe_itself_decides i never answer.Yes d = (known, inr (put_source WalksYes (HasSource f A v c w) d))
    maybe_itself_decides i never answer.No d = (not_yes_at i (λ y. source_excludes y d), λ x. never x.1)
      where
        source_excludes : HasSource f A v c w → HasNoSource f A v c w → ⊥
        source_excludes y k = source_or_none f v (level f n n).never (level f n n).stays A (level f n n).one (level f n n).alias_stays c w y k
    maybe_itself_decides i never answer.Undecided d = (not_yes_at i d.0, λ x. never x.1)

-- ---- a goal as it stands

module _ (f : System) (g : Asked) (p : Fill) (done : PredIsDone p g) where
  fills_read : FillsAreRead p g.parts
  fills_read k o = (done.fills k o).read

  -- where an alias is open nothing is known
  pub open_decides_not : (n : ℕ) → ((w : Term) → Reads (answers f n).Alias p g.parts w → ⊥) → ((answers f n).Yes (asked_at p g) → ⊥) × ((answers f n).No (asked_at p g) → ⊥)
  open_decides_not zero never_so = (λ y. never_so y.0 (reads_before (alias_first f) p g.parts y.0 fills_read y.1), λ y. never_so y.0 (reads_before (alias_first f) p g.parts y.0 fills_read y.1))
  open_decides_not (suc n) never_so =
      (λ y. never_so y.0 (reads_before (answers f (suc n)).Alias p g.parts y.0 fills_read y.1), λ y. never_so y.0 (reads_before (answers f (suc n)).Alias p g.parts y.0 fills_read y.1))

  module _ (n : ℕ) (w : Term) (r : Reads (answers f n).Alias p g.parts w) where
    abbrev YesHere : Type 0
    YesHere = YesAt f (answers f n).Alias (known_below f n) g.kind w

    abbrev NoHere : Type 0
    NoHere = NoAt f (answers f n).Alias (known_below f n) g.kind w

    same_reading : (x : Term) → ReadsAs (answers f n).Alias (apply p g.parts) x → x ≡ w
    same_reading x i = reads_one (answers f n).Alias (level f n n).one hole (apply p g.parts) x w i (reads_at (answers f n).Alias p g.parts w fills_read r)

  pub unsized_decides_not : (is_among f.sized g.kind ≡ true → ⊥) → ((answers f zero).Yes (asked_at p g) → ⊥) × ((answers f zero).No (asked_at p g) → ⊥)
  unsized_decides_not never_so = (λ y. never_so y.2, λ y. never_so y.2)

  pub goal_decides : (n : ℕ) (w : Term) (r : Reads (answers f n).Alias p g.parts w) → (n ≡ 0 → is_among f.sized g.kind ≡ true) → (a : Answer) → Decides (YesHere n w r) (NoHere n w r) a → Decides ((answers f n).Yes (asked_at p g)) ((answers f n).No (asked_at p g)) a
  goal_decides zero w r sized a d =
      let here = reads_at (alias_first f) p g.parts w fills_read r in
      decides_same a (λ y. (w, here, sized refl, y)) (λ y. subst (YesAt f (alias_first f) (nothing f) g.kind) (same_reading zero w r y.0 y.1) y.3)
      (λ y. (w, here, sized refl, y)) (λ y. subst (NoAt f (alias_first f) (nothing f) g.kind) (same_reading zero w r y.0 y.1) y.3) d
  goal_decides (suc n) w r sized a d =
      let A = (answers f (suc n)).Alias in
      let here = reads_at A p g.parts w fills_read r in
      decides_same a (λ y. (w, here, y)) (λ y. subst (YesAt f A (answers f n) g.kind) (same_reading (suc n) w r y.0 y.1) y.2)
      (λ y. (w, here, y)) (λ y. subst (NoAt f A (answers f n) g.kind) (same_reading (suc n) w r y.0 y.1) y.2) d
