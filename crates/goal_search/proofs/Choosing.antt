-- Which source a goal is selected by.
use Rattle.std.proofs.Common.{◌≡◌, ◌⊎◌, inl, inr, ℕ, suc, ◌+◌, arith, Bool, true, false, refl, sym, ap, subst, List, Option, Some, None}
use Rattle.std.specs.Option.{option_map}
use Rattle.goal_search.specs.Words.{Head, Term, hole, leaf, pair, Aliases, Reads, role, IsReadLeaf, IsRead, Kind, implements, projects, Asked, Rule, System, asked_at, key, self_type, is_among, OneIf, Each, SomeOf, Verdicts, Copied, with_parts, by_impls, unclear, copied, CopyYes, CopyNo, NeverSame, RuleIsRefuted, Shadows, ShadowsNot, answers, known_below, Choice as Source, by_clause, by_rule, by_parts, by_size, IsConcreteHead, IsConcrete, IsTraitKind, IsSelectable, IsOnlyOf, HasConcreteHead, CopiesParts, IsOnlySource, StatesGoal, SizeIsBy, IsDeep, Selects, IsChoice, HasHeads}
use Rattle.hir_types.specs.declared.head.Head.TheVariants as head
use Rattle.goal_search.proofs.Words.{each_map, some_each, apply_hole, shadows_or_not, copy_or, level}
use Rattle.goal_search.specs.Own.{Answer, Copies, Row, Choice, CopiedAre, CopiesIf, CopiesAre, IsDone, Decides, Holds, HoldsNot, choice_of, IsLeft, IsRow, IsBy, IsConcreteIf}
use Rattle.goal_search.specs.declared.answer.Answer.TheVariants as answer
use Rattle.goal_search.specs.declared.rules.Side.TheVariants as side
use Rattle.goal_search.specs.declared.rows.Copies.TheVariants as copies
use Rattle.goal_search.specs.declared.choose.Left.TheVariants as left
use Rattle.goal_search.specs.declared.choose.Row.TheVariants as row
use Rattle.goal_search.specs.declared.choose.Choice.TheVariants as choice
use Rattle.goal_search.proofs.Deciding.{holds_shadows, shadows_holds, key_refuted, refuted_key, PartsAnswer, copies_decide}
use Rattle.goal_search.proofs.Only.{some_get, only_same, only_each}

-- ---- concrete goals

concrete_head_read : (h : Head) → IsConcreteHead h → IsReadLeaf (role (leaf h))
concrete_head_read (head.Projection k) c = absurd c
concrete_head_read _ c = tt

concrete_read : (t : Term) → IsConcrete t → IsRead t
concrete_read (hole k) c = tt
concrete_read (leaf h) c = concrete_head_read h c
concrete_read (pair a b) c = (concrete_read a c.0, concrete_read b c.1)

pub selectable_done : (g : Asked) → IsSelectable g → HasHeads g.parts → IsDone g.parts
selectable_done g s h = record { read = concrete_read g.parts s.concrete; heads = h }

pub asked_at_hole : (g : Asked) → asked_at hole g ≡ g
asked_at_hole g = ap (λ (x : Term). let r : Asked = record { kind = g.kind; parts = x } in r) (apply_hole g.parts)

-- ---- clauses and rules of a trait

trait_key : (c : Kind) (w : Term) → IsTraitKind c → key c w ≡ w
trait_key (implements n) w t = refl
trait_key (projects k) w t = absurd t

-- a clause of a trait that shadows nothing is refuted
shadows_not_out : (A : Aliases) (v : Verdicts) (c : Kind) (w : Term) → IsTraitKind c → (r : Rule) → ShadowsNot A v c w r → RuleIsRefuted A v c w r
shadows_not_out A v (projects k) w t r h = absurd t
shadows_not_out A v (implements m) w t r (inl h) = inl h
shadows_not_out A v (implements m) w t r (inr (inl h)) = inr (inl h)
shadows_not_out A v (implements m) w t r (inr (inr (told, fails))) = inr (inr (told, record { at = fails.at; general = fails.general; fails = by_case fails.fails }))
  where
    by_case : ((h : Term) × Reads A fails.at r.head.parts h × NeverSame h w) ⊎ ⊥ → ((h : Term) × Reads A fails.at r.head.parts h × NeverSame h w) ⊎ SomeOf (λ q. v.No (asked_at fails.at q)) r.preds
    by_case (inl h) = inl h
    by_case (inr h) = absurd h

module _ (f : System) (n : ℕ) (c : Kind) (w : Term) (trait_ : IsTraitKind c) where
  abbrev A : Aliases
  A = (answers f n).Alias

  abbrev v : Verdicts
  v = known_below f n

  abbrev Out : Rule → Type 0
  Out = RuleIsRefuted A v c w

  abbrev Shadowing : Type 0
  Shadowing = SomeOf (Holds A v side.Key c w) f.clauses

  abbrev NotShadowing : Type 0
  NotShadowing = Each (HoldsNot A v side.Key c w) f.clauses

  abbrev Unshadowed : Type 0
  Unshadowed = Each (ShadowsNot A v c w) f.clauses

  shadows_here : (r : Rule) → Holds A v side.Key c w r → Shadows A c w r
  shadows_here r h = holds_shadows f n c w r (subst (λ (t : Term). Holds A v side.Key c t r) (sym (trait_key c w trait_)) h)

  holds_here : (r : Rule) → Shadows A c w r → Holds A v side.Key c w r
  holds_here r h = subst (λ (t : Term). Holds A v side.Key c t r) (trait_key c w trait_) (shadows_holds f n c w r h)

  shadows_not_here : (r : Rule) → HoldsNot A v side.Key c w r → ShadowsNot A v c w r
  shadows_not_here r h = key_refuted f n c w r (subst (λ (t : Term). HoldsNot A v side.Key c t r) (sym (trait_key c w trait_)) h)

  holds_not_here : (r : Rule) → ShadowsNot A v c w r → HoldsNot A v side.Key c w r
  holds_not_here r h = subst (λ (t : Term). HoldsNot A v side.Key c t r) (trait_key c w trait_) (refuted_key f n c w r h)

  shadows_excluded : (r : Rule) → Shadows A c w r → ShadowsNot A v c w r → ⊥
  shadows_excluded r h k = shadows_or_not f v (level f n n).never (level f n n).stays A (level f n n).one (level f n n).alias_stays c w r h k

  unshadowed_out : Unshadowed → Each Out f.clauses
  unshadowed_out h = each_map (shadows_not_out A v c w trait_) f.clauses h

  shadowing_not : Shadowing → Unshadowed → ⊥
  shadowing_not s h = some_each (λ r x y. shadows_excluded r (shadows_here r x) y) f.clauses s h

  -- ---- sizes

  abbrev IsSize : Source → Type 0
  IsSize = SizeIsBy f A v c w

  pub size_shadowed : (SomeOf (StatesGoal A v c w) f.clauses → ⊥) → (a : Answer) → Decides Shadowing NotShadowing a → (a ≡ answer.No → ⊥) → IsBy IsSize None
  size_shadowed none a d some (by_clause i) h = none (some_get (StatesGoal A v c w) f.clauses i h.0 h.1 h.2)
  size_shadowed none a d some (by_rule i) h = h
  size_shadowed none a d some by_parts h = h
  size_shadowed none answer.Yes d some by_size h = shadowing_not d h
  size_shadowed none answer.No d some by_size h = some refl
  size_shadowed none answer.Undecided d some by_size h = d.1 (each_map holds_not_here f.clauses h)

  pub size_walked : (a : Answer) → Decides Shadowing NotShadowing a → a ≡ answer.No → IsSize by_size
  size_walked a d e = each_map shadows_not_here f.clauses (subst (Decides Shadowing NotShadowing) e d)

  -- ---- sources

  abbrev IsSource : Source → Type 0
  IsSource = IsOnlySource f A v c w

  open_head : (rs : List Rule) (i j : ℕ) → IsOnlyOf Out rs i → (HasConcreteHead rs i → ⊥) → IsOnlyOf Out rs j → HasConcreteHead rs j → ⊥
  open_head rs i j o h k is = h (subst (HasConcreteHead rs) (only_same Out rs j i k o) is)

  -- where some clause isn't refuted, only clauses select
  only_clauses : (Each Out f.clauses → ⊥) → ((i : ℕ) → IsOnlyOf Out f.clauses i → HasConcreteHead f.clauses i → ⊥) → IsBy IsSource None
  only_clauses left none (by_clause i) h = none i h.0 h.1
  only_clauses left none (by_rule i) h = left (unshadowed_out h.0)
  only_clauses left none by_parts h = left (unshadowed_out h.0)
  only_clauses left none by_size h = h

  pub clause_open : (i : ℕ) → IsOnlyOf Out f.clauses i → (HasConcreteHead f.clauses i → ⊥) → IsBy IsSource None
  clause_open i o h = only_clauses (only_each Out f.clauses i o) (λ j k is. open_head f.clauses i j o h k is)

  pub clauses_several : IsLeft Out f.clauses left.Several → IsBy IsSource None
  clauses_several l = only_clauses l.0 (λ j k is. l.1 j k)

  module _ (clauses_out : Each Out f.clauses) where
    -- where each clause is refuted
    by_no_clause : (Unshadowed → (i : ℕ) → CopyNo f v.No c w → IsOnlyOf Out f.rules i → HasConcreteHead f.rules i → ⊥) → (Unshadowed → Each Out f.rules → (CopyNo f v.No c w → ⊥) → (ts : List Term) → CopiesParts f c w ts → ⊥) → IsBy IsSource None
    by_no_clause rule parts (by_clause i) h = only_each Out f.clauses i h.0 clauses_out
    by_no_clause rule parts (by_rule i) h = rule h.0 i h.1 h.2 h.3
    by_no_clause rule parts by_parts h = parts h.0 h.1 h.2 h.3.0 h.3.1
    by_no_clause rule parts by_size h = h

    pub may_shadow : (a : Answer) → Decides Shadowing NotShadowing a → (a ≡ answer.No → ⊥) → IsBy IsSource None
    may_shadow a d no_ = by_no_clause (λ u i x o h. shadowed_not a d no_ u) (λ u e x ts p. shadowed_not a d no_ u)
      where
        shadowed_not : (a : Answer) → Decides Shadowing NotShadowing a → (a ≡ answer.No → ⊥) → Unshadowed → ⊥
        shadowed_not answer.Yes d no_ u = shadowing_not d u
        shadowed_not answer.No d no_ u = no_ refl
        shadowed_not answer.Undecided d no_ u = d.1 (each_map holds_not_here f.clauses u)

    pub unshadowed : (a : Answer) → Decides Shadowing NotShadowing a → a ≡ answer.No → Unshadowed
    unshadowed a d e = each_map shadows_not_here f.clauses (subst (Decides Shadowing NotShadowing) e d)

    pub rules_several : IsLeft Out f.rules left.Several → IsBy IsSource None
    rules_several l = by_no_clause (λ u i x o h. l.1 i o) (λ u e x ts p. l.0 e)

    pub rule_open : (i : ℕ) → IsOnlyOf Out f.rules i → (HasConcreteHead f.rules i → ⊥) → IsBy IsSource None
    rule_open i o h = by_no_clause (λ u j x k is. open_head f.rules i j o h k is) (λ u e x ts p. only_each Out f.rules i o e)

    pub rule_copied : (i : ℕ) → IsOnlyOf Out f.rules i → (CopyNo f v.No c w → ⊥) → IsBy IsSource None
    rule_copied i o copied_ = by_no_clause (λ u j x k is. copied_ x) (λ u e x ts p. only_each Out f.rules i o e)

    pub nothing_left : (y : Row) → Each Out f.rules → IsRow f v c w y → (y ≡ row.Refuted) ⊎ (y ≡ row.Unclear) → IsBy IsSource None
    nothing_left y e h (inl is) = by_no_clause (λ u i x o k. only_each Out f.rules i o e) (λ u k x ts p. x (subst (IsRow f v c w) is h))
    nothing_left y e h (inr is) = by_no_clause (λ u i x o k. only_each Out f.rules i o e) (λ u k x ts p. (subst (IsRow f v c w) is h).1 ts p)

-- ---- what is copied

goals_parts : (f : System) (c : Kind) (w : Term) (goals : _) → CopiesAre f c w (copies.Of goals) → (ts : List Term) × CopiesParts f c w ts
goals_parts f c w goals are = by_among (is_among f.copied c) refl are
  where
    by_row : (among : is_among f.copied c ≡ true) (y : Copied) → copied (self_type w) ≡ y → CopiedAre c y (copies.Of goals) → (ts : List Term) × CopiesParts f c w ts
    by_row among (with_parts us) e h = (h.0, record { among = among; parts = us; copied = e; types = h.1 })
    by_row among by_impls e h = cc
    by_row among unclear e h = cc

    by_among : (b : Bool) → is_among f.copied c ≡ b → CopiesIf b c w (copies.Of goals) → (ts : List Term) × CopiesParts f c w ts
    by_among true e h = by_row e (copied (self_type w)) refl h
    by_among false e h = cc

module _ (f : System) (n : ℕ) (c : Kind) (w : Term) where
  abbrev vs : Verdicts
  vs = known_below f n

  abbrev IsNot : Type 0
  IsNot = CopyNo f vs.No c w

  refuted_if : (b : Answer) → Decides (CopyYes f vs.Yes c w) IsNot b → b ≡ answer.No → IsNot
  refuted_if b d e = subst (Decides (CopyYes f vs.Yes c w) IsNot) e d

  not_refuted_if : (b : Answer) → Decides (CopyYes f vs.Yes c w) IsNot b → (b ≡ answer.No → ⊥) → IsNot → ⊥
  not_refuted_if answer.Yes d other x = copy_or f vs.Yes vs.No (level f n n).never c w d x
  not_refuted_if answer.No d other x = other refl
  not_refuted_if answer.Undecided d other x = d.1 x

  pub row_refuted : (x : Copies) (b : Answer) → CopiesAre f c w x → PartsAnswer f n x b → b ≡ answer.No → IsRow f vs c w row.Refuted
  row_refuted x b are d e = refuted_if b (copies_decide f n c w x b are d) e

  pub row_of_parts : (goals : _) (b : Answer) → CopiesAre f c w (copies.Of goals) → PartsAnswer f n (copies.Of goals) b → (b ≡ answer.No → ⊥) → IsRow f vs c w row.OfParts
  row_of_parts goals b are d other = (not_refuted_if b (copies_decide f n c w (copies.Of goals) b are d) other, goals_parts f c w goals are)

  -- the row is another
  pub row_not : (y : Row) → IsRow f vs c w y → (y ≡ row.OfParts) ⊎ (y ≡ row.Unclear) → IsNot → ⊥
  row_not y h (inl is) x = (subst (IsRow f vs c w) is h).0 x
  row_not y h (inr is) x = (subst (IsRow f vs c w) is h).0 x

-- ---- what was found

module _ (f : System) (n : ℕ) (c : Kind) (w : Term) (trait_ : IsTraitKind c) where
  abbrev Refuted : Rule → Type 0
  Refuted = RuleIsRefuted (answers f n).Alias (known_below f n) c w

  abbrev IsFound : Option Choice → Type 0
  IsFound o = IsBy (IsOnlySource f (answers f n).Alias (known_below f n) c w) (option_map choice_of o)

  pub clause_found : (i : ℕ) → IsOnlyOf Refuted f.clauses i → (o : Option Choice) → IsConcreteIf f.clauses i (choice.Clause i) o → IsFound o
  clause_found i only (Some x) h = subst (λ (y : Choice). IsFound (Some y)) (sym h.1) (only, h.0)
  clause_found i only None h = clause_open f n c w trait_ i only h

  pub rule_found : Each Refuted f.clauses → Each (ShadowsNot (answers f n).Alias (known_below f n) c w) f.clauses → CopyNo f (known_below f n).No c w → (i : ℕ) → IsOnlyOf Refuted f.rules i → (o : Option Choice) → IsConcreteIf f.rules i (choice.Rule i) o → IsFound o
  rule_found out free refuted i only (Some x) h = subst (λ (y : Choice). IsFound (Some y)) (sym h.1) (free, refuted, only, h.0)
  rule_found out free refuted i only None h = rule_open f n c w trait_ out i only h

-- ---- goals

module _ (f : System) (n : ℕ) (g : Asked) where
  abbrev BySize : Source → Type 0
  BySize = SizeIsBy f (answers f n).Alias (known_below f n) g.kind g.parts

  abbrev BySource : Source → Type 0
  BySource = IsOnlySource f (answers f n).Alias (known_below f n) g.kind g.parts

  abbrev Sized : Source → Type 0
  Sized by = (answers f n).Yes g × BySize by

  abbrev Sourced : Source → Type 0
  Sourced by = IsDeep n × BySource by

  module _ (sized : is_among f.sized g.kind ≡ true) where
    sized_of : (by : Source) → Selects f n g by → Sized by
    sized_of by s = subst (λ (b : Bool). OneIf b (Sized by) (Sourced by)) sized s.source

    pub sized_choice : IsSelectable g → (answers f n).Yes g → (o : Option Source) → IsBy BySize o → IsChoice f n g o
    sized_choice s y (Some by) h = record { selectable = s; source = subst (λ (b : Bool). OneIf b (Sized by) (Sourced by)) (sym sized) (y, h) }
    sized_choice s y None h = λ by x. h by (sized_of by x).1

    pub unanswered_choice : ((answers f n).Yes g → ⊥) → IsChoice f n g None
    unanswered_choice no_ = λ by x. no_ (sized_of by x).0

  -- the goal was asked, a step on
  module _ (m : ℕ) (is : m ≡ n + 1) (a : Answer) (d : Decides ((known_below f m).Yes (asked_at hole g)) ((known_below f m).No (asked_at hole g)) a) where
    answered : Decides ((answers f n).Yes g) ((answers f n).No g) a
    answered =
        let e : m ≡ suc n = omega (arith, is) in
        let here = subst (λ (k : ℕ). Decides ((known_below f k).Yes (asked_at hole g)) ((known_below f k).No (asked_at hole g)) a) e d in
        subst (λ (q : Asked). Decides ((answers f n).Yes q) ((answers f n).No q) a) (asked_at_hole g) here

    pub is_answered : a ≡ answer.Yes → (answers f n).Yes g
    is_answered e = subst (Decides ((answers f n).Yes g) ((answers f n).No g)) e answered

    pub not_answered : (a ≡ answer.Yes → ⊥) → (answers f n).Yes g → ⊥
    not_answered other y = by_answer a answered other
      where
        by_answer : (b : Answer) → Decides ((answers f n).Yes g) ((answers f n).No g) b → (b ≡ answer.Yes → ⊥) → ⊥
        by_answer answer.Yes d other = other refl
        by_answer answer.No d other = (level f n (suc n)).never g y d
        by_answer answer.Undecided d other = d.0 y
