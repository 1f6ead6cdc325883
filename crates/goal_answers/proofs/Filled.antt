-- What is answered stays where holes are filled.
use Rattle.std.proofs.Common.{◌≡◌, inl, inr, ℕ, zero, suc, true≢false, refl, sym, ap, ◌∙◌, subst, List, [], Option, Some, None}
use Rattle.goal_answers.specs.Words.{TypeAliasId, Head, Mutability, Term, hole, leaf, pair, apply, hole_number, Respects, apply_apply, is_int_apply}
use Rattle.hir_types.specs.declared.head.Head.TheVariants as head
use Rattle.hir_types.specs.declared.ty.Mutability.TheVariants as mutability
use Rattle.goal_answers.specs.Own.{Fill, IsFilling, Aliases, Reads, ReadsAs, MayRead, Kind, implements, projects, Asked, Rule, System, asked_at, args_of, type_of, key, IsKnown, self_type, only, is_among, Each, Verdicts, types_of, EachType, SomeType, IsLast, AreArgs, Copied, with_parts, by_impls, unclear, copied_head, copied, CopyYes, CopyNo, Tail, has_size, has_none, field, last, asked, unclear_tail, field_tail, tuple_tail, head_tail, tail_of, SizedYes, SizedNo, NeverSame, IsApart, IsGeneral, FailsAt, IsRefuted, Gives, GivesNone, ByRules, alias_next, CannotGive, alias_first, Proves, RuleIsRefuted, Shadows, ShadowsNot, HasSource, HasNoSource, IsItself, IsNeverItself, YesAt, NoAt, next, nothing, first, answers, DecidedAnswersStay}
use Rattle.goal_answers.proofs.Lists.{one_if, each_map, some_map, one_map, or_map}
use Rattle.goal_answers.proofs.Parts.{each_type_filled, some_type_filled, last_filled, nth_filled}
use Rattle.goal_answers.proofs.Readings.{AliasStays, filling_twice, reads_filled, reads_as_filled}

-- ---- what is known of a goal's parts

pub known_filled : (s : Fill) (t : Term) → IsKnown t → IsKnown (apply s t)
known_filled s (hole k) h = absurd h
known_filled s (leaf x) h = absurd h
known_filled s (pair (hole k) b) h = absurd h
known_filled s (pair (leaf x) b) h = absurd h
known_filled s (pair (pair m (hole k)) b) h = absurd h
known_filled s (pair (pair m (leaf x)) b) h = tt
known_filled s (pair (pair m (pair a c)) b) h = tt

args_filled : (s : Fill) (w : Term) → IsKnown (args_of w) → args_of (apply s w) ≡ apply s (args_of w)
args_filled s (hole k) h = absurd h
args_filled s (leaf x) h = absurd h
args_filled s (pair a b) h = refl

pub key_filled : (s : Fill) (c : Kind) (w : Term) → IsKnown (key c w) → key c (apply s w) ≡ apply s (key c w)
key_filled s (implements n) w h = refl
key_filled s (projects k) w h = args_filled s w h

-- the self type of a trait's arguments, where it is known
self_filled : (s : Fill) (w : Term) → IsKnown w → self_type (apply s w) ≡ apply s (self_type w)
self_filled s (hole k) h = absurd h
self_filled s (leaf x) h = absurd h
self_filled s (pair (hole k) b) h = absurd h
self_filled s (pair (leaf x) b) h = absurd h
self_filled s (pair (pair m t) b) h = refl

pub itself_filled : (s : Fill) (c : Kind) (w : Term) → IsItself c w → IsItself c (apply s w)
itself_filled s (implements n) w h = h
itself_filled s (projects k) w h = (apply s h.0, ap (apply s) h.1)

respects_twice : (f g : Fill) → Respects f → Respects g → Respects (λ k. apply f (g k))
respects_twice f g a b k x = is_int_apply f (g k) a (b k x)

pub never_itself_filled : (s : Fill) → IsFilling s → (c : Kind) (w : Term) → IsNeverItself c w → IsNeverItself c (apply s w)
never_itself_filled s f (implements n) w h = h
never_itself_filled s f (projects k) w h = λ x y r e. h (λ i. apply x (s i)) y (respects_twice x s r f.respects) (sym (apply_apply x s w) ∙ e)

-- ---- one filling

module _ (s : Fill) (f : IsFilling s) where
  asked_twice : (p : Fill) (q : Asked) → asked_at s (asked_at p q) ≡ asked_at (λ k. apply s (p k)) q
  asked_twice p q = ap (λ (t : Term). let r : Asked = record { kind = q.kind; parts = t } in r) (apply_apply s p q.parts)

  -- ---- what is apart stays so

  may_before : (q x : Fill) (t w : Term) → MayRead q t (apply x (apply s w)) → MayRead q t (apply (λ k. apply x (s k)) w)
  may_before q x t w m = subst (MayRead q t) (apply_apply x s w) m

  pub apart_filled : (t w : Term) → IsApart t w → IsApart t (apply s w)
  apart_filled t w a q x g m = a q (λ k. apply x (s k)) (filling_twice x s g f) (may_before q x t w m)

  never_same_filled : (h w : Term) → NeverSame h w → NeverSame h (apply s w)
  never_same_filled h w n x y a b e = n x (λ k. apply y (s k)) a (respects_twice y s b f.respects) (e ∙ apply_apply y s w)

  general_filled : (t w : Term) (p : Fill) → IsGeneral t w p → IsGeneral t (apply s w) p
  general_filled t w p g q x h m = g q (λ k. apply x (s k)) (filling_twice x s h f) (may_before q x t w m)

  fails_filled : (A : Aliases) (v : Verdicts) (t : Term) (preds : List Asked) (w : Term) → FailsAt A v t preds w → FailsAt A v t preds (apply s w)
  fails_filled A v t preds w h = record {
    at = h.at;
    general = general_filled t w h.at h.general;
    fails = or_map (λ x. (x.0, x.1, never_same_filled x.0 w x.2)) (λ x. x) h.fails;
  }

  pub refuted_filled : (A : Aliases) (v : Verdicts) (r : Rule) (t : Term) (preds : List Asked) (w : Term) → IsRefuted A v r t preds w → IsRefuted A v r t preds (apply s w)
  refuted_filled A v r t preds w h = or_map (apart_filled t w) (λ x. (x.0, fails_filled A v t preds w x.1)) h

-- ---- one depth, where the depth below stays

pub record Stays (s : Fill) (v : Verdicts) : Type 0 where
  pub yes : (g : Asked) → v.Yes g → v.Yes (asked_at s g)
  pub no : (g : Asked) → v.No g → v.No (asked_at s g)
  pub alias : AliasStays s v.Alias

module _ (f : System) (s : Fill) (filling : IsFilling s) (v : Verdicts) (stays : Stays s v) where
  preds_filled : (p : Fill) (qs : List Asked) → Each (λ q. v.Yes (asked_at p q)) qs → Each (λ q. v.Yes (asked_at (λ k. apply s (p k)) q)) qs
  preds_filled p qs h = each_map (λ q y. subst v.Yes (asked_twice s filling p q) (stays.yes (asked_at p q) y)) qs h

  gives_filled : (k : TypeAliasId) (w u : Term) (r : Rule) → Gives v k w u r → Gives v k (apply s w) (apply s u) r
  gives_filled k w u r g = record {
    kind = g.kind;
    told = g.told;
    at = λ j. apply s (g.at j);
    args = reads_filled s v.Alias stays.alias g.at (args_of r.head.parts) w g.args;
    type = reads_filled s v.Alias stays.alias g.at (type_of r.head.parts) u g.type;
    preds = preds_filled g.at r.preds g.preds;
  }

  gives_none_filled : (k : TypeAliasId) (w : Term) (r : Rule) → GivesNone v k w r → GivesNone v k (apply s w) r
  gives_none_filled k w r g = or_map (λ h. h) (refuted_filled s filling v.Alias v r (args_of r.head.parts) r.preds w) g

  by_rules_filled : (rs : List Rule) (k : TypeAliasId) (w u : Term) → ByRules v rs k w u → ByRules v rs k (apply s w) (apply s u)
  by_rules_filled rs k w u h =
      or_map (one_map (gives_filled k w u) (gives_none_filled k w) rs) (λ i. (each_map (gives_none_filled k w) rs i.0, ap (apply s) i.1)) h

  pub alias_next_stays : AliasStays s (alias_next f v)
  alias_next_stays k w u a = (
    known_filled s w a.0,
    or_map (one_map (gives_filled k w u) (gives_none_filled k w) f.clauses)
        (λ h. (each_map (gives_none_filled k w) f.clauses h.0, by_rules_filled f.rules k w u h.1)) a.1,
  )

  -- ---- rows

  only_filled : (c : Kind) (t : Term) → v.Yes (record { kind = c; parts = only t }) → v.Yes (record { kind = c; parts = only (apply s t) })
  only_filled c t y = stays.yes (record { kind = c; parts = only t }) y

  only_no_filled : (c : Kind) (t : Term) → v.No (record { kind = c; parts = only t }) → v.No (record { kind = c; parts = only (apply s t) })
  only_no_filled c t y = stays.no (record { kind = c; parts = only t }) y

-- what is copied, by what stands outermost
abbrev pub CopyYesBy : (Asked → Type 0) → Kind → Copied → Type 0
CopyYesBy Yes c x = elim x [
  | with_parts ts ↦ EachType (λ t. Yes (record { kind = c; parts = only t })) (types_of ts)
  | by_impls ↦ ⊥
  | unclear ↦ ⊥
]

abbrev pub CopyNoBy : (Asked → Type 0) → Kind → Copied → Type 0
CopyNoBy No c x = elim x [
  | with_parts ts ↦ SomeType (λ t. No (record { kind = c; parts = only t })) (types_of ts)
  | by_impls ↦ Unit {0}
  | unclear ↦ ⊥
]

abbrev pub copied_filled : Fill → Copied → Copied
copied_filled s (with_parts ts) = with_parts (apply s ts)
copied_filled s by_impls = by_impls
copied_filled s unclear = unclear

copied_ref : (s : Fill) (m : Mutability) (ts : Term) → copied_head (head.Ref m) (apply s ts) ≡ copied_filled s (copied_head (head.Ref m) ts)
copied_ref s mutability.Not ts = refl
copied_ref s mutability.Mut ts = refl

copied_head_filled : (s : Fill) (h : Head) (ts : Term) → copied_head h (apply s ts) ≡ copied_filled s (copied_head h ts)
copied_head_filled s head.Never ts = refl
copied_head_filled s (head.FnDef id) ts = refl
copied_head_filled s (head.FnPtr u) ts = refl
copied_head_filled s (head.RawPtr m) ts = refl
copied_head_filled s (head.Ref m) ts = copied_ref s m ts
copied_head_filled s head.Tuple ts = refl
copied_head_filled s head.Array ts = refl
copied_head_filled s _ ts = refl

-- where what stands outermost isn't clear, nothing is said
copied_yes_filled : (s : Fill) (c : Kind) (Y Z : Asked → Type 0) → ((t : Term) → Y (record { kind = c; parts = only t }) → Z (record { kind = c; parts = only (apply s t) })) → (t : Term) → CopyYesBy Y c (copied t) → CopyYesBy Z c (copied (apply s t))
copied_yes_filled s c Y Z more (pair (leaf h) ts) y =
    subst (CopyYesBy Z c) (sym (copied_head_filled s h ts)) (by_copied (copied_head h ts) y)
  where
    by_copied : (x : Copied) → CopyYesBy Y c x → CopyYesBy Z c (copied_filled s x)
    by_copied (with_parts ts) y = each_type_filled (λ t. Y (record { kind = c; parts = only t })) (λ t. Z (record { kind = c; parts = only t })) s more ts y
    by_copied by_impls y = absurd y
    by_copied unclear y = absurd y
copied_yes_filled s c Y Z more (pair (hole k) ts) y = absurd y
copied_yes_filled s c Y Z more (pair (pair a b) ts) y = absurd y
copied_yes_filled s c Y Z more (leaf h) y = absurd y
copied_yes_filled s c Y Z more (hole k) y = absurd y

copied_no_filled : (s : Fill) (c : Kind) (Y Z : Asked → Type 0) → ((t : Term) → Y (record { kind = c; parts = only t }) → Z (record { kind = c; parts = only (apply s t) })) → (t : Term) → CopyNoBy Y c (copied t) → CopyNoBy Z c (copied (apply s t))
copied_no_filled s c Y Z more (pair (leaf h) ts) y =
    subst (CopyNoBy Z c) (sym (copied_head_filled s h ts)) (by_copied (copied_head h ts) y)
  where
    by_copied : (x : Copied) → CopyNoBy Y c x → CopyNoBy Z c (copied_filled s x)
    by_copied (with_parts ts) y = some_type_filled (λ t. Y (record { kind = c; parts = only t })) (λ t. Z (record { kind = c; parts = only t })) s more ts y
    by_copied by_impls y = y
    by_copied unclear y = absurd y
copied_no_filled s c Y Z more (pair (hole k) ts) y = absurd y
copied_no_filled s c Y Z more (pair (pair a b) ts) y = absurd y
copied_no_filled s c Y Z more (leaf h) y = absurd y
copied_no_filled s c Y Z more (hole k) y = absurd y

-- ---- tails

abbrev pub tail_filled : Fill → Tail → Tail
tail_filled s has_size = has_size
tail_filled s has_none = has_none
tail_filled s (field u args) = field u (apply s args)
tail_filled s (last ts) = last (apply s ts)
tail_filled s asked = asked
tail_filled s unclear_tail = unclear_tail

field_tail_filled : (s : Fill) (o : Option Term) (ts : Term) → field_tail o (apply s ts) ≡ tail_filled s (field_tail o ts)
field_tail_filled s None ts = refl
field_tail_filled s (Some t) ts = refl

-- a tail that is clear stays so
abbrev IsClear : Tail → Type 0
IsClear unclear_tail = ⊥
IsClear _ = Unit {0}

tuple_tail_filled : (s : Fill) (ts : Term) → IsClear (tuple_tail ts) → tuple_tail (apply s ts) ≡ tail_filled s (tuple_tail ts)
tuple_tail_filled s (hole k) c = absurd c
tuple_tail_filled s (leaf h) c = refl
tuple_tail_filled s (pair a b) c = refl

head_tail_filled : (f : System) (s : Fill) (h : Head) (ts : Term) → IsClear (head_tail f h ts) → head_tail f h (apply s ts) ≡ tail_filled s (head_tail f h ts)
head_tail_filled f s head.Str ts c = refl
head_tail_filled f s head.Slice ts c = refl
head_tail_filled f s head.Dynamic ts c = refl
head_tail_filled f s (head.Adt id) ts c = field_tail_filled s (f.last_field id) ts
head_tail_filled f s head.Tuple ts c = tuple_tail_filled s ts c
head_tail_filled f s (head.Param n) ts c = refl
head_tail_filled f s (head.AssociatedType k) ts c = refl
head_tail_filled f s (head.Opaque o) ts c = refl
head_tail_filled f s _ ts c = refl

pub tail_of_filled : (f : System) (s : Fill) (t : Term) → IsClear (tail_of f t) → tail_of f (apply s t) ≡ tail_filled s (tail_of f t)
tail_of_filled f s (pair (leaf h) ts) c = head_tail_filled f s h ts c
tail_of_filled f s (pair (hole k) ts) c = absurd c
tail_of_filled f s (pair (pair a b) ts) c = absurd c
tail_of_filled f s (leaf h) c = absurd c
tail_of_filled f s (hole k) c = absurd c

-- one step of the walk
abbrev pub SizedYesBy : System → Aliases → (Term → Type 0) → ℕ → Term → Tail → Type 0
SizedYesBy f A Yes n t x = elim x [
  | has_size ↦ Unit {0}
  | has_none ↦ ⊥
  | field u args ↦ (p : Fill) × (v : Term) × AreArgs args p u × ReadsAs A (apply p u) v × SizedYes f A Yes n v
  | last ts ↦ (v : Term) × IsLast ts v × SizedYes f A Yes n v
  | asked ↦ Yes t
  | unclear_tail ↦ ⊥
]

abbrev pub SizedNoBy : System → Aliases → (Term → Type 0) → ℕ → Term → Tail → Type 0
SizedNoBy f A No n t x = elim x [
  | has_size ↦ ⊥
  | has_none ↦ Unit {0}
  | field u args ↦ (p : Fill) × (v : Term) × AreArgs args p u × ReadsAs A (apply p u) v × SizedNo f A No n v
  | last ts ↦ (v : Term) × IsLast ts v × SizedNo f A No n v
  | asked ↦ No t
  | unclear_tail ↦ ⊥
]

yes_is_clear : (f : System) (A : Aliases) (Y : Term → Type 0) (n : ℕ) (t : Term) (x : Tail) → SizedYesBy f A Y n t x → IsClear x
yes_is_clear f A Y n t has_size y = tt
yes_is_clear f A Y n t has_none y = tt
yes_is_clear f A Y n t (field u args) y = tt
yes_is_clear f A Y n t (last ts) y = tt
yes_is_clear f A Y n t asked y = tt
yes_is_clear f A Y n t unclear_tail y = y

no_is_clear : (f : System) (A : Aliases) (Y : Term → Type 0) (n : ℕ) (t : Term) (x : Tail) → SizedNoBy f A Y n t x → IsClear x
no_is_clear f A Y n t has_size y = tt
no_is_clear f A Y n t has_none y = tt
no_is_clear f A Y n t (field u args) y = tt
no_is_clear f A Y n t (last ts) y = tt
no_is_clear f A Y n t asked y = tt
no_is_clear f A Y n t unclear_tail y = y

module _ (f : System) (s : Fill) (filling : IsFilling s) (A : Aliases) (alias_stays : AliasStays s A) (Y : Term → Type 0) (more : (t : Term) → Y t → Y (apply s t)) where
  field_reads : (p : Fill) (u v : Term) → ReadsAs A (apply p u) v → ReadsAs A (apply (λ k. apply s (p k)) u) (apply s v)
  field_reads p u v r = subst (λ (x : Term). ReadsAs A x (apply s v)) (apply_apply s p u) (reads_as_filled s A filling alias_stays (apply p u) v r)

  pub sized_yes_filled : (n : ℕ) (t : Term) → SizedYes f A Y n t → SizedYes f A Y n (apply s t)
  sized_yes_filled zero t y = tt
  sized_yes_filled (suc n) t y =
      let P : Tail → Type 0 = λ x. SizedYesBy f A Y n (apply s t) x in
      subst P (sym (tail_of_filled f s t (yes_is_clear f A Y n t (tail_of f t) y))) (by_tail (tail_of f t) (sized_yes_filled n) y)
    where
      by_tail : (x : Tail) → ((u : Term) → SizedYes f A Y n u → SizedYes f A Y n (apply s u)) → SizedYesBy f A Y n t x → SizedYesBy f A Y n (apply s t) (tail_filled s x)
      by_tail has_size on y = tt
      by_tail has_none on y = absurd y
      by_tail (field u args) on y = (λ k. apply s (y.0 k), apply s y.1, λ k o. nth_filled s (hole_number k) args (y.0 k) (y.2 k o), field_reads y.0 u y.1 y.3, on y.1 y.4)
      by_tail (last ts) on y = (apply s y.0, last_filled s ts y.0 y.1, on y.0 y.2)
      by_tail asked on y = more t y
      by_tail unclear_tail on y = absurd y

  pub sized_no_filled : (n : ℕ) (t : Term) → SizedNo f A Y n t → SizedNo f A Y n (apply s t)
  sized_no_filled zero t y = absurd y
  sized_no_filled (suc n) t y =
      let P : Tail → Type 0 = λ x. SizedNoBy f A Y n (apply s t) x in
      subst P (sym (tail_of_filled f s t (no_is_clear f A Y n t (tail_of f t) y))) (by_tail (tail_of f t) (sized_no_filled n) y)
    where
      by_tail : (x : Tail) → ((u : Term) → SizedNo f A Y n u → SizedNo f A Y n (apply s u)) → SizedNoBy f A Y n t x → SizedNoBy f A Y n (apply s t) (tail_filled s x)
      by_tail has_size on y = absurd y
      by_tail has_none on y = tt
      by_tail (field u args) on y = (λ k. apply s (y.0 k), apply s y.1, λ k o. nth_filled s (hole_number k) args (y.0 k) (y.2 k o), field_reads y.0 u y.1 y.3, on y.1 y.4)
      by_tail (last ts) on y = (apply s y.0, last_filled s ts y.0 y.1, on y.0 y.2)
      by_tail asked on y = more t y
      by_tail unclear_tail on y = absurd y

-- ---- sources and answers

module _ (f : System) (s : Fill) (filling : IsFilling s) (v : Verdicts) (stays : Stays s v) (A : Aliases) (alias_stays : AliasStays s A) where
  proves_filled : (c : Kind) (w : Term) (r : Rule) → Proves A v.Yes c w r → Proves A v.Yes c (apply s w) r
  proves_filled c w r h = record {
    kind = h.kind;
    told = h.told;
    at = λ k. apply s (h.at k);
    head = reads_filled s A alias_stays h.at r.head.parts w h.head;
    preds = preds_filled f s filling v stays h.at r.preds h.preds;
  }

  pub rule_refuted_filled : (c : Kind) (w : Term) (r : Rule) → RuleIsRefuted A v c w r → RuleIsRefuted A v c (apply s w) r
  rule_refuted_filled c w r h = or_map (λ i. i) (refuted_filled s filling A v r r.head.parts r.preds w) h

  shadows_filled : (c : Kind) (w : Term) → IsKnown (key c w) → (r : Rule) → Shadows A c w r → Shadows A c (apply s w) r
  shadows_filled c w known r h = record {
    kind = h.kind;
    told = h.told;
    at = λ k. apply s (h.at k);
    head = subst (Reads A (λ k. apply s (h.at k)) (key c r.head.parts)) (sym (key_filled s c w known)) (reads_filled s A alias_stays h.at (key c r.head.parts) (key c w) h.head);
  }

  pub shadows_not_filled : (c : Kind) (w : Term) → IsKnown (key c w) → (r : Rule) → ShadowsNot A v c w r → ShadowsNot A v c (apply s w) r
  shadows_not_filled c w known r h =
      or_map (λ i. i) (λ i. subst (IsRefuted A v r (key c r.head.parts) []) (sym (key_filled s c w known)) (refuted_filled s filling A v r (key c r.head.parts) [] (key c w) i)) h

  copy_yes_filled : (c : Kind) (w : Term) → IsKnown (key c w) → CopyYes f v.Yes c w → CopyYes f v.Yes c (apply s w)
  copy_yes_filled (projects k) w known y = (y.0, absurd (true≢false (sym y.0)))
  copy_yes_filled (implements n) w known y = (
    y.0,
    subst (λ (t : Term). CopyYesBy v.Yes (implements n) (copied t)) (sym (self_filled s w known))
        (copied_yes_filled s (implements n) v.Yes v.Yes (only_filled f s filling v stays (implements n)) (self_type w) y.1),
  )

  pub copy_no_filled : (c : Kind) (w : Term) → IsKnown (key c w) → CopyNo f v.No c w → CopyNo f v.No c (apply s w)
  copy_no_filled c w known (inl n) = inl n
  copy_no_filled (projects k) w known (inr y) = inl (λ e. true≢false (sym e))
  copy_no_filled (implements n) w known (inr y) =
      inr (subst (λ (t : Term). CopyNoBy v.No (implements n) (copied t)) (sym (self_filled s w known))
      (copied_no_filled s (implements n) v.No v.No (only_no_filled f s filling v stays (implements n)) (self_type w) y))

  has_source_filled : (c : Kind) (w : Term) → IsKnown (key c w) → HasSource f A v c w → HasSource f A v c (apply s w)
  has_source_filled c w known h =
      or_map (some_map (proves_filled c w) f.clauses)
      (λ i. (each_map (shadows_not_filled c w known) f.clauses i.0, or_map (some_map (proves_filled c w) f.rules) (copy_yes_filled c w known) i.1)) h

  has_no_source_filled : (c : Kind) (w : Term) → IsKnown (key c w) → HasNoSource f A v c w → HasNoSource f A v c (apply s w)
  has_no_source_filled c w known h = (
    each_map (rule_refuted_filled c w) f.clauses h.0,
    or_map (some_map (shadows_filled c w known) f.clauses)
        (λ i. (each_map (rule_refuted_filled c w) f.rules i.0, copy_no_filled c w known i.1)) h.1,
  )

  still_known : (c : Kind) (w : Term) → IsKnown (key c w) → IsKnown (key c (apply s w))
  still_known c w known = subst IsKnown (sym (key_filled s c w known)) (known_filled s (key c w) known)

  pub yes_at_stays : (c : Kind) (w : Term) → YesAt f A v c w → YesAt f A v c (apply s w)
  yes_at_stays (projects k) w y = (still_known (projects k) w y.0, or_map (itself_filled s (projects k) w) (has_source_filled (projects k) w y.0) y.1)
  yes_at_stays (implements n) w y = (
    still_known (implements n) w y.0,
    or_map (λ h. h) (one_if (is_among f.sized (implements n)) walk (has_source_filled (implements n) w y.0)) y.1,
  )
    where
      Y : Term → Type 0
      Y t = IsKnown (only t) × HasSource f A v (implements n) (only t)

      more : (t : Term) → Y t → Y (apply s t)
      more t h = (known_filled s (only t) h.0, has_source_filled (implements n) (only t) h.0 h.1)

      walk : SizedYes f A Y f.tail (self_type w) → SizedYes f A Y f.tail (self_type (apply s w))
      walk h = subst (SizedYes f A Y f.tail) (sym (self_filled s w y.0)) (sized_yes_filled f s filling A alias_stays Y more f.tail (self_type w) h)

  pub no_at_stays : (c : Kind) (w : Term) → NoAt f A v c w → NoAt f A v c (apply s w)
  no_at_stays (projects k) w y = (still_known (projects k) w y.0, never_itself_filled s filling (projects k) w y.1, has_no_source_filled (projects k) w y.0 y.2)
  no_at_stays (implements n) w y = (
    still_known (implements n) w y.0,
    tt,
    one_if (is_among f.sized (implements n)) walk (has_no_source_filled (implements n) w y.0) y.2,
  )
    where
      Y : Term → Type 0
      Y t = IsKnown (only t) × HasNoSource f A v (implements n) (only t)

      more : (t : Term) → Y t → Y (apply s t)
      more t h = (known_filled s (only t) h.0, has_no_source_filled (implements n) (only t) h.0 h.1)

      walk : SizedNo f A Y f.tail (self_type w) → SizedNo f A Y f.tail (self_type (apply s w))
      walk h = subst (SizedNo f A Y f.tail) (sym (self_filled s w y.0)) (sized_no_filled f s filling A alias_stays Y more f.tail (self_type w) h)

pub next_stays : (f : System) (s : Fill) → IsFilling s → (v : Verdicts) → Stays s v → Stays s (next f v)
next_stays f s filling v h =
    let A = alias_next f v in let stays = alias_next_stays f s filling v h in
    record {
      yes = λ g y. (apply s y.0, reads_as_filled s A filling stays g.parts y.0 y.1, yes_at_stays f s filling v h A stays g.kind y.0 y.2);
      no = λ g y. (apply s y.0, reads_as_filled s A filling stays g.parts y.0 y.1, no_at_stays f s filling v h A stays g.kind y.0 y.2);
      alias = stays;
    }

cannot_filled : (s : Fill) → IsFilling s → (k : TypeAliasId) (w : Term) (r : Rule) → CannotGive k w r → CannotGive k (apply s w) r
cannot_filled s filling k w r h = or_map (λ i. i) (apart_filled s filling (args_of r.head.parts) w) h

alias_first_stays : (f : System) (s : Fill) → IsFilling s → AliasStays s (alias_first f)
alias_first_stays f s filling k w u a =
    (known_filled s w a.0, each_map (cannot_filled s filling k w) f.clauses a.1, each_map (cannot_filled s filling k w) f.rules a.2, ap (apply s) a.3)

pub first_stays : (f : System) (s : Fill) → IsFilling s → Stays s (first f)
first_stays f s filling =
    let A = alias_first f in let stays = alias_first_stays f s filling in
    let none : Stays s (nothing f) = record { yes = λ g h. h; no = λ g h. h; alias = stays } in
    record {
      yes = λ g y. (apply s y.0, reads_as_filled s A filling stays g.parts y.0 y.1, y.2, yes_at_stays f s filling (nothing f) none A stays g.kind y.0 y.3);
      no = λ g y. (apply s y.0, reads_as_filled s A filling stays g.parts y.0 y.1, y.2, no_at_stays f s filling (nothing f) none A stays g.kind y.0 y.3);
      alias = stays;
    }

pub answers_stay : (f : System) (n : ℕ) (s : Fill) → IsFilling s → Stays s (answers f n)
answers_stay f zero s filling = first_stays f s filling
answers_stay f (suc n) s filling = next_stays f s filling (answers f n) (answers_stay f n s filling)

pub decided_answers_stay : DecidedAnswersStay
decided_answers_stay f n s filling = let h = answers_stay f n s filling in (h.yes, h.no, h.alias)
