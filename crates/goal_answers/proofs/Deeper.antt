-- What is answered stays at greater depth: all definitions are positive in what is known at the depth below.
use Rattle.std.proofs.Common.{◌≡◌, inl, inr, ℕ, zero, suc, ◌+◌, subst, arith, List, []}
use Rattle.goal_answers.specs.Words.{TypeAliasId, Term, hole, apply}
use Rattle.goal_answers.specs.Own.{Aliases, Kind, Asked, Rule, System, asked_at, args_of, type_of, key, IsKnown, self_type, only, is_among, Verdicts, types_of, Copied, with_parts, by_impls, unclear, copied, CopyYes, CopyNo, Tail, has_size, has_none, field, last, asked, unclear_tail, tail_of, SizedYes, SizedNo, IsRefuted, Gives, GivesNone, alias_next, CannotGive, alias_first, Proves, RuleIsRefuted, Shadows, ShadowsNot, HasSource, HasNoSource, YesAt, NoAt, next, nothing, first, answers, DeeperAnswersAgree}
use Rattle.goal_answers.proofs.Lists.{one_if, each_map, some_map, one_map, or_map}
use Rattle.goal_answers.proofs.Parts.{each_type, some_type}
use Rattle.goal_answers.proofs.Readings.{AliasWithin, reads_within}
use Rattle.goal_answers.proofs.Filled.{CopyYesBy, CopyNoBy, SizedYesBy, SizedNoBy}

-- what is known by one is known by the other
pub record IsWithin (v w : Verdicts) : Type 0 where
  pub yes : (g : Asked) → v.Yes g → w.Yes g
  pub no : (g : Asked) → v.No g → w.No g
  pub alias : AliasWithin v.Alias w.Alias

pub within_itself : (v : Verdicts) → IsWithin v v
within_itself v = record { yes = λ g h. h; no = λ g h. h; alias = λ k w u h. h }

pub within_twice : (u v w : Verdicts) → IsWithin u v → IsWithin v w → IsWithin u w
within_twice u v w i j = record { yes = λ g h. j.yes g (i.yes g h); no = λ g h. j.no g (i.no g h); alias = λ k x y h. j.alias k x y (i.alias k x y h) }

-- ---- rows

pub copy_yes_more : (f : System) (Y Z : Asked → Type 0) → ((g : Asked) → Y g → Z g) → (c : Kind) (w : Term) → CopyYes f Y c w → CopyYes f Z c w
copy_yes_more f Y Z more c w y = (y.0, by_copied (copied (self_type w)) y.1)
  where
    by_copied : (x : Copied) → CopyYesBy Y c x → CopyYesBy Z c x
    by_copied (with_parts ts) y = each_type (λ t h. more (record { kind = c; parts = only t }) h) (types_of ts) y
    by_copied by_impls y = y
    by_copied unclear y = y

pub copy_no_more : (f : System) (Y Z : Asked → Type 0) → ((g : Asked) → Y g → Z g) → (c : Kind) (w : Term) → CopyNo f Y c w → CopyNo f Z c w
copy_no_more f Y Z more c w (inl n) = inl n
copy_no_more f Y Z more c w (inr y) = inr (by_copied (copied (self_type w)) y)
  where
    by_copied : (x : Copied) → CopyNoBy Y c x → CopyNoBy Z c x
    by_copied (with_parts ts) y = some_type (λ t h. more (record { kind = c; parts = only t }) h) (types_of ts) y
    by_copied by_impls y = y
    by_copied unclear y = y

module _ (f : System) (A B : Aliases) (i : AliasWithin A B) (Y Z : Term → Type 0) (more : (t : Term) → Y t → Z t) where
  pub sized_yes_more : (n : ℕ) (t : Term) → SizedYes f A Y n t → SizedYes f B Z n t
  sized_yes_more zero t y = tt
  sized_yes_more (suc n) t y = by_tail (tail_of f t) (sized_yes_more n) y
    where
      by_tail : (x : Tail) → ((u : Term) → SizedYes f A Y n u → SizedYes f B Z n u) → SizedYesBy f A Y n t x → SizedYesBy f B Z n t x
      by_tail has_size on y = tt
      by_tail has_none on y = absurd y
      by_tail (field u args) on y = (y.0, y.1, y.2, reads_within A B i hole (apply y.0 u) y.1 y.3, on y.1 y.4)
      by_tail (last ts) on y = (y.0, y.1, on y.0 y.2)
      by_tail asked on y = more t y
      by_tail unclear_tail on y = absurd y

  pub sized_no_more : (n : ℕ) (t : Term) → SizedNo f A Y n t → SizedNo f B Z n t
  sized_no_more zero t y = absurd y
  sized_no_more (suc n) t y = by_tail (tail_of f t) (sized_no_more n) y
    where
      by_tail : (x : Tail) → ((u : Term) → SizedNo f A Y n u → SizedNo f B Z n u) → SizedNoBy f A Y n t x → SizedNoBy f B Z n t x
      by_tail has_size on y = absurd y
      by_tail has_none on y = tt
      by_tail (field u args) on y = (y.0, y.1, y.2, reads_within A B i hole (apply y.0 u) y.1 y.3, on y.1 y.4)
      by_tail (last ts) on y = (y.0, y.1, on y.0 y.2)
      by_tail asked on y = more t y
      by_tail unclear_tail on y = absurd y

-- ---- sources

module _ (v w : Verdicts) (within : IsWithin v w) (A B : Aliases) (i : AliasWithin A B) where
  pub refuted_more : (r : Rule) (t : Term) (preds : List Asked) (u : Term) → IsRefuted A v r t preds u → IsRefuted B w r t preds u
  refuted_more r t preds u h = or_map (λ x. x) (λ x. (
    x.0,
    record {
      at = x.1.at;
      general = x.1.general;
      fails = or_map (λ a. (a.0, reads_within A B i x.1.at t a.0 a.1, a.2)) (some_map (λ q n. within.no (asked_at x.1.at q) n) preds) x.1.fails;
    },
  )) h

  pub rule_refuted_more : (c : Kind) (u : Term) (r : Rule) → RuleIsRefuted A v c u r → RuleIsRefuted B w c u r
  rule_refuted_more c u r h = or_map (λ x. x) (refuted_more r r.head.parts r.preds u) h

  pub shadows_not_more : (c : Kind) (u : Term) (r : Rule) → ShadowsNot A v c u r → ShadowsNot B w c u r
  shadows_not_more c u r h = or_map (λ x. x) (refuted_more r (key c r.head.parts) [] (key c u)) h

  proves_more : (c : Kind) (u : Term) (r : Rule) → Proves A v.Yes c u r → Proves B w.Yes c u r
  proves_more c u r h = record {
    kind = h.kind;
    told = h.told;
    at = h.at;
    head = reads_within A B i h.at r.head.parts u h.head;
    preds = each_map (λ q y. within.yes (asked_at h.at q) y) r.preds h.preds;
  }

  pub shadows_more : (c : Kind) (u : Term) (r : Rule) → Shadows A c u r → Shadows B c u r
  shadows_more c u r h = record { kind = h.kind; told = h.told; at = h.at; head = reads_within A B i h.at (key c r.head.parts) (key c u) h.head }

  module _ (f : System) where
    has_source_more : (c : Kind) (u : Term) → HasSource f A v c u → HasSource f B w c u
    has_source_more c u h =
        or_map (some_map (proves_more c u) f.clauses)
        (λ x. (each_map (shadows_not_more c u) f.clauses x.0, or_map (some_map (proves_more c u) f.rules) (copy_yes_more f v.Yes w.Yes within.yes c u) x.1)) h

    has_no_source_more : (c : Kind) (u : Term) → HasNoSource f A v c u → HasNoSource f B w c u
    has_no_source_more c u h = (
      each_map (rule_refuted_more c u) f.clauses h.0,
      or_map (some_map (shadows_more c u) f.clauses)
          (λ x. (each_map (rule_refuted_more c u) f.rules x.0, copy_no_more f v.No w.No within.no c u x.1)) h.1,
    )

    pub yes_at_more : (c : Kind) (u : Term) → YesAt f A v c u → YesAt f B w c u
    yes_at_more c u y = (
      y.0,
      or_map (λ x. x) (one_if (is_among f.sized c)
          (sized_yes_more f A B i (λ t. IsKnown (only t) × HasSource f A v c (only t)) (λ t. IsKnown (only t) × HasSource f B w c (only t)) (λ t h. (h.0, has_source_more c (only t) h.1)) f.tail (self_type u))
          (has_source_more c u)) y.1,
    )

    pub no_at_more : (c : Kind) (u : Term) → NoAt f A v c u → NoAt f B w c u
    no_at_more c u y = (
      y.0,
      y.1,
      one_if (is_among f.sized c)
          (sized_no_more f A B i (λ t. IsKnown (only t) × HasNoSource f A v c (only t)) (λ t. IsKnown (only t) × HasNoSource f B w c (only t)) (λ t h. (h.0, has_no_source_more c (only t) h.1)) f.tail (self_type u))
          (has_no_source_more c u) y.2,
    )

module _ (f : System) (v w : Verdicts) (within : IsWithin v w) where
  gives_more : (k : TypeAliasId) (x u : Term) (r : Rule) → Gives v k x u r → Gives w k x u r
  gives_more k x u r g = record {
    kind = g.kind;
    told = g.told;
    at = g.at;
    args = reads_within v.Alias w.Alias within.alias g.at (args_of r.head.parts) x g.args;
    type = reads_within v.Alias w.Alias within.alias g.at (type_of r.head.parts) u g.type;
    preds = each_map (λ q y. within.yes (asked_at g.at q) y) r.preds g.preds;
  }

  gives_none_more : (k : TypeAliasId) (x : Term) (r : Rule) → GivesNone v k x r → GivesNone w k x r
  gives_none_more k x r g = or_map (λ h. h) (refuted_more v w within v.Alias w.Alias within.alias r (args_of r.head.parts) r.preds x) g

  pub alias_next_within : AliasWithin (alias_next f v) (alias_next f w)
  alias_next_within k x u a = (
    a.0,
    or_map (one_map (gives_more k x u) (gives_none_more k x) f.clauses)
        (λ h. (each_map (gives_none_more k x) f.clauses h.0, or_map (one_map (gives_more k x u) (gives_none_more k x) f.rules) (λ i. (each_map (gives_none_more k x) f.rules i.0, i.1)) h.1)) a.1,
  )

pub next_within : (f : System) (v w : Verdicts) → IsWithin v w → IsWithin (next f v) (next f w)
next_within f v w i =
    let A = alias_next f v in let B = alias_next f w in let j = alias_next_within f v w i in
    record {
      yes = λ g y. (y.0, reads_within A B j hole g.parts y.0 y.1, yes_at_more v w i A B j f g.kind y.0 y.2);
      no = λ g y. (y.0, reads_within A B j hole g.parts y.0 y.1, no_at_more v w i A B j f g.kind y.0 y.2);
      alias = j;
    }

-- ---- the first step

nothing_within : (f : System) (w : Verdicts) → AliasWithin (alias_first f) w.Alias → IsWithin (nothing f) w
nothing_within f w i = record { yes = λ g h. absurd h; no = λ g h. absurd h; alias = i }

cannot_is_none : (v : Verdicts) (k : TypeAliasId) (w : Term) (r : Rule) → CannotGive k w r → GivesNone v k w r
cannot_is_none v k w r h = or_map (λ i. i) (λ m. inl m) h

-- what no source could give at depth 0 stays
first_alias_within : (f : System) (v : Verdicts) → AliasWithin (alias_first f) (alias_next f v)
first_alias_within f v k w u a = (a.0, inr (each_map (cannot_is_none v k w) f.clauses a.1, inr (each_map (cannot_is_none v k w) f.rules a.2, a.3)))

first_within : (f : System) → IsWithin (first f) (next f (first f))
first_within f =
    let A = alias_first f in let B = alias_next f (first f) in let j = first_alias_within f (first f) in
    let i = nothing_within f (first f) (λ k w u a. a) in
    record {
      yes = λ g y. (y.0, reads_within A B j hole g.parts y.0 y.1, yes_at_more (nothing f) (first f) i A B j f g.kind y.0 y.3);
      no = λ g y. (y.0, reads_within A B j hole g.parts y.0 y.1, no_at_more (nothing f) (first f) i A B j f g.kind y.0 y.3);
      alias = j;
    }

pub one_deeper : (f : System) (n : ℕ) → IsWithin (answers f n) (answers f (suc n))
one_deeper f zero = first_within f
one_deeper f (suc n) = next_within f (answers f n) (answers f (suc n)) (one_deeper f n)

pub deeper : (f : System) (n m : ℕ) → IsWithin (answers f n) (answers f (m + n))
deeper f n zero =
    let e : n ≡ 0 + n = omega arith in
    subst (λ (k : ℕ). IsWithin (answers f n) (answers f k)) e (within_itself (answers f n))
deeper f n (suc m) =
    let all : IsWithin (answers f n) (answers f (suc (m + n))) = within_twice (answers f n) (answers f (m + n)) (answers f (suc (m + n))) (deeper f n m) (one_deeper f (m + n)) in
    let e : suc (m + n) ≡ suc m + n = omega arith in
    subst (λ (k : ℕ). IsWithin (answers f n) (answers f k)) e all

pub deeper_answers_agree : DeeperAnswersAgree
deeper_answers_agree f n m = let h = deeper f n m in (h.yes, h.no, h.alias)
