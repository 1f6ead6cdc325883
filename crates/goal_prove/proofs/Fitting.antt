-- What the sources of a goal that is read tell of a goal that reads so.
use Rattle.std.specs.Prelude.{◌≡◌, ◌⊎◌, ◌≤◌, ℕ, zero, suc, Bool, true, false, List, [], refl}
use Rattle.std.proofs.Common.{inl, inr, sym, subst, arith}
use Rattle.goal_prove.specs.Words.{TraitId, GenericDefId, Goal, Term, RawFacts, Fill, IsFilling, Aliases, Reads, ReadsAs, Kind, implements, projects, Asked, Rule, System, asked_at, key, only, self_type, IsKnown, is_among, OneIf, Each, SomeOf, Verdicts, Proves, Shadows, ShadowsNot, IsItself, HasSource, YesAt, nothing, answers, SizedYes, CopyYes, IsDeep, known_below, filled_goal, IsUnshadowed, MayHaveSource, IsSystemOf}
use Rattle.goal_prove.proofs.Words.{each_map, each_with, some_each, reads_within, IsWithin, yes_at_more, level, key_tells, not_refuted, answers_sound, answers_are_one, within, IsClosedFact}
use Rattle.goal_prove.specs.Own.{deep_alias, ReadsTo, IsAsked, IsFree, FitsNot, IsSourced}
use Rattle.goal_prove.proofs.Aliases.{clauses_closed}

not_known : (f : System) (m : ℕ) → IsWithin (known_below f zero) (answers f m)
not_known f m = record { yes = λ g h. absurd h; no = λ g h. absurd h; alias = (within f zero m (omega arith)).alias }

-- what is known below a depth is known below a greater one
pub below_within : (f : System) (n m : ℕ) → n ≤ m → IsWithin (known_below f n) (known_below f m)
below_within f zero zero le = record { yes = λ g h. h; no = λ g h. h; alias = λ k w u h. h }
below_within f zero (suc m) le = not_known f m
below_within f (suc n) zero le = absurd (omega (arith, le))
below_within f (suc n) (suc m) le = within f n m (omega (arith, le))

-- a goal about such a trait is no projection
pub trait_not_itself : (ts : List TraitId) (c : Kind) (w : Term) → is_among ts c ≡ true → IsItself c w → ⊥
trait_not_itself ts (implements t) w e i = i
trait_not_itself ts (projects k) w e i = cc

module _ (raw : RawFacts) (item : GenericDefId) (f : System) (of : IsSystemOf raw item f) (n : ℕ) (le : n ≤ raw.limits.goal_depth) (c : Kind) (w : Term) (asked : IsAsked raw f n c w) where
  abbrev deep : ℕ
  deep = raw.limits.goal_depth

  abbrev P : Aliases
  P = deep_alias raw f

  abbrev A : Aliases
  A = (answers f n).Alias

  abbrev v : Verdicts
  v = known_below f n

  more : (p : Fill) (t u : Term) → Reads A p t u → Reads P p t u
  more p t u r = reads_within A P (within f n deep le).alias p t u r

  -- ---- no clause is about it

  module _ (unfit : Each (FitsNot P (known_below f deep) c w) f.clauses) where
    no_clause : (r : Rule) → IsClosedFact r → FitsNot P (known_below f deep) c w r → Proves A v.Yes c w r → ⊥
    no_clause r closed h p = h p.kind p.at (record { told = p.told; part = more p.at r.head.parts w p.head; preds = subst (Each (λ q. (known_below f deep).Yes (asked_at p.at q))) (sym closed.preds) tt })

    both : Each (λ r. IsClosedFact r × FitsNot P (known_below f deep) c w r) f.clauses
    both = each_with {P = FitsNot P (known_below f deep) c w} {Q = λ r. IsClosedFact r × FitsNot P (known_below f deep) c w r} {T = IsClosedFact} (λ r x y. (x, y)) f.clauses (clauses_closed raw item f of) unfit

    by_clauses : SomeOf (Proves A v.Yes c w) f.clauses → ⊥
    by_clauses h = some_each (λ r p b. no_clause r b.0 b.1 p) f.clauses h both

    shadowed_not : (r : Rule) → ShadowsNot A v c w r → Shadows P c w r → ⊥
    shadowed_not r (inl m) h = m h.kind
    shadowed_not r (inr m) h =
        let l = level f n n in
        not_refuted v l.stays (λ g. ⊥) (λ g y x. y) A l.alias_stays P (answers_sound f deep).one more r (key c r.head.parts) (key c w) [] h.at (key_tells c r h.kind) h.head tt m

    source_free : HasSource f A v c w → IsFree raw f c w
    source_free (inl h) = absurd (by_clauses h)
    source_free (inr h) = each_map shadowed_not f.clauses h.0

    -- ---- by kinds

    of_trait : (t : _) → c ≡ implements t → (r : Rule) → IsClosedFact r × FitsNot P (known_below f deep) c w r → Shadows P c w r → ⊥
    of_trait t e r (closed, h) s =
        let head : Reads P s.at r.head.parts w = subst (λ x. Reads P s.at (key x r.head.parts) (key x w)) e s.head in
        h s.kind s.at (record { told = s.told; part = head; preds = subst (Each (λ q. (known_below f deep).Yes (asked_at s.at q))) (sym closed.preds) tt })

    -- but one whose two sides are the same, of which a clause may say something else
    free_by : (d : Kind) → c ≡ d → (IsItself d w → ⊥) → YesAt f A v d w → IsFree raw f c w
    free_by (implements t) e other y = each_map (of_trait t e) f.clauses both
    free_by (projects k) e other (known, inl i) = absurd (other i)
    free_by (projects k) e other (known, inr h) = source_free (subst (λ d. HasSource f A v d w) (sym e) h)

    pub free : (IsItself c w → ⊥) → IsFree raw f c w
    free other = free_by c refl other asked.yes

    -- ---- what is left to prove it

    by_size : (b : Bool) → b ≡ false → OneIf b (SizedYes f A (λ t. IsKnown (only t) × HasSource f A v c (only t)) f.tail (self_type w)) (HasSource f A v c w) → HasSource f A v c w
    by_size true e h = cc
    by_size false e h = h

    source_is : HasSource f A v c w → SomeOf (Proves A v.Yes c w) f.rules ⊎ CopyYes f v.Yes c w
    source_is (inl h) = absurd (by_clauses h)
    source_is (inr h) = h.1

    source_by : is_among f.sized c ≡ false → (IsItself c w → ⊥) → YesAt f A v c w → SomeOf (Proves A v.Yes c w) f.rules ⊎ CopyYes f v.Yes c w
    source_by unsized other (known, inl i) = absurd (other i)
    source_by unsized other (known, inr h) = source_is (by_size (is_among f.sized c) unsized h)

    pub sourced : is_among f.sized c ≡ false → (IsItself c w → ⊥) → IsSourced raw f n c w
    sourced unsized other = record { free = free other; unsized = unsized; source = source_by unsized other asked.yes }

  -- ---- a goal that reads so

  module _ (g : Goal) (reads_to : ReadsTo raw f g c w) where
    -- its answer is Yes as far as goals may be followed
    deep_yes : (m : ℕ) → n ≤ m → (g : Asked) → g.kind ≡ c → ReadsAs (answers f m).Alias g.parts w → (answers f m).Yes g
    deep_yes zero le g e reads =
        let here : n ≡ zero = omega (arith, le) in
        let all = subst (λ (i : ℕ). YesAt f (answers f i).Alias (known_below f i) c w) here asked.yes in
        (w, reads, subst (λ d. is_among f.sized d ≡ true) (sym e) (shallow n here asked.deep), subst (λ d. YesAt f (answers f zero).Alias (nothing f) d w) (sym e) all)
      where
        shallow : (i : ℕ) → i ≡ zero → IsDeep i ⊎ (is_among f.sized c ≡ true) → is_among f.sized c ≡ true
        shallow zero z (inl h) = absurd h
        shallow zero z (inr h) = h
        shallow (suc i) z h = absurd (omega (arith, z))
    deep_yes (suc m) le g e reads = (
      w,
      reads,
      subst (λ d. YesAt f (answers f (suc m)).Alias (known_below f (suc m)) d w) (sym e)
          (yes_at_more (known_below f n) (known_below f (suc m)) (below_within f n (suc m) le) (answers f n).Alias (answers f (suc m)).Alias (within f n (suc m) le).alias f c w asked.yes),
    )

    module _ (s : Fill) (filling : IsFilling s) where
      abbrev here : Asked
      here = filled_goal s g

      reads : ReadsAs P here.parts w
      reads = reads_to.reads s filling

      pub yes_here : (answers f deep).Yes here
      yes_here = deep_yes deep le here reads_to.kind reads

      pub may_here : MayHaveSource raw f here
      may_here sized denied = (answers_are_one f deep deep).0 here yes_here denied

      pub unshadowed_here : IsFree raw f c w → IsUnshadowed f P here
      unshadowed_here h = (w, reads, subst (λ d. IsFree raw f d w) (sym reads_to.kind) h)
