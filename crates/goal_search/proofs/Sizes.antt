-- What has a size because a source of one of several traits says so.
use Rattle.std.proofs.Common.{◌≡◌, ◌⊎◌, inl, inr, ℕ, zero, suc, ◌+◌, ◌<◌, refl, subst, arith, List, [], ◌∷◌, length, take, get_or, Option, Some, None}
use Rattle.goal_search.specs.Words.{TraitId, Term, hole, Aliases, ReadsAs, Kind, implements, System, IsKnown, only, Each, SomeOf, Verdicts, Tail, has_size, has_none, field, last, asked, unclear_tail, tail_of, SizedYes, HasSource, answers, known_below}
use Rattle.goal_search.proofs.Words.{or_map, some_map, each_more, some_at, none_of, reads_one, SizedYesBy, sized_yes_more, sized_or, source_or_none, level}
use Rattle.goal_search.specs.Own.{Answer, IsSaid, IsDenied, IsSizedBy, WalkIs, IsSizedAt}
use Rattle.goal_search.specs.declared.answer.Answer.TheVariants as answer

same_at : {X : Type 0} (xs : List X) (i : ℕ) (d : X) → i < length xs → get_or xs i d ≡ get_or xs i (get_or xs i d)
same_at [] i d h = absurd (omega arith)
same_at (x ∷ xs) zero d h = refl
same_at (x ∷ xs) (suc i) d h = same_at xs i d (omega arith)

-- a walk asks once at most
module _ (f : System) (A : Aliases) {X : Type 0} (P : X → Term → Type 0) (xs : List X) where
  abbrev OfSome : Term → Type 0
  OfSome t = SomeOf (λ x. P x t) xs

  some_sized : (n : ℕ) (t : Term) → SizedYes f A OfSome n t → SizedYes f A (λ u. ⊥) n t ⊎ SomeOf (λ x. SizedYes f A (P x) n t) xs
  some_sized zero t y = inl tt
  some_sized (suc n) t y = by_tail (tail_of f t) (some_sized n) y
    where
      by_tail : (x : Tail) → ((u : Term) → SizedYes f A OfSome n u → SizedYes f A (λ v. ⊥) n u ⊎ SomeOf (λ z. SizedYes f A (P z) n u) xs) → SizedYesBy f A OfSome n t x → SizedYesBy f A (λ v. ⊥) n t x ⊎ SomeOf (λ z. SizedYesBy f A (P z) n t x) xs
      by_tail has_size on y = inl tt
      by_tail has_none on y = absurd y
      by_tail (field u args) on y = or_map (λ z. (y.0, y.1, y.2, y.3, z)) (some_map (λ x z. (y.0, y.1, y.2, y.3, z)) xs) (on y.1 y.4)
      by_tail (last ts) on y = or_map (λ z. (y.0, y.1, z)) (some_map (λ x z. (y.0, y.1, z)) xs) (on y.0 y.2)
      by_tail asked on y = inr y
      by_tail unclear_tail on y = absurd y

module _ (f : System) (n : ℕ) where
  abbrev A : Aliases
  A = (answers f n).Alias

  abbrev v : Verdicts
  v = known_below f n

  said_or_denied : (o : Option Kind) (t : Term) → IsSaid f n o t → IsDenied f n o t → ⊥
  said_or_denied None t y x = y
  said_or_denied (Some c) t y x = source_or_none f v (level f n n).never (level f n n).stays A (level f n n).one (level f n n).alias_stays c (only t) y.1 x.1

  -- the answer is another
  pub walk_not : (o : Option Kind) (left : ℕ) (t : Term) (a : Answer) → WalkIs f n o left t a → (a ≡ answer.Yes → ⊥) → IsSizedBy f n o left t → ⊥
  walk_not o left t answer.Yes d other y = other refl
  walk_not o left t answer.No d other y = sized_or f A (level f n n).one (IsSaid f n o) (IsDenied f n o) (said_or_denied o) left t y d
  walk_not o left t answer.Undecided d other y = d.0 y

  abbrev SaidBySome : Term → Type 0
  SaidBySome x = IsKnown (only x) × SomeOf (λ id. HasSource f A v (implements id) (only x)) f.sized

  abbrev SaidBy : TraitId → Term → Type 0
  SaidBy id x = IsSaid f n (Some (implements id)) x

  abbrev ByOne : Term → TraitId → Type 0
  ByOne u id = IsSizedBy f n (Some (implements id)) f.tail u

  -- the trait at this place says so, or no more than those before
  pub by_none_so_far : (u : Term) (i : ℕ) (d : TraitId) → i < length f.sized → (a : Answer) → WalkIs f n (Some (implements (get_or f.sized i d))) f.tail u a → (a ≡ answer.Yes → ⊥) →
      Each (λ id. ByOne u id → ⊥) (take i f.sized) → Each (λ id. ByOne u id → ⊥) (take (i + 1) f.sized)
  by_none_so_far u i d within a w other before =
      let id = get_or f.sized i d in
      each_more (λ j. ByOne u j → ⊥) f.sized i id within (same_at f.sized i d within) before (walk_not (Some (implements id)) f.tail u a w other)

  module _ (t u : Term) (r : ReadsAs A t u) where
    pub sized_by_none : (a : Answer) → WalkIs f n None f.tail u a → a ≡ answer.Yes → IsSizedAt f n t
    sized_by_none a w e = (u, r, sized_yes_more f A A (λ k x y h. h) (IsSaid f n None) SaidBySome (λ x h. absurd h) f.tail u (subst (WalkIs f n None f.tail u) e w))

    pub sized_by_one : (i : ℕ) (d : TraitId) → i < length f.sized → (a : Answer) → WalkIs f n (Some (implements (get_or f.sized i d))) f.tail u a → a ≡ answer.Yes → IsSizedAt f n t
    sized_by_one i d within a w e =
        let id = get_or f.sized i d in
        let some : (x : Term) → SaidBy id x → SaidBySome x = λ x h. (h.0, some_at (λ j. HasSource f A v (implements j) (only x)) f.sized i id within (same_at f.sized i d within) h.1) in
        (u, r, sized_yes_more f A A (λ k x y h. h) (SaidBy id) SaidBySome some f.tail u (subst (WalkIs f n (Some (implements id)) f.tail u) e w))

    pub sized_by_neither : (IsSizedBy f n None f.tail u → ⊥) → Each (λ id. ByOne u id → ⊥) f.sized → IsSizedAt f n t → ⊥
    sized_by_neither none each (w, reads, y) = by_either (some_sized f A SaidBy f.sized f.tail u (sized_yes_more f A A (λ k w x h. h) SaidBySome (λ x. SomeOf (λ id. SaidBy id x) f.sized) (λ x h. some_map (λ id s. (h.0, s)) f.sized h.1) f.tail u here))
      where
        here : SizedYes f A SaidBySome f.tail u
        here = subst (SizedYes f A SaidBySome f.tail) (reads_one A (level f n n).one hole t w u reads r) y

        by_either : SizedYes f A (λ x. ⊥) f.tail u ⊎ SomeOf (λ id. SizedYes f A (SaidBy id) f.tail u) f.sized → ⊥
        by_either (inl z) = none z
        by_either (inr z) = none_of (ByOne u) f.sized each z
