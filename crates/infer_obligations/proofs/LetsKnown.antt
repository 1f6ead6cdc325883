-- What a body knows of the associated types that its `let`s are written with, one after another.
use Rattle.std.specs.Prelude.{◌≡◌, ◌<◌, ◌+◌, ◌⊎◌, ℕ, zero, suc, List, [], ◌∷◌, length, slice_get, Option, Some, None}
use Rattle.std.specs.Option.{option_and_then}
use Rattle.std.proofs.Common.{refl, sym, ap, subst, ◌∙◌, inl, inr, arith}
use Rattle.infer_obligations.specs.Words.{DefWithBodyId, Ty, term, RawBody, RawFacts, RawType, let_aliases, Scope, scope_of, lowered, System, IsSystemOf, scope_item, CanStand, IsKnownAs, HoldsPlaceholder, IsAliasKnownAs, AreLetTypes, recorded, put}
use Rattle.infer_obligations.proofs.Words.goal_search.Only.{within}
use Rattle.infer_obligations.proofs.Words.{put-here}
use Rattle.infer_obligations.specs.Own.{AreNoted, NotesAlias}

-- ---- a list that grows where something is noted

recorded_put : (xs : List (Option Ty)) (n m : ℕ) (a : Ty) → (recorded (put xs n a) m ≡ recorded xs m) ⊎ (m ≡ n)
recorded_put [] zero zero a = inr refl
recorded_put [] zero (suc m) a = inl refl
recorded_put [] (suc n) zero a = inl refl
recorded_put [] (suc n) (suc m) a = elim (recorded_put [] n m a) [ inl k ↦ inl k | inr e ↦ inr (ap suc e) ]
recorded_put (o ∷ xs) zero zero a = inr refl
recorded_put (o ∷ xs) zero (suc m) a = inl refl
recorded_put (o ∷ xs) (suc n) zero a = inl refl
recorded_put (o ∷ xs) (suc n) (suc m) a = elim (recorded_put xs n m a) [ inl k ↦ inl k | inr e ↦ inr (ap suc e) ]

put_recorded : (xs : List (Option Ty)) (n : ℕ) (a : Ty) → recorded (put xs n a) n ≡ Some a
put_recorded xs n a = ap (option_and_then (λ x. x)) (put-here xs n a)

-- ---- one type

module _ (sc : Scope) (f : System) (n : ℕ) (types : List RawType) where
  abbrev Knows : ℕ → Option Ty → Type 0
  Knows k o = IsAliasKnownAs sc f n (lowered types k) o

  pub none_noted : AreNoted sc f n types []
  none_noted k t is = absurd (cc)

  -- what it is, is noted
  noted_at : (k : ℕ) (u : Ty) (old : List (Option Ty)) → AreNoted sc f n types old → Knows k (Some u) → NotesAlias sc f n types k old (put old k u)
  noted_at k u old before known =
      let here : Knows k (recorded (put old k u) k) = subst (Knows k) (sym (put_recorded old k u)) known in
      record {
        noted = λ j t is. elim (recorded_put old k j u) [
          | inl same ↦ before j t (sym same ∙ is)
          | inr e ↦ subst (λ i. Knows i (Some t)) (sym e) (subst (Knows k) (sym (ap (recorded (put old k u)) e) ∙ is) here)
        ];
        here = here;
        kept = λ j was. elim (recorded_put old k j u) [
          | inl same ↦ subst (Knows j) (sym same) was
          | inr e ↦ subst (λ i. Knows i (recorded (put old k u) i)) (sym e) here
        ];
      }

  pub read_noted : (k : ℕ) (t u : Ty) (old new : List (Option Ty)) → AreNoted sc f n types old → new ≡ put old k u → t ≡ lowered types k → (HoldsPlaceholder (term t) → ⊥) → IsKnownAs sc f n t (Some u) → NotesAlias sc f n types k old new
  read_noted k t u old new before made written none known = subst (NotesAlias sc f n types k old) (sym made) (noted_at k u old before (subst (λ v. IsAliasKnownAs sc f n v (Some u)) written (none, known)))

  -- where nothing is known of it, what was noted stays
  noted_by : (k : ℕ) (old : List (Option Ty)) → AreNoted sc f n types old → Knows k None → (o : Option Ty) → recorded old k ≡ o → Knows k o
  noted_by k old before unknown None is = unknown
  noted_by k old before unknown (Some t) is = before k t is

  pub none_read : (k : ℕ) (t : Ty) (old new : List (Option Ty)) → AreNoted sc f n types old → new ≡ old → t ≡ lowered types k → IsAliasKnownAs sc f n t None → NotesAlias sc f n types k old new
  none_read k t old new before same written unknown = subst (NotesAlias sc f n types k old) (sym same) (record {
    noted = before;
    here = noted_by k old before (subst (λ v. IsAliasKnownAs sc f n v None) written unknown) (recorded old k) refl;
    kept = λ j was. was;
  })

  -- ---- the first i of them

  pub record AreNotedTo (Of : Type 0) (ks : List ℕ) (i : ℕ) (known : List (Option Ty)) : Type 0 where
    pub noted : AreNoted sc f n types known
    pub each : (j k : ℕ) → j < i → slice_get ks j ≡ Some k → Knows k (recorded known k)
    pub none : i ≡ 0 → known ≡ []
    pub of_item : 0 < i → Of

  pub notes_none : (Of : Type 0) (ks : List ℕ) → AreNotedTo Of ks 0 []
  notes_none Of ks = record { noted = none_noted; each = λ j k lt at. absurd (omega arith); none = λ _. refl; of_item = λ lt. absurd (omega arith) }

  pub notes_next : (Of : Type 0) (ks : List ℕ) (i k : ℕ) (old new : List (Option Ty)) → slice_get ks i ≡ Some k → AreNotedTo Of ks i old → Of → NotesAlias sc f n types k old new → AreNotedTo Of ks (i + 1) new
  notes_next Of ks i k old new at so_far of next = record {
    noted = next.noted;
    each = λ j m lt there. elim (last_or_before j i lt) [
      | inl before ↦ next.kept m (so_far.each j m before there)
      | inr e ↦ (let both : Some k ≡ Some m = sym at ∙ (ap (slice_get ks) (sym e) ∙ there) in let same : k ≡ m = cc in subst (λ l. Knows l (recorded new l)) same next.here)
    ];
    none = λ e. absurd (omega arith);
    of_item = λ _. of;
  }
    where
      last_or_before : (a b : ℕ) → a < b + 1 → (a < b) ⊎ (a ≡ b)
      last_or_before a b lt = grind (arith, lt)

-- ---- all of them

stands : (sc : Scope) (f : System) (n : ℕ) (t u : Ty) → IsAliasKnownAs sc f n t (Some u) → CanStand sc u
stands sc f n t u h = h.1.1

pub all_noted : (raw : RawFacts) (d : DefWithBodyId) (b : RawBody) (f : System) (ks : List ℕ) (i : ℕ) (known : List (Option Ty)) → ks ≡ let_aliases raw.types b → i ≡ length ks
    → AreNotedTo (scope_of raw d) f raw.limits.goal_depth raw.types (IsSystemOf raw (scope_item raw d) f) ks i known → AreLetTypes raw d b known
all_noted raw d b f ks i known are all so_far = record {
  none = λ none. (let empty : ks ≡ [] = are ∙ none in so_far.none (all ∙ ap (λ (ls : List ℕ). length ls) empty));
  read = λ some. record {
    sources = f;
    of_item = so_far.of_item (some_read ks refl some);
    each = λ j k at.
        (let here : slice_get ks j ≡ Some k = ap (λ (ls : List ℕ). slice_get ls j) are ∙ at in
        let inside : j < length ks = within ks j k here in
        so_far.each j k (omega (arith, inside, all)) here);
  };
  stand = λ k t is. stands (scope_of raw d) f raw.limits.goal_depth (lowered raw.types k) t (so_far.noted k t is);
}
  where
    some_read : (ls : List ℕ) → ks ≡ ls → (let_aliases raw.types b ≡ [] → ⊥) → 0 < i
    some_read [] is some = absurd (some (sym are ∙ is))
    some_read (l ∷ ls) is some = (let more : length ks ≡ suc (length ls) = ap (λ (ms : List ℕ). length ms) is in omega (arith, more, all))
