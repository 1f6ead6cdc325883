-- The lowest number at which each binding is bound, mention by mention.
use Rattle.std.proofs.Common.{◌≡◌, ◌⊎◌, inl, inr, ◌<◌, ◌+◌, ℕ, List, length, get_or, Option, Some, None, sym, ◌∙◌, subst, arith, replicate}
use Rattle.std.specs.Prelude.{slice_get, slice_set, slice_index, IsTrue, ◌↔◌}
use Rattle.std.proofs.lemmas.List.{get_or-set_same, get_or-set_other, length-set, length-replicate, get_or-replicate}
use Rattle.std.proofs.lemmas.Bool.Decides.{eqb_tells}
use Rattle.std.proofs.lemmas.Bool.{cases_lt, ltb-true, lt-ltb}
use Rattle.std.proofs.lemmas.Option.{slice_get-get_or}
use Rattle.std.proofs.Math.Nat.{eq-or-lt_of_le}
use Rattle.hir_laws.specs.Words.{Said}
use Rattle.hir_laws.specs.Own.{binding_bound, and_number, comes_before, IsBoundBelow, AreFirsts}

lower_or : (o : Option ℕ) (m number : ℕ) → IsTrue (comes_before (Some (and_number o m)) number) ↔ (IsTrue (comes_before o number) ⊎ (m < number))
lower_or None m number = (λ t. inr (ltb-true _ _ t), λ h. elim h [ inl none ↦ cc | inr lt ↦ lt-ltb _ _ lt ])
lower_or (Some j) m number = (
  λ t. elim (cases_lt m number) [ inl lt ↦ inr lt | inr ge ↦ inl (lt-ltb _ _ (let low = ltb-true _ _ t in omega (arith, low, ge))) ],
  λ h. elim h [ inl t ↦ lt-ltb _ _ (let low = ltb-true _ _ t in omega (arith, low)) | inr lt ↦ lt-ltb _ _ (omega (arith, lt)) ],
)

module _ (starts : List ℕ) (ss : List Said) where
  -- entry k of the first n + 1 is entry n, or one before
  last_or_before : (n k : ℕ) (s t : Said) → slice_get ss n ≡ Some s → k < n + 1 → slice_get ss k ≡ Some t → (t ≡ s) ⊎ (k < n)
  last_or_before n k s t here lt at = elim (eq-or-lt_of_le {n = k} {m = n} (omega (arith, lt))) [
    | inl e ↦ inl (let at_n : slice_get ss n ≡ Some t = rw e at at in cc)
    | inr l ↦ inr l
  ]

  sooner : (n v number : ℕ) → IsBoundBelow starts ss n v number → IsBoundBelow starts ss (n + 1) v number
  sooner n v number h = (h.0, h.1, (let lt = h.2 in omega (arith, lt)), h.3, h.4, h.5)

  -- entry n does not bind v
  below_kept : (n v number : ℕ) (s : Said) → slice_get ss n ≡ Some s → (binding_bound s.mention ≡ Some v → ⊥) → IsBoundBelow starts ss (n + 1) v number → IsBoundBelow starts ss n v number
  below_kept n v number s here other h = elim (last_or_before n h.0 s h.1 here h.2 h.3) [
    | inl same ↦ absurd (other (subst (λ x. binding_bound x.mention ≡ Some v) same h.4))
    | inr l ↦ (h.0, h.1, l, h.3, h.4, h.5)
  ]

  -- entry n binds v
  below_more : (n v number : ℕ) (s : Said) → IsBoundBelow starts ss (n + 1) v number → slice_get ss n ≡ Some s → IsBoundBelow starts ss n v number ⊎ (slice_index starts s.node < number)
  below_more n v number s h here = elim (last_or_before n h.0 s h.1 here h.2 h.3) [
    | inl same ↦ inr (subst (λ x. slice_index starts x.node < number) same h.5)
    | inr l ↦ inl (h.0, h.1, l, h.3, h.4, h.5)
  ]

  abbrev Tells : ℕ → ℕ → Option ℕ → Type 0
  Tells n v o = (number : ℕ) → IsTrue (comes_before o number) ↔ IsBoundBelow starts ss n v number

  first_kept : (n v : ℕ) (s : Said) (o : Option ℕ) → slice_get ss n ≡ Some s → (binding_bound s.mention ≡ Some v → ⊥) → Tells n v o → Tells (n + 1) v o
  first_kept n v s o here other h number = (λ t. sooner n v number ((h number).0 t), λ x. (h number).1 (below_kept n v number s here other x))

  first_more : (n v m : ℕ) (s : Said) (o : Option ℕ) → slice_get ss n ≡ Some s → binding_bound s.mention ≡ Some v → m ≡ slice_index starts s.node → Tells n v o → Tells (n + 1) v (Some (and_number o m))
  first_more n v m s o here binds is h number = (
    λ t. elim ((lower_or o m number).0 t) [
      | inl before ↦ sooner n v number ((h number).0 before)
      | inr lt ↦ (n, s, omega arith, here, binds, subst (λ j. j < number) is lt)
    ],
    λ x. (lower_or o m number).1 (elim (below_more n v number s x here) [
      | inl before ↦ inl ((h number).1 before)
      | inr lt ↦ inr (subst (λ j. j < number) (sym is) lt)
    ]),
  )

  pub firsts_none : (count : ℕ) (xs : List (Option ℕ)) → xs ≡ replicate count None → AreFirsts starts ss 0 count xs
  firsts_none count xs e = record {
    size = rw e (length-replicate count None);
    each = λ v lt number. rw (e, get_or-replicate {A = Option ℕ} count v None None lt) (λ t. cc, λ h. (let below = h.2 in absurd (omega (arith, below))));
  }

  pub firsts_kept : (n count : ℕ) (d : Said) (xs : List (Option ℕ)) → AreFirsts starts ss n count xs → n < length ss → binding_bound (get_or ss n d).mention ≡ None → AreFirsts starts ss (n + 1) count xs
  firsts_kept n count d xs h lt none = record {
    size = h.size;
    each = λ v below. first_kept n v (get_or ss n d) (get_or xs v None) (slice_get-get_or ss n d lt) (λ is. (let e = sym is ∙ none in cc)) (h.each v below);
  }

  pub firsts_more : (n count v m : ℕ) (d : Said) (xs ys : List (Option ℕ)) → AreFirsts starts ss n count xs → n < length ss → binding_bound (get_or ss n d).mention ≡ Some v → m ≡ slice_index starts (get_or ss n d).node
      → ys ≡ slice_set xs v (Some (and_number (get_or xs v None) m)) → AreFirsts starts ss (n + 1) count ys
  firsts_more n count v m d xs ys h lt binds numbered is =
      let here : slice_get ss n ≡ Some (get_or ss n d) = slice_get-get_or ss n d lt in
      let new : Option ℕ = Some (and_number (get_or xs v None) m) in
      record {
        size = rw (is, length-set xs v new) h.size;
        each = λ t below. rw is (elim (eqb_tells t v) [
          | inl e ↦ (let within : v < length xs = rw (h.size, ← e.1) below in
              rw (e.1, get_or-set_same xs v new None within) (first_more n v m (get_or ss n d) (get_or xs v None) here binds numbered (h.each v (rw (← e.1) below))))
          | inr e ↦ rw (get_or-set_other xs v t new None e.1) (first_kept n t (get_or ss n d) (get_or xs t None) here (λ q. e.1 (let both : Some t ≡ Some v = sym q ∙ binds in cc)) (h.each t below))
        ]);
      }
