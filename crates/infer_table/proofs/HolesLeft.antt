-- What the least binding of two terms leaves: no hole comes in but new ones.
use Rattle.std.specs.Prelude.{◌≡◌, ℕ, ◌≤◌, ◌<◌, Bool, true, false, cond, List, [], ◌∷◌, ◌++◌, Option, Some, None}
use Rattle.std.proofs.Common.{◌⊎◌, inl, inr, refl, sym, ap, ◌∙◌, subst, arith, true≢false}
use Rattle.std.proofs.lemmas.Bool.{both_ways, false_from_ne_true, or_cases, cases_lt}
use Rattle.hir_types.specs.declared.head.Head.TheVariants as head
use Rattle.infer_table.specs.Words.{Hole, Term, hole, leaf, pair, apply, occurs, hole_eq, hole_number}
use Rattle.hir_types.specs.declared.head.Hole.TheVariants as hole_of
use Rattle.infer_table.specs.Own.{Binding, Log, log_of, Solves, resolved, found, binds, Free, Triangular, found_binding, hole_eq_true, hole_eq_same, hole_ne, pair_left, pair_right, apply_agree, found_left, none_found, solution, solution_apply, solution_solves, solves_after, resolved_apply, resolved_open, resolved_free, opened, origins, AreOrigins, LogIsBelow, opened_bounds, GrownFrom, first_opened, second_opened, origins_of_both, IsOneOf, AreAmong, AllStand, BindsLeast, HolesAreLeft}
use Rattle.infer_table.proofs.BindingLaws.{found_log_some}

-- ---- an assignment that keeps a term keeps its holes

keeps_hole : (s : Hole → Term) (k : Hole) (w : Term) → apply s w ≡ w → occurs k w ≡ true → s k ≡ hole k
keeps_hole s k (hole j) e o =
    let P : Hole → Type 0 = λ z. s z ≡ hole z in
    subst P (sym (hole_eq_true k j o)) e
keeps_hole s k (leaf h) e o = absurd (true≢false (sym o))
keeps_hole s k (pair a b) e o = elim (or_cases (occurs k a) (occurs k b) o) [
  | inl p ↦ keeps_hole s k a (pair_left e) p
  | inr p ↦ keeps_hole s k b (pair_right e) p
]

-- ---- holes that are not bound

not_bound : (l : Log) (k : Hole) (t : Term) → Free l t → occurs k t ≡ true → found l k ≡ None
not_bound l k t f o = none_found l k (false_from_ne_true (binds l k) (λ b. both_ways (occurs k t) (f k b) o))

not_bound_first : (l m : Log) (k : Hole) → found (l ++ m) k ≡ None → found l k ≡ None
not_bound_first l m k e = go (found l k) refl
  where
    go : (o : Option Term) → found l k ≡ o → found l k ≡ None
    go None f = f
    go (Some u) f = let g = sym e ∙ found_left l m k u f in cc

not_bound_before : (before after : Log) (k : Hole) → GrownFrom before after → found after k ≡ None → found before k ≡ None
not_bound_before before after k g e = not_bound_first before g.0 k (ap (λ (l : Log). found l k) (sym g.1) ∙ e)

bound_below : (n : ℕ) (l : Log) (k : Hole) (u : Term) → LogIsBelow n l → found l k ≡ Some u → hole_number k < n
bound_below n [] k u b e = cc
bound_below n (p ∷ l) k u b e = go (hole_eq k p.0) refl (λ f. bound_below n l k u b.2 f)
  where
    go : (c : Bool) → hole_eq k p.0 ≡ c → (found l k ≡ Some u → hole_number k < n) → hole_number k < n
    go true f r = let P : Hole → Type 0 = λ z. hole_number z < n in subst P (sym (hole_eq_true k p.0 f)) b.0
    go false f r = r (sym (ap (λ (c : Bool). cond c (Some p.1) (found l k)) f) ∙ e)

not_bound_new : (n : ℕ) (l : Log) (k : Hole) → LogIsBelow n l → n ≤ hole_number k → found l k ≡ None
not_bound_new n l k b h = go (found l k) refl
  where
    go : (o : Option Term) → found l k ≡ o → found l k ≡ None
    go None e = e
    go (Some u) e = let m = bound_below n l k u b e in absurd (omega (arith, h, m))

open_from : (bs : List Binding) (k : Hole) → found (log_of bs) k ≡ None → found_binding bs k ≡ None
open_from bs k e = go (found_binding bs k) refl
  where
    go : (o : Option Binding) → found_binding bs k ≡ o → found_binding bs k ≡ None
    go None f = f
    go (Some b) f = let g = sym e ∙ found_log_some bs k b f in cc

-- ---- origins

-- the hole is new, and each hole of its alias stands in one of the two terms
abbrev IsOriginIn : ℕ → Term → Term → ℕ × Term → Type 0
IsOriginIn n t u p = (n ≤ p.0) × ((k : Hole) → occurs k p.1 ≡ true → (occurs k t ≡ true) ⊎ (occurs k u ≡ true))

origin_of : (low high n : ℕ) (t u v : Term) (p : ℕ × Term) (ps : List (ℕ × Term)) → n ≤ low → ((k : Hole) → occurs k v ≡ true → (occurs k t ≡ true) ⊎ (occurs k u ≡ true)) → AreOrigins low high v ps → IsOneOf p ps → IsOriginIn n t u p
origin_of low high n t u v p [] e f h i = absurd i
origin_of low high n t u v p (q ∷ ps) e f h i = elim i [
  | inl r ↦ let P : ℕ × Term → Type 0 = IsOriginIn n t u in subst P (sym r) (omega (arith, e, h.0), λ k o. f k (h.3 k o))
  | inr r ↦ origin_of low high n t u v p ps e f h.4 r
]

one_of_two : (p : ℕ × Term) (ps qs : List (ℕ × Term)) → IsOneOf p (ps ++ qs) → IsOneOf p ps ⊎ IsOneOf p qs
one_of_two p [] qs h = inr h
one_of_two p (q ∷ ps) qs h = elim h [
  | inl e ↦ inl (inl e)
  | inr r ↦ elim (one_of_two p ps qs r) [ inl f ↦ inl (inr f) | inr f ↦ inr f ]
]

origin_of_both : (n : ℕ) (t u : Term) (p : ℕ × Term) → IsOneOf p (origins_of_both n t u) → IsOriginIn n t u p
origin_of_both n t u p h =
    let x = opened_bounds n t in
    let y = opened_bounds (opened n t).1 u in
    let g = x.grows in
    elim (one_of_two p (origins n t) (origins (opened n t).1 u) h) [
      | inl r ↦ origin_of n (opened n t).1 n t u t p (origins n t) (omega arith) (λ k o. inl o) x.origins r
      | inr r ↦ origin_of (opened n t).1 (opened (opened n t).1 u).1 n t u u p (origins (opened n t).1 u) g (λ k o. inr o) y.origins r
    ]

-- ---- a hole that is neither in the two terms nor new

abbrev MayBeLeft : ℕ → Term → Term → Hole → Type 0
MayBeLeft n t u k = (occurs k t ≡ true) ⊎ (occurs k u ≡ true) ⊎ (n ≤ hole_number k)

module _ (n : ℕ) (before after : Log) (t u : Term) (k : Hole) where
  -- the solution of the bindings after, seen from those before, but for this hole, which comes to a leaf
  abbrev put : Hole → Term
  put h = cond (hole_eq k h) (leaf head.End) (solution after h)

  abbrev other : Hole → Term
  other h = apply put (solution before h)

  put_other : (h : Hole) (b : Bool) → hole_eq k h ≡ b → b ≡ false → cond b (leaf head.End) (solution after h) ≡ solution after h
  put_other h true e f = absurd (true≢false f)
  put_other h false e f = refl

  put_here : (b : Bool) → b ≡ true → cond b (leaf head.End) (solution after k) ≡ leaf head.End
  put_here true e = refl
  put_here false e = absurd (true≢false (sym e))

  other_open : (h : Hole) → found before h ≡ None → other h ≡ put h
  other_open h e = ap (apply put) (resolved_open before h e)

  module _ (below : LogIsBelow n before) (free_t : Free before t) (free_u : Free before u) (gone : MayBeLeft n t u k → ⊥) where
    kept_open : (h : Hole) → MayBeLeft n t u h → found before h ≡ None
    kept_open h i = elim i [
      | inl o ↦ not_bound before h t free_t o
      | inr r ↦ elim r [
        | inl o ↦ not_bound before h u free_u o
        | inr o ↦ not_bound_new n before h below o
      ]
    ]

    -- at the holes of the two terms, and at new ones, it is the solution after
    other_kept : (h : Hole) → MayBeLeft n t u h → other h ≡ solution after h
    other_kept h i =
        let e = hole_ne k h (λ q. let P : Hole → Type 0 = MayBeLeft n t u in gone (subst P (sym q) i)) in
        other_open h (kept_open h i) ∙ put_other h (hole_eq k h) refl e

    same_on : (v : Term) → ((h : Hole) → occurs h v ≡ true → MayBeLeft n t u h) → apply other v ≡ apply (solution after) v
    same_on v i = apply_agree other (solution after) v (λ h o. other_kept h (i h o))

    same_first : apply other (first_opened n t) ≡ apply (solution after) (first_opened n t)
    same_first = same_on (first_opened n t) (λ h o. elim ((opened_bounds n t).holes h o) [
      | inl e ↦ inl e
      | inr e ↦ inr (inr e.0)
    ])

    same_second : apply other (second_opened n t u) ≡ apply (solution after) (second_opened n t u)
    same_second =
        let g = (opened_bounds n t).grows in
        same_on (second_opened n t u) (λ h o. elim ((opened_bounds (opened n t).1 u).holes h o) [
          | inl e ↦ inr (inl e)
          | inr e ↦ inr (inr (omega (arith, g, e.0)))
        ])

    stand_too : (ps : List (ℕ × Term)) → AreAmong ps (origins_of_both n t u) → AllStand (solution after) ps → AllStand other ps
    stand_too [] i h = tt
    stand_too (p ∷ ps) i h =
        let o = origin_of_both n t u p i.0 in
        let same : apply other p.1 ≡ apply (solution after) p.1 = same_on p.1 (λ j q. elim (o.1 j q) [ inl r ↦ inl r | inr r ↦ inr (inl r) ]) in
        (other_kept (hole_of.Ty p.0) (inr (inr o.0)) ∙ h.0 ∙ sym same, stand_too ps i.1 h.1)

    module _ (acyclic_before : Triangular before) (acyclic_after : Triangular after) (least : BindsLeast n before after t u) where
      other_solves : Solves other after
      other_solves =
          let s = solution after in
          let h = solution_solves after acyclic_after in
          least.general other (solves_after put (solution before) before (solution_solves before acyclic_before))
          (same_first ∙ least.unifies s h ∙ sym same_second) (stand_too least.bound least.among (least.stand s h))

      -- so it does not stand in what a term of kept holes comes to
      none_but_kept : (v : Term) → ((h : Hole) → occurs h v ≡ true → MayBeLeft n t u h) → GrownFrom before after → occurs k (resolved after v) ≡ true → ⊥
      none_but_kept v i g o =
          let w = resolved after v in
          let e = resolved_apply other after v other_solves ∙ same_on v i ∙ solution_apply after v in
          let is_open = not_bound_before before after k g (not_bound after k w (resolved_free after v acyclic_after) o) in
          let f : leaf head.End ≡ hole k = sym (put_here (hole_eq k k) (hole_eq_same k)) ∙ sym (other_open k is_open) ∙ keeps_hole other k w e o in
          cc

-- whether it is one, in cases
kept_or_not : (n : ℕ) (t u : Term) (k : Hole) → ((MayBeLeft n t u k → ⊥) → ⊥) → MayBeLeft n t u k
kept_or_not n t u k h = go (occurs k t) refl
  where
    at_new : occurs k t ≡ false → occurs k u ≡ false → (hole_number k < n) ⊎ (n ≤ hole_number k) → MayBeLeft n t u k
    at_new e f (inr o) = inr (inr o)
    at_new e f (inl o) = absurd (h (λ i. elim i [
      | inl r ↦ both_ways (occurs k t) e r
      | inr q ↦ elim q [
        | inl r ↦ both_ways (occurs k u) f r
        | inr r ↦ omega (arith, o, r)
      ]
    ]))

    at_second : occurs k t ≡ false → (b : Bool) → occurs k u ≡ b → MayBeLeft n t u k
    at_second e true f = inr (inl f)
    at_second e false f = at_new e f (cases_lt (hole_number k) n)

    go : (b : Bool) → occurs k t ≡ b → MayBeLeft n t u k
    go true e = inl e
    go false e = at_second e (occurs k u) refl

-- each hole of one of the two terms after, and of any term of their holes, is open, and in one of the two or new
pub holes_left : (n : ℕ) (before : Log) (bs : List Binding) (t u v : Term) → LogIsBelow n before → Free before t → Free before u → Triangular before → Triangular (log_of bs) → GrownFrom before (log_of bs) → BindsLeast n before (log_of bs) t u → ((h : Hole) → occurs h v ≡ true → (occurs h t ≡ true) ⊎ (occurs h u ≡ true)) → HolesAreLeft n bs t u (resolved (log_of bs) v)
holes_left n before bs t u v below free_t free_u acyclic_before acyclic_after g least i k o = record {
  is_open = open_from bs k (not_bound (log_of bs) k (resolved (log_of bs) v) (resolved_free (log_of bs) v acyclic_after) o);
  from =
      kept_or_not n t u k (λ gone. none_but_kept n before (log_of bs) t u k below free_t free_u gone acyclic_before acyclic_after least v
      (λ h q. elim (i h q) [ inl r ↦ inl r | inr r ↦ inr (inl r) ]) g o);
}
