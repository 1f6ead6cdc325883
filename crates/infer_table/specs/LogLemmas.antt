-- Lemmas on bindings: what a hole is bound to, terms with each binding put in, and that solutions exist.
use Rattle.std.specs.Prelude.{◌≡◌, ℕ, zero, suc, Bool, true, false, cond, List, [], ◌∷◌, ◌++◌, Option, Some, None, slice_get}
use Rattle.std.proofs.Common.{◌⊎◌, inl, inr, refl, sym, ap, ap₂, ◌∙◌, subst, true≢false}
use Rattle.std.proofs.lemmas.Bool.{both_ways, or_cases, or_parts, or_left, or_right, false_from_ne_true}
use Rattle.std.proofs.lemmas.Option.{same_Some}
use Rattle.infer_table.specs.Words.{Head, Hole, HoleKind, Term, hole, leaf, pair, apply, occurs, hole_eq, hole_number, IsInt}
use Rattle.infer_table.specs.Solutions.{Log, single, sub, resolved, found, binds, Solves, Respects, Kept, Absent, Triangular, Free, hole_kind, IsOf, AreOf}
use Rattle.infer_table.specs.TermLemmas.{hole_eq_true, hole_eq_same, hole_eq_flip, apply_apply, apply_sub, sub_absent, sub_same, sub_gone, sub_holes, sub_without, single_respects, is_int_apply, hole_respects}

-- ---- bindings that are solved

pub solves_append : (s : Hole → Term) (l m : Log) → Solves s l → Solves s m → Solves s (l ++ m)
solves_append s [] m h k = k
solves_append s (p ∷ l) m h k = (h.0, solves_append s l m h.1 k)

pub solves_left : (s : Hole → Term) (l m : Log) → Solves s (l ++ m) → Solves s l
solves_left s [] m h = tt
solves_left s (p ∷ l) m h = (h.0, solves_left s l m h.1)

pub solves_right : (s : Hole → Term) (l m : Log) → Solves s (l ++ m) → Solves s m
solves_right s [] m h = h
solves_right s (p ∷ l) m h = solves_right s l m h.1

-- ---- what a hole is bound to

some_case : (t u : Term) (o : Option Term) (b : Bool) → cond b (Some t) o ≡ Some u → ((b ≡ true) × (t ≡ u)) ⊎ ((b ≡ false) × (o ≡ Some u))
some_case t u o true e = inl (refl, cc)
some_case t u o false e = inr (refl, e)

none_case : (t : Term) (o : Option Term) (b : Bool) → cond b (Some t) o ≡ None → (b ≡ false) × (o ≡ None)
none_case t o true e = cc
none_case t o false e = (refl, e)

at_true : (t : Term) (o : Option Term) (b : Bool) → b ≡ true → cond b (Some t) o ≡ Some t
at_true t o true e = refl
at_true t o false e = absurd (true≢false (sym e))

at_false : (t : Term) (o : Option Term) (b : Bool) → b ≡ false → cond b (Some t) o ≡ o
at_false t o true e = absurd (true≢false e)
at_false t o false e = refl

pub found_binds : (l : Log) (k : Hole) (u : Term) → found l k ≡ Some u → binds l k ≡ true
found_binds [] k u e = cc
found_binds (p ∷ l) k u e = elim (some_case p.1 u (found l k) (hole_eq k p.0) e) [
  | inl q ↦ or_left (hole_eq k p.0) (binds l k) q.0
  | inr q ↦ or_right (hole_eq k p.0) (binds l k) (found_binds l k u q.1)
]

pub binds_found : (l : Log) (k : Hole) → binds l k ≡ true → (u : Term) × (found l k ≡ Some u)
binds_found [] k e = absurd (true≢false (sym e))
binds_found (p ∷ l) k e = go (hole_eq k p.0) refl (binds_found l k)
  where
    go : (b : Bool) → hole_eq k p.0 ≡ b → (binds l k ≡ true → (u : Term) × (found l k ≡ Some u)) → (u : Term) × (found (p ∷ l) k ≡ Some u)
    go true f r = (p.1, at_true p.1 (found l k) (hole_eq k p.0) f)
    go false f r = elim (or_cases (hole_eq k p.0) (binds l k) e) [
      | inl g ↦ absurd (both_ways (hole_eq k p.0) f g)
      | inr g ↦ let h = r g in (h.0, at_false p.1 (found l k) (hole_eq k p.0) f ∙ h.1)
    ]

pub found_none : (l : Log) (k : Hole) → found l k ≡ None → binds l k ≡ false
found_none l k e = false_from_ne_true (binds l k) (λ h. let f = binds_found l k h in let g = sym e ∙ f.1 in cc)

pub none_found : (l : Log) (k : Hole) → binds l k ≡ false → found l k ≡ None
none_found [] k e = refl
none_found (p ∷ l) k e = let q = or_parts (hole_eq k p.0) (binds l k) e in at_false p.1 (found l k) (hole_eq k p.0) q.0 ∙ none_found l k q.1

-- in the first of two lists of bindings, or else in the second
pub found_left : (l m : Log) (k : Hole) (u : Term) → found l k ≡ Some u → found (l ++ m) k ≡ Some u
found_left [] m k u e = cc
found_left (p ∷ l) m k u e = elim (some_case p.1 u (found l k) (hole_eq k p.0) e) [
  | inl q ↦ at_true p.1 (found (l ++ m) k) (hole_eq k p.0) q.0 ∙ ap Some q.1
  | inr q ↦ at_false p.1 (found (l ++ m) k) (hole_eq k p.0) q.0 ∙ found_left l m k u q.1
]

-- by the binding's place
pub found_place : (l : Log) (x : Hole) (t : Term) → found l x ≡ Some t → (i : ℕ) × (slice_get l i ≡ Some (x, t))
found_place [] x t e = cc
found_place (p ∷ l) x t e = elim (some_case p.1 t (found l x) (hole_eq x p.0) e) [
  | inl q ↦ (0, ap Some (ap₂ (λ (y : Hole) (u : Term). let r : Hole × Term = (y, u) in r) (sym (hole_eq_true x p.0 q.0)) q.1))
  | inr q ↦ let r = found_place l x t q.1 in (suc r.0, r.1)
]

same_pair : {x y : Hole} {t u : Term} → ◌≡◌ {A = Option (Hole × Term)} (Some (x, t)) (Some (y, u)) → (x ≡ y) × (t ≡ u)
same_pair {x = x} {y = y} {t = t} {u = u} e =
    let f : ◌≡◌ {A = Hole × Term} (x, t) (y, u) = same_Some (x, t) (y, u) e in
    (ap (λ (z : Hole × Term). z.0) f, ap (λ (z : Hole × Term). z.1) f)

-- ---- a term with the bindings put in

pub resolved_apply : (s : Hole → Term) (l : Log) (t : Term) → Solves s l → apply s (resolved l t) ≡ apply s t
resolved_apply s [] t h = refl
resolved_apply s (p ∷ l) t h = resolved_apply s l (sub p.0 p.1 t) h.1 ∙ apply_sub s p.0 p.1 t h.0

pub resolved_leaf : (l : Log) (h : Head) → resolved l (leaf h) ≡ leaf h
resolved_leaf [] h = refl
resolved_leaf (p ∷ l) h = resolved_leaf l h

pub resolved_pair : (l : Log) (a b : Term) → resolved l (pair a b) ≡ pair (resolved l a) (resolved l b)
resolved_pair [] a b = refl
resolved_pair (p ∷ l) a b = resolved_pair l (sub p.0 p.1 a) (sub p.0 p.1 b)

pub resolved_append : (l m : Log) (t : Term) → resolved (l ++ m) t ≡ resolved m (resolved l t)
resolved_append [] m t = refl
resolved_append (p ∷ l) m t = resolved_append l m (sub p.0 p.1 t)

-- a term without bound holes stays
pub resolved_fixed : (l : Log) (t : Term) → Free l t → resolved l t ≡ t
resolved_fixed [] t h = refl
resolved_fixed (p ∷ l) t h =
    let e = sub_absent p.0 p.1 t (h p.0 (or_left (hole_eq p.0 p.0) (binds l p.0) (hole_eq_same p.0))) in
    ap (resolved l) e ∙ resolved_fixed l t (λ y f. h y (or_right (hole_eq y p.0) (binds l y) f))

resolved_absent : (x : Hole) (l : Log) (t : Term) → Absent x l → occurs x t ≡ false → occurs x (resolved l t) ≡ false
resolved_absent x [] t h k = k
resolved_absent x (p ∷ l) t h k = resolved_absent x l (sub p.0 p.1 t) h.2 (sub_without x p.0 p.1 t h.1 k)

-- no bound hole is left
pub resolved_free : (l : Log) (t : Term) → Triangular l → Free l (resolved l t)
resolved_free [] t h y e = absurd (true≢false (sym e))
resolved_free (p ∷ l) t h y e =
    elim (or_cases (hole_eq y p.0) (binds l y) e) [
      | inl f ↦ let P : Hole → Type 0 = λ z. occurs z (resolved l (sub p.0 p.1 t)) ≡ false in
          subst P (sym (hole_eq_true y p.0 f)) (resolved_absent p.0 l (sub p.0 p.1 t) h.2 (sub_gone p.0 p.1 t h.0))
      | inr f ↦ resolved_free l (sub p.0 p.1 t) h.3 y f
    ]

-- putting in twice is putting in once
pub resolved_twice : (l : Log) (t : Term) → Triangular l → resolved l (resolved l t) ≡ resolved l t
resolved_twice l t h = resolved_fixed l (resolved l t) (resolved_free l t h)

pub resolved_open : (l : Log) (k : Hole) → found l k ≡ None → resolved l (hole k) ≡ hole k
resolved_open [] k e = refl
resolved_open (p ∷ l) k e =
    let q = none_case p.1 (found l k) (hole_eq k p.0) e in
    ap (resolved l) (sub_absent p.0 p.1 (hole k) (hole_eq_flip k p.0 false q.0)) ∙ resolved_open l k q.1

-- ---- without cycles

absent_append : (x : Hole) (l m : Log) → Absent x l → Absent x m → Absent x (l ++ m)
absent_append x [] m h k = k
absent_append x (p ∷ l) m h k = (h.0, h.1, absent_append x l m h.2 k)

-- two lists of bindings, where nothing that the first binds stands in the second
pub triangular_append : (l m : Log) → Triangular l → Triangular m → ((y : Hole) → binds l y ≡ true → Absent y m) → Triangular (l ++ m)
triangular_append [] m h k f = k
triangular_append (p ∷ l) m h k f = (
  h.0,
  h.1,
  absent_append p.0 l m h.2 (f p.0 (or_left (hole_eq p.0 p.0) (binds l p.0) (hole_eq_same p.0))),
  triangular_append l m h.3 k (λ y e. f y (or_right (hole_eq y p.0) (binds l y) e)),
)

-- one binding more, of a hole that is not bound, to a term that has every binding put in
pub triangular_last : (l : Log) (x : Hole) (t : Term) → Triangular l → found l x ≡ None → Free l t → occurs x t ≡ false → Kept x t
    → Triangular (l ++ (x, t) ∷ [])
triangular_last l x t h e f o k = triangular_append l ((x, t) ∷ []) h (o, k, tt, tt) (λ y b. (
  false_from_ne_true (hole_eq y x) (λ i. let P : Hole → Type 0 = λ z. binds l z ≡ true in
      both_ways (binds l x) (found_none l x e) (subst P (hole_eq_true y x i) b)),
  f y b,
  tt,
))

absent_left : (x : Hole) (l m : Log) → Absent x (l ++ m) → Absent x l
absent_left x [] m h = tt
absent_left x (p ∷ l) m h = (h.0, h.1, absent_left x l m h.2)

pub triangular_left : (l m : Log) → Triangular (l ++ m) → Triangular l
triangular_left [] m h = tt
triangular_left (p ∷ l) m h = (h.0, h.1, absent_left p.0 l m h.2, triangular_left l m h.3)

-- ---- solutions exist

abbrev pub solution : Log → Hole → Term
solution l k = resolved l (hole k)

pub solution_apply : (l : Log) (t : Term) → apply (solution l) t ≡ resolved l t
solution_apply l (hole k) = refl
solution_apply l (leaf h) = sym (resolved_leaf l h)
solution_apply l (pair a b) = ap₂ pair (solution_apply l a) (solution_apply l b) ∙ sym (resolved_pair l a b)

-- the solution of some bindings, seen from one binding before them
solves_later : (x : Hole) (u : Term) (l m : Log) → Absent x m → Solves (solution l) m → Solves (solution ((x, u) ∷ l)) m
solves_later x u l [] h k = tt
solves_later x u l (q ∷ m) h k = (
  ap (resolved l) (sub_absent x u (hole q.0) h.0) ∙ k.0 ∙ solution_apply l q.1 ∙ ap (resolved l) (sym (sub_absent x u q.1 h.1)) ∙ sym
      (solution_apply ((x, u) ∷ l) q.1),
  solves_later x u l m h.2 k.1,
)

pub solution_solves : (l : Log) → Triangular l → Solves (solution l) l
solution_solves [] h = tt
solution_solves (p ∷ l) h = (
  ap (resolved l) (sub_same p.0 p.1) ∙ ap (resolved l) (sym (sub_absent p.0 p.1 p.1 h.0)) ∙ sym (solution_apply ((p.0, p.1) ∷ l) p.1),
  solves_later p.0 p.1 l l h.2 (solution_solves l h.3),
)

pub resolved_int : (l : Log) (t : Term) → Triangular l → IsInt t → IsInt (resolved l t)
resolved_int [] t h e = e
resolved_int (p ∷ l) t h e = resolved_int l (sub p.0 p.1 t) h.3 (is_int_apply (single p.0 p.1) t (single_respects p.0 p.1 h.1) e)

pub solution_respects : (l : Log) → Triangular l → Respects (solution l)
solution_respects l h = λ k e. resolved_int l (hole k) h (hole_respects k e)

-- what comes after a solution is one
pub solves_after : (f g : Hole → Term) (l : Log) → Solves g l → Solves (λ h. apply f (g h)) l
solves_after f g [] h = tt
solves_after f g (p ∷ l) h = (ap (apply f) h.0 ∙ apply_apply f g p.1, solves_after f g l h.1)

-- ---- whose holes are of a table

-- each bound hole was made, and so was each hole that stands in a bound term
abbrev pub BindsOf : List HoleKind → Log → Type 0
BindsOf kinds [] = Unit {0}
BindsOf kinds (p ∷ l) = IsOf kinds p.0 × AreOf kinds p.1 × BindsOf kinds l

pub binds_of_at : (kinds : List HoleKind) (l : Log) (i : ℕ) (x : Hole) (t : Term) → BindsOf kinds l → slice_get l i ≡ Some (x, t)
    → IsOf kinds x × AreOf kinds t
binds_of_at kinds [] i x t h e = cc
binds_of_at kinds ((z, v) ∷ l) zero x t h e =
    let q = same_pair e in
    let P : Hole → Type 0 = IsOf kinds in
    let Q : Term → Type 0 = AreOf kinds in
    (subst P q.0 h.0, subst Q q.1 h.1)
binds_of_at kinds (p ∷ l) (suc i) x t h e = binds_of_at kinds l i x t h.2 e

pub binds_of_found : (kinds : List HoleKind) (l : Log) (x : Hole) (t : Term) → BindsOf kinds l → found l x ≡ Some t → IsOf kinds x
    × AreOf kinds t
binds_of_found kinds l x t h e = let p = found_place l x t e in binds_of_at kinds l p.0 x t h p.1

pub are_of_hole : (kinds : List HoleKind) (x : Hole) → IsOf kinds x → AreOf kinds (hole x)
are_of_hole kinds x h k e = let P : Hole → Type 0 = IsOf kinds in subst P (sym (hole_eq_true k x e)) h

pub are_of_leaf : (kinds : List HoleKind) (h : Head) → AreOf kinds (leaf h)
are_of_leaf kinds h k e = absurd (true≢false (sym e))

pub are_of_pair : (kinds : List HoleKind) (a b : Term) → AreOf kinds a → AreOf kinds b → AreOf kinds (pair a b)
are_of_pair kinds a b h g k e = elim (or_cases (occurs k a) (occurs k b) e) [ inl f ↦ h k f | inr f ↦ g k f ]

pub are_of_parts : (kinds : List HoleKind) (a b : Term) → AreOf kinds (pair a b) → AreOf kinds a × AreOf kinds b
are_of_parts kinds a b h = ((λ k e. h k (or_left (occurs k a) (occurs k b) e)), (λ k e. h k (or_right (occurs k a) (occurs k b) e)))

pub are_of_sub : (kinds : List HoleKind) (x : Hole) (u t : Term) → AreOf kinds u → AreOf kinds t → AreOf kinds (sub x u t)
are_of_sub kinds x u t h g k e = elim (sub_holes k x u t e) [ inl f ↦ h k f | inr f ↦ g k f ]

-- putting the bindings in brings in no hole that was not made
pub resolved_are_of : (kinds : List HoleKind) (l : Log) (t : Term) → BindsOf kinds l → AreOf kinds t → AreOf kinds (resolved l t)
resolved_are_of kinds [] t h g = g
resolved_are_of kinds (p ∷ l) t h g = resolved_are_of kinds l (sub p.0 p.1 t) h.2 (are_of_sub kinds p.0 p.1 t h.1 g)

-- holes that are made later take nothing away
get_more : (kinds more : List HoleKind) (i : ℕ) (c : HoleKind) → slice_get kinds i ≡ Some c → slice_get (kinds ++ more) i ≡ Some c
get_more [] more i c e = cc
get_more (d ∷ kinds) more zero c e = e
get_more (d ∷ kinds) more (suc i) c e = get_more kinds more i c e

pub is_of_more : (kinds more : List HoleKind) (k : Hole) → IsOf kinds k → IsOf (kinds ++ more) k
is_of_more kinds more k h = get_more kinds more (hole_number k) (hole_kind k) h

pub are_of_more : (kinds more : List HoleKind) (t : Term) → AreOf kinds t → AreOf (kinds ++ more) t
are_of_more kinds more t h k e = is_of_more kinds more k (h k e)
