-- How far a term is from having every binding put in.
use Rattle.std.specs.Prelude.{◌≡◌, ℕ, ◌+◌, ◌<◌, Bool, true, false, if◌then◌else◌, cond, [], ◌∷◌, Option, Some}
use Rattle.std.proofs.Common.{◌⊎◌, inl, inr, refl, sym, ap, ap₂, ◌∙◌, subst, arith}
use Rattle.std.proofs.lemmas.Bool.{or_parts}
use Rattle.infer_table.specs.Words.{Hole, Term, hole, leaf, pair, occurs, hole_eq}
use Rattle.infer_table.specs.Own.{Log, found, Absent, Triangular, hole_eq_flip}

-- the steps that putting every binding in takes
abbrev pub total : (Hole → ℕ) → Term → ℕ
total f (hole k) = f k
total f (leaf h) = 1
total f (pair a b) = total f a + total f b + 1

abbrev pub hole_weight : Log → Hole → ℕ
hole_weight [] k = 1
hole_weight (p ∷ l) k = if hole_eq k p.0 then total (hole_weight l) p.1 + 1 else hole_weight l k

abbrev pub weight : Log → Term → ℕ
weight l t = total (hole_weight l) t

-- a hole that does not occur adds nothing
weight_skip : (p : Hole × Term) (l : Log) (t : Term) → occurs p.0 t ≡ false → weight (p ∷ l) t ≡ weight l t
weight_skip p l (hole k) h = ap (λ (b : Bool). cond b (total (hole_weight l) p.1 + 1) (hole_weight l k)) (hole_eq_flip p.0 k false h)
weight_skip p l (leaf n) h = refl
weight_skip p l (pair a b) h =
    let q = or_parts (occurs p.0 a) (occurs p.0 b) h in
    ap₂ (λ (x y : ℕ). x + y + 1) (weight_skip p l a q.0) (weight_skip p l b q.1)

found_case : (p : Hole × Term) (o : Option Term) (u : Term) (b : Bool) → cond b (Some p.1) o ≡ Some u → ((b ≡ true) × (p.1 ≡ u)) ⊎ ((b ≡ false) × (o ≡ Some u))
found_case p o u true e = inl (refl, cc)
found_case p o u false e = inr (refl, e)

-- what is bound later does not name a hole that is absent from there on
absent_in : (x : Hole) (l : Log) (k : Hole) (u : Term) → Absent x l → found l k ≡ Some u → occurs x u ≡ false
absent_in x [] k u h e = cc
absent_in x (p ∷ l) k u h e =
    elim (found_case p (found l k) u (hole_eq k p.0) e) [
      | inl q ↦ let P : Term → Type 0 = λ z. occurs x z ≡ false in subst P q.1 h.1
      | inr q ↦ absent_in x l k u h.2 q.1
    ]

-- a bound hole weighs more than what it is bound to
pub weight_found : (l : Log) (k : Hole) (u : Term) → Triangular l → found l k ≡ Some u → weight l u < weight l (hole k)
weight_found [] k u t e = cc
weight_found (p ∷ l) k u t e =
    elim (found_case p (found l k) u (hole_eq k p.0) e) [
      | inl q ↦
          let a = ap (λ (b : Bool). cond b (total (hole_weight l) p.1 + 1) (hole_weight l k)) q.0 in
          let b = ap (weight (p ∷ l)) (sym q.1) ∙ weight_skip p l p.1 t.0 in
          omega arith
      | inr q ↦
          let a = ap (λ (b : Bool). cond b (total (hole_weight l) p.1 + 1) (hole_weight l k)) q.0 in
          let b = weight_skip p l u (absent_in p.0 l k u t.2 q.1) in
          let c = weight_found l k u t.3 q.1 in
          omega arith
    ]
