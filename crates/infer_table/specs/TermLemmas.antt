-- Lemmas on holes, on terms, and on terms under what stands for each hole.
use Rattle.std.specs.Prelude.{◌≡◌, ℕ, ◌+◌, ◌≤◌, Bool, true, false, cond, List, [], ◌∷◌, ◌++◌, length}
use Rattle.std.proofs.Common.{◌⊎◌, inl, inr, refl, sym, ap, ap₂, ◌∙◌, subst, arith, true≢false}
use Rattle.std.proofs.lemmas.Bool.{eqb-true, eq-eqb, both_ways, or_cases, or_parts, or_left, or_right, or_from, false_from_ne_true}
use Rattle.infer_table.specs.Words.{Head, Hole, Term, hole, leaf, pair, apply, occurs, hole_eq, IsInt, chain}
use Rattle.hir_types.specs.declared.head.Head.TheVariants as head
use Rattle.hir_types.specs.declared.head.Hole.TheVariants as hole_of
use Rattle.infer_table.specs.Solutions.{single, sub, IsIntHole, Respects, Kept}

-- ---- the test of two holes

pub hole_eq_true : (x y : Hole) → hole_eq x y ≡ true → x ≡ y
hole_eq_true (hole_of.Ty m) (hole_of.Ty n) h = ap hole_of.Ty (eqb-true m n h)
hole_eq_true (hole_of.Int m) (hole_of.Int n) h = ap hole_of.Int (eqb-true m n h)
hole_eq_true (hole_of.Const m) (hole_of.Const n) h = ap hole_of.Const (eqb-true m n h)
hole_eq_true _ _ h = absurd (true≢false (sym h))

pub hole_eq_same : (x : Hole) → hole_eq x x ≡ true
hole_eq_same (hole_of.Ty m) = eq-eqb m m refl
hole_eq_same (hole_of.Int m) = eq-eqb m m refl
hole_eq_same (hole_of.Const m) = eq-eqb m m refl

pub hole_eq_from : (x y : Hole) → x ≡ y → hole_eq x y ≡ true
hole_eq_from x y e = ap (hole_eq x) (sym e) ∙ hole_eq_same x

pub hole_eq_false : (x y : Hole) → hole_eq x y ≡ false → x ≡ y → ⊥
hole_eq_false x y h e = both_ways (hole_eq x y) h (hole_eq_from x y e)

pub hole_ne : (x y : Hole) → (x ≡ y → ⊥) → hole_eq x y ≡ false
hole_ne x y h = false_from_ne_true (hole_eq x y) (λ e. h (hole_eq_true x y e))

-- the test does not mind which hole comes first
pub hole_eq_flip : (x y : Hole) (b : Bool) → hole_eq x y ≡ b → hole_eq y x ≡ b
hole_eq_flip x y true e = hole_eq_from y x (sym (hole_eq_true x y e))
hole_eq_flip x y false e = hole_ne y x (λ f. hole_eq_false x y e (sym f))

-- ---- parts of terms that are equal

pub pair_left : {a b c d : Term} → pair a b ≡ pair c d → a ≡ c
pair_left e = cc

pub pair_right : {a b c d : Term} → pair a b ≡ pair c d → b ≡ d
pair_right e = cc

pub leaf_head : {g h : Head} → leaf g ≡ leaf h → g ≡ h
leaf_head e = cc

pub hole_same : {j k : Hole} → hole j ≡ hole k → j ≡ k
hole_same e = cc

pub leaf_pair : {h : Head} {a b : Term} → leaf h ≡ pair a b → ⊥
leaf_pair e = cc

-- ---- terms under what stands for each hole

-- one after the other
pub apply_apply : (f g : Hole → Term) (t : Term) → apply f (apply g t) ≡ apply (λ k. apply f (g k)) t
apply_apply f g (hole k) = refl
apply_apply f g (leaf h) = refl
apply_apply f g (pair a b) = ap₂ pair (apply_apply f g a) (apply_apply f g b)

-- what stands for the term's own holes is all that counts
pub apply_agree : (f g : Hole → Term) (t : Term) → ((k : Hole) → occurs k t ≡ true → f k ≡ g k) → apply f t ≡ apply g t
apply_agree f g (hole k) h = h k (hole_eq_same k)
apply_agree f g (leaf n) h = refl
apply_agree f g (pair a b) h = ap₂ pair
    (apply_agree f g a (λ k e. h k (or_left (occurs k a) (occurs k b) e)))
    (apply_agree f g b (λ k e. h k (or_right (occurs k a) (occurs k b) e)))

-- ---- one hole replaced

single_met : (s : Hole → Term) (x k : Hole) (u : Term) (b : Bool) → hole_eq x k ≡ b → s x ≡ apply s u → apply s (cond b u (hole k)) ≡ s k
single_met s x k u true e h = sym h ∙ ap s (hole_eq_true x k e)
single_met s x k u false e h = refl

pub apply_sub : (s : Hole → Term) (x : Hole) (u t : Term) → s x ≡ apply s u → apply s (sub x u t) ≡ apply s t
apply_sub s x u (hole k) h = single_met s x k u (hole_eq x k) refl h
apply_sub s x u (leaf n) h = refl
apply_sub s x u (pair a b) h = ap₂ pair (apply_sub s x u a h) (apply_sub s x u b h)

sub_other : (x k : Hole) (u : Term) (b : Bool) → hole_eq x k ≡ b → b ≡ false → cond b u (hole k) ≡ hole k
sub_other x k u true e h = absurd (true≢false h)
sub_other x k u false e h = refl

pub sub_absent : (x : Hole) (u t : Term) → occurs x t ≡ false → sub x u t ≡ t
sub_absent x u (hole k) h = sub_other x k u (hole_eq x k) refl h
sub_absent x u (leaf n) h = refl
sub_absent x u (pair a b) h =
    let p = or_parts (occurs x a) (occurs x b) h in
    ap₂ pair (sub_absent x u a p.0) (sub_absent x u b p.1)

sub_at : (x k : Hole) (u : Term) (b : Bool) → hole_eq x k ≡ b → b ≡ true → cond b u (hole k) ≡ u
sub_at x k u true e h = refl
sub_at x k u false e h = absurd (true≢false (sym h))

pub sub_same : (x : Hole) (u : Term) → sub x u (hole x) ≡ u
sub_same x u = sub_at x x u (hole_eq x x) refl (hole_eq_same x)

-- the hole itself is gone
gone_hole : (x k : Hole) (u : Term) (b : Bool) → hole_eq x k ≡ b → occurs x u ≡ false → occurs x (cond b u (hole k)) ≡ false
gone_hole x k u true e h = h
gone_hole x k u false e h = e

pub sub_gone : (x : Hole) (u t : Term) → occurs x u ≡ false → occurs x (sub x u t) ≡ false
sub_gone x u (hole k) h = gone_hole x k u (hole_eq x k) refl h
sub_gone x u (leaf n) h = refl
sub_gone x u (pair a b) h = or_from (occurs x (sub x u a)) (occurs x (sub x u b)) (sub_gone x u a h) (sub_gone x u b h)

-- no hole comes in but those of the term that is put in
new_hole : (y x k : Hole) (u : Term) (b : Bool) → occurs y (cond b u (hole k)) ≡ true → (occurs y u ≡ true) ⊎ (hole_eq y k ≡ true)
new_hole y x k u true h = inl h
new_hole y x k u false h = inr h

pub sub_holes : (y x : Hole) (u t : Term) → occurs y (sub x u t) ≡ true → (occurs y u ≡ true) ⊎ (occurs y t ≡ true)
sub_holes y x u (hole k) h = new_hole y x k u (hole_eq x k) h
sub_holes y x u (leaf n) h = absurd (true≢false (sym h))
sub_holes y x u (pair a b) h =
    elim (or_cases (occurs y (sub x u a)) (occurs y (sub x u b)) h) [
      | inl p ↦ elim (sub_holes y x u a p) [ inl q ↦ inl q | inr q ↦ inr (or_left (occurs y a) (occurs y b) q) ]
      | inr p ↦ elim (sub_holes y x u b p) [ inl q ↦ inl q | inr q ↦ inr (or_right (occurs y a) (occurs y b) q) ]
    ]

pub sub_without : (y x : Hole) (u t : Term) → occurs y u ≡ false → occurs y t ≡ false → occurs y (sub x u t) ≡ false
sub_without y x u t p q = false_from_ne_true (occurs y (sub x u t)) (λ e. elim (sub_holes y x u t e) [
  | inl f ↦ both_ways (occurs y u) p f
  | inr f ↦ both_ways (occurs y t) q f
])

-- ---- a hole within a larger term

abbrev pub IsNoHole : Term → Type 0
IsNoHole (hole k) = ⊥
IsNoHole (leaf h) = Unit {0}
IsNoHole (pair a b) = Unit {0}

abbrev pub term_size : Term → ℕ
term_size (hole k) = 1
term_size (leaf h) = 1
term_size (pair a b) = term_size a + term_size b + 1

pub occurs_le : (s : Hole → Term) (x : Hole) (t : Term) → occurs x t ≡ true → term_size (s x) ≤ term_size (apply s t)
occurs_le s x (hole k) h = let e = ap (λ z. term_size (s z)) (hole_eq_true x k h) in omega (arith, e)
occurs_le s x (leaf n) h = absurd (true≢false (sym h))
occurs_le s x (pair a b) h =
    elim (or_cases (occurs x a) (occurs x b) h) [
      | inl p ↦ omega (arith, occurs_le s x a p)
      | inr p ↦ omega (arith, occurs_le s x b p)
    ]

pub occurs_pair : (s : Hole → Term) (x : Hole) (a b : Term) → occurs x (pair a b) ≡ true → s x ≡ apply s (pair a b) → ⊥
occurs_pair s x a b h e =
    elim (or_cases (occurs x a) (occurs x b) h) [
      | inl p ↦ omega (arith, occurs_le s x a p, ap term_size e)
      | inr p ↦ omega (arith, occurs_le s x b p, ap term_size e)
    ]

pub occurs_within : (s : Hole → Term) (x : Hole) (t : Term) → IsNoHole t → occurs x t ≡ true → s x ≡ apply s t → ⊥
occurs_within s x (hole k) n h e = n
occurs_within s x (leaf g) n h e = true≢false (sym h)
occurs_within s x (pair a b) n h e = occurs_pair s x a b h e

-- ---- integer types

pub is_int_apply : (s : Hole → Term) (t : Term) → Respects s → IsInt t → IsInt (apply s t)
is_int_apply s (hole (hole_of.Int n)) r h = r (hole_of.Int n) tt
is_int_apply s (pair (leaf (head.Int i)) t) r h = tt
is_int_apply s (pair (leaf (head.Uint i)) t) r h = tt
is_int_apply s _ r h = absurd h

single_kept : (x k : Hole) (u : Term) (b : Bool) → hole_eq x k ≡ b → Kept x u → IsIntHole k → IsInt (hole k) → IsInt (cond b u (hole k))
single_kept x k u true e h i j = let P : Hole → Type 0 = IsIntHole in h (subst P (sym (hole_eq_true x k e)) i)
single_kept x k u false e h i j = j

int_hole : (k : Hole) → IsIntHole k → IsInt (hole k)
int_hole (hole_of.Int n) h = tt
int_hole _ h = absurd h

pub single_respects : (x : Hole) (u : Term) → Kept x u → Respects (single x u)
single_respects x u h k e = single_kept x k u (hole_eq x k) refl h e (int_hole k e)

-- each hole by itself keeps kinds
pub hole_respects : Respects hole
hole_respects k e = int_hole k e

-- ---- lists of parts under what stands for each hole

no_end : (s : Hole → Term) (ys : List Term) (y : Term) (zs : List Term) → apply s (chain (ys ++ y ∷ zs)) ≡ leaf head.End → ⊥
no_end s [] y zs e = leaf_pair (sym e)
no_end s (z ∷ ys) y zs e = leaf_pair (sym e)

-- lists of parts that come out the same are of one length
pub chain_length : (s : Hole → Term) (xs ys : List Term) → apply s (chain xs) ≡ apply s (chain ys) → length xs ≡ length ys
chain_length s [] [] e = refl
chain_length s [] (y ∷ ys) e = absurd (leaf_pair e)
chain_length s (x ∷ xs) [] e = absurd (leaf_pair (sym e))
chain_length s (x ∷ xs) (y ∷ ys) e = let h = chain_length s xs ys (pair_right e) in omega (arith, h)

-- what comes out the same at a place within
pub chain_split : (s : Hole → Term) (xs ys : List Term) (x y : Term) (xs' ys' : List Term) → length xs ≡ length ys
    → apply s (chain (xs ++ x ∷ xs')) ≡ apply s (chain (ys ++ y ∷ ys')) → (apply s (chain xs) ≡ apply s (chain ys))
    × (apply s x ≡ apply s y) × (apply s (chain xs') ≡ apply s (chain ys'))
chain_split s [] [] x y xs' ys' n e = (refl, pair_left e, pair_right e)
chain_split s [] (b ∷ ys) x y xs' ys' n e = absurd (omega (arith, n))
chain_split s (a ∷ xs) [] x y xs' ys' n e = absurd (omega (arith, n))
chain_split s (a ∷ xs) (b ∷ ys) x y xs' ys' n e =
    let p = chain_split s xs ys x y xs' ys' (omega (arith, n)) (pair_right e) in
    (ap₂ pair (pair_left e) p.0, p.1, p.2)

-- and back
pub chain_join : (s : Hole → Term) (xs ys xs' ys' : List Term) → apply s (chain xs) ≡ apply s (chain ys)
    → apply s (chain xs') ≡ apply s (chain ys') → apply s (chain (xs ++ xs')) ≡ apply s (chain (ys ++ ys'))
chain_join s [] [] xs' ys' e f = f
chain_join s [] (b ∷ ys) xs' ys' e f = absurd (leaf_pair e)
chain_join s (a ∷ xs) [] xs' ys' e f = absurd (leaf_pair (sym e))
chain_join s (a ∷ xs) (b ∷ ys) xs' ys' e f = ap₂ pair (pair_left e) (chain_join s xs ys xs' ys' (pair_right e) f)

-- one part more at the end
pub chain_last : (s : Hole → Term) (xs ys : List Term) (x y : Term) → apply s (chain (xs ++ x ∷ [])) ≡ apply s (chain (ys ++ y ∷ []))
    → (apply s (chain xs) ≡ apply s (chain ys)) × (apply s x ≡ apply s y)
chain_last s [] [] x y e = (refl, pair_left e)
chain_last s [] (b ∷ ys) x y e = absurd (no_end s ys y [] (sym (pair_right e)))
chain_last s (a ∷ xs) [] x y e = absurd (no_end s xs x [] (pair_right e))
chain_last s (a ∷ xs) (b ∷ ys) x y e =
    let p = chain_last s xs ys x y (pair_right e) in
    (ap₂ pair (pair_left e) p.0, p.1)
