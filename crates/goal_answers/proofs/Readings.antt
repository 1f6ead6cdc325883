-- Readings of terms: where holes are filled, where more aliases are read, and that they are one.
use Rattle.std.proofs.Common.{◌≡◌, inl, inr, refl, sym, ap, ap₂, ◌∙◌, subst, true, false, Bool, ◌||◌, true≢false}
use Rattle.std.proofs.lemmas.Bool.{or_cases, or_left, or_right}
use Rattle.goal_answers.specs.Words.{TypeAliasId, Hole, Term, hole, leaf, pair, apply, occurs, is_int_apply, hole_eq_true, hole_eq_same, hole_respects, pair_left, pair_right}
use Rattle.goal_answers.specs.Own.{Fill, Role, plain, alias, role, IsReadLeaf, IsRead, IsFilling, stands, Aliases, Reads, ReadsAs, MayRead, IsOne}

-- ---- terms without aliases

pub apply_hole : (t : Term) → apply hole t ≡ t
apply_hole (hole k) = refl
apply_hole (leaf h) = refl
apply_hole (pair a b) = ap₂ pair (apply_hole a) (apply_hole b)

leaf_plain : (x : Role) → IsReadLeaf x → x ≡ plain
leaf_plain plain r = refl
leaf_plain (alias k) r = absurd r

pub role_read : (t : Term) → IsRead t → role t ≡ plain
role_read (hole k) r = refl
role_read (leaf h) r = leaf_plain (role (leaf h)) r
role_read (pair a b) r = refl

pub role_filled : (s : Fill) → IsFilling s → (a : Term) → role (apply s a) ≡ role a
role_filled s f (hole k) = role_read (s k) (f.read k)
role_filled s f (leaf h) = refl
role_filled s f (pair a b) = refl

pub read_filled : (s : Fill) → IsFilling s → (t : Term) → IsRead t → IsRead (apply s t)
read_filled s f (hole k) r = f.read k
read_filled s f (leaf h) r = r
read_filled s f (pair a b) r = (read_filled s f a r.0, read_filled s f b r.1)

pub filling_twice : (f g : Fill) → IsFilling f → IsFilling g → IsFilling (λ k. apply f (g k))
filling_twice f g h i = record { read = λ k. read_filled f h (g k) (i.read k); respects = λ k x. is_int_apply f (g k) h.respects (i.respects k x) }

pub hole_filling : IsFilling hole
hole_filling = record { read = λ k. tt; respects = hole_respects }

-- ---- by what the first part makes of a pair

abbrev pub ReadsBy : Role → Aliases → Fill → Term → Term → Term → Type 0
ReadsBy x A p a b u = elim x [
  | plain ↦ (v : Term) × (w : Term) × (u ≡ pair v w) × Reads A p a v × Reads A p b w
  | alias k ↦ (v : Term) × Reads A p b v × A k v u
]

abbrev pub MayReadBy : Role → Fill → Term → Term → Term → Type 0
MayReadBy x p a b u = elim x [
  | plain ↦ (v : Term) × (w : Term) × (u ≡ pair v w) × MayRead p a v × MayRead p b w
  | alias k ↦ Unit {0}
]

abbrev pub stands_by : Role → Hole → Term → Term → Bool
stands_by r x a b = elim r [
  | plain ↦ stands x a || stands x b
  | alias k ↦ false
]

-- ---- where holes are filled

-- what aliases read as is filled alike
abbrev pub AliasStays : Fill → Aliases → Type 0
AliasStays s A = (k : TypeAliasId) (w u : Term) → A k w u → A k (apply s w) (apply s u)

pub reads_filled : (s : Fill) (A : Aliases) → AliasStays s A → (p : Fill) (t u : Term) → Reads A p t u → Reads A (λ k. apply s (p k)) t (apply s u)
reads_filled s A stays p (hole k) u r = ap (apply s) r
reads_filled s A stays p (leaf h) u r = (r.0, ap (apply s) r.1)
reads_filled s A stays p (pair a b) u r = by_role (role a) (reads_filled s A stays p a) (reads_filled s A stays p b) r
  where
    Keeps : Term → Type 0
    Keeps t = (v : Term) → Reads A p t v → Reads A (λ k. apply s (p k)) t (apply s v)

    by_role : (x : Role) → Keeps a → Keeps b → ReadsBy x A p a b u → ReadsBy x A (λ k. apply s (p k)) a b (apply s u)
    by_role plain left right r = (apply s r.0, apply s r.1, ap (apply s) r.2, left r.0 r.3, right r.1 r.4)
    by_role (alias k) left right r = (apply s r.0, right r.0 r.1, stays k r.0 u r.2)

-- a term without aliases reads as itself
pub read_reads : (A : Aliases) (t : Term) → IsRead t → ReadsAs A t t
read_reads A (hole k) r = refl
read_reads A (leaf h) r = (r, refl)
read_reads A (pair a b) r =
    let P : Role → Type 0 = λ x. ReadsBy x A hole a b (pair a b) in
    subst P (sym (role_read a r.0)) (a, b, refl, read_reads A a r.0, read_reads A b r.1)

pub reads_as_filled : (s : Fill) (A : Aliases) → IsFilling s → AliasStays s A → (t u : Term) → ReadsAs A t u → ReadsAs A (apply s t) (apply s u)
reads_as_filled s A f stays (hole k) u r = subst (λ (x : Term). ReadsAs A (s k) (apply s x)) (sym r) (read_reads A (s k) (f.read k))
reads_as_filled s A f stays (leaf h) u r = (r.0, ap (apply s) r.1)
reads_as_filled s A f stays (pair a b) u r =
    let P : Role → Type 0 = λ x. ReadsBy x A hole (apply s a) (apply s b) (apply s u) in
    subst P (sym (role_filled s f a)) (by_role (role a) (reads_as_filled s A f stays a) (reads_as_filled s A f stays b) r)
  where
    Keeps : Term → Type 0
    Keeps t = (v : Term) → ReadsAs A t v → ReadsAs A (apply s t) (apply s v)

    by_role : (x : Role) → Keeps a → Keeps b → ReadsBy x A hole a b u → ReadsBy x A hole (apply s a) (apply s b) (apply s u)
    by_role plain left right r = (apply s r.0, apply s r.1, ap (apply s) r.2, left r.0 r.3, right r.1 r.4)
    by_role (alias k) left right r = (apply s r.0, right r.0 r.1, stays k r.0 u r.2)

-- ---- where more aliases are read

abbrev pub AliasWithin : Aliases → Aliases → Type 0
AliasWithin A B = (k : TypeAliasId) (w u : Term) → A k w u → B k w u

pub reads_within : (A B : Aliases) → AliasWithin A B → (p : Fill) (t u : Term) → Reads A p t u → Reads B p t u
reads_within A B i p (hole k) u r = r
reads_within A B i p (leaf h) u r = r
reads_within A B i p (pair a b) u r = by_role (role a) (reads_within A B i p a) (reads_within A B i p b) r
  where
    Keeps : Term → Type 0
    Keeps t = (v : Term) → Reads A p t v → Reads B p t v

    by_role : (x : Role) → Keeps a → Keeps b → ReadsBy x A p a b u → ReadsBy x B p a b u
    by_role plain left right r = (r.0, r.1, r.2, left r.0 r.3, right r.1 r.4)
    by_role (alias k) left right r = (r.0, right r.0 r.1, i k r.0 u r.2)

pub reads_may : (A : Aliases) (p : Fill) (t u : Term) → Reads A p t u → MayRead p t u
reads_may A p (hole k) u r = r
reads_may A p (leaf h) u r = r.1
reads_may A p (pair a b) u r = by_role (role a) (reads_may A p a) (reads_may A p b) r
  where
    Keeps : Term → Type 0
    Keeps t = (v : Term) → Reads A p t v → MayRead p t v

    by_role : (x : Role) → Keeps a → Keeps b → ReadsBy x A p a b u → MayReadBy x p a b u
    by_role plain left right r = (r.0, r.1, r.2, left r.0 r.3, right r.1 r.4)
    by_role (alias k) left right r = tt

pub may_here : (p : Fill) (t w : Term) → MayRead p t w → MayRead p t (apply hole w)
may_here p t w m = subst (MayRead p t) (sym (apply_hole w)) m

-- ---- they are one

pub reads_one : (A : Aliases) → IsOne A → (p : Fill) (t u u' : Term) → Reads A p t u → Reads A p t u' → u ≡ u'
reads_one A one p (hole k) u u' r q = r ∙ sym q
reads_one A one p (leaf h) u u' r q = r.1 ∙ sym q.1
reads_one A one p (pair a b) u u' r q = by_role (role a) (reads_one A one p a) (reads_one A one p b) r q
  where
    IsOneOf : Term → Type 0
    IsOneOf t = (v w : Term) → Reads A p t v → Reads A p t w → v ≡ w

    by_role : (x : Role) → IsOneOf a → IsOneOf b → ReadsBy x A p a b u → ReadsBy x A p a b u' → u ≡ u'
    by_role plain left right r q = r.2 ∙ (ap₂ pair (left r.0 q.0 r.3 q.3) (right r.1 q.1 r.4 q.4) ∙ sym q.2)
    by_role (alias k) left right r q = one k q.0 u u' (subst (λ (x : Term). A k x u) (right r.0 q.0 r.1 q.1) r.2) q.2

-- only what stands for its holes counts
pub reads_agree : (A : Aliases) (p q : Fill) (t u : Term) → ((k : Hole) → occurs k t ≡ true → p k ≡ q k) → Reads A p t u → Reads A q t u
reads_agree A p q (hole k) u e r = r ∙ e k (hole_eq_same k)
reads_agree A p q (leaf h) u e r = r
reads_agree A p q (pair a b) u e r =
    by_role (role a) (λ v. reads_agree A p q a v (λ k h. e k (or_left (occurs k a) (occurs k b) h))) (λ v. reads_agree A p q b v (λ k h. e k (or_right (occurs k a) (occurs k b) h))) r
  where
    Keeps : Term → Type 0
    Keeps t = (v : Term) → Reads A p t v → Reads A q t v

    by_role : (x : Role) → Keeps a → Keeps b → ReadsBy x A p a b u → ReadsBy x A q a b u
    by_role plain left right r = (r.0, r.1, r.2, left r.0 r.3, right r.1 r.4)
    by_role (alias k) left right r = (r.0, right r.0 r.1, r.2)

-- what the term may read as tells what stands for its holes outside of aliases
pub may_tells : (p q : Fill) (t u : Term) → MayRead p t u → MayRead q t u → (k : Hole) → stands k t ≡ true → p k ≡ q k
may_tells p q (hole j) u r i k h = ap p (hole_eq_true k j h) ∙ sym r ∙ i ∙ ap q (sym (hole_eq_true k j h))
may_tells p q (leaf x) u r i k h = absurd (true≢false (sym h))
may_tells p q (pair a b) u r i k h = by_role (role a) (λ v x y. may_tells p q a v x y k) (λ v x y. may_tells p q b v x y k) r i h
  where
    Told : Term → Type 0
    Told t = (v : Term) → MayRead p t v → MayRead q t v → stands k t ≡ true → p k ≡ q k

    by_role : (x : Role) → Told a → Told b → MayReadBy x p a b u → MayReadBy x q a b u → stands_by x k a b ≡ true → p k ≡ q k
    by_role plain left right r i h =
        let e = sym r.2 ∙ i.2 in
        elim (or_cases (stands k a) (stands k b) h) [
          | inl j ↦ left i.0 (subst (MayRead p a) (pair_left e) r.3) i.3 j
          | inr j ↦ right i.1 (subst (MayRead p b) (pair_right e) r.4) i.4 j
        ]
    by_role (alias m) left right r i h = absurd (true≢false (sym h))
