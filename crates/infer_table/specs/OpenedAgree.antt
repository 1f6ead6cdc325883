-- When two terms agree but for aliases and unknowns: from equal opened terms, where each alias is settled.
use Rattle.std.proofs.Common.{◌≡◌, ℕ, Bool, true, false, cond, ◌⊎◌, inl, inr, List, [], ◌∷◌, ◌++◌, refl, sym, ap, ◌∙◌, subst, eq-eqb}
use Rattle.std.proofs.lemmas.Bool.{or_cases, or_left, or_right}
use Rattle.infer_table.specs.Words.{Hole, Term, hole, leaf, pair, occurs, hole_eq}
use Rattle.hir_types.specs.declared.head.Hole.TheVariants as hole_of
use Rattle.infer_table.specs.Solutions.{Log, resolved, sub}
use Rattle.infer_table.specs.Opened.{Place, plain, alias, unknown_type, unknown_const, place, opened, origins, MayDifferFrom, MayDiffer, Agree}
use Rattle.infer_table.specs.OpenedLaws.{opened_at, origins_at, place_leaf}
use Rattle.infer_table.specs.TermLemmas.{hole_eq_true, hole_eq_same, pair_left, pair_right}
use Rattle.infer_table.specs.LogLemmas.{resolved_leaf, resolved_pair, resolved_append}

-- ---- agreement

pub differ_agree : (a b : Term) → MayDiffer a b → Agree a b
differ_agree (hole k) b h = inl h
differ_agree (leaf k) b h = inl h
differ_agree (pair a c) (hole k) h = inl h
differ_agree (pair a c) (leaf k) h = inl h
differ_agree (pair a c) (pair b d) h = inl h

pub differed_agree : (a b : Term) → MayDiffer b a → Agree a b
differed_agree (hole k) b h = inr (inl h)
differed_agree (leaf k) b h = inr (inl h)
differed_agree (pair a c) (hole k) h = inr (inl h)
differed_agree (pair a c) (leaf k) h = inr (inl h)
differed_agree (pair a c) (pair b d) h = inr (inl h)

-- the parts agree
pub pairs_agree : (a b c d : Term) → Agree a c → Agree b d → Agree (pair a b) (pair c d)
pairs_agree a b c d f g = inr (inr (f, g))

pub agree_same : (a : Term) → Agree a a
agree_same (hole k) = inr (inr refl)
agree_same (leaf k) = inr (inr refl)
agree_same (pair a b) = inr (inr (agree_same a, agree_same b))

flip_agree : {A B C D : Type 0} → (C → D) → A ⊎ B ⊎ C → B ⊎ A ⊎ D
flip_agree f (inl a) = inr (inl a)
flip_agree f (inr (inl b)) = inl b
flip_agree f (inr (inr c)) = inr (inr (f c))

pub agree_flip : (a b : Term) → Agree a b → Agree b a
agree_flip (hole k) (hole j) h = flip_agree (λ e. sym e) h
agree_flip (hole k) (leaf j) h = flip_agree (λ e. sym e) h
agree_flip (hole k) (pair c d) h = flip_agree (λ e. sym e) h
agree_flip (leaf k) (hole j) h = flip_agree (λ e. sym e) h
agree_flip (leaf k) (leaf j) h = flip_agree (λ e. sym e) h
agree_flip (leaf k) (pair c d) h = flip_agree (λ e. sym e) h
agree_flip (pair a b) (hole j) h = flip_agree (λ e. sym e) h
agree_flip (pair a b) (leaf j) h = flip_agree (λ e. sym e) h
agree_flip (pair a b) (pair c d) h = flip_agree (λ e. (agree_flip a c e.0, agree_flip b d e.1)) h

-- whether a term may differ from another, by its place
abbrev differs_at : Place → Term → Term → Type 0
differs_at p a b = elim p [
  | plain ↦ ⊥
  | alias ↦ MayDifferFrom a b
  | unknown_type ↦ Unit {0}
  | unknown_const ↦ Unit {0}
]

-- ---- resolved terms

-- an alias stays an alias, `{unknown}` stays `{unknown}`
pub place_resolved : (l : Log) (a b : Term) → (place (pair a b) ≡ plain → ⊥) → place (resolved l (pair a b)) ≡ place (pair a b)
place_resolved l (hole k) b h = absurd (h refl)
place_resolved l (leaf k) b h =
    ap place (resolved_pair l (leaf k) b ∙ ap (λ (z : Term). pair z (resolved l b)) (resolved_leaf l k)) ∙ place_leaf k (resolved l b) b
place_resolved l (pair a c) b h = absurd (h refl)

abbrev pub IsNotPlain : Place → Type 0
IsNotPlain plain = ⊥
IsNotPlain _ = Unit {0}

place_kept : (l : Log) (a b : Term) (p : Place) → IsNotPlain p → place (pair a b) ≡ p → place (resolved l (pair a b)) ≡ p
place_kept l a b p n e = place_resolved l a b (λ f. let P : Place → Type 0 = λ z. IsNotPlain z in subst P (sym e ∙ f) n) ∙ e

pub alias_resolved : (l : Log) (t : Term) → place t ≡ alias → place (resolved l t) ≡ alias
alias_resolved l (hole k) e = cc
alias_resolved l (leaf k) e = cc
alias_resolved l (pair a b) e = place_kept l a b alias tt e

-- ---- settled

-- the hole that stood for an alias resolves to no type hole but one that stands in the resolved alias
abbrev pub IsSettled : Log → ℕ × Term → Type 0
IsSettled l p = MayDifferFrom (resolved l p.1) (resolved l (hole (hole_of.Ty p.0)))

abbrev pub AreSettled : Log → List (ℕ × Term) → Type 0
AreSettled l [] = Unit {0}
AreSettled l (p ∷ ps) = IsSettled l p × AreSettled l ps

pub settled_left : (l : Log) (ps qs : List (ℕ × Term)) → AreSettled l (ps ++ qs) → AreSettled l ps
settled_left l [] qs h = tt
settled_left l (p ∷ ps) qs h = (h.0, settled_left l ps qs h.1)

pub settled_right : (l : Log) (ps qs : List (ℕ × Term)) → AreSettled l (ps ++ qs) → AreSettled l qs
settled_right l [] qs h = h
settled_right l (p ∷ ps) qs h = settled_right l ps qs h.1

pub settled_append : (l : Log) (ps qs : List (ℕ × Term)) → AreSettled l ps → AreSettled l qs → AreSettled l (ps ++ qs)
settled_append l [] qs h g = g
settled_append l (p ∷ ps) qs h g = (h.0, settled_append l ps qs h.1 g)

-- an alias, what its hole resolves to, and any reading of what stands there
alias_differs : (a x : Term) → place a ≡ alias → MayDifferFrom a x → MayDiffer a x
alias_differs a x e h = let P : Place → Type 0 = λ p. differs_at p a x in subst P (sym e) h

unknown_type_differs : (a x : Term) → place a ≡ unknown_type → MayDiffer a x
unknown_type_differs a x e = let P : Place → Type 0 = λ p. differs_at p a x in subst P (sym e) tt

unknown_const_differs : (a x : Term) → place a ≡ unknown_const → MayDiffer a x
unknown_const_differs a x e = let P : Place → Type 0 = λ p. differs_at p a x in subst P (sym e) tt

-- a term with its places opened agrees with the term itself
self_agree_at : (p : Place) (l : Log) (n : ℕ) (a b : Term) → place (pair a b) ≡ p
    → ((m : ℕ) → AreSettled l (origins m a) → Agree (resolved l (opened m a).0) (resolved l a))
    → ((m : ℕ) → AreSettled l (origins m b) → Agree (resolved l (opened m b).0) (resolved l b)) → AreSettled l (origins_at p n a b)
    → Agree (resolved l (opened_at p n a b).0) (resolved l (pair a b))
self_agree_at plain l n a b e f g h =
    rw (resolved_pair l (opened n a).0 (opened (opened n a).1 b).0) (rw (resolved_pair l a b)
    (pairs_agree (resolved l (opened n a).0) (resolved l (opened (opened n a).1 b).0) (resolved l a) (resolved l b)
    (f n (settled_left l (origins n a) (origins (opened n a).1 b) h))
    (g (opened n a).1 (settled_right l (origins n a) (origins (opened n a).1 b) h))))
self_agree_at alias l n a b e f g h =
    differed_agree (resolved l (hole (hole_of.Ty n))) (resolved l (pair a b))
    (alias_differs (resolved l (pair a b)) (resolved l (hole (hole_of.Ty n))) (place_kept l a b alias tt e) h.0)
self_agree_at unknown_type l n a b e f g h =
    differed_agree (resolved l (hole (hole_of.Ty n))) (resolved l (pair a b))
    (unknown_type_differs (resolved l (pair a b)) (resolved l (hole (hole_of.Ty n))) (place_kept l a b unknown_type tt e))
self_agree_at unknown_const l n a b e f g h =
    differed_agree (resolved l (hole (hole_of.Const n))) (resolved l (pair a b))
    (unknown_const_differs (resolved l (pair a b)) (resolved l (hole (hole_of.Const n))) (place_kept l a b unknown_const tt e))

pub self_agree : (l : Log) (n : ℕ) (t : Term) → AreSettled l (origins n t) → Agree (resolved l (opened n t).0) (resolved l t)
self_agree l n (hole k) h = agree_same (resolved l (hole k))
self_agree l n (leaf k) h = agree_same (resolved l (leaf k))
self_agree l n (pair a b) h = self_agree_at (place (pair a b)) l n a b refl (λ m. self_agree l m a) (λ m. self_agree l m b) h

-- ---- both opened

-- what is no plain pair agrees with every pair
pair_outside_agree : (p : Place) (l : Log) (a b c d : Term) → IsNotPlain p → place (pair a b) ≡ p
    → Agree (resolved l (pair a b)) (resolved l (pair c d))
pair_outside_agree plain l a b c d n e = absurd n
pair_outside_agree alias l a b c d n e =
    differ_agree (resolved l (pair a b)) (resolved l (pair c d))
    (alias_differs (resolved l (pair a b)) (resolved l (pair c d)) (place_kept l a b alias tt e)
    (let P : Term → Type 0 = λ z. MayDifferFrom (resolved l (pair a b)) z in subst P (sym (resolved_pair l c d)) tt))
pair_outside_agree unknown_type l a b c d n e =
    differ_agree (resolved l (pair a b)) (resolved l (pair c d))
    (unknown_type_differs (resolved l (pair a b)) (resolved l (pair c d)) (place_kept l a b unknown_type tt e))
pair_outside_agree unknown_const l a b c d n e =
    differ_agree (resolved l (pair a b)) (resolved l (pair c d))
    (unknown_const_differs (resolved l (pair a b)) (resolved l (pair c d)) (place_kept l a b unknown_const tt e))

-- two terms agree once their opened terms resolve to one
abbrev OpenAgree : Log → Term → Term → Type 0
OpenAgree l a b = (n m : ℕ) → resolved l (opened n a).0 ≡ resolved l (opened m b).0 → AreSettled l (origins n a)
    → AreSettled l (origins m b) → Agree (resolved l a) (resolved l b)

pairs_open_agree : (p q : Place) (l : Log) (n m : ℕ) (a b c d : Term) → place (pair a b) ≡ p → place (pair c d) ≡ q → OpenAgree l a c
    → OpenAgree l b d → resolved l (opened_at p n a b).0 ≡ resolved l (opened_at q m c d).0 → AreSettled l (origins_at p n a b)
    → AreSettled l (origins_at q m c d) → Agree (resolved l (pair a b)) (resolved l (pair c d))
pairs_open_agree plain plain l n m a b c d e f i j h s t =
    let g = sym (resolved_pair l (opened n a).0 (opened (opened n a).1 b).0) ∙ h ∙ resolved_pair l (opened m c).0
    (opened (opened m c).1 d).0 in
    rw (resolved_pair l a b) (rw (resolved_pair l c d)
    (pairs_agree (resolved l a) (resolved l b) (resolved l c) (resolved l d)
    (i n m (pair_left g) (settled_left l (origins n a) (origins (opened n a).1 b) s)
    (settled_left l (origins m c) (origins (opened m c).1 d) t))
    (j (opened n a).1 (opened m c).1 (pair_right g) (settled_right l (origins n a) (origins (opened n a).1 b) s)
    (settled_right l (origins m c) (origins (opened m c).1 d) t))))
pairs_open_agree plain alias l n m a b c d e f i j h s t =
    agree_flip (resolved l (pair c d)) (resolved l (pair a b)) (pair_outside_agree alias l c d a b tt f)
pairs_open_agree plain unknown_type l n m a b c d e f i j h s t =
    agree_flip (resolved l (pair c d)) (resolved l (pair a b)) (pair_outside_agree unknown_type l c d a b tt f)
pairs_open_agree plain unknown_const l n m a b c d e f i j h s t =
    agree_flip (resolved l (pair c d)) (resolved l (pair a b)) (pair_outside_agree unknown_const l c d a b tt f)
pairs_open_agree alias q l n m a b c d e f i j h s t = pair_outside_agree alias l a b c d tt e
pairs_open_agree unknown_type q l n m a b c d e f i j h s t = pair_outside_agree unknown_type l a b c d tt e
pairs_open_agree unknown_const q l n m a b c d e f i j h s t = pair_outside_agree unknown_const l a b c d tt e

agree_to : (l : Log) (m : ℕ) (a b : Term) → resolved l a ≡ resolved l (opened m b).0 → AreSettled l (origins m b)
    → Agree (resolved l a) (resolved l b)
agree_to l m a b h t = let P : Term → Type 0 = λ z. Agree z (resolved l b) in subst P (sym h) (self_agree l m b t)

pub opened_agree : (l : Log) (n m : ℕ) (a b : Term) → resolved l (opened n a).0 ≡ resolved l (opened m b).0 → AreSettled l (origins n a)
    → AreSettled l (origins m b) → Agree (resolved l a) (resolved l b)
opened_agree l n m (hole k) b h s t = agree_to l m (hole k) b h t
opened_agree l n m (leaf k) b h s t = agree_to l m (leaf k) b h t
opened_agree l n m (pair a c) (hole k) h s t =
    agree_flip (resolved l (hole k)) (resolved l (pair a c)) (agree_to l n (hole k) (pair a c) (sym h) s)
opened_agree l n m (pair a c) (leaf k) h s t =
    agree_flip (resolved l (leaf k)) (resolved l (pair a c)) (agree_to l n (leaf k) (pair a c) (sym h) s)
opened_agree l n m (pair a c) (pair b d) h s t =
    pairs_open_agree (place (pair a c)) (place (pair b d)) l n m a c b d refl refl (λ i j. opened_agree l i j a b)
    (λ i j. opened_agree l i j c d) h s t

-- ---- settled stays settled

abbrev pub IsNoTypeHole : Term → Type 0
IsNoTypeHole (hole (hole_of.Ty n)) = ⊥
IsNoTypeHole _ = Unit {0}

pub alias_no_hole : (t : Term) → place t ≡ alias → IsNoTypeHole t
alias_no_hole (hole k) e = cc
alias_no_hole (leaf k) e = tt
alias_no_hole (pair a b) e = tt

-- an alias may differ from what is no type hole
pub differs_from : (a x : Term) → IsNoTypeHole x → MayDifferFrom a x
differs_from a (hole (hole_of.Ty n)) h = absurd h
differs_from a (hole (hole_of.Int n)) h = tt
differs_from a (hole (hole_of.Const n)) h = tt
differs_from a (leaf k) h = tt
differs_from a (pair b c) h = tt

-- the hole of a type, told apart from the one that is bound, stays
occurs_stays : (y x : Hole) (u t : Term) → hole_eq x y ≡ false → occurs y t ≡ true → occurs y (sub x u t) ≡ true
occurs_stays y x u (hole k) e h = let P : Hole → Type 0 = λ z. occurs y (cond (hole_eq x z) u (hole z)) ≡ true in
    subst P (hole_eq_true y k h) (rw e (hole_eq_same y))
occurs_stays y x u (leaf k) e h = h
occurs_stays y x u (pair a b) e h = elim (or_cases (occurs y a) (occurs y b) h) [
  | inl p ↦ or_left (occurs y (sub x u a)) (occurs y (sub x u b)) (occurs_stays y x u a e p)
  | inr p ↦ or_right (occurs y (sub x u a)) (occurs y (sub x u b)) (occurs_stays y x u b e p)
]

settled_hole : (x : Hole) (u a : Term) (n : ℕ) (b : Bool) → hole_eq x (hole_of.Ty n) ≡ b → IsNoTypeHole u → occurs (hole_of.Ty n) a ≡ true
    → MayDifferFrom (sub x u a) (cond b u (hole (hole_of.Ty n)))
settled_hole x u a n true e h o = differs_from (sub x u a) u h
settled_hole x u a n false e h o = occurs_stays (hole_of.Ty n) x u a e o

-- a hole that is of no type, under a binding to no type hole
no_hole_cond : (b : Bool) (u t : Term) → IsNoTypeHole u → IsNoTypeHole t → IsNoTypeHole (cond b u t)
no_hole_cond true u t h g = h
no_hole_cond false u t h g = g

differs_sub : (x : Hole) (u a t : Term) → IsNoTypeHole u → MayDifferFrom a t → MayDifferFrom (sub x u a) (sub x u t)
differs_sub x u a (hole (hole_of.Ty n)) h d = settled_hole x u a n (hole_eq x (hole_of.Ty n)) refl h d
differs_sub x u a (hole (hole_of.Int n)) h d =
    differs_from (sub x u a) (sub x u (hole (hole_of.Int n))) (no_hole_cond (hole_eq x (hole_of.Int n)) u (hole (hole_of.Int n)) h tt)
differs_sub x u a (hole (hole_of.Const n)) h d =
    differs_from (sub x u a) (sub x u (hole (hole_of.Const n))) (no_hole_cond (hole_eq x (hole_of.Const n)) u (hole (hole_of.Const n)) h tt)
differs_sub x u a (leaf k) h d = tt
differs_sub x u a (pair b c) h d = tt

-- one more binding, to what is no type hole
pub settled_more : (l : Log) (x : Hole) (u : Term) (p : ℕ × Term) → IsNoTypeHole u → IsSettled l p → IsSettled (l ++ (x, u) ∷ []) p
settled_more l x u p h d =
    rw (resolved_append l ((x, u) ∷ []) p.1) (rw (resolved_append l ((x, u) ∷ []) (hole (hole_of.Ty p.0)))
    (differs_sub x u (resolved l p.1) (resolved l (hole (hole_of.Ty p.0))) h d))

pub settled_all_more : (l : Log) (x : Hole) (u : Term) (ps : List (ℕ × Term)) → IsNoTypeHole u → AreSettled l ps
    → AreSettled (l ++ (x, u) ∷ []) ps
settled_all_more l x u [] h d = tt
settled_all_more l x u (p ∷ ps) h d = (settled_more l x u p h d.0, settled_all_more l x u ps h d.1)

-- and the hole that is bound is settled by it
pub settled_bound : (l : Log) (k : ℕ) (u : Term) (p : ℕ × Term) → IsNoTypeHole u → resolved l (hole (hole_of.Ty p.0)) ≡ hole (hole_of.Ty k)
    → IsSettled (l ++ (hole_of.Ty k, u) ∷ []) p
settled_bound l k u p h e =
    differs_from (resolved (l ++ (hole_of.Ty k, u) ∷ []) p.1) (resolved (l ++ (hole_of.Ty k, u) ∷ []) (hole (hole_of.Ty p.0)))
    (rw (resolved_append l ((hole_of.Ty k, u) ∷ []) (hole (hole_of.Ty p.0))) (rw e (rw (eq-eqb k k refl) h)))

-- ---- going through the origins

-- a step at an origin whose hole resolves to an open type hole that does not stand in the alias
pub record SettlesAtOrigin (l : Log) (k : ℕ) (u : Term) : Type 0 where
  pub keeps : (p : ℕ × Term) → IsSettled l p → IsSettled (l ++ (hole_of.Ty k, u) ∷ []) p
  pub keeps_all : (ps : List (ℕ × Term)) → AreSettled l ps → AreSettled (l ++ (hole_of.Ty k, u) ∷ []) ps
  pub settles : (p : ℕ × Term) → resolved l (hole (hole_of.Ty p.0)) ≡ hole (hole_of.Ty k) → IsSettled (l ++ (hole_of.Ty k, u) ∷ []) p

pub settle_step : (l : Log) (k : ℕ) (t : Term) → place t ≡ alias → SettlesAtOrigin l k (resolved l t)
settle_step l k t e = let h = alias_no_hole (resolved l t) (alias_resolved l t e) in record {
  keeps = λ p d. settled_more l (hole_of.Ty k) (resolved l t) p h d;
  keeps_all = λ ps d. settled_all_more l (hole_of.Ty k) (resolved l t) ps h d;
  settles = λ p d. settled_bound l k (resolved l t) p h d;
}

-- no step is needed
pub settled_here : (l : Log) (p : ℕ × Term) → IsNoTypeHole (resolved l (hole (hole_of.Ty p.0))) → IsSettled l p
settled_here l p h = differs_from (resolved l p.1) (resolved l (hole (hole_of.Ty p.0))) h

pub settled_inside : (l : Log) (p : ℕ × Term) (k : ℕ) → resolved l (hole (hole_of.Ty p.0)) ≡ hole (hole_of.Ty k)
    → occurs (hole_of.Ty k) (resolved l p.1) ≡ true → IsSettled l p
settled_inside l p k e h = let P : Term → Type 0 = λ z. MayDifferFrom (resolved l p.1) z in subst P (sym e) h
