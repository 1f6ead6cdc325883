-- Terms with holes in the places of aliases and unknowns: bounds, plainness, readings.
use Rattle.std.proofs.Common.{◌≡◌, ℕ, ◌+◌, ◌<◌, ◌≤◌, true, cond, ◌⊎◌, inl, inr, List, [], ◌∷◌, ◌++◌, refl, sym, ap, ap₂, ◌∙◌, subst, arith, eq-eqb}
use Rattle.std.proofs.lemmas.Bool.{or_cases, or_left, or_right}
use Rattle.infer_table.specs.Words.{Head, Hole, Term, hole, leaf, pair, apply, occurs, hole_eq, hole_number, IsInt}
use Rattle.hir_types.specs.declared.head.Head.TheVariants as head
use Rattle.hir_types.specs.declared.head.Hole.TheVariants as hole_of
use Rattle.infer_table.specs.Solutions.{Log, Solves, Respects, IsIntHole, NoneUnifies}
use Rattle.infer_table.specs.TermLemmas.{hole_eq_true, hole_eq_same, hole_ne, apply_agree}
use Rattle.infer_table.specs.Opened.{Place, plain, alias, unknown_type, unknown_const, place, IsPlain, IsReadAs, opened, origins}

-- ---- by the place

abbrev pub opened_at : Place → ℕ → Term → Term → Term × ℕ
opened_at p n a b = elim p [
  | plain ↦ (pair (opened n a).0 (opened (opened n a).1 b).0, (opened (opened n a).1 b).1)
  | alias ↦ (hole (hole_of.Ty n), n + 1)
  | unknown_type ↦ (hole (hole_of.Ty n), n + 1)
  | unknown_const ↦ (hole (hole_of.Const n), n + 1)
]

abbrev pub origins_at : Place → ℕ → Term → Term → List (ℕ × Term)
origins_at p n a b = elim p [
  | plain ↦ origins n a ++ origins (opened n a).1 b
  | alias ↦ (n, pair a b) ∷ []
  | unknown_type ↦ []
  | unknown_const ↦ []
]

abbrev pub Reads_at : Place → (Hole → Term) → Term → Term → Term → Type 0
Reads_at p s a b u = elim p [
  | plain ↦ (v : Term) × (w : Term) × (u ≡ pair v w) × IsReadAs s a v × IsReadAs s b w
  | alias ↦ Unit {0}
  | unknown_type ↦ Unit {0}
  | unknown_const ↦ Unit {0}
]

-- ---- plain terms stay

plain_pair : (n : ℕ) (a b : Term) (p : Place) → p ≡ plain → opened n a ≡ (a, n) → opened n b ≡ (b, n) → opened_at p n a b ≡ (pair a b, n)
plain_pair n a b p e f g = let P : Place → Type 0 = λ z. opened_at z n a b ≡ (pair a b, n) in
    subst P (sym e) (rw f (rw g refl))

pub opened_plain : (n : ℕ) (t : Term) → IsPlain t → opened n t ≡ (t, n)
opened_plain n (hole k) h = refl
opened_plain n (leaf k) h = refl
opened_plain n (pair a b) h = plain_pair n a b (place (pair a b)) h.0 (opened_plain n a h.1) (opened_plain n b h.2)

plain_origins_pair : (n : ℕ) (a b : Term) (p : Place) → p ≡ plain → opened n a ≡ (a, n) → origins n a ≡ [] → origins n b ≡ []
    → origins_at p n a b ≡ []
plain_origins_pair n a b p e f g h = let P : Place → Type 0 = λ z. origins_at z n a b ≡ [] in
    subst P (sym e) (rw f (rw g (rw h refl)))

pub origins_plain : (n : ℕ) (t : Term) → IsPlain t → origins n t ≡ []
origins_plain n (hole k) h = refl
origins_plain n (leaf k) h = refl
origins_plain n (pair a b) h =
    plain_origins_pair n a b (place (pair a b)) h.0 (opened_plain n a h.1) (origins_plain n a h.1) (origins_plain n b h.2)

-- ---- an opened term is plain

-- whether a pair is an alias or an unknown depends on its first leaf alone
pub place_leaf : (h : Head) (b c : Term) → place (pair (leaf h) b) ≡ place (pair (leaf h) c)
place_leaf (head.Projection id) b c = refl
place_leaf (head.Opaque id) b c = refl
place_leaf head.Error b c = refl
place_leaf head.UnknownConst b c = refl
place_leaf _ b c = refl

-- ---- numbers

-- a hole of types or of consts, with its number in a range
abbrev pub IsFresh : ℕ → ℕ → Hole → Type 0
IsFresh low high k = (low ≤ hole_number k) × (hole_number k < high) × (IsIntHole k → ⊥)

-- holes stand for aliases: the numbers of a range, the aliases of a term
abbrev pub AreOrigins : ℕ → ℕ → Term → List (ℕ × Term) → Type 0
AreOrigins low high t [] = Unit {0}
AreOrigins low high t (p ∷ ps) =
    (low ≤ p.0) × (p.0 < high) × (place p.1 ≡ alias) × ((k : Hole) → occurs k p.1 ≡ true → occurs k t ≡ true) × AreOrigins low high t ps

pub record OpenedBounds (n : ℕ) (t u : Term) (m : ℕ) (ps : List (ℕ × Term)) : Type 0 where
  pub grows : n ≤ m
  pub holes : (k : Hole) → occurs k u ≡ true → (occurs k t ≡ true) ⊎ IsFresh n m k
  pub origins : AreOrigins n m t ps

origins_wider : (low high low2 high2 : ℕ) (t u : Term) (ps : List (ℕ × Term)) → low2 ≤ low → high ≤ high2
    → ((k : Hole) → occurs k t ≡ true → occurs k u ≡ true) → AreOrigins low high t ps → AreOrigins low2 high2 u ps
origins_wider low high low2 high2 t u [] e f g h = tt
origins_wider low high low2 high2 t u (p ∷ ps) e f g h =
    (omega (arith, h.0), omega (arith, h.1), h.2, (λ k o. g k (h.3 k o)), origins_wider low high low2 high2 t u ps e f g h.4)

origins_append : (low high : ℕ) (t : Term) (ps qs : List (ℕ × Term)) → AreOrigins low high t ps → AreOrigins low high t qs
    → AreOrigins low high t (ps ++ qs)
origins_append low high t [] qs h g = g
origins_append low high t (p ∷ ps) qs h g = (h.0, h.1, h.2, h.3, origins_append low high t ps qs h.4 g)

fresh_wider : (low high low2 high2 : ℕ) (k : Hole) → low2 ≤ low → high ≤ high2 → IsFresh low high k → IsFresh low2 high2 k
fresh_wider low high low2 high2 k e f h = (omega (arith, h.0), omega (arith, h.1), h.2)

fresh_ty : (n : ℕ) (k : Hole) → hole_eq k (hole_of.Ty n) ≡ true → IsFresh n (n + 1) k
fresh_ty n k e = let P : Hole → Type 0 = λ z. IsFresh n (n + 1) z in
    subst P (sym (hole_eq_true k (hole_of.Ty n) e)) (omega arith, omega arith, (λ h. h))

fresh_const : (n : ℕ) (k : Hole) → hole_eq k (hole_of.Const n) ≡ true → IsFresh n (n + 1) k
fresh_const n k e = let P : Hole → Type 0 = λ z. IsFresh n (n + 1) z in
    subst P (sym (hole_eq_true k (hole_of.Const n) e)) (omega arith, omega arith, (λ h. h))

bounds_at : (p : Place) (n : ℕ) (a b : Term) → place (pair a b) ≡ p
    → ((m : ℕ) → OpenedBounds m a (opened m a).0 (opened m a).1 (origins m a))
    → ((m : ℕ) → OpenedBounds m b (opened m b).0 (opened m b).1 (origins m b))
    → OpenedBounds n (pair a b) (opened_at p n a b).0 (opened_at p n a b).1 (origins_at p n a b)
bounds_at plain n a b e f g = let x = f n in let y = g (opened n a).1 in let i = x.grows in let j = y.grows in record {
  grows = omega arith;
  holes = λ k o. elim (or_cases (occurs k (opened n a).0) (occurs k (opened (opened n a).1 b).0) o) [
    | inl q ↦ elim (x.holes k q) [
      | inl r ↦ inl (or_left (occurs k a) (occurs k b) r)
      | inr r ↦ inr (fresh_wider n (opened n a).1 n (opened (opened n a).1 b).1 k (omega arith) j r)
    ]
    | inr q ↦ elim (y.holes k q) [
      | inl r ↦ inl (or_right (occurs k a) (occurs k b) r)
      | inr r ↦ inr (fresh_wider (opened n a).1 (opened (opened n a).1 b).1 n (opened (opened n a).1 b).1 k i (omega arith) r)
    ]
  ];
  origins = origins_append n (opened (opened n a).1 b).1 (pair a b) (origins n a) (origins (opened n a).1 b)
      (origins_wider n (opened n a).1 n (opened (opened n a).1 b).1 a (pair a b) (origins n a) (omega arith) j
      (λ k o. or_left (occurs k a) (occurs k b) o) x.origins)
      (origins_wider (opened n a).1 (opened (opened n a).1 b).1 n (opened (opened n a).1 b).1 b (pair a b) (origins (opened n a).1 b) i
      (omega arith) (λ k o. or_right (occurs k a) (occurs k b) o) y.origins);
}
bounds_at alias n a b e f g = record {
  grows = omega arith;
  holes = λ k o. inr (fresh_ty n k o);
  origins = (omega arith, omega arith, e, (λ k o. o), tt);
}
bounds_at unknown_type n a b e f g = record {
  grows = omega arith;
  holes = λ k o. inr (fresh_ty n k o);
  origins = tt;
}
bounds_at unknown_const n a b e f g = record {
  grows = omega arith;
  holes = λ k o. inr (fresh_const n k o);
  origins = tt;
}

pub opened_bounds : (n : ℕ) (t : Term) → OpenedBounds n t (opened n t).0 (opened n t).1 (origins n t)
opened_bounds n (hole k) = record { grows = omega arith; holes = λ k o. inl o; origins = tt }
opened_bounds n (leaf h) = record { grows = omega arith; holes = λ k o. inl o; origins = tt }
opened_bounds n (pair a b) = bounds_at (place (pair a b)) n a b refl (λ m. opened_bounds m a) (λ m. opened_bounds m b)

-- ---- readings

-- each hole of the term is numbered below `n`
abbrev pub IsBelow : ℕ → Term → Type 0
IsBelow n t = (k : Hole) → occurs k t ≡ true → hole_number k < n

-- each hole of the log, bound or in a bound term, is
abbrev pub LogIsBelow : ℕ → Log → Type 0
LogIsBelow n [] = Unit {0}
LogIsBelow n (p ∷ l) = (hole_number p.0 < n) × IsBelow n p.1 × LogIsBelow n l

-- the opened term's holes stand below the number after it
pub opened_below : (n : ℕ) (t : Term) → IsBelow n t → IsBelow (opened n t).1 (opened n t).0
opened_below n t h k o = let b = opened_bounds n t in let g = b.grows in
    elim (b.holes k o) [ inl e ↦ omega (arith, h k e) | inr e ↦ e.1 ]

-- the same but in a range
abbrev pub SameBut : ℕ → ℕ → (Hole → Term) → (Hole → Term) → Type 0
SameBut low high s z = (k : Hole) → (hole_number k < low) ⊎ (high ≤ hole_number k) → z k ≡ s k

reads_same_at : (p : Place) (s z : Hole → Term) (a b u : Term) → ((v : Term) → IsReadAs s a v → IsReadAs z a v)
    → ((w : Term) → IsReadAs s b w → IsReadAs z b w) → Reads_at p s a b u → Reads_at p z a b u
reads_same_at plain s z a b u f g h = (h.0, h.1, h.2, f h.0 h.3, g h.1 h.4)
reads_same_at alias s z a b u f g h = tt
reads_same_at unknown_type s z a b u f g h = tt
reads_same_at unknown_const s z a b u f g h = tt

pub reads_same : (s z : Hole → Term) (t u : Term) → ((k : Hole) → occurs k t ≡ true → z k ≡ s k) → IsReadAs s t u → IsReadAs z t u
reads_same s z (hole k) u f h = f k (hole_eq_same k) ∙ h
reads_same s z (leaf a) u f h = h
reads_same s z (pair a b) u f h = reads_same_at (place (pair a b)) s z a b u
    (λ v. reads_same s z a v (λ k o. f k (or_left (occurs k a) (occurs k b) o)))
    (λ w. reads_same s z b w (λ k o. f k (or_right (occurs k a) (occurs k b) o))) h

pub solves_same : (s z : Hole → Term) (n : ℕ) (l : Log) → LogIsBelow n l → ((k : Hole) → hole_number k < n → z k ≡ s k) → Solves s l
    → Solves z l
solves_same s z n [] b f h = tt
solves_same s z n (p ∷ l) b f h =
    (f p.0 b.0 ∙ h.0 ∙ sym (apply_agree z s p.1 (λ k o. f k (b.1 k o))), solves_same s z n l b.2 f h.1)

reads_apply_at : (p : Place) (s : Hole → Term) (n : ℕ) (a b u : Term) → ((m : ℕ) (v : Term) → apply s (opened m a).0 ≡ v → IsReadAs s a v)
    → ((m : ℕ) (w : Term) → apply s (opened m b).0 ≡ w → IsReadAs s b w) → apply s (opened_at p n a b).0 ≡ u → Reads_at p s a b u
reads_apply_at plain s n a b u f g e = (
  apply s (opened n a).0,
  apply s (opened (opened n a).1 b).0,
  sym e,
  f n (apply s (opened n a).0) refl,
  g (opened n a).1
      (apply s (opened (opened n a).1 b).0) refl,
)
reads_apply_at alias s n a b u f g e = tt
reads_apply_at unknown_type s n a b u f g e = tt
reads_apply_at unknown_const s n a b u f g e = tt

-- what stands for the new holes is a reading
pub reads_apply : (s : Hole → Term) (n : ℕ) (t u : Term) → apply s (opened n t).0 ≡ u → IsReadAs s t u
reads_apply s n (hole k) u e = e
reads_apply s n (leaf h) u e = e
reads_apply s n (pair a b) u e = reads_apply_at (place (pair a b)) s n a b u (λ m v. reads_apply s m a v) (λ m w. reads_apply s m b w) e

-- an assignment that differs from `s` at new holes only, and makes the opened term `u`
abbrev pub Fills : ℕ → ℕ → (Hole → Term) → Term → Term → Type 0
Fills low high s t u = (z : Hole → Term) × SameBut low high s z × (Respects s → Respects z) × (apply z t ≡ u)

fills_ty : (n : ℕ) (s : Hole → Term) (u : Term) → Fills n (n + 1) s (hole (hole_of.Ty n)) u
fills_ty n s u = (
  λ k. cond (hole_eq (hole_of.Ty n) k) u (s k),
  λ k h. rw (hole_ne (hole_of.Ty n) k (λ e. let f = ap hole_number e in elim h [ inl i ↦ omega arith | inr i ↦ omega arith ])) refl,
  λ r k. keeps r k,
  rw (eq-eqb n n refl) refl,
)
  where
    keeps : Respects s → (k : Hole) → IsIntHole k → IsInt (cond (hole_eq (hole_of.Ty n) k) u (s k))
    keeps r (hole_of.Ty m) h = absurd h
    keeps r (hole_of.Int m) h = r (hole_of.Int m) h
    keeps r (hole_of.Const m) h = absurd h

fills_const : (n : ℕ) (s : Hole → Term) (u : Term) → Fills n (n + 1) s (hole (hole_of.Const n)) u
fills_const n s u = (
  λ k. cond (hole_eq (hole_of.Const n) k) u (s k),
  λ k h. rw (hole_ne (hole_of.Const n) k (λ e. let f = ap hole_number e in elim h [ inl i ↦ omega arith | inr i ↦ omega arith ])) refl,
  λ r k. keeps r k,
  rw (eq-eqb n n refl) refl,
)
  where
    keeps : Respects s → (k : Hole) → IsIntHole k → IsInt (cond (hole_eq (hole_of.Const n) k) u (s k))
    keeps r (hole_of.Ty m) h = absurd h
    keeps r (hole_of.Int m) h = r (hole_of.Int m) h
    keeps r (hole_of.Const m) h = absurd h

fills_at : (p : Place) (n : ℕ) (s : Hole → Term) (a b u : Term) → IsBelow n a → IsBelow n b
    → ((m : ℕ) (z : Hole → Term) (v : Term) → IsBelow m a → IsReadAs z a v → Fills m (opened m a).1 z (opened m a).0 v)
    → ((m : ℕ) (z : Hole → Term) (w : Term) → IsBelow m b → IsReadAs z b w → Fills m (opened m b).1 z (opened m b).0 w)
    → Reads_at p s a b u → Fills n (opened_at p n a b).1 s (opened_at p n a b).0 u
fills_at plain n s a b u i j f g h =
    let x = opened_bounds n a in
    let y = opened_bounds (opened n a).1 b in
    let xg = x.grows in
    let yg = y.grows in
    let c = f n s h.0 i h.3 in
    let d = g (opened n a).1 c.0 h.1 (λ k o. omega (arith, j k o)) (reads_same s c.0 b h.1 (λ k o. c.1 k (inl (j k o))) h.4) in (
      d.0,
      λ k o. elim o [
        | inl q ↦ d.1 k (inl (omega arith)) ∙ c.1 k (inl q)
        | inr q ↦ d.1 k (inr q) ∙ c.1 k (inr (omega arith))
      ],
      λ r. d.2 (c.2 r),
      ap₂ pair (apply_agree d.0 c.0 (opened n a).0 (λ k o. d.1 k (inl (opened_below n a i k o))) ∙ c.3) d.3 ∙ sym h.2,
    )
fills_at alias n s a b u i j f g h = fills_ty n s u
fills_at unknown_type n s a b u i j f g h = fills_ty n s u
fills_at unknown_const n s a b u i j f g h = fills_const n s u

-- each reading comes from what stands for the new holes
pub reads_fills : (n : ℕ) (s : Hole → Term) (t u : Term) → IsBelow n t → IsReadAs s t u → Fills n (opened n t).1 s (opened n t).0 u
reads_fills n s (hole k) u i h = (s, (λ k o. refl), (λ r. r), h)
reads_fills n s (leaf a) u i h = (s, (λ k o. refl), (λ r. r), h)
reads_fills n s (pair a b) u i h = fills_at (place (pair a b)) n s a b u
    (λ k o. i k (or_left (occurs k a) (occurs k b) o)) (λ k o. i k (or_right (occurs k a) (occurs k b) o))
    (λ m z v. reads_fills m z a v) (λ m z w. reads_fills m z b w) h

-- two terms with a reading in common are made equal by what stands for the new holes
pub reads_both : (n : ℕ) (s : Hole → Term) (a b u : Term) → IsBelow n a → IsBelow n b → IsReadAs s a u → IsReadAs s b u → (z : Hole → Term)
    × ((k : Hole) → hole_number k < n → z k ≡ s k) × (Respects s → Respects z)
    × (apply z (opened n a).0 ≡ apply z (opened (opened n a).1 b).0)
reads_both n s a b u i j f g =
    let x = opened_bounds n a in
    let xg = x.grows in
    let c = reads_fills n s a u i f in
    let d = reads_fills (opened n a).1 c.0 b u (λ k o. omega (arith, j k o)) (reads_same s c.0 b u (λ k o. c.1 k (inl (j k o))) g) in (
      d.0,
      λ k o. d.1 k (inl (omega arith)) ∙ c.1 k (inl o),
      λ r. d.2 (c.2 r),
      apply_agree d.0 c.0 (opened n a).0 (λ k o. d.1 k (inl (opened_below n a i k o))) ∙ c.3 ∙ sym d.3,
    )

-- where the opened terms cannot be made equal, the two have no reading in common
pub none_reads : (n : ℕ) (l : Log) (a b : Term) → IsBelow n a → IsBelow n b → LogIsBelow n l
    → NoneUnifies l (opened n a).0 (opened (opened n a).1 b).0 → (s : Hole → Term) (u : Term) → Respects s → Solves s l → IsReadAs s a u
    → IsReadAs s b u → ⊥
none_reads n l a b i j k none s u r h f g =
    let d = reads_both n s a b u i j f g in
    none d.0 (d.2 r) (solves_same s d.0 n l k d.1 h) d.3
