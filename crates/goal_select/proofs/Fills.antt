-- What stands for the holes of a table, and for those that are made for the parameters of an impl.
use Rattle.std.proofs.Common.{◌≡◌, ◌<◌, ◌≤◌, ◌+◌, ◌-◌, ℕ, Bool, true, false, cond, nat_lt, sym, ap, ◌∙◌, subst, arith, List, length, inl, inr, true≢false}
use Rattle.std.proofs.lemmas.Bool.{or_cases, false_from_ne_true, lt-ltb, le-ltb}
use Rattle.std.proofs.lemmas.Option.{slice_get_within}
use Rattle.goal_select.specs.Words.{Hole, HoleKind, Term, hole, leaf, pair, apply, occurs, hole_number, IsInt, Log, Solves, Respects, Free, hole_kind, AreOf, BindsOf, binds_found, binds_of_found, solves_same, below_of, log_below_of, apply_apply, apply_agree, hole_eq_true, Fill, IsRead, IsFilling, fresh, HasHolesBelow}
use Rattle.hir_types.specs.declared.head.Hole.TheVariants as hole_of

-- ---- holes made for parameters

fresh_number : (n : ℕ) (y k : Hole) → occurs y (fresh n k) ≡ true → n ≤ hole_number y
fresh_number n y (hole_of.Ty k) o = let e = ap hole_number (hole_eq_true y (hole_of.Ty (n + k)) o) in omega (arith, e)
fresh_number n y (hole_of.Int k) o = let e = ap hole_number (hole_eq_true y (hole_of.Int (n + k)) o) in omega (arith, e)
fresh_number n y (hole_of.Const k) o = let e = ap hole_number (hole_eq_true y (hole_of.Const (n + k)) o) in omega (arith, e)

-- they have numbers from the first on
pub fresh_above : (n : ℕ) (t : Term) (y : Hole) → occurs y (apply (fresh n) t) ≡ true → n ≤ hole_number y
fresh_above n (hole k) y o = fresh_number n y k o
fresh_above n (leaf h) y o = absurd (true≢false (sym o))
fresh_above n (pair a b) y o = elim (or_cases (occurs y (apply (fresh n) a)) (occurs y (apply (fresh n) b)) o) [
  | inl e ↦ fresh_above n a y e
  | inr e ↦ fresh_above n b y e
]

-- none of them is bound
pub fresh_free : (kinds : List HoleKind) (l : Log) (t : Term) → BindsOf kinds l → Free l (apply (fresh (length kinds)) t)
fresh_free kinds l t h y b = false_from_ne_true (occurs y (apply (fresh (length kinds)) t)) (λ o.
    let f = binds_found l y b in
    let below = slice_get_within kinds (hole_number y) (hole_kind y) (binds_of_found kinds l y f.0 h f.1).0 in
    omega (arith, below, fresh_above (length kinds) t y o))

-- ---- what stands for both

abbrev beyond : ℕ → Fill → Fill
beyond n v (hole_of.Ty k) = v (hole_of.Ty (k - n))
beyond n v k = hole k

-- below number `n` as `s` has it, and for the new holes for types as `v` has them from 0 on
abbrev pub joined : ℕ → Fill → Fill → Fill
joined n s v k = cond (nat_lt (hole_number k) n) (s k) (beyond n v k)

pub joined_below : (n : ℕ) (s v : Fill) (k : Hole) → hole_number k < n → joined n s v k ≡ s k
joined_below n s v k less = ap (λ (b : Bool). cond b (s k) (beyond n v k)) (lt-ltb (hole_number k) n less)

joined_new : (n : ℕ) (s v : Fill) (j : ℕ) → joined n s v (hole_of.Ty (n + j)) ≡ v (hole_of.Ty j)
joined_new n s v j =
    let more : n ≤ n + j = omega arith in
    let same : (n + j) - n ≡ j = omega arith in
    ap (λ (b : Bool). cond b (s (hole_of.Ty (n + j))) (beyond n v (hole_of.Ty (n + j)))) (le-ltb (n + j) n more) ∙ ap (λ m. v (hole_of.Ty m)) same

pub joined_of : (kinds : List HoleKind) (s v : Fill) (t : Term) → AreOf kinds t → apply (joined (length kinds) s v) t ≡ apply s t
joined_of kinds s v t h = apply_agree (joined (length kinds) s v) s t (λ k o. joined_below (length kinds) s v k (below_of kinds t h k o))

pub joined_solves : (kinds : List HoleKind) (s v : Fill) (l : Log) → BindsOf kinds l → Solves s l → Solves (joined (length kinds) s v) l
joined_solves kinds s v l h m = solves_same s (joined (length kinds) s v) (length kinds) l (log_below_of kinds l h) (joined_below (length kinds) s v) m

pub joined_fresh : (n m : ℕ) (s v : Fill) (t : Term) → HasHolesBelow m t → apply (joined n s v) (apply (fresh n) t) ≡ apply v t
joined_fresh n m s v t h =
    apply_apply (joined n s v) (fresh n) t
    ∙ apply_agree (λ k. apply (joined n s v) (fresh n k)) v t (λ k o.
    let q = h k o in
    let P : Hole → Type 0 = λ x. apply (joined n s v) (fresh n x) ≡ v x in
    subst P (sym q.2) (joined_new n s v q.0))

respects_at : (n : ℕ) (s v : Fill) (m : ℕ) (b : Bool) → Respects s → IsInt (cond b (s (hole_of.Int m)) (hole (hole_of.Int m)))
respects_at n s v m true r = r (hole_of.Int m) tt
respects_at n s v m false r = tt

pub joined_respects : (n : ℕ) (s v : Fill) → Respects s → Respects (joined n s v)
joined_respects n s v r (hole_of.Int m) i = respects_at n s v m (nat_lt m n) r
joined_respects n s v r (hole_of.Ty m) i = absurd i
joined_respects n s v r (hole_of.Const m) i = absurd i

beyond_read : (n : ℕ) (v : Fill) (k : Hole) → ((j : Hole) → IsRead (v j)) → IsRead (beyond n v k)
beyond_read n v (hole_of.Ty m) h = h (hole_of.Ty (m - n))
beyond_read n v (hole_of.Int m) h = tt
beyond_read n v (hole_of.Const m) h = tt

read_at : (t u : Term) (b : Bool) → IsRead t → IsRead u → IsRead (cond b t u)
read_at t u true h g = h
read_at t u false h g = g

pub joined_filling : (n : ℕ) (s v : Fill) → IsFilling s → ((j : Hole) → IsRead (v j)) → IsFilling (joined n s v)
joined_filling n s v f h = record {
  read = λ k. read_at (s k) (beyond n v k) (nat_lt (hole_number k) n) (f.read k) (beyond_read n v k h);
  respects = joined_respects n s v f.respects;
}
