-- Holes that are made for the parameters of an impl.
use Rattle.std.proofs.Common.{◌≡◌, ◌<◌, ◌+◌, ◌++◌, ℕ, zero, suc, refl, sym, ap, ◌∙◌, subst, arith, List, [], ◌∷◌, length, map, slice_get, Some, append_assoc, append-nil}
use Rattle.std.specs.List.{range_with_len}
use Rattle.std.proofs.lemmas.Bool.{or_left, or_right}
use Rattle.goal_select.specs.Words.{Hole, HoleKind, Term, hole, leaf, pair, apply, occurs, term_var, AreOf, are_of_hole, are_of_leaf, are_of_pair, apply_apply, apply_agree, hole_eq_same, State, with_new_hole, Grew, Fill, IsConcrete, fresh, holes_from, HasHolesBelow, arg_at, args_fill}
use Rattle.hir_types.specs.declared.head.Hole.TheVariants as hole_of
use Rattle.hir_types.specs.declared.head.HoleKind.TheVariants as kind
use Rattle.hir_types.specs.declared.ty.Ty.TheVariants as ty
use Rattle.hir_types.specs.declared.ty.GenericArg.TheVariants as arg
use Rattle.goal_select.proofs.Words.{front_itself, counted_more}
use Rattle.goal_select.specs.Own.{with_type_holes}

-- ---- lists of numbers

pub counted_at : {X : Type 0} (f : ℕ → X) (a n j : ℕ) → j < n → slice_get (map f (range_with_len a n)) j ≡ Some (f (a + j))
counted_at f a zero j less = absurd (omega (arith, less))
counted_at f a (suc n) zero less = let e : a ≡ a + 0 = omega arith in ap (λ k. Some (f k)) e
counted_at f a (suc n) (suc j) less =
    let e : (a + 1) + j ≡ a + suc j = omega arith in
    counted_at f (a + 1) n j (omega (arith, less)) ∙ ap (λ k. Some (f k)) e

pub counted_length : {X : Type 0} (f : ℕ → X) (a n : ℕ) → length (map f (range_with_len a n)) ≡ n
counted_length f a zero = refl
counted_length f a (suc n) = ap suc (counted_length f (a + 1) n)

get_behind : {X : Type 0} (xs ys : List X) (j : ℕ) → slice_get (xs ++ ys) (length xs + j) ≡ slice_get ys j
get_behind [] ys j = let e : 0 + j ≡ j = omega arith in ap (slice_get ys) e
get_behind (x ∷ xs) ys j = let e : length (x ∷ xs) + j ≡ suc (length xs + j) = omega arith in ap (slice_get (x ∷ xs ++ ys)) e ∙ get_behind xs ys j

-- ---- arguments

pub params_length : (first n : ℕ) → length (holes_from first n) ≡ n
params_length first n = counted_length (λ k. arg.Ty (ty.Var (first + k))) 0 n

param_at : (t : Fill) (first n j : ℕ) → j < n → args_fill t (holes_from first n) (hole_of.Ty j) ≡ t (hole_of.Ty (first + j))
param_at t first n j less =
    let e : 0 + j ≡ j = omega arith in
    ap (λ o. arg_at t o (hole_of.Ty j)) (counted_at (λ k. arg.Ty (ty.Var (first + k))) 0 n j less ∙ ap (λ k. Some (arg.Ty (ty.Var (first + k)))) e)
    ∙ ap (apply t) (term_var (first + j))

-- at the arguments a term is what it is at the holes, filled
pub at_params : (t : Fill) (first n : ℕ) (u : Term) → HasHolesBelow n u → apply (args_fill t (holes_from first n)) u ≡ apply t (apply (fresh first) u)
at_params t first n u h =
    apply_agree (args_fill t (holes_from first n)) (λ k. apply t (fresh first k)) u (λ k o.
    let q = h k o in
    let P : Hole → Type 0 = λ x. args_fill t (holes_from first n) x ≡ apply t (fresh first x) in
    subst P (sym q.2) (param_at t first n q.0 q.1))
    ∙ sym (apply_apply t (fresh first) u)

-- ---- terms over the holes

pub fresh_concrete : (first : ℕ) (t : Term) → IsConcrete t → IsConcrete (apply (fresh first) t)
fresh_concrete first (hole (hole_of.Ty k)) h = tt
fresh_concrete first (hole (hole_of.Int k)) h = tt
fresh_concrete first (hole (hole_of.Const k)) h = tt
fresh_concrete first (leaf x) h = h
fresh_concrete first (pair a b) h = (fresh_concrete first a h.0, fresh_concrete first b h.1)

abbrev pub with_types : List HoleKind → ℕ → List HoleKind
with_types kinds n = kinds ++ map (λ j. kind.Ty) (range_with_len 0 n)

hole_of_table : (kinds : List HoleKind) (n j : ℕ) → j < n → AreOf (with_types kinds n) (fresh (length kinds) (hole_of.Ty j))
hole_of_table kinds n j less =
    are_of_hole (with_types kinds n) (hole_of.Ty (length kinds + j)) (get_behind kinds (map (λ j. kind.Ty) (range_with_len 0 n)) j ∙ counted_at (λ j. kind.Ty) 0 n j less)

-- the table made their holes
pub fresh_of : (kinds : List HoleKind) (n : ℕ) (t : Term) → HasHolesBelow n t → AreOf (with_types kinds n) (apply (fresh (length kinds)) t)
fresh_of kinds n (hole k) h =
    let q = h k (hole_eq_same k) in
    let P : Hole → Type 0 = λ x. AreOf (with_types kinds n) (fresh (length kinds) x) in
    subst P (sym q.2) (hole_of_table kinds n q.0 q.1)
fresh_of kinds n (leaf x) h = are_of_leaf (with_types kinds n) x
fresh_of kinds n (pair a b) h =
    are_of_pair (with_types kinds n) (apply (fresh (length kinds)) a) (apply (fresh (length kinds)) b)
    (fresh_of kinds n a (λ k o. h k (or_left (occurs k a) (occurs k b) o)))
    (fresh_of kinds n b (λ k o. h k (or_right (occurs k a) (occurs k b) o)))

-- ---- the table

pub type_holes_grew : (s : State) (n : ℕ) → Grew s (with_type_holes s n)
type_holes_grew s n = record {
  kinds = (map (λ j. kind.Ty) (range_with_len 0 n), refl);
  log = front_itself s.substitution.log;
  made = front_itself s.pairs.made;
  taken = front_itself s.pairs.taken;
  diverging = front_itself s.diverging;
}

pub no_type_holes : (s : State) → with_type_holes s 0 ≡ s
no_type_holes s = λ i. record s { substitution = record s.substitution { kinds = append-nil s.substitution.kinds i } }

-- one more
pub next_type_hole : (s : State) (n : ℕ) → with_new_hole (with_type_holes s n) kind.Ty ≡ with_type_holes s (n + 1)
next_type_hole s n =
    let types = map (λ j. kind.Ty) (range_with_len 0 n) in
    let e = append_assoc s.substitution.kinds types (kind.Ty ∷ []) ∙ ap (λ ks. s.substitution.kinds ++ ks) (sym (counted_more (λ j. kind.Ty) n)) in
    λ i. record s { substitution = record s.substitution { kinds = e i } }
