-- Arguments that stand for parameters, and terms at arguments.
use Rattle.std.specs.Prelude.{◌≡◌, ◌+◌, ℕ, zero, suc, true, List, [], ◌∷◌, ◌++◌, map, refl}
use Rattle.std.specs.List.{range_with_len}
use Rattle.std.proofs.Common.{sym, ap, ◌∙◌, subst, arith}
use Rattle.std.proofs.lemmas.Bool.{or_left, or_right}
use Rattle.std.proofs.lemmas.List.{map-append}
use Rattle.goal_facts.specs.Words.{TypeAliasId, TypeRefId, Hole, GenericArg, GenericArg-F, fold_out-GenericArg, Term, hole, leaf, pair, apply, occurs, hole_number, chain, type_part, arg_term, arg_step, ty_step, bound_step, trait_step, apply_agree, hole_eq_same, RawFacts, RawGoal, Fill, plain, role, staying, Asked, asked_at, IsNth, AreArgs, IsHead, HasHeads}
use Rattle.goal_facts.proofs.Words.{nth_one}
use Rattle.goal_facts.specs.Own.{args_at, goal_with, goal_at, SaysAt, BoundSays}

pub range_more : (a n m : ℕ) → m ≡ suc n → range_with_len a m ≡ range_with_len a n ++ (a + n) ∷ []
range_more a zero m e = let h : a + 0 ≡ a = omega arith in rw e (λ i. sym h i ∷ [])
range_more a (suc n) m e =
    let h : (a + 1) + n ≡ a + suc n = omega arith in
    rw e (ap (λ (ks : List ℕ). a ∷ ks) (range_more (a + 1) n (suc n) refl ∙ ap (λ (k : ℕ). range_with_len (a + 1) n ++ k ∷ []) h))

-- the parameters before the next, and the next
pub counted_more : {X : Type 0} (f : ℕ → X) (n : ℕ) → map f (range_with_len 0 (n + 1)) ≡ map f (range_with_len 0 n) ++ f n ∷ []
counted_more f n =
    let e : n + 1 ≡ suc n = omega arith in
    let z : 0 + n ≡ n = omega arith in
    ap (map f) (range_more 0 n (n + 1) e ∙ ap (λ (k : ℕ). range_with_len 0 n ++ k ∷ []) z) ∙ map-append f (range_with_len 0 n) (n ∷ [])

-- ---- what stands first

step_is_plain : (x : GenericArg-F Term Term (List Term) (List Term)) → role (arg_step x) ≡ plain
step_is_plain (GenericArg-F.Ty t) = refl
step_is_plain (GenericArg-F.Const c) = refl

arg_is_plain : (x : GenericArg) → role (arg_term x) ≡ plain
arg_is_plain x = ap role (fold_out-GenericArg Term Term (List Term) (List Term) arg_step ty_step bound_step trait_step x) ∙ step_is_plain _

pub list_is_head : (xs : List GenericArg) → IsHead (chain (map arg_term xs))
list_is_head [] = tt
list_is_head (x ∷ xs) = arg_is_plain x

nth_heads : (n : ℕ) (ts u : Term) → IsNth n ts u → HasHeads ts → HasHeads u
nth_heads zero (pair (pair m t) b) u l h = subst HasHeads (sym l) h.1.2
nth_heads (suc n) (pair a b) u l h = nth_heads n b u l h.2
nth_heads zero (pair (hole k) b) u l h = absurd l
nth_heads zero (pair (leaf x) b) u l h = absurd l
nth_heads zero (hole k) u l h = absurd l
nth_heads zero (leaf x) u l h = absurd l
nth_heads (suc n) (hole k) u l h = absurd l
nth_heads (suc n) (leaf x) u l h = absurd l

role_at : (p : Fill) (a : Term) → IsHead a → role a ≡ plain → role (apply p a) ≡ plain
role_at p (hole k) h e = absurd h
role_at p (leaf x) h e = e
role_at p (pair a b) h e = refl

head_at : (p : Fill) (a : Term) → HasHeads a → IsHead a → IsHead (apply p a)
head_at p (hole k) h e = absurd e
head_at p (leaf x) h e = tt
head_at p (pair a b) h e = role_at p a h.0 e

heads_at : (p : Fill) (t : Term) → HasHeads t → ((k : Hole) → occurs k t ≡ true → HasHeads (p k)) → HasHeads (apply p t)
heads_at p (hole k) h fills = fills k (hole_eq_same k)
heads_at p (leaf x) h fills = tt
heads_at p (pair a b) h fills = (
  head_at p a h.1 h.0,
  heads_at p a h.1 (λ k o. fills k (or_left (occurs k a) (occurs k b) o)),
  heads_at p b h.2 (λ k o. fills k (or_right (occurs k a) (occurs k b) o)),
)

-- at arguments
pub heads_at_args : (args : Term) (p : Fill) (t : Term) → HasHeads args → HasHeads t → AreArgs args p t → HasHeads (apply p t)
heads_at_args args p t h k are = heads_at p t k (λ x o. nth_heads (hole_number x) args (p x) (are x o) h)

-- one thing is said at arguments
pub says_one : (raw : RawFacts) (xs : List GenericArg) (args : Term) (g : RawGoal) (d e : Asked) → SaysAt raw xs args g d → SaysAt raw xs args g e → d ≡ e
says_one raw xs args g d e (on, p, are_p, is_d) (on', q, are_q, is_e) =
    let t : Term = (goal_at raw xs g).parts in
    let same : apply p t ≡ apply q t = apply_agree p q t (λ k o. nth_one (hole_number k) args (p k) (q k) (are_p k o) (are_q k o)) in
    let both : asked_at p (goal_at raw xs g) ≡ asked_at q (goal_at raw xs g) = λ i. record { kind = (goal_at raw xs g).kind; parts = same i } in
    is_d ∙ (both ∙ sym is_e)

abbrev rest_of : List TypeRefId → List TypeRefId
rest_of [] = []
rest_of (w ∷ ws) = ws

-- one thing is said by a bound
pub bound_one : (raw : RawFacts) (k : TypeAliasId) (xs : List GenericArg) (g : RawGoal) (d e : Asked) → BoundSays raw k xs g d → BoundSays raw k xs g e → d ≡ e
bound_one raw k xs g d e (w, ws, types, is, says) (w', ws', types', is', says') =
    let same : ws ≡ ws' = ap rest_of (sym types ∙ types') in
    says ∙ (ap (λ us. goal_with raw xs g (pair (type_part (staying k (chain (map arg_term xs)))) (args_at raw xs us))) same ∙ sym says')
