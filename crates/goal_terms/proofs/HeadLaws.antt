-- What stands first in pairs, and integer types, where holes are filled.
use Rattle.std.specs.Prelude.{◌≡◌, Bool, true, false, cond, [], ◌∷◌, ◌++◌, Some}
use Rattle.std.proofs.Common.{refl, subst}
use Rattle.goal_terms.specs.Words.{Head, Hole, Term, hole, leaf, pair, apply, hole_eq, IsInt, Log, single, sub, resolved, found, IsNoHole, Fill, plain, role}
use Rattle.hir_types.specs.declared.head.Head.TheVariants as head
use Rattle.goal_terms.specs.Own.{IsHead, HasHeads, HaveHeads}

role_stays : (s : Fill) (a : Term) → IsHead a → role a ≡ plain → role (apply s a) ≡ plain
role_stays s (hole k) h e = absurd h
role_stays s (leaf x) h e = e
role_stays s (pair a b) h e = refl

head_stays : (s : Fill) (a : Term) → IsHead a → HasHeads a → IsHead (apply s a)
head_stays s (hole k) h i = absurd h
head_stays s (leaf x) h i = tt
head_stays s (pair a b) h i = role_stays s a i.0 h

pub heads_stay : (s : Fill) → ((k : Hole) → HasHeads (s k)) → (t : Term) → HasHeads t → HasHeads (apply s t)
heads_stay s f (hole k) h = f k
heads_stay s f (leaf x) h = tt
heads_stay s f (pair a b) h = (head_stays s a h.0 h.1, heads_stay s f a h.1, heads_stay s f b h.2)

put_heads : (u : Term) (k : Hole) (b : Bool) → HasHeads u → HasHeads (cond b u (hole k))
put_heads u k true h = h
put_heads u k false h = tt

pub heads_sub : (x : Hole) (u t : Term) → HasHeads u → HasHeads t → HasHeads (sub x u t)
heads_sub x u t h i = heads_stay (single x u) (λ k. put_heads u k (hole_eq x k) h) t i

pub heads_resolved : (l : Log) (t : Term) → HaveHeads l → HasHeads t → HasHeads (resolved l t)
heads_resolved [] t h i = i
heads_resolved (p ∷ l) t h i = heads_resolved l (sub p.0 p.1 t) h.1 (heads_sub p.0 p.1 t h.0 i)

pub heads_append : (l : Log) (x : Hole) (u : Term) → HaveHeads l → HasHeads u → HaveHeads (l ++ (x, u) ∷ [])
heads_append [] x u h i = (i, tt)
heads_append (p ∷ l) x u h i = (h.0, heads_append l x u h.1 i)

found_first : (l : Log) (k : Hole) (t u : Term) (b : Bool) → HasHeads t → (found l k ≡ Some u → HasHeads u) → cond b (Some t) (found l k) ≡ Some u → HasHeads u
found_first l k t u true h f e = let g : t ≡ u = cc in subst HasHeads g h
found_first l k t u false h f e = f e

pub heads_found : (l : Log) (k : Hole) (u : Term) → HaveHeads l → found l k ≡ Some u → HasHeads u
heads_found [] k u h e = cc
heads_found (p ∷ l) k u h e = found_first l k p.1 u (hole_eq k p.0) h.0 (heads_found l k u h.1) e

-- ---- integer types

int_leaf : (h : Head) (t u : Term) → IsInt (pair (leaf h) t) → IsInt (pair (leaf h) u)
int_leaf (head.Int i) t u e = tt
int_leaf (head.Uint i) t u e = tt
int_leaf _ t u e = absurd e

-- what follows the first part doesn't matter
pub int_first : (a t u : Term) → IsInt (pair a t) → IsInt (pair a u)
int_first (leaf h) t u e = int_leaf h t u e
int_first (hole k) t u e = absurd e
int_first (pair a b) t u e = absurd e

int_first_filled : (s : Fill) (a b : Term) → IsHead a → IsInt (pair (apply s a) (apply s b)) → IsInt (pair a b)
int_first_filled s (hole k) b h e = absurd h
int_first_filled s (leaf x) b h e = int_leaf x (apply s b) b e
int_first_filled s (pair a c) b h e = absurd e

-- an instance of what is no integer type is none
pub int_before : (s : Fill) (t : Term) → IsNoHole t → HasHeads t → IsInt (apply s t) → IsInt t
int_before s (hole k) n h e = absurd n
int_before s (leaf x) n h e = e
int_before s (pair a b) n h e = int_first_filled s a b h.0 e
