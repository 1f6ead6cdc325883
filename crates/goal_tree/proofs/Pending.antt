-- Pending goals, one obligation after another.
use Rattle.std.proofs.Common.{◌≡◌, ℕ, zero, suc, ◌+◌, Bool, true, false, List, [], ◌∷◌, ◌++◌, take, refl, ap, ◌∙◌, arith}
use Rattle.std.specs.Prelude.{Some, slice_get, if◌then◌else◌}
use Rattle.std.proofs.lemmas.Option.{same_Some}
use Rattle.goal_tree.specs.Words.{ExprOrPatId, Goal}
use Rattle.goal_tree.specs.Own.{Obligation, Standing, is_pending, pending_of}

add_or_not : (b : Bool) (x : Goal × ExprOrPatId) (xs ys : List (Goal × ExprOrPatId)) → (if b then x ∷ (xs ++ ys) else xs ++ ys) ≡ (if b then x ∷ xs else xs) ++ ys
add_or_not true x xs ys = refl
add_or_not false x xs ys = refl

pub pending_more : (os : List Obligation) (ss : List Standing) (i : ℕ) (o : Obligation) (s : Standing) → slice_get os i ≡ Some o → slice_get ss i ≡ Some s
    → pending_of (take (i + 1) os) (take (i + 1) ss) ≡ pending_of (take i os) (take i ss) ++ pending_of (o ∷ []) (s ∷ [])
pending_more [] ss i o s a b = cc
pending_more (x ∷ os) [] i o s a b = cc
pending_more (x ∷ os) (y ∷ ss) zero o s a b =
    let same : x ≡ o = same_Some x o a in
    let stand : y ≡ s = same_Some y s b in
    ap (λ z. pending_of (z ∷ []) (y ∷ [])) same ∙ ap (λ z. pending_of (o ∷ []) (z ∷ [])) stand
pending_more (x ∷ os) (y ∷ ss) (suc i) o s a b =
    let next : suc i + 1 ≡ suc (i + 1) = omega arith in
    ap (λ n. pending_of (take n (x ∷ os)) (take n (y ∷ ss))) next
    ∙ (ap (λ zs. if is_pending x y then (x.goal, x.node) ∷ zs else zs) (pending_more os ss i o s a b)
    ∙ add_or_not (is_pending x y) (x.goal, x.node) (pending_of (take i os) (take i ss)) (pending_of (o ∷ []) (s ∷ [])))
