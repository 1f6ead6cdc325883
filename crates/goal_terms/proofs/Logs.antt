-- What holes are found to be bound to.
use Rattle.std.specs.Prelude.{◌≡◌, Bool, true, false, cond, ◌∷◌, [], ◌++◌, Option, Some, None}
use Rattle.std.proofs.Common.{◌⊎◌, inl, inr, refl, sym, ◌∙◌, true≢false}
use Rattle.std.proofs.lemmas.Option.{same_Some}
use Rattle.goal_terms.specs.Words.{Hole, Term, hole_eq, Log, found, hole_eq_true, hole_eq_same, found_left}

none_later : (t : Term) (o : Option Term) (b : Bool) → cond b (Some t) o ≡ None → (b ≡ false) × (o ≡ None)
none_later t o true e = cc
none_later t o false e = (refl, e)

passed : (t : Term) (o : Option Term) (b : Bool) → b ≡ false → cond b (Some t) o ≡ o
passed t o true e = absurd (true≢false e)
passed t o false e = refl

met : (t : Term) (o : Option Term) (b : Bool) → b ≡ true → cond b (Some t) o ≡ Some t
met t o true e = refl
met t o false e = absurd (true≢false (sym e))

met_one : (t u : Term) (b : Bool) → cond b (Some t) None ≡ Some u → (b ≡ true) × (t ≡ u)
met_one t u true e = (refl, same_Some t u e)
met_one t u false e = cc

-- in the second of two lists where the first doesn't bind it
pub found_right : (l m : Log) (k : Hole) → found l k ≡ None → found (l ++ m) k ≡ found m k
found_right [] m k e = refl
found_right (p ∷ l) m k e =
    let q = none_later p.1 (found l k) (hole_eq k p.0) e in
    passed p.1 (found (l ++ m) k) (hole_eq k p.0) q.0 ∙ found_right l m k q.1

pub found_last : (l : Log) (k : Hole) (u : Term) → found l k ≡ None → found (l ++ (k, u) ∷ []) k ≡ Some u
found_last l k u e = found_right l ((k, u) ∷ []) k e ∙ met u None (hole_eq k k) (hole_eq_same k)

-- a binding that is found with one more at the end is one of before, or that one
pub found_more : (l : Log) (x k : Hole) (t u : Term) → found (l ++ (x, t) ∷ []) k ≡ Some u → (found l k ≡ Some u) ⊎ ((found l k ≡ None) × (k ≡ x) × (t ≡ u))
found_more l x k t u e = go (found l k) refl
  where
    go : (o : Option Term) → found l k ≡ o → (found l k ≡ Some u) ⊎ ((found l k ≡ None) × (k ≡ x) × (t ≡ u))
    go None f = let q = met_one t u (hole_eq k x) (sym (found_right l ((x, t) ∷ []) k f) ∙ e) in inr (f, hole_eq_true k x q.0, q.1)
    go (Some v) f = inl (f ∙ sym (found_left l ((x, t) ∷ []) k v f) ∙ e)
