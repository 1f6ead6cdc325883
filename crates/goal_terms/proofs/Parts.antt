-- What the parts of a term may read as.
use Rattle.std.proofs.Common.{◌≡◌, inl, inr, refl, sym, ap, ◌∙◌, subst, true, true≢false}
use Rattle.std.proofs.lemmas.Bool.{or_cases}
use Rattle.goal_terms.specs.Words.{TypeAliasId, Hole, Term, hole, leaf, pair, hole_eq_true, pair_left, pair_right, Fill, plain, alias, role, IsRead, stands, MayRead}
use Rattle.goal_answers.specs.Reading.{Role}
use Rattle.goal_terms.proofs.Words.{MayReadBy, stands_by}
use Rattle.goal_terms.specs.Own.{HasHeads}

-- ---- by what the first part makes of a pair

pub may_by : (p : Fill) (a b u : Term) (r : Role) → role a ≡ r → MayRead p (pair a b) u → MayReadBy r p a b u
may_by p a b u r e m = let P : Role → Type 0 = λ x. MayReadBy x p a b u in subst P e m

pub by_may : (p : Fill) (a b u : Term) (r : Role) → role a ≡ r → MayReadBy r p a b u → MayRead p (pair a b) u
by_may p a b u r e m = let P : Role → Type 0 = λ x. MayReadBy x p a b u in subst P (sym e) m

pub stands_at : (k : Hole) (a b : Term) (r : Role) → role a ≡ r → stands k (pair a b) ≡ true → stands_by r k a b ≡ true
stands_at k a b r e h = let P : Role → Type 0 = λ x. stands_by x k a b ≡ true in subst P e h

pub may_alias : (p : Fill) (k : TypeAliasId) (a b u : Term) → role a ≡ alias k → MayRead p (pair a b) u
may_alias p k a b u e = by_may p a b u (alias k) e tt

pub may_pair : (p : Fill) (a b v w : Term) → role a ≡ plain → MayRead p a v → MayRead p b w → MayRead p (pair a b) (pair v w)
may_pair p a b v w e m n = by_may p a b (pair v w) plain e (v, w, refl, m, n)

pub may_parts : (p : Fill) (a b v w : Term) → role a ≡ plain → MayRead p (pair a b) (pair v w) → MayRead p a v × MayRead p b w
may_parts p a b v w e m =
    let r = may_by p a b (pair v w) plain e m in
    (subst (MayRead p a) (sym (pair_left r.2)) r.3, subst (MayRead p b) (sym (pair_right r.2)) r.4)

-- what a term may read as tells of what stands for its holes what holds of all parts
module _ (P : Term → Type 0) (parts : (a b : Term) → P (pair a b) → P a × P b) where
  pub may_told : (p : Fill) (t u : Term) → MayRead p t u → P u → (k : Hole) → stands k t ≡ true → P (p k)
  may_told p (hole j) u m h k s = subst P (m ∙ ap p (sym (hole_eq_true k j s))) h
  may_told p (leaf x) u m h k s = absurd (true≢false (sym s))
  may_told p (pair a b) u m h k s = by_role (role a) refl (λ v. may_told p a v) (λ w. may_told p b w)
    where
      by_role : (r : Role) → role a ≡ r → ((v : Term) → MayRead p a v → P v → (k : Hole) → stands k a ≡ true → P (p k)) → ((w : Term) → MayRead p b w → P w → (k : Hole) → stands k b ≡ true → P (p k)) → P (p k)
      by_role plain e f g =
          let d = may_by p a b u plain e m in
          let q = parts d.0 d.1 (subst P d.2 h) in
          elim (or_cases (stands k a) (stands k b) (stands_at k a b plain e s)) [
            | inl i ↦ f d.0 d.3 q.0 k i
            | inr i ↦ g d.1 d.4 q.1 k i
          ]
      by_role (alias n) e f g = absurd (true≢false (sym (stands_at k a b (alias n) e s)))

-- so each is read, and has heads, where the whole does
pub may_told_read : (p : Fill) (t u : Term) → MayRead p t u → IsRead u → (k : Hole) → stands k t ≡ true → IsRead (p k)
may_told_read = may_told IsRead (λ a b h. h)

pub may_told_heads : (p : Fill) (t u : Term) → MayRead p t u → HasHeads u → (k : Hole) → stands k t ≡ true → HasHeads (p k)
may_told_heads = may_told HasHeads (λ a b h. (h.1, h.2))
