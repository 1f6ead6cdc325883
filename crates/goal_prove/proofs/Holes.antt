-- Terms without holes.
use Rattle.std.proofs.Common.{◌≡◌, inl, inr, true, refl, sym, ap, ap₂, ◌∙◌, subst, true≢false}
use Rattle.std.proofs.lemmas.Bool.{or_cases}
use Rattle.goal_prove.specs.Words.{Hole, Term, hole, leaf, pair, apply, hole_eq_true, Fill, plain, alias, role, stands, MayRead}
use Rattle.goal_prove.specs.Words.goal_answers.Reading.{Role}
use Rattle.goal_prove.proofs.Words.{MayReadBy, stands_by}
use Rattle.goal_prove.specs.Own.{IsWhole, IsWritten}

pub whole_stays : (s : Fill) (u : Term) → IsWhole u → apply s u ≡ u
whole_stays s (hole k) w = absurd w
whole_stays s (leaf h) w = refl
whole_stays s (pair a b) w = ap₂ pair (whole_stays s a w.0) (whole_stays s b w.1)

pub written_whole : (t : Term) → IsWritten t → IsWhole t
written_whole (hole k) w = w
written_whole (leaf h) w = tt
written_whole (pair a b) w = (written_whole a w.0, written_whole b w.1)

-- what a told hole stands for is a part of what the term reads as
pub may_whole : (p : Fill) (t w : Term) → MayRead p t w → IsWhole w → (k : Hole) → stands k t ≡ true → IsWhole (p k)
may_whole p (hole j) w r h k s = subst IsWhole (r ∙ ap p (sym (hole_eq_true k j s))) h
may_whole p (leaf x) w r h k s = absurd (true≢false (sym s))
may_whole p (pair a b) w r h k s = by_role (role a) (λ v x y. may_whole p a v x y k) (λ v x y. may_whole p b v x y k) r s
  where
    Told : Term → Type 0
    Told t = (v : Term) → MayRead p t v → IsWhole v → stands k t ≡ true → IsWhole (p k)

    by_role : (x : Role) → Told a → Told b → MayReadBy x p a b w → stands_by x k a b ≡ true → IsWhole (p k)
    by_role plain left right r s =
        let both = subst IsWhole r.2 h in
        elim (or_cases (stands k a) (stands k b) s) [
          | inl e ↦ left r.0 r.3 both.0 e
          | inr e ↦ right r.1 r.4 both.1 e
        ]
    by_role (alias m) left right r s = absurd (true≢false (sym s))
