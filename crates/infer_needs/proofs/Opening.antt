-- Goals with holes in the places of `{unknown}`, and their answers.
use Rattle.std.specs.Prelude.{◌≡◌, ◌⊎◌, ℕ, Option, Some, None}
use Rattle.std.proofs.Common.{inl, inr, refl, subst}
use Rattle.infer_needs.specs.Words.{Hole, Term, hole, leaf, pair, plain, role, Asked, System, IsHead, HasHeads, Answer, IsAnswer, hole_for, Opened, put_or, opened_goal, CannotHold}
use Rattle.infer_needs.proofs.Words.{answers_are_one}
use Rattle.infer_needs.specs.Words.goal_search.declared.answer.Answer.TheVariants as answer
use Rattle.infer_result.specs.CannotHold.{opened}

-- ---- what stands first stays known

plain_kept : (n : ℕ) (a : Term) → role a ≡ plain → role (opened n a).term ≡ plain
plain_kept n (hole k) h = h
plain_kept n (leaf x) h = h
plain_kept n (pair a b) h = refl

head_kept : (n : ℕ) (a : Term) → IsHead a → IsHead (opened n a).term
head_kept n (hole k) h = h
head_kept n (leaf x) h = tt
head_kept n (pair a b) h = plain_kept n a h

put_kept : (m : ℕ) (o : Option Hole) (x : Opened) → HasHeads x.term → HasHeads (put_or m o x).term
put_kept m (Some k) x h = tt
put_kept m None x h = h

pub heads_kept : (n : ℕ) (t : Term) → HasHeads t → HasHeads (opened n t).term
heads_kept n (hole k) h = tt
heads_kept n (leaf x) h = tt
heads_kept n (pair a b) h =
    let m = (opened n a).next in
    (head_kept n a h.0, heads_kept n a h.1, put_kept m (hole_for m b) (opened m b) (heads_kept m b h.2))

-- ---- the answer

pub answered_no : (f : System) (n : ℕ) (a : Asked) (x : Answer) → x ≡ answer.No → IsAnswer f n (opened_goal a) x → CannotHold f n a
answered_no f n a x is h = subst (IsAnswer f n (opened_goal a)) is h

pub not_no : (f : System) (n : ℕ) (a : Asked) (x : Answer) → (x ≡ answer.Yes) ⊎ (x ≡ answer.Undecided) → IsAnswer f n (opened_goal a) x → CannotHold f n a → ⊥
not_no f n a x (inl is) h fails = (answers_are_one f n n).0 (opened_goal a) (subst (IsAnswer f n (opened_goal a)) is h) fails
not_no f n a x (inr is) h fails = (subst (IsAnswer f n (opened_goal a)) is h).1 fails
