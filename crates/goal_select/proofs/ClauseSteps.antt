-- A goal that is selected by a clause.
use Rattle.std.proofs.Common.{◌≡◌, sym, ap, ◌∙◌, subst}
use Rattle.goal_select.specs.Words.{TraitRef, Term, apply, occurs, resolved, Respects, Triangular, solution, solution_apply, solution_solves, solution_respects, solves_after, resolved_fixed, apply_apply, is_int_apply, IsReadAs, State, Meets, CanBeEqual, Fill, IsFilling, MayRead, concrete_plain, IsConcrete, trait_goal}
use Rattle.std.proofs.lemmas.Bool.{false_from_ne_true}
use Rattle.goal_select.specs.Own.{goal_type}
use Rattle.goal_select.proofs.Known.{log}
use Rattle.goal_select.proofs.Uniting.{may_be_read, plain_read, can_be_equal}
use Rattle.goal_select.proofs.Clauses.{HasNoHoles}

-- ---- what a filling of the goal makes of the table's holes

abbrev pub after_known : State → Fill → Fill
after_known s f k = apply f (solution (log s) k)

module _ (s : State) (acyclic : Triangular (log s)) (f : Fill) (filling : IsFilling f) where
  pub known_respects : Respects (after_known s f)
  known_respects k i = is_int_apply f (solution (log s) k) filling.respects (solution_respects (log s) acyclic k i)

  pub known_meets : Meets (after_known s f) s
  known_meets = solves_after f (solution (log s)) (log s) (solution_solves (log s) acyclic)

  pub known_at : (t : Term) → resolved (log s) t ≡ t → apply (after_known s f) t ≡ apply f t
  known_at t e = sym (apply_apply f (solution (log s)) t) ∙ ap (apply f) (solution_apply (log s) t ∙ e)

-- ---- what a clause may read as

pub no_holes_stay : (s : State) (t : Term) → HasNoHoles t → resolved (log s) t ≡ t
no_holes_stay s t none = resolved_fixed (log s) t (λ y b. false_from_ne_true (occurs y t) (none y))

-- where the clause may read as the goal at some filling, the two can be made equal
pub clause_can : (s : State) (k h : TraitRef) → Triangular (log s) → resolved (log s) (trait_goal k).parts ≡ (trait_goal k).parts → IsConcrete (trait_goal k).parts → HasNoHoles (trait_goal h).parts
    → (q f : Fill) → IsFilling f → MayRead q (trait_goal h).parts (apply f (trait_goal k).parts) → CanBeEqual s (goal_type k) (goal_type h)
clause_can s k h acyclic known concrete none q f filling may =
    let w = (trait_goal k).parts in
    let x = after_known s f in
    can_be_equal s k h known (no_holes_stay s (trait_goal h).parts none) x (apply f w)
    (known_respects s acyclic f filling)
    (known_meets s acyclic f filling)
    (subst (IsReadAs x w) (known_at s acyclic f filling w known) (plain_read x w (concrete_plain w concrete)))
    (may_be_read q x (trait_goal h).parts (apply f w) (λ j o. absurd (none j o)) may)
