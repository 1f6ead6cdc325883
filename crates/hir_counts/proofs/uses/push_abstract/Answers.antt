use Rattle.hir_counts.proofs.GoalUses.{six_behind}
use Rattle.hir_counts.proofs.uses.push_abstract.Goals as goal

pub returns : goal.returns
returns c =
    six_behind c.args.out.now.items _ _ _ _ _ _ _ _ _ _ _ _ (rw c.as_slice.ensures at c.in_ok-push_goals_of.ensures) (rw c.as_slice-2.ensures at c.in_ok-push_goals_of-2.ensures) (rw c.as_slice-3.ensures at c.in_ok-push_goals_of-3.ensures)
    (rw c.as_slice-4.ensures at c.in_ok-push_goals_of-4.ensures) (rw c.as_slice-5.ensures at c.in_ok-push_goals_of-5.ensures) (rw c.as_slice-6.ensures at c.in_ok-push_impls.ensures)
