use Rattle.std.proofs.Common.{◌≡◌, sym, subst}
use Rattle.hir_types.specs.declared.head.HoleKind.TheVariants as kind
use Rattle.goal_tests.proofs.Words.{grew_by_hole}
use Rattle.goal_tests.specs.Words.{GoalTable, system, AreKept, stays_with, KeepsGoals}
use Rattle.goal_tests.proofs.Keeping.{keeps_still}
use Rattle.goal_tests.proofs.undo.table_of.Goals as goal

pub returns : goal.returns
returns c =
    let goals = c.in_ok-goals.goals in
    let made = c.in_ok-goals.ensures in
    let keeps : KeepsGoals goals = record { kept = subst (λ raw. AreKept raw (system goals.sources.sources) goals.table goals.obligations) (sym made.facts) made.kept; all = made.all } in
    let after : GoalTable = record goals { table = c.next_ty_var.new.self } in
    keeps_still goals after keeps (stays_with goals c.next_ty_var.new.self) (grew_by_hole goals.table c.next_ty_var.new.self kind.Ty c.in_ok-_hole.ensures.made)
