use Rattle.std.proofs.Common.{None}
use Rattle.hir_types.specs.declared.ids.ExprOrPatId.TheVariants as node
use Rattle.hir_laws.specs.Words.{AreAround, IsNumber, inner}
use Rattle.hir_laws.proofs.Assigning.{marks_kept}
use Rattle.hir_laws.proofs.Words.{still_open}
use Rattle.hir_laws.proofs.targets.visit.Goals as goal

pub returns-in_default : goal.returns-in_default
returns-in_default c =
    let none : IsNumber c.args.body.now c.args.schedule.now c.args.number None = rw c.in_default.is at c.requires.node in
    let around : AreAround c.args.body.now c.args.schedule.now c.args.number c.leave.new.self.nodes.items = c.leave.ensures c.args.body.now c.args.schedule.now c.requires.schedule c.requires.before.enclosing in
    record {
      enclosing = still_open c.args.body.now c.args.schedule.now c.args.number c.leave.new.self.nodes.items none around;
      marked = marks_kept c.args.body.now c.args.schedule.now c.args.number c.args.assigned.now.marks.items (λ p is at. none (inner (node.PatId p)) is at) c.requires.before.marked;
    }
