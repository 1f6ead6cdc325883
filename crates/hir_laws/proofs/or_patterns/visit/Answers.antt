use Rattle.std.proofs.Common.{None}
use Rattle.hir_laws.specs.Words.{AreAround, IsNumber}
use Rattle.hir_laws.proofs.PartedSoFar.{number_passed}
use Rattle.hir_laws.proofs.Words.{still_open}
use Rattle.hir_laws.proofs.or_patterns.visit.Goals as goal

pub returns-in_default : goal.returns-in_default
returns-in_default c =
    let none : IsNumber c.args.body.now c.args.schedule.now c.args.number None = rw c.in_default.is at c.requires.node in
    let around : AreAround c.args.body.now c.args.schedule.now c.args.number c.leave.new.self.nodes.items = c.leave.ensures c.args.body.now c.args.schedule.now c.requires.schedule c.requires.before.enclosing in
    record {
      enclosing = still_open c.args.body.now c.args.schedule.now c.args.number c.leave.new.self.nodes.items none around;
      parted = number_passed c.args.body.now c.args.schedule.now c.args.number c.args.walked.now.lasts.items none c.requires.before.parted;
    }
