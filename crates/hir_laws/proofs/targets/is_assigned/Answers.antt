use Rattle.std.proofs.Common.{sym, ◌∙◌, ap}
use Rattle.hir_laws.specs.Own.{is_under}
use Rattle.hir_laws.proofs.Assigning.{none_under, under_tells}
use Rattle.hir_laws.proofs.targets.is_assigned.Goals as goal

pub returns-in-None : goal.returns-in-None
returns-in-None c s p law same is at around h =
    absurd (none_under c.args.body.now s law c.args.number p is at c.args.assigned.now.marks.items h (rw c.in-None.is at (c.innermost_from.ensures c.args.body.now s c.args.number around)))

pub returns-in-Some : goal.returns-in-Some
returns-in-Some c s p law same is at around h =
    under_tells c.args.body.now s law c.args.number p is at c.args.assigned.now.marks.items h c.in-Some.node c.is_under.result (rw c.in-Some.is at (c.innermost_from.ensures c.args.body.now s c.args.number around))
    (c.is_under.ensures ∙ (ap (λ xs. is_under c.args.body.now xs c.in-Some.node c.args.pat) c.deref.ensures.value ∙ ap (λ i. is_under c.args.body.now c.args.assigned.now.marks.items c.in-Some.node i) (sym same)))
