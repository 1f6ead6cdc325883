use Rattle.std.proofs.Common.{◌+◌, sym, subst}
use Rattle.infer_pat.specs.Words.{scope_in}
use Rattle.infer_pat.proofs.Words.{fine_expectation_grown}
use Rattle.infer_pat.specs.Own.{AreTupleParts}
use Rattle.infer_pat.proofs.Components.{no_tuple_part, tuple_part_more}
use Rattle.infer_pat.proofs.pat.part_tys.Goals as goal

pub loop-i-init : goal.loop-i-init
loop-i-init c = rw c.new-tys.ensures (no_tuple_part c.args.expected.now c.args.context.now c.requires.sound)

pub loop-i-preserved : goal.loop-i-preserved
loop-i-preserved c =
    subst (λ ts. AreTupleParts (scope_in c.args.given.now) c.args.expected.now (c.loop-i.i + 1) ts c.args.context.now c.given_or_new.new.context) (sym c.in_ok-push.ensures.ok)
    (tuple_part_more c.args.expected.now c.loop-i.i c.loop-i.tys c.in_ok-known.known c.in_ok-ty.ty c.args.context.now c.loop-i.context c.given_or_new.new.context c.loop-i.invariant c.in_ok-known.ensures.is
    c.in_ok-ty.ensures)

pub component-requires-clause-fine : goal.component-requires-clause-fine
component-requires-clause-fine c = fine_expectation_grown (scope_in c.args.given.now) c.args.context.now.goals.table c.loop-i.context.goals.table c.args.expected.now c.loop-i.invariant.made.grew c.requires.fine
