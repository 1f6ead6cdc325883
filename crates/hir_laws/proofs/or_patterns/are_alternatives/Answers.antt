use Rattle.std.proofs.Common.{◌≡◌, refl, None, replicate, rules}
use Rattle.hir_laws.specs.Words.{AreNumbered}
use Rattle.hir_laws.proofs.PartedSoFar.{none_parted, parted_all}
use Rattle.hir_laws.proofs.Words.{numbered_here}
use Rattle.std.proofs.lemmas.Option.{slice_get-get_or}
use Rattle.hir_laws.proofs.or_patterns.are_alternatives.Goals as goal

pub loop-number-init : goal.loop-number-init
loop-number-init c =
    let none : c.in_ok-vec.field-0.items ≡ replicate c.len.result None = search rules in
    record {
      enclosing = c.new.ensures c.args.body.now c.args.schedule.now;
      parted = none_parted c.args.body.now c.args.schedule.now c.in_ok-vec.field-0.items (rw c.len.ensures at none);
    }

pub visit-requires-clause-node : goal.visit-requires-clause-node
visit-requires-clause-node c =
    let order : AreNumbered c.args.body.now c.args.schedule.now c.deref-node-items.result.now = rw c.deref-node-items.ensures.value (c.in_ok-order.ensures c.args.body.now c.requires) in
    numbered_here c.args.body.now c.args.schedule.now c.deref-node-items.result.now c.loop-number.number _ order (slice_get-get_or c.deref-node-items.result.now c.loop-number.number None c.loop-number-test.true)

pub returns : goal.returns
returns c =
    let order : AreNumbered c.args.body.now c.args.schedule.now c.deref-node-items.result.now = rw c.deref-node-items.ensures.value (c.in_ok-order.ensures c.args.body.now c.requires) in
    (λ t. parted_all c.args.body.now c.args.schedule.now c.loop-number.number c.loop-number.walked.lasts.items c.requires (rw order.size at c.loop-number-test.false) c.loop-number.invariant.parted, λ all. refl)
