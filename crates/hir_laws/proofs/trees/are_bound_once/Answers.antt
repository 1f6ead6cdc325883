use Rattle.std.proofs.lemmas.Result.{IfOk-weaker}
use Rattle.hir_laws.specs.Own.{AreBinders}
use Rattle.hir_laws.proofs.Binding.{bound_told, unbound_told}
use Rattle.hir_laws.proofs.trees.are_bound_once.Goals as goal

pub returns-then-not-are_bound : goal.returns-then-not-are_bound
returns-then-not-are_bound c =
    let names : AreBinders c.args.body.now c.deref.result.now = rw c.deref.ensures.value c.in_ok-binders.ensures in
    (λ t. absurd (cc), λ bound. absurd (unbound_told c.args.body.now c.deref.result.now c.are_bound.result names c.if-not-are_bound.true c.are_bound.ensures bound))

pub returns : goal.returns
returns c =
    let names : AreBinders c.args.body.now c.deref.result.now = rw c.deref.ensures.value c.in_ok-binders.ensures in
    IfOk-weaker _ _ _ (λ told says. bound_told c.args.body.now c.args.schedule.now c.requires c.deref.result.now told names (c.are_bound.ensures.0 c.if-not-are_bound.false) says) c.are_alternatives.ensures
