use Rattle.std.proofs.lemmas.Result.{IfOk-weaker}
use Rattle.hir_laws.proofs.Binding.{formed}
use Rattle.hir_laws.proofs.trees.is_well_formed.Goals as goal

pub returns : goal.returns
returns c =
    let numbered = rw c.in-Some.is at c.in_ok-schedule.ensures in
    IfOk-weaker _ _ _ (λ told says. formed c.args.body.now c.in-Some.schedule told numbered.0 (c.in_ok-are_bound_once.ensures.0 c.if-not-branch.false) says) c.stand_once.ensures
