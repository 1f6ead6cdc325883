use Rattle.std.proofs.Common.{◌≡◌, ◌∙◌}
use Rattle.hir_laws.specs.Words.{body_said}
use Rattle.hir_laws.proofs.Scoping.{scope_says}
use Rattle.hir_laws.proofs.scopes.are_in_scope.Goals as goal

pub returns : goal.returns
returns c =
    let is : c.as_slice-said.result.now ≡ body_said c.args.body.now = rw c.as_slice-said.ensures.value c.in_ok-said.ensures in
    scope_says c.args.body.now c.args.schedule.now c.deref.result.now c.as_slice-starts.result.now c.as_slice-said.result.now c.come_after.result c.as_slice-starts.ensures is (rw (c.deref.ensures.value, ← c.len.ensures) c.in_ok-firsts.ensures) c.requires c.come_after.ensures
