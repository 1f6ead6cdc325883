use Rattle.std.proofs.Common.{◌≡◌, ◌∙◌}
use Rattle.hir_ids.specs.Words.{body_said}
use Rattle.hir_ids.proofs.body_ids.all_exist.Goals as goal

pub returns : goal.returns
returns c = let is : c.deref.result.now ≡ body_said c.args.body.now = c.deref.ensures.value ∙ c.in_ok-said.ensures in rw is at c.exist.ensures
