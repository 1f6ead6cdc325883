use Rattle.std.proofs.Common.{◌≡◌, ◌∙◌}
use Rattle.hir_ids.specs.Words.{body_parts, nodes}
use Rattle.hir_ids.proofs.body_ids.has_own_parts.Goals as goal

pub returns : goal.returns
returns c = let is : c.deref.result.now ≡ nodes (body_parts c.args.body.now) = c.deref.ensures.value ∙ c.in_ok-nodes.ensures in rw is at c.are_in_body.ensures
