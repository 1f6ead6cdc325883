use Rattle.std.proofs.Common.{rules}
use Rattle.std.proofs.lemmas.List.{append_assoc}
use Rattle.hir_ids.specs.Words.{body_said}
use Rattle.hir_ids.proofs.saying.said_of_body.Goals as goal

pub returns : goal.returns
unfolding body_said
returns c = search (rules, append_assoc)
