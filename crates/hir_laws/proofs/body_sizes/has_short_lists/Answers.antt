use Rattle.hir_laws.specs.Words.{ListIsShort}
use Rattle.hir_laws.proofs.Words.{mentions_tell}
use Rattle.hir_laws.proofs.body_sizes.has_short_lists.Goals as goal

pub returns : goal.returns
returns c = mentions_tell (λ n m. ListIsShort m) c.args.body.now c.deref.result.now c.are_short.result (rw c.deref.ensures.value c.in_ok-said.ensures) c.are_short.ensures
