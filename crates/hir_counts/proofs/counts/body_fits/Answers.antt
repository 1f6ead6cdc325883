use Rattle.hir_counts.specs.Own.{number_in}
use Rattle.hir_counts.specs.Words.{MentionFits}
use Rattle.hir_counts.proofs.Words.{mentions_tell}
use Rattle.hir_counts.proofs.counts.body_fits.Goals as goal

pub returns : goal.returns
returns c =
    mentions_tell (λ n m. MentionFits (number_in c.args.standing.now.bounds.items) (number_in c.args.standing.now.wrongs.items) c.args.count m) c.args.body.now c.deref.result.now c.mentions_fit.result
    (rw c.deref.ensures.value c.in_ok-said.ensures) c.mentions_fit.ensures
