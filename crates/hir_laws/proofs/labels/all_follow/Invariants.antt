use Rattle.hir_laws.specs.Own.{FollowsAt}
use Rattle.hir_laws.proofs.Words.{Passed}
use Rattle.hir_laws.proofs.labels.all_follow.Given as goal

abbrev pub invariant-loop-at : goal.invariant-loop-at
invariant-loop-at l = Passed (FollowsAt l.places) l.places l.places l.at
