use Rattle.infer_obligations.specs.Words.{given_of}
use Rattle.infer_obligations.proofs.ReadNeeds.{FirstPathsRead}
use Rattle.infer_obligations.proofs.read.read_paths.Given as goal

abbrev pub invariant-loop-at : goal.invariant-loop-at
invariant-loop-at l = FirstPathsRead (given_of l.given) l.at l.initial.context l.context
