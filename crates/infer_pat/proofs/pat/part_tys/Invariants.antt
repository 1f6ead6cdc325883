use Rattle.infer_pat.specs.Words.{scope_in}
use Rattle.infer_pat.specs.Own.{AreTupleParts}
use Rattle.infer_pat.proofs.pat.part_tys.Given as goal

abbrev pub invariant-loop-i : goal.invariant-loop-i
invariant-loop-i l = AreTupleParts (scope_in l.given) l.expected l.i l.tys l.initial.context l.context
