use Rattle.infer_pat.specs.Words.{scope_in}
use Rattle.infer_pat.specs.Own.{AreFreshArgs}
use Rattle.infer_pat.proofs.path.fresh_args_for_item.Given as goal

abbrev pub invariant-loop : goal.invariant-loop
invariant-loop l = AreFreshArgs (scope_in l.given) l.counter l.args l.initial.context l.context
