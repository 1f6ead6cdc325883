use Rattle.infer_needs.specs.Words.{system}
use Rattle.infer_needs.specs.Own.{Lists}
use Rattle.infer_needs.proofs.Writing.{FirstHold, OfExpr}
use Rattle.infer_needs.proofs.written.look_at_exprs.Given as goal

-- of the first of them
abbrev pub invariant-loop-at : goal.invariant-loop-at
invariant-loop-at l =
    Lists l.sources.facts l.sources.item (system l.sources.sources) (FirstHold (OfExpr l.sources.facts (system l.sources.sources) l.table) l.body.exprs l.at) l.fn.proofs.items l.proofs.items l.fn.found l.found
