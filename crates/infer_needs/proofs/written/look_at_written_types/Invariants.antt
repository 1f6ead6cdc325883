use Rattle.infer_needs.specs.Words.{system}
use Rattle.infer_needs.specs.Own.{Lists}
use Rattle.infer_needs.proofs.Writing.{FirstHold, OfType}
use Rattle.infer_needs.proofs.written.look_at_written_types.Given as goal

-- of the first of them
abbrev pub invariant-loop-number : goal.invariant-loop-number
invariant-loop-number l =
    Lists l.sources.facts l.sources.item (system l.sources.sources) (FirstHold (OfType l.sources.facts (system l.sources.sources)) l.numbers l.number-index) l.fn.proofs.items l.proofs.items l.fn.found l.found
