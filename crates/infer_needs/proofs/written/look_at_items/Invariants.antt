use Rattle.infer_needs.specs.Words.{system}
use Rattle.infer_needs.specs.Own.{Lists}
use Rattle.infer_needs.proofs.Writing.{FirstHold, OfItem}
use Rattle.infer_needs.proofs.written.look_at_items.Given as goal

-- of the first of them
abbrev pub invariant-loop-item : goal.invariant-loop-item
invariant-loop-item l =
    Lists l.sources.facts l.sources.item (system l.sources.sources) (FirstHold (OfItem l.sources.facts (system l.sources.sources)) l.items l.item-index) l.fn.proofs.items l.proofs.items l.fn.found l.found
