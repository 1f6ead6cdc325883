use Rattle.infer_needs.specs.Words.{system}
use Rattle.infer_needs.specs.Own.{Lists, StandsInDiagnostic}
use Rattle.infer_needs.proofs.Leaving.{FirstOf}
use Rattle.infer_needs.proofs.left.look_at_diagnostics.Given as goal

-- of the first of them
abbrev pub invariant-loop-entry : goal.invariant-loop-entry
invariant-loop-entry l =
    Lists l.sources.facts l.sources.item (system l.sources.sources) (FirstOf l.sources.facts l.sources.item (system l.sources.sources) StandsInDiagnostic l.entries l.entry-index) l.fn.proofs.items l.proofs.items l.fn.found l.found
