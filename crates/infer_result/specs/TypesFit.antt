-- Types that name what the facts have.
use Rattle.std.specs.Prelude.{IsTrue}
use Rattle.infer_result.specs.Words.{DefWithBodyId, RawFacts, scope_of, ty_fits}
use Rattle.infer_result.specs.declared.result.InferenceResult.{InferenceResult}
use Rattle.infer_result.specs.Closed.{AllTypes, AllSeen}

-- each type of the table fits the facts
abbrev pub TypesFit : RawFacts → DefWithBodyId → InferenceResult → Type 0
TypesFit raw d r = AllTypes (λ s. IsTrue (ty_fits (scope_of raw d) s)) r

-- so does each that a failed look-up saw, in which holes fit
abbrev pub SeenFit : RawFacts → DefWithBodyId → InferenceResult → Type 0
SeenFit raw d r = AllSeen (λ s. IsTrue (ty_fits (scope_of raw d) s)) r
