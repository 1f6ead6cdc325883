use Rattle.std.proofs.Common.{Option, string_bytes}
use Rattle.std.specs.HashMap.{get}
use Rattle.hir_types.specs.declared.ids.DefWithBodyId.{DefWithBodyId}
use Rattle.infer_result.specs.declared.result.InferenceResult.{InferenceResult}
use Rattle.infer_run.specs.Reports.{Fits, def_eq}
use Rattle.infer_run.proofs.MadeReports.{WrittenTo}
use Rattle.infer_run.proofs.session.push_answers.Given as goal

abbrev pub invariant-loop-def : goal.invariant-loop-def
invariant-loop-def l = (answers : DefWithBodyId → Option InferenceResult) → ((d : DefWithBodyId) → Fits l.facts d (get def_eq l.reports d) (answers d))
    → WrittenTo l.facts answers l.defs l.def-index (string_bytes l.fn.text) (string_bytes l.text) l.complains
