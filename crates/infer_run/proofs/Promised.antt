-- What is promised of a table, from what the query ensures of it.
use Rattle.std.specs.Prelude.{Result, Ok, Err, IfOk}
use Rattle.hir_types.specs.declared.ids.DefWithBodyId.{DefWithBodyId}
use Rattle.hir_raw.specs.declared.raw.RawFacts.{RawFacts}
use Rattle.hir_facts.specs.Bodies.{HasCarriedBody}
use Rattle.infer_result.specs.declared.result.InferenceResult.{InferenceResult}
use Rattle.infer_result.specs.Typed.{IsTableOf}
use Rattle.infer_result.specs.General.{HasGeneral}
use Rattle.infer_expr.specs.Below.{NoneStays}
use Rattle.infer_run.specs.Table.{HasAskedProofs, HasFitEntries, HasFitProofs, HasGoals, HasWritten, IsPromised, IsReadThrough, IsSelectedTable}

module _ (raw : RawFacts) (d : DefWithBodyId) (has : HasCarriedBody raw d) where
  pub promised : {E : Type 0} (r : Result InferenceResult E) → IfOk r (λ t. IsTableOf raw d t) → IfOk r (λ t. HasGeneral raw d t)
      → IfOk r (λ t. NoneStays raw d t) → IfOk r (λ t. HasGoals raw d t) → IfOk r (λ t. IsReadThrough raw d t) → IfOk r (λ t. HasWritten raw d t)
      → IfOk r (λ t. HasAskedProofs raw d t) → IfOk r (λ t. HasFitEntries raw d t) → IfOk r (λ t. HasFitProofs raw d t)
      → IfOk r (λ t. IsSelectedTable raw d t) → IfOk r (λ t. IsPromised raw d t)
  promised (Ok t) typed general stays goals left written roots fit proofs selected = record {
    has_body = has;
    typed = typed;
    general = general;
    stays = stays;
    goals = goals;
    left = left;
    written = written;
    roots = roots;
    fit = fit;
    proofs = proofs;
    selected = selected;
  }
  promised (Err e) typed general stays goals left written roots fit proofs selected = tt
