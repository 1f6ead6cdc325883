use Rattle.std.proofs.Common.{◌≡◌, Some, sym, subst, ◌∙◌, IsTrue}
use Rattle.std.proofs.lemmas.Bool.{false≢true}
use Rattle.infer_ctx.specs.Words.{out-Ty}
use Rattle.infer_ctx.specs.Own.{unless_empty}
use Rattle.infer_ctx.proofs.Expected.{of_arms_at, unless_empty_other, unless_empty_tuple}
use Rattle.infer_ctx.proofs.expectation.Expectation.unless_unit.Goals.{in_default-via-in-Tuple+else-is_empty, in_default-via-in_default}
use Rattle.infer_ctx.proofs.expectation.Expectation.unless_unit.Goals as goal

pub returns-in_default : goal.returns-in_default
returns-in_default c =
    let t = c.in-HasType.ty.now in
    let r = c.shallow_resolve.result.now in
    let kept : unless_empty t (out-Ty r) ≡ Some t = elim c.in_default.branch [
      | in_default-via-in-Tuple+else-is_empty w ↦ unless_empty_tuple t r _ w.in-Tuple.is (λ none. (let yes = w.is_empty.ensures.1 none in false≢true (subst IsTrue w.if-is_empty.false yes)))
      | in_default-via-in_default w ↦ unless_empty_other t r w.in_default.not-Tuple
    ] in
    rw c.in-HasType.is (sym (of_arms_at c.args.table.now t r c.shallow_resolve.ensures.same c.shallow_resolve.ensures.open ∙ kept))
