use Rattle.std.proofs.Common.{◌≡◌, map, take}
use Rattle.infer_ctx.specs.Words.{fn_types}
use Rattle.infer_ctx.specs.Own.{written_at}
use Rattle.infer_ctx.proofs.given.GivenBody.inputs_at.Given as goal

abbrev pub invariant-loop-type_ref : goal.invariant-loop-type_ref
invariant-loop-type_ref l = l.tys ≡ map (written_at (fn_types l.self.facts.now.types l.function) l.args) (take l.type_ref-index l.type_ref-items)
