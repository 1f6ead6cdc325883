use Rattle.std.proofs.Common.{get_or, string_bytes, sym, subst}
use Rattle.hir_types.specs.declared.ids.DefWithBodyId.{DefWithBodyId}
use Rattle.infer_run.specs.Reports.{Fits}
use Rattle.hir_types.specs.declared.ids.DefWithBodyId.TheVariants as def
use Rattle.infer_run.proofs.MadeReports.{write_none, write_more, write_all}
use Rattle.infer_run.proofs.session.push_answers.Goals as goal

pub loop-def-init : goal.loop-def-init
loop-def-init c = λ answers fits. write_none c.args.facts.now answers c.args.defs.now (string_bytes c.args.text.now)

pub loop-def-preserved : goal.loop-def-preserved
loop-def-preserved c = λ answers fits.
    let raw = c.args.facts.now in
    let z : DefWithBodyId = def.FunctionId (record { 0 = 0 }) in
    let d : DefWithBodyId = get_or c.args.defs.now c.loop-def.def-index z in
    let told = c.in_ok-complains.ensures (answers d) (subst (λ r. Fits raw d r (answers d)) (sym c.get.ensures.value) (fits d)) in
    write_more raw answers c.args.defs.now c.loop-def.def-index _ (string_bytes c.loop-def.text) c.loop-def.complains z (string_bytes c.push_answer.new.text) c.in_ok-complains.field-0 c.loop-def-test.true (c.loop-def.invariant answers fits) told.0 told.1

pub returns : goal.returns
returns c = λ answers fits.
    write_all c.args.facts.now answers c.args.defs.now c.loop-def.def-index _ (string_bytes c.loop-def.text) c.loop-def.complains c.loop-def-test.false (c.loop-def.invariant answers fits)
