use Rattle.std.proofs.Common.{refl, sym, ◌∙◌, length, arith}
use Rattle.std.proofs.lemmas.Option.{slice_get_read}
use Rattle.infer_table.proofs.Unifying.{in_parts, not_in_more}
use Rattle.infer_table.proofs.equate.+stands.Goals as goal

pub stands_in_parts-returns-then-branch : goal.stands_in_parts-returns-then-branch
stands_in_parts-returns-then-branch t c =
    let at = slice_get_read c.args.parts.now (length c.args.parts.now) c.loop-part.part-index c.part-item.result refl (omega arith) c.part-item.is in
    sym (in_parts c.args.x c.args.parts.now c.loop-part.part-index c.part-item.result at (sym c.in_ok-stands_in_part.ensures ∙ c.if-branch.true))

pub stands_in_parts-loop-part-preserved : goal.stands_in_parts-loop-part-preserved
stands_in_parts-loop-part-preserved t c =
    let at = slice_get_read c.args.parts.now (length c.args.parts.now) c.loop-part.part-index c.part-item.result refl (omega arith) c.part-item.is in
    not_in_more c.args.x c.args.parts.now c.loop-part.part-index c.part-item.result at (sym c.in_ok-stands_in_part.ensures ∙ c.if-branch.false) c.loop-part.invariant
