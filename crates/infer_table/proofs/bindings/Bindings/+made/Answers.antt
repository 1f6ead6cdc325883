use Rattle.std.proofs.Common.{refl, length, subst}
use Rattle.std.proofs.lemmas.Option.{slice_get_read}
use Rattle.infer_table.specs.Words.{part_term}
use Rattle.infer_table.specs.Own.{MadeIf}
use Rattle.infer_table.proofs.HolesMade.{made_more, not_made}
use Rattle.infer_table.proofs.bindings.Bindings.+made.Goals as goal

pub parts_are_made-returns-then-not-branch : goal.parts_are_made-returns-then-not-branch
parts_are_made-returns-then-not-branch t c =
    let at = slice_get_read c.args.parts.now (length c.args.parts.now) c.loop-part.part-index c.part-item.result refl c.loop-part-test.true c.part-item.is in
    not_made c.args.self.now.kinds c.args.parts.now c.loop-part.part-index c.part-item.result at
    (subst (λ yes. MadeIf yes c.args.self.now.kinds (part_term c.part-item.result)) c.if-not-branch.true c.in_ok-part_is_made.ensures)

pub parts_are_made-loop-part-preserved : goal.parts_are_made-loop-part-preserved
parts_are_made-loop-part-preserved t c =
    let at = slice_get_read c.args.parts.now (length c.args.parts.now) c.loop-part.part-index c.part-item.result refl c.loop-part-test.true c.part-item.is in
    made_more c.args.self.now.kinds c.args.parts.now c.loop-part.part-index c.part-item.result at c.loop-part.invariant
    (subst (λ yes. MadeIf yes c.args.self.now.kinds (part_term c.part-item.result)) c.if-not-branch.false c.in_ok-part_is_made.ensures)
