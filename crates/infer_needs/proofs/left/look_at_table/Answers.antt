use Rattle.std.proofs.lemmas.Result.{on_ok_weaker}
use Rattle.infer_needs.specs.Words.{system}
use Rattle.infer_needs.proofs.Leaving.{types_whole, mismatches_whole, diagnostics_whole, lists_table}
use Rattle.infer_result.specs.Columns as column
use Rattle.infer_needs.proofs.left.look_at_table.Goals as goal

pub look_at_types-requires-clause-whole : goal.look_at_types-requires-clause-whole
look_at_types-requires-clause-whole c = rw c.as_slice.ensures (types_whole _ c.args.table.now.type_of_expr (c.requires.whole.each column.type_of_expr))

pub look_at_types-requires-2-clause-whole : goal.look_at_types-requires-2-clause-whole
look_at_types-requires-2-clause-whole c = rw c.as_slice-2.ensures (types_whole _ c.args.table.now.type_of_pat (c.requires.whole.each column.type_of_pat))

pub look_at_types-requires-3-clause-whole : goal.look_at_types-requires-3-clause-whole
look_at_types-requires-3-clause-whole c = rw c.as_slice-3.ensures (types_whole _ c.args.table.now.type_of_binding (c.requires.whole.each column.type_of_binding))

pub look_at_types-requires-4-clause-whole : goal.look_at_types-requires-4-clause-whole
look_at_types-requires-4-clause-whole c = rw c.as_slice-4.ensures (types_whole _ c.args.table.now.type_of_placeholder (c.requires.whole.each column.type_of_placeholder))

pub look_at_types-requires-5-clause-whole : goal.look_at_types-requires-5-clause-whole
look_at_types-requires-5-clause-whole c = rw c.as_slice-5.ensures (types_whole _ c.args.table.now.item_of_pat (c.requires.whole.each column.item_of_pat))

pub look_at_mismatches-requires-clause-whole : goal.look_at_mismatches-requires-clause-whole
look_at_mismatches-requires-clause-whole c = rw c.as_slice-6.ensures (mismatches_whole _ c.args.table.now.expr_mismatches (c.requires.whole.each column.expr_mismatches))

pub look_at_mismatches-requires-2-clause-whole : goal.look_at_mismatches-requires-2-clause-whole
look_at_mismatches-requires-2-clause-whole c = rw c.as_slice-7.ensures (mismatches_whole _ c.args.table.now.pat_mismatches (c.requires.whole.each column.pat_mismatches))

pub look_at_diagnostics-requires-clause-whole : goal.look_at_diagnostics-requires-clause-whole
look_at_diagnostics-requires-clause-whole c = rw c.as_slice-8.ensures (diagnostics_whole _ c.args.table.now.expr_diagnostics (c.requires.whole.each column.expr_diagnostics))

pub look_at_types-requires-4-clause-read : goal.look_at_types-requires-4-clause-read
look_at_types-requires-4-clause-read c = c.in_ok-look_at_types-3.ensures.adds.read (c.in_ok-look_at_types-2.ensures.adds.read (c.in_ok-look_at_types.ensures.adds.read c.requires.read))

pub look_at_types-requires-5-clause-read : goal.look_at_types-requires-5-clause-read
look_at_types-requires-5-clause-read c = c.in_ok-look_at_types-4.ensures.adds.read (c.in_ok-look_at_types-3.ensures.adds.read (c.in_ok-look_at_types-2.ensures.adds.read (c.in_ok-look_at_types.ensures.adds.read c.requires.read)))

pub look_at_mismatches-requires-clause-read : goal.look_at_mismatches-requires-clause-read
look_at_mismatches-requires-clause-read c = c.in_ok-look_at_types-5.ensures.adds.read (c.in_ok-look_at_types-4.ensures.adds.read (c.in_ok-look_at_types-3.ensures.adds.read (c.in_ok-look_at_types-2.ensures.adds.read (c.in_ok-look_at_types.ensures.adds.read c.requires.read))))

pub look_at_mismatches-requires-2-clause-read : goal.look_at_mismatches-requires-2-clause-read
look_at_mismatches-requires-2-clause-read c =
    c.in_ok-look_at_mismatches.ensures.adds.read (c.in_ok-look_at_types-5.ensures.adds.read (c.in_ok-look_at_types-4.ensures.adds.read (c.in_ok-look_at_types-3.ensures.adds.read (c.in_ok-look_at_types-2.ensures.adds.read (c.in_ok-look_at_types.ensures.adds.read c.requires.read)))))

pub look_at_diagnostics-requires-clause-read : goal.look_at_diagnostics-requires-clause-read
look_at_diagnostics-requires-clause-read c =
    c.in_ok-look_at_mismatches-2.ensures.adds.read (c.in_ok-look_at_mismatches.ensures.adds.read (
    c.in_ok-look_at_types-5.ensures.adds.read (c.in_ok-look_at_types-4.ensures.adds.read (c.in_ok-look_at_types-3.ensures.adds.read (c.in_ok-look_at_types-2.ensures.adds.read (c.in_ok-look_at_types.ensures.adds.read c.requires.read))))
    ))

pub returns : goal.returns
returns c =
    on_ok_weaker c.look_at_diagnostics.result (λ last. lists_table c.args.sources.now.facts c.args.sources.now.item (system c.args.sources.now.sources) c.args.table.now _ _ _ _ _ _ _ _ _ _ _ _ _ _ _ _ _ _
    (rw c.as_slice.ensures at c.in_ok-look_at_types.ensures) (rw c.as_slice-2.ensures at c.in_ok-look_at_types-2.ensures) (rw c.as_slice-3.ensures at c.in_ok-look_at_types-3.ensures) (rw c.as_slice-4.ensures at c.in_ok-look_at_types-4.ensures)
    (rw c.as_slice-5.ensures at c.in_ok-look_at_types-5.ensures) (rw c.as_slice-6.ensures at c.in_ok-look_at_mismatches.ensures) (rw c.as_slice-7.ensures at c.in_ok-look_at_mismatches-2.ensures) (rw c.as_slice-8.ensures at last)) c.look_at_diagnostics.ensures
