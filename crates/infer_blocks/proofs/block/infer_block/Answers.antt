use Rattle.std.proofs.lemmas.List.{get_or_default}
use Rattle.infer_blocks.proofs.Words.{later}
use Rattle.infer_blocks.proofs.Blocks.{begins_block, comes_to_stmt, goes_past_stmt, comes_to_tail, ends_block}
use Rattle.infer_blocks.proofs.block.infer_block.Goals as goal

pub loop-i-init : goal.loop-i-init
loop-i-init g c = begins_block _ _ _ _ _ _ _ c.requires.before c.requires.is

pub infer_stmt-requires-clause-infers : goal.infer_stmt-requires-clause-infers
infer_stmt-requires-clause-infers g c = later _ _ _ _ _ _ c.loop-i.invariant.walk.follows.clock c.requires.infers

pub infer_stmt-requires-clause-before : goal.infer_stmt-requires-clause-before
infer_stmt-requires-clause-before g c =
    comes_to_stmt _ _ _ _ _ _ _ _ c.loop-i.invariant _ (get_or_default _ _ _ _ c.loop-i-test.true) c.loop-i-test.true _ c.requires.before c.requires.is

pub infer_tail-requires-clause-infers : goal.infer_tail-requires-clause-infers
infer_tail-requires-clause-infers g c = later _ _ _ _ _ _ c.loop-i.invariant.walk.follows.clock c.requires.infers

pub infer_tail-requires-clause-before : goal.infer_tail-requires-clause-before
infer_tail-requires-clause-before g c = comes_to_tail _ _ _ _ _ _ _ _ c.loop-i.invariant c.loop-i-test.false _ c.requires.before

pub loop-i-preserved : goal.loop-i-preserved
loop-i-preserved g c =
    goes_past_stmt _ _ _ _ _ _ _ _ c.loop-i.invariant _ (get_or_default _ _ _ _ c.loop-i-test.true) c.loop-i-test.true _ c.in_ok-infer_stmt.ensures

pub returns : goal.returns
returns g c = ends_block _ _ _ _ _ _ _ _ c.loop-i.invariant c.loop-i-test.false _ c.requires.before c.requires.is _ _ c.in_ok-ty.ensures
