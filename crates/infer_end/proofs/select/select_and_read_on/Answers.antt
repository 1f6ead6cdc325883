use Rattle.std.proofs.Common.{sym, ◌∙◌, arith}
use Rattle.infer_end.specs.Words.{given_of}
use Rattle.infer_end.proofs.Settling.{begins_rounds, once_more, bound_none, round_binds}
use Rattle.infer_end.proofs.select.select_and_read_on.Goals as goal
use Rattle.infer_end.proofs.Words.{leaves_fewer}

pub settle-init : goal.settle-init
settle-init c = begins_rounds (given_of c.args.given.now) c.args.context.now c.requires.of_body c.requires.sound

pub select_then_read-requires-clause-of_body : goal.select_then_read-requires-clause-of_body
select_then_read-requires-clause-of_body c = c.settle.invariant.binds.follows.of_body

pub select_then_read-requires-clause-sound : goal.select_then_read-requires-clause-sound
select_then_read-requires-clause-sound c = c.settle.invariant.binds.follows.sound

pub select_then_read-requires-clause-told : goal.select_then_read-requires-clause-told
select_then_read-requires-clause-told c = c.settle.invariant.binds.follows.told c.requires.told

pub settle-preserved : goal.settle-preserved
settle-preserved c = once_more (given_of c.args.given.now) c.args.context.now c.settle.context c.select_then_read.new.context c.settle.invariant c.in_ok-select_then_read.ensures

pub returns-then-bound_count-bound : goal.returns-then-bound_count-bound
returns-then-bound_count-bound c =
    bound_none (given_of c.args.given.now) c.args.context.now c.settle.context c.select_then_read.new.context c.settle.invariant c.in_ok-select_then_read.ensures
    (sym c.bound_count.ensures ∙ (c.if-bound_count-bound.true ∙ c.bound_count-bound.ensures))

pub settle-smaller : goal.settle-smaller
settle-smaller c =
    leaves_fewer (given_of c.args.given.now) c.settle.context c.select_then_read.new.context _ (round_binds (given_of c.args.given.now) c.settle.context c.select_then_read.new.context c.in_ok-select_then_read.ensures)
    c.bound_count.ensures (omega arith) (λ same. c.if-bound_count-bound.false (same ∙ sym c.bound_count-bound.ensures))
