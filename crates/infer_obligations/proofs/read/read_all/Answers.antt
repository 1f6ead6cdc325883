use Rattle.std.proofs.Common.{sym, ◌∙◌, arith}
use Rattle.infer_obligations.specs.Words.{given_of}
use Rattle.infer_obligations.proofs.ReadNeeds.{begins_times, once_more, bound_none, all_binds, leaves_fewer}
use Rattle.infer_obligations.proofs.read.read_all.Goals as goal

pub read-init : goal.read-init
read-init c = begins_times (given_of c.args.given.now) c.args.context.now c.requires.of_body c.requires.sound

pub read_nodes-requires-clause-of_body : goal.read_nodes-requires-clause-of_body
read_nodes-requires-clause-of_body c = c.read.invariant.binds.follows.of_body

pub read_nodes-requires-clause-sound : goal.read_nodes-requires-clause-sound
read_nodes-requires-clause-sound c = c.read.invariant.binds.follows.sound

pub read-preserved : goal.read-preserved
read-preserved c = once_more (given_of c.args.given.now) c.args.context.now c.read.context c.read_nodes.new.context c.read.invariant c.in_ok-read_nodes.ensures

pub returns-then-bound_count-bound : goal.returns-then-bound_count-bound
returns-then-bound_count-bound c =
    bound_none (given_of c.args.given.now) c.args.context.now c.read.context c.read_nodes.new.context c.read.invariant c.in_ok-read_nodes.ensures
    (sym c.bound_count.ensures ∙ (c.if-bound_count-bound.true ∙ c.bound_count-bound.ensures))

pub read-smaller : goal.read-smaller
read-smaller c =
    leaves_fewer (given_of c.args.given.now) c.read.context c.read_nodes.new.context _ (all_binds (given_of c.args.given.now) c.read.context c.read_nodes.new.context c.in_ok-read_nodes.ensures)
    c.bound_count.ensures (omega arith) (λ same. c.if-bound_count-bound.false (same ∙ sym c.bound_count-bound.ensures))
