use Rattle.std.proofs.Common.{sym, ap, ◌∙◌}
use Rattle.goal_prove.specs.Words.{Proof, asked_goal}
use Rattle.goal_prove.proofs.Answering.{entry_of_goal}
use Rattle.goal_prove.proofs.listed.proof_since.Goals as goal

pub returns-then-is_same : goal.returns-then-is_same
returns-then-is_same c =
    entry_of_goal c.args.proofs.now c.loop-number.number c.index-proofs-number.result c.loop-number-test.true c.index-proofs-number.is c.args.goal.now c.in_ok-listed.listed c.in_ok-wanted.wanted
    (c.in_ok-listed.ensures.is ∙ ap (λ (x : Proof). asked_goal x.goal) (sym c.index-proofs-number.is)) c.in_ok-wanted.ensures.is (c.is_same.ensures.0 c.if-is_same.true)
