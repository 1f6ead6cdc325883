use Rattle.std.proofs.Common.{◌≡◌, ◌+◌, suc, ◌∙◌, ap, sym, arith, length}
use Rattle.std.proofs.lemmas.List.{length-map}
use Rattle.goal_facts.specs.Words.{asked_of, asked_list}
use Rattle.goal_facts.specs.Own.{Has}
use Rattle.goal_facts.proofs.Following.{next_level}
use Rattle.goal_facts.proofs.closure.close.Goals as goal

pub loop-preserved : goal.loop-preserved
loop-preserved c =
    let next : c.loop.counter + 1 ≡ suc c.loop.counter = omega arith in
    let end : length c.as_slice-to.result.now ≡ length (asked_list c.loop.goals.items) = ap length c.as_slice-to.ensures.value ∙ sym (length-map c.loop.goals.items asked_of) in
    next_level c.args.facts.now (Has (asked_list c.args.goals.items)) c.loop.counter (c.loop.counter + 1) c.loop.from (length c.as_slice-to.result.now) (asked_list c.loop.goals.items) (asked_list c.add_level.new.goals.items) next end c.loop.invariant c.in_ok-add_level.ensures
