use Rattle.std.proofs.Common.{arith, get_or, ◌++◌, ap, ◌∙◌}
use Rattle.std.specs.Prelude.{map, slice_get}
use Rattle.infer_result.specs.Words.{asked_goal}
use Rattle.infer_result.specs.Own.{alias_goals_by}
use Rattle.infer_result.proofs.AliasGoals.{up_to_next}
use Rattle.infer_result.proofs.needed.push_aliases.Goals as goal

pub loop-place-preserved : goal.loop-place-preserved
loop-place-preserved c =
    let raw = c.args.facts.now in
    let gs = map asked_goal c.loop-place.made.items in
    let more = c.in_ok-push_alias_goal_at.ensures ∙ ap (λ n. gs ++ alias_goals_by raw c.args.args.now n (slice_get raw.types (get_or c.args.aliases.now c.loop-place.place 0))) c.in_ok-number.ensures in
    up_to_next raw c.args.args.now c.args.params c.args.aliases.now _ gs (map asked_goal c.push_alias_goal_at.new.made.items) c.loop-place.place 0 (omega arith) more c.loop-place.invariant
