use Rattle.std.proofs.Common.{◌≡◌, ◌∙◌, ap}
use Rattle.hir_ids.specs.Words.{listed_aliases}
use Rattle.hir_ids.proofs.goal_ids.AliasIds.new.Goals as goal

pub returns : goal.returns
returns c =
    let is : c.deref.result.now ≡ listed_aliases c.args.raw.now.traits = c.deref.ensures.value ∙ (c.in_ok-listed.ensures ∙ ap listed_aliases c.as_slice.ensures) in
    rw (← is, ← c.len.ensures) c.in_ok-listers.ensures
