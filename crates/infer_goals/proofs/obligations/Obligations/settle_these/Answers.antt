use Rattle.std.proofs.Common.{◌≡◌, sym, ap, ◌∙◌, subst}
use Rattle.infer_goals.specs.Own.{AreWithin}
use Rattle.infer_goals.proofs.Scanning.{is_within}
use Rattle.infer_goals.proofs.obligations.Obligations.settle_these.Goals as goal

pub settle-requires-clause-within : goal.settle-requires-clause-within
settle-requires-clause-within c =
    let depth : c.args.sources.now.facts.limits.goal_depth ≡ c.raw.result.now.limits.goal_depth = sym (ap (λ r. r.limits.goal_depth) (c.raw.ensures.value ∙ c.facts.ensures)) in
    subst (λ d. AreWithin c.args.self.now.tree d c.args.numbers.items) depth c.requires.within

pub returns-clause-there : goal.returns-clause-there
returns-clause-there c k i e = is_within (λ n. _) c.settle.new.self.tree i (c.in_ok-self.ensures.within k i e)

pub returns-clause-asleep : goal.returns-clause-asleep
returns-clause-asleep c = c.replace-asleep.ensures.value
