use Rattle.std.proofs.Common.{ℕ, [], ◌∷◌, ◌++◌, ap, ◌∙◌}
use Rattle.infer_goals.proofs.Sleeping.{all_registered}
use Rattle.infer_goals.proofs.obligations.Obligations.register.Goals as goal

pub returns-clause-all : goal.returns-clause-all
returns-clause-all c f s all = record {
  earlier = all.earlier;
  grew = all.grew;
  since = all_registered f all.earlier c.args.self.now.tree c.register.new.self c.args.self.now.asleep c.args.self.now.todo.items c.push.new.self.items _ c.requires.tree c.in_ok-register.ensures.tree c.in_ok-register.ensures.asked (c.in_ok-push.ensures.items ∙ ap (λ (n : ℕ). c.args.self.now.todo.items ++ n ∷ []) c.len-number.ensures) all.since;
}
