use Rattle.std.proofs.Common.{◌∙◌, [], inl, refl, ap, ◌∷◌}
use Rattle.infer_needs.specs.Words.{system, asked_goal}
use Rattle.infer_needs.proofs.Adding.{adds_none}
use Rattle.infer_needs.proofs.Rooted.{roots_none}
use Rattle.infer_needs.proofs.ReadGoals.{trait_not_about}
use Rattle.infer_needs.proofs.note.note.Goals as goal

pub returns-in-Trait : goal.returns-in-Trait
returns-in-Trait c = record {
  adds = adds_none c.args.sources.now.facts (system c.args.sources.now.sources) c.args.proofs.now.items;
  roots = roots_none (asked_goal c.args.goal.now ∷ []) c.args.proofs.now.items;
  noted = inl (refl, refl, λ b about. trait_not_about b c.in-Trait._trait_ref (about.reads.kind ∙ ap (λ g. (asked_goal g).kind) c.in-Trait.is) about.about);
}
