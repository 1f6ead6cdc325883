use Rattle.std.proofs.Common.{◌≡◌, ◌∙◌, [], ◌∷◌, sym, ap, subst}
use Rattle.infer_needs.specs.Words.{RawFacts, answers, system, asked_goal}
use Rattle.infer_needs.specs.Own.{HasProofOf}
use Rattle.infer_needs.proofs.Adding.{adds_none}
use Rattle.infer_needs.proofs.Rooted.{roots_none, roots_read}
use Rattle.infer_needs.proofs.ReadGoals.{proved_yes}
use Rattle.infer_needs.proofs.note.prove_read.Goals as goal

pub returns-then-is_same : goal.returns-then-is_same
returns-then-is_same c =
    let ps = c.args.proofs.now.items in
    let same = sym c.in_ok-asks.ensures.is ∙ (c.is_same.ensures.0 c.if-is_same.true ∙ c.in_ok-reads.ensures.is) in
    record {
      adds = adds_none c.args.sources.now.facts (system c.args.sources.now.sources) ps;
      roots = roots_none (asked_goal c.args.goal.now ∷ []) ps;
      has = subst (HasProofOf ps) same c.requires.has;
    }

pub returns : goal.returns
returns c =
    let f = system c.args.sources.now.sources in
    let raw = c.args.sources.now.facts in
    let depth : c.raw.result.now.limits.goal_depth ≡ raw.limits.goal_depth = ap (λ (r : RawFacts). r.limits.goal_depth) (c.raw.ensures.value ∙ c.facts.ensures) in
    record {
      adds = c.in_ok-prove_goal.ensures.adds;
      roots = roots_read raw c.args.sources.now.item f (asked_goal c.args.goal.now) c.raw.result.now.limits.goal_depth c.args.read.now c.args.proofs.now.items c.prove_goal.new.proofs.items c.in_ok-prove_goal.field-0
          c.requires.reads c.requires.about c.in_ok-prove_goal.ensures.adds.behind c.in_ok-prove_goal.ensures.roots c.in_ok-prove_goal.ensures.proved;
      has = proved_yes f c.raw.result.now.limits.goal_depth c.prove_goal.new.proofs.items c.args.read.now c.in_ok-prove_goal.field-0
          (subst (λ n. (answers f n).Yes (asked_goal c.args.read.now)) (sym depth) c.requires.yes) c.in_ok-prove_goal.ensures.proved;
    }
