use Rattle.std.proofs.Common.{◌≡◌, ◌∙◌, [], ◌∷◌, inl, sym, ap, subst}
use Rattle.infer_needs.specs.Words.{RawFacts, answers, system, asked_goal, IsAnswer, scope_of}
use Rattle.infer_needs.proofs.Adding.{adds_then, has_later}
use Rattle.infer_needs.proofs.Telling.{tells_one}
use Rattle.infer_needs.proofs.Judging.{refused, not_yes}
use Rattle.infer_needs.proofs.ReadGoals.{proved_yes}
use Rattle.infer_needs.proofs.Rooted.{roots_none, roots_proved, roots_more}
use Rattle.infer_needs.proofs.prove.prove_need.Goals as goal

pub note-requires-clause-yes : goal.note-requires-clause-yes
note-requires-clause-yes c =
    let n = c.args.sources.now.facts.limits.goal_depth in
    subst (IsAnswer (system c.args.sources.now.sources) n (asked_goal c.args.goal)) c.in-Yes.is c.in_ok-evaluate.ensures.answer

pub note-requires-clause-has : goal.note-requires-clause-has
note-requires-clause-has c =
    let f = system c.args.sources.now.sources in
    let raw = c.args.sources.now.facts in
    let a = asked_goal c.args.goal in
    let depth : c.raw.result.now.limits.goal_depth ≡ raw.limits.goal_depth = ap (λ (r : RawFacts). r.limits.goal_depth) (c.raw.ensures.value ∙ c.facts.ensures) in
    let yes = subst (IsAnswer f raw.limits.goal_depth a) c.in-Yes.is c.in_ok-evaluate.ensures.answer in
    proved_yes f c.raw.result.now.limits.goal_depth c.prove_goal.new.proofs.items c.args.goal c.in_ok-prove_goal-in-Yes.field-0 (subst (λ n. (answers f n).Yes a) (sym depth) yes) c.in_ok-prove_goal-in-Yes.ensures.proved

pub returns-in_ok-note-in-Yes : goal.returns-in_ok-note-in-Yes
returns-in_ok-note-in-Yes c =
    let f = system c.args.sources.now.sources in
    let raw = c.args.sources.now.facts in
    let a = asked_goal c.args.goal in
    let answer = c.in_ok-evaluate.field-0 in
    let told = c.in_ok-evaluate.ensures in
    let depth : c.raw.result.now.limits.goal_depth ≡ raw.limits.goal_depth = ap (λ (r : RawFacts). r.limits.goal_depth) (c.raw.ensures.value ∙ c.facts.ensures) in
    let yes = subst (IsAnswer f raw.limits.goal_depth a) c.in-Yes.is told.answer in
    let first = c.prove_goal.new.proofs.items in
    let last = c.note.new.proofs.items in
    let has = proved_yes f c.raw.result.now.limits.goal_depth first c.args.goal c.in_ok-prove_goal-in-Yes.field-0 (subst (λ n. (answers f n).Yes a) (sym depth) yes) c.in_ok-prove_goal-in-Yes.ensures.proved in
    let notes = c.in_ok-note-in-Yes.ensures in
    let proved = c.in_ok-prove_goal-in-Yes.ensures in
    record {
      judged = inl (record {
        adds = adds_then raw f c.args.proofs.now.items first last proved.adds notes.adds;
        has = has_later first last a notes.adds.behind has;
        noted = notes.noted;
      });
      told = tells_one f raw.limits.goal_depth c.args.goal answer c.args.told.now.items c.evaluate.new.told.items told.answer told.told;
      roots = roots_more (a ∷ []) c.args.proofs.now.items first last
          (roots_proved raw c.args.sources.now.item f c.raw.result.now.limits.goal_depth c.args.goal c.args.proofs.now.items first c.in_ok-prove_goal-in-Yes.field-0 proved.adds.behind proved.roots proved.proved) notes.roots;
    }

pub returns-in_ok-complain-in-No : goal.returns-in_ok-complain-in-No
returns-in_ok-complain-in-No c =
    let raw = c.args.sources.now.facts in
    let f = system c.args.sources.now.sources in
    let answer = c.in_ok-evaluate.field-0 in
    let told = c.in_ok-evaluate.ensures in
    record {
      judged = refused raw (scope_of c.args.sources.now.facts c.args.def) f c.args.node c.args.goal c.args.proofs.now.items c.args.found.now c.args.gaps.now c.complain.new.gaps (not_yes f raw.limits.goal_depth (asked_goal c.args.goal) answer c.in-No.is told.answer) c.in_ok-complain-in-No.ensures;
      told = tells_one f raw.limits.goal_depth c.args.goal answer c.args.told.now.items c.evaluate.new.told.items told.answer told.told;
      roots = roots_none (asked_goal c.args.goal ∷ []) c.args.proofs.now.items;
    }
