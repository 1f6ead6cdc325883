use Rattle.std.proofs.Common.{◌≡◌, ◌∷◌, [], length, refl, sym, ap, ◌∙◌, subst, append_assoc, arith}
use Rattle.std.specs.Prelude.{map}
use Rattle.std.proofs.lemmas.List.{nil_from_length}
use Rattle.std.specs.Vec.Iter.{into_iter_items}
use Rattle.infer_needs.specs.Words.{system, asked_goal, scope_of}
use Rattle.infer_needs.specs.Own.{AreJudged, ListsAnswers, AddsRootsOf}
use Rattle.infer_needs.proofs.Telling.{tells_none, tells_both}
use Rattle.infer_needs.proofs.Rooted.{roots_none, roots_both}
use Rattle.infer_needs.proofs.Judging.{judged_none, judged_more, next_provable, all_asked, asked_more}
use Rattle.infer_needs.proofs.prove.prove_each.Goals as goal

pub loop-goal-init : goal.loop-goal-init
loop-goal-init c =
    let raw = c.args.sources.now.facts in
    let f = system c.args.sources.now.sources in
    record {
      items = refl;
      long = cc;
      judged = rw c.new-gaps.ensures (judged_none raw (scope_of c.args.sources.now.facts c.args.def) f c.args.node c.args.proofs.now.items c.args.found.now);
      told = tells_none f raw.limits.goal_depth c.args.told.now.items;
      roots = roots_none [] c.args.proofs.now.items;
    }

pub prove_need-requires : goal.prove_need-requires
prove_need-requires c =
    let at = c.loop-goal in
    let x = c.in-Some.goal in
    let gs = c.args.needed.items in
    let whole = at.invariant.items ∙ c.into_iter-goal-iterator.ensures.into_iter_gives.0 in
    next_provable (map asked_goal gs) at.yielded (into_iter_items at.goal-iterator) (into_iter_items c.next.new.self) gs x c.requires refl whole c.in-Some.ensures.steps.0

pub loop-goal-preserved : goal.loop-goal-preserved
loop-goal-preserved c =
    let at = c.loop-goal in
    let x = c.in-Some.goal in
    let raw = c.args.sources.now.facts in
    let n = raw.limits.goal_depth in
    let f = system c.args.sources.now.sources in
    let new = c.prove_need.new in
    let done = c.in_ok-prove_need.ensures in
    let more = asked_more at.yielded x in
    let steps : into_iter_items at.goal-iterator ≡ x ∷ into_iter_items c.next.new.self = c.in-Some.ensures.steps.0 in
    record {
      items = append_assoc at.yielded (x ∷ []) _ ∙ rw (← steps) at.invariant.items;
      long = (let was = at.invariant.long in let gone = c.in-Some.ensures.steps.1 in let short = ap length steps in omega arith);
      judged = subst (λ xs. AreJudged raw (scope_of c.args.sources.now.facts c.args.def) f c.args.node xs c.args.proofs.now.items new.proofs.items c.args.found.now new.found new.gaps) more
          (judged_more raw (scope_of c.args.sources.now.facts c.args.def) f c.args.node (map asked_goal at.yielded) x c.args.proofs.now.items at.proofs.items new.proofs.items c.args.found.now at.found new.found at.gaps new.gaps at.invariant.judged done.judged);
      told = subst (λ xs. ListsAnswers f n xs c.args.told.now.items new.told.items) more
          (tells_both f n (map asked_goal at.yielded) (asked_goal x ∷ []) c.args.told.now.items at.told.items new.told.items at.invariant.told done.told);
      roots = subst (λ xs. AddsRootsOf c.args.sources.now.facts c.args.sources.now.item (system c.args.sources.now.sources) xs c.args.proofs.now.items new.proofs.items) more
          (roots_both (map asked_goal at.yielded) (asked_goal x ∷ []) c.args.proofs.now.items at.proofs.items new.proofs.items at.invariant.roots done.roots);
    }

pub returns-clause-judged : goal.returns-clause-judged
returns-clause-judged c =
    let at = c.loop-goal in
    let raw = c.args.sources.now.facts in
    let gs = c.args.needed.items in
    let whole = at.invariant.items ∙ c.into_iter-goal-iterator.ensures.into_iter_gives.0 in
    let empty : into_iter_items at.goal-iterator ≡ [] = nil_from_length _ (sym at.invariant.long ∙ c.in-None.ensures.steps.0) in
    let all = all_asked (map asked_goal gs) at.yielded (into_iter_items at.goal-iterator) gs refl whole empty in
    subst (λ ys. AreJudged raw (scope_of c.args.sources.now.facts c.args.def) (system c.args.sources.now.sources) c.args.node ys c.args.proofs.now.items at.proofs.items c.args.found.now at.found at.gaps) all at.invariant.judged

pub returns-clause-told : goal.returns-clause-told
returns-clause-told c =
    let at = c.loop-goal in
    let raw = c.args.sources.now.facts in
    let gs = c.args.needed.items in
    let whole = at.invariant.items ∙ c.into_iter-goal-iterator.ensures.into_iter_gives.0 in
    let empty : into_iter_items at.goal-iterator ≡ [] = nil_from_length _ (sym at.invariant.long ∙ c.in-None.ensures.steps.0) in
    let all = all_asked (map asked_goal gs) at.yielded (into_iter_items at.goal-iterator) gs refl whole empty in
    subst (λ ys. ListsAnswers (system c.args.sources.now.sources) raw.limits.goal_depth ys c.args.told.now.items at.told.items) all at.invariant.told

pub returns-clause-roots : goal.returns-clause-roots
returns-clause-roots c =
    let at = c.loop-goal in
    let gs = c.args.needed.items in
    let whole = at.invariant.items ∙ c.into_iter-goal-iterator.ensures.into_iter_gives.0 in
    let empty : into_iter_items at.goal-iterator ≡ [] = nil_from_length _ (sym at.invariant.long ∙ c.in-None.ensures.steps.0) in
    let all = all_asked (map asked_goal gs) at.yielded (into_iter_items at.goal-iterator) gs refl whole empty in
    subst (λ ys. AddsRootsOf c.args.sources.now.facts c.args.sources.now.item (system c.args.sources.now.sources) ys c.args.proofs.now.items at.proofs.items) all at.invariant.roots
