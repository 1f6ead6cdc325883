use Rattle.std.proofs.Common.{◌≡◌, ◌∙◌, List, ap, map, subst, sym}
use Rattle.std.specs.Prelude.{Option}
use Rattle.infer_needs.specs.Words.{Ty, out-Ty, RawFacts, Asked, asked_goal, system, pat_needs_by, pat_needs_of}
use Rattle.infer_needs.specs.Own.{AreProvable, Lists, GoalsAreListed}
use Rattle.infer_needs.proofs.written.look_at_item.Goals as goal

pub look_at_goals-requires-clause-provable : goal.look_at_goals-requires-clause-provable
look_at_goals-requires-clause-provable c =
    let raw = c.args.sources.now.facts in
    let all : map asked_goal c.in_ok-needed-in-Some.needed.items ≡ pat_needs_of raw c.args.item.now =
    c.in_ok-needed-in-Some.ensures ∙ ap (λ (z : RawFacts). pat_needs_by z (out-Ty c.in-Some.ty)) c.facts.ensures ∙ ap (λ (o : Option Ty). pat_needs_of raw o) (sym c.in-Some.is) in
    subst (λ xs. AreProvable (map asked_goal xs)) (sym c.as_slice.ensures.value) (subst AreProvable (sym all) c.requires.provable)

pub returns-in_ok-look_at_goals-in-Some : goal.returns-in_ok-look_at_goals-in-Some
returns-in_ok-look_at_goals-in-Some c =
    let raw = c.args.sources.now.facts in
    let item = c.args.sources.now.item in
    let f = system c.args.sources.now.sources in
    let all : map asked_goal c.in_ok-needed-in-Some.needed.items ≡ pat_needs_of raw c.args.item.now =
    c.in_ok-needed-in-Some.ensures ∙ ap (λ (z : RawFacts). pat_needs_by z (out-Ty c.in-Some.ty)) c.facts.ensures ∙ ap (λ (o : Option Ty). pat_needs_of raw o) (sym c.in-Some.is) in
    subst (λ (xs : List Asked). Lists raw item f (GoalsAreListed f raw.limits.goal_depth xs) c.args.proofs.now.items c.look_at_goals.new.proofs.items c.args.found.now c.look_at_goals.new.found) all
    (rw c.as_slice.ensures.value at c.in_ok-look_at_goals-in-Some.ensures)
