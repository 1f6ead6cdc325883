use Rattle.std.proofs.Common.{◌++◌, [], ◌∷◌, ◌∙◌, sym, subst, take}
use Rattle.infer_unify.specs.Words.{answers, IsAnswer, IsHead, HasHeads, log_of, Sources, system}
use Rattle.infer_unify.proofs.Words.{each_get}
use Rattle.infer_unify.specs.Own.{Unification, alias_of, aliases_of, goal_of}
use Rattle.infer_unify.proofs.Steps.{at_index, some_at, AreJudgedSoFar, judged_yes, judged_undecided, judged_more}
use Rattle.infer_unify.proofs.known.judge.Goals.{in-Yes, in-Undecided}
use Rattle.infer_unify.proofs.known.judge.Goals as goal

pub answer-requires-clause-heads : goal.answer-requires-clause-heads
answer-requires-clause-heads c =
    let ps = aliases_of c.args.aliases.now in
    let i = c.loop-alias.alias-index in
    let p = c.alias-item.result in
    each_get (λ q. IsHead q.args × HasHeads q.args) ps i (alias_of p) c.requires.heads (at_index alias_of c.args.aliases.now i p c.loop-alias-test.true c.alias-item.is)

pub returns-in-No : goal.returns-in-No
returns-in-No c =
    let i = c.loop-alias.alias-index in
    let n = c.args.depth in
    let p = c.alias-item.result in
    let g = goal_of (log_of c.args.log.now) (alias_of p) in
    let by_search = subst (λ (z : Sources). IsAnswer (system z) n g c.in_ok-answer.field-0) c.loop-alias.invariant.0 c.in_ok-answer.ensures.answer in
    let no = subst (IsAnswer (system c.args.search.now) n g) c.in-No.is by_search in
    some_at (λ q. (answers (system c.args.search.now) n).No (goal_of (log_of c.args.log.now) q)) (aliases_of c.args.aliases.now) i (alias_of p)
    (at_index alias_of c.args.aliases.now i p c.loop-alias-test.true c.alias-item.is) no

pub loop-alias-preserved : goal.loop-alias-preserved
loop-alias-preserved c =
    let f = system c.args.search.now in
    let n = c.args.depth in
    let l = log_of c.args.log.now in
    let i = c.loop-alias.alias-index in
    let p = c.alias-item.result in
    let before = aliases_of (take i c.args.aliases.now) in
    let g = goal_of l (alias_of p) in
    let by_search = subst (λ (z : Sources). IsAnswer (system z) n g c.in_ok-answer.field-0) c.loop-alias.invariant.0 c.in_ok-answer.ensures.answer in
    let P : Unification → Type 0 = AreJudgedSoFar (answers f n) (before ++ alias_of p ∷ []) l in
    let judged : P c.match-branch-2.found = elim c.match-branch-2.branch [
      | in-Yes w ↦ subst P (sym w.found-is) (judged_yes f n l before (alias_of p) c.loop-alias.found c.loop-alias.invariant.1 (subst (IsAnswer f n g) w.in-Yes.is by_search))
      | in-Undecided w ↦ subst P (sym w.found-is) (judged_undecided f n l before (alias_of p) c.loop-alias.found c.loop-alias.invariant.1 (subst (IsAnswer f n g) w.in-Undecided.is by_search))
    ] in (
      c.in_ok-answer.ensures.same ∙ c.loop-alias.invariant.0,
      judged_more (answers f n) l c.args.aliases.now i p c.match-branch-2.found c.loop-alias-test.true c.alias-item.is judged,
    )
