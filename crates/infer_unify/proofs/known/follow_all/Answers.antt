use Rattle.std.proofs.Common.{◌≡◌, ◌≤◌, Bool, refl, ◌∙◌, subst, length, slice_get, Some, arith}
use Rattle.infer_unify.specs.Words.{answers, IsHead, HasHeads, log_of, Sources, system}
use Rattle.infer_unify.proofs.Words.{each_get}
use Rattle.infer_unify.specs.Own.{alias_of, aliases_of, IsFollowed}
use Rattle.infer_unify.proofs.Steps.{at_index, followed_then, followed_none, round_more, rounds_more}
use Rattle.infer_unify.proofs.known.follow_all.Goals as goal

pub follow-requires-clause-heads : goal.follow-requires-clause-heads
follow-requires-clause-heads c =
    let ps = aliases_of c.args.aliases.now in
    let i = c.loop-alias.alias-index in
    let p = c.alias-item.result in
    let at : slice_get ps i ≡ Some (alias_of p) = at_index alias_of c.args.aliases.now i p c.loop-alias-test.true c.alias-item.is in
    (each_get (λ q. IsHead q.args × HasHeads q.args) ps i (alias_of p) c.requires.heads at).1

pub returns-then-not-branch-clause-followed : goal.returns-then-not-branch-clause-followed
returns-then-not-branch-clause-followed c =
    let ps = aliases_of c.args.aliases.now in
    let i = c.loop-alias.alias-index in
    let p = alias_of c.alias-item.result in
    let m = log_of c.loop-alias.log.items in
    let l' = log_of c.follow.new.log.items in
    let by_search = subst (λ (z : Sources). IsFollowed (answers (system z) c.args.depth).Alias p m l' c.in_ok-follow.field-0) c.loop-alias.invariant.0 c.in_ok-follow.ensures.followed in
    let none = subst (λ (b : Bool). IsFollowed (answers (system c.args.search.now) c.args.depth).Alias p m l' b) c.if-not-branch.true by_search in
    followed_none (answers (system c.args.search.now) c.args.depth).Alias ps i p (log_of c.args.log.now.items) m l'
    (at_index alias_of c.args.aliases.now i c.alias-item.result c.loop-alias-test.true c.alias-item.is) c.loop-alias.invariant.2 none

pub loop-alias-preserved : goal.loop-alias-preserved
loop-alias-preserved c =
    let ps = aliases_of c.args.aliases.now in
    let i = c.loop-alias.alias-index in
    let p = alias_of c.alias-item.result in
    let m = log_of c.loop-alias.log.items in
    let l' = log_of c.follow.new.log.items in
    let by_search = subst (λ (z : Sources). IsFollowed (answers (system z) c.args.depth).Alias p m l' c.in_ok-follow.field-0) c.loop-alias.invariant.0 c.in_ok-follow.ensures.followed in
    let some = subst (λ (b : Bool). IsFollowed (answers (system c.args.search.now) c.args.depth).Alias p m l' b) c.if-not-branch.false by_search in (
      c.in_ok-follow.ensures.same ∙ c.loop-alias.invariant.0,
      c.in_ok-follow.ensures.is_log,
      followed_then (answers (system c.args.search.now) c.args.depth).Alias ps i p (log_of c.args.log.now.items) m l'
          (at_index alias_of c.args.aliases.now i c.alias-item.result c.loop-alias-test.true c.alias-item.is) c.loop-alias.invariant.2 some,
      (
        c.loop-alias.invariant.3.0,
        c.loop-alias.invariant.3.1,
        round_more (answers (system c.args.search.now) c.args.depth).Alias c.args.aliases.now i c.alias-item.result c.loop-alias.invariant.3.0 m l' c.loop-alias-test.true c.alias-item.is c.loop-alias.invariant.3.2 some,
      ),
    )

pub loop-preserved : goal.loop-preserved
loop-preserved c =
    let A = (answers (system c.args.search.now) c.args.depth).Alias in
    let xs = c.args.aliases.now in
    let i = c.loop-alias.alias-index in
    let ended = c.loop-alias-test.false in
    let over : length xs ≤ i = grind (arith, ended) in
    let h = c.loop-alias.invariant in
    (h.0, h.1, h.2, rounds_more A (aliases_of xs) xs i c.loop.index (log_of c.args.log.now.items) h.3.0 (log_of c.loop-alias.log.items) over h.3.1 refl h.3.2)
