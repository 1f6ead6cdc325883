use Rattle.std.proofs.lemmas.Result.{IfOk-weaker}
use Rattle.infer_unify.specs.Words.{answers, term_of, system}
use Rattle.infer_unify.proofs.Words.{depth_is_small}
use Rattle.infer_unify.specs.Own.{UnifyExactly, aliases_of, Becomes, IsOnlyOutcome}
use Rattle.infer_unify.proofs.Becoming.{types_heads, types_read}
use Rattle.infer_unify.proofs.Exact.{exactly_by}
use Rattle.infer_unify.proofs.OneOutcome.{only_by}
use Rattle.infer_unify.proofs.unification.unification_of.Goals as goal

pub unify_terms-requires-clause-depth : goal.unify_terms-requires-clause-depth
unify_terms-requires-clause-depth c = depth_is_small c.raw.result.now c.raw.ensures.lawful

pub unify_terms-requires-clause-left : goal.unify_terms-requires-clause-left
unify_terms-requires-clause-left c =
    (types_heads c.args.pair.now.value.0 c.args.pair.now.value.1 _ _ _ _ _ c.in_ok-left.ensures.is c.in_ok-right.ensures.is c.in_ok-left.ensures.heads c.in_ok-right.ensures.heads c.in_ok-terms.ensures).0

pub unify_terms-requires-clause-right : goal.unify_terms-requires-clause-right
unify_terms-requires-clause-right c =
    (types_heads c.args.pair.now.value.0 c.args.pair.now.value.1 _ _ _ _ _ c.in_ok-left.ensures.is c.in_ok-right.ensures.is c.in_ok-left.ensures.heads c.in_ok-right.ensures.heads c.in_ok-terms.ensures).1

pub unify_terms-requires-clause-heads : goal.unify_terms-requires-clause-heads
unify_terms-requires-clause-heads c =
    (types_heads c.args.pair.now.value.0 c.args.pair.now.value.1 _ _ _ _ _ c.in_ok-left.ensures.is c.in_ok-right.ensures.is c.in_ok-left.ensures.heads c.in_ok-right.ensures.heads c.in_ok-terms.ensures).2

pub unify_terms-requires-clause-read : goal.unify_terms-requires-clause-read
unify_terms-requires-clause-read c = types_read c.args.pair.now.value.0 c.args.pair.now.value.1 _ _ _ _ _ c.in_ok-left.ensures.is c.in_ok-right.ensures.is c.in_ok-terms.ensures

pub returns-clause-exact : goal.returns-clause-exact
returns-clause-exact c =
    let v = answers (system c.search-search.result) c.raw.result.now.limits.goal_depth in
    let a = c.args.pair.now.value.0 in
    let b = c.args.pair.now.value.1 in
    let ps = aliases_of c.in_ok-terms.terms.aliases.items in
    let u = term_of c.in_ok-terms.terms.left in
    let w = term_of c.in_ok-terms.terms.right in
    IfOk-weaker c.unify_terms.result (Becomes v ps u w) (UnifyExactly a b)
    (λ found h. exactly_by v a b (term_of c.in_ok-left.left) (term_of c.in_ok-right.right) ps u w found c.in_ok-left.ensures.is c.in_ok-right.ensures.is c.in_ok-terms.ensures h) c.unify_terms.ensures

pub returns-clause-only : goal.returns-clause-only
returns-clause-only c =
    let v = answers (system c.search-search.result) c.raw.result.now.limits.goal_depth in
    let a = c.args.pair.now.value.0 in
    let b = c.args.pair.now.value.1 in
    let ps = aliases_of c.in_ok-terms.terms.aliases.items in
    let u = term_of c.in_ok-terms.terms.left in
    let w = term_of c.in_ok-terms.terms.right in
    IfOk-weaker c.unify_terms.result (Becomes v ps u w) (IsOnlyOutcome c.args.facts.now c.args.env a b)
    (λ found h. only_by c.args.facts.now _ c.raw.result.now c.args.env _ _ c.search-search.result a b (term_of c.in_ok-left.left) (term_of c.in_ok-right.right) ps u w found
    c.in_ok-sources.ensures.facts c.raw.ensures.value c.in_ok-sources.ensures.item c.search-search.ensures c.lawful.ensures c.in_ok-left.ensures.is c.in_ok-right.ensures.is c.in_ok-terms.ensures h) c.unify_terms.ensures
