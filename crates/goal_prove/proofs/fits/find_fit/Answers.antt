use Rattle.std.proofs.Common.{arith}
use Rattle.goal_prove.specs.Words.{answers, known_below, term_of, kind_of, rule_of, system, RuleHasHeads}
use Rattle.goal_prove.proofs.Words.{each_at, each_all, each_in_map, each_of_map, mapped_at}
use Rattle.goal_prove.specs.Own.{FitsNot}
use Rattle.goal_prove.proofs.fits.find_fit.Goals as goal

pub fits-requires-clause-rule : goal.fits-requires-clause-rule
fits-requires-clause-rule c =
    each_at (λ r. RuleHasHeads (rule_of r)) c.args.rules.now c.loop-place.place c.index-rules-place.result (omega arith) c.index-rules-place.is (each_in_map rule_of RuleHasHeads c.args.rules.now c.requires.rules)

pub returns-in-Some-clause-answer : goal.returns-in-Some-clause-answer
returns-in-Some-clause-answer c =
    let found = rw c.loop-place.invariant.same at c.in_ok-fills.ensures.answer in
    record {
      rule = rule_of c.index-rules-place.result;
      at = mapped_at rule_of c.args.rules.now c.loop-place.place c.index-rules-place.result (omega arith) c.index-rules-place.is;
      kind = c.is_same_kind.ensures.0 c.if-not-is_same_kind.false;
      holds = rw c.in-Some.is at found;
    }

pub returns-clause-answer : goal.returns-clause-answer
returns-clause-answer c =
    let f = system c.args.search.now in
    let n = c.args.depth in
    let P = FitsNot (answers f n).Alias (known_below f n) (kind_of c.args.kind) (term_of c.args.target.now) in
    each_of_map rule_of P c.args.rules.now (each_all (λ r. P (rule_of r)) c.args.rules.now c.loop-place.place (omega arith) c.loop-place.invariant.so_far)
