use Rattle.std.proofs.Common.{refl, arith}
use Rattle.std.proofs.lemmas.Option.{slice_get_read, slice_get_within}
use Rattle.infer_coerce.specs.Words.{given_of}
use Rattle.infer_coerce.proofs.Unified.{one_more, pair_still_fine}
use Rattle.infer_coerce.proofs.unification.unify_each.Goals as goal

pub unify_alone-requires-clause-left : goal.unify_alone-requires-clause-left
unify_alone-requires-clause-left c =
    (pair_still_fine (given_of c.args.given.now) c.args.context.now c.loop-pair.context c.args.pairs.now c.loop-pair.pair-index c.pair-item.result c.requires.fine c.loop-pair.invariant.0
    (slice_get_read c.args.pairs.now _ c.loop-pair.pair-index _ refl c.loop-pair-test.true c.pair-item.is)).0

pub unify_alone-requires-clause-right : goal.unify_alone-requires-clause-right
unify_alone-requires-clause-right c =
    (pair_still_fine (given_of c.args.given.now) c.args.context.now c.loop-pair.context c.args.pairs.now c.loop-pair.pair-index c.pair-item.result c.requires.fine c.loop-pair.invariant.0
    (slice_get_read c.args.pairs.now _ c.loop-pair.pair-index _ refl c.loop-pair-test.true c.pair-item.is)).1

pub loop-pair-preserved : goal.loop-pair-preserved
loop-pair-preserved c =
    one_more (given_of c.args.given.now) c.args.pairs.now c.args.context.now c.loop-pair.context c.unify_alone.new.context c.loop-pair.pair-index c.pair-item.result c.in_ok-unify_alone.field-0 c.loop-pair.invariant
    (slice_get_read c.args.pairs.now _ c.loop-pair.pair-index _ refl c.loop-pair-test.true c.pair-item.is) c.in_ok-unify_alone.ensures

pub returns : goal.returns
returns c = record {
  binds = c.loop-pair.invariant.0;
  decided = λ i p at.
      (let within = slice_get_within c.args.pairs.now i p at in
      let all = c.loop-pair-test.false in
      c.loop-pair.invariant.1 i p (omega arith) at);
}
