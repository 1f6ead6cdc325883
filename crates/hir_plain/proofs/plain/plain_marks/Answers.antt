use Rattle.std.proofs.Common.{◌≡◌, ◌∙◌, ap, sym, subst, length, List, Bool, Some, arith, refl}
use Rattle.std.specs.Prelude.{slice_get}
use Rattle.std.proofs.lemmas.Option.{slice_get_read, slice_get_within}
use Rattle.hir_plain.specs.Words.{RawFn, ArePlainNodes}
use Rattle.hir_plain.proofs.FnMarks.{fns_more}
use Rattle.hir_plain.proofs.plain.plain_marks.Goals as goal

pub loop-at-preserved : goal.loop-at-preserved
loop-at-preserved c =
    let items = c.as_slice-function-items.result.now in
    let read : slice_get items c.loop-at.at ≡ Some c.function-item.result = slice_get_read items (length items) c.loop-at.at c.function-item.result refl c.loop-at-test.true c.function-item.is in
    let found : slice_get c.args.raw.now.fns c.loop-at.at ≡ Some c.function-item.result = subst (λ (xs : List RawFn). slice_get xs c.loop-at.at ≡ Some c.function-item.result) c.as_slice-function-items.ensures read in
    fns_more c.args.raw.now c.loop-at.at c.loop-at.fns c.push.new.self c.function-item.result c.has_plain_signature.result c.loop-at.invariant found c.has_plain_signature.ensures c.in_ok-push.ensures.ok

pub returns : goal.returns
returns c =
    let size : length c.as_slice-function-items.result.now ≡ length c.args.raw.now.fns = ap (λ (xs : List RawFn). length xs) c.as_slice-function-items.ensures in
    let all : c.loop-at.at ≡ length c.args.raw.now.fns = omega arith in
    record {
      nodes = subst (λ (ns : List Bool). ArePlainNodes c.args.raw.now ns) (sym c.from_vec.ensures) c.in_ok-nodes.ensures;
      size = c.loop-at.invariant.size ∙ all;
      fns = λ f x found. c.loop-at.invariant.each f x (let lt = slice_get_within c.args.raw.now.fns f x found in omega arith) found;
    }
