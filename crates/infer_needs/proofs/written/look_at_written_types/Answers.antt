use Rattle.std.proofs.Common.{◌≡◌, length, arith}
use Rattle.std.proofs.lemmas.Option.{slice_get-get_or}
use Rattle.infer_needs.specs.Words.{system}
use Rattle.infer_needs.proofs.Writing.{holds_first, holds_next, holds_all, OfType, type_later}
use Rattle.infer_needs.proofs.written.look_at_written_types.Goals as goal

pub loop-number-init : goal.loop-number-init
loop-number-init c =
    let raw = c.args.sources.now.facts in
    let item = c.args.sources.now.item in
    let f = system c.args.sources.now.sources in
    holds_first raw item f (OfType raw f) c.args.numbers.now c.args.proofs.now.items c.args.found.now

pub loop-number-preserved : goal.loop-number-preserved
loop-number-preserved c =
    let raw = c.args.sources.now.facts in
    let item = c.args.sources.now.item in
    let f = system c.args.sources.now.sources in
    let i = c.loop-number.number-index in
    let here = slice_get-get_or c.args.numbers.now i 0 c.loop-number-test.true in
    holds_next raw item f (OfType raw f) c.args.numbers.now (type_later raw f) i _ c.args.proofs.now.items c.loop-number.proofs.items c.look_at_written_type.new.proofs.items
    c.args.found.now c.loop-number.found c.look_at_written_type.new.found here c.loop-number.invariant c.in_ok-look_at_written_type.ensures

pub returns : goal.returns
returns c =
    let raw = c.args.sources.now.facts in
    let item = c.args.sources.now.item in
    let f = system c.args.sources.now.sources in
    let end : c.loop-number.number-index ≡ length c.args.numbers.now = omega arith in
    holds_all raw item f (OfType raw f) c.args.numbers.now c.loop-number.number-index c.args.proofs.now.items c.loop-number.proofs.items c.args.found.now c.loop-number.found end c.loop-number.invariant
