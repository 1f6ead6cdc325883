use Rattle.std.proofs.Common.{◌≡◌, refl, arith, length}
use Rattle.std.specs.Prelude.{Some, slice_get}
use Rattle.std.proofs.lemmas.Option.{slice_get_read}
use Rattle.infer_needs.specs.Words.{system}
use Rattle.infer_needs.proofs.Writing.{holds_first, holds_next, holds_all, OfItem, item_later}
use Rattle.infer_needs.proofs.written.look_at_items.Goals as goal

pub loop-item-init : goal.loop-item-init
loop-item-init c =
    let raw = c.args.sources.now.facts in
    let item = c.args.sources.now.item in
    let f = system c.args.sources.now.sources in
    holds_first raw item f (OfItem raw f) c.args.items.now c.args.proofs.now.items c.args.found.now

pub look_at_item-requires-clause-provable : goal.look_at_item-requires-clause-provable
look_at_item-requires-clause-provable c =
    let i = c.loop-item.item-index in
    let here : slice_get c.args.items.now i ≡ Some c.item-item.result = slice_get_read _ _ i _ refl c.loop-item-test.true c.item-item.is in
    c.requires.provable i c.item-item.result here

pub loop-item-preserved : goal.loop-item-preserved
loop-item-preserved c =
    let raw = c.args.sources.now.facts in
    let item = c.args.sources.now.item in
    let f = system c.args.sources.now.sources in
    let i = c.loop-item.item-index in
    let here : slice_get c.args.items.now i ≡ Some c.item-item.result = slice_get_read _ _ i _ refl c.loop-item-test.true c.item-item.is in
    holds_next raw item f (OfItem raw f) c.args.items.now (item_later raw f) i c.item-item.result c.args.proofs.now.items c.loop-item.proofs.items c.look_at_item.new.proofs.items
    c.args.found.now c.loop-item.found c.look_at_item.new.found here c.loop-item.invariant c.in_ok-look_at_item.ensures

pub returns : goal.returns
returns c =
    let raw = c.args.sources.now.facts in
    let item = c.args.sources.now.item in
    let f = system c.args.sources.now.sources in
    let end : c.loop-item.item-index ≡ length c.args.items.now = omega arith in
    holds_all raw item f (OfItem raw f) c.args.items.now c.loop-item.item-index c.args.proofs.now.items c.loop-item.proofs.items c.args.found.now c.loop-item.found end c.loop-item.invariant
