use Rattle.std.proofs.Common.{◌≡◌, ◌++◌, length, sym, subst, ◌∙◌, rules}
use Rattle.infer_goals.specs.Words.{system}
use Rattle.infer_goals.specs.Own.{AreWithin, KeepsOpen, AreSettled}
use Rattle.infer_goals.proofs.Settling.{IsSettledBelow, settling_first, settling_more, settling_last, settling_within, settling_open}
use Rattle.infer_goals.proofs.obligations.Obligations.+settle.Goals as goal

pub settle-loop-here-init : goal.settle-loop-here-init
settle-loop-here-init t c =
    let split = c.in_ok-here.ensures in
    record {
      kept = c.requires.kept;
      settling = settling_first c.args.sources.now.facts (system c.args.sources.now.sources) c.args.bounded c.args.depth c.args.table.now c.args.self.now c.args.numbers.items c.in_ok-here.here.items c.in_ok-here.below.items
          c.requires.kept.tree split.here split.below split.all;
    }

pub settle-loop-here-preserved : goal.settle-loop-here-preserved
settle-loop-here-preserved t c =
    let raw = c.args.sources.now.facts in
    let f = system c.args.sources.now.sources in
    let at = c.loop-here in
    let low = c.in_ok-below.ensures in
    let settled : IsSettledBelow raw f c.args.bounded c.args.depth at.table at.self at.below.items c.settle_below.new.table c.settle_below.new.self c.in_ok-below.below.items =
    record { went = low.went; are_below = low.below; all = low.all; settled = low.settled } in
    record {
      kept = c.in_ok-here-2.ensures.kept;
      settling = settling_more raw f c.args.bounded c.args.depth c.args.table.now c.args.self.now c.args.numbers.items at.table at.self at.here.items at.below.items
          c.settle_below.new.table c.settle_below.new.self c.in_ok-below.below.items c.scan.new.table c.scan.new.self c.in_ok-here-2.here.items c.scan.new.below.items
          at.invariant.kept.tree low.kept.tree at.invariant.settling settled c.in_ok-here-2.ensures.scanned;
    }

pub settle-returns : goal.settle-returns
settle-returns t c =
    let raw = c.args.sources.now.facts in
    let f = system c.args.sources.now.sources in
    let bounded = c.args.bounded in
    let d = c.args.depth in
    let s = c.args.table.now in
    let o = c.args.self.now in
    let numbers = c.args.numbers.items in
    let at = c.loop-here in
    let low = c.in_ok-below.ensures in
    let scan = c.in_ok-here-2.ensures in
    let z = c.scan.new.table in
    let p = c.scan.new.self in
    let here = c.in_ok-here-2.here.items in
    let below = c.scan.new.below.items in
    let settled : IsSettledBelow raw f bounded d at.table at.self at.below.items c.settle_below.new.table c.settle_below.new.self c.in_ok-below.below.items =
    record { went = low.went; are_below = low.below; all = low.all; settled = low.settled } in
    let after = settling_more raw f bounded d s o numbers at.table at.self at.here.items at.below.items c.settle_below.new.table c.settle_below.new.self c.in_ok-below.below.items z p here below
    at.invariant.kept.tree low.kept.tree at.invariant.settling settled scan.scanned in
    let now : c.len.result ≡ length here = search rules in
    let was : c.len-count.result ≡ length at.here.items = search rules in
    let long : length here ≡ length at.here.items = sym now ∙ (c.if-len-count.true ∙ was) in
    let items : c.append.new.self.items ≡ here ++ below = c.in_ok-append.ensures.items in
    record {
      kept = scan.kept;
      went = after.went;
      within = subst (AreWithin p.tree d) (sym items) (settling_within raw f bounded d s o numbers z p here below after);
      all = subst (λ xs. KeepsOpen o.tree numbers p.tree xs) (sym items) (settling_open raw f bounded d s o numbers z p here below after);
      settled = subst (AreSettled raw f bounded z p) (sym items) (settling_last raw f bounded d s o numbers at.table at.self at.here.items at.below.items c.settle_below.new.table c.settle_below.new.self c.in_ok-below.below.items z p here below
          at.invariant.kept.tree low.kept.tree at.invariant.settling settled scan.scanned long);
    }
