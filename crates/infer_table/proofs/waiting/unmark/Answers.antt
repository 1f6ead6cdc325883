use Rattle.std.proofs.Common.{◌≡◌, ◌∙◌, ◌+◌, ◌-◌, ◌<◌, length, take, ap, arith}
use Rattle.std.proofs.lemmas.List.{take-take}
use Rattle.infer_table.proofs.WaitingLaws.{last_taken-made, AreMarked-last, pairs_of-read}
use Rattle.infer_table.proofs.waiting.unmark.Goals as goal

pub offset_bounds-entries-at : goal.offset_bounds-entries-at
offset_bounds-entries-at c =
    let inside : c.index-at.result.now < length c.loop-taken.entries = last_taken-made c.loop-taken.entries c.loop-taken.taken.items (c.len-in-loop-taken.result - 1) c.index-at.result.now c.index-at.result.now c.loop-taken.invariant.marked (omega arith) c.index-at.ensures in
    omega arith

pub bounds-entries-at : goal.bounds-entries-at
bounds-entries-at c = last_taken-made c.loop-taken.entries c.loop-taken.taken.items (c.len-in-loop-taken.result - 1) c.index-at.result.now c.index-at.result.now c.loop-taken.invariant.marked (omega arith) c.index-at.ensures

pub bounds-entries-at-in-loop-taken : goal.bounds-entries-at-in-loop-taken
bounds-entries-at-in-loop-taken c = last_taken-made c.loop-taken.entries c.loop-taken.taken.items (c.len-in-loop-taken.result - 1) c.index-at.result.now c.index-at.result.now c.loop-taken.invariant.marked (omega arith) c.index-at.ensures

pub loop-taken-preserved : goal.loop-taken-preserved
loop-taken-preserved c =
    let ts = c.loop-taken.taken.items in
    let last : (c.len-in-loop-taken.result - 1) + 1 ≡ length c.loop-taken.taken.items = omega arith in
    let inside : c.index-at.result.now < length c.loop-taken.entries = last_taken-made c.loop-taken.entries c.loop-taken.taken.items (c.len-in-loop-taken.result - 1) c.index-at.result.now c.index-at.result.now c.loop-taken.invariant.marked (omega arith) c.index-at.ensures in
    let rest : c.pop.new.self.items ≡ take (c.len-in-loop-taken.result - 1) c.loop-taken.taken.items = rw c.len-in-loop-taken.ensures c.pop.ensures.rest in
    record {
      marked = rw rest (AreMarked-last c.loop-taken.entries ts (c.len-in-loop-taken.result - 1) c.index-at.result.now c.index-at.result.now c.index-entries-at.result c.loop-taken.invariant.marked last c.index-at.ensures);
      pairs = pairs_of-read c.loop-taken.entries c.index-at.result.now c.index-entries-at.result _ inside ∙ c.loop-taken.invariant.pairs;
      trail = ap (take c.args.keep) rest ∙ take-take c.args.keep (c.len-in-loop-taken.result - 1) ts (omega arith) ∙ c.loop-taken.invariant.trail;
    }
