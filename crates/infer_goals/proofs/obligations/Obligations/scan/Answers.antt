use Rattle.std.proofs.Common.{◌≡◌, ◌∷◌, [], length, ap, ◌∙◌, append_assoc, arith}
use Rattle.std.specs.Vec.Iter.{into_iter_items}
use Rattle.infer_goals.specs.Words.{system}
use Rattle.infer_goals.proofs.Scanning.{scanned_more}
use Rattle.infer_goals.proofs.obligations.Obligations.scan.Goals as goal

pub loop-at-preserved : goal.loop-at-preserved
loop-at-preserved c =
    let at = c.loop-at in
    let x = c.in-Some.at in
    let raw = c.args.sources.now.facts in
    let f = system c.args.sources.now.sources in
    let steps : into_iter_items at.at-iterator ≡ x ∷ into_iter_items c.next.new.self = c.in-Some.ensures.steps.0 in
    record {
      items = append_assoc at.yielded (x ∷ []) _ ∙ rw (← steps) at.invariant.items;
      long = (let was = at.invariant.long in let gone = c.in-Some.ensures.steps.1 in let short = ap length steps in omega arith);
      kept = c.in_ok-visit.ensures.kept;
      scanned = scanned_more raw f c.args.bounded c.args.table.now c.args.self.now at.yielded c.args.below.now.items at.table at.self at.left.items at.below.items
          c.visit.new.table c.visit.new.self x c.visit.new.left.items c.visit.new.below.items
          at.invariant.kept.tree c.in_ok-visit.ensures.kept.tree at.invariant.scanned c.in_ok-visit.ensures.visited;
    }
