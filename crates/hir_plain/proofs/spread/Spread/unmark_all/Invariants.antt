use Rattle.std.proofs.Common.{◌≡◌, fold, take}
use Rattle.hir_plain.specs.Own.{marks_of, unmarked}
use Rattle.hir_plain.proofs.spread.Spread.unmark_all.Given as goal

abbrev pub invariant-loop-node : goal.invariant-loop-node
invariant-loop-node l = marks_of l.self ≡ fold unmarked (marks_of l.fn.self) (take l.node-index l.nodes)
