use Rattle.std.proofs.Common.{◌≡◌, ◌++◌, map, take}
use Rattle.hir_schedule.proofs.later_parts.push_all.Given as goal

abbrev pub invariant-loop-it : goal.invariant-loop-it
invariant-loop-it g l = l.out.items ≡ l.fn.out.items ++ map g.T.NamesNode.named (take l.it-index l.items)
