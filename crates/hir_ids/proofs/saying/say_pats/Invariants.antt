use Rattle.std.proofs.Common.{◌≡◌, ◌++◌, take}
use Rattle.hir_ids.specs.Words.{each, pat_said}
use Rattle.hir_ids.proofs.saying.say_pats.Given as goal

abbrev pub invariant-loop-p : goal.invariant-loop-p
invariant-loop-p l = l.out.items ≡ l.fn.out.items ++ each (pat_said l.first) 0 (take l.p l.pats)
