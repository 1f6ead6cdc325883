use Rattle.std.proofs.Common.{◌≡◌, ◌++◌, take}
use Rattle.std.specs.Prelude.{flat_map}
use Rattle.hir_counts.specs.Words.{fn_uses}
use Rattle.hir_counts.proofs.uses.push_fns.Given as goal

abbrev pub invariant-loop-function : goal.invariant-loop-function
invariant-loop-function l = l.out.items ≡ l.fn.out.items ++ flat_map fn_uses (take l.function-index l.fns)
