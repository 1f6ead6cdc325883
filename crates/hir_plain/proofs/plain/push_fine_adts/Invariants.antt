use Rattle.std.proofs.Common.{◌≡◌, ◌++◌, take, map}
use Rattle.hir_plain.specs.Words.{has_plain_params}
use Rattle.hir_plain.proofs.plain.push_fine_adts.Given as goal

abbrev pub invariant-loop-adt : goal.invariant-loop-adt
invariant-loop-adt l = l.fine.items ≡ l.fn.fine.items ++ map (has_plain_params l.raw) (take l.adt-index l.adts)
