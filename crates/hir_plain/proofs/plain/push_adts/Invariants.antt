use Rattle.std.proofs.Common.{◌≡◌, ◌++◌, take, map}
use Rattle.hir_plain.specs.Own.{adt_children}
use Rattle.hir_plain.proofs.plain.push_adts.Given as goal

abbrev pub invariant-loop-adt : goal.invariant-loop-adt
invariant-loop-adt l = l.kids ≡ l.fn.kids ++ map (adt_children l.variants) (take l.adt-index l.adts)
