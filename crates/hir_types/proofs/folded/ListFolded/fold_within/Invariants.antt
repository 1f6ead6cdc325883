use Rattle.std.proofs.Common.{◌≡◌, map, take}
use Rattle.hir_types.proofs.folded.ListFolded.fold_within.Given as goal

abbrev pub invariant-loop-item : goal.invariant-loop-item
invariant-loop-item g l = l.made ≡ map (g.T.Folded.replaced (g.F.TypeFolder.replacement l.folder)) (take l.item-index l.self)
