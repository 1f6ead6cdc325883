use Rattle.std.proofs.Common.{refl}
use Rattle.hir_counts.proofs.sizes.depth_over.Goals as goal

pub returns : goal.returns
returns c = rw (c.one_deeper.ensures, c.most_of.ensures, c.parts.ensures) refl
