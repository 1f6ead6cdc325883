use Rattle.hir_counts.specs.Words.{ImplFitsBy}
use Rattle.hir_counts.proofs.Fits.{fits_says}
use Rattle.hir_counts.proofs.goal_counts.ImplCountsTest.test.Goals as goal

pub returns : goal.returns
returns c =
    fits_says ImplFitsBy c.args.raw.now c.args.self.now.standing.now.bounds.items c.args.self.now.standing.now.wrongs.items c.args.item.now c.impl_fits.result c.requires.given c.impl_fits.ensures
