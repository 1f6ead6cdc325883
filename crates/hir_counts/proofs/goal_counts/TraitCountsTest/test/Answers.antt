use Rattle.hir_counts.specs.Words.{TraitFitsBy}
use Rattle.hir_counts.proofs.Fits.{fits_says}
use Rattle.hir_counts.proofs.goal_counts.TraitCountsTest.test.Goals as goal

pub returns : goal.returns
returns c =
    fits_says TraitFitsBy c.args.raw.now c.args.self.now.standing.now.bounds.items c.args.self.now.standing.now.wrongs.items c.args.item.now c.trait_fits.result c.requires.given c.trait_fits.ensures
