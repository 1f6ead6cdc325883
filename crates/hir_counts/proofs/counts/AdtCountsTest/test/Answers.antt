use Rattle.hir_counts.specs.Words.{AdtFitsBy}
use Rattle.hir_counts.proofs.Fits.{fits_says}
use Rattle.hir_counts.proofs.counts.AdtCountsTest.test.Goals as goal

pub returns : goal.returns
returns c =
    fits_says AdtFitsBy c.args.raw.now c.args.self.now.standing.now.bounds.items c.args.self.now.standing.now.wrongs.items c.args.item.now c.adt_fits.result c.requires.given c.adt_fits.ensures
