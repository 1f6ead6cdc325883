use Rattle.hir_counts.specs.Words.{AliasFitsBy}
use Rattle.hir_counts.proofs.Fits.{fits_says}
use Rattle.hir_counts.proofs.goal_counts.AliasCountsTest.test.Goals as goal

pub returns : goal.returns
returns c =
    fits_says AliasFitsBy c.args.raw.now c.args.self.now.standing.now.bounds.items c.args.self.now.standing.now.wrongs.items c.args.item.now c.alias_fits.result c.requires.given c.alias_fits.ensures
