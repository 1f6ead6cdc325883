use Rattle.std.proofs.lemmas.Result.{IfOk-weaker}
use Rattle.hir_counts.specs.Words.{FnFitsBy}
use Rattle.hir_counts.proofs.Fits.{fits_says}
use Rattle.hir_counts.proofs.counts.FnCountsTest.test.Goals as goal

pub returns : goal.returns
returns c =
    IfOk-weaker _ _ _ (λ told says. fits_says FnFitsBy c.args.raw.now c.args.self.now.standing.now.bounds.items c.args.self.now.standing.now.wrongs.items c.args.item.now told c.requires.given says) c.fn_fits.ensures
