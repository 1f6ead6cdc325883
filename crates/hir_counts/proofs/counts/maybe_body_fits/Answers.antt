use Rattle.std.proofs.Common.{rules, ◌≡◌, Some}
use Rattle.std.specs.Prelude.{slice_get}
use Rattle.std.proofs.lemmas.Result.{IfOk-weaker}
use Rattle.hir_counts.specs.Own.{number_in}
use Rattle.hir_counts.proofs.Fits.{body_says}
use Rattle.hir_counts.proofs.counts.maybe_body_fits.Goals as goal

pub returns-in-Some-get : goal.returns-in-Some-get
returns-in-Some-get c =
    let found : slice_get c.args.raw.now.bodies c.in-Some.body.0 ≡ Some c.in-Some-get.body.now = search rules in
    IfOk-weaker _ _ _ (λ told says. body_says (number_in c.args.standing.now.bounds.items) (number_in c.args.standing.now.wrongs.items) c.args.count c.args.raw.now c.args.body c.in-Some.body c.in-Some-get.body.now told c.in-Some.is found says) c.body_fits.ensures
