use Rattle.std.proofs.Common.{◌≡◌}
use Rattle.std.proofs.lemmas.Result.{IfOk-weaker}
use Rattle.hir_laws.specs.Words.{body_said}
use Rattle.hir_laws.proofs.LabelPlaces.{stand_told}
use Rattle.hir_laws.proofs.labels.stand_once.Goals as goal

pub returns : goal.returns
returns c =
    let is : c.deref.result.now ≡ body_said c.args.body.now = rw c.deref.ensures.value c.in_ok-said.ensures in
    IfOk-weaker _ _ _ (λ told says. stand_told c.args.body.now c.deref.result.now told is says) c.have_one_place.ensures
