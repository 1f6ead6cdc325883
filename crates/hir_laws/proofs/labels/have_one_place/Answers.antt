use Rattle.std.proofs.lemmas.Result.{IfOk-weaker}
use Rattle.hir_laws.proofs.LabelPlaces.{once_told}
use Rattle.hir_laws.proofs.labels.have_one_place.Goals as goal

pub returns : goal.returns
returns c = IfOk-weaker _ _ _ (λ told says. once_told c.args.said.now c.in_ok-places.places.items told c.in_ok-places.ensures says) c.agree.ensures
