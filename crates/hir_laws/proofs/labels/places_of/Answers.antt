use Rattle.std.proofs.Common.{ap, sym, ◌∙◌}
use Rattle.std.proofs.lemmas.Option.{slice_get-get_or}
use Rattle.hir_laws.proofs.LabelPlaces.{places_kept, places_more}
use Rattle.hir_laws.proofs.labels.places_of.Goals as goal
use Rattle.hir_laws.proofs.labels.places_of.Goals.{in-Some+in_ok-push, in_default}

pub loop-said-preserved : goal.loop-said-preserved
loop-said-preserved c = elim c.match-place_of.branch [
  | in-Some+in_ok-push w ↦
      rw (ap (λ v. v.items) w.places-is, w.in_ok-push.ensures.items)
      (places_more c.args.said.now c.loop-said.said-index _ (slice_get-get_or c.args.said.now c.loop-said.said-index _ c.loop-said-test.true) c.loop-said.places.items c.loop-said.invariant w.in-Some.place (sym c.place_of.ensures ∙ w.in-Some.is))
  | in_default w ↦
      rw (ap (λ v. v.items) w.places-is)
      (places_kept c.args.said.now c.loop-said.said-index _ (slice_get-get_or c.args.said.now c.loop-said.said-index _ c.loop-said-test.true) c.loop-said.places.items c.loop-said.invariant (sym c.place_of.ensures ∙ w.in_default.is))
]
