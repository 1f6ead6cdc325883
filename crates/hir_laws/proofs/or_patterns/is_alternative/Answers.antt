use Rattle.std.proofs.Common.{◌≡◌, None, get_or, refl, sym, ◌∙◌}
use Rattle.hir_laws.proofs.PartedSoFar.{none_here, node_tells, parted_stays}
use Rattle.hir_laws.proofs.or_patterns.is_alternative.Goals as goal

pub returns-in_default : goal.returns-in_default
returns-in_default c s n law is there at around h = (refl, parted_stays c.args.body.now s c.args.number c.args.walked.now.lasts.items (λ v lt. none_here c.args.body.now s law c.args.number n is at (rw there (sym c.bound_at.ensures ∙ c.in_default.is)) v) h)

pub returns : goal.returns
returns c s n law is there at around h =
    let last : c.last_at.result ≡ get_or c.args.walked.now.lasts.items c.in-Some.v None = rw c.deref.ensures.value at c.last_at.ensures in (
      refl,
      node_tells c.args.body.now s law c.args.number c.args.node c.in-Some.v n c.is_parted-told.result c.args.walked.now.lasts.items c.note.new.lasts.items is there at (sym c.bound_at.ensures ∙ c.in-Some.is) h
          (λ binder. rw last at (c.is_parted-told.ensures s c.args.number law around (rw last binder))) c.note.ensures,
    )
