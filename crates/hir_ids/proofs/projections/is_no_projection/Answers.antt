use Rattle.hir_ids.proofs.Held.{none_held}
use Rattle.hir_ids.proofs.projections.is_no_projection.Goals as goal

pub returns : goal.returns
returns c = rw (c.is_marked.ensures, c.deref.ensures.value) (none_held c.args.raw.now.types c.args.found.now.marks.items c.args.ty.0 c.requires)
