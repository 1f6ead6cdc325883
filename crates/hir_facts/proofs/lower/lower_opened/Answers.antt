use Rattle.hir_facts.specs.Own.{type_ids}
use Rattle.hir_facts.proofs.lower.lower_opened.Goals as goal

pub lower-requires-clause-before : goal.lower-requires-clause-before
lower-requires-clause-before c i x found k t part = type_ids c.args.facts.now c.lawful.ensures i x (rw c.types-types.ensures at found) k t part
