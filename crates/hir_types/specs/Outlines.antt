-- Outlines of types, as terms.
use Rattle.std.specs.Prelude.{List, map}
use Rattle.hir_types.specs.declared.outline.OutlinePart.{OutlinePart}
use Rattle.hir_types.specs.declared.outline.OutlinePart.TheVariants as part
use Rattle.hir_types.specs.declared.outline.Outline.{Outline}
use Rattle.hir_types.specs.declared.outline.Outline.TheVariants as outline
use Rattle.hir_types.specs.Terms.{Term, hole, leaf, node, type_part, const_part, term}

abbrev pub part_term : OutlinePart → Term
part_term (part.Ty t) = type_part (term t.now)
part_term (part.Const c) = const_part c
part_term (part.Mark h) = leaf h

abbrev pub part_terms : List OutlinePart → List Term
part_terms = map part_term

abbrev pub outline_term : Outline → Term
outline_term (outline.Hole k) = hole k
outline_term (outline.Node h parts) = node h (part_terms parts.items)
