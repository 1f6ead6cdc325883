-- Assignments that keep the kinds of holes.
use Rattle.infer_table.specs.Words.{Assignment, composed, terms_of}
use Rattle.infer_table.specs.Solutions.{Respects}

-- where the assignments f and g have integer types, or holes of these, stand for integer holes, so has first g, then f
abbrev pub CompositionKeepsKinds : Type 0
CompositionKeepsKinds =
    (f g : Assignment) → Respects (terms_of f) → Respects (terms_of g) → Respects (terms_of (composed f g))
