-- The marks of the written types, adts and functions that are plain.
use Rattle.std.specs.Prelude.{◌≡◌, ◌↔◌, ◌+◌, ℕ, Bool, true, false, List, length, get_or, slice_get, Some}
use Rattle.hir_facts.specs.Words.{TypeRefId, RawFn, RawFacts}
use Rattle.hir_facts.specs.declared.plain_marks.PlainMarks.{PlainMarks}
use Rattle.hir_facts.specs.WrittenFits.{FitsThere}
use Rattle.hir_facts.specs.Plain.{IsPlainOver, IsPlainAdt, IsPlainSignature}

-- the node n is marked
abbrev pub IsMarked : List Bool → ℕ → Type 0
IsMarked marks n = get_or marks n false ≡ true

-- marked are the written types that are plain where they fit, and the plain adts
pub record ArePlainNodes (raw : RawFacts) (nodes : List Bool) : Type 0 where
  pub types : (n : ℕ) (w : TypeRefId) → FitsThere raw n w.0 → IsMarked nodes w.0 → IsPlainOver raw n w
  pub plain_types : (n : ℕ) (w : TypeRefId) → IsPlainOver raw n w → IsMarked nodes w.0
  pub adts : (a : ℕ) → IsMarked nodes (length raw.types + a) → IsPlainAdt raw a
  pub plain_adts : (a : ℕ) → IsPlainAdt raw a → IsMarked nodes (length raw.types + a)

-- marked are the nodes that are plain, and the functions with a plain signature
pub record ArePlainMarks (raw : RawFacts) (marks : PlainMarks) : Type 0 where
  pub nodes : ArePlainNodes raw marks.nodes
  pub size : length marks.fns ≡ length raw.fns
  pub fns : (f : ℕ) (x : RawFn) → slice_get raw.fns f ≡ Some x → IsMarked marks.fns f ↔ IsPlainSignature raw x
