-- What an error says of the facts that it refuses.
use Rattle.std.specs.Prelude.{List}
use Rattle.hir_laws.specs.Words.{RawFacts, Test, FirstBroken}
use Rattle.hir_laws.specs.declared.facts_error.FactsError.{FactsError}
use Rattle.hir_laws.specs.declared.facts_error.FactsError.TheVariants as error

-- the first of these tests that fails is the one that the error names, at the entry that it names
abbrev pub Refuses : RawFacts → List Test → FactsError → Type 0
Refuses raw ts (error.Law law list index) = FirstBroken raw ts law list index
Refuses raw ts error.OutOfMemory = Unit {0}
