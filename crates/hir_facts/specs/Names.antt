-- The numbers of laws and lists, as a refusal names them.
use Rattle.std.specs.Prelude.{ℕ}
use Rattle.hir_facts.specs.declared.laws.Law.{Law}
use Rattle.hir_facts.specs.declared.laws.Law.TheVariants as law
use Rattle.hir_facts.specs.declared.laws.FactsList.{FactsList}
use Rattle.hir_facts.specs.declared.laws.FactsList.TheVariants as list

abbrev pub law_number : Law → ℕ
law_number law.Carried = 0
law_number law.Ids = 1
law_number law.Counts = 2
law_number law.Trees = 3
law_number law.Scopes = 4
law_number law.Sizes = 5
law_number law.Limits = 6
law_number law.Lang = 7
law_number law.Literals = 8
law_number law.Holes = 9

abbrev pub list_number : FactsList → ℕ
list_number list.Types = 0
list_number list.Modules = 1
list_number list.Adts = 2
list_number list.Variants = 3
list_number list.Fns = 4
list_number list.Consts = 5
list_number list.Statics = 6
list_number list.Traits = 7
list_number list.Aliases = 8
list_number list.Impls = 9
list_number list.Opaques = 10
list_number list.Lang = 11
list_number list.Bodies = 12
list_number list.Limits = 13
