-- The language's items have the shape that they are known by.
use Rattle.std.specs.Prelude.{◌≡◌, [], slice_get, Some}
use Rattle.hir_facts.specs.Words.{TraitId, RawTrait, RawLang, RawFacts}
use Rattle.hir_raw.specs.declared.raw.RawLang.TheVariants as lang

-- the trait has no parameters of its own
abbrev pub HasNoParams : RawFacts → TraitId → Type 0
HasNoParams raw t = (x : RawTrait) → slice_get raw.traits t.0 ≡ Some x → x.params ≡ []

-- `sized`, `copy` and `clone` are traits without parameters of their own
abbrev pub LangFits : RawFacts → RawLang → Type 0
LangFits raw (lang.Sized t) = HasNoParams raw t
LangFits raw (lang.Copy t) = HasNoParams raw t
LangFits raw (lang.Clone t) = HasNoParams raw t
LangFits raw lang.Other = Unit {0}
