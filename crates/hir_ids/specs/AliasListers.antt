-- Which traits list an associated type.
use Rattle.std.specs.Prelude.{List, length}
use Rattle.hir_ids.specs.Words.{RawFacts, listed_aliases}
use Rattle.hir_ids.specs.declared.namers.Namers.{Namers}
use Rattle.hir_ids.specs.Namers.{AreNamers}

-- which traits list each associated type
abbrev pub AreAliasListers : RawFacts → List Namers → Type 0
AreAliasListers raw xs =
    AreNamers (listed_aliases raw.traits) (length (listed_aliases raw.traits)) (length raw.aliases) xs
