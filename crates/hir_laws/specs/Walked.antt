-- What a walk through the patterns that bind knows.
use Rattle.std.specs.Prelude.{ℕ}
use Rattle.hir_laws.specs.Words.{RawBody, Schedule, AreOpen}
use Rattle.hir_laws.specs.Parted.{IsPartedSoFar}
use Rattle.hir_laws.specs.declared.or_patterns.Walked.{Walked}

-- it has come to the number k
pub record IsWalked (b : RawBody) (s : Schedule) (k : ℕ) (w : Walked) : Type 0 where
  pub enclosing : AreOpen b s k w.enclosing.nodes.items
  pub parted : IsPartedSoFar b s k w.lasts.items
