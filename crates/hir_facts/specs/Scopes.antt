-- A local names a binding that the walk has come to before.
use Rattle.std.specs.Prelude.{◌<◌}
use Rattle.hir_facts.specs.Words.{BindingId, Mention, RawBody, Schedule, Mentions, AllMentioned, IsSchedule, IsLow, Node, start}
use Rattle.hir_raw.specs.declared.mention.Mention.TheVariants as it

-- a node that comes before n binds v: its pattern, or the body, where v is `self`
abbrev pub IsBoundBefore : RawBody → Schedule → Node → BindingId → Type 0
IsBoundBefore b s n v = (k : Node) × Mentions b k (it.Binds v) × (start b s k < start b s n)

-- what the node n mentions is no local, or one that is bound before
abbrev pub IsInScope : RawBody → Schedule → Node → Mention → Type 0
IsInScope b s n (it.Local v) = IsBoundBefore b s n v
IsInScope b s n _ = Unit {0}

abbrev pub AreInScope : RawBody → Schedule → Type 0
AreInScope b s = AllMentioned (IsInScope b s) b

-- a body that is too deep breaks another law
abbrev pub ScopesHold : RawBody → Type 0
ScopesHold b = (s : Schedule) → IsSchedule b s → IsLow 256 b → AreInScope b s
