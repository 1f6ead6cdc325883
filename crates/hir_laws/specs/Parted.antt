-- Or-patterns by the numbers of the walk.
use Rattle.std.specs.Prelude.{ℕ, ◌<◌, ◌≤◌, ◌≡◌, List, length, slice_get, slice_index_or, Option, Some, None}
use Rattle.hir_laws.specs.Words.{BindingId, PatId, RawBody, Schedule, Binds, Node, Part, inner, part_at, start, end}
use Rattle.hir_types.specs.declared.ids.ExprOrPatId.TheVariants as node
use Rattle.hir_laws.specs.Words.hir_raw.declared.raw.RawPat.TheVariants as pat
use Rattle.hir_laws.specs.Words.hir_raw.declared.later.LaterPat.TheVariants as later_pat

-- the number of a pattern
abbrev pub number : RawBody → Schedule → PatId → ℕ
number b s p = start b s (inner (node.PatId p))

-- the numbers m and n are among those of an or-pattern, and not both among those of one part of it
pub record AreParted (b : RawBody) (s : Schedule) (m n : ℕ) : Type 0 where
  pub whole : PatId
  pub parts : List PatId
  pub is_or : slice_get b.pats whole.0 ≡ Some (pat.Later (later_pat.Or parts))
  pub from : number b s whole < m
  pub to : n < end b s (inner (node.PatId whole))
  pub apart : (k : ℕ) (p : Part) → part_at b (inner (node.PatId whole)) k ≡ Some p → start b s (inner p.node) ≤ m
      → n < end b s (inner p.node) → ⊥

-- of the patterns with numbers below k any two that bind the same are in different parts of an or-pattern
abbrev pub ArePartedBelow : RawBody → Schedule → ℕ → Type 0
ArePartedBelow b s k =
    (v : BindingId) (p q : PatId) → v.0 < length b.bindings → Binds b p v → Binds b q v → number b s p < number b s q → number b s q < k
    → AreParted b s (number b s p) (number b s q)

abbrev pub AllParted : RawBody → Schedule → Type 0
AllParted b s =
    (v : BindingId) (p q : PatId) → v.0 < length b.bindings → Binds b p v → Binds b q v → number b s p < number b s q
    → AreParted b s (number b s p) (number b s q)

-- no pattern with a number below k binds v, or the last that does has this number
abbrev pub IsLast : RawBody → Schedule → ℕ → BindingId → Option ℕ → Type 0
IsLast b s k v None = (p : PatId) → Binds b p v → number b s p < k → ⊥
IsLast b s k v (Some m) =
    ((p : PatId) × Binds b p v × (number b s p ≡ m)) × (m < k) × ((q : PatId) → Binds b q v → number b s q < k → number b s q ≤ m)

-- a binding pattern before the number k has this number, where there is one
abbrev pub IsBinder : RawBody → Schedule → ℕ → Option ℕ → Type 0
IsBinder b s k None = Unit {0}
IsBinder b s k (Some m) = ((p : PatId) × (v : BindingId) × Binds b p v × (number b s p ≡ m)) × (m < k)

-- what is known of the patterns with numbers below k
pub record IsPartedSoFar (b : RawBody) (s : Schedule) (k : ℕ) (lasts : List (Option ℕ)) : Type 0 where
  pub size : length lasts ≡ length b.bindings
  pub last : (v : BindingId) → v.0 < length b.bindings → IsLast b s k v (slice_index_or lasts v.0 None)
  pub parted : ArePartedBelow b s k

-- an or-pattern parts this number, where there is one, from the number k
abbrev pub IsPartedFrom : RawBody → Schedule → ℕ → Option ℕ → Type 0
IsPartedFrom b s k None = Unit {0}
IsPartedFrom b s k (Some m) = AreParted b s m k
