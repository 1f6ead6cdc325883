-- At which number each binding of a body is bound first.
use Rattle.std.specs.Prelude.{ℕ, ◌<◌, ◌≡◌, min, Bool, true, false, nat_lt, List, length, slice_get, slice_index, slice_index_or, Option, Some, None, IsTrue, ◌↔◌}
use Rattle.hir_laws.specs.Words.{BindingId, Mention, Said, RawBody, Mentions, Node}
use Rattle.hir_laws.specs.Words.hir_raw.declared.mention.Mention.TheVariants as it

-- the binding that is bound, by its number
abbrev pub binding_bound : Mention → Option ℕ
binding_bound (it.Binds v) = Some v.0
binding_bound _ = None

-- the lower of a number and the one so far
abbrev pub and_number : Option ℕ → ℕ → ℕ
and_number None n = n
and_number (Some m) n = min m n

abbrev pub comes_before : Option ℕ → ℕ → Bool
comes_before None n = false
comes_before (Some m) n = nat_lt m n

-- one of the first n entries binds v at a node with a number below this one
abbrev pub IsBoundBelow : List ℕ → List Said → ℕ → ℕ → ℕ → Type 0
IsBoundBelow starts said n v number =
    (k : ℕ) × (s : Said) × (k < n) × (slice_get said k ≡ Some s) × (binding_bound s.mention ≡ Some v)
    × (slice_index starts s.node < number)

-- for each binding below count, the lowest number at which one of the first n entries binds it
pub record AreFirsts (starts : List ℕ) (said : List Said) (n count : ℕ) (xs : List (Option ℕ)) : Type 0 where
  pub size : length xs ≡ count
  pub each : (v : ℕ) → v < count → (number : ℕ)
      → IsTrue (comes_before (slice_index_or xs v None) number) ↔ IsBoundBelow starts said n v number

-- what is mentioned by the node at this position is no local, or one whose first number comes before
abbrev pub ComesAfter : List ℕ → List (Option ℕ) → ℕ → Mention → Type 0
ComesAfter starts xs n (it.Local v) = IsTrue (comes_before (slice_index_or xs v.0 None) (slice_index starts n))
ComesAfter starts xs n _ = Unit {0}

-- locals name bindings of the body
abbrev pub LocalsExist : RawBody → Type 0
LocalsExist b = (n : Node) (v : BindingId) → Mentions b n (it.Local v) → v.0 < length b.bindings
