-- Labels at nodes.
use Rattle.std.specs.Prelude.{ℕ, ◌+◌, ◌<◌, ◌≡◌, List, slice_get, Option, Some, None}
use Rattle.hir_laws.specs.Words.{Mention, Said}
use Rattle.hir_laws.specs.Words.hir_raw.declared.mention.Mention.TheVariants as it
use Rattle.hir_laws.specs.Words.hir_raw.declared.mention.LabelRole.TheVariants as labelled
use Rattle.hir_laws.specs.declared.labels.Place.{Place}

abbrev pub place_by : ℕ → Mention → Option Place
place_by n (it.Label labelled.Here l) = Some (record { label = l.0; node = n })
place_by n _ = None

-- the label that stands at a node
abbrev pub place_of : Said → Option Place
place_of s = place_by s.node s.mention

-- the places of the first n entries
pub record ArePlaces (said : List Said) (n : ℕ) (places : List Place) : Type 0 where
  pub each : (i : ℕ) (p : Place) → slice_get places i ≡ Some p → (k : ℕ) × (s : Said) × (slice_get said k ≡ Some s) × (place_of s ≡ Some p)
  pub all : (k : ℕ) (s : Said) (p : Place) → k < n → slice_get said k ≡ Some s → place_of s ≡ Some p → (i : ℕ)
      × (slice_get places i ≡ Some p)

-- places of the same label are at the same node
abbrev pub Agree : List Place → Type 0
Agree places = (i j : ℕ) (p q : Place) → slice_get places i ≡ Some p → slice_get places j ≡ Some q → p.label ≡ q.label → p.node ≡ q.node

-- the place before, where it has the same label, is at the same node
abbrev pub FollowsAt : List Place → ℕ → Place → Type 0
FollowsAt places i p = (j : ℕ) (q : Place) → i ≡ j + 1 → slice_get places j ≡ Some q → q.label ≡ p.label → q.node ≡ p.node

-- labels stand once in what is said of nodes
abbrev pub PlacesOnce : List Said → Type 0
PlacesOnce said =
    (i j : ℕ) (s t : Said) (p q : Place) → slice_get said i ≡ Some s → slice_get said j ≡ Some t → place_of s ≡ Some p
    → place_of t ≡ Some q → p.label ≡ q.label → p.node ≡ q.node
