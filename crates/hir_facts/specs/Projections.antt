-- Where projections may stand: in goals, impls and other projections, in what a function or a constructor takes or gives, and in the types
-- of `let`s.
-- Fields that a variant `V` lists hold none.
use Rattle.std.specs.Prelude.{ℕ, ◌≡◌, ◌<◌, List, slice_get, Some, IsTrue}
use Rattle.hir_facts.specs.Words.{TypeRefId, RawType, RawField, RawVariant, RawFn, RawFacts, is_alias, type_parts}
use Rattle.hir_raw.specs.declared.raw.RawCtor.TheVariants as ctor
use Rattle.hir_facts.specs.Carried.{is_carried_variant}

-- a projection stands in type t: it is one, or a type before it that it is made of holds one
pub data HoldsProjection (types : List RawType) : ℕ → Type 0 where
  is_one : (t : ℕ) (x : RawType) → slice_get types t ≡ Some x → IsTrue (is_alias x) → HoldsProjection types t
  in_part : (t : ℕ) (x : RawType) (k : ℕ) (u : TypeRefId) → slice_get types t ≡ Some x → slice_get (type_parts x) k ≡ Some u → u.0 < t
      → HoldsProjection types u.0 → HoldsProjection types t

-- none stands in type i
abbrev pub IsNoProjection : RawFacts → ℕ → Type 0
IsNoProjection raw i = HoldsProjection raw.types i → ⊥

abbrev pub NameNoProjection : RawFacts → List TypeRefId → Type 0
NameNoProjection raw ts = (k : ℕ) (t : TypeRefId) → slice_get ts k ≡ Some t → IsNoProjection raw t.0

pub record VariantIsCarried (raw : RawFacts) (v : RawVariant) : Type 0 where
  pub kind : IsTrue (is_carried_variant v)
  pub fields : v.ctor ≡ ctor.Unit → (k : ℕ) (f : RawField) → slice_get v.fields k ≡ Some f → IsNoProjection raw f.type_.0

-- none stands in an input, or in the output
pub record SignatureNamesNone (raw : RawFacts) (f : RawFn) : Type 0 where
  pub inputs : NameNoProjection raw f.inputs
  pub output : IsNoProjection raw f.output.0
