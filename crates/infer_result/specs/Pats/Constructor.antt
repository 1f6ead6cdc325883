-- A pattern by a constructor, over patterns or alone: Reference, "Tuple struct patterns", "Path patterns";
-- upstream `infer/pat.rs`, `infer_tuple_struct_pat_like`.
use Rattle.std.specs.Prelude.{ℕ, ◌≡◌, ◌⊎◌, List, length, slice_get, Some, [], ◌∷◌, ◌++◌}
use Rattle.infer_result.specs.Words.{PatId, VariantId, Ty, RawVariant, ctor_item, RawPath}
use Rattle.hir_types.specs.declared.ids.ExprOrPatId.TheVariants as node
use Rattle.infer_result.specs.Words.hir_raw.declared.raw.RawPat.TheVariants as pat
use Rattle.infer_result.specs.Words.hir_raw.declared.raw.RawPath.TheVariants as path
use Rattle.infer_result.specs.declared.result.InferenceResult.{InferenceResult}
use Rattle.infer_result.specs.declared.diagnostics.InferenceDiagnostic.TheVariants as diagnostic
use Rattle.infer_result.specs.Table.{PatTy, PatItem, PatVariant, HasPatDiagnostic}
use Rattle.infer_result.specs.Places.{Given, PatIsAtOrMismatch}
use Rattle.infer_result.specs.Kinds.Constructor.{IsCtorPath, IsVariantAt, IsCtorAt, adt_at, fields_at}

-- ---- its rule

-- each of these at its type, as far as there are both
abbrev pub PatsAtFields : Given → InferenceResult → List PatId → List Ty → Type 0
PatsAtFields g r [] ss = Unit {0}
PatsAtFields g r (p ∷ ps) [] = Unit {0}
PatsAtFields g r (p ∷ ps) (s ∷ ss) = PatIsAtOrMismatch g r p s × PatsAtFields g r ps ss

-- which item the pattern is of is recorded, where that has types beside the adt's
abbrev pub IsItemOf : InferenceResult → PatId → VariantId → List Ty → List Ty → Type 0
IsItemOf r p v ts [] = Unit {0}
IsItemOf r p v ts (h ∷ hs) = PatItem r p (ctor_item v (ts ++ h ∷ hs))

-- The pattern is of the constructor of the variant x, at the types ts for the parameters of the adt and at the types hs for the associated
-- types in
-- its fields. It has the type of the adt.
pub record IsPatOf (g : Given) (r : InferenceResult) (p : PatId) (v : VariantId) (x : RawVariant) (ts hs : List Ty) : Type 0 where
  pub is_variant : IsVariantAt g v x ts
  pub is_ctor : IsCtorAt g v x (ts ++ hs)
  pub has : PatTy r p (adt_at x ts)
  pub item : IsItemOf r p v ts hs

-- The parts of such a pattern are at the types of the fields, of which there are as many, or that there are not is said. Which variant it
-- is of is recorded. What the associated types are, the pattern needs (`Needs`).
pub record CtorPatRule (g : Given) (r : InferenceResult) (p : PatId) (v : VariantId) (ps : List PatId) : Type 0 where
  pub variant : RawVariant
  pub types : List Ty
  pub hidden : List Ty
  pub is : IsPatOf g r p v variant types hidden
  pub parts : PatsAtFields g r ps (fields_at g variant (length types) (types ++ hidden))
  pub counted : (length variant.fields ≡ length ps)
      ⊎ HasPatDiagnostic r p (diagnostic.MismatchedTupleStructPatArgCount (node.PatId p) (length variant.fields) (length ps))
  pub resolved : PatVariant r p v

-- a pattern that is a path has the type of the constructor that it names
abbrev pub PathPatRule : Given → InferenceResult → PatId → RawPath → Type 0
PathPatRule g r p (path.Ctor v) = (t : Ty) × PatTy r p t × IsCtorPath g v t × PatVariant r p v
PathPatRule g r p _ = ⊥

-- ---- what it gives its parts

-- the pattern is a constructor over patterns, and t is the type of its field at this position, at the types of the item that the pattern is
-- of
pub record GivesField (g : Given) (r : InferenceResult) (p : PatId) (i : ℕ) (t : Ty) : Type 0 where
  pub named : VariantId
  pub parts : List PatId
  pub is_pat : slice_get g.body.pats p.0 ≡ Some (pat.TupleStruct named parts)
  pub variant : RawVariant
  pub types : List Ty
  pub hidden : List Ty
  pub is : IsPatOf g r p named variant types hidden
  pub field : slice_get (fields_at g variant (length types) (types ++ hidden)) i ≡ Some t

-- ---- what its complaints say

-- The pattern is of a constructor with so many fields, has so many parts, and these numbers differ.
pub record IsWrongFieldCount (g : Given) (p : PatId) (expected found : ℕ) : Type 0 where
  pub named : VariantId
  pub parts : List PatId
  pub is_pat : slice_get g.body.pats p.0 ≡ Some (pat.TupleStruct named parts)
  pub variant : RawVariant
  pub is_variant : slice_get g.scope.facts.variants named.0 ≡ Some variant
  pub is_expected : expected ≡ length variant.fields
  pub is_found : found ≡ length parts
  pub differ : expected ≡ found → ⊥
