-- Tables with an entry for each node, and without holes.
use Rattle.std.specs.Prelude.{ℕ, ◌<◌, ◌≡◌, ◌⊎◌, List, [], length, slice_get, Option, Some}
use Rattle.infer_result.specs.Words.{ExprId, PatId, BindingId, VariantId, Ty, RawBody, RawFacts, RawVariant, variant_aliases, ctor_item, IsClosed}
use Rattle.infer_result.specs.Words.hir_raw.declared.raw.RawExpr.TheVariants as expr
use Rattle.infer_result.specs.Words.hir_raw.declared.raw.RawPath.TheVariants as path
use Rattle.infer_result.specs.Words.hir_raw.declared.raw.RawPat.TheVariants as pat
use Rattle.infer_result.specs.declared.result.InferenceResult.{InferenceResult}
use Rattle.infer_result.specs.declared.result.Seen.{Seen}
use Rattle.infer_result.specs.declared.modes.BindingMode.{BindingMode}
use Rattle.infer_result.specs.Table.{HasTy, PatTy, PatItem, BindingTy, HasMode, ExprVariant, PatVariant}
use Rattle.infer_result.specs.Columns.{Column, Entry, entry_kind, index, col, IsIn, IsLong, AllIn}

-- the columns have an entry for each node and binding, and no more
pub record IsOfBody (b : RawBody) (r : InferenceResult) : Type 0 where
  pub long : (c : Column) → IsLong b (index c) (length (col r c))

-- each expression, pattern and binding has a type
pub record IsTotal (b : RawBody) (r : InferenceResult) : Type 0 where
  pub exprs : (e : ExprId) → e.0 < length b.exprs → (t : Ty) × HasTy r e t
  pub pats : (p : PatId) → p.0 < length b.pats → (t : Ty) × PatTy r p t
  pub bindings : (v : BindingId) → v.0 < length b.bindings → (t : Ty) × BindingTy r v t

-- the pattern binds a name
abbrev pub IsBinder : RawBody → PatId → Type 0
IsBinder b p = (v : BindingId) × (sub : Option PatId) × (slice_get b.pats p.0 ≡ Some (pat.Bind v sub))

-- what has a mode is a pattern that binds a name
abbrev pub OnlyBindersHaveModes : RawBody → InferenceResult → Type 0
OnlyBindersHaveModes b r = (p : PatId) (m : BindingMode) → HasMode r p m → IsBinder b p

-- the expression is a path to the constructor
abbrev pub NamesVariant : RawBody → ExprId → VariantId → Type 0
NamesVariant b e v = slice_get b.exprs e.0 ≡ Some (expr.Path (path.Ctor v))

-- the pattern is the constructor, alone or over patterns
abbrev pub IsVariantPat : RawBody → PatId → VariantId → Type 0
IsVariantPat b p v =
    (slice_get b.pats p.0 ≡ Some (pat.Path (path.Ctor v)))
    ⊎ ((ps : List PatId) × (slice_get b.pats p.0 ≡ Some (pat.TupleStruct v ps)))

-- a variant is recorded only where its constructor is named
pub record OnlyNamedVariants (b : RawBody) (r : InferenceResult) : Type 0 where
  pub exprs : (e : ExprId) (v : VariantId) → ExprVariant r e v → NamesVariant b e v
  pub pats : (p : PatId) (v : VariantId) → PatVariant r p v → IsVariantPat b p v

-- an item is recorded only for a pattern of a constructor over patterns in whose fields associated types stand, and is that constructor
pub record IsItemOfPat (raw : RawFacts) (b : RawBody) (p : PatId) (t : Ty) : Type 0 where
  pub named : VariantId
  pub parts : List PatId
  pub is_pat : slice_get b.pats p.0 ≡ Some (pat.TupleStruct named parts)
  pub variant : RawVariant
  pub found : slice_get raw.variants named.0 ≡ Some variant
  pub has_aliases : variant_aliases raw.types variant ≡ [] → ⊥
  pub types : List Ty
  pub is : t ≡ ctor_item named types

abbrev pub OnlyCtorPatsHaveItems : RawFacts → RawBody → InferenceResult → Type 0
OnlyCtorPatsHaveItems raw b r = (p : PatId) (t : Ty) → PatItem r p t → IsItemOfPat raw b p t

-- each type of the table has a property, but for those that failed look-ups saw
pub record AllTypes (P : Ty → Type 0) (r : InferenceResult) : Type 0 where
  pub each : (c : Column) (n : ℕ) (x : Entry c) → IsIn r c n x → AllIn P (entry_kind c) x

-- each type that a failed look-up saw has a property
pub record AllSeen (P : Ty → Type 0) (r : InferenceResult) : Type 0 where
  pub types : (i : ℕ) (x : Seen) → slice_get r.seen i ≡ Some x → P x.ty
  pub others : (i : ℕ) (x : Seen) (t : Ty) → slice_get r.seen i ≡ Some x → x.other ≡ Some t → P t

-- no type of the table has a hole, complaints included; what failed look-ups saw may have some
abbrev pub IsClosedTable : InferenceResult → Type 0
IsClosedTable r = AllTypes IsClosed r
