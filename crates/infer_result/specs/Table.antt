-- What a table says of a node.
use Rattle.std.specs.Prelude.{ℕ, ◌≡◌, ◌⊎◌, List, [], ◌∷◌, slice_get, Option, Some, None, unwrap_or}
use Rattle.std.specs.Option.{option_and_then}
use Rattle.infer_result.specs.Words.{ExprId, PatId, BindingId, VariantId, ExprOrPatId, Ty}
use Rattle.hir_types.specs.declared.ids.ExprOrPatId.TheVariants as node
use Rattle.infer_result.specs.declared.gaps.Gap.{Gap}
use Rattle.infer_result.specs.declared.result.InferenceResult.{InferenceResult}
use Rattle.infer_result.specs.declared.result.TypeMismatch.{TypeMismatch}
use Rattle.infer_result.specs.declared.result.Seen.{Seen}
use Rattle.infer_result.specs.declared.diagnostics.InferenceDiagnostic.{InferenceDiagnostic}
use Rattle.infer_result.specs.declared.modes.BindingMode.{BindingMode}

-- what is recorded at n, where something is
abbrev pub recorded : {A : Type 0} → List (Option A) → ℕ → Option A
recorded xs n = option_and_then (λ x. x) (slice_get xs n)

-- what stands in the list at n, where there is one
abbrev pub gaps_at : List (List Gap) → ℕ → List Gap
gaps_at xs n = unwrap_or (slice_get xs n) []

-- the gaps that are listed at a node, where they are
abbrev pub listed_gaps : InferenceResult → ExprOrPatId → Option (List Gap)
listed_gaps r (node.ExprId e) = slice_get r.expr_gaps e.0
listed_gaps r (node.PatId p) = slice_get r.pat_gaps p.0

abbrev pub node_type : InferenceResult → ExprOrPatId → Option Ty
node_type r (node.ExprId e) = recorded r.type_of_expr e.0
node_type r (node.PatId p) = recorded r.type_of_pat p.0

abbrev pub node_variant : InferenceResult → ExprOrPatId → Option VariantId
node_variant r (node.ExprId e) = recorded r.expr_variants e.0
node_variant r (node.PatId p) = recorded r.pat_variants p.0

-- x is recorded at n
abbrev pub At : {A : Type 0} → List (Option A) → ℕ → A → Type 0
At xs n x = slice_get xs n ≡ Some (Some x)

-- the expression, the pattern, the binding has this type
abbrev pub HasTy : InferenceResult → ExprId → Ty → Type 0
HasTy r e t = At r.type_of_expr e.0 t

abbrev pub PatTy : InferenceResult → PatId → Ty → Type 0
PatTy r p t = At r.type_of_pat p.0 t

-- the pattern is of the constructor of which this is the type, as an item
abbrev pub PatItem : InferenceResult → PatId → Ty → Type 0
PatItem r p t = At r.item_of_pat p.0 t

abbrev pub BindingTy : InferenceResult → BindingId → Ty → Type 0
BindingTy r v t = At r.type_of_binding v.0 t

-- the `_` that is type k of the facts stands for this type
abbrev pub PlaceholderTy : InferenceResult → ℕ → Ty → Type 0
PlaceholderTy r k t = At r.type_of_placeholder k t

abbrev pub HasMode : InferenceResult → PatId → BindingMode → Type 0
HasMode r p m = At r.binding_modes p.0 m

-- the expression, the pattern names the constructor of this variant
abbrev pub ExprVariant : InferenceResult → ExprId → VariantId → Type 0
ExprVariant r e v = At r.expr_variants e.0 v

abbrev pub PatVariant : InferenceResult → PatId → VariantId → Type 0
PatVariant r p v = At r.pat_variants p.0 v

abbrev pub mismatch : Ty → Ty → TypeMismatch
mismatch expected actual = record { expected = expected; actual = actual }

-- this mismatch is listed at the expression
abbrev pub MismatchAt : InferenceResult → ExprId → Ty → Ty → Type 0
MismatchAt r e expected actual = At r.expr_mismatches e.0 (mismatch expected actual)

-- some mismatch is
abbrev pub HasMismatch : InferenceResult → ExprId → Type 0
HasMismatch r e = (x : TypeMismatch) × At r.expr_mismatches e.0 x

-- some mismatch is listed at one of these expressions
abbrev pub AnyMismatch : InferenceResult → List ExprId → Type 0
AnyMismatch r [] = ⊥
AnyMismatch r (e ∷ es) = HasMismatch r e ⊎ AnyMismatch r es

-- some is listed at the expression, where there is one
abbrev pub MaybeMismatch : InferenceResult → Option ExprId → Type 0
MaybeMismatch r None = ⊥
MaybeMismatch r (Some e) = HasMismatch r e

-- this complaint, other than a mismatch, is listed at the expression
abbrev pub HasDiagnostic : InferenceResult → ExprId → InferenceDiagnostic → Type 0
HasDiagnostic r e x = At r.expr_diagnostics e.0 x

-- some is
abbrev pub AnyDiagnostic : InferenceResult → ExprId → Type 0
AnyDiagnostic r e = (x : InferenceDiagnostic) × HasDiagnostic r e x

-- some mismatch is listed at the pattern
abbrev pub HasPatMismatch : InferenceResult → PatId → Type 0
HasPatMismatch r p = (x : TypeMismatch) × At r.pat_mismatches p.0 x

-- this complaint, other than a mismatch, is listed at the pattern
abbrev pub HasPatDiagnostic : InferenceResult → PatId → InferenceDiagnostic → Type 0
HasPatDiagnostic r p x = At r.pat_diagnostics p.0 x

-- a look-up for this expression failed
pub record WasSeen (r : InferenceResult) (e : ExprId) : Type 0 where
  pub position : ℕ
  pub entry : Seen
  pub found : slice_get r.seen position ≡ Some entry
  pub is_node : entry.node ≡ node.ExprId e
