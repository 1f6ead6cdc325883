-- What is recorded in a table, write by write.
use Rattle.std.specs.Prelude.{ℕ, zero, suc, List, [], ◌∷◌, map, slice_get, slice_set, Option, Some, None}
use Rattle.infer_ctx.specs.Words.{ExprId, PatId, BindingId, VariantId, Ty, RawPath, RawExpr, RawPat, RawBody, BindingMode, InferenceResult, TypeMismatch, InferenceDiagnostic, Column, Entries, no_entries, table_of}
use Rattle.infer_ctx.specs.Words.hir_raw.declared.raw.RawPath.TheVariants as path
use Rattle.infer_ctx.specs.Words.hir_raw.declared.raw.RawExpr.TheVariants as expr
use Rattle.infer_ctx.specs.Words.hir_raw.declared.raw.RawPat.TheVariants as pat
use Rattle.infer_result.specs.Columns as column

-- the variant whose constructor is named
abbrev pub path_variant : RawPath → Option VariantId
path_variant (path.Ctor v) = Some v
path_variant _ = None

abbrev pub expr_variant : RawExpr → Option VariantId
expr_variant (expr.Path p) = path_variant p
expr_variant _ = None

abbrev pub pat_variant : RawPat → Option VariantId
pat_variant (pat.TupleStruct v ps) = Some v
pat_variant (pat.Path p) = path_variant p
pat_variant _ = None

-- what is noted at n, where nothing is there yet: the first one stays
abbrev pub noted_where : {A : Type 0} → Option (Option A) → List (Option A) → ℕ → A → List (Option A)
noted_where None xs n m = xs
noted_where (Some None) xs n m = slice_set xs n (Some m)
noted_where (Some (Some x)) xs n m = xs

abbrev pub noted : {A : Type 0} → List (Option A) → ℕ → A → List (Option A)
noted xs n m = noted_where (slice_get xs n) xs n m

-- x at n, with empty entries before it where the list is too short
abbrev pub put : {A : Type 0} → List (Option A) → ℕ → A → List (Option A)
put [] zero x = Some x ∷ []
put [] (suc n) x = None ∷ put [] n x
put (o ∷ xs) zero x = Some x ∷ xs
put (o ∷ xs) (suc n) x = o ∷ put xs n x

-- nothing is recorded yet, but what constructors are named
abbrev pub first_entries : RawBody → (c : Column) → Entries c
first_entries b column.expr_variants = map expr_variant b.exprs
first_entries b column.pat_variants = map pat_variant b.pats
first_entries b c = no_entries b c

abbrev pub nothing : RawBody → InferenceResult
nothing b = table_of (first_entries b)

abbrev pub expr_ty : InferenceResult → ExprId → Ty → InferenceResult
expr_ty r e t = record r { type_of_expr = slice_set r.type_of_expr e.0 (Some t) }

-- the mismatch at the expression
abbrev pub expr_mismatch : InferenceResult → ExprId → TypeMismatch → InferenceResult
expr_mismatch r e m = record r { expr_mismatches = noted r.expr_mismatches e.0 m }

-- the mismatch at the pattern
abbrev pub pat_mismatch : InferenceResult → PatId → TypeMismatch → InferenceResult
pat_mismatch r p m = record r { pat_mismatches = noted r.pat_mismatches p.0 m }

-- the complaint, other than a mismatch, at the expression
abbrev pub expr_diagnostic : InferenceResult → ExprId → InferenceDiagnostic → InferenceResult
expr_diagnostic r e x = record r { expr_diagnostics = noted r.expr_diagnostics e.0 x }

-- the complaint, other than a mismatch, at the pattern
abbrev pub pat_diagnostic : InferenceResult → PatId → InferenceDiagnostic → InferenceResult
pat_diagnostic r p x = record r { pat_diagnostics = noted r.pat_diagnostics p.0 x }

abbrev pub pat_ty : InferenceResult → PatId → Ty → InferenceResult
pat_ty r p t = record r { type_of_pat = slice_set r.type_of_pat p.0 (Some t) }

-- the pattern is of this item
abbrev pub pat_item : InferenceResult → PatId → Ty → InferenceResult
pat_item r p t = record r { item_of_pat = slice_set r.item_of_pat p.0 (Some t) }

abbrev pub mode : InferenceResult → PatId → BindingMode → InferenceResult
mode r p m = record r { binding_modes = slice_set r.binding_modes p.0 (Some m) }

abbrev pub binding_ty : InferenceResult → BindingId → Ty → InferenceResult
binding_ty r v t = record r { type_of_binding = slice_set r.type_of_binding v.0 (Some t) }

-- the `_` that is type k stands for t
abbrev pub placeholder_ty : InferenceResult → ℕ → Ty → InferenceResult
placeholder_ty r k t = record r { type_of_placeholder = put r.type_of_placeholder k t }
