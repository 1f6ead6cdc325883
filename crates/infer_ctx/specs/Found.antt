-- What inference has found out of a body, holes closed.
use Rattle.std.specs.Prelude.{ℕ, ◌≡◌, map, [], ◌+◌, ◌++◌, ◌∷◌}
use Rattle.infer_ctx.specs.Words.{Assignment, ExprId, Ty, PatId, BindingId, RawBody, InferenceResult, TypeMismatch, InferenceDiagnostic, BindingMode, Seen}
use Rattle.infer_result.specs.declared.modes.BindingMode.TheVariants as mode
pub use Rattle.infer_ctx.specs.Writes.{path_variant, expr_variant, pat_variant, noted_where, noted, put}
use Rattle.infer_ctx.specs.Writes as writes
use Rattle.infer_ctx.specs.Said.{said_of}

-- the table as far as it is filled, to how many nodes the walk has come, and what stands for holes
pub record Found : Type 0 where
  pub result : InferenceResult
  pub clock : ℕ
  pub holes : Assignment

-- each constructor that is named is recorded, and nothing else
pub record RecordsVariants (b : RawBody) (r : InferenceResult) : Type 0 where
  pub exprs : r.expr_variants ≡ map expr_variant b.exprs
  pub pats : r.pat_variants ≡ map pat_variant b.pats

-- nothing yet: the walk has come to the body alone, and what constructors are named is known
abbrev pub nothing_found : Assignment → RawBody → Found
nothing_found a b = record {
  result = writes.nothing b;
  clock = 1;
  holes = a;
}

-- ---- what a write does
abbrev pub entered : Found → Found
entered c = record c { clock = c.clock + 1 }

abbrev pub with_expr_ty : Found → ExprId → Ty → Found
with_expr_ty c e t = record c { result = writes.expr_ty c.result e t }

abbrev pub with_mismatch : Found → ExprId → TypeMismatch → Found
with_mismatch c e m = record c { result = writes.expr_mismatch c.result e m }

abbrev pub with_pat_mismatch : Found → PatId → TypeMismatch → Found
with_pat_mismatch c p m = record c { result = writes.pat_mismatch c.result p m }

-- the complaint, other than a mismatch, at the expression
abbrev pub with_diagnostic : Found → ExprId → InferenceDiagnostic → Found
with_diagnostic c e x = record c { result = writes.expr_diagnostic c.result e x }

-- the complaint, other than a mismatch, at the pattern
abbrev pub with_pat_diagnostic : Found → PatId → InferenceDiagnostic → Found
with_pat_diagnostic c p x = record c { result = writes.pat_diagnostic c.result p x }

abbrev pub with_pat_ty : Found → PatId → Ty → Found
with_pat_ty c p t = record c { result = writes.pat_ty c.result p t }

abbrev pub with_pat_item : Found → PatId → Ty → Found
with_pat_item c p t = record c { result = writes.pat_item c.result p t }

abbrev pub with_mode : Found → PatId → BindingMode → Found
with_mode c p m = record c { result = writes.mode c.result p m }

abbrev pub with_binding_ty : Found → BindingId → Ty → Found
with_binding_ty c v t = record c { result = writes.binding_ty c.result v t }

-- the look-up failed, which is said unless `{unknown}` stands in its type
abbrev pub with_seen : Found → Seen → Found
with_seen c x = record c {
  result =
      record c.result { seen = c.result.seen ++ x ∷ []; expr_diagnostics = said_of c.holes c.result.expr_diagnostics x };
}

-- the pattern p of type t binds v by move
abbrev pub bound_by : Found → PatId → BindingId → Ty → Found
bound_by c p v t = with_binding_ty (with_pat_ty (with_mode c p mode.Move) p t) v t
