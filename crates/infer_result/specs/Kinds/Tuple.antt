-- A tuple, whose parts stand at the types of its components: Reference, "Tuple expressions"; upstream
-- `infer/expr.rs`, `Expr::Tuple`.
use Rattle.std.specs.Prelude.{List, [], ◌∷◌}
use Rattle.infer_result.specs.Words.{ExprId, Ty}
use Rattle.hir_types.specs.declared.ty.Ty.TheVariants as ty
use Rattle.infer_result.specs.declared.result.InferenceResult.{InferenceResult}
use Rattle.infer_result.specs.Table.{HasTy}

-- ---- its rule

-- each of these at its type, of which there are as many
abbrev pub AllAt : (ExprId → Ty → Type 0) → List ExprId → List Ty → Type 0
AllAt At [] [] = Unit {0}
AllAt At [] (s ∷ ss) = ⊥
AllAt At (e ∷ es) [] = ⊥
AllAt At (e ∷ es) (s ∷ ss) = At e s × AllAt At es ss

abbrev pub TupleRule : (ExprId → Ty → Type 0) → InferenceResult → ExprId → List ExprId → Type 0
TupleRule At r e es = (ss : List Ty) × HasTy r e (ty.Tuple ss) × AllAt At es ss
