-- Which node is a tuple.
use Rattle.std.specs.Prelude.{◌≡◌, List, slice_get, Some}
use Rattle.infer_tuples.specs.Words.{ExprId, RawBody}
use Rattle.infer_tuples.specs.Words.hir_raw.declared.raw.RawExpr.TheVariants as expr

abbrev pub IsTupleOf : RawBody → ExprId → List ExprId → Type 0
IsTupleOf b e es = slice_get b.exprs e.0 ≡ Some (expr.Tuple es)
