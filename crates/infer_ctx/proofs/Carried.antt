-- What the first law says of a node.
use Rattle.std.proofs.Common.{ℕ, ◌≡◌, Some, slice_get, IsTrue}
use Rattle.infer_ctx.specs.Words.{RawExpr, RawBody, is_carried_expr, is_carried_body}
use Rattle.infer_ctx.proofs.Words.{carried_parts, list_all_at}

pub carried_expr : (b : RawBody) (e : ℕ) (x : RawExpr) → IsTrue (is_carried_body b) → slice_get b.exprs e ≡ Some x → IsTrue (is_carried_expr x)
carried_expr b e x h is = list_all_at is_carried_expr b.exprs e x (carried_parts b h).exprs is
