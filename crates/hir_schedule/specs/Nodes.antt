-- The nodes of a body as a graph.
use Rattle.std.specs.Prelude.{ℕ, ◌≡◌, List, [], ◌∷◌, ◌++◌, map, slice_get, Some}
use Rattle.hir_schedule.specs.Words.{ExprOrPatId, RawBody, inner, IsInBody, expr_parts, pat_parts, body_parts, position, nodes}

-- these are expressions and patterns of the body
abbrev pub AllInBody : RawBody → List ExprOrPatId → Type 0
AllInBody b xs = (k : ℕ) (x : ExprOrPatId) → slice_get xs k ≡ Some x → IsInBody b x

-- the parts of each expression, then of each pattern, then of the body
abbrev pub node_lists : RawBody → List (List ExprOrPatId)
node_lists b = map (λ e. nodes (expr_parts b e)) b.exprs ++ map (λ p. nodes (pat_parts p)) b.pats ++ nodes (body_parts b) ∷ []

abbrev pub positions : RawBody → List ExprOrPatId → List ℕ
positions b xs = map (λ x. position b (inner x)) xs

-- the same by positions
abbrev pub graph_of : RawBody → List (List ℕ)
graph_of b = map (positions b) (node_lists b)
