-- A body as a graph: its ways, and its numbers.
use Rattle.std.proofs.Common.{◌≡◌, inl, inr, ℕ, zero, suc, ◌+◌, ◌-◌, ◌<◌, List, [], ◌∷◌, ◌++◌, length, map, Option, Some, refl, sym, ap, ◌∙◌, arith}
use Rattle.std.specs.Prelude.{slice_get, option_map}
use Rattle.std.proofs.lemmas.Bool.{cases_lt}
use Rattle.std.proofs.lemmas.List.{length-append, length-map}
use Rattle.std.proofs.lemmas.Option.{slice_get-map}
use Rattle.hir_schedule.specs.Words.{ExprId, PatId, ExprOrPatId, RawBody, RawExpr, RawPat, Node, the_body, inner, IsNode, expr_parts, pat_parts, body_parts, parts_of_expr, parts_of_pat, parts, position, node_count, nodes}
use Rattle.hir_types.specs.declared.ids.ExprOrPatId.TheVariants as node
use Rattle.hir_schedule.specs.Own.{node_lists, positions, graph_of}

-- ---- lists

slice_get_left : {X : Type 0} (xs ys : List X) (i : ℕ) → i < length xs → slice_get (xs ++ ys) i ≡ slice_get xs i
slice_get_left [] ys i lt = absurd (omega arith)
slice_get_left (x ∷ xs) ys zero lt = refl
slice_get_left (x ∷ xs) ys (suc i) lt = slice_get_left xs ys i (omega arith)

slice_get_right : {X : Type 0} (xs ys : List X) (n i : ℕ) → n ≡ length xs + i → slice_get (xs ++ ys) n ≡ slice_get ys i
slice_get_right [] ys n i e = ap (λ (k : ℕ). slice_get ys k) (omega arith)
slice_get_right (x ∷ xs) ys zero i e = absurd (omega arith)
slice_get_right (x ∷ xs) ys (suc n) i e = slice_get_right xs ys n i (omega arith)

read : {X : Type 0} (xs : List X) (i : ℕ) → i < length xs → (x : X) × (slice_get xs i ≡ Some x)
read [] i lt = absurd (omega arith)
read (x ∷ xs) zero lt = (x, refl)
read (x ∷ xs) (suc i) lt = read xs i (omega arith)

-- ---- positions

pub lists_size : (b : RawBody) → length (node_lists b) ≡ node_count b
lists_size b =
    let es : List (List ExprOrPatId) = map (λ e. nodes (expr_parts b e)) b.exprs in
    let ps : List (List ExprOrPatId) = map (λ p. nodes (pat_parts p)) b.pats in
    let last : List (List ExprOrPatId) = nodes (body_parts b) ∷ [] in
    let a : length ((es ++ ps) ++ last) ≡ length (es ++ ps) + length last = length-append (es ++ ps) last in
    let c : length (es ++ ps) ≡ length es + length ps = length-append es ps in
    let d : length es ≡ length b.exprs = length-map b.exprs (λ e. nodes (expr_parts b e)) in
    let f : length ps ≡ length b.pats = length-map b.pats (λ p. nodes (pat_parts p)) in
    omega arith

pub graph_size : (b : RawBody) → length (graph_of b) ≡ node_count b
graph_size b = length-map (node_lists b) (positions b) ∙ lists_size b

pub position_inside : (b : RawBody) (n : Node) → IsNode b n → position b n < node_count b
position_inside b the_body h = omega arith
position_inside b (inner (node.ExprId e)) h = omega arith
position_inside b (inner (node.PatId p)) h = omega arith

-- the parts of a node stand at its position
pub list_at : (b : RawBody) (n : Node) → IsNode b n → slice_get (node_lists b) (position b n) ≡ Some (nodes (parts b n))
list_at b the_body h =
    let es : List (List ExprOrPatId) = map (λ e. nodes (expr_parts b e)) b.exprs in
    let ps : List (List ExprOrPatId) = map (λ p. nodes (pat_parts p)) b.pats in
    let c : length (es ++ ps) ≡ length es + length ps = length-append es ps in
    let d : length es ≡ length b.exprs = length-map b.exprs (λ e. nodes (expr_parts b e)) in
    let f : length ps ≡ length b.pats = length-map b.pats (λ p. nodes (pat_parts p)) in
    slice_get_right (es ++ ps) (nodes (body_parts b) ∷ []) (position b the_body) 0 (omega arith)
list_at b (inner (node.ExprId e)) h =
    let es : List (List ExprOrPatId) = map (λ e. nodes (expr_parts b e)) b.exprs in
    let ps : List (List ExprOrPatId) = map (λ p. nodes (pat_parts p)) b.pats in
    let last : List (List ExprOrPatId) = nodes (body_parts b) ∷ [] in
    let c : length (es ++ ps) ≡ length es + length ps = length-append es ps in
    let d : length es ≡ length b.exprs = length-map b.exprs (λ e. nodes (expr_parts b e)) in
    let x : (x : RawExpr) × (slice_get b.exprs e.0 ≡ Some x) = read b.exprs e.0 h in
    slice_get_left (es ++ ps) last e.0 (omega arith) ∙ (slice_get_left es ps e.0 (omega arith) ∙ (slice_get-map (λ e. nodes (expr_parts b e)) b.exprs e.0
    ∙ (ap (λ (o : Option RawExpr). option_map (λ e. nodes (expr_parts b e)) o) x.1 ∙ ap (λ (o : Option RawExpr). Some (nodes (parts_of_expr b o))) (sym x.1))))
list_at b (inner (node.PatId p)) h =
    let es : List (List ExprOrPatId) = map (λ e. nodes (expr_parts b e)) b.exprs in
    let ps : List (List ExprOrPatId) = map (λ p. nodes (pat_parts p)) b.pats in
    let last : List (List ExprOrPatId) = nodes (body_parts b) ∷ [] in
    let c : length (es ++ ps) ≡ length es + length ps = length-append es ps in
    let d : length es ≡ length b.exprs = length-map b.exprs (λ e. nodes (expr_parts b e)) in
    let f : length ps ≡ length b.pats = length-map b.pats (λ p. nodes (pat_parts p)) in
    let x : (x : RawPat) × (slice_get b.pats p.0 ≡ Some x) = read b.pats p.0 h in
    slice_get_left (es ++ ps) last (length b.exprs + p.0) (omega arith) ∙ (slice_get_right es ps (length b.exprs + p.0) p.0 (omega arith) ∙ (slice_get-map (λ p. nodes (pat_parts p)) b.pats p.0
    ∙ (ap (λ (o : Option RawPat). option_map (λ p. nodes (pat_parts p)) o) x.1 ∙ ap (λ (o : Option RawPat). Some (nodes (parts_of_pat o))) (sym x.1))))

-- a node at each position
pub record NodeAt (b : RawBody) (k : ℕ) : Type 0 where
  pub here : Node
  pub is_node : IsNode b here
  pub place : position b here ≡ k

pub node_at : (b : RawBody) (k : ℕ) → k < node_count b → NodeAt b k
node_at b k lt =
    elim (cases_lt k (length b.exprs)) [
      | inl e ↦ record { here = inner (node.ExprId (record { 0 = k })); is_node = e; place = refl }
      | inr ge ↦ elim (cases_lt k (length b.exprs + length b.pats)) [
        | inl p ↦ record { here = inner (node.PatId (record { 0 = k - length b.exprs })); is_node = omega arith; place = omega arith }
        | inr top ↦ record { here = the_body; is_node = tt; place = omega arith }
      ]
    ]

expr_same : (d e : ExprId) → d.0 ≡ e.0 → d ≡ e
expr_same d e h = λ i. record { 0 = h i }

pat_same : (p q : PatId) → p.0 ≡ q.0 → p ≡ q
pat_same p q h = λ i. record { 0 = h i }

pub one_position : (b : RawBody) (n m : Node) → IsNode b n → IsNode b m → position b n ≡ position b m → n ≡ m
one_position b the_body the_body h k e = refl
one_position b the_body (inner (node.ExprId d)) h k e = absurd (omega arith)
one_position b the_body (inner (node.PatId q)) h k e = absurd (omega arith)
one_position b (inner (node.ExprId d)) the_body h k e = absurd (omega arith)
one_position b (inner (node.ExprId d)) (inner (node.ExprId f)) h k e = ap (λ (x : ExprId). inner (node.ExprId x)) (expr_same d f e)
one_position b (inner (node.ExprId d)) (inner (node.PatId q)) h k e = absurd (omega arith)
one_position b (inner (node.PatId p)) the_body h k e = absurd (omega arith)
one_position b (inner (node.PatId p)) (inner (node.ExprId d)) h k e = absurd (omega arith)
one_position b (inner (node.PatId p)) (inner (node.PatId q)) h k e = ap (λ (x : PatId). inner (node.PatId x)) (pat_same p q (omega arith))
