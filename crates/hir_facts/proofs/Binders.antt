-- What binds a name in a body that is carried is a binding pattern.
use Rattle.std.specs.Prelude.{◌≡◌, ℕ, zero, suc, Bool, true, false, List, [], ◌∷◌, ◌++◌, slice_get, flat_map, Option, Some, None, IsTrue, refl, ◌<◌}
use Rattle.std.specs.List.{list_all}
use Rattle.std.specs.Option.{option_and_then}
use Rattle.std.proofs.Common.{ap, subst}
use Rattle.hir_facts.specs.Words.{BindingId, ExprId, PatId, Mention, RawPath, RawStmt, RawExpr, RawPat, RawBody, Schedule, maybe, of_list, path_mentions, stmt_mentions, expr_mentions, mentions_of_expr, mentions_of_pat, Mentions, Node, the_body, inner, Binds, binding_of, start}
use Rattle.hir_types.specs.declared.ids.ExprOrPatId.TheVariants as node
use Rattle.hir_raw.specs.declared.mention.Mention.TheVariants as it
use Rattle.hir_raw.specs.declared.raw.RawPath.TheVariants as path
use Rattle.hir_raw.specs.declared.raw.RawStmt.TheVariants as stmt
use Rattle.hir_raw.specs.declared.raw.RawExpr.TheVariants as expr
use Rattle.hir_raw.specs.declared.raw.RawPat.TheVariants as pat
use Rattle.hir_facts.proofs.CarriedBodies.{carried_parts, list_all_at}
use Rattle.hir_facts.specs.Own.{is_carried_expr, is_carried_pat, is_carried_body, IsTypedBefore, AreInScope}

abbrev binds_none : Mention → Bool
binds_none (it.Binds v) = false
binds_none _ = true

path_binds_none : (q : RawPath) → list_all binds_none (path_mentions q) ≡ true
path_binds_none (path.Local v) = refl
path_binds_none (path.Function f) = refl
path_binds_none (path.Ctor v) = refl

stmts_bind_none : (ss : List RawStmt) → list_all binds_none (flat_map stmt_mentions ss) ≡ true
stmts_bind_none [] = refl
stmts_bind_none (stmt.Let p None init other ∷ ss) = stmts_bind_none ss
stmts_bind_none (stmt.Let p (Some t) init other ∷ ss) = stmts_bind_none ss
stmts_bind_none (stmt.Expr e semicolon ∷ ss) = stmts_bind_none ss

expr_binds_none : (x : RawExpr) → IsTrue (is_carried_expr x) → list_all binds_none (expr_mentions x) ≡ true
expr_binds_none (expr.Path q) h = path_binds_none q
expr_binds_none (expr.Block None stmts last) h = stmts_bind_none stmts
expr_binds_none (expr.Block (Some l) stmts last) h = stmts_bind_none stmts
expr_binds_none (expr.Later x) h = absurd (cc)
expr_binds_none _ h = refl

absent : (ms : List Mention) (k : ℕ) (v : BindingId) → list_all binds_none ms ≡ true → slice_get ms k ≡ Some (it.Binds v) → ⊥
absent ms k v none at = let t : false ≡ true = list_all_at binds_none ms k (it.Binds v) none at in cc

by_pat : (o : Option RawPat) → ((x : RawPat) → o ≡ Some x → IsTrue (is_carried_pat x)) → (k : ℕ) (v : BindingId) → slice_get (mentions_of_pat o) k ≡ Some (it.Binds v) → option_and_then binding_of o ≡ Some v
by_pat (Some (pat.Bind w sub)) h zero v at = cc
by_pat (Some (pat.Path q)) h k v at = absurd (absent (path_mentions q) k v (path_binds_none q) at)
by_pat (Some (pat.TupleStruct w ps)) h k v at = absurd (absent (it.Variant w ∷ of_list ps) k v refl at)
by_pat (Some (pat.Tuple ps)) h k v at = absurd (absent (of_list ps) k v refl at)
by_pat (Some (pat.Later x)) h k v at = absurd (let t : IsTrue (is_carried_pat (pat.Later x)) = h (pat.Later x) refl in cc)
by_pat _ h k v at = absurd (cc)

by_expr : (o : Option RawExpr) → ((x : RawExpr) → o ≡ Some x → IsTrue (is_carried_expr x)) → (k : ℕ) (v : BindingId) → slice_get (mentions_of_expr o) k ≡ Some (it.Binds v) → ⊥
by_expr None h k v at = cc
by_expr (Some x) h k v at = absent (expr_mentions x) k v (expr_binds_none x (h x refl)) at

by_body : (b : RawBody) → b.self_ ≡ None → (k : ℕ) (v : BindingId) → slice_get (maybe it.Binds b.self_ ++ of_list b.params) k ≡ Some (it.Binds v) → ⊥
by_body b none k v at = absent (maybe it.Binds None ++ of_list b.params) k v refl (subst (λ o. slice_get (maybe it.Binds o ++ of_list b.params) k ≡ Some (it.Binds v)) none at)

-- in a body that is carried the pattern of a local comes before
pub typed_before : (b : RawBody) (s : Schedule) → IsTrue (is_carried_body b) → AreInScope b s → (e : ExprId) (v : BindingId) → slice_get b.exprs e.0 ≡ Some (expr.Path (path.Local v)) → IsTypedBefore b s e v
typed_before b s carried scope e v found = let h = scope (inner (node.ExprId e)) (it.Local v) (0, ap (λ o. slice_get (mentions_of_expr o) 0) found) in by h.0 h.1 h.2
  where
    by : (n : Node) → Mentions b n (it.Binds v) → start b s n < start b s (inner (node.ExprId e)) → IsTypedBefore b s e v
    by the_body binds lt = absurd (by_body b (carried_parts b carried).no_self binds.0 v binds.1)
    by (inner (node.ExprId d)) binds lt =
        absurd (by_expr (slice_get b.exprs d.0) (λ x at. list_all_at is_carried_expr b.exprs d.0 x (carried_parts b carried).exprs at) binds.0 v binds.1)
    by (inner (node.PatId p)) binds lt =
        (p, by_pat (slice_get b.pats p.0) (λ x at. list_all_at is_carried_pat b.pats p.0 x (carried_parts b carried).pats at) binds.0 v binds.1, lt)
