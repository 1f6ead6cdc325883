-- What the law of ids says of the nodes of a body, kind by kind.
use Rattle.std.specs.Prelude.{◌≡◌, ◌<◌, ◌++◌, ℕ, List, length, slice_get, Option, Some, flat_map, refl}
use Rattle.std.proofs.Common.{ap, subst, sym}
use Rattle.std.proofs.lemmas.Option.{option_and_then_some}
use Rattle.hir_facts.specs.Words.{ExprId, PatId, BindingId, FunctionId, VariantId, TypeRefId, RawExpr, RawPat, RawBody, RawFacts, of_list, label_here, stmt_mentions, pat_mentions, mentions_of_expr, mentions_of_pat, Mentions, inner, stmts_of, stmt_at, binding_of, Binds}
use Rattle.hir_types.specs.declared.ids.ExprOrPatId.TheVariants as node
use Rattle.hir_raw.specs.declared.mention.Mention.TheVariants as it
use Rattle.hir_raw.specs.declared.raw.RawPath.TheVariants as path
use Rattle.hir_raw.specs.declared.raw.RawStmt.TheVariants as stmt
use Rattle.hir_raw.specs.declared.raw.RawExpr.TheVariants as expr
use Rattle.hir_raw.specs.declared.raw.RawPat.TheVariants as pat
use Rattle.hir_facts.specs.Ids.{IsModuleFn, BodyIdsExist}
use Rattle.hir_facts.specs.NoHoles.{In, in_last, in_flat}

let_mentioned : (o : Option RawExpr) (i : ℕ) (p : PatId) (t : TypeRefId) (init other : Option ExprId)
    → slice_get (stmts_of o) i ≡ Some (stmt.Let p (Some t) init other) → In (mentions_of_expr o) (it.Type t)
let_mentioned (Some (expr.Block label stmts last)) i p t init other found =
    in_last (label_here label) (of_list stmts ++ flat_map stmt_mentions stmts) (it.Type t)
    (in_last (of_list stmts) (flat_map stmt_mentions stmts) (it.Type t)
    (in_flat stmt_mentions stmts i (stmt.Let p (Some t) init other) (it.Type t) found (0, refl)))
let_mentioned _ i p t init other found = absurd (cc)

-- a `let` mentions its written type
pub let_mentions : (b : RawBody) (e : ExprId) (i : ℕ) (p : PatId) (t : TypeRefId) (init other : Option ExprId)
    → stmt_at b e i ≡ Some (stmt.Let p (Some t) init other) → Mentions b (inner (node.ExprId e)) (it.Type t)
let_mentions b e i p t init other at = let_mentioned (slice_get b.exprs e.0) i p t init other at

binding_mentioned : (x : RawPat) (v : BindingId) → binding_of x ≡ Some v → slice_get (pat_mentions x) 0 ≡ Some (it.Binds v)
binding_mentioned (pat.Bind w sub) v is = let same : w ≡ v = cc in ap (λ (u : BindingId). Some (it.Binds u)) same
binding_mentioned _ v is = absurd (cc)

-- a pattern mentions the binding that it binds
pub binds_mentions : (b : RawBody) (p : PatId) (v : BindingId) → Binds b p v → Mentions b (inner (node.PatId p)) (it.Binds v)
binds_mentions b p v binds = option_and_then_some binding_of (slice_get b.pats p.0) v binds (λ x found is.
    (0, subst (λ (o : Option RawPat). slice_get (mentions_of_pat o) 0 ≡ Some (it.Binds v)) (sym found) (binding_mentioned x v is)))

module _ (raw : RawFacts) (i : ℕ) (b : RawBody) (ids : BodyIdsExist raw i b) where
  pub local_exists : (e : ExprId) (v : BindingId) → slice_get b.exprs e.0 ≡ Some (expr.Path (path.Local v)) → v.0 < length b.bindings
  local_exists e v at = ids.named (inner (node.ExprId e)) (it.Local v) (0, ap (λ (o : Option RawExpr). slice_get (mentions_of_expr o) 0) at)

  pub function_exists : (e : ExprId) (f : FunctionId) → slice_get b.exprs e.0 ≡ Some (expr.Path (path.Function f)) → IsModuleFn raw f
  function_exists e f at = ids.named (inner (node.ExprId e)) (it.Function f)
      (0, ap (λ (o : Option RawExpr). slice_get (mentions_of_expr o) 0) at)

  pub constructor_exists : (e : ExprId) (v : VariantId) → slice_get b.exprs e.0 ≡ Some (expr.Path (path.Ctor v)) → v.0 < length raw.variants
  constructor_exists e v at = ids.named (inner (node.ExprId e)) (it.Variant v)
      (0, ap (λ (o : Option RawExpr). slice_get (mentions_of_expr o) 0) at)

  pub constructor_pattern_exists : (p : PatId) (v : VariantId) → slice_get b.pats p.0 ≡ Some (pat.Path (path.Ctor v))
      → v.0 < length raw.variants
  constructor_pattern_exists p v at =
      ids.named (inner (node.PatId p)) (it.Variant v) (0, ap (λ (o : Option RawPat). slice_get (mentions_of_pat o) 0) at)

  pub tuple_struct_exists : (p : PatId) (v : VariantId) (ps : List PatId) → slice_get b.pats p.0 ≡ Some (pat.TupleStruct v ps)
      → v.0 < length raw.variants
  tuple_struct_exists p v ps at =
      ids.named (inner (node.PatId p)) (it.Variant v) (0, ap (λ (o : Option RawPat). slice_get (mentions_of_pat o) 0) at)

  pub binder_exists : (p : PatId) (v : BindingId) → Binds b p v → v.0 < length b.bindings
  binder_exists p v binds = ids.named (inner (node.PatId p)) (it.Binds v) (binds_mentions b p v binds)

  pub written_exists : (e : ExprId) (k : ℕ) (p : PatId) (t : TypeRefId) (init other : Option ExprId)
      → stmt_at b e k ≡ Some (stmt.Let p (Some t) init other) → t.0 < length raw.types
  written_exists e k p t init other at = ids.named (inner (node.ExprId e)) (it.Type t) (let_mentions b e k p t init other at)
