-- Typed tables without complaint, of types that are known, whose goals hold, are derivations.
use Rattle.std.specs.Prelude.{◌≡◌, ◌⊎◌, ◌<◌, length, List, [], ◌∷◌, slice_get, Option, Some, None}
use Rattle.std.proofs.Common.{inl, inr, subst}
use Rattle.infer_result.specs.Words.{ExprId, DefWithBodyId, RawStmt, RawArm, RawExpr, RawFacts, let_aliases, return_type}
use Rattle.infer_result.specs.Words.hir_raw.declared.raw.RawStmt.TheVariants as stmt
use Rattle.infer_result.specs.Words.hir_raw.declared.raw.RawExpr.TheVariants as expr
use Rattle.infer_result.specs.Own.{InferenceResult, HasMismatch, AnyMismatch, WasSeen, MaybeMismatch, AllTypes, IsKnown, StmtHasMismatch, StmtsHaveMismatch, GuardsHaveMismatch, arm_exprs, ExcusedAs, Given, ObeysExpression, branches_of, aliases_of, IsTyped, IsTableOf, given, given_by, HasNoComplaint, IsDerivation, NeedsHold}
use Rattle.infer_result.specs.Columns as column

module _ (g : Given) (t : InferenceResult) (h : IsTyped g t) (known : AllTypes IsKnown t) (clean : HasNoComplaint t) where
  no_mismatch : (e : ExprId) → HasMismatch t e → ⊥
  no_mismatch e (x, at) = clean.complaints column.expr_mismatches tt e.0 x at

  none_of : (es : List ExprId) → AnyMismatch t es → ⊥
  none_of [] m = m
  none_of (e ∷ es) (inl m) = no_mismatch e m
  none_of (e ∷ es) (inr m) = none_of es m

  no_maybe : (o : Option ExprId) → MaybeMismatch t o → ⊥
  no_maybe None m = m
  no_maybe (Some e) m = no_mismatch e m

  no_stmt : (s : RawStmt) → StmtHasMismatch t s → ⊥
  no_stmt (stmt.Let p w init other) m = no_maybe init m
  no_stmt (stmt.Expr e semicolon) m = no_mismatch e m

  no_stmts : (ss : List RawStmt) → StmtsHaveMismatch t ss → ⊥
  no_stmts [] m = m
  no_stmts (s ∷ ss) (inl m) = no_stmt s m
  no_stmts (s ∷ ss) (inr m) = no_stmts ss m

  no_guards : (arms : List RawArm) → GuardsHaveMismatch t arms → ⊥
  no_guards [] m = m
  no_guards (a ∷ arms) (inl m) = no_maybe a.guard m
  no_guards (a ∷ arms) (inr m) = no_guards arms m

  -- a look-up that failed would be said
  not_seen : (e : ExprId) → WasSeen t e → ⊥
  not_seen e w =
      let x = h.complaints.seen w.position w.entry w.found in
      clean.complaints column.expr_diagnostics tt x.call.0 _ (h.complaints.said w.position w.entry w.found x.call x.called x.args x.type x.is_node x.is_call x.has (known.each column.type_of_expr x.called.0 x.type x.has))

  not_excused : (n : ExprId) (o : Option RawExpr) → ExcusedAs t n o → ⊥
  not_excused n (Some (expr.Block label stmts last)) (inl m) = no_mismatch n m
  not_excused n (Some (expr.Block label stmts last)) (inr (inl m)) = no_stmts stmts m
  not_excused n (Some (expr.Block label stmts last)) (inr (inr m)) = no_maybe last m
  not_excused n (Some (expr.If c first other)) (inl m) = no_mismatch c m
  not_excused n (Some (expr.If c first other)) (inr m) = none_of (branches_of n first other) m
  not_excused n (Some (expr.Match e arms)) (inl m) = no_guards arms m
  not_excused n (Some (expr.Match e arms)) (inr m) = none_of (arm_exprs arms) m
  not_excused n (Some (expr.Call f args)) (inl (d, at)) = clean.complaints column.expr_diagnostics tt n.0 d at
  not_excused n (Some (expr.Call f args)) (inr w) = not_seen n w
  not_excused n _ m = m

  obeys : {A B : Type 0} → (A → ⊥) → A ⊎ B → B
  obeys never (inl a) = absurd (never a)
  obeys never (inr b) = b

-- where no associated type is written, the body has the types of its definition as they are written
typed_as_written : (raw : RawFacts) (d : DefWithBodyId) (t : InferenceResult) (h : IsTableOf raw d t) → aliases_of raw d ≡ [] → let_aliases raw.types h.body ≡ [] → IsTyped (given raw d h.body) t
typed_as_written raw d t h none no_lets =
    let own = h.own.as_written none in
    subst (λ inputs. IsTyped (given_by raw d h.body inputs (Some (return_type raw d)) []) t) own.0
    (subst (λ output. IsTyped (given_by raw d h.body h.inputs output []) t) own.1
    (subst (λ aliases. IsTyped (given_by raw d h.body h.inputs h.output aliases) t) (h.lets.none no_lets) h.typed))

-- what nodes need may rest on it that they obey their rules
pub derivation_of : (raw : RawFacts) (d : DefWithBodyId) (t : InferenceResult) (h : IsTableOf raw d t) → aliases_of raw d ≡ [] → let_aliases raw.types h.body ≡ [] → AllTypes IsKnown t → HasNoComplaint t
    → (((e : ExprId) → e.0 < length h.body.exprs → ObeysExpression (given raw d h.body) t e) → NeedsHold d (given raw d h.body) t) → IsDerivation raw d t
derivation_of raw d t h none no_lets known clean goals =
    let typed : IsTyped (given raw d h.body) t = typed_as_written raw d t h none no_lets in
    let exprs : (e : ExprId) → e.0 < length h.body.exprs → ObeysExpression (given raw d h.body) t e =
    λ e within. obeys _ t typed known clean (not_excused _ t typed known clean e (slice_get h.body.exprs e.0)) (typed.exprs e within) in
    record {
      body = h.body;
      is_body = h.is_body;
      shape = typed.shape;
      total = typed.total;
      known = known;
      fit = h.fit;
      clean = clean;
      exprs = exprs;
      pats = typed.pats;
      root = obeys _ t typed known clean (no_mismatch _ t typed known clean h.body.root) typed.body_rule;
      goals = goals exprs;
    }
