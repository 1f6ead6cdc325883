-- The rules of expressions hold of a table under an assignment where they hold of the table.
use Rattle.std.proofs.Common.{ℕ, ◌≡◌, inl, inr, refl, sym, ap, subst, ◌∙◌, true, false, List, [], ◌∷◌, map, length, Option, Some, None, slice_get}
use Rattle.std.proofs.lemmas.List.{length-map}
use Rattle.hir_types.specs.declared.ids.CallableDefId.TheVariants as callable
use Rattle.infer_result.specs.Words.{ExprId, PatId, TypeRefId, VariantId, Ty, Same, replaced_bool, replaced_char, instance_at_types, Assignment, with_holes, folded, unit, RawArm, RawExpr, RawLiteral, RawPat, RawPath, RawStmt, IsLawful, Signature, at_args}
use Rattle.hir_types.specs.declared.ty.Ty.TheVariants as ty
use Rattle.infer_result.specs.Words.hir_raw.declared.raw.RawExpr.TheVariants as expr
use Rattle.infer_result.specs.Words.hir_raw.declared.raw.RawLiteral.TheVariants as literal
use Rattle.infer_result.specs.Words.hir_raw.declared.raw.RawPat.TheVariants as pat
use Rattle.infer_result.specs.Words.hir_raw.declared.raw.RawPath.TheVariants as path
use Rattle.infer_result.specs.Words.hir_raw.declared.raw.RawStmt.TheVariants as stmt
use Rattle.infer_result.specs.Own.{InferenceResult, At, MismatchAt, mismatch, Given, IsAt, IsAtOrMismatch, MisfitsAs, PatIsAtOrMismatch, IsCtorPath, IsCallee, ArgsRule, CallRule, IsLiteralType, PathRule, Placing, at_or_mismatch, at_types, AllAt, LetRule, StmtRule, StmtsRule, TailRule, branches_of, ElseRule, arm_exprs, ArmPatterns, GuardRule, ArmsRule, Rule, ObeysOrMismatch, ObeysExpression, mismatch_under, diagnostic_under, table_under}
use Rattle.infer_result.specs.declared.diagnostics.InferenceDiagnostic.TheVariants as diagnostic
use Rattle.infer_result.proofs.Unchanged.{instances_under, signature_unchanged}
use Rattle.infer_result.proofs.Under.{At-under, tuple_under, item_under, unit_under, integer_under, ctor_under, same_under, count_under, ctor_at_under, type_under, pat_type_under, has_mismatch_under, any_mismatch_under, has_pat_mismatch_under, seen_under, recorded_under, declared_under}

-- ---- one part of a node

-- what is asked of parts in the first way at a type is met in the second at that type under the assignment
pub record Carries (a : Assignment) (P Q : Placing) : Type 0 where
  pub at : (e : ExprId) (s : Ty) → P.at e s → Q.at e (folded a s)
  pub element : (e : ExprId) (s : Ty) → P.element e s → Q.element e (folded a s)
  pub alternative : (es : List ExprId) (e : ExprId) (s : Ty) → P.alternative es e s → Q.alternative es e (folded a s)
  pub pattern : (p : PatId) (s : Ty) → P.pattern p s → Q.pattern p (folded a s)
  pub no_tail : (n : ExprId) (s : Ty) → P.no_tail n s → Q.no_tail n (folded a s)
  pub no_else : (es : List ExprId) (s : Ty) → P.no_else es s → Q.no_else es (folded a s)
  pub wrong_count : (n : ExprId) (i j : ℕ) → P.wrong_count n i j → Q.wrong_count n i j
  pub no_callee : (n : ExprId) → P.no_callee n → Q.no_callee n

module _ (g : Given) (a : Assignment) (t : InferenceResult) where
  pub is_at_under : (e : ExprId) (s : Ty) → IsAt t e s → IsAt (table_under a t) e (folded a s)
  is_at_under e s (u, h, k) = (folded a u, type_under a t e u (folded a u) h refl, same_under a u s k)

  pub at_or_mismatch_under : (e : ExprId) (s : Ty) → IsAtOrMismatch t e s → IsAtOrMismatch (table_under a t) e (folded a s)
  at_or_mismatch_under e s (u, h, inl k) = (folded a u, type_under a t e u (folded a u) h refl, inl (same_under a u s k))
  at_or_mismatch_under e s (u, h, inr k) = (folded a u, type_under a t e u (folded a u) h refl, inr (has_mismatch_under a t e k))

  misfits_under : (p : PatId) (o : Option RawPat) → MisfitsAs t p o → MisfitsAs (table_under a t) p o
  misfits_under p (Some (pat.Tuple ps)) h = has_pat_mismatch_under a t p h
  misfits_under p (Some (pat.TupleStruct named ps)) h = has_pat_mismatch_under a t p h
  misfits_under p (Some (pat.Path named)) h = has_pat_mismatch_under a t p h
  misfits_under p (Some (pat.Lit e)) h = has_mismatch_under a t e h
  misfits_under p _ h = h

  pub pat_at_under : (p : PatId) (s : Ty) → PatIsAtOrMismatch g t p s → PatIsAtOrMismatch g (table_under a t) p (folded a s)
  pat_at_under p s (u, h, inl k) = (folded a u, pat_type_under a t p u (folded a u) h refl, inl (ap (folded a) k))
  pat_at_under p s (u, h, inr k) = (folded a u, pat_type_under a t p u (folded a u) h refl, inr (misfits_under p (slice_get g.body.pats p.0) k))

  -- `()` at a type
  unit_at_under : (s : Ty) → Same unit s → Same unit (folded a s)
  unit_at_under s h = subst (λ u. Same u (folded a s)) (unit_under a) (same_under a unit s h)

  unit_misfit_under : (n : ExprId) (s : Ty) → MismatchAt t n s unit → MismatchAt (table_under a t) n (folded a s) unit
  unit_misfit_under n s h =
      subst (λ u. At (table_under a t).expr_mismatches n.0 (mismatch (folded a s) u)) (unit_under a) (At-under (mismatch_under a) t.expr_mismatches n.0 (mismatch s unit) h)

  pub mismatches_carry : Carries a (at_or_mismatch g t) (at_or_mismatch g (table_under a t))
  mismatches_carry = record {
    at = at_or_mismatch_under;
    element = at_or_mismatch_under;
    alternative = λ es e s h. elim h [ inl k ↦ inl (is_at_under e s k) | inr k ↦ inr (any_mismatch_under a t es k) ];
    pattern = pat_at_under;
    no_tail = λ n s h. elim h [ inl k ↦ inl (unit_at_under s k) | inr k ↦ inr (unit_misfit_under n s k) ];
    no_else = λ es s h. elim h [ inl k ↦ inl (unit_at_under s k) | inr k ↦ inr (any_mismatch_under a t es k) ];
    wrong_count = λ n i j h. At-under (diagnostic_under a) t.expr_diagnostics n.0 (diagnostic.MismatchedArgCount n i j) h;
    no_callee = λ n h. seen_under a t n h;
  }

  pub types_carry : Carries a (at_types g t) (at_types g (table_under a t))
  types_carry = record {
    at = is_at_under;
    element = λ e s h. elim h [ inl k ↦ inl (is_at_under e s k) | inr k ↦ inr (has_mismatch_under a t e k) ];
    alternative = λ es e s h. is_at_under e s h;
    pattern = pat_at_under;
    no_tail = λ n s h. unit_at_under s h;
    no_else = λ es s h. unit_at_under s h;
    wrong_count = λ n i j h. h;
    no_callee = λ n h. h;
  }

-- ---- each kind of expression

module _ (a : Assignment) where
  pub literal_under : (l : RawLiteral) (s : Ty) → IsLiteralType l s → IsLiteralType l (folded a s)
  literal_under (literal.Bool b) s h = ap (folded a) h ∙ replaced_bool (with_holes a)
  literal_under (literal.Char c) s h = ap (folded a) h ∙ replaced_char (with_holes a)
  literal_under (literal.Int digits (Some suffix)) s h = ap (folded a) h ∙ integer_under a suffix
  literal_under (literal.Int digits None) s (i, h) = (i, ap (folded a) h ∙ integer_under a i)

  pub ctor_path_under : (g : Given) (v : VariantId) (s : Ty) → IsCtorPath g v s → IsCtorPath g v (folded a s)
  ctor_path_under g v s h = record {
    variant = h.variant;
    types = map (folded a) h.types;
    is_ctor = ctor_at_under a g v h.variant h.types h.is_ctor;
    is = ap (folded a) h.is ∙ ctor_under a h.variant v h.types;
  }

module _ (g : Given) (law : IsLawful g.scope.facts) (a : Assignment) (t : InferenceResult) where
  abbrev after : InferenceResult
  after = table_under a t

  path_under : (n : ExprId) (p : RawPath) → PathRule g t n p → PathRule g (table_under a t) n p
  path_under n (path.Local v) (s, h, k) = (folded a s, type_under a t n s (folded a s) h refl, At-under (folded a) t.type_of_binding v.0 s k)
  path_under n (path.Function f) (ts, h, k) = (map (folded a) ts, type_under a t n _ _ h (item_under a (callable.FunctionId f) ts), count_under a _ ts k)
  path_under n (path.Ctor v) (s, h, k, r) = (folded a s, type_under a t n s (folded a s) h refl, ctor_path_under a g v s k, r)

  callee_under : (f : ExprId) (σ : Signature) (ts : List Ty) → IsCallee g t f σ ts → IsCallee g (table_under a t) f σ (map (folded a) ts)
  callee_under f σ ts h = record { item = h.item; has = type_under a t f _ _ h.has (item_under a h.item ts); signature = h.signature }

  module _ (P Q : Placing) (carry : Carries a P Q) where
    at_as : (e : ExprId) (s u : Ty) → P.at e s → folded a s ≡ u → Q.at e u
    at_as e s u h is = subst (λ v. Q.at e v) is (carry.at e s h)

    pattern_as : (p : PatId) (s u : Ty) → P.pattern p s → folded a s ≡ u → Q.pattern p u
    pattern_as p s u h is = subst (λ v. Q.pattern p v) is (carry.pattern p s h)

    all_under : (es : List ExprId) (ss : List Ty) → AllAt P.element es ss → AllAt Q.element es (map (folded a) ss)
    all_under [] [] h = tt
    all_under [] (s ∷ ss) h = absurd h
    all_under (e ∷ es) [] h = absurd h
    all_under (e ∷ es) (s ∷ ss) h = (carry.element e s h.0, all_under es ss h.1)

    let_under : (p : PatId) (w : Option TypeRefId) (init : Option ExprId) → LetRule P g t p w init → LetRule Q g (table_under a t) p w init
    let_under p (Some w) (Some e) (r, h, k) = (recorded_under a t g w r, at_as e _ _ h (declared_under a t g w r), pattern_as p _ _ k (declared_under a t g w r))
    let_under p (Some w) None (r, k) = (recorded_under a t g w r, pattern_as p _ _ k (declared_under a t g w r))
    let_under p None (Some e) (s, h, k) = (folded a s, type_under a t e s (folded a s) h refl, carry.pattern p s k)
    let_under p None None h = tt

    stmt_under : (x : RawStmt) → StmtRule P g t x → StmtRule Q g (table_under a t) x
    stmt_under (stmt.Let p w init other) h = let_under p w init h
    stmt_under (stmt.Expr e true) h = tt
    stmt_under (stmt.Expr e false) h = at_as e unit unit h (unit_under a)

    stmts_under : (xs : List RawStmt) → StmtsRule P g t xs → StmtsRule Q g (table_under a t) xs
    stmts_under [] h = tt
    stmts_under (x ∷ xs) h = (stmt_under x h.0, stmts_under xs h.1)

    tail_under : (n : ExprId) (o : Option ExprId) (s : Ty) → TailRule P n o s → TailRule Q n o (folded a s)
    tail_under n None s h = carry.no_tail n s h
    tail_under n (Some e) s h = carry.at e s h

    else_under : (n first : ExprId) (o : Option ExprId) (s : Ty) → ElseRule P n first o s → ElseRule Q n first o (folded a s)
    else_under n first (Some e) s h = carry.alternative (branches_of n first (Some e)) e s h
    else_under n first None s h = carry.no_else (branches_of n first None) s h

    arm_patterns_under : (arms : List RawArm) (s : Ty) → ArmPatterns P arms s → ArmPatterns Q arms (folded a s)
    arm_patterns_under [] s h = tt
    arm_patterns_under (x ∷ arms) s h = (carry.pattern x.pat s h.0, arm_patterns_under arms s h.1)

    guard_under : (o : Option ExprId) → GuardRule P o → GuardRule Q o
    guard_under None h = tt
    guard_under (Some e) h = at_as e ty.Bool ty.Bool h (replaced_bool (with_holes a))

    arms_under : (es : List ExprId) (arms : List RawArm) (s : Ty) → ArmsRule P es arms s → ArmsRule Q es arms (folded a s)
    arms_under es [] s h = tt
    arms_under es (x ∷ arms) s h = ((guard_under x.guard h.0.0, carry.alternative es x.expr s h.0.1), arms_under es arms s h.1)

    args_under : (n : ExprId) (args : List ExprId) (ss : List Ty) → ArgsRule P n args ss → ArgsRule Q n args (map (folded a) ss)
    args_under n args ss (inl h) = inl (all_under args ss h)
    args_under n args ss (inr h) = inr (subst (λ i. Q.wrong_count n i (length args)) (sym (length-map ss (folded a))) (carry.wrong_count n (length ss) (length args) h))

    call_under : (n f : ExprId) (args : List ExprId) → CallRule P g t n f args → CallRule Q g (table_under a t) n f args
    call_under n f args (inl h) =
        let σ = h.signature in
        let own = signature_unchanged g.scope.facts law h.is_callee.item h.signature h.is_callee.signature in
        inl (record {
          signature = σ;
          types = map (folded a) h.types;
          is_callee = callee_under f σ h.types h.is_callee;
          arguments = subst (λ ss. ArgsRule Q n args ss) (instances_under a h.types σ.inputs own.inputs) (args_under n args (map (at_args h.types) σ.inputs) h.arguments);
          has = type_under a t n _ _ h.has (instance_at_types a h.types σ.output own.output);
        })
    call_under n f args (inr (h, (s, l))) = inr (carry.no_callee n h, (folded a s, type_under a t n s (folded a s) l refl))

    pub rule_under : (n : ExprId) (o : Option RawExpr) → Rule P g t n o → Rule Q g (table_under a t) n o
    rule_under n None h = h
    rule_under n (Some (expr.Lit l)) (s, h, k) = (folded a s, type_under a t n s (folded a s) h refl, literal_under a l s k)
    rule_under n (Some (expr.Path p)) h = path_under n p h
    rule_under n (Some (expr.Tuple es)) (ss, h, k) = (map (folded a) ss, type_under a t n _ _ h (tuple_under a ss), all_under es ss k)
    rule_under n (Some (expr.Block label stmts last)) h = record {
      statements = stmts_under stmts h.statements;
      type = folded a h.type;
      has = type_under a t n h.type (folded a h.type) h.has refl;
      ends = tail_under n last h.type h.ends;
    }
    rule_under n (Some (expr.If c first other)) h = record {
      condition = at_as c ty.Bool ty.Bool h.condition (replaced_bool (with_holes a));
      type = folded a h.type;
      has = type_under a t n h.type (folded a h.type) h.has refl;
      branch = carry.alternative (branches_of n first other) first h.type h.branch;
      otherwise = else_under n first other h.type h.otherwise;
    }
    rule_under n (Some (expr.Match e arms)) h = record {
      scrutinee = folded a h.scrutinee;
      comes = type_under a t e h.scrutinee (folded a h.scrutinee) h.comes refl;
      patterns = arm_patterns_under arms h.scrutinee h.patterns;
      type = folded a h.type;
      has = type_under a t n h.type (folded a h.type) h.has refl;
      alternatives = arms_under (arm_exprs arms) arms h.type h.alternatives;
    }
    rule_under n (Some (expr.Call f args)) h = call_under n f args h
    rule_under n (Some (expr.Later later)) h = h

  pub expression_under : (n : ExprId) → ObeysExpression g t n → ObeysExpression g (table_under a t) n
  expression_under n h = rule_under (at_types g t) (at_types g after) (types_carry g a t) n (slice_get g.body.exprs n.0) h

  pub clauses_under : (n : ExprId) → ObeysOrMismatch g t n → ObeysOrMismatch g (table_under a t) n
  clauses_under n h = rule_under (at_or_mismatch g t) (at_or_mismatch g after) (mismatches_carry g a t) n (slice_get g.body.exprs n.0) h
