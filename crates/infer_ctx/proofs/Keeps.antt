-- What is judged stays so, as more is recorded: one lemma for each judgement.
use Rattle.std.proofs.Common.{inl, inr, ℕ, ◌≡◌, ap, unwrap_or, option_and_then, ◌∙◌, sym, subst, ◌⊎◌, List, [], ◌∷◌, ◌++◌, map, length, true, false, Option, Some, None, slice_get}
use Rattle.infer_ctx.specs.Words.{Ty, ExprId, PatId, TypeRefId, VariantId, unit, Assignment, folded, RawArm, RawStmt, RawExpr, RawPat, RawVariant, Signature, at_args, filled_agree, Role, initializer, let_pattern, tail, element, then_branch, else_branch, arm_pattern, arm, argument, subpattern, Node, the_body, inner, InferenceResult, Column, Entries, Entry, col, with_columns, IsIn, PlaceholderTy, HasMismatch, AnyMismatch, WasSeen, mismatch, At, HasTy, hole_type, Given, let_types, declared, AreRecorded, IsAt, IsAtOrMismatch, MisfitsAs, PatIsAtOrMismatch, fields_at, IsCallee, IsInputAt, ArgsRule, GivesPart, Incoming, AsksOfAlternative, AsksOf, Asks, Demand, TypeMismatch, Seen, InferenceDiagnostic, at_or_mismatch, AllAt, LetRule, StmtRule, StmtsRule, TailRule, branches_of, ElseRule, arm_exprs, ArmPatterns, GuardRule, ArmsRule, ObeysOrMismatch, PatRule, AllPatsAt, PatsAtFields, IsItemOf, IsPatOf, IsTruePatMismatch, IsTrueSeen, IsTrueDiagnostic, IsMisfit}
use Rattle.hir_types.specs.declared.ty.Ty.TheVariants as ty
use Rattle.hir_types.specs.declared.ids.ExprOrPatId.TheVariants as node
use Rattle.infer_ctx.specs.Words.hir_raw.declared.raw.RawStmt.TheVariants as stmt
use Rattle.infer_ctx.specs.Words.hir_raw.declared.raw.RawExpr.TheVariants as expr
use Rattle.infer_ctx.specs.Words.hir_raw.declared.raw.RawPath.TheVariants as path
use Rattle.infer_ctx.specs.Words.hir_raw.declared.raw.RawPat.TheVariants as pat
use Rattle.infer_result.specs.Incoming.{Gives}
use Rattle.infer_result.specs.Demands.{IsAsked}
use Rattle.infer_result.specs.Rules.{Rule}
use Rattle.infer_result.specs.declared.modes.BindingMode.TheVariants as mode
use Rattle.infer_result.specs.declared.diagnostics.InferenceDiagnostic.TheVariants as diagnostic
use Rattle.infer_ctx.specs.Own.{Extends, StaysIn, IsSeenAs, Found, entered}
use Rattle.infer_ctx.proofs.Words.{each_with, with_column}
use Rattle.infer_result.specs.Columns as column

-- what is recorded stays where nothing is written
pub columns_stay : (r : InferenceResult) (c : Column) (n : ℕ) (x : Entry c) → IsIn r c n x → StaysIn c (col r c) n x
columns_stay r column.expr_diagnostics n x h = tt
columns_stay r c n x h = h

pub extends_refl : (a : InferenceResult) → Extends a a
extends_refl a = record { columns = columns_stay a; diagnostics = λ e d h. inl h; seen = λ e h. h }

columns_twice : (a b d : InferenceResult) → Extends a b → Extends b d → (c : Column) (n : ℕ) (x : Entry c) → IsIn a c n x → StaysIn c (col d c) n x
columns_twice a b d x y column.expr_diagnostics n e h = tt
columns_twice a b d x y c n e h = y.columns c n e (x.columns c n e h)

pub extends_trans : (a b c : InferenceResult) → Extends a b → Extends b c → Extends a c
extends_trans a b c x y = record {
  columns = columns_twice a b c x y;
  diagnostics = λ e d h. elim (x.diagnostics e d h) [ inl k ↦ y.diagnostics e d k | inr k ↦ inr (y.seen e k) ];
  seen = λ e h. y.seen e (x.seen e h);
}

-- so it is with other things beside the columns
pub columns_beside : (r s : InferenceResult) (c : Column) (n : ℕ) (x : Entry c) → IsIn r c n x → StaysIn c (col (with_columns s (col r)) c) n x
columns_beside r s column.expr_diagnostics n x h = tt
columns_beside r s c n x h = h

-- and where one column is written
pub columns_written : (r : InferenceResult) (c : Column) (xs : Entries c) → ((n : ℕ) (x : Entry c) → IsIn r c n x → StaysIn c xs n x) → (k : Column) (n : ℕ) (x : Entry k) → IsIn r k n x → StaysIn k (col (with_column r c xs) k) n x
columns_written r c xs h = each_with (λ k ys. (n : ℕ) (x : Entry k) → IsIn r k n x → StaysIn k ys n x) r c xs h (columns_stay r)

-- what is recorded for a `_`
pub hole_at : (r : InferenceResult) (k : ℕ) (t : Ty) → PlaceholderTy r k t → hole_type r k ≡ t
hole_at r k t h = ap (λ o. unwrap_or (option_and_then (λ y. y) o) ty.Error) h

module _ (g : Given) (a b : InferenceResult) (x : Extends a b) where
  pub mismatch_kept : (e : ExprId) → HasMismatch a e → HasMismatch b e
  mismatch_kept e (m, h) = (m, x.columns column.expr_mismatches e.0 m h)

  pub any_kept : (es : List ExprId) → AnyMismatch a es → AnyMismatch b es
  any_kept [] h = h
  any_kept (e ∷ es) (inl h) = inl (mismatch_kept e h)
  any_kept (e ∷ es) (inr h) = inr (any_kept es h)

  pub is_at_kept : (e : ExprId) (t : Ty) → IsAt a e t → IsAt b e t
  is_at_kept e t (u, h, k) = (u, x.columns column.type_of_expr e.0 u h, k)

  pub at_kept : (e : ExprId) (t : Ty) → IsAtOrMismatch a e t → IsAtOrMismatch b e t
  at_kept e t (u, h, inl k) = (u, x.columns column.type_of_expr e.0 u h, inl k)
  at_kept e t (u, h, inr k) = (u, x.columns column.type_of_expr e.0 u h, inr (mismatch_kept e k))

  misfits_as_kept : (p : PatId) (o : Option RawPat) → MisfitsAs a p o → MisfitsAs b p o
  misfits_as_kept p (Some (pat.Tuple ps)) (m, h) = (m, x.columns column.pat_mismatches p.0 m h)
  misfits_as_kept p (Some (pat.TupleStruct named ps)) (m, h) = (m, x.columns column.pat_mismatches p.0 m h)
  misfits_as_kept p (Some (pat.Path named)) (m, h) = (m, x.columns column.pat_mismatches p.0 m h)
  misfits_as_kept p (Some (pat.Lit e)) h = mismatch_kept e h
  misfits_as_kept p _ h = h

  pub pat_at_kept : (p : PatId) (t : Ty) → PatIsAtOrMismatch g a p t → PatIsAtOrMismatch g b p t
  pat_at_kept p t (u, h, inl k) = (u, x.columns column.type_of_pat p.0 u h, inl k)
  pat_at_kept p t (u, h, inr k) = (u, x.columns column.type_of_pat p.0 u h, inr (misfits_as_kept p (slice_get g.body.pats p.0) k))

  pub all_kept : (es : List ExprId) (ts : List Ty) → AllAt (IsAtOrMismatch a) es ts → AllAt (IsAtOrMismatch b) es ts
  all_kept [] [] h = tt
  all_kept [] (t ∷ ts) h = absurd h
  all_kept (e ∷ es) [] h = absurd h
  all_kept (e ∷ es) (t ∷ ts) h = (at_kept e t h.0, all_kept es ts h.1)

  -- what each `_` of a written type stands for
  pub recorded_kept : (w : TypeRefId) → AreRecorded g a w → AreRecorded g b w
  recorded_kept w h k stands = let q = h k stands in (q.0, x.columns column.type_of_placeholder k q.0 q.1)

  -- and so what the type stands for
  pub declared_kept : (w : TypeRefId) → AreRecorded g a w → declared g a w ≡ declared g b w
  declared_kept w h = filled_agree (hole_type a) (hole_type b) (let_types g) w (λ k stands.
      (let q = h k stands in hole_at a k q.0 q.1 ∙ sym (hole_at b k q.0 (x.columns column.type_of_placeholder k q.0 q.1))))

  let_kept : (p : PatId) (w : Option TypeRefId) (i : Option ExprId) → LetRule (at_or_mismatch g a) g a p w i → LetRule (at_or_mismatch g b) g b p w i
  let_kept p (Some w) (Some e) (r, h, k) = (
    recorded_kept w r,
    subst (λ t. IsAtOrMismatch b e t) (declared_kept w r) (at_kept e (declared g a w) h),
    subst (λ t. PatIsAtOrMismatch g b p t) (declared_kept w r) (pat_at_kept p (declared g a w) k),
  )
  let_kept p (Some w) None (r, k) = (recorded_kept w r, subst (λ t. PatIsAtOrMismatch g b p t) (declared_kept w r) (pat_at_kept p (declared g a w) k))
  let_kept p None (Some e) (t, h, k) = (t, x.columns column.type_of_expr e.0 t h, pat_at_kept p t k)
  let_kept p None None h = tt

  pub stmt_kept : (y : RawStmt) → StmtRule (at_or_mismatch g a) g a y → StmtRule (at_or_mismatch g b) g b y
  stmt_kept (stmt.Let p w i other) h = let_kept p w i h
  stmt_kept (stmt.Expr e true) h = tt
  stmt_kept (stmt.Expr e false) h = at_kept e unit h

  pub stmts_kept : (ys : List RawStmt) → StmtsRule (at_or_mismatch g a) g a ys → StmtsRule (at_or_mismatch g b) g b ys
  stmts_kept [] h = tt
  stmts_kept (y ∷ ys) h = (stmt_kept y h.0, stmts_kept ys h.1)

  pub tail_kept : (n : ExprId) (o : Option ExprId) (t : Ty) → TailRule (at_or_mismatch g a) n o t → TailRule (at_or_mismatch g b) n o t
  tail_kept n None t (inl k) = inl k
  tail_kept n None t (inr k) = inr (x.columns column.expr_mismatches n.0 (mismatch t unit) k)
  tail_kept n (Some e) t h = at_kept e t h

  -- what holds of an alternative, and of `()` at the end of a node
  pub alternative_kept : (es : List ExprId) (e : ExprId) (t : Ty) → IsAt a e t ⊎ AnyMismatch a es → IsAt b e t ⊎ AnyMismatch b es
  alternative_kept es e t (inl h) = inl (is_at_kept e t h)
  alternative_kept es e t (inr h) = inr (any_kept es h)

  else_kept : (n first : ExprId) (o : Option ExprId) (t : Ty) → ElseRule (at_or_mismatch g a) n first o t → ElseRule (at_or_mismatch g b) n first o t
  else_kept n first (Some e) t h = alternative_kept (first ∷ e ∷ []) e t h
  else_kept n first None t (inl k) = inl k
  else_kept n first None t (inr k) = inr (any_kept (n ∷ first ∷ []) k)

  pub arm_patterns_kept : (arms : List RawArm) (t : Ty) → ArmPatterns (at_or_mismatch g a) arms t → ArmPatterns (at_or_mismatch g b) arms t
  arm_patterns_kept [] t h = tt
  arm_patterns_kept (y ∷ arms) t h = (pat_at_kept y.pat t h.0, arm_patterns_kept arms t h.1)

  pub guard_kept : (o : Option ExprId) → GuardRule (at_or_mismatch g a) o → GuardRule (at_or_mismatch g b) o
  guard_kept None h = tt
  guard_kept (Some e) h = at_kept e ty.Bool h

  pub arms_kept : (es : List ExprId) (arms : List RawArm) (t : Ty) → ArmsRule (at_or_mismatch g a) es arms t → ArmsRule (at_or_mismatch g b) es arms t
  arms_kept es [] t h = tt
  arms_kept es (y ∷ arms) t h = ((guard_kept y.guard h.0.0, alternative_kept es y.expr t h.0.1), arms_kept es arms t h.1)

  pub callee_kept : (f : ExprId) (σ : Signature) (ts : List Ty) → IsCallee g a f σ ts → IsCallee g b f σ ts
  callee_kept f σ ts h = record { item = h.item; has = x.columns column.type_of_expr f.0 _ h.has; signature = h.signature }

  pub args_kept : (n : ExprId) (args : List ExprId) (ts : List Ty) → ArgsRule (at_or_mismatch g a) n args ts → ArgsRule (at_or_mismatch g b) n args ts ⊎ WasSeen b n
  args_kept n args ts (inl h) = inl (inl (all_kept args ts h))
  args_kept n args ts (inr h) = elim (x.diagnostics n _ h) [ inl k ↦ inl (inr k) | inr k ↦ inr k ]

  input_kept : (n : ExprId) (i : ℕ) (t : Ty) → IsInputAt g a n i t → IsInputAt g b n i t
  input_kept n i t h = record {
    called = h.called;
    args = h.args;
    is_call = h.is_call;
    signature = h.signature;
    types = h.types;
    is_callee = callee_kept h.called h.signature h.types h.is_callee;
    input = h.input;
  }

  rule_kept : (n : ExprId) (o : Option RawExpr) → Rule (at_or_mismatch g a) g a n o → Rule (at_or_mismatch g b) g b n o
  rule_kept n None h = h
  rule_kept n (Some (expr.Lit l)) (t, h, k) = (t, x.columns column.type_of_expr n.0 t h, k)
  rule_kept n (Some (expr.Path (path.Local v))) (t, h, k) = (t, x.columns column.type_of_expr n.0 t h, x.columns column.type_of_binding v.0 t k)
  rule_kept n (Some (expr.Path (path.Function f))) (ts, h, k) = (ts, x.columns column.type_of_expr n.0 _ h, k)
  rule_kept n (Some (expr.Path (path.Ctor v))) (t, h, k, r) = (t, x.columns column.type_of_expr n.0 t h, k, x.columns column.expr_variants n.0 v r)
  rule_kept n (Some (expr.Tuple es)) (ts, h, k) = (ts, x.columns column.type_of_expr n.0 _ h, all_kept es ts k)
  rule_kept n (Some (expr.Block label stmts last)) h = record {
    statements = stmts_kept stmts h.statements;
    type = h.type;
    has = x.columns column.type_of_expr n.0 h.type h.has;
    ends = tail_kept n last h.type h.ends;
  }
  rule_kept n (Some (expr.If c first other)) h = record {
    condition = at_kept c ty.Bool h.condition;
    type = h.type;
    has = x.columns column.type_of_expr n.0 h.type h.has;
    branch = alternative_kept (branches_of n first other) first h.type h.branch;
    otherwise = else_kept n first other h.type h.otherwise;
  }
  rule_kept n (Some (expr.Match e arms)) h = record {
    scrutinee = h.scrutinee;
    comes = x.columns column.type_of_expr e.0 h.scrutinee h.comes;
    patterns = arm_patterns_kept arms h.scrutinee h.patterns;
    type = h.type;
    has = x.columns column.type_of_expr n.0 h.type h.has;
    alternatives = arms_kept (arm_exprs arms) arms h.type h.alternatives;
  }
  rule_kept n (Some (expr.Call f args)) (inl h) =
      let σ = h.signature in
      let ts = h.types in
      let has : HasTy b n (at_args ts σ.output) = x.columns column.type_of_expr n.0 _ h.has in
      elim (args_kept n args (map (at_args ts) σ.inputs) h.arguments) [
        | inl q ↦ inl (record { signature = σ; types = ts; is_callee = callee_kept f σ ts h.is_callee; arguments = q; has = has })
        | inr q ↦ inr (q, (at_args ts σ.output, has))
      ]
  rule_kept n (Some (expr.Call f args)) (inr (q, (t, l))) = inr (x.seen n q, (t, x.columns column.type_of_expr n.0 t l))
  rule_kept n (Some (expr.Later later)) h = h

  pub obeys_kept : (n : ExprId) → ObeysOrMismatch g a n → ObeysOrMismatch g b n
  obeys_kept n h = rule_kept n (slice_get g.body.exprs n.0) h

  pub all_pats_kept : (ps : List PatId) (ts : List Ty) → AllPatsAt g a ps ts → AllPatsAt g b ps ts
  all_pats_kept [] [] h = tt
  all_pats_kept [] (t ∷ ts) h = absurd h
  all_pats_kept (p ∷ ps) [] h = absurd h
  all_pats_kept (p ∷ ps) (t ∷ ts) h = (pat_at_kept p t h.0, all_pats_kept ps ts h.1)

  pub fields_kept : (ps : List PatId) (ts : List Ty) → PatsAtFields g a ps ts → PatsAtFields g b ps ts
  fields_kept [] ts h = tt
  fields_kept (p ∷ ps) [] h = tt
  fields_kept (p ∷ ps) (t ∷ ts) h = (pat_at_kept p t h.0, fields_kept ps ts h.1)

  item_kept : (p : PatId) (v : VariantId) (ts hs : List Ty) → IsItemOf a p v ts hs → IsItemOf b p v ts hs
  item_kept p v ts [] h = tt
  item_kept p v ts (u ∷ hs) h = x.columns column.item_of_pat p.0 _ h

  -- what a pattern is of
  pub pat_of_kept : (p : PatId) (v : VariantId) (y : RawVariant) (ts hs : List Ty) → IsPatOf g a p v y ts hs → IsPatOf g b p v y ts hs
  pat_of_kept p v y ts hs h = record { is_variant = h.is_variant; is_ctor = h.is_ctor; has = x.columns column.type_of_pat p.0 _ h.has; item = item_kept p v ts hs h.item }

  pub pat_kept : (p : PatId) (o : Option RawPat) → PatRule g a p o → PatRule g b p o
  pat_kept p None h = h
  pat_kept p (Some pat.Wild) (t, h) = (t, x.columns column.type_of_pat p.0 t h)
  pat_kept p (Some (pat.Bind v sub)) (t, h, k, m) = (t, x.columns column.type_of_pat p.0 t h, x.columns column.type_of_binding v.0 t k, x.columns column.binding_modes p.0 mode.Move m)
  pat_kept p (Some (pat.Tuple ps)) (ts, h, k) = (ts, x.columns column.type_of_pat p.0 _ h, all_pats_kept ps ts k)
  pat_kept p (Some (pat.TupleStruct v ps)) h = record {
    variant = h.variant;
    types = h.types;
    hidden = h.hidden;
    is = pat_of_kept p v h.variant h.types h.hidden h.is;
    parts = fields_kept ps (fields_at g h.variant (length h.types) (h.types ++ h.hidden)) h.parts;
    counted = elim h.counted [ inl k ↦ inl k | inr k ↦ inr (x.columns column.pat_diagnostics p.0 _ k) ];
    resolved = x.columns column.pat_variants p.0 v h.resolved;
  }
  pat_kept p (Some (pat.Path (path.Ctor v))) (t, h, k, r) = (t, x.columns column.type_of_pat p.0 t h, k, x.columns column.pat_variants p.0 v r)
  pat_kept p (Some (pat.Path (path.Local v))) h = h
  pat_kept p (Some (pat.Path (path.Function f))) h = h
  pat_kept p (Some (pat.Lit e)) (t, h, k) = (t, x.columns column.type_of_pat p.0 t h, x.columns column.type_of_expr e.0 t k)
  pat_kept p (Some (pat.Later later)) h = h

  pub diagnostic_kept : (e : ExprId) (d : InferenceDiagnostic) → IsTrueDiagnostic g a e d → IsTrueDiagnostic g b e d
  diagnostic_kept e (diagnostic.MismatchedTupleStructPatArgCount n expected found) h = h
  diagnostic_kept e (diagnostic.MismatchedArgCount n expected found) (is, h) = (
    is,
    record {
      called = h.called;
      args = h.args;
      is_call = h.is_call;
      signature = h.signature;
      types = h.types;
      is_callee = callee_kept h.called h.signature h.types h.is_callee;
      is_expected = h.is_expected;
      is_found = h.is_found;
      differ = h.differ;
    },
  )
  diagnostic_kept e (diagnostic.ExpectedFunction n t) (is, h) = (is, record { called = h.called; args = h.args; is_call = h.is_call; has = x.columns column.type_of_expr h.called.0 t h.has; seen = x.seen e h.seen; known = h.known })

  -- what is kept of a look-up that failed
  pub true_seen_kept : (y : Seen) → IsTrueSeen g a y → IsTrueSeen g b y
  true_seen_kept y h = record {
    call = h.call;
    called = h.called;
    args = h.args;
    is_node = h.is_node;
    is_call = h.is_call;
    alone = h.alone;
    type = h.type;
    has = x.columns column.type_of_expr h.called.0 h.type h.has;
    instance = h.instance;
    not_callable = h.not_callable;
    no_item = h.no_item;
    upward = h.upward;
    head = h.head;
  }

  pub misfit_kept : (e : ExprId) (m : TypeMismatch) → IsMisfit g a e m → IsMisfit g b e m
  misfit_kept e m h = record {
    differ = h.differ;
    actual = elim h.actual [ inl k ↦ inl (x.columns column.type_of_expr e.0 m.actual k) | inr k ↦ inr k ];
  }

  -- ---- what comes in, and what is asked

  gives_part_kept : (n : Node) (i : ℕ) (t : Ty) → GivesPart g a n i t → GivesPart g b n i t
  gives_part_kept the_body i t h = h
  gives_part_kept (inner (node.ExprId n)) i t h = h
  gives_part_kept (inner (node.PatId p)) i t (inl h) = inl (record { types = h.types; has = x.columns column.type_of_pat p.0 _ h.has; component = h.component })
  gives_part_kept (inner (node.PatId p)) i t (inr h) = inr (record {
    named = h.named;
    parts = h.parts;
    is_pat = h.is_pat;
    variant = h.variant;
    types = h.types;
    hidden = h.hidden;
    is = pat_of_kept p h.named h.variant h.types h.hidden h.is;
    field = h.field;
  })

  gives_kept : (n : Node) (role : Role) (t : Ty) → Gives g a n role t → Gives g b n role t
  gives_kept n (let_pattern (Some w) init) t (r, h) = (recorded_kept w r, h ∙ declared_kept w r)
  gives_kept n (let_pattern None (Some e)) t h = x.columns column.type_of_expr e.0 t h
  gives_kept n (arm_pattern e i) t h = x.columns column.type_of_expr e.0 t h
  gives_kept n (subpattern i) t h = gives_part_kept n i t h
  gives_kept n _ t h = h

  pub incoming_kept : (p : PatId) (t : Ty) → Incoming g a p t → Incoming g b p t
  incoming_kept p t h = record {
    parent = h.parent;
    at_part = h.at_part;
    role = h.role;
    stands = h.stands;
    gives = gives_kept h.parent h.role t h.gives;
  }

  pub pat_truth_kept : (p : PatId) (m : TypeMismatch) → IsTruePatMismatch g a p m → IsTruePatMismatch g b p m
  pat_truth_kept p m h = record { says = h.says; differ = h.differ; actual = x.columns column.type_of_pat p.0 m.actual h.actual; incoming = incoming_kept p m.expected h.incoming }

  alternative_asked_kept : (n : ExprId) (role : Role) (t : Ty) → AsksOfAlternative g a n role t → AsksOfAlternative g b n role t
  alternative_asked_kept n role t (inl h) = inl (x.columns column.type_of_expr n.0 t h)
  alternative_asked_kept n role t (inr h) = inr (record {
    other = h.other;
    expr = h.expr;
    at_part = h.at_part;
    stands = h.stands;
    is_before = h.is_before;
    has = x.columns column.type_of_expr h.expr.0 t h.has;
  })

  asks_of_kept : (n : ExprId) (role : Role) (t : Ty) → AsksOf g a n role t → AsksOf g b n role t
  asks_of_kept n (initializer (Some w)) t (r, h) = (recorded_kept w r, h ∙ declared_kept w r)
  asks_of_kept n tail t h = x.columns column.type_of_expr n.0 t h
  asks_of_kept n (element i) t (ts, h, k) = (ts, x.columns column.type_of_expr n.0 _ h, k)
  asks_of_kept n then_branch t h = alternative_asked_kept n then_branch t h
  asks_of_kept n else_branch t h = alternative_asked_kept n else_branch t h
  asks_of_kept n (arm i) t h = alternative_asked_kept n (arm i) t h
  asks_of_kept n (argument i) t h = input_kept n i t h
  asks_of_kept n _ t h = h

  asks_kept : (n : Node) (role : Role) (t : Ty) → Asks g a n role t → Asks g b n role t
  asks_kept the_body role t h = h
  asks_kept (inner (node.ExprId n)) role t h = asks_of_kept n role t h
  asks_kept (inner (node.PatId p)) role t h = (h.0, incoming_kept p t h.1)

  pub asked_kept : (e : ExprId) (t : Ty) → IsAsked g a e t → IsAsked g b e t
  asked_kept e t h = record {
    parent = h.parent;
    at_part = h.at_part;
    role = h.role;
    stands = h.stands;
    asks = asks_kept h.parent h.role t h.asks;
  }

  pub demand_kept : (e : ExprId) (t : Ty) → Demand g a e t → Demand g b e t
  demand_kept e t (inl h) = inl (asked_kept e t h)
  demand_kept e t (inr h) = inr (record { condition = h.condition; branch = h.branch; is_if = h.is_if; has = x.columns column.type_of_expr h.branch.0 t h.has })

-- each look-up that failed is so and is said, where no complaint gives way
pub seen_as_kept : (g : Given) (c d : Found) → Extends c.result d.result → ((e : ExprId) (x : InferenceDiagnostic) → At c.result.expr_diagnostics e.0 x → At d.result.expr_diagnostics e.0 x) → d.holes ≡ c.holes → (y : Seen) → IsSeenAs g c y → IsSeenAs g d y
seen_as_kept g c d x says same y h = record {
  is_true = true_seen_kept g c.result d.result x y h.is_true;
  is_said = λ call called args t here there has known.
      (let was : HasTy c.result called (folded c.holes y.ty) = h.recorded call called args here there in
      let one : folded c.holes y.ty ≡ t = one_type d.result called (folded c.holes y.ty) t (x.columns column.type_of_expr called.0 (folded c.holes y.ty) was) has in
      says call (diagnostic.ExpectedFunction call t) (h.is_said call called args t here there (subst (λ u. HasTy c.result called u) one was) known));
  recorded = λ call called args here there.
      subst (λ (a : Assignment). HasTy d.result called (folded a y.ty)) (sym same) (x.columns column.type_of_expr called.0 (folded c.holes y.ty) (h.recorded call called args here there));
}
  where
    one_type : (r : InferenceResult) (e : ExprId) (t u : Ty) → HasTy r e t → HasTy r e u → t ≡ u
    one_type r e t u h k = (let q : Some (Some t) ≡ Some (Some u) = sym h ∙ k in cc)

-- the clock does not matter
pub seen_as_entered : (g : Given) (c : Found) (y : Seen) → IsSeenAs g c y → IsSeenAs g (entered c) y
seen_as_entered g c y h = record { is_true = h.is_true; is_said = h.is_said; recorded = h.recorded }
