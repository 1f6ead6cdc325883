-- Which node a part comes from.
use Rattle.std.specs.Prelude.{ℕ, zero, suc, ◌+◌, ◌≡◌, ◌⊎◌, Bool, true, false, List, [], ◌∷◌, ◌++◌, slice_get, Option, Some, None, refl}
use Rattle.std.proofs.Common.{inl, inr, ap, subst, arith, ◌∙◌}
use Rattle.infer_result.specs.Words.{ExprId, PatId, TypeRefId, VariantId, ExprOrPatId, RawStmt, RawArm, RawPat, RawExpr, RawBody, Role, parameter, root, initializer, let_pattern, let_else, statement, tail, element, condition, then_branch, else_branch, scrutinee, arm_pattern, guard, arm, callee, argument, subpattern, pattern_literal, Part, expr_part, pat_part, maybe_part, stmt_parts, stmts_parts, exprs_from, arguments, arguments_from, is_closure, is_wanted, only_if, later_nodes, later_parts, later_pat_nodes, arm_patterns, arm_parts, arms_parts, subpatterns, param_parts, Node, the_body, inner, parts_of_expr, parts_of_pat, part_at, stmts_of, stmt_at}
use Rattle.infer_result.specs.Words.hir_raw.Order.{later}
use Rattle.hir_types.specs.declared.ids.ExprOrPatId.TheVariants as node
use Rattle.infer_result.specs.Words.hir_raw.declared.raw.RawStmt.TheVariants as stmt
use Rattle.infer_result.specs.Words.hir_raw.declared.raw.RawPat.TheVariants as pat
use Rattle.infer_result.specs.Words.hir_raw.declared.raw.RawExpr.TheVariants as expr

module _ {X : Type 0} where
  -- an entry of two lists in a row is one of the first or one of the second
  pub append_entry : (xs ys : List X) (k : ℕ) (x : X) → slice_get (xs ++ ys) k ≡ Some x → ((j : ℕ) × (slice_get xs j ≡ Some x)) ⊎ ((j : ℕ) × (slice_get ys j ≡ Some x))
  append_entry [] ys k x e = inr (k, e)
  append_entry (y ∷ xs) ys zero x e = inl (zero, e)
  append_entry (y ∷ xs) ys (suc k) x e = elim (append_entry xs ys k x e) [ inl r ↦ inl (suc r.0, r.1) | inr r ↦ inr r ]

  pub no_entry : (k : ℕ) (x : X) → slice_get [] k ≡ Some x → ⊥
  no_entry k x e = cc

-- ---- where a pattern may come from

-- the statement is a `let` of this pattern, written type and initializer
abbrev pub IsLet : RawStmt → PatId → Option TypeRefId → Option ExprId → Type 0
IsLet s p w init = (other : Option ExprId) × (s ≡ stmt.Let p w init other)

-- a statement of a block of the body is this `let`
pub record LetStands (b : RawBody) (n : ExprId) (p : PatId) (w : Option TypeRefId) (init : Option ExprId) : Type 0 where
  pub at_stmt : ℕ
  pub stmt : RawStmt
  pub stands : stmt_at b n at_stmt ≡ Some stmt
  pub is_let : IsLet stmt p w init

-- an arm of a `match` on e has this pattern
pub record ArmStands (b : RawBody) (n e : ExprId) (p : PatId) : Type 0 where
  pub arms : List RawArm
  pub is_match : slice_get b.exprs n.0 ≡ Some (expr.Match e arms)
  pub at_arm : ℕ
  pub the_arm : RawArm
  pub stands : slice_get arms at_arm ≡ Some the_arm
  pub is_pattern : the_arm.pat ≡ p

-- the pattern is one of these parts: a tuple, or of a constructor
abbrev pub HasParts : RawBody → PatId → List PatId → Type 0
HasParts b q parts = (slice_get b.pats q.0 ≡ Some (pat.Tuple parts)) ⊎ ((named : VariantId) × (slice_get b.pats q.0 ≡ Some (pat.TupleStruct named parts)))

-- the part of the pattern q at this position
pub record PartStands (b : RawBody) (q : PatId) (i : ℕ) (p : PatId) : Type 0 where
  pub parts : List PatId
  pub whole : HasParts b q parts
  pub stands : slice_get parts i ≡ Some p

-- where a part of the node n in this role comes from, as far as it is a pattern
abbrev pub ComesFrom : RawBody → Node → ExprOrPatId → Role → Type 0
ComesFrom b n x (parameter i) = (p : PatId) × (x ≡ node.PatId p) × (slice_get b.params i ≡ Some p)
ComesFrom b n x (let_pattern w init) = (p : PatId) × (x ≡ node.PatId p) × ((m : ExprId) × LetStands b m p w init)
ComesFrom b n x (arm_pattern e i) = (p : PatId) × (x ≡ node.PatId p) × ((m : ExprId) × ArmStands b m e p)
ComesFrom b n x (subpattern i) = (p : PatId) × (x ≡ node.PatId p) × ((q : PatId) × (n ≡ inner (node.PatId q)) × PartStands b q i p)
ComesFrom b n x _ = Unit {0}

-- ---- each of a few parts

abbrev Each : (Part → Type 0) → List Part → Type 0
Each Q ps = (k : ℕ) (q : Part) → slice_get ps k ≡ Some q → Q q

module _ (Q : Part → Type 0) where
  each_nil : Each Q []
  each_nil k q e = absurd (no_entry k q e)

  each_cons : (p : Part) (ps : List Part) → Q p → Each Q ps → Each Q (p ∷ ps)
  each_cons p ps h t zero q e = (let k : p ≡ q = cc in subst Q k h)
  each_cons p ps h t (suc k) q e = t k q e

  each_append : (ps qs : List Part) → Each Q ps → Each Q qs → Each Q (ps ++ qs)
  each_append ps qs h t k q e = elim (append_entry ps qs k q e) [ inl r ↦ h r.0 q r.1 | inr r ↦ t r.0 q r.1 ]

  each_maybe : (r : Role) (o : Option ExprId) → ((e : ExprId) → Q (expr_part r e)) → Each Q (maybe_part r o)
  each_maybe r None h = each_nil
  each_maybe r (Some e) h = each_cons (expr_part r e) [] (h e) each_nil

  each_expr : (role : ℕ → Role) (i : ℕ) (es : List ExprId) → ((j : ℕ) (e : ExprId) → Q (expr_part (role j) e)) → Each Q (exprs_from role i es)
  each_expr role i [] h = each_nil
  each_expr role i (e ∷ es) h = each_cons (expr_part (role i) e) (exprs_from role (suc i) es) (h i e) (each_expr role (suc i) es h)

  each_argument : (b : RawBody) (closures : Bool) → ((j : ℕ) (e : ExprId) → Q (expr_part (argument j) e)) → (i : ℕ) (es : List ExprId) → Each Q (arguments_from b closures i es)
  each_argument b closures h i [] = each_nil
  each_argument b closures h i (e ∷ es) = each_append (only_if wanted (expr_part (argument i) e)) (arguments_from b closures (suc i) es) (one wanted) (each_argument b closures h (suc i) es)
    where
      wanted : Bool
      wanted = is_wanted closures (is_closure b e)

      one : (w : Bool) → Each Q (only_if w (expr_part (argument i) e))
      one true = each_cons (expr_part (argument i) e) [] (h i e) each_nil
      one false = each_nil

  each_later : ((j : ℕ) (x : ExprOrPatId) → Q (record { node = x; role = later j })) → (i : ℕ) (xs : List ExprOrPatId) → Each Q (later_parts i xs)
  each_later h i [] = each_nil
  each_later h i (x ∷ xs) = each_cons (record { node = x; role = later i }) (later_parts (suc i) xs) (h i x) (each_later h (suc i) xs)

from_zero : (i : ℕ) → i ≡ 0 + i
from_zero i = omega arith

module _ (b : RawBody) (n : Node) where
  abbrev From : Part → Type 0
  From p = ComesFrom b n p.node p.role

  module _ (m : ExprId) where
    from_stmt : (i : ℕ) (s : RawStmt) → stmt_at b m i ≡ Some s → Each From (stmt_parts s)
    from_stmt i (stmt.Let p w init other) is =
        each_append From (maybe_part (initializer w) init) (pat_part (let_pattern w init) p ∷ maybe_part let_else other)
        (each_maybe From (initializer w) init (λ e. tt))
        (each_cons From (pat_part (let_pattern w init) p) (maybe_part let_else other)
        (p, refl, (m, record { at_stmt = i; stmt = stmt.Let p w init other; stands = is; is_let = (other, refl) }))
        (each_maybe From let_else other (λ e. tt)))
    from_stmt i (stmt.Expr e semicolon) is = each_cons From (expr_part (statement semicolon) e) [] tt (each_nil From)

    from_stmts : (ss : List RawStmt) (from : ℕ) → ((i : ℕ) (s : RawStmt) → slice_get ss i ≡ Some s → stmt_at b m (from + i) ≡ Some s) → Each From (stmts_parts ss)
    from_stmts [] from at = each_nil From
    from_stmts (s ∷ ss) from at =
        each_append From (stmt_parts s) (stmts_parts ss) (from_stmt (from + 0) s (at 0 s refl))
        (from_stmts ss (suc from) (λ i u e. (let k : from + suc i ≡ suc from + i = omega arith in subst (λ j. stmt_at b m j ≡ Some u) k (at (suc i) u e))))

    module _ (d : ExprId) (arms : List RawArm) (is : slice_get b.exprs m.0 ≡ Some (expr.Match d arms)) where
      from_arm_patterns : (rest : List RawArm) (from : ℕ) → ((i : ℕ) (a : RawArm) → slice_get rest i ≡ Some a → slice_get arms (from + i) ≡ Some a) → Each From (arm_patterns d from rest)
      from_arm_patterns [] from at = each_nil From
      from_arm_patterns (a ∷ rest) from at =
          each_cons From (pat_part (arm_pattern d from) a.pat) (arm_patterns d (suc from) rest)
          (a.pat, refl, (m, record { arms = arms; is_match = is; at_arm = from + 0; the_arm = a; stands = at 0 a refl; is_pattern = refl }))
          (from_arm_patterns rest (suc from) (λ i u e. (let k : from + suc i ≡ suc from + i = omega arith in subst (λ j. slice_get arms j ≡ Some u) k (at (suc i) u e))))

    from_arms : (i : ℕ) (arms : List RawArm) → Each From (arms_parts i arms)
    from_arms i [] = each_nil From
    from_arms i (a ∷ arms) =
        each_append From (arm_parts i a) (arms_parts (suc i) arms)
        (each_append From (maybe_part (guard i) a.guard) (expr_part (arm i) a.expr ∷ []) (each_maybe From (guard i) a.guard (λ e. tt)) (each_cons From (expr_part (arm i) a.expr) [] tt (each_nil From)))
        (from_arms (suc i) arms)

    from_expr : (o : Option RawExpr) → slice_get b.exprs m.0 ≡ o → Each From (parts_of_expr b o)
    from_expr (Some (expr.Tuple es)) is = each_expr From element 0 es (λ j e. tt)
    from_expr (Some (expr.Block label ss last)) is =
        each_append From (stmts_parts ss) (maybe_part tail last)
        (from_stmts ss 0 (λ i s e. subst (λ j. stmt_at b m j ≡ Some s) (from_zero i) (let k : slice_get (stmts_of (slice_get b.exprs m.0)) i ≡ slice_get (stmts_of (Some (expr.Block label ss last))) i = ap (λ o. slice_get (stmts_of o) i) is in k ∙ e)))
        (each_maybe From tail last (λ e. tt))
    from_expr (Some (expr.If c first other)) is =
        each_cons From (expr_part condition c) (expr_part then_branch first ∷ maybe_part else_branch other) tt
        (each_cons From (expr_part then_branch first) (maybe_part else_branch other) tt (each_maybe From else_branch other (λ e. tt)))
    from_expr (Some (expr.Match d arms)) is =
        each_cons From (expr_part scrutinee d) (arm_patterns d 0 arms ++ arms_parts 0 arms) tt
        (each_append From (arm_patterns d 0 arms) (arms_parts 0 arms) (from_arm_patterns d arms is arms 0 (λ i a e. subst (λ j. slice_get arms j ≡ Some a) (from_zero i) e)) (from_arms 0 arms))
    from_expr (Some (expr.Call f args)) is =
        each_cons From (expr_part callee f) (arguments b args) tt
        (each_append From (arguments_from b false 0 args) (arguments_from b true 0 args) (each_argument From b false (λ j e. tt) 0 args) (each_argument From b true (λ j e. tt) 0 args))
    from_expr (Some (expr.Later x)) is = each_later From (λ j y. tt) 0 (later_nodes b x)
    from_expr _ is = each_nil From

  module _ (q : PatId) (here : n ≡ inner (node.PatId q)) where
    from_subpatterns : (ps : List PatId) → HasParts b q ps → (rest : List PatId) (from : ℕ) → ((i : ℕ) (p : PatId) → slice_get rest i ≡ Some p → slice_get ps (from + i) ≡ Some p) → Each From (subpatterns from rest)
    from_subpatterns ps is [] from at = each_nil From
    from_subpatterns ps is (p ∷ rest) from at =
        each_cons From (pat_part (subpattern from) p) (subpatterns (suc from) rest)
        (p, refl, (q, here, record { parts = ps; whole = is; stands = (let k : from + 0 ≡ from = omega arith in subst (λ j. slice_get ps j ≡ Some p) k (at 0 p refl)) }))
        (from_subpatterns ps is rest (suc from) (λ i u e. (let k : from + suc i ≡ suc from + i = omega arith in subst (λ j. slice_get ps j ≡ Some u) k (at (suc i) u e))))

    from_pat : (o : Option RawPat) → slice_get b.pats q.0 ≡ o → Each From (parts_of_pat o)
    from_pat (Some (pat.TupleStruct named ps)) is = from_subpatterns ps (inr (named, is)) ps 0 (λ i p e. subst (λ j. slice_get ps j ≡ Some p) (from_zero i) e)
    from_pat (Some (pat.Tuple ps)) is = from_subpatterns ps (inl is) ps 0 (λ i p e. subst (λ j. slice_get ps j ≡ Some p) (from_zero i) e)
    from_pat (Some (pat.Lit d)) is = each_cons From (expr_part pattern_literal d) [] tt (each_nil From)
    from_pat (Some (pat.Bind v (Some p))) is = each_cons From (pat_part (later 0) p) [] tt (each_nil From)
    from_pat (Some (pat.Bind v None)) is = each_nil From
    from_pat (Some (pat.Later x)) is = each_later From (λ j y. tt) 0 (later_pat_nodes x)
    from_pat _ is = each_nil From

  from_params : (rest : List PatId) (from : ℕ) → ((i : ℕ) (p : PatId) → slice_get rest i ≡ Some p → slice_get b.params (from + i) ≡ Some p) → Each From (param_parts from rest)
  from_params [] from at = each_nil From
  from_params (p ∷ rest) from at =
      each_cons From (pat_part (parameter from) p) (param_parts (suc from) rest)
      (p, refl, (let k : from + 0 ≡ from = omega arith in subst (λ j. slice_get b.params j ≡ Some p) k (at 0 p refl)))
      (from_params rest (suc from) (λ i u e. (let k : from + suc i ≡ suc from + i = omega arith in subst (λ j. slice_get b.params j ≡ Some u) k (at (suc i) u e))))

-- each part of a node comes from where its role says
pub comes_from : (b : RawBody) (n : Node) (k : ℕ) (p : Part) → part_at b n k ≡ Some p → ComesFrom b n p.node p.role
comes_from b the_body k p e =
    each_append (From b the_body) (param_parts 0 b.params) (expr_part root b.root ∷ [])
    (from_params b the_body b.params 0 (λ i q h. subst (λ j. slice_get b.params j ≡ Some q) (from_zero i) h))
    (each_cons (From b the_body) (expr_part root b.root) [] tt (each_nil (From b the_body))) k p e
comes_from b (inner (node.ExprId m)) k p e = from_expr b (inner (node.ExprId m)) m (slice_get b.exprs m.0) refl k p e
comes_from b (inner (node.PatId q)) k p e = from_pat b (inner (node.PatId q)) q refl (slice_get b.pats q.0) refl k p e
