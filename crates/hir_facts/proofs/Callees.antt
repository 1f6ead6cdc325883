-- The callees of a body are its paths to items: of all nodes, or kind by kind of the expressions.
use Rattle.std.proofs.Common.{◌≡◌, ℕ, zero, suc, ◌<◌, Bool, true, false, List, [], ◌∷◌, ◌++◌, Option, length, Some, None, refl, sym, ◌∙◌, ap}
use Rattle.std.specs.Prelude.{◌&&◌, slice_get, IsTrue, not, if◌then◌else◌}
use Rattle.std.specs.List.{list_all}
use Rattle.std.specs.Option.{option_and_then}
use Rattle.std.proofs.lemmas.Option.{slice_get_within}
use Rattle.std.proofs.lemmas.List.Folds.{list_all-append}
use Rattle.hir_facts.specs.Words.{ExprId, PatId, TypeRefId, BodyId, FunctionId, RawStmt, RawArm, RawExpr, RawPat, RawBody, RawFacts, Role, let_else, initializer, tail, element, else_branch, guard, arm, argument, root, Part, expr_part, maybe_part, stmt_parts, stmts_parts, exprs_from, arm_patterns, arm_parts, arms_parts, is_closure, is_wanted, only_if, arguments_from, expr_parts, param_parts, subpatterns, pat_parts, body_parts, Node, the_body, inner, IsNode, part_at, parts_of_expr, parts_of_pat, stmts_of, stmt_at, params_of}
use Rattle.hir_types.specs.declared.ids.DefWithBodyId.TheVariants as def
use Rattle.hir_types.specs.declared.ids.ExprOrPatId.TheVariants as node
use Rattle.hir_raw.specs.declared.raw.RawStmt.TheVariants as stmt
use Rattle.hir_raw.specs.declared.raw.RawExpr.TheVariants as expr
use Rattle.hir_raw.specs.declared.raw.RawPat.TheVariants as pat
use Rattle.hir_raw.specs.declared.later.LaterExpr.TheVariants as later_expr
use Rattle.hir_facts.proofs.CarriedBodies.{list_all_at}
use Rattle.hir_facts.specs.Own.{IsAnyLiteral, LiteralsFit, body_id_of, body_of, FitsThere, lets_fit, IsLawful, literals_fit, is_item, is_item_at, is_callee, stands_right, IsPlainExpr, IsPlainPat, IsPlainBody, is_value, is_maybe_value, stmt_has_values, arm_has_values, has_callees, LetFits, LetsFit, LooksPlain, AllHold}

-- ---- lists of tests

and_true : (a : Bool) → (a && true) ≡ a
and_true true = refl
and_true false = refl

and_both : (a b c d : Bool) → a ≡ c → b ≡ d → (a && b) ≡ (c && d)
and_both a b c d p q = λ i. p i && q i

and_third : (a b c : Bool) → ((a && b) && c) ≡ (a && (b && c))
and_third true b c = refl
and_third false b c = refl

and_swap : (a b c : Bool) → (a && (b && c)) ≡ (b && (a && c))
and_swap true true c = refl
and_swap true false c = refl
and_swap false true c = refl
and_swap false false c = refl

pub all_from : {X : Type 0} (p : X → Bool) (xs : List X) → ((k : ℕ) (x : X) → slice_get xs k ≡ Some x → IsTrue (p x)) → IsTrue (list_all p xs)
all_from p [] h = refl
all_from p (x ∷ xs) h = let here : p x ≡ true = h zero x refl in let rest : list_all p xs ≡ true = all_from p xs (λ k y found. h (suc k) y found) in λ i. here i && rest i

module _ (raw : RawFacts) (b : RawBody) where
  abbrev right : Part → Bool
  right p = stands_right raw b p

  -- ---- the parts of an expression

  one : (role : Role) (e : ExprId) → is_callee role ≡ false → right (expr_part role e) ≡ is_value raw b e
  one role e h = ap (λ (c : Bool). if c then is_item_at raw b e else not (is_item_at raw b e)) h

  maybe_right : (role : Role) (o : Option ExprId) → is_callee role ≡ false → list_all right (maybe_part role o) ≡ is_maybe_value raw b o
  maybe_right role None h = refl
  maybe_right role (Some e) h = and_true (right (expr_part role e)) ∙ one role e h

  exprs_right : (role : ℕ → Role) → ((i : ℕ) → is_callee (role i) ≡ false) → (i : ℕ) (es : List ExprId) → list_all right (exprs_from role i es) ≡ list_all (is_value raw b) es
  exprs_right role h i [] = refl
  exprs_right role h i (e ∷ es) = and_both _ _ _ _ (one (role i) e (h i)) (exprs_right role h (suc i) es)

  stmt_right : (s : RawStmt) → list_all right (stmt_parts s) ≡ stmt_has_values raw b s
  stmt_right (stmt.Let p written init other) =
      list_all-append right (maybe_part (initializer written) init) _ ∙ and_both _ _ _ _ (maybe_right (initializer written) init refl) (maybe_right let_else other refl)
  stmt_right (stmt.Expr e semicolon) = and_true (is_value raw b e)

  stmts_right : (ss : List RawStmt) → list_all right (stmts_parts ss) ≡ list_all (stmt_has_values raw b) ss
  stmts_right [] = refl
  stmts_right (s ∷ ss) = list_all-append right (stmt_parts s) (stmts_parts ss) ∙ and_both _ _ _ _ (stmt_right s) (stmts_right ss)

  arm_patterns_right : (e : ExprId) (i : ℕ) (arms : List RawArm) → list_all right (arm_patterns e i arms) ≡ true
  arm_patterns_right e i [] = refl
  arm_patterns_right e i (a ∷ as_) = arm_patterns_right e (suc i) as_

  arm_right : (i : ℕ) (a : RawArm) → list_all right (arm_parts i a) ≡ arm_has_values raw b a
  arm_right i a = list_all-append right (maybe_part (guard i) a.guard) (expr_part (arm i) a.expr ∷ []) ∙ and_both _ _ _ _ (maybe_right (guard i) a.guard refl) (and_true (is_value raw b a.expr))

  arms_right : (i : ℕ) (arms : List RawArm) → list_all right (arms_parts i arms) ≡ list_all (arm_has_values raw b) arms
  arms_right i [] = refl
  arms_right i (a ∷ as_) = list_all-append right (arm_parts i a) (arms_parts (suc i) as_) ∙ and_both _ _ _ _ (arm_right i a) (arms_right (suc i) as_)

  one_argument : (closure : Bool) (i j : ℕ) (e : ExprId) (xs ys : List Part)
      → (list_all right (only_if (is_wanted false closure) (expr_part (argument i) e) ++ xs) && list_all right (only_if (is_wanted true closure) (expr_part (argument j) e) ++ ys))
      ≡ (is_value raw b e && (list_all right xs && list_all right ys))
  one_argument true i j e xs ys = and_swap (list_all right xs) (is_value raw b e) (list_all right ys)
  one_argument false i j e xs ys = and_third (is_value raw b e) (list_all right xs) (list_all right ys)

  arguments_right : (i j : ℕ) (es : List ExprId) → (list_all right (arguments_from b false i es) && list_all right (arguments_from b true j es)) ≡ list_all (is_value raw b) es
  arguments_right i j [] = refl
  arguments_right i j (e ∷ es) =
      one_argument (is_closure b e) i j e (arguments_from b false (suc i) es) (arguments_from b true (suc j) es) ∙ and_both _ _ _ _ refl (arguments_right (suc i) (suc j) es)

  -- of an expression that is plain by itself
  expr_right : (n : ℕ) (x : RawExpr) → IsPlainExpr raw n x → list_all right (expr_parts b x) ≡ has_callees raw b x
  expr_right n (expr.Block label stmts last) is = list_all-append right (stmts_parts stmts) (maybe_part tail last) ∙ and_both _ _ _ _ (stmts_right stmts) (maybe_right tail last refl)
  expr_right n (expr.Tuple es) is = exprs_right element (λ i. refl) 0 es
  expr_right n (expr.If c first other) is = and_both _ _ _ _ refl (and_both _ _ _ _ refl (maybe_right else_branch other refl))
  expr_right n (expr.Match e arms) is =
      and_both _ _ _ _ refl (list_all-append right (arm_patterns e 0 arms) (arms_parts 0 arms) ∙ (and_both _ _ _ _ (arm_patterns_right e 0 arms) refl ∙ arms_right 0 arms))
  expr_right n (expr.Call f args) is =
      and_both _ _ _ _ refl (list_all-append right (arguments_from b false 0 args) (arguments_from b true 0 args) ∙ arguments_right 0 0 args)
  expr_right n (expr.Later x) is = absurd is
  expr_right n _ is = refl

  -- ---- the parts of a pattern, and of the body

  subpatterns_right : (i : ℕ) (ps : List PatId) → list_all right (subpatterns i ps) ≡ true
  subpatterns_right i [] = refl
  subpatterns_right i (p ∷ ps) = subpatterns_right (suc i) ps

  no_item : (o : Option RawExpr) → IsAnyLiteral o → not (is_item raw o) ≡ true
  no_item (Some (expr.Lit l)) h = refl
  no_item (Some (expr.Later (later_expr.Lit l))) h = refl
  no_item _ h = absurd h

  -- of a pattern that is plain by itself
  pat_right : LiteralsFit b → (p : ℕ) (x : RawPat) → IsPlainPat raw b x → slice_get b.pats p ≡ Some x → list_all right (pat_parts x) ≡ true
  pat_right fit p (pat.Bind v None) is found = refl
  pat_right fit p (pat.Bind v (Some q)) is found = refl
  pat_right fit p (pat.Tuple ps) is found = subpatterns_right 0 ps
  pat_right fit p (pat.TupleStruct v ps) is found = subpatterns_right 0 ps
  pat_right fit p (pat.Lit e) is found = and_true (is_value raw b e) ∙ no_item (slice_get b.exprs e.0) (fit.under p e found)
  pat_right fit p (pat.Later x) is found = absurd is
  pat_right fit p _ is found = refl

  params_right : (i : ℕ) (ps : List PatId) → list_all right (param_parts i ps) ≡ true
  params_right i [] = refl
  params_right i (p ∷ ps) = params_right (suc i) ps

  body_right : list_all right (body_parts b) ≡ is_value raw b b.root
  body_right = list_all-append right (param_parts 0 b.params) (expr_part root b.root ∷ []) ∙ and_both _ _ _ _ (params_right 0 b.params) (and_true (is_value raw b b.root))

  -- ---- all nodes

  abbrev pub AllRight : Type 0
  AllRight = (m : Node) (k : ℕ) (p : Part) → IsNode b m → part_at b m k ≡ Some p → IsTrue (right p)

  abbrev ArePlainExprs : ℕ → Type 0
  ArePlainExprs n = AllHold (λ e x. IsPlainExpr raw n x) b.exprs

  abbrev ArePlainPats : Type 0
  ArePlainPats = AllHold (λ p x. IsPlainPat raw b x) b.pats

  within : (exprs : List RawExpr) (e k : ℕ) (x : RawExpr) (p : Part) → slice_get exprs e ≡ Some x → slice_get (expr_parts b x) k ≡ Some p → e < length exprs × (slice_get (parts_of_expr b (slice_get exprs e)) k ≡ Some p)
  within exprs e k x p found at = (slice_get_within exprs e x found, ap (λ (o : Option RawExpr). slice_get (parts_of_expr b o) k) found ∙ at)

  pub exprs_from_all : (n : ℕ) → ArePlainExprs n → AllRight → IsTrue (list_all (has_callees raw b) b.exprs)
  exprs_from_all n are h = all_from (has_callees raw b) b.exprs (λ e x found.
      sym (expr_right n x (are e x found)) ∙ all_from right (expr_parts b x) (λ k p at. let w = within b.exprs e k x p found at in h (inner (node.ExprId (record { 0 = e }))) k p w.0 w.1))

  pub root_from_all : AllRight → IsTrue (is_value raw b b.root)
  root_from_all h = sym body_right ∙ all_from right (body_parts b) (λ k p at. h the_body k p tt at)

  of_expr : (n : ℕ) → ArePlainExprs n → (e : ℕ) (o : Option RawExpr) → slice_get b.exprs e ≡ o → IsTrue (list_all (has_callees raw b) b.exprs) → (k : ℕ) (p : Part) → slice_get (parts_of_expr b o) k ≡ Some p → IsTrue (right p)
  of_expr n are e None was all k p at = absurd (cc)
  of_expr n are e (Some x) was all k p at = list_all_at right (expr_parts b x) k p (expr_right n x (are e x was) ∙ list_all_at (has_callees raw b) b.exprs e x all was) at

  of_pat : ArePlainPats → LiteralsFit b → (i : ℕ) (o : Option RawPat) → slice_get b.pats i ≡ o → (k : ℕ) (p : Part) → slice_get (parts_of_pat o) k ≡ Some p → IsTrue (right p)
  of_pat are fit i None was k p at = absurd (cc)
  of_pat are fit i (Some x) was k p at = list_all_at right (pat_parts x) k p (pat_right fit i x (are i x was) was) at

  pub all_right : (n : ℕ) → LiteralsFit b → LooksPlain raw n b → AllRight
  all_right n fit h the_body k p is at = list_all_at right (body_parts b) k p (body_right ∙ h.root) at
  all_right n fit h (inner (node.ExprId e)) k p is at = of_expr n h.exprs e.0 (slice_get b.exprs e.0) refl h.callees k p at
  all_right n fit h (inner (node.PatId i)) k p is at = of_pat h.pats fit i.0 (slice_get b.pats i.0) refl k p at

-- ---- bodies

pub body_plain : (raw : RawFacts) (n : ℕ) (b : RawBody) → LiteralsFit b → LooksPlain raw n b → IsPlainBody raw n b
body_plain raw n b fit h = record { exprs = h.exprs; pats = h.pats; callees = all_right raw b n fit h }

pub body_looks_plain : (raw : RawFacts) (n : ℕ) (b : RawBody) → IsPlainBody raw n b → LooksPlain raw n b
body_looks_plain raw n b h = record { exprs = h.exprs; pats = h.pats; callees = exprs_from_all raw b n h.exprs h.callees; root = root_from_all raw b h.callees }

-- ---- written types

stmt_fits : (raw : RawFacts) (n : ℕ) (b : RawBody)
    → ((e : ExprId) (i : ℕ) (p : PatId) (t : TypeRefId) (init other : Option ExprId) → stmt_at b e i ≡ Some (stmt.Let p (Some t) init other) → FitsThere raw n t.0)
    → (e : ExprId) (k : ℕ) (s : RawStmt) → stmt_at b e k ≡ Some s → LetFits raw n s
stmt_fits raw n b h e k (stmt.Let p None init other) at = tt
stmt_fits raw n b h e k (stmt.Let p (Some t) init other) at = h e k p t init other at
stmt_fits raw n b h e k (stmt.Expr x semicolon) at = tt

-- those of a function's body fit under its parameters
pub body_lets_fit : (raw : RawFacts) → IsLawful raw → (f : FunctionId) (b : RawBody) → body_of raw (def.FunctionId f) ≡ Some b → AllHold (λ e x. LetsFit raw (params_of raw (def.FunctionId f)) x) b.exprs
body_lets_fit raw law f b is e x found k s at =
    stmt_fits raw (params_of raw (def.FunctionId f)) b (lets_fit raw law (def.FunctionId f) b is) (record { 0 = e }) k s (ap (λ (o : Option RawExpr). slice_get (stmts_of o) k) found ∙ at)

literals_by : (raw : RawFacts) → IsLawful raw → (o : Option BodyId) (b : RawBody) → option_and_then (λ i. slice_get raw.bodies i.0) o ≡ Some b → LiteralsFit b
literals_by raw law None b is = absurd (cc)
literals_by raw law (Some i) b is = literals_fit raw law i.0 b is

pub body_literals_fit : (raw : RawFacts) → IsLawful raw → (f : FunctionId) (b : RawBody) → body_of raw (def.FunctionId f) ≡ Some b → LiteralsFit b
body_literals_fit raw law f b is = literals_by raw law (body_id_of raw (def.FunctionId f)) b is
