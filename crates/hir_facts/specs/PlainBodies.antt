-- What is looked at in a body: what its expressions are made of, kind by kind, and the written types.
use Rattle.std.specs.Prelude.{ℕ, Bool, true, ◌&&◌, Option, Some, None, IsTrue, not}
use Rattle.std.specs.List.{list_all}
use Rattle.hir_facts.specs.Words.{TypeRefId, ExprId, RawStmt, RawArm, RawExpr, RawBody, RawFacts, stmts_of}
use Rattle.hir_raw.specs.declared.raw.RawStmt.TheVariants as stmt
use Rattle.hir_raw.specs.declared.raw.RawExpr.TheVariants as expr
use Rattle.hir_facts.specs.WrittenFits.{FitsThere}
use Rattle.hir_facts.specs.Entries.{AllHold}
use Rattle.hir_facts.specs.Plain.{is_item_at, IsPlainExpr, IsPlainPat}

-- ---- callees

-- expression e is no path to an item
abbrev pub is_value : RawFacts → RawBody → ExprId → Bool
is_value raw b e = not (is_item_at raw b e)

abbrev pub is_maybe_value : RawFacts → RawBody → Option ExprId → Bool
is_maybe_value raw b None = true
is_maybe_value raw b (Some e) = is_value raw b e

abbrev pub stmt_has_values : RawFacts → RawBody → RawStmt → Bool
stmt_has_values raw b (stmt.Let p written init other) = is_maybe_value raw b init && is_maybe_value raw b other
stmt_has_values raw b (stmt.Expr e semicolon) = is_value raw b e

abbrev pub arm_has_values : RawFacts → RawBody → RawArm → Bool
arm_has_values raw b a = is_maybe_value raw b a.guard && is_value raw b a.expr

-- the expressions that an expression is made of are no paths to items, but for a callee, which is one
abbrev pub has_callees : RawFacts → RawBody → RawExpr → Bool
has_callees raw b (expr.Lit l) = true
has_callees raw b (expr.Path p) = true
has_callees raw b (expr.Block label stmts last) = list_all (stmt_has_values raw b) stmts && is_maybe_value raw b last
has_callees raw b (expr.Tuple es) = list_all (is_value raw b) es
has_callees raw b (expr.If c first other) = is_value raw b c && (is_value raw b first && is_maybe_value raw b other)
has_callees raw b (expr.Match e arms) = is_value raw b e && list_all (arm_has_values raw b) arms
has_callees raw b (expr.Call f args) = is_item_at raw b f && list_all (is_value raw b) args
has_callees raw b (expr.Later later) = true

-- ---- written types

abbrev pub WrittenFits : RawFacts → ℕ → Option TypeRefId → Type 0
WrittenFits raw n None = Unit {0}
WrittenFits raw n (Some t) = FitsThere raw n t.0

-- the written type of a `let` fits under n parameters
abbrev pub LetFits : RawFacts → ℕ → RawStmt → Type 0
LetFits raw n (stmt.Let p written init other) = WrittenFits raw n written
LetFits raw n (stmt.Expr e semicolon) = Unit {0}

abbrev pub LetsFit : RawFacts → ℕ → RawExpr → Type 0
LetsFit raw n x = AllHold (λ k s. LetFits raw n s) (stmts_of (Some x))

-- ---- bodies

-- all that is looked at in a body with n parameters
pub record LooksPlain (raw : RawFacts) (n : ℕ) (b : RawBody) : Type 0 where
  pub exprs : AllHold (λ e x. IsPlainExpr raw n x) b.exprs
  pub pats : AllHold (λ p x. IsPlainPat raw b x) b.pats
  pub callees : IsTrue (list_all (has_callees raw b) b.exprs)
  pub root : IsTrue (is_value raw b b.root)
