-- Literals in 128 bits, one by one.
use Rattle.std.specs.Prelude.{ℕ, ◌<◌, ◌^◌, ◌≡◌, ◌⊎◌, List, length, map, slice_get, Option, Some, None, option_map, IsSomeAnd}
use Rattle.hir_laws.specs.Words.{ExprId, RawExpr, RawLiteral, RawPat, RawBody, Namers, AllHold, AreNamers, DotsFit, IsAnyLiteral, IsInBits, IsPatternOf, IsSignedInBits, MayHaveMinus}
use Rattle.hir_laws.specs.Words.hir_raw.declared.raw.RawExpr.TheVariants as expr
use Rattle.hir_laws.specs.Words.hir_raw.declared.raw.RawPat.TheVariants as pat
use Rattle.hir_laws.specs.Words.hir_raw.declared.later.LaterPat.TheVariants as later_pat
use Rattle.hir_laws.specs.Words.hir_ids.declared.namers.Namers.TheVariants.{Nobody, One, Several}

abbrev pub IsSmall : Option ℕ → Type 0
IsSmall o = IsSomeAnd o (λ n. n < 2 ^ 128)

-- the expression that a pattern is, or the first end of a range, by its number
abbrev pub first_literal : RawPat → Option ℕ
first_literal (pat.Lit e) = Some e.0
first_literal (pat.Later (later_pat.Range first last)) = option_map (λ e. e.0) first
first_literal _ = None

-- the last end of a range, by its number
abbrev pub last_literal : RawPat → Option ℕ
last_literal (pat.Later (later_pat.Range first last)) = option_map (λ e. e.0) last
last_literal _ = None

-- which patterns name each expression so
abbrev pub AreNamedAs : (RawPat → Option ℕ) → RawBody → List Namers → Type 0
AreNamedAs literal b xs = AreNamers (map literal b.pats) (length b.pats) (length b.exprs) xs

abbrev pub IsSomeones : Namers → Type 0
IsSomeones Nobody = ⊥
IsSomeones (One k) = Unit {0}
IsSomeones Several = Unit {0}

-- an expression that these patterns are or begin with, and with which these end
abbrev pub ExprIsInBits : Namers → Namers → RawExpr → Type 0
ExprIsInBits x y (expr.Lit l) = IsInBits l ⊎ ((IsSomeones x ⊎ IsSomeones y) × IsSignedInBits l)
ExprIsInBits x y (expr.Path p) = Unit {0}
ExprIsInBits x y (expr.Block label stmts last) = Unit {0}
ExprIsInBits x y (expr.Tuple es) = Unit {0}
ExprIsInBits x y (expr.If c first other) = Unit {0}
ExprIsInBits x y (expr.Match e arms) = Unit {0}
ExprIsInBits x y (expr.Call f args) = Unit {0}
ExprIsInBits x y (expr.Later later) = Unit {0}

-- a pattern that is an expression is a literal
abbrev pub PatIsLiteral : RawBody → RawPat → Type 0
PatIsLiteral b pat.Wild = Unit {0}
PatIsLiteral b (pat.Bind v sub) = Unit {0}
PatIsLiteral b (pat.Tuple ps) = Unit {0}
PatIsLiteral b (pat.TupleStruct v ps) = Unit {0}
PatIsLiteral b (pat.Path q) = Unit {0}
PatIsLiteral b (pat.Lit e) = IsAnyLiteral (slice_get b.exprs e.0)
PatIsLiteral b (pat.Later later) = Unit {0}

-- the law on literals and patterns, but for what is assigned to
pub record LiteralsHold (b : RawBody) : Type 0 where
  pub each : (e : ExprId) (l : RawLiteral) → slice_get b.exprs e.0 ≡ Some (expr.Lit l) → IsInBits l
      ⊎ (MayHaveMinus b e × IsSignedInBits l)
  pub under : (p : ℕ) (e : ExprId) → IsPatternOf b p e → IsAnyLiteral (slice_get b.exprs e.0)
  pub dots : AllHold (λ p x. DotsFit x) b.pats
