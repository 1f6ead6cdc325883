-- Patterns under an assignment's target, number by number.
use Rattle.std.specs.Prelude.{ℕ, ◌-◌, ◌<◌, ◌≡◌, ◌↔◌, ◌==◌, ◌||◌, ◌&&◌, Bool, true, false, nat_lt, if◌then◌else◌, List, length, slice_get, slice_index_or, Option, Some, None, IsTrue}
use Rattle.hir_laws.specs.Words.{ExprId, PatId, RawExpr, RawPat, RawBody, Schedule, AreOpen, IsAssigned}
use Rattle.hir_laws.specs.Words.hir_raw.declared.raw.RawExpr.TheVariants as expr
use Rattle.hir_laws.specs.Words.hir_raw.declared.raw.RawPat.TheVariants as pat
use Rattle.hir_laws.specs.Words.hir_raw.declared.later.LaterExpr.TheVariants as later_expr
use Rattle.hir_laws.specs.Words.hir_raw.declared.later.LaterPat.TheVariants as later_pat
use Rattle.hir_laws.specs.Parted.{number}
use Rattle.hir_laws.specs.declared.targets.Assigned.{Assigned}

-- the node with this position is a pattern, by its number among these
abbrev pub pattern_index : RawBody → ℕ → Option ℕ
pattern_index b i =
    if nat_lt i (length b.exprs) then None
    else (if nat_lt (i - length b.exprs) (length b.pats) then Some (i - length b.exprs) else None)

-- it assigns to the pattern p
abbrev pub assigns_to : Option RawExpr → ℕ → Bool
assigns_to (Some (expr.Later (later_expr.Assignment target value))) p = target.0 == p
assigns_to _ p = false

abbrev pub mark_by : List Bool → Option ℕ → Bool
mark_by marks None = false
mark_by marks (Some p) = slice_index_or marks p false

-- where the node with this position is above the pattern p: it assigns to it, or is a pattern that is marked
abbrev pub is_under : RawBody → List Bool → ℕ → ℕ → Bool
is_under b marks i p = assigns_to (slice_get b.exprs i) p || mark_by marks (pattern_index b i)

abbrev pub is_place : Option RawPat → Bool
is_place (Some (pat.Later (later_pat.Expr e))) = true
is_place _ = false

-- patterns that are places stand under an assignment's target
abbrev pub PlacesFit : RawBody → Type 0
PlacesFit b = (p : PatId) (e : ExprId) → slice_get b.pats p.0 ≡ Some (pat.Later (later_pat.Expr e)) → IsAssigned b p

-- what is known of the patterns with numbers below k: which of them are assigned to, and that places are
pub record AreMarkedSoFar (b : RawBody) (s : Schedule) (k : ℕ) (marks : List Bool) : Type 0 where
  pub size : length marks ≡ length b.pats
  pub each : (p : PatId) → p.0 < length b.pats → number b s p < k → IsTrue (slice_index_or marks p.0 false) ↔ IsAssigned b p
  pub fit : (p : PatId) (e : ExprId) → number b s p < k → slice_get b.pats p.0 ≡ Some (pat.Later (later_pat.Expr e)) → IsAssigned b p

-- a walk has come to the number k
pub record AreAssigned (b : RawBody) (s : Schedule) (k : ℕ) (w : Assigned) : Type 0 where
  pub enclosing : AreOpen b s k w.enclosing.nodes.items
  pub marked : AreMarkedSoFar b s k w.marks.items
