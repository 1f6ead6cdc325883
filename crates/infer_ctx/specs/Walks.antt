-- What every function of the walk does to what is found out, under one assignment of types to holes.
use Rattle.std.specs.Prelude.{ℕ, ◌≡◌, List, slice_get, Option, Some, None, ◌⊎◌, ◌<◌, ◌≤◌, length}
use Rattle.infer_ctx.specs.Words.{ExprId, PatId, BindingId, Ty, folded, Schedule, RawBody, start, inner, end, Binds, IsCarriedType, InferenceResult, TypeMismatch, InferenceDiagnostic, Column, Entries, Entry, col, IsIn, At, HasTy, BindingTy, WasSeen, AllTypes, IsOfBody, OnlyBindersHaveModes, OnlyCtorPatsHaveItems, Seen, Given, OnlyPlaceholdersHaveTypes, Demand, IsTrueSeen, IsSaid, IsTrueDiagnostic, IsTruePatDiagnostic, ObeysOrMismatch, PatRule, IsTruePatMismatch, IsMisfit}
use Rattle.hir_types.specs.declared.ids.ExprOrPatId.TheVariants as node
use Rattle.infer_ctx.specs.Words.hir_raw.declared.raw.RawExpr.TheVariants as expr
use Rattle.infer_ctx.specs.Found.{Found, RecordsVariants}
use Rattle.infer_result.specs.Columns as column

-- the numbers of an expression and of a pattern in the order of the walk
abbrev pub expr_start : RawBody → Schedule → ExprId → ℕ
expr_start b s e = start b s (inner (node.ExprId e))

abbrev pub expr_end : RawBody → Schedule → ExprId → ℕ
expr_end b s e = end b s (inner (node.ExprId e))

abbrev pub pat_start : RawBody → Schedule → PatId → ℕ
pat_start b s p = start b s (inner (node.PatId p))

abbrev pub pat_end : RawBody → Schedule → PatId → ℕ
pat_end b s p = end b s (inner (node.PatId p))

-- nothing is recorded at n
abbrev pub IsFree : {A : Type 0} → List (Option A) → ℕ → Type 0
IsFree xs n = slice_get xs n ≡ Some None

-- this entry stays in the column; of complaints at expressions something else is said
abbrev pub StaysIn : (c : Column) → Entries c → ℕ → Entry c → Type 0
StaysIn column.expr_diagnostics xs n x = Unit {0}
StaysIn c xs n x = At xs n x

-- what was recorded stays; another complaint may give way where a look-up failed
pub record Extends (old new : InferenceResult) : Type 0 where
  pub columns : (c : Column) (n : ℕ) (x : Entry c) → IsIn old c n x → StaysIn c (col new c) n x
  pub diagnostics : (e : ExprId) (d : InferenceDiagnostic) → At old.expr_diagnostics e.0 d → At new.expr_diagnostics e.0 d ⊎ WasSeen new e
  pub seen : (e : ExprId) → WasSeen old e → WasSeen new e

-- each type of the table is of a carried kind
abbrev pub IsCarriedTable : InferenceResult → Type 0
IsCarriedTable r = AllTypes IsCarriedType r

-- What is kept of the look-up is so and is said, and the type that is recorded is the one that was looked at, holes closed.
pub record IsSeenAs (g : Given) (c : Found) (x : Seen) : Type 0 where
  pub is_true : IsTrueSeen g c.result x
  pub is_said : IsSaid g c.result x
  pub recorded : (call called : ExprId) (args : List ExprId) → x.node ≡ node.ExprId call
      → slice_get g.body.exprs call.0 ≡ Some (expr.Call called args) → HasTy c.result called (folded c.holes x.ty)

-- The state of the walk: each type is of a carried kind, what has a mode binds a name, each complaint other than a mismatch is true, the
-- constructors that are named are recorded, a type is recorded for a `_` alone, each look-up that failed is so and is said, nothing is
-- recorded at a node from the clock on, and each binding whose pattern comes before it has a type.
pub record IsWalked (g : Given) (s : Schedule) (c : Found) : Type 0 where
  pub of_body : IsOfBody g.body c.result
  pub carried : IsCarriedTable c.result
  pub modes : OnlyBindersHaveModes g.body c.result
  pub free_exprs : (e : ExprId) → e.0 < length g.body.exprs → c.clock ≤ expr_start g.body s e → IsFree c.result.type_of_expr e.0
  pub free_pats : (p : PatId) → p.0 < length g.body.pats → c.clock ≤ pat_start g.body s p → IsFree c.result.type_of_pat p.0
  pub free_modes : (p : PatId) → p.0 < length g.body.pats → c.clock ≤ pat_start g.body s p → IsFree c.result.binding_modes p.0
  pub free_bindings : (p : PatId) (v : BindingId) → Binds g.body p v → c.clock ≤ pat_start g.body s p → IsFree c.result.type_of_binding v.0
  pub bound : (p : PatId) (v : BindingId) → Binds g.body p v → pat_start g.body s p < c.clock → (t : Ty) × BindingTy c.result v t
  pub diagnostics : (e : ExprId) (d : InferenceDiagnostic) → At c.result.expr_diagnostics e.0 d → IsTrueDiagnostic g c.result e d
  pub pat_diagnostics : (p : PatId) (d : InferenceDiagnostic) → At c.result.pat_diagnostics p.0 d → IsTruePatDiagnostic g p d
  pub variants : RecordsVariants g.body c.result
  pub items : OnlyCtorPatsHaveItems g.scope.facts g.body c.result
  pub free_items : (p : PatId) → p.0 < length g.body.pats → c.clock ≤ pat_start g.body s p → IsFree c.result.item_of_pat p.0
  pub placeholders : OnlyPlaceholdersHaveTypes g c.result
  pub seen : (i : ℕ) (x : Seen) → slice_get c.result.seen i ≡ Some x → IsSeenAs g c x

-- a property of mismatches and the expressions that they stand at: what the places of these have still to show
abbrev pub Debt : Type 1
Debt = ExprId → TypeMismatch → Type 0

-- The nodes from the old clock to the new one are made, those before it are left alone, and each new
-- mismatch is a true one, but that the demand of its place may still be owed, as P says.
pub record Walks (g : Given) (s : Schedule) (P : Debt) (old new : Found) : Type 0 where
  pub clock : old.clock ≤ new.clock
  pub extends : Extends old.result new.result
  pub kept : (e : ExprId) → e.0 < length g.body.exprs → expr_start g.body s e < old.clock
      → slice_get new.result.type_of_expr e.0 ≡ slice_get old.result.type_of_expr e.0
  pub kept_pats : (p : PatId) → p.0 < length g.body.pats → pat_start g.body s p < old.clock
      → slice_get new.result.type_of_pat p.0 ≡ slice_get old.result.type_of_pat p.0
  pub state : IsWalked g s new
  pub made : (e : ExprId) → e.0 < length g.body.exprs → old.clock ≤ expr_start g.body s e → expr_start g.body s e < new.clock
      → ObeysOrMismatch g new.result e
  pub pats_made : (p : PatId) → p.0 < length g.body.pats → old.clock ≤ pat_start g.body s p → pat_start g.body s p < new.clock
      → PatRule g new.result p (slice_get g.body.pats p.0)
  pub truths : (e : ExprId) (m : TypeMismatch) → At new.result.expr_mismatches e.0 m → At old.result.expr_mismatches e.0 m
      ⊎ (IsMisfit g new.result e m × (Demand g new.result e m.expected ⊎ P e m))
  pub pat_truths : (p : PatId) (m : TypeMismatch) → At new.result.pat_mismatches p.0 m → At old.result.pat_mismatches p.0 m
      ⊎ IsTruePatMismatch g new.result p m

-- ---- debts
abbrev pub Nothing : ExprId → TypeMismatch → Type 0
Nothing e m = ⊥

-- a mismatch of e with the type that was expected of it, for a reason that its place knows
abbrev pub Owed : ExprId → Option Ty → ExprId → TypeMismatch → Type 0
Owed n None e m = ⊥
Owed n (Some t) e m = (e ≡ n) × (m.expected ≡ t)

-- a mismatch of one of the elements es with its type of ts
abbrev pub OwedAmong : List ExprId → List Ty → ExprId → TypeMismatch → Type 0
OwedAmong es ts e m = (i : ℕ) × (slice_get es i ≡ Some e) × (slice_get ts i ≡ Some m.expected)

-- What n shows once its type is recorded as t, or its own place is to show, which expects x.
abbrev pub PaidBy : Given → ExprId → Option Ty → Ty → ExprId → TypeMismatch → Type 0
PaidBy g n x t e m = ((r : InferenceResult) → HasTy r n t → Demand g r e m.expected) ⊎ Owed n x e m

-- What an alternative of n owes while the common type is not known, where x is expected of all: the
-- node will have that type.
abbrev pub OwedByAlternatives : Given → ExprId → Option Ty → ExprId → TypeMismatch → Type 0
OwedByAlternatives g n x e m = (u : Ty) × (x ≡ Some u) × ((r : InferenceResult) → HasTy r n u → Demand g r e m.expected)
