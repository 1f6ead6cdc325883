-- What the walk reads, what it expects, and what a write does.
use Rattle.std.specs.Prelude.{Option, Some, None, ℕ, slice_get, ◌≡◌, ◌⊎◌, [], length, replicate, ◌+◌, ◌++◌, ◌∷◌}
use Rattle.infer_ctx.specs.Words.{Ty, Ty-F, out-Ty, AliasBound, GenericArg, TraitRef, ExprId, PatId, BindingId, scope_of, Scope, Schedule, IsCarriedType, RawBody, State, with_waiting, resolved_type, GoalTable, Given, TypeMismatch, mismatch, General, InferenceDiagnostic, BindingMode, Seen}
use Rattle.hir_types.specs.declared.ids.ExprOrPatId.TheVariants as node
use Rattle.infer_result.specs.declared.modes.BindingMode.TheVariants as mode
use Rattle.infer_ctx.specs.declared.given.GivenBody.{GivenBody}
use Rattle.infer_ctx.specs.declared.expectation.Expectation.{Expectation}
use Rattle.infer_ctx.specs.Writes as writes
use Rattle.infer_ctx.specs.Found.{noted}
use Rattle.infer_ctx.specs.declared.context.InferenceContext.{InferenceContext}
use Rattle.infer_ctx.specs.declared.expectation.Expectation.TheVariants as expectation

-- ---- what is read
abbrev pub given_of : GivenBody → Given
given_of x = record {
  scope = scope_of x.facts.now x.owner;
  body = x.body.now;
  inputs = x.inputs.now;
  output = x.return_ty.now;
  aliases =
      x.aliases.now;
}

-- what the types of the body may name
abbrev pub scope_in : GivenBody → Scope
scope_in x = scope_of x.facts.now x.owner

abbrev pub schedule_of : GivenBody → Schedule
schedule_of x = x.schedule.now

-- ---- what is expected
abbrev pub expected_type : Expectation → Option Ty
expected_type expectation.None = None
expected_type (expectation.HasType t) = Some t.now

abbrev pub component : Ty-F GenericArg Ty AliasBound TraitRef → ℕ → Option Ty
component (Ty-F.Tuple ts) i = slice_get ts i
component _ i = None

-- the type that is expected of an element, where this is expected of the tuple
abbrev pub element_type : Option Ty → ℕ → Option Ty
element_type None i = None
element_type (Some t) i = component (out-Ty t) i

abbrev pub IsCarriedExpectation : Option Ty → Type 0
IsCarriedExpectation None = Unit {0}
IsCarriedExpectation (Some t) = IsCarriedType t

-- this type, where there is one
abbrev pub known_or : Option Ty → Option Ty → Option Ty
known_or None x = x
known_or (Some t) x = Some t

-- what a hole that is expected resolves to
abbrev pub known_step : State → Ty → Ty-F GenericArg Ty AliasBound TraitRef → Option Ty
known_step s t (Ty-F.Var n) = Some (resolved_type s t)
known_step s t _ = None

abbrev pub known_hole : State → Option Ty → Option Ty
known_hole s None = None
known_hole s (Some t) = known_step s t (out-Ty t)

-- nothing where nothing is known of the type
abbrev pub unless_open : Ty → Ty-F GenericArg Ty AliasBound TraitRef → Option Ty
unless_open t (Ty-F.Var n) = None
unless_open t _ = Some t

-- what is expected of the alternatives of an `if` or a `match`, where this is expected of it
abbrev pub of_alternatives : State → Option Ty → Option Ty
of_alternatives s None = None
of_alternatives s (Some t) = unless_open t (out-Ty (resolved_type s t))

-- nothing where the type is `()`
abbrev pub unless_empty : Ty → Ty-F GenericArg Ty AliasBound TraitRef → Option Ty
unless_empty t (Ty-F.Tuple []) = None
unless_empty t _ = Some t

-- what is expected of the arms of a `match`, where this is expected of its alternatives
abbrev pub of_arms : State → Option Ty → Option Ty
of_arms s None = None
of_arms s (Some t) = unless_empty t (out-Ty (resolved_type s t))

-- the second expects what the first does, or nothing
abbrev pub IsLess : Option Ty → Option Ty → Type 0
IsLess x y = (y ≡ x) ⊎ (y ≡ None)

-- ---- what is found out

-- nothing yet, with these goals: the walk has come to the body alone
abbrev pub empty_context : RawBody → GoalTable → InferenceContext
empty_context b goals = record {
  result = writes.nothing b;
  asked = replicate (length b.exprs) None;
  clock = 1;
  goals = goals;
}

-- with another table of goals
abbrev pub with_goal_table : InferenceContext → GoalTable → InferenceContext
with_goal_table c goals = record c { goals = goals }

-- ---- what a write does
abbrev pub entered : InferenceContext → InferenceContext
entered c = record c { clock = c.clock + 1 }

abbrev pub with_expr_ty : InferenceContext → ExprId → Ty → InferenceContext
with_expr_ty c e t = record c { result = writes.expr_ty c.result e t }

abbrev pub with_mismatch : InferenceContext → ExprId → TypeMismatch → InferenceContext
with_mismatch c e m = record c { result = writes.expr_mismatch c.result e m }

-- with another table of holes: nothing else of the goals changes
abbrev pub with_table : InferenceContext → State → InferenceContext
with_table c state = record c { goals = record c.goals { table = state } }

-- with what is asked of an expression while nothing is known of it
abbrev pub with_asked : InferenceContext → ExprId → TypeMismatch → InferenceContext
with_asked c e m = record c { asked = noted c.asked e.0 m }

-- the expression of the first type waits to be put at the second
abbrev pub waiting_at : InferenceContext → ExprId → Ty → Ty → InferenceContext
waiting_at c e t u = with_asked (with_table c (with_waiting c.goals.table t u (node.ExprId e))) e (mismatch u t)

-- the types before open holes fall back are kept
abbrev pub with_general : InferenceContext → Option General → InferenceContext
with_general c o = record c { result = record c.result { general = o } }

abbrev pub with_pat_mismatch : InferenceContext → PatId → TypeMismatch → InferenceContext
with_pat_mismatch c p m = record c { result = writes.pat_mismatch c.result p m }

abbrev pub with_diagnostic : InferenceContext → ExprId → InferenceDiagnostic → InferenceContext
with_diagnostic c e x = record c { result = writes.expr_diagnostic c.result e x }

abbrev pub with_pat_diagnostic : InferenceContext → PatId → InferenceDiagnostic → InferenceContext
with_pat_diagnostic c p x = record c { result = writes.pat_diagnostic c.result p x }

abbrev pub with_pat_ty : InferenceContext → PatId → Ty → InferenceContext
with_pat_ty c p t = record c { result = writes.pat_ty c.result p t }

abbrev pub with_pat_item : InferenceContext → PatId → Ty → InferenceContext
with_pat_item c p t = record c { result = writes.pat_item c.result p t }

abbrev pub with_mode : InferenceContext → PatId → BindingMode → InferenceContext
with_mode c p m = record c { result = writes.mode c.result p m }

abbrev pub with_binding_ty : InferenceContext → BindingId → Ty → InferenceContext
with_binding_ty c v t = record c { result = writes.binding_ty c.result v t }

-- the `_` that is type k stands for t
abbrev pub with_placeholder_ty : InferenceContext → ℕ → Ty → InferenceContext
with_placeholder_ty c k t = record c { result = writes.placeholder_ty c.result k t }

-- the look-up failed
abbrev pub with_seen : InferenceContext → Seen → InferenceContext
with_seen c x = record c { result = record c.result { seen = c.result.seen ++ x ∷ [] } }

-- the pattern p of type t binds v by move
abbrev pub bound_by : InferenceContext → PatId → BindingId → Ty → InferenceContext
bound_by c p v t = with_binding_ty (with_pat_ty (with_mode c p mode.Move) p t) v t
