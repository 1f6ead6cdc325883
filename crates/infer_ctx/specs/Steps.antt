-- What each function of the walk is given, and what it does.
use Rattle.std.specs.Prelude.{◌≤◌, ◌<◌, ◌≡◌, length, Option, Some, None, ◌+◌, ℕ, List, slice_get}
use Rattle.infer_ctx.specs.Words.{Assignment, folded, ExprId, Ty, Schedule, Scope, Grew, StaysButHoles, IsOfBody, Given, IsMade, MismatchAt}
use Rattle.infer_ctx.specs.declared.context.InferenceContext.{InferenceContext}
use Rattle.infer_ctx.specs.Found.{Found}
use Rattle.infer_ctx.specs.Walks.{IsWalked, expr_start, IsFree}
use Rattle.infer_ctx.specs.Tells.{Tells}
use Rattle.infer_ctx.specs.Asked.{IsTold}
use Rattle.infer_ctx.specs.Closings.{Closes, found_under, IsSound, expected_under, AskedIsDecided, closed_table}
use Rattle.infer_ctx.specs.Fine.{IsFineExpectation, IsFine}
use Rattle.infer_ctx.specs.Under.{IsReady, OwnWalked, CoerceWalked, KindWalked}

-- ---- the state of the walk

-- what is found out is sound, the types of bindings tell what their patterns say, goals are asked, and under each assignment that closes
-- it all is as the walk says
pub record IsWalking (g : Given) (s : Schedule) (c : InferenceContext) : Type 0 where
  pub of_body : IsOfBody g.body c.result
  pub sound : IsSound g.scope c
  pub told : IsTold g c
  pub each : (a : Assignment) → Closes a c → IsWalked g s (found_under a c)

-- more was found out, and nothing undone
pub record Follows (g : Given) (old new : InferenceContext) : Type 0 where
  pub clock : old.clock ≤ new.clock
  pub grew : Grew old.goals.table new.goals.table
  pub sources : new.goals.sources ≡ old.goals.sources
  pub of_body : IsOfBody g.body new.result
  pub sound : IsSound g.scope new
  pub told : IsTold g old → IsTold g new

-- more was found out, and under each assignment that closes it P holds of what was found before and after
pub record Does (g : Given) (P : Assignment → Found → Found → Type 0) (old new : InferenceContext) : Type 0 where
  pub follows : Follows g old new
  pub each : (a : Assignment) → Closes a new → P a (found_under a old) (found_under a new)

-- ---- expressions

-- the walk comes to the expression e, of which x is expected
pub record Before (g : Given) (s : Schedule) (e : ExprId) (x : Option Ty) (c : InferenceContext) : Type 0 where
  pub ready : IsReady g s
  pub state : IsWalking g s c
  pub within : e.0 < length g.body.exprs
  pub here : expr_start g.body s e ≡ c.clock
  pub expected : IsFineExpectation g.scope c.goals.table x

-- the expression has the type t; where something else is expected, nothing is said of that yet
pub record OwnDone (g : Given) (s : Schedule) (e : ExprId) (x : Option Ty) (t : Ty) (old new : InferenceContext) : Type 0 where
  pub follows : Follows g old new
  pub fine : IsFine g.scope new.goals.table t
  pub tells : Tells g e t
  pub each : (a : Assignment) → Closes a new → OwnWalked g s e (expected_under a x) (folded a t) (found_under a old) (found_under a new)

-- the expression is at the type t, which is the expected one where one is
pub record CoerceDone (g : Given) (s : Schedule) (e : ExprId) (x : Option Ty) (t : Ty) (old new : InferenceContext) : Type 0 where
  pub follows : Follows g old new
  pub fine : IsFine g.scope new.goals.table t
  pub is_expected : (u : Ty) → x ≡ Some u → t ≡ u
  pub tells : x ≡ None → Tells g e t
  pub each : (a : Assignment) → Closes a new → CoerceWalked g s e (expected_under a x) (folded a t) (found_under a old) (found_under a new)

-- ---- the kinds of expressions

-- the walk has come to the expression e, whose parts lie ahead
pub record Within (g : Given) (s : Schedule) (e : ExprId) (x : Option Ty) (c : InferenceContext) : Type 0 where
  pub ready : IsReady g s
  pub state : IsWalking g s c
  pub within : e.0 < length g.body.exprs
  pub clock : c.clock ≡ expr_start g.body s e + 1
  pub expected : IsFineExpectation g.scope c.goals.table x

-- everything is done at the expression, but that its type t is to be recorded
pub record KindDone (g : Given) (s : Schedule) (e : ExprId) (x : Option Ty) (t : Ty) (old new : InferenceContext) : Type 0 where
  pub follows : Follows g old new
  pub fine : IsFine g.scope new.goals.table t
  pub tells : Tells g e t
  pub each : (a : Assignment) → Closes a new → KindWalked g s e (expected_under a x) (folded a t) (found_under a old) (found_under a new)

-- as many types as asked for, with some holes more
pub record ArePartTypes (sc : Scope) (count : ℕ) (ts : List Ty) (old new : InferenceContext) : Type 0 where
  pub result : new.result ≡ old.result
  pub asked : new.asked ≡ old.asked
  pub clock : new.clock ≡ old.clock
  pub grew : Grew old.goals.table new.goals.table
  pub stays : StaysButHoles old.goals new.goals
  pub sound : IsSound sc new
  pub count_is : length ts ≡ count
  pub fine : (i : ℕ) (t : Ty) → slice_get ts i ≡ Some t → IsFine sc new.goals.table t

-- ---- two types made equal

-- some holes may be bound, but nothing is recorded
pub record OnlyBinds (g : Given) (old new : InferenceContext) : Type 0 where
  pub follows : Follows g old new
  pub result : new.result ≡ old.result
  pub asked : new.asked ≡ old.asked
  pub clock : new.clock ≡ old.clock

-- ---- coercions

-- nothing is noted at the expression, and nothing was asked of it
pub record IsUnasked (c : InferenceContext) (e : ExprId) : Type 0 where
  pub asked : IsFree c.asked e.0
  pub noted : IsFree c.result.expr_mismatches e.0

-- this mismatch is noted at the expression, and nothing was asked of it
pub record IsNoted (c : InferenceContext) (e : ExprId) (expected actual : Ty) : Type 0 where
  pub noted : MismatchAt c.result e expected actual
  pub unasked : IsFree c.asked e.0

-- ---- the whole body

-- each node is made, under each assignment that closes what is found out, and nothing that was asked is left open
pub record BodyDone (g : Given) (new : InferenceContext) : Type 0 where
  pub sound : IsSound g.scope new
  pub decided : AskedIsDecided new.goals.table new.asked
  pub made : (a : Assignment) → Closes a new → IsMade g (closed_table a new.asked new.result)
