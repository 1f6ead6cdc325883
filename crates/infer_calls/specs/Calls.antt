-- What the walk over a call is given, and what it does.
use Rattle.std.specs.Prelude.{◌≡◌, List, slice_get, Some, map, ◌<◌, length, ◌⊎◌, ℕ, None}
use Rattle.infer_calls.specs.Words.{Goal, ExprId, CallableDefId, Ty, Assignment, folded, GenericArg, RawBody, Schedule, type_args, Signature, at_args, signature_of, inner, after, exprs_from, argument, resolved_type, bindings, AllOf, asked_goal, HasTy, WasSeen, Demand, callee_needs, Given, InferenceResult, ArgsRule, IsPathToItem, at_or_mismatch, Found, Walks, Nothing, expr_end, IsWalked, Extends, LieAhead, IsReady, IsItem, InferenceContext, IsFine, Tells, Closes, found_under, Follows, OwnDone, Within, IsWalking, Does, SameOrDiffer, SelectsAndReads, SelectsInWalk}
use Rattle.hir_types.specs.declared.ty.Ty.TheVariants as ty
use Rattle.hir_types.specs.declared.ids.ExprOrPatId.TheVariants as node
use Rattle.infer_calls.specs.Words.hir_raw.declared.raw.RawExpr.TheVariants as expr

abbrev pub IsCallOf : RawBody → ExprId → ExprId → List ExprId → Type 0
IsCallOf b e called args = slice_get b.exprs e.0 ≡ Some (expr.Call called args)

-- ---- calls

-- what is called is the item, at the types ts
pub record CalleeWalked (g : Given) (s : Schedule) (called : ExprId) (id : CallableDefId) (ts : List Ty) (old new : Found) : Type 0 where
  pub walks : Walks g s Nothing old new
  pub clock : new.clock ≡ expr_end g.body s called
  pub has : HasTy new.result called (ty.FnDef id (type_args ts))

-- the types that an item of this signature takes, at the types ts
abbrev pub inputs_at : Signature → List Ty → List Ty
inputs_at σ ts = map (at_args ts) σ.inputs

-- The node is a call of the item, at the types ts, which has come to its arguments.
pub record IsCalling (g : Given) (n called : ExprId) (args : List ExprId) (id : CallableDefId) (σ : Signature) (ts : List Ty)
    (c : Found) : Type 0 where
  pub is_call : IsCallOf g.body n called args
  pub within : n.0 < length g.body.exprs
  pub found : signature_of g.scope.facts id ≡ Some σ
  pub has : HasTy c.result called (ty.FnDef id (type_args ts))

-- The arguments of the call n lie ahead, after what is called.
pub record ComesToArgs (g : Given) (s : Schedule) (n called : ExprId) (args : List ExprId) (id : CallableDefId) (σ : Signature)
    (ts : List Ty) (c : Found) : Type 0 where
  pub ready : IsReady g s
  pub state : IsWalked g s c
  pub calling : IsCalling g n called args id σ ts c
  pub ahead : LieAhead g.body s (inner (node.ExprId n)) c.clock (exprs_from argument 0 args)
  pub ends : after g.body s c.clock (exprs_from argument 0 args) ≡ expr_end g.body s n

-- they are at these types, or there are not as many, which is said unless what is called was seen to be no function
pub record ArgsWalked (g : Given) (s : Schedule) (n : ExprId) (args : List ExprId) (ss : List Ty) (old new : Found) : Type 0 where
  pub walks : Walks g s Nothing old new
  pub clock : new.clock ≡ expr_end g.body s n
  pub made : ArgsRule (at_or_mismatch g new.result) n args ss ⊎ WasSeen new.result n

-- The arguments of the call n lie ahead.
pub record ComesToLoose (g : Given) (s : Schedule) (n called : ExprId) (args : List ExprId) (c : Found) : Type 0 where
  pub ready : IsReady g s
  pub state : IsWalked g s c
  pub is_call : IsCallOf g.body n called args
  pub within : n.0 < length g.body.exprs
  pub ahead : LieAhead g.body s (inner (node.ExprId n)) c.clock (exprs_from argument 0 args)
  pub ends : after g.body s c.clock (exprs_from argument 0 args) ≡ expr_end g.body s n

-- and what is called has this type
pub record ComesToUncallable (g : Given) (s : Schedule) (n called : ExprId) (args : List ExprId) (t : Ty) (c : Found) : Type 0 where
  pub loose : ComesToLoose g s n called args c
  pub has : HasTy c.result called t

-- each of the arguments is asked to be at its one of these types, as far as there is one
abbrev pub AsksInputs : Given → List ExprId → List Ty → InferenceResult → Type 0
AsksInputs g args ss r =
    (i : ℕ) (e : ExprId) (t : Ty) → slice_get args i ≡ Some e → slice_get ss i ≡ Some t → (later : InferenceResult) → Extends r later
    → Demand g later e t

-- they are typed
pub record LooseWalked (g : Given) (s : Schedule) (n : ExprId) (old new : Found) : Type 0 where
  pub walks : Walks g s Nothing old new
  pub clock : new.clock ≡ expr_end g.body s n

-- ---- calls

-- what is called has this type, which is that of a function or a constructor
pub record CalleeDone (g : Given) (s : Schedule) (called : ExprId) (t : Ty) (old new : InferenceContext) : Type 0 where
  pub id : CallableDefId
  pub item : IsItem g.scope.facts id
  pub types : List Ty
  pub is : t ≡ ty.FnDef id (type_args types)
  pub count : length types ≡ item.signature.params
  pub follows : Follows g old new
  pub fine : (i : ℕ) (u : Ty) → slice_get types i ≡ Some u → IsFine g.scope new.goals.table u
  pub tells : (n : ExprId) (args : List ExprId) → IsCallOf g.body n called args → Tells g n (at_args types item.signature.output)
  pub each : (a : Assignment) → Closes a new → CalleeWalked g s called id (map (folded a) types) (found_under a old) (found_under a new)

-- what is called is typed, and has the type t as far as it is known
pub record CalleeTyped (g : Given) (s : Schedule) (called : ExprId) (t : Ty) (old new : InferenceContext) : Type 0 where
  pub type : Ty
  pub typed : OwnDone g s called None type old new
  pub known : t ≡ resolved_type new.goals.table type
  pub made : AllOf new.goals.table.substitution.kinds (bindings new.goals.table)

-- The node n is a call. What it calls was typed since the walk came to the call, and has the type t as far as it is known.
pub record BeforeCall (g : Given) (s : Schedule) (n : ExprId) (args : List ExprId) (t : Ty) (c : InferenceContext) : Type 0 where
  pub called : ExprId
  pub before : InferenceContext
  pub within : Within g s n None before
  pub is_call : IsCallOf g.body n called args
  pub callee : CalleeTyped g s called t before c

-- the node is a call of what has this type, and has come to its arguments
pub record BeforeArgs (g : Given) (s : Schedule) (n : ExprId) (args : List ExprId) (t : Ty) (c : InferenceContext) : Type 0 where
  pub ready : IsReady g s
  pub state : IsWalking g s c
  pub called : ExprId
  pub id : CallableDefId
  pub item : IsItem g.scope.facts id
  pub types : List Ty
  pub is : t ≡ ty.FnDef id (type_args types)
  pub count : length types ≡ item.signature.params
  pub fine : (i : ℕ) (u : Ty) → slice_get types i ≡ Some u → IsFine g.scope c.goals.table u
  pub tells : Tells g n (at_args types item.signature.output)
  pub each : (a : Assignment) → Closes a c → ComesToArgs g s n called args id item.signature (map (folded a) types) (found_under a c)

-- ss is what the call takes
pub record BeforeInputs (g : Given) (s : Schedule) (n : ExprId) (args : List ExprId) (ss : List Ty) (c : InferenceContext) : Type 0 where
  pub type : Ty
  pub before : BeforeArgs g s n args type c
  pub inputs : ss ≡ inputs_at before.item.signature before.types

-- the arguments are at what the call takes, or there are not as many, which is said
abbrev pub ArgsDone : Given → Schedule → ExprId → List ExprId → List Ty → InferenceContext → InferenceContext → Type 0
ArgsDone g s n args ss old new = Does g (λ a. ArgsWalked g s n args (map (folded a) ss)) old new

-- goals were selected, and nothing was done after that
pub record EndsInSelection (g : Given) (c : InferenceContext) : Type 0 where
  pub before : InferenceContext
  pub selects : SelectsInWalk g before c

-- goals were selected, what the callee of this type needs was read, and goals were selected once more
pub record EndsInReading (g : Given) (t : Ty) (c : InferenceContext) : Type 0 where
  pub needed : List Goal
  pub are : map asked_goal needed ≡ callee_needs g.scope.facts t
  pub before : InferenceContext
  pub reads : SelectsAndReads g needed before c

-- The node n is a call of what has this type, as far as it is known: that is no function's. It has come to its arguments.
pub record BeforeUncallable (g : Given) (s : Schedule) (n : ExprId) (args : List ExprId) (t : Ty) (c : InferenceContext) : Type 0 where
  pub ready : IsReady g s
  pub state : IsWalking g s c
  pub called : ExprId
  pub is_call : IsCallOf g.body n called args
  pub fine : IsFine g.scope c.goals.table t
  pub tells : Tells g called t
  pub no_item : (id : CallableDefId) (xs : List GenericArg) → t ≡ ty.FnDef id xs → ⊥
  pub no_path : (IsPathToItem g called → ⊥)
  pub each : (a : Assignment) → Closes a c → ComesToUncallable g s n called args (folded a t) (found_under a c)

-- the arguments of the call n lie ahead, of which the first are asked to be at the types ss, which are fine
pub record BeforeLoose (g : Given) (s : Schedule) (n : ExprId) (args : List ExprId) (ss : List Ty) (c : InferenceContext) : Type 0 where
  pub ready : IsReady g s
  pub state : IsWalking g s c
  pub called : ExprId
  pub fine : (i : ℕ) (u : Ty) → slice_get ss i ≡ Some u → IsFine g.scope c.goals.table u
  pub asks : (a : Assignment) → Closes a c → AsksInputs g args (map (folded a) ss) (found_under a c).result
  pub each : (a : Assignment) → Closes a c → ComesToLoose g s n called args (found_under a c)

-- the type of the argument e and its input u are the same from here on, or they differ
pub record IsMet (c : InferenceContext) (e : ExprId) (u : Ty) : Type 0 where
  pub type : Ty
  pub has : (a : Assignment) → Closes a c → HasTy (found_under a c).result e (folded a type)
  pub settled : SameOrDiffer c type u

-- so are, or do, the types of each of the arguments and its one of these types, as far as there is one
abbrev pub AreMet : List ExprId → List Ty → InferenceContext → Type 0
AreMet args ss c = (i : ℕ) (e : ExprId) (u : Ty) → slice_get args i ≡ Some e → slice_get ss i ≡ Some u → IsMet c e u

-- the arguments are typed, and each of them that has its one of these types was made equal with it, or differs from it
pub record LooseDone (g : Given) (s : Schedule) (n : ExprId) (args : List ExprId) (ss : List Ty) (old new : InferenceContext) : Type 0 where
  pub follows : Follows g old new
  pub each : (a : Assignment) → Closes a new → LooseWalked g s n (found_under a old) (found_under a new)
  pub met : AreMet args ss new
