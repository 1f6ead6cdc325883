-- A call, which has the output of the item that it calls, and whose arguments stand at the inputs: Reference,
-- "Call expressions"; upstream `infer/expr.rs`, `infer_call`.
use Rattle.std.specs.Prelude.{ℕ, ◌≡◌, ◌⊎◌, true, false, List, length, map, slice_get, Some, [], Bool}
use Rattle.infer_result.specs.Words.{ExprId, CallableDefId, Ty, Ty-F, out-Ty, AliasBound, GenericArg, TraitRef, Signature, signature_of, type_args, at_args, Node, inner, RawPath, names_item}
use Rattle.hir_types.specs.declared.ids.ExprOrPatId.TheVariants as node
use Rattle.hir_types.specs.declared.ty.Ty.TheVariants as ty
use Rattle.infer_result.specs.Words.hir_raw.declared.raw.RawExpr.TheVariants as expr
use Rattle.infer_result.specs.declared.result.InferenceResult.{InferenceResult}
use Rattle.infer_result.specs.declared.result.Seen.{Seen}
use Rattle.infer_result.specs.declared.diagnostics.InferenceDiagnostic.TheVariants as diagnostic
use Rattle.infer_result.specs.Table.{HasTy, HasDiagnostic, WasSeen}
use Rattle.infer_result.specs.Places.{Given}
use Rattle.infer_result.specs.Placing.{Placing}
use Rattle.infer_result.specs.Kinds.Tuple.{AllAt}
use Rattle.infer_result.specs.Unknown.{IsKnown}

-- ---- its rule

-- what is called is an item of this signature, at these types as arguments
pub record IsCallee (g : Given) (r : InferenceResult) (callee : ExprId) (σ : Signature) (ts : List Ty) : Type 0 where
  pub item : CallableDefId
  pub has : HasTy r callee (ty.FnDef item (type_args ts))
  pub signature : signature_of g.scope.facts item ≡ Some σ

-- the arguments at the inputs, or there is another number of them, which is said at the call
abbrev pub ArgsRule : Placing → ExprId → List ExprId → List Ty → Type 0
ArgsRule P n args ss = AllAt P.element args ss ⊎ P.wrong_count n (length ss) (length args)

-- what is called is an item, the arguments are at its inputs, and the call is at its output, at the arguments
-- of the item
pub record ItemCallRule (P : Placing) (g : Given) (r : InferenceResult) (n callee : ExprId) (args : List ExprId) : Type 0 where
  pub signature : Signature
  pub types : List Ty
  pub is_callee : IsCallee g r callee signature types
  pub arguments : ArgsRule P n args (map (at_args types) signature.inputs)
  pub has : HasTy r n (at_args types signature.output)

-- or it is no function: then the call has any type, and nothing is asked of its arguments
abbrev pub CallRule : Placing → Given → InferenceResult → ExprId → ExprId → List ExprId → Type 0
CallRule P g r n callee args = ItemCallRule P g r n callee args ⊎ (P.no_callee n × ((t : Ty) × HasTy r n t))

-- ---- what it asks of its arguments

-- the node is a call of an item, and its input at this position has this type, at the arguments of the item
pub record IsInputAt (g : Given) (r : InferenceResult) (n : ExprId) (i : ℕ) (t : Ty) : Type 0 where
  pub called : ExprId
  pub args : List ExprId
  pub is_call : slice_get g.body.exprs n.0 ≡ Some (expr.Call called args)
  pub signature : Signature
  pub types : List Ty
  pub is_callee : IsCallee g r called signature types
  pub input : slice_get (map (at_args types) signature.inputs) i ≡ Some t

-- ---- the type and the head that it has by itself, and what is written of its arguments

-- e is a call, by a path to it, of a function or a constructor of this signature, which has no generic
-- parameters
pub record CallsNonGeneric (g : Given) (e : ExprId) (σ : Signature) : Type 0 where
  pub called : ExprId
  pub args : List ExprId
  pub is_call : slice_get g.body.exprs e.0 ≡ Some (expr.Call called args)
  pub path : RawPath
  pub names : slice_get g.body.exprs called.0 ≡ Some (expr.Path path)
  pub item : CallableDefId
  pub is_item : names_item path ≡ Some item
  pub signature : signature_of g.scope.facts item ≡ Some σ
  pub non_generic : σ.params ≡ 0

-- the node is a call of a function or a constructor without generic parameters, and t is the written type of
-- the input at this position
pub record IsWrittenInput (g : Given) (n : Node) (i : ℕ) (t : Ty) : Type 0 where
  pub call : ExprId
  pub is_node : n ≡ inner (node.ExprId call)
  pub signature : Signature
  pub calls : CallsNonGeneric g call signature
  pub is_input : slice_get (map (at_args []) signature.inputs) i ≡ Some t

-- e is a call, by a path to it, of a function or a constructor of this signature
pub record CallsItem (g : Given) (e : ExprId) (σ : Signature) : Type 0 where
  pub called : ExprId
  pub args : List ExprId
  pub is_call : slice_get g.body.exprs e.0 ≡ Some (expr.Call called args)
  pub path : RawPath
  pub names : slice_get g.body.exprs called.0 ≡ Some (expr.Path path)
  pub item : CallableDefId
  pub is_item : names_item path ≡ Some item
  pub signature : signature_of g.scope.facts item ≡ Some σ

-- ---- what its complaints say

-- The node is a call of an item with so many inputs, has so many arguments, and these numbers differ.
pub record IsWrongCount (g : Given) (r : InferenceResult) (e : ExprId) (expected found : ℕ) : Type 0 where
  pub called : ExprId
  pub args : List ExprId
  pub is_call : slice_get g.body.exprs e.0 ≡ Some (expr.Call called args)
  pub signature : Signature
  pub types : List Ty
  pub is_callee : IsCallee g r called signature types
  pub is_expected : expected ≡ length signature.inputs
  pub is_found : found ≡ length args
  pub differ : expected ≡ found → ⊥

-- The node is a call, t is the recorded type of what it calls, and that was seen to be no function.
pub record IsNoFunction (g : Given) (r : InferenceResult) (e : ExprId) (t : Ty) : Type 0 where
  pub called : ExprId
  pub args : List ExprId
  pub is_call : slice_get g.body.exprs e.0 ≡ Some (expr.Call called args)
  pub has : HasTy r called t
  pub seen : WasSeen r e
  pub known : IsKnown t

-- function items, function pointers and closures can be called; of a hole that is not known
abbrev pub callable_step : Ty-F GenericArg Ty AliasBound TraitRef → Bool
callable_step Ty-F.Bool = false
callable_step Ty-F.Char = false
callable_step (Ty-F.Int i) = false
callable_step (Ty-F.Uint i) = false
callable_step (Ty-F.Float f) = false
callable_step Ty-F.Str = false
callable_step Ty-F.Never = false
callable_step (Ty-F.Tuple ts) = false
callable_step (Ty-F.Array t c) = false
callable_step (Ty-F.Slice t) = false
callable_step (Ty-F.Ref m r t) = false
callable_step (Ty-F.RawPtr m t) = false
callable_step (Ty-F.Adt i xs) = false
callable_step (Ty-F.FnDef i xs) = true
callable_step (Ty-F.FnPtr s ts t) = true
callable_step (Ty-F.Closure i ts t) = true
callable_step (Ty-F.Dynamic o bs ts) = false
callable_step (Ty-F.Param n) = false
callable_step (Ty-F.Projection i xs) = false
callable_step (Ty-F.AssociatedType i xs) = false
callable_step (Ty-F.Opaque i xs) = false
callable_step Ty-F.Error = false
callable_step (Ty-F.Var n) = false
callable_step (Ty-F.IntVar n) = false
callable_step Ty-F.Hole = false

abbrev pub is_callable : Ty → Bool
is_callable t = callable_step (out-Ty t)

-- the path names a function or a tuple constructor
pub record HasSignature (g : Given) (p : RawPath) : Type 0 where
  pub item : CallableDefId
  pub is_item : names_item p ≡ Some item
  pub signature : Signature
  pub is_signature : signature_of g.scope.facts item ≡ Some signature

abbrev pub IsPathToItem : Given → ExprId → Type 0
IsPathToItem g e = (p : RawPath) × (slice_get g.body.exprs e.0 ≡ Some (expr.Path p)) × HasSignature g p

-- Where `{unknown}` is not in the recorded type of what is called, the complaint stands at the call.
abbrev pub IsSaid : Given → InferenceResult → Seen → Type 0
IsSaid g r x =
    (call called : ExprId) (args : List ExprId) (t : Ty) → x.node ≡ node.ExprId call
    → slice_get g.body.exprs call.0 ≡ Some (expr.Call called args) → HasTy r called t → IsKnown t
    → HasDiagnostic r call (diagnostic.ExpectedFunction call t)
