-- Goals that nodes need: each path to an item the predicates of the item, and what the associated types in its signature or its fields are,
-- at the arguments that are recorded; each pattern of a constructor over patterns what the associated types in the fields are. Each is
-- proved, or it is said that it is not, or `{unknown}` stands in it, could not have been read, and it may hold with other types there
-- (The Rust Reference, "Trait and lifetime bounds": bounds are checked where an item is used).
use Rattle.std.specs.Prelude.{◌≡◌, ◌⊎◌, ℕ, List, [], ◌++◌, map, slice_get, Option, Some, None}
use Rattle.std.proofs.Common.{ap, ◌∙◌, append-nil}
use Rattle.infer_result.specs.Words.{CallableDefId, DefWithBodyId, GenericDefId, ExprOrPatId, TypeAliasId, Goal, AliasBound, GenericArg, TraitRef, Ty, Ty-F, out-Ty, Same, term, RawBody, RawExpr, RawGoal, RawPath, RawVariant, RawFacts, Fill, IsFilling, Asked, System, answers, Proof, goal_at, env_preds, asked_goal, IsSystemOf, AreProofs}
use Rattle.hir_types.specs.declared.ids.CallableDefId.TheVariants as callable
use Rattle.hir_types.specs.declared.ids.DefWithBodyId.TheVariants as def
use Rattle.hir_types.specs.declared.ids.GenericDefId.TheVariants as generic
use Rattle.hir_types.specs.declared.ids.ExprOrPatId.TheVariants as node
use Rattle.hir_types.specs.declared.goal.Goal.TheVariants as goal
use Rattle.hir_types.specs.declared.ty.Ty.TheVariants as ty
use Rattle.infer_result.specs.Words.hir_raw.declared.raw.RawExpr.TheVariants as expr
use Rattle.infer_result.specs.Words.hir_raw.declared.raw.RawPath.TheVariants as path
pub use Rattle.infer_result.specs.Proved.{HoldsUnknown, HoldsNoHole, IsProved}
use Rattle.infer_result.specs.CannotHold.{MayHold, HasCause}
use Rattle.infer_result.specs.AliasNeeds.{alias_goals, path_alias_goals}
use Rattle.infer_result.specs.Closed.{AllTypes}
use Rattle.infer_result.specs.Projections.{IsListedAs, GoalReads, AreFound, HasEntry, IsAboutAlias, stays_at, NoneIsLeft}
use Rattle.infer_result.specs.declared.gaps.Gap.{Gap}
use Rattle.infer_result.specs.declared.gaps.Gap.TheVariants as gap
use Rattle.infer_result.specs.declared.result.InferenceResult.{InferenceResult}
use Rattle.infer_result.specs.Places.{Given}
use Rattle.infer_result.specs.Table.{recorded, listed_gaps}

-- ---- what nodes need

-- the predicates of a constructor are those of its adt
abbrev pub variant_preds : RawFacts → Option RawVariant → List RawGoal
variant_preds raw None = []
variant_preds raw (Some v) = env_preds raw (generic.AdtId v.adt)

-- the predicates of the item that a path names
abbrev pub path_preds : RawFacts → RawPath → List RawGoal
path_preds raw (path.Local v) = []
path_preds raw (path.Function f) = env_preds raw (generic.FunctionId f)
path_preds raw (path.Ctor v) = variant_preds raw (slice_get raw.variants v.0)

abbrev pub expr_preds : RawFacts → RawExpr → List RawGoal
expr_preds raw (expr.Path p) = path_preds raw p
expr_preds raw _ = []

-- the arguments of an item, of which this is the type, or the type of its values
abbrev pub item_args : Ty-F GenericArg Ty AliasBound TraitRef → List GenericArg
item_args (Ty-F.FnDef id xs) = xs
item_args (Ty-F.Adt id xs) = xs
item_args _ = []

-- what an expression of this type needs: the predicates, then what the associated types in its signature are
abbrev pub needed_goals : RawFacts → RawExpr → Ty → List Asked
needed_goals raw x t = map (goal_at raw (item_args (out-Ty t))) (expr_preds raw x) ++ alias_goals raw (item_args (out-Ty t)) x

-- where none is for an associated type, these are the predicates
pub needs_preds : (raw : RawFacts) (x : RawExpr) (t : Ty) → alias_goals raw (item_args (out-Ty t)) x ≡ []
    → needed_goals raw x t ≡ map (goal_at raw (item_args (out-Ty t))) (expr_preds raw x)
needs_preds raw x t none = let preds = map (goal_at raw (item_args (out-Ty t))) (expr_preds raw x) in
    ap (λ gs. preds ++ gs) none ∙ append-nil preds

-- the path to an item
abbrev pub item_path : CallableDefId → RawPath
item_path (callable.FunctionId f) = path.Function f
item_path (callable.VariantId v) = path.Ctor v

-- what a path to the function or constructor needs of which this is the type
abbrev pub callee_needs_by : RawFacts → Ty → Ty-F GenericArg Ty AliasBound TraitRef → List Asked
callee_needs_by raw t (Ty-F.FnDef id xs) = needed_goals raw (expr.Path (item_path id)) t
callee_needs_by raw t _ = []

abbrev pub callee_needs : RawFacts → Ty → List Asked
callee_needs raw t = callee_needs_by raw t (out-Ty t)

-- where there is an expression, and its type is recorded
abbrev pub needs_of : RawFacts → Option RawExpr → Option Ty → List Asked
needs_of raw (Some x) (Some t) = needed_goals raw x t
needs_of raw (Some x) None = []
needs_of raw None o = []

-- what the expression of this number needs
abbrev pub needs_at : RawFacts → RawBody → InferenceResult → ℕ → List Asked
needs_at raw b r n = needs_of raw (slice_get b.exprs n) (recorded r.type_of_expr n)

-- what a pattern of a constructor needs, of which this is the item: what the associated types in the fields are
abbrev pub pat_needs_by : RawFacts → Ty-F GenericArg Ty AliasBound TraitRef → List Asked
pat_needs_by raw (Ty-F.FnDef id xs) = path_alias_goals raw xs (item_path id)
pat_needs_by raw _ = []

-- where an item is recorded
abbrev pub pat_needs_of : RawFacts → Option Ty → List Asked
pat_needs_of raw (Some t) = pat_needs_by raw (out-Ty t)
pat_needs_of raw None = []

-- what the pattern of this number needs
abbrev pub pat_needs_at : RawFacts → InferenceResult → ℕ → List Asked
pat_needs_at raw r n = pat_needs_of raw (recorded r.item_of_pat n)

abbrev pub node_needs : RawFacts → RawBody → InferenceResult → ExprOrPatId → List Asked
node_needs raw b r (node.ExprId e) = needs_at raw b r e.0
node_needs raw b r (node.PatId p) = pat_needs_at raw r p.0

-- the node needs the goal
pub record IsNeeded (g : Given) (r : InferenceResult) (n : ExprOrPatId) (a : Asked) : Type 0 where
  pub at : ℕ
  pub among : slice_get (node_needs g.scope.facts g.body r n) at ≡ Some a

-- ---- what becomes of them

-- the gap is listed at the node
pub record HasGap (r : InferenceResult) (n : ExprOrPatId) (x : Gap) : Type 0 where
  pub gaps : List Gap
  pub at : listed_gaps r n ≡ Some gaps
  pub number : ℕ
  pub listed : slice_get gaps number ≡ Some x

-- what a gap says at its node: that a goal has no proof, or that an associated type is this type as well
pub data Saying : Type 0 where
  no_proof : Asked → Saying
  clashes : Ty → Ty → Saying

abbrev pub gap_says : Gap → Saying
gap_says (gap.Unproved n q) = no_proof (asked_goal q)
gap_says (gap.Clash n a t u) = clashes a u

-- it is said at the node that this has no proof
abbrev pub IsUnproved : InferenceResult → ExprOrPatId → Asked → Type 0
IsUnproved r n a = (q : Goal) × HasGap r n (gap.Unproved n q) × (asked_goal q ≡ a)

-- it is said there that what this, once it is read, asks an associated type to be is another type than was found before
abbrev pub IsClash : InferenceResult → ExprOrPatId → Asked → Type 0
IsClash r n a =
    (k : TypeAliasId) × (xs : List GenericArg) × (t : Ty) × (u : Ty) × HasGap r n (gap.Clash n (ty.Projection k xs) t u)
    × (asked_goal (goal.Projection k xs u) ≡ a)

-- it names its node, which needs the goal; no hole stands in it, and its answer isn't Yes; where `{unknown}` stands in it, no types there
-- make it hold, or what stands there could have been read
pub record IsTrueUnproved (g : Given) (f : System) (r : InferenceResult) (n : ExprOrPatId) (q : Goal) : Type 0 where
  pub needed : IsNeeded g r n (asked_goal q)
  pub whole : HoldsNoHole (asked_goal q).parts
  pub known : HoldsUnknown (asked_goal q).parts → HasCause g.scope f g.scope.facts.limits.goal_depth (asked_goal q)
  pub fails : (answers f g.scope.facts.limits.goal_depth).Yes (asked_goal q) → ⊥

-- the associated type is listed as the first type; that it is the second, another one and not itself, is what the node needs, once it is
-- read, and it has a proof. No hole stands in it
pub record IsTrueClash (g : Given) (f : System) (r : InferenceResult) (n : ExprOrPatId) (a first second : Ty) : Type 0 where
  pub alias : TypeAliasId
  pub args : List GenericArg
  pub is : a ≡ ty.Projection alias args
  pub listed : IsListedAs r.projections alias args first
  pub need : Asked
  pub needed : IsNeeded g r n need
  pub reads : GoalReads f g.scope.facts.limits.goal_depth need (asked_goal (goal.Projection alias args second))
  pub proved : IsProved r (asked_goal (goal.Projection alias args second))
  pub differ : Same first second → ⊥
  pub other : term second ≡ stays_at alias args → ⊥
  pub whole : HoldsNoHole (asked_goal (goal.Projection alias args second)).parts

abbrev pub IsTrueGap : Given → System → InferenceResult → ExprOrPatId → Gap → Type 0
IsTrueGap g f r n (gap.Unproved m q) = (m ≡ n) × IsTrueUnproved g f r n q
IsTrueGap g f r n (gap.Clash m a t u) = (m ≡ n) × IsTrueClash g f r n a t u

-- ---- the goals of a table

-- the table with these proofs, what associated types were found to be, and what could not be shown at expressions and at patterns
abbrev pub with_goals : List Proof → List (Ty × Ty) → List (List Gap) → List (List Gap) → InferenceResult → InferenceResult
with_goals ps js gs hs r = record r { proofs = ps; projections = js; expr_gaps = gs; pat_gaps = hs }

-- the adt of a variant
abbrev pub adt_item : Option RawVariant → GenericDefId
adt_item None = generic.AdtId (record { 0 = 0 })
adt_item (Some x) = generic.AdtId x.adt

-- the item in whose scope the body is: what it states holds there
abbrev pub scope_item : RawFacts → DefWithBodyId → GenericDefId
scope_item raw (def.FunctionId f) = generic.FunctionId f
scope_item raw (def.ConstId c) = generic.ConstId c
scope_item raw (def.StaticId s) = generic.StaticId s
scope_item raw (def.VariantId v) = adt_item (slice_get raw.variants v.0)

-- the proofs that are listed are proofs; each goal that a node needs is proved, or it is said that it isn't, or `{unknown}` stands in it,
-- it isn't known that no type in its place makes it hold, and what stands there could not have been read; and what is said is so, and said
-- once at each node. What associated types were found to be is
-- listed: what a goal that is needed, once it is read, asks one to be, or another type, and this is said
pub record GoalsHold (d : DefWithBodyId) (g : Given) (r : InferenceResult) : Type 0 where
  pub system : System
  pub of_item : IsSystemOf g.scope.facts (scope_item g.scope.facts d) system
  pub proofs : (s : Fill) → IsFilling s → AreProofs g.scope.facts system (answers system g.scope.facts.limits.goal_depth).Alias s r.proofs
  pub needs : (n : ExprOrPatId) (a : Asked) → IsNeeded g r n a → IsProved r a
      ⊎ (IsUnproved r n a ⊎ MayHold g.scope system g.scope.facts.limits.goal_depth a)
  pub gaps : (n : ExprOrPatId) (x : Gap) → HasGap r n x → IsTrueGap g system r n x
  pub once : (n : ExprOrPatId) (x y : Gap) (j : HasGap r n x) (k : HasGap r n y) → gap_says x ≡ gap_says y → j.number ≡ k.number
  pub found : AreFound r
  pub entries : (n : ExprOrPatId) (a b : Asked) → IsNeeded g r n a → (HoldsUnknown a.parts → ⊥)
      → GoalReads system g.scope.facts.limits.goal_depth a b → IsAboutAlias b
      → HasEntry r.projections b ⊎ (IsClash r n b ⊎ IsUnproved r n a)

-- in no type of the table is an associated type left that could be read, by the sources of the item, unless the table says what it is
pub record HasNoneLeft (d : DefWithBodyId) (g : Given) (r : InferenceResult) : Type 0 where
  pub system : System
  pub of_item : IsSystemOf g.scope.facts (scope_item g.scope.facts d) system
  pub left : AllTypes (NoneIsLeft system g.scope.facts.limits.goal_depth r.projections) r

-- the answer to each goal that a node needs is Yes
abbrev pub NeedsHold : DefWithBodyId → Given → InferenceResult → Type 0
NeedsHold d g r = (f : System) → IsSystemOf g.scope.facts (scope_item g.scope.facts d) f → (n : ExprOrPatId) (a : Asked) → IsNeeded g r n a
    → (answers f g.scope.facts.limits.goal_depth).Yes a
