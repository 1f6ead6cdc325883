-- `fn f() -> bool { id(true) }` where `fn id<T: Tr>(x: T) -> T`: the path needs that `bool` implements the trait, and nothing else does.
use Rattle.std.proofs.Common.{◌≡◌, inl, inr, List, [], ◌∷◌, map, refl, sym, ap, subst, ◌∙◌, Some, None, slice_get}
use Rattle.std.specs.Prelude.{true}
use Rattle.hir_types.specs.declared.ids.CallableDefId.TheVariants as callable
use Rattle.infer_result.specs.Words.{DefWithBodyId, Goal, Ty, Ty-F, out-Ty, out-roll-Ty, leaf, pair, type_part, arg_term, term_bool, arg_term_type, RawGoal, RawLiteral, type_args, Asked, goal_at, asked_goal}
use Rattle.hir_types.specs.declared.ids.ExprOrPatId.TheVariants as node
use Rattle.hir_types.specs.declared.head.Head.TheVariants as head
use Rattle.hir_types.specs.declared.ty.GenericArg.TheVariants as arg
use Rattle.hir_types.specs.declared.ty.Ty.TheVariants as ty
use Rattle.infer_result.specs.Words.hir_raw.declared.raw.RawArgs.TheVariants as args
use Rattle.infer_result.specs.Words.hir_raw.declared.raw.RawGoal.TheVariants as goal
use Rattle.infer_result.specs.Words.hir_raw.declared.raw.RawLiteral.TheVariants as literal
use Rattle.infer_result.specs.Own.{empty_table, Gap, InferenceResult, Given, item_args, IsNeeded, HoldsUnknown, GoalsHold}
use Rattle.infer_result.specs.declared.gaps.Gap.TheVariants as gap
use Rattle.infer_result.proofs.Samples.Small.{e, w}
use Rattle.infer_result.proofs.Samples.Calling.{function, calling, item}
use Rattle.infer_result.proofs.Samples.Call.{types, id, at_type}

abbrev bound : RawGoal
bound = goal.Trait (record { trait_ = record { 0 = 0 }; args = args.Types (w 0 ∷ []) })

abbrev yes : RawLiteral
yes = literal.Bool true

abbrev given : Given
given = calling types (record id { preds = bound ∷ [] }) yes ty.Bool

-- without a proof
abbrev table_of : List (List Gap) → InferenceResult
table_of gaps = record (empty_table given.body) {
  type_of_expr = Some (item (ty.Bool ∷ [])) ∷ Some ty.Bool ∷ Some ty.Bool ∷ Some ty.Bool ∷ [];
  expr_gaps = gaps;
}

-- that `bool` implements the trait
abbrev needed : Asked
needed = goal_at given.scope.facts (type_args (ty.Bool ∷ [])) bound

args_of : (ts : List Ty) → item_args (out-Ty (item ts)) ≡ type_args ts
args_of ts =
    ap item_args (ap out-Ty (sym (ty.rolls-FnDef (callable.FunctionId function) (type_args ts))) ∙ out-roll-Ty (Ty-F.FnDef (callable.FunctionId function) (type_args ts)))

is_needed : (gaps : List (List Gap)) → IsNeeded given (table_of gaps) (node.ExprId (e 0)) needed
is_needed gaps = record {
  «at» = 0;
  among = ap (λ xs. slice_get (map (goal_at given.scope.facts xs) (bound ∷ [])) 0) (args_of (ty.Bool ∷ []));
}

known : HoldsUnknown needed.parts → ⊥
known h =
    let parts = ap (λ u. pair (arg_term (arg.Ty u)) (leaf head.End)) (at_type ty.Bool) ∙ ap (λ u. pair u (leaf head.End)) (arg_term_type ty.Bool ∙ ap type_part term_bool) in
    elim (subst HoldsUnknown parts h) [
      | inl first ↦ elim first [ inl k ↦ k | inr k ↦ elim k [ inl m ↦ m | inr m ↦ m ] ]
      | inr end ↦ end
    ]

-- ---- refused

-- neither a proof nor a complaint
pub nothing_said : (d : DefWithBodyId) → GoalsHold d given (table_of []) → ⊥
nothing_said d h =
    elim (h.needs (node.ExprId (e 0)) needed (is_needed [])) [
      | inl proved ↦ (let listed = proved.listed in cc)
      | inr other ↦ elim other [ inl said ↦ (let listed = said.1.at in cc) | inr unknown ↦ known unknown.0 ]
    ]

-- a complaint at the argument, which needs nothing, of any goal
pub nothing_needed : (d : DefWithBodyId) (q : Goal) → GoalsHold d given (table_of ([] ∷ (gap.Unproved (node.ExprId (e 1)) q ∷ []) ∷ [])) → ⊥
nothing_needed d q h =
    let said = gap.Unproved (node.ExprId (e 1)) q in
    let needs = (h.gaps (node.ExprId (e 1)) said (record { gaps = said ∷ []; «at» = refl; number = 0; listed = refl })).1.needed in
    let among : slice_get [] needs.at ≡ Some (asked_goal q) = needs.among in
    cc

-- one complaint twice
pub said_twice : (d : DefWithBodyId) (q : Goal) → (let said = gap.Unproved (node.ExprId (e 0)) q in GoalsHold d given (table_of ((said ∷ said ∷ []) ∷ []))) → ⊥
said_twice d q h =
    let said = gap.Unproved (node.ExprId (e 0)) q in
    let numbers = h.once (node.ExprId (e 0)) said said (record { gaps = said ∷ said ∷ []; «at» = refl; number = 0; listed = refl }) (record { gaps = said ∷ said ∷ []; «at» = refl; number = 1; listed = refl }) refl in
    cc

-- what an associated type was found to be, without a proof
pub no_entry : (d : DefWithBodyId) (x : Ty × Ty) → GoalsHold d given (record (table_of []) { projections = x ∷ [] }) → ⊥
no_entry d x h = (let listed = (h.found.each 0 x refl).proved.listed in cc)

-- one twice
pub listed_twice : (d : DefWithBodyId) (x y : Ty × Ty) → x.0 ≡ y.0 → GoalsHold d given (record (table_of []) { projections = x ∷ y ∷ [] }) → ⊥
listed_twice d x y same h = (let numbers = h.found.once 0 1 x y refl refl same in cc)
