-- Goals that nodes need are without holes and `_`, and so are the types of a table.
use Rattle.std.specs.Prelude.{◌≡◌, ℕ, suc, List, [], ◌∷◌, length, map, slice_get, Option, Some, None, refl, true, IsTrue}
use Rattle.std.specs.Option.{option_and_then}
use Rattle.std.proofs.Common.{sym, ap, ◌∙◌, subst}
use Rattle.std.proofs.lemmas.Option.{same_Some}
use Rattle.infer_needs.specs.Words.{DefWithBodyId, ExprOrPatId, TypeRefId, AliasBound, GenericArg, TraitRef, Ty, Ty-F, out-Ty, Term, pair, term, RawBody, RawExpr, RawFn, RawGoal, RawPath, RawType, RawVariant, RawFacts, body_of, IsLawful, fn_aliases, variant_aliases, IsClosed, ty_fits, scope_of, params_of, generic_params, adt_params, count_or_none, IsRead, AllTypes, Asked, Each, args_at, goal_at, env_preds, IsWritten, InferenceResult, alias_goals_by, alias_goals_from, fn_alias_goals, variant_alias_goals, path_alias_goals, alias_goals, variant_preds, path_preds, expr_preds, item_args, item_path, needed_goals, needs_of, pat_needs_by, pat_needs_of, pat_needs_at, node_needs, scope_item, recorded, IsTableOf}
use Rattle.hir_types.specs.declared.ids.DefWithBodyId.TheVariants as def
use Rattle.hir_types.specs.declared.ids.ExprOrPatId.TheVariants as node
use Rattle.hir_types.specs.declared.ids.GenericDefId.TheVariants as generic
use Rattle.infer_needs.specs.Words.hir_raw.declared.raw.RawExpr.TheVariants as expr
use Rattle.infer_needs.specs.Words.hir_raw.declared.raw.RawPath.TheVariants as path
use Rattle.infer_needs.specs.Words.hir_raw.declared.raw.RawType.TheVariants as type
use Rattle.infer_needs.specs.Own.{IsFinalType, Fits, IsProvable, AreProvable}
use Rattle.infer_needs.proofs.Words.{every_type, types_both, each_append}
use Rattle.infer_needs.proofs.Closed.{AreClosed, type_closed, item_closed}
use Rattle.infer_needs.proofs.FitTerms.{type_same}
use Rattle.infer_needs.proofs.NoPlaceholders.{HaveNoHole, GoalHasNoHole, GoalsHaveNoHole, args_hold_at, goal_holds_at, preds_have_none, IsWithoutHole, alias_has_none, fn_aliases_have_none, variant_aliases_have_none}
use Rattle.infer_result.specs.Columns as column

-- ---- goals at arguments

module _ (raw : RawFacts) (law : IsLawful raw) (xs : List GenericArg) (args : AreClosed xs) where
  pairs : (a b : Term) → IsWritten a → IsWritten b → IsWritten (pair a b)
  pairs a b h k = (h, k)

  args_closed : (ws : List TypeRefId) → HaveNoHole raw ws → IsWritten (args_at raw xs ws)
  args_closed ws none = args_hold_at raw xs IsWritten (λ h is. is) pairs args ws none

  goal_provable : (g : RawGoal) → GoalHasNoHole raw g → IsProvable (goal_at raw xs g)
  goal_provable g none = goal_holds_at raw xs IsWritten (λ h is. is) pairs args g none

  goals_provable : (gs : List RawGoal) → GoalsHaveNoHole raw gs → AreProvable (map (goal_at raw xs) gs)
  goals_provable [] none = tt
  goals_provable (g ∷ gs) none = (goal_provable g (none 0 g refl), goals_provable gs (λ k x at. none (suc k) x at))

  -- the predicates of the item that a path names

  of_variant : (o : Option RawVariant) → AreProvable (map (goal_at raw xs) (variant_preds raw o))
  of_variant None = tt
  of_variant (Some v) = goals_provable (env_preds raw (generic.AdtId v.adt)) (preds_have_none raw law (generic.AdtId v.adt))

  preds_provable : (p : RawPath) → AreProvable (map (goal_at raw xs) (path_preds raw p))
  preds_provable (path.Function f) = goals_provable (env_preds raw (generic.FunctionId f)) (preds_have_none raw law (generic.FunctionId f))
  preds_provable (path.Local v) = tt
  preds_provable (path.Ctor v) = of_variant (slice_get raw.variants v.0)

  expr_preds_provable : (x : RawExpr) → AreProvable (map (goal_at raw xs) (expr_preds raw x))
  expr_preds_provable (expr.Path p) = preds_provable p
  expr_preds_provable _ = tt

  -- that associated types of a signature are these arguments

  alias_provable : (n k : ℕ) → IsWithoutHole raw law k → (o : Option RawType) → slice_get raw.types k ≡ o → AreProvable (alias_goals_by raw xs n o)
  alias_provable n k none (Some (type.Projection a ws)) at = ((args_closed ws (alias_has_none raw law k a ws at none), args n), tt)
  alias_provable n k none _ at = tt

  aliases_provable : (n : ℕ) (ks : List ℕ) → Each (IsWithoutHole raw law) ks → AreProvable (alias_goals_from raw xs n ks)
  aliases_provable n [] none = tt
  aliases_provable n (k ∷ ks) none =
      each_append IsProvable (alias_goals_by raw xs n (slice_get raw.types k)) (alias_goals_from raw xs (suc n) ks) (alias_provable n k none.0 (slice_get raw.types k) refl) (aliases_provable (suc n) ks none.1)

  fn_provable : (f : ℕ) (o : Option RawFn) → slice_get raw.fns f ≡ o → AreProvable (fn_alias_goals raw xs o)
  fn_provable f None at = tt
  fn_provable f (Some x) at = aliases_provable (length x.params) (fn_aliases raw.types x) (fn_aliases_have_none raw law f x at)

  variant_provable : (v : ℕ) (o : Option RawVariant) → slice_get raw.variants v ≡ o → AreProvable (variant_alias_goals raw xs o)
  variant_provable v None at = tt
  variant_provable v (Some x) at = aliases_provable (count_or_none (adt_params raw x.adt)) (variant_aliases raw.types x) (variant_aliases_have_none raw law v x at)

  path_provable : (p : RawPath) → AreProvable (path_alias_goals raw xs p)
  path_provable (path.Function f) = fn_provable f.0 (slice_get raw.fns f.0) refl
  path_provable (path.Local v) = tt
  path_provable (path.Ctor v) = variant_provable v.0 (slice_get raw.variants v.0) refl

  alias_needs_provable : (x : RawExpr) → AreProvable (alias_goals raw xs x)
  alias_needs_provable (expr.Path p) = path_provable p
  alias_needs_provable _ = tt

expr_provable : (raw : RawFacts) → IsLawful raw → (x : RawExpr) (t : Ty) → IsWritten (term t) → AreProvable (needed_goals raw x t)
expr_provable raw law x t closed =
    let xs = item_args (out-Ty t) in
    let args = item_closed t closed in
    each_append IsProvable (map (goal_at raw xs) (expr_preds raw x)) (alias_goals raw xs x) (expr_preds_provable raw law xs args x) (alias_needs_provable raw law xs args x)

-- of a pattern's item
item_provable : (raw : RawFacts) → IsLawful raw → (y : Ty-F GenericArg Ty AliasBound TraitRef) → AreClosed (item_args y) → AreProvable (pat_needs_by raw y)
item_provable raw law (Ty-F.FnDef id xs) args = path_provable raw law xs args (item_path id)
item_provable raw law _ args = tt

-- ---- what the nodes of a body need

-- a body is in the scope of its definition
pub same_scope : (raw : RawFacts) (d : DefWithBodyId) (b : RawBody) → body_of raw d ≡ Some b → generic_params raw (scope_item raw d) ≡ params_of raw d
same_scope raw (def.FunctionId f) b is = refl
same_scope raw (def.ConstId c) b is = absurd (cc)
same_scope raw (def.StaticId s) b is = absurd (cc)
same_scope raw (def.VariantId v) b is = absurd (cc)

pub recorded_at : (o : Option (Option Ty)) (t : Ty) → option_and_then (λ x. x) o ≡ Some t → o ≡ Some (Some t)
recorded_at None t e = cc
recorded_at (Some None) t e = cc
recorded_at (Some (Some u)) t e = ap (λ x. Some x) e

module _ (raw : RawFacts) (law : IsLawful raw) (d : DefWithBodyId) (r : InferenceResult) (is : IsTableOf raw d r) where
  type_is_closed : (k : ℕ) (t : Ty) → slice_get r.type_of_expr k ≡ Some (Some t) → IsWritten (term t)
  type_is_closed k t at = type_closed (scope_of raw d) t (is.typed.shape.closed.each column.type_of_expr k t at) (is.fit.each column.type_of_expr k t at)

  of_type : (k : ℕ) (x : RawExpr) (o : Option Ty) → recorded r.type_of_expr k ≡ o → AreProvable (needs_of raw (Some x) o)
  of_type k x None at = tt
  of_type k x (Some t) at = expr_provable raw law x t (type_is_closed k t (recorded_at (slice_get r.type_of_expr k) t at))

  -- each goal can be proved
  pub needs_provable : (k : ℕ) (x : RawExpr) → AreProvable (needs_of raw (Some x) (recorded r.type_of_expr k))
  needs_provable k x = of_type k x (recorded r.type_of_expr k) refl

  item_is_closed : (k : ℕ) (t : Ty) → slice_get r.item_of_pat k ≡ Some (Some t) → IsWritten (term t)
  item_is_closed k t at = type_closed (scope_of raw d) t (is.typed.shape.closed.each column.item_of_pat k t at) (is.fit.each column.item_of_pat k t at)

  of_item : (k : ℕ) (o : Option Ty) → recorded r.item_of_pat k ≡ o → AreProvable (pat_needs_of raw o)
  of_item k None at = tt
  of_item k (Some t) at = item_provable raw law (out-Ty t) (item_closed t (item_is_closed k t (recorded_at (slice_get r.item_of_pat k) t at)))

  pub pat_needs_provable : (k : ℕ) → AreProvable (pat_needs_at raw r k)
  pat_needs_provable k = of_item k (recorded r.item_of_pat k) refl

  of_place : (k : ℕ) (o : Option RawExpr) → AreProvable (needs_of raw o (recorded r.type_of_expr k))
  of_place k None = tt
  of_place k (Some x) = needs_provable k x

  -- so it is at each node
  pub node_provable : (b : RawBody) (n : ExprOrPatId) → AreProvable (node_needs raw b r n)
  node_provable b (node.ExprId e) = of_place e.0 (slice_get b.exprs e.0)
  node_provable b (node.PatId p) = pat_needs_provable p.0

  is_final : (t : Ty) → IsClosed t → ty_fits (scope_of raw d) t ≡ true → IsRead (term t) → IsFinalType raw (scope_item raw d) t
  is_final t closed fits read = record {
    read = read;
    written = type_closed (scope_of raw d) t closed fits;
    fits = subst (λ (m : ℕ). Fits raw m (term t)) (sym (same_scope raw d is.body is.is_body)) (sym (type_same (scope_of raw d) t) ∙ fits);
  }

  -- each type fits, and in none is something left to be read, or a hole
  pub table_final : AllTypes (IsFinalType raw (scope_item raw d)) r
  table_final =
      let Fit : Ty → Type 0 = λ t. IsTrue (ty_fits (scope_of raw d) t) in
      let Read : Ty → Type 0 = λ t. IsRead (term t) in
      let closed_fit : AllTypes (λ t. IsClosed t × Fit t) r = types_both IsClosed Fit r is.typed.shape.closed is.fit in
      every_type (λ t. (IsClosed t × Fit t) × Read t) (IsFinalType raw (scope_item raw d)) r (λ t h. is_final t h.0.0 h.0.1 h.1) (types_both (λ t. IsClosed t × Fit t) Read r closed_fit is.read)

-- a table has as many places for items of patterns as its body has patterns
pub as_many_items : (raw : RawFacts) (d : DefWithBodyId) (r : InferenceResult) (b : RawBody) → IsTableOf raw d r → body_of raw d ≡ Some b → length r.item_of_pat ≡ length b.pats
as_many_items raw d r b h is = h.typed.shape.of_body.long column.item_of_pat ∙ ap (λ (x : RawBody). length x.pats) (same_Some h.body b (sym h.is_body ∙ is))

-- ---- what is made of a recorded type

-- it is what the expression needs
pub needed_here : (raw made : RawFacts) (x : RawExpr) (ts : List (Option Ty)) (n k : ℕ) (t : Ty) (gs : List Asked) → gs ≡ needed_goals made x t → made ≡ raw → Some t ≡ recorded ts k → k ≡ n → gs ≡ needs_of raw (Some x) (recorded ts n)
needed_here raw made x ts n k t gs is same has at = is ∙ ap (λ (z : RawFacts). needed_goals z x t) same ∙ ap (λ (o : Option Ty). needs_of raw (Some x) o) (has ∙ ap (λ (m : ℕ). recorded ts m) at)

-- and what the pattern needs
pub pat_needed_here : (raw made : RawFacts) (r : InferenceResult) (n k : ℕ) (t : Ty) (gs : List Asked) → gs ≡ pat_needs_by made (out-Ty t) → made ≡ raw → Some t ≡ recorded r.item_of_pat k → k ≡ n → gs ≡ pat_needs_at raw r n
pat_needed_here raw made r n k t gs is same has at = is ∙ ap (λ (z : RawFacts). pat_needs_by z (out-Ty t)) same ∙ ap (λ (o : Option Ty). pat_needs_of raw o) (has ∙ ap (λ (m : ℕ). recorded r.item_of_pat m) at)
