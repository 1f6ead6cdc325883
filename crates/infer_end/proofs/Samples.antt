-- What selection is not said to come to: tables with a node that has no type, what was settled by other sources than the definition's, and what was
-- settled without what selection bound.
use Rattle.std.specs.Prelude.{◌<◌, length, false}
use Rattle.std.proofs.Common.{◌≡◌, ◌∙◌, ℕ, zero, suc, refl, sym, ap, subst, inl, inr, arith, List, [], ◌∷◌, map, slice_get, Option, Some, None, option_map}
use Rattle.hir_types.specs.declared.ty.Ty.TheVariants as ty
use Rattle.infer_end.specs.Words.{Assignment, folded, DefWithBodyId, GenericDefId, ExprId, TypeAliasId, GenericArg, Ty, term_associated_type, RawBody, RawFacts, has_associated, completion, Grew, ItemSources, IsSystemOf, system, scope_item, Given, MismatchAt, mismatch, InferenceResult, InferenceContext, closed_types, SettlesNeeds}
use Rattle.infer_end.specs.Words.infer_result.Columns as column
use Rattle.infer_end.specs.Own.{IsSelectedBody, ComesOfSelection, IsFull, KeepsGeneral, HoldsStaying, NoneStays}

-- ---- types

-- a place without a type has none before its holes are closed
untyped_before : (f : Ty → Ty) (ts : List (Option Ty)) (n : ℕ) → slice_get (map (option_map f) ts) n ≡ Some None → (n < length ts) × (slice_get ts n ≡ Some None)
untyped_before f [] n is = absurd (cc)
untyped_before f (None ∷ ts) zero is = (omega arith, refl)
untyped_before f (Some t ∷ ts) zero is = absurd (cc)
untyped_before f (o ∷ ts) (suc n) is = let q = untyped_before f ts n is in (omega (arith, q.0), q.1)

none_untyped : (a : Assignment) (ts : List (Option Ty)) (n : ℕ) → IsFull ts → slice_get (closed_types a ts) n ≡ Some None → ⊥
none_untyped a ts n full is =
    let q = untyped_before (folded a) ts n is in
    let typed = full n q.0 in
    let both : Some (Some typed.0) ≡ Some None = sym typed.1 ∙ q.1 in
    absurd (cc)

types_kept : (raw : RawFacts) (d : DefWithBodyId) (old new : InferenceContext) → KeepsGeneral raw d old new → new.result.type_of_expr ≡ old.result.type_of_expr
types_kept raw d old new (inl (plain, (x, resolved, is))) = ap (λ (z : InferenceContext). z.result.type_of_expr) is
types_kept raw d old new (inr (other, is)) = ap (λ (z : InferenceContext). z.result.type_of_expr) is

module _ (raw : RawFacts) (d : DefWithBodyId) (b : RawBody) (r : InferenceResult) (s : ComesOfSelection raw d b r) where
  -- the types of the table are those of the walked body, with what stands for their holes
  types_are : r.type_of_expr ≡ closed_types (completion s.found.goals.table) s.selected.settled.result.type_of_expr
  types_are =
      ap (λ (x : InferenceResult). x.type_of_expr) s.is
      ∙ (ap (λ (x : InferenceResult). closed_types (completion s.found.goals.table) x.type_of_expr) s.selected.last.only.result
      ∙ ap (closed_types (completion s.found.goals.table)) (types_kept raw d s.selected.settled s.selected.walked s.selected.kept))

  -- so a table in which an expression has none is refused
  pub untyped_refused : (n : ℕ) → slice_get r.type_of_expr n ≡ Some None → ⊥
  untyped_refused n is =
      none_untyped (completion s.found.goals.table) s.selected.settled.result.type_of_expr n s.selected.types.exprs
      (subst (λ (ts : List (Option Ty)). slice_get ts n ≡ Some None) types_are is)

-- ---- sources

-- what was settled was answered by what goals of the definition's item are answered by: other sources are refused
pub answered_by_item : (raw : RawFacts) (d : DefWithBodyId) (b : RawBody) (z : InferenceContext) (s : IsSelectedBody raw d b z) → IsSystemOf raw (scope_item raw d) (system s.settled.goals.sources.sources)
answered_by_item raw d b z s =
    let settles = s.read.settles in
    let same : s.settled.goals.sources ≡ settles.read.goals.sources = settles.settles.binds.follows.sources ∙ settles.selects.binds.follows.sources in
    let are : IsSystemOf s.settled.goals.sources.facts s.settled.goals.sources.item (system s.settled.goals.sources.sources) =
    subst (λ (x : ItemSources). IsSystemOf x.facts x.item (system x.sources)) (sym same) settles.selects.selects.of_item
    in
    subst (λ (i : GenericDefId). IsSystemOf raw i (system s.settled.goals.sources.sources)) s.item
    (subst (λ (x : RawFacts). IsSystemOf x s.settled.goals.sources.item (system s.settled.goals.sources.sources)) s.facts are)

-- ---- what selection bound

-- it stands bound in what was settled: a table of holes that lacks it is refused
pub bound_stays : (g : Given) (old new : InferenceContext) (s : SettlesNeeds g old new) → Grew s.selected.goals.table new.goals.table
bound_stays g old new s = s.settles.binds.follows.grew

-- ---- mismatches between an associated type and what it is

-- in a body where no associated type may be a type none stands in a mismatch: one that says `expected=bool actual=<u8 as Tr>::Out` is refused
pub false_mismatch : (raw : RawFacts) (d : DefWithBodyId) (r : InferenceResult) → NoneStays raw d r → has_associated raw d ≡ false → (e : ExprId) (t : Ty) (k : TypeAliasId) (xs : List GenericArg) → MismatchAt r e t (ty.AssociatedType k xs) → ⊥
false_mismatch raw d r stays none e t k xs at = ((stays none).each column.expr_mismatches e.0 (mismatch t (ty.AssociatedType k xs)) at).1 (subst HoldsStaying (sym (term_associated_type k xs)) (inl tt))
