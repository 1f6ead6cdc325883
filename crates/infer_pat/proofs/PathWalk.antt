-- Paths, under each assignment.
use Rattle.std.proofs.Common.{◌≡◌, refl, subst, ◌∙◌, ap, Option, Some, slice_get, inl, inr, arith, true, false, sym, option_and_then, None, length, option_map, ℕ, List, map, [], ◌+◌, ◌∷◌, ◌++◌}
use Rattle.std.proofs.lemmas.Bool.{eq-eqb}
use Rattle.std.proofs.lemmas.List.{length-map, map-append}
use Rattle.infer_pat.specs.Words.{ExprId, VariantId, Ty, folded, Assignment, BindingId, FunctionId, CallableDefId, GenericArg, RawPath, Schedule, IsCarriedType, RawAdt, RawFn, RawType, RawVariant, has_params, callable_params, fn_arity, variant_arity, adt_params, Scope, type_args, Signature, signature_of, ctor_type, State, hole_count, stays_itself, InferenceResult, HasTy, ExprVariant, BindingTy, Given, IsVariantAt, IsCtorAt, PathRule, IsOfBody, Extends, Found, IsInside, KindWalked, IsItem, IsVariant, InferenceContext, Closes, found_under, expected_under, IsSound, Within, KindDone, ArePartTypes, TellsRecorded, item_params, IsFine, AllFine}
use Rattle.hir_types.specs.declared.ids.CallableDefId.TheVariants as callable
use Rattle.hir_types.specs.declared.ty.Ty.TheVariants as ty
use Rattle.hir_types.specs.declared.head.HoleKind.TheVariants as kind
use Rattle.hir_types.specs.declared.ty.GenericArg.TheVariants as arg
use Rattle.infer_pat.specs.Words.hir_raw.declared.raw.RawPath.TheVariants as path
use Rattle.infer_pat.specs.Words.hir_raw.declared.raw.RawExpr.TheVariants as expr
use Rattle.infer_pat.specs.Words.hir_raw.declared.raw.RawCtor.TheVariants as ctor
use Rattle.infer_pat.proofs.Words.{grew_itself, ctor_type_of_unit, ctor_type_of_tuple, expr_ahead, expr_named, rule_of, leaf_done, carried_expr, same_found, closes_earlier, At-unclosed, At-closed, fine_closed, fn_def_closed, adt_closed, told_same, within_under, local_tells, function_tells, ctor_tells, every_from, fine_fn_def, fine_adt, tuple_signature, holed}
use Rattle.infer_pat.specs.Own.{IsPathType, NamesTyped, PathDone, AreFreshArgs}
use Rattle.infer_pat.proofs.PatHoles.{no_part_yet, one_part_more, new_one}
use Rattle.infer_pat.specs.Words.infer_result.Columns as column

path_rule : (g : Given) (r q : InferenceResult) (e : ExprId) (p : RawPath) (t : Ty) → Extends r q → HasTy q e t → ((v : VariantId) → p ≡ path.Ctor v → ExprVariant r e v) → IsPathType g r p t → PathRule g q e p
path_rule g r q e (path.Local v) t x has named k = (t, has, x.columns column.type_of_binding v.0 t k)
path_rule g r q e (path.Function f) t x has named (ts, is, count) = (ts, subst (λ u. HasTy q e u) is has, count)
path_rule g r q e (path.Ctor v) t x has named k = (t, has, k, x.columns column.expr_variants e.0 v (named v refl))

pub path_done : (g : Given) (s : Schedule) (e : ExprId) (x : Option Ty) (p : RawPath) (t : Ty) (c : Found) → IsInside g s e x c → slice_get g.body.exprs e.0 ≡ Some (expr.Path p) → IsCarriedType t → IsPathType g c.result p t → KindWalked g s e x t c c
path_done g s e x p t c h is carried k =
    leaf_done g s e x t c h (expr_ahead g.body s e (expr.Path p) c.clock h.ready.law.schedule h.within is h.clock).1 carried
    (λ r q has. rule_of g r e (expr.Path p) is (path_rule g c.result r e p t q has (λ v n. expr_named g.body c.result h.state.variants e v (is ∙ ap (λ y. Some (expr.Path y)) n)) k))

-- a path names a local, which has a type, a function or a constructor
pub path_names : (g : Given) (s : Schedule) (e : ExprId) (x : Option Ty) (p : RawPath) (c : Found) → IsInside g s e x c → slice_get g.body.exprs e.0 ≡ Some (expr.Path p) → NamesTyped g c.result p
path_names g s e x (path.Local v) c h is = (let q = h.ready.law.scopes e v is in h.state.bound q.0 v q.1 (omega (arith, h.clock, q.2)))
path_names g s e x (path.Function f) c h is = h.ready.written.functions e f is
path_names g s e x (path.Ctor v) c h is = h.ready.written.constructors e v is

pub path_kind : (g : Given) (s : Schedule) (e : ExprId) (x : Option Ty) (p : RawPath) (t : Ty) (c new : InferenceContext) → Within g s e x c → slice_get g.body.exprs e.0 ≡ Some (expr.Path p) → PathDone g p t c new → KindDone g s e x t c new
path_kind g s e x p t c new h is d = record {
  follows = record {
    clock = omega (arith, d.clock);
    grew = d.grew;
    sources = d.stays.sources;
    of_body = subst (λ r. IsOfBody g.body r) (sym d.result) h.state.of_body;
    sound = d.sound;
    told = told_same g c new d.result d.stays d.grew;
  };
  fine = d.fine;
  tells = d.tells e is;
  each = λ a q.
      let o : Closes a c = closes_earlier a c new d.grew q in
      subst (λ f. KindWalked g s e (expected_under a x) (folded a t) (found_under a c) f) (sym (same_found a c new d.result d.asked d.clock))
      (path_done g s e (expected_under a x) p (folded a t) (found_under a c) (within_under g s a c o e x h) is (fine_closed g.scope a t q.closing d.fine.heads) (d.each a q));
}

names_open : (a : Assignment) (g : Given) (c : InferenceContext) (p : RawPath) → NamesTyped g (found_under a c).result p → NamesTyped g c.result p
names_open a g c (path.Local v) (t, h) = let q = At-unclosed (folded a) c.result.type_of_binding v.0 t h in (q.0, q.1)
names_open a g c (path.Function f) h = h
names_open a g c (path.Ctor v) h = h

-- a path names a local, which has a type, a function or a constructor
pub path_typed : (g : Given) (s : Schedule) (e : ExprId) (x : Option Ty) (p : RawPath) (c : InferenceContext) → Within g s e x c → slice_get g.body.exprs e.0 ≡ Some (expr.Path p) → NamesTyped g c.result p
path_typed g s e x p c h is =
    let q = h.state.sound.some in
    names_open q.0 g c p (path_names g s e (expected_under q.0 x) p (found_under q.0 c) (within_under g s q.0 c q.1 e x h) is)

-- what is recorded somewhere
pub recorded_at : {A : Type 0} (o : Option (Option A)) (t : A) → option_and_then (λ x. x) o ≡ Some t → o ≡ Some (Some t)
recorded_at None t h = absurd (cc)
recorded_at (Some None) t h = absurd (cc)
recorded_at (Some (Some u)) t h = ap (λ x. Some x) h

-- the type that a local has
pub local_path : (g : Given) (v : BindingId) (t : Ty) (c : InferenceContext) → IsOfBody g.body c.result → IsSound g.scope c → TellsRecorded g c.result → BindingTy c.result v t → PathDone g (path.Local v) t c c
local_path g v t c h s told k = record {
  result = refl;
  asked = refl;
  clock = refl;
  grew = grew_itself c.goals.table;
  stays = stays_itself c.goals;
  sound = s;
  fine = s.fine.each column.type_of_binding v.0 t k;
  tells = λ e is. local_tells g e v t is (told v t k);
  each = λ a q. At-closed (folded a) c.result.type_of_binding v.0 t k;
}

pub same_some : {A : Type 0} {x y : A} → Some x ≡ Some y → x ≡ y
same_some h = cc

-- how many parameters a function has
pub fn_size : (g : Given) (f : FunctionId) (item : IsItem g.scope.facts (callable.FunctionId f)) (x : RawFn) → slice_get g.scope.facts.fns f.0 ≡ Some x → fn_arity g.scope.facts.types x ≡ item.signature.params
fn_size g f item x at = same_some (sym (ap (option_map (fn_arity g.scope.facts.types)) at) ∙ item.count)

-- so many types are as many as there are parameters
takes : (o : Option ℕ) (n : ℕ) (ts : List Ty) → o ≡ Some n → length ts ≡ n → has_params o (length ts) ≡ true
takes o n ts at count = ap (λ p. has_params p (length ts)) at ∙ eq-eqb n (length ts) (sym count)

counted_under : (a : Assignment) (o : Option ℕ) (n : ℕ) (ts : List Ty) → o ≡ Some n → length ts ≡ n → o ≡ Some (length (map (folded a) ts))
counted_under a o n ts at count = at ∙ ap (λ m. Some m) (sym count ∙ sym (length-map ts (folded a)))

-- the type of an item at as many types as it has parameters is fine
pub item_fine : (g : Given) (id : CallableDefId) (item : IsItem g.scope.facts id) (ts : List Ty) (c new : InferenceContext) → ArePartTypes g.scope item.signature.params ts c new → IsFine g.scope new.goals.table (ty.FnDef id (type_args ts))
item_fine g id item ts c new d = fine_fn_def g.scope new.goals.table id ts (takes (item_params g.scope.facts id) item.signature.params ts (ap (option_map (λ σ. σ.params)) item.found) d.count_is) (every_from (IsFine g.scope new.goals.table) ts d.fine)

-- a function at as many types as it has parameters
pub function_path : (g : Given) (f : FunctionId) (item : IsItem g.scope.facts (callable.FunctionId f)) (ts : List Ty) (c new : InferenceContext) → ArePartTypes g.scope item.signature.params ts c new → PathDone g (path.Function f) (ty.FnDef (callable.FunctionId f) (type_args ts)) c new
function_path g f item ts c new d = record {
  result = d.result;
  asked = d.asked;
  clock = d.clock;
  grew = d.grew;
  stays = d.stays;
  sound = d.sound;
  fine = item_fine g (callable.FunctionId f) item ts c new d;
  tells = λ e is. function_tells g e f (type_args ts) (ty.FnDef (callable.FunctionId f) (type_args ts)) is refl;
  each = λ a q. (map (folded a) ts, fn_def_closed a (callable.FunctionId f) ts, counted_under a (callable_params g.scope.facts (callable.FunctionId f)) item.signature.params ts item.count d.count_is);
}

-- ---- constructors

-- how many parameters one has
pub ctor_params : (g : Given) (v : VariantId) (x : IsVariant g.scope.facts v) → callable_params g.scope.facts (callable.VariantId v) ≡ Some (variant_arity g.scope.facts.types x.variant x.params)
ctor_params g v x =
    let types = g.scope.facts.types in
    ap (option_and_then (λ (z : RawVariant). option_map (variant_arity types z) (adt_params g.scope.facts z.adt))) x.found ∙ ap (option_map (variant_arity types x.variant)) x.count

-- the variant y and so many parameters of its adt are what is known of the constructor, and there are new holes for its own
pub record IsHoled (g : Given) (v : VariantId) (x : IsVariant g.scope.facts v) (y : RawVariant) (n arity : ℕ) (xs : List GenericArg) (old new : InferenceContext) : Type 0 where
  pub same : y ≡ x.variant
  pub size : n ≡ x.params
  pub many : arity ≡ variant_arity g.scope.facts.types x.variant x.params
  pub fresh : AreFreshArgs g.scope (variant_arity g.scope.facts.types x.variant x.params) xs old new

-- as the facts give it
pub ctor_holed : (g : Given) (v : VariantId) (x : IsVariant g.scope.facts v) (y : RawVariant) (a : RawAdt) (n arity : ℕ) (types : List RawType) (xs : List GenericArg) (old new : InferenceContext)
    → slice_get g.scope.facts.variants v.0 ≡ Some y → slice_get g.scope.facts.adts y.adt.0 ≡ Some a → n ≡ length a.params → types ≡ g.scope.facts.types → arity ≡ variant_arity types y n
    → AreFreshArgs g.scope arity xs old new → IsHoled g v x y n arity xs old new
ctor_holed g v x y a n arity types xs old new at adt is all made fresh =
    let same : y ≡ x.variant = same_some (sym at ∙ x.found) in
    let count : adt_params g.scope.facts y.adt ≡ Some x.params = ap (λ (z : RawVariant). adt_params g.scope.facts z.adt) same ∙ x.count in
    let size : n ≡ x.params = is ∙ same_some (sym (ap (option_map (λ (z : RawAdt). length z.params)) adt) ∙ count) in
    let many : arity ≡ variant_arity g.scope.facts.types x.variant x.params = made ∙ (λ i. variant_arity (all i) (same i) (size i)) in
    record { same = same; size = size; many = many; fresh = subst (λ k. AreFreshArgs g.scope k xs old new) many fresh }

-- at as many types as its adt has parameters
module _ (g : Given) (v : VariantId) (x : IsVariant g.scope.facts v) (ts : List Ty) (count : length ts ≡ x.params) where
  -- it is the variant, at what the types come to
  pub variant_under : (a : Assignment) → IsVariantAt g v x.variant (map (folded a) ts)
  variant_under a = record { found = x.found; count = counted_under a (adt_params g.scope.facts x.variant.adt) x.params ts x.count count }

  -- and the adt is fine
  pub adt_fine : (s : State) → AllFine g.scope s ts → IsFine g.scope s (ty.Adt x.variant.adt (type_args ts))
  adt_fine s fine = fine_adt g.scope s x.variant.adt ts (takes (adt_params g.scope.facts x.variant.adt) x.params ts x.count count) fine

no_more : (n : ℕ) → n + 0 ≡ n
no_more n = omega arith

-- at as many types as it has parameters
module _ (g : Given) (v : VariantId) (x : IsVariant g.scope.facts v) (ts : List Ty) (c new : InferenceContext) (d : ArePartTypes g.scope (variant_arity g.scope.facts.types x.variant x.params) ts c new) where
  -- the constructor, at what the types come to
  pub ctor_under : (a : Assignment) → IsCtorAt g v x.variant (map (folded a) ts)
  ctor_under a = record { found = x.found; count = counted_under a (callable_params g.scope.facts (callable.VariantId v)) (variant_arity g.scope.facts.types x.variant x.params) ts (ctor_params g v x) d.count_is }

  every_fine : AllFine g.scope new.goals.table ts
  every_fine = every_from (IsFine g.scope new.goals.table) ts d.fine

  -- a path to it has the type t, which says under each assignment what the constructor is
  ctor_path_at : (t : Ty) → IsFine g.scope new.goals.table t → t ≡ ctor_type x.variant v ts → ((a : Assignment) → folded a t ≡ ctor_type x.variant v (map (folded a) ts)) → PathDone g (path.Ctor v) t c new
  ctor_path_at t fine made is = record {
    result = d.result;
    asked = d.asked;
    clock = d.clock;
    grew = d.grew;
    stays = d.stays;
    sound = d.sound;
    fine = fine;
    tells = λ e at. ctor_tells g e v x.variant ts t at x.found (ctor_params g v x ∙ ap (λ n. Some n) (sym d.count_is)) made;
    each = λ a q. record { variant = x.variant; types = map (folded a) ts; is_ctor = ctor_under a; is = is a };
  }

  -- one without fields is a value of its adt
  pub unit_path : x.variant.ctor ≡ ctor.Unit → PathDone g (path.Ctor v) (ty.Adt x.variant.adt (type_args ts)) c new
  unit_path u =
      let own : length ts ≡ x.params = d.count_is ∙ (ap (λ (ks : List ℕ). x.params + length ks) (x.unit u) ∙ no_more x.params) in
      ctor_path_at (ty.Adt x.variant.adt (type_args ts)) (adt_fine g v x ts own new.goals.table every_fine) (sym (ctor_type_of_unit x.variant v ts u)) (λ a. adt_closed a x.variant.adt ts ∙ sym (ctor_type_of_unit x.variant v (map (folded a) ts) u))

  -- one with fields is an item that can be called
  pub ctor_item_fine : x.variant.ctor ≡ ctor.Tuple → IsFine g.scope new.goals.table (ty.FnDef (callable.VariantId v) (type_args ts))
  ctor_item_fine u =
      let n : ℕ = variant_arity g.scope.facts.types x.variant x.params in
      let made : (σ : Signature) × (signature_of g.scope.facts (callable.VariantId v) ≡ Some σ) × (σ.params ≡ n) = tuple_signature g.scope.facts v x.variant x.params x.found x.count u in
      let at : item_params g.scope.facts (callable.VariantId v) ≡ Some n = ap (option_map (λ σ. σ.params)) made.1 ∙ ap (λ m. Some m) made.2 in
      fine_fn_def g.scope new.goals.table (callable.VariantId v) ts (takes (item_params g.scope.facts (callable.VariantId v)) n ts at d.count_is) every_fine

  pub tuple_path : x.variant.ctor ≡ ctor.Tuple → PathDone g (path.Ctor v) (ty.FnDef (callable.VariantId v) (type_args ts)) c new
  tuple_path u =
      ctor_path_at (ty.FnDef (callable.VariantId v) (type_args ts)) (ctor_item_fine u) (sym (ctor_type_of_tuple x.variant v ts u))
      (λ a. fn_def_closed a (callable.VariantId v) ts ∙ sym (ctor_type_of_tuple x.variant v (map (folded a) ts) u))

-- ---- new holes for parameters
pub fresh_start : {sc : Scope} (c : InferenceContext) → IsSound sc c → AreFreshArgs sc 0 [] c c
fresh_start c s = record { types = []; are = refl; made = no_part_yet c s }

pub fresh_more : {sc : Scope} (n : ℕ) (xs : List GenericArg) (old c : InferenceContext) → AreFreshArgs sc n xs old c → AreFreshArgs sc (n + 1) (xs ++ arg.Ty (ty.Var (hole_count c.goals.table)) ∷ []) old (holed c kind.Ty)
fresh_more n xs old c h =
    let v : Ty = ty.Var (hole_count c.goals.table) in
    record {
      types = h.types ++ v ∷ [];
      are = ap (λ ys. ys ++ arg.Ty v ∷ []) h.are ∙ sym (map-append arg.Ty h.types (v ∷ []));
      made = one_part_more n h.types None v old c (holed c kind.Ty) h.made (new_one c h.made.sound);
    }
