-- What the path at an expression needs, at a type in scope, has types in scope alone where it is concrete.
use Rattle.std.specs.Prelude.{◌≡◌, ◌≤◌, ◌+◌, ◌⊎◌, ℕ, suc, List, [], ◌∷◌, length, map, slice_get, Option, Some, None, option_map, refl}
use Rattle.std.specs.Option.{option_and_then}
use Rattle.std.proofs.Common.{arith, inl, inr, sym, ap, ◌∙◌, subst}
use Rattle.std.proofs.lemmas.List.{length-map}
use Rattle.infer_obligations.specs.Words.{CallableDefId, ExprId, FunctionId, VariantId, AdtId, GenericArg, Ty, Ty-F, out-Ty, out-roll-Ty, replaced_bool, replaced_char, replaced_int, replaced_uint, replaced_tuple, replaced_param, Assignment, folded, with_holes, term_var, term_int_var, RawAdt, RawCtor, RawExpr, RawFn, RawGoal, RawPath, RawType, RawVariant, RawFacts, fn_aliases, variant_aliases, Scope, adt_params, count_or_none, fn_arity, variant_arity, type_args, ctor_type_by, IsLawful, Shape, whole, IsMadeOf, Asked, Each, goal_at, preds_or_none, HasHeadsIfConcrete, Outermost, other, HasHead, outermost_step, of_function, of_ctor, PathRule, alias_goals_by, alias_goals_from, fn_alias_goals, variant_alias_goals, path_alias_goals, alias_goals, variant_preds, path_preds, expr_preds, item_args, needed_goals, Given, at_or_mismatch, HasTy, InferenceResult, is_fine_head, HasFineHeads, Every, Tells, IsVariant, TypeAliasId}
use Rattle.hir_types.specs.declared.ids.CallableDefId.TheVariants as callable
use Rattle.hir_types.specs.declared.head.Head.TheVariants as head
use Rattle.hir_types.specs.declared.ty.IntegerTy.TheVariants as integer
use Rattle.hir_types.specs.declared.ty.GenericArg.TheVariants as arg
use Rattle.hir_types.specs.declared.ty.Ty.TheVariants as ty
use Rattle.infer_obligations.specs.Words.hir_raw.declared.raw.RawCtor.TheVariants as ctor
use Rattle.infer_obligations.specs.Words.hir_raw.declared.raw.RawExpr.TheVariants as expr
use Rattle.infer_obligations.specs.Words.hir_raw.declared.raw.RawPath.TheVariants as path
use Rattle.infer_obligations.specs.Words.hir_raw.declared.raw.RawType.TheVariants as type
use Rattle.infer_obligations.proofs.Words.{each_append, heads_bool, heads_char, heads_integer, heads_param, heads_tuple, heads_adt, heads_fn_def, heads_associated, over_fine, adt_closed, fn_def_closed}
use Rattle.infer_obligations.specs.Words.infer_result.Rules.{Rule}
use Rattle.infer_obligations.proofs.FineSources.{GoalIsFit, fit_more, goal_has_heads, fn_preds_fit, adt_preds_fit}

-- ---- what a type is, outermost

-- the arguments of the item of which this is the type
abbrev args_of : Ty → List GenericArg
args_of t = item_args (out-Ty t)

no_args_bool : args_of ty.Bool ≡ []
no_args_bool = ap item_args (ap out-Ty (sym ty.rolls-Bool) ∙ out-roll-Ty Ty-F.Bool)

no_args_char : args_of ty.Char ≡ []
no_args_char = ap item_args (ap out-Ty (sym ty.rolls-Char) ∙ out-roll-Ty Ty-F.Char)

no_args_int : (i : _) → args_of (ty.Int i) ≡ []
no_args_int i = ap item_args (ap out-Ty (sym (ty.rolls-Int i)) ∙ out-roll-Ty (Ty-F.Int i))

no_args_uint : (i : _) → args_of (ty.Uint i) ≡ []
no_args_uint i = ap item_args (ap out-Ty (sym (ty.rolls-Uint i)) ∙ out-roll-Ty (Ty-F.Uint i))

no_args_var : (n : ℕ) → args_of (ty.Var n) ≡ []
no_args_var n = ap item_args (ap out-Ty (sym (ty.rolls-Var n)) ∙ out-roll-Ty (Ty-F.Var n))

no_args_int_var : (n : ℕ) → args_of (ty.IntVar n) ≡ []
no_args_int_var n = ap item_args (ap out-Ty (sym (ty.rolls-IntVar n)) ∙ out-roll-Ty (Ty-F.IntVar n))

no_args_tuple : (ts : List Ty) → args_of (ty.Tuple ts) ≡ []
no_args_tuple ts = ap item_args (ap out-Ty (sym (ty.rolls-Tuple ts)) ∙ out-roll-Ty (Ty-F.Tuple ts))

no_args_param : (n : ℕ) → args_of (ty.Param n) ≡ []
no_args_param n = ap item_args (ap out-Ty (sym (ty.rolls-Param n)) ∙ out-roll-Ty (Ty-F.Param n))

no_args_associated : (i : TypeAliasId) (xs : List GenericArg) → args_of (ty.AssociatedType i xs) ≡ []
no_args_associated i xs = ap item_args (ap out-Ty (sym (ty.rolls-AssociatedType i xs)) ∙ out-roll-Ty (Ty-F.AssociatedType i xs))

adt_args : (i : AdtId) (xs : List GenericArg) → args_of (ty.Adt i xs) ≡ xs
adt_args i xs = ap item_args (ap out-Ty (sym (ty.rolls-Adt i xs)) ∙ out-roll-Ty (Ty-F.Adt i xs))

fn_def_args : (i : CallableDefId) (xs : List GenericArg) → args_of (ty.FnDef i xs) ≡ xs
fn_def_args i xs = ap item_args (ap out-Ty (sym (ty.rolls-FnDef i xs)) ∙ out-roll-Ty (Ty-F.FnDef i xs))

adt_outermost : (i : AdtId) (xs : List GenericArg) → HasHead (ty.Adt i xs) (other (head.Adt i))
adt_outermost i xs = ap outermost_step (ap out-Ty (sym (ty.rolls-Adt i xs)) ∙ out-roll-Ty (Ty-F.Adt i xs))

fn_def_outermost : (i : CallableDefId) (xs : List GenericArg) → HasHead (ty.FnDef i xs) (other (head.FnDef i))
fn_def_outermost i xs = ap outermost_step (ap out-Ty (sym (ty.rolls-FnDef i xs)) ∙ out-roll-Ty (Ty-F.FnDef i xs))

-- ---- the arguments of a type in scope

module _ (sc : Scope) (a : Assignment) where
  -- they are types in scope; where the type has a head, as many as types for its holes leave
  record HasFineArgs (t : Ty) : Type 0 where
    heads : HasFineHeads sc t
    types : List Ty
    args : args_of t ≡ type_args types
    all : Every (HasFineHeads sc) types
    many : (h : Outermost) → HasHead t h → length (args_of (folded a t)) ≡ length types

  without_args : (t u : Ty) → HasFineHeads sc t → args_of t ≡ [] → folded a t ≡ u → args_of u ≡ [] → HasFineArgs t
  without_args t u heads own falls none = record { heads = heads; types = []; args = own; all = tt; many = λ h has. ap (λ v. length (args_of v)) falls ∙ ap length none }

  -- one without a head
  unknown_args : (t : Ty) → HasFineHeads sc t → args_of t ≡ [] → outermost_step (out-Ty t) ≡ None → HasFineArgs t
  unknown_args t heads own none = record { heads = heads; types = []; args = own; all = tt; many = λ h has. (let clash : None ≡ Some h = sym none ∙ has in absurd (cc)) }

  every_heads : (ts : List Ty) → Every HasFineArgs ts → Every (HasFineHeads sc) ts
  every_heads [] h = tt
  every_heads (t ∷ ts) h = (h.0.heads, every_heads ts h.1)

  as_many : (ts : List Ty) → length (type_args (map (folded a) ts)) ≡ length ts
  as_many ts = length-map (map (folded a) ts) arg.Ty ∙ length-map ts (folded a)

  fine_args : (t : Ty) → HasFineHeads sc t → HasFineArgs t
  fine_args = over_fine sc HasFineArgs (record {
    bool = without_args ty.Bool ty.Bool (heads_bool sc) no_args_bool (replaced_bool (with_holes a)) no_args_bool;
    char = without_args ty.Char ty.Char (heads_char sc) no_args_char (replaced_char (with_holes a)) no_args_char;
    int = λ i. without_args (ty.Int i) (ty.Int i) (heads_integer sc (integer.Int i)) (no_args_int i) (replaced_int (with_holes a) i) (no_args_int i);
    uint = λ i. without_args (ty.Uint i) (ty.Uint i) (heads_integer sc (integer.Uint i)) (no_args_uint i) (replaced_uint (with_holes a) i) (no_args_uint i);
    var = λ n. unknown_args (ty.Var n) (subst (IsMadeOf (is_fine_head sc) whole) (sym (term_var n)) tt) (no_args_var n) (ap outermost_step (ap out-Ty (sym (ty.rolls-Var n)) ∙ out-roll-Ty (Ty-F.Var n)));
    int_var = λ n. unknown_args (ty.IntVar n) (subst (IsMadeOf (is_fine_head sc) whole) (sym (term_int_var n)) tt) (no_args_int_var n) (ap outermost_step (ap out-Ty (sym (ty.rolls-IntVar n)) ∙ out-roll-Ty (Ty-F.IntVar n)));
    tuple = λ ts h. without_args (ty.Tuple ts) (ty.Tuple (map (folded a) ts)) (heads_tuple sc ts (every_heads ts h)) (no_args_tuple ts) (replaced_tuple (with_holes a) ts) (no_args_tuple (map (folded a) ts));
    adt = λ id ts k h. record {
      heads = heads_adt sc id ts k (every_heads ts h);
      types = ts;
      args = adt_args id (type_args ts);
      all = every_heads ts h;
      many = λ o has. ap (λ v. length (args_of v)) (adt_closed a id ts) ∙ (ap length (adt_args id (type_args (map (folded a) ts))) ∙ as_many ts);
    };
    fn_def = λ id ts k h. record {
      heads = heads_fn_def sc id ts k (every_heads ts h);
      types = ts;
      args = fn_def_args id (type_args ts);
      all = every_heads ts h;
      many = λ o has. ap (λ v. length (args_of v)) (fn_def_closed a id ts) ∙ (ap length (fn_def_args id (type_args (map (folded a) ts))) ∙ as_many ts);
    };
    associated = λ id ts k h. unknown_args (ty.AssociatedType id (type_args ts)) (heads_associated sc id ts k (every_heads ts h)) (no_args_associated id (type_args ts)) (ap outermost_step (ap out-Ty (sym (ty.rolls-AssociatedType id (type_args ts))) ∙ out-roll-Ty (Ty-F.AssociatedType id (type_args ts))));
    param = λ n k. without_args (ty.Param n) (ty.Param n) (heads_param sc n k) (no_args_param n) (replaced_param (with_holes a) n) (no_args_param n);
  })

-- ---- goals about associated types

module _ (P : Shape) (raw : RawFacts) (xs : List GenericArg) where
  alias_in_scope : (n : ℕ) (o : Option RawType) → Each (HasHeadsIfConcrete P) (alias_goals_by raw xs n o)
  alias_in_scope n (Some (type.Projection a ws)) = (λ kind. absurd kind, tt)
  alias_in_scope n _ = tt

  from_in_scope : (n : ℕ) (ks : List ℕ) → Each (HasHeadsIfConcrete P) (alias_goals_from raw xs n ks)
  from_in_scope n [] = tt
  from_in_scope n (k ∷ ks) = each_append (HasHeadsIfConcrete P) (alias_goals_by raw xs n (slice_get raw.types k)) (alias_goals_from raw xs (suc n) ks) (alias_in_scope n (slice_get raw.types k)) (from_in_scope (suc n) ks)

  fn_in_scope : (o : Option RawFn) → Each (HasHeadsIfConcrete P) (fn_alias_goals raw xs o)
  fn_in_scope None = tt
  fn_in_scope (Some f) = from_in_scope (length f.params) (fn_aliases raw.types f)

  variant_in_scope : (o : Option RawVariant) → Each (HasHeadsIfConcrete P) (variant_alias_goals raw xs o)
  variant_in_scope None = tt
  variant_in_scope (Some x) = from_in_scope (count_or_none (adt_params raw x.adt)) (variant_aliases raw.types x)

  path_in_scope : (p : RawPath) → Each (HasHeadsIfConcrete P) (path_alias_goals raw xs p)
  path_in_scope (path.Function f) = fn_in_scope (slice_get raw.fns f.0)
  path_in_scope (path.Ctor v) = variant_in_scope (slice_get raw.variants v.0)
  path_in_scope _ = tt

  -- nothing is asked of them
  aliases_in_scope : (x : RawExpr) → Each (HasHeadsIfConcrete P) (alias_goals raw xs x)
  aliases_in_scope (expr.Path p) = path_in_scope p
  aliases_in_scope _ = tt

enough_args : (n m k : ℕ) → n + m ≡ k → n ≤ k
enough_args n m k is = omega (arith, is)

-- ---- an expression that has a type

module _ (g : Given) (law : IsLawful g.scope.facts) (e : ExprId) (t : Ty) (heads : HasFineHeads g.scope t) (tells : Tells g e t)
    (a : Assignment) (r : InferenceResult) (has : HasTy r e (folded a t)) where
  abbrev raw : RawFacts
  raw = g.scope.facts

  abbrev IsInScope : Asked → Type 0
  IsInScope = HasHeadsIfConcrete (is_fine_head g.scope)

  own : HasFineArgs g.scope a t
  own = fine_args g.scope a t heads

  -- what each predicate at these arguments says
  at_own_args : (gs : List RawGoal) → ((k : ℕ) (p : RawGoal) → slice_get gs k ≡ Some p → GoalIsFit raw law (length own.types) p) → Each IsInScope (map (goal_at raw (args_of t)) gs)
  at_own_args [] fit = tt
  at_own_args (p ∷ gs) fit = (
    subst (λ xs. IsInScope (goal_at raw xs p)) (sym own.args) (goal_has_heads raw law g.scope refl own.types own.all p (fit 0 p refl)),
    at_own_args gs (λ k q at. fit (suc k) q at),
  )

  one_ty : (t u : Ty) → HasTy r e t → HasTy r e u → t ≡ u
  one_ty t u h k = (let both : Some (Some t) ≡ Some (Some u) = sym h ∙ k in cc)

  -- an item with so many arguments in the table has as many here
  count_at : (h : Outermost) → HasHead t h → (v : Ty) (ts : List Ty) → HasTy r e v → args_of v ≡ type_args ts → length own.types ≡ length ts
  count_at h head v ts at is = sym (own.many h head) ∙ (ap (λ w. length (args_of w)) (one_ty (folded a t) v has at) ∙ (ap length is ∙ length-map ts arg.Ty))

  module _ (f : FunctionId) (is : slice_get g.body.exprs e.0 ≡ Some (expr.Path (path.Function f))) (rule : PathRule g r e (path.Function f)) where
    fn_needs : (o : Option RawFn) → slice_get raw.fns f.0 ≡ o → Each IsInScope (map (goal_at raw (args_of t)) (preds_or_none (option_map (λ (x : RawFn). x.preds) o)))
    fn_needs None there = tt
    fn_needs (Some x) there =
        let ts : List Ty = rule.0 in
        let h : Outermost = other (head.FnDef (callable.FunctionId f)) in
        let long : length own.types ≡ length ts = count_at h (tells.head h (of_function e f is)) (ty.FnDef (callable.FunctionId f) (type_args ts)) ts rule.1 (fn_def_args (callable.FunctionId f) (type_args ts)) in
        let both : Some (fn_arity raw.types x) ≡ Some (length ts) = ap (option_map (fn_arity raw.types)) (sym there) ∙ rule.2 in
        let same : fn_arity raw.types x ≡ length own.types = (let same : fn_arity raw.types x ≡ length ts = cc in same ∙ sym long) in
        let enough : length x.params ≤ length own.types = enough_args (length x.params) (length (fn_aliases raw.types x)) (length own.types) same in
        at_own_args x.preds (λ k p here. fit_more raw law (length x.params) (length own.types) p enough (fn_preds_fit raw law f.0 x there k p here))

  adt_needs : (i : ℕ) → ((x : RawAdt) → slice_get raw.adts i ≡ Some x → length x.params ≤ length own.types) → (o : Option RawAdt) → slice_get raw.adts i ≡ o
      → Each IsInScope (map (goal_at raw (args_of t)) (preds_or_none (option_map (λ (x : RawAdt). x.preds) o)))
  adt_needs i enough None is = tt
  adt_needs i enough (Some x) is = at_own_args x.preds (λ k p here. fit_more raw law (length x.params) (length own.types) p (enough x is) (adt_preds_fit raw law i x is k p here))

  -- those of the adt are among those of a constructor
  own_enough : (x : RawVariant) (n : ℕ) → option_map (variant_arity raw.types x) (adt_params raw x.adt) ≡ Some n → (y : RawAdt) → slice_get raw.adts x.adt.0 ≡ Some y → length y.params ≤ n
  own_enough x n count y is =
      let both : Some (variant_arity raw.types x (length y.params)) ≡ Some n = ap (λ o. option_map (variant_arity raw.types x) (option_map (λ (z : RawAdt). length z.params) o)) (sym is) ∙ count in
      let same : variant_arity raw.types x (length y.params) ≡ n = cc in
      enough_args (length y.params) (length (variant_aliases raw.types x)) n same

  module _ (v : VariantId) (is : slice_get g.body.exprs e.0 ≡ Some (expr.Path (path.Ctor v))) (rule : PathRule g r e (path.Ctor v)) (known : IsVariant raw v) where
    -- the arguments and the head of a path to a constructor; none has fields with names
    ctor_args : (k : RawCtor) (i : AdtId) (ts : List Ty) → ((k ≡ ctor.Unit) ⊎ (k ≡ ctor.Tuple)) → (args_of (ctor_type_by k i v ts) ≡ type_args ts) × ((h : Outermost) × HasHead (ctor_type_by k i v ts) h)
    ctor_args ctor.Unit i ts h = (adt_args i (type_args ts), (other (head.Adt i), adt_outermost i (type_args ts)))
    ctor_args ctor.Tuple i ts h = (fn_def_args (callable.VariantId v) (type_args ts), (other (head.FnDef (callable.VariantId v)), fn_def_outermost (callable.VariantId v) (type_args ts)))
    ctor_args ctor.Record i ts (inl q) = absurd (cc)
    ctor_args ctor.Record i ts (inr q) = absurd (cc)

    ctor_needs : (o : Option RawVariant) → slice_get raw.variants v.0 ≡ o → Each IsInScope (map (goal_at raw (args_of t)) (variant_preds raw o))
    ctor_needs None there = tt
    ctor_needs (Some x) there =
        let c = rule.2 in
        let ts : List Ty = c.types in
        let named : c.variant ≡ x = (let both : Some c.variant ≡ Some x = sym c.is_ctor.found ∙ there in cc) in
        let own_variant : known.variant ≡ x = (let both : Some known.variant ≡ Some x = sym known.found ∙ there in cc) in
        let unnamed : (x.ctor ≡ ctor.Unit) ⊎ (x.ctor ≡ ctor.Tuple) = subst (λ (y : RawVariant). (y.ctor ≡ ctor.Unit) ⊎ (y.ctor ≡ ctor.Tuple)) own_variant known.unnamed in
        let same : rule.0 ≡ ctor_type_by x.ctor x.adt v ts = c.is ∙ ap (λ (y : RawVariant). ctor_type_by y.ctor y.adt v ts) named in
        let told = ctor_args x.ctor x.adt ts unnamed in
        let h : Outermost = told.1.0 in
        let head : HasHead t h = tells.head h (of_ctor e v x ts h is there told.1.1) in
        let long : length own.types ≡ length ts = count_at h head rule.0 ts rule.1 (ap args_of same ∙ told.0) in
        let count : option_map (variant_arity raw.types x) (adt_params raw x.adt) ≡ Some (length own.types) =
        ap (option_and_then (λ (y : RawVariant). option_map (variant_arity raw.types y) (adt_params raw y.adt))) (sym there) ∙ (c.is_ctor.count ∙ ap (λ n. Some n) (sym long)) in
        adt_needs x.adt.0 (own_enough x (length own.types) count) (slice_get raw.adts x.adt.0) refl

  path_needs : (q : RawPath) → slice_get g.body.exprs e.0 ≡ Some (expr.Path q) → PathRule g r e q → ((v : VariantId) → q ≡ path.Ctor v → IsVariant raw v) → Each IsInScope (map (goal_at raw (args_of t)) (path_preds raw q))
  path_needs (path.Local v) is rule variant = tt
  path_needs (path.Function f) is rule variant = fn_needs f is rule (slice_get raw.fns f.0) refl
  path_needs (path.Ctor v) is rule variant = ctor_needs v is rule (variant v refl) (slice_get raw.variants v.0) refl

  preds_in_scope : (x : RawExpr) → slice_get g.body.exprs e.0 ≡ Some x → Rule (at_or_mismatch g r) g r e (Some x) → ((v : VariantId) → x ≡ expr.Path (path.Ctor v) → IsVariant raw v)
      → Each IsInScope (map (goal_at raw (args_of t)) (expr_preds raw x))
  preds_in_scope (expr.Path q) is rule variant = path_needs q is rule (λ v same. variant v (ap expr.Path same))
  preds_in_scope _ is rule variant = tt

  -- what it needs has types in scope alone
  pub needs_in_scope : (x : RawExpr) → slice_get g.body.exprs e.0 ≡ Some x → Rule (at_or_mismatch g r) g r e (Some x) → ((v : VariantId) → x ≡ expr.Path (path.Ctor v) → IsVariant raw v) → Each IsInScope (needed_goals raw x t)
  needs_in_scope x is rule variant = each_append IsInScope (map (goal_at raw (args_of t)) (expr_preds raw x)) (alias_goals raw (args_of t) x) (preds_in_scope x is rule variant) (aliases_in_scope (is_fine_head g.scope) raw (args_of t) x)
