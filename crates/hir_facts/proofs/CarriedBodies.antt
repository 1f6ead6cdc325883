-- What is true of a body that is carried.
use Rattle.std.specs.Prelude.{◌≡◌, ℕ, zero, suc, Bool, true, false, ◌&&◌, List, [], ◌∷◌, ◌++◌, slice_get, Option, Some, None, IsTrue, refl, is_none}
use Rattle.std.specs.List.{list_all}
use Rattle.std.specs.Cmp.{first_so, second_so}
use Rattle.std.proofs.Common.{◌⊎◌, ◌∙◌, ap, inl, inr, subst}
use Rattle.std.proofs.lemmas.List.{append-nil}
use Rattle.hir_facts.specs.Words.{VariantId, BindingId, ExprId, PatId, RawPath, RawExpr, RawBody, argument, arguments, arguments_from, bound_sub, expr_part, exprs_from, is_closure, is_wanted, only_if, pat_parts}
use Rattle.hir_raw.specs.Order.{is_closure_expr}
use Rattle.hir_raw.specs.declared.raw.RawPath.TheVariants as path
use Rattle.hir_raw.specs.declared.raw.RawExpr.TheVariants as expr
use Rattle.hir_raw.specs.declared.raw.RawPat.TheVariants as pat
use Rattle.hir_raw.specs.declared.later.LaterExpr.TheVariants as later_expr
use Rattle.hir_raw.specs.declared.later.LaterPat.TheVariants as later_pat
use Rattle.hir_facts.specs.Own.{is_carried_expr, is_carried_pat, is_carried_binding, is_ctor_path, is_carried_body, BoundBySelf, BoundByPatterns, BoundByPattern, IsLiteral, IsAnyLiteral}

pub record CarriedParts (b : RawBody) : Type 0 where
  pub exprs : IsTrue (list_all is_carried_expr b.exprs)
  pub pats : IsTrue (list_all is_carried_pat b.pats)
  pub bindings : IsTrue (list_all is_carried_binding b.bindings)
  pub no_self : b.self_ ≡ None

none_is : {A : Type 0} (o : Option A) → IsTrue (is_none o) → o ≡ None
none_is None e = refl
none_is (Some x) e = cc

pub carried_parts : (b : RawBody) → IsTrue (is_carried_body b) → CarriedParts b
carried_parts b h =
    let exprs : Bool = list_all is_carried_expr b.exprs in
    let pats : Bool = list_all is_carried_pat b.pats in
    let bindings : Bool = list_all is_carried_binding b.bindings in
    let after_exprs : IsTrue (pats && (bindings && is_none b.self_)) = second_so exprs (pats && (bindings && is_none b.self_)) h in
    let after_pats : IsTrue (bindings && is_none b.self_) = second_so pats (bindings && is_none b.self_) after_exprs in
    record {
      exprs = first_so exprs (pats && (bindings && is_none b.self_)) h;
      pats = first_so pats (bindings && is_none b.self_) after_exprs;
      bindings = first_so bindings (is_none b.self_) after_pats;
      no_self = none_is b.self_ (second_so bindings (is_none b.self_) after_pats);
    }

pub list_all_at : {X : Type 0} (p : X → Bool) (xs : List X) (i : ℕ) (x : X) → IsTrue (list_all p xs) → slice_get xs i ≡ Some x → IsTrue (p x)
list_all_at p [] i x h e = absurd (cc)
list_all_at p (y ∷ xs) zero x h e = (let k : y ≡ x = cc in subst (λ z. IsTrue (p z)) k (first_so (p y) (list_all p xs) h))
list_all_at p (y ∷ xs) (suc i) x h e = list_all_at p xs i x (second_so (p y) (list_all p xs) h) e

-- ---- patterns that are paths

ctor_is : (q : RawPath) → IsTrue (is_ctor_path q) → (v : VariantId) × (q ≡ path.Ctor v)
ctor_is (path.Local v) h = absurd (cc)
ctor_is (path.Function f) h = absurd (cc)
ctor_is (path.Ctor v) h = (v, refl)

-- name constructors
pub ctor_pattern : (b : RawBody) → IsTrue (is_carried_body b) → (p : ℕ) (q : RawPath) → slice_get b.pats p ≡ Some (pat.Path q) → (v : VariantId) × (q ≡ path.Ctor v)
ctor_pattern b h p q found = ctor_is q (list_all_at is_carried_pat b.pats p (pat.Path q) (carried_parts b h).pats found)

-- ---- what other laws say of it

no_or : (b : RawBody) → IsTrue (is_carried_body b) → (p : PatId) (ps : List PatId) → slice_get b.pats p.0 ≡ Some (pat.Later (later_pat.Or ps)) → ⊥
no_or b h p ps found =
    let t : IsTrue (is_carried_pat (pat.Later (later_pat.Or ps))) = list_all_at is_carried_pat b.pats p.0 (pat.Later (later_pat.Or ps)) (carried_parts b h).pats found in cc

-- a binding is bound by one pattern, since there are no or-patterns
pub bound_once : (b : RawBody) → IsTrue (is_carried_body b) → (v : BindingId) → BoundBySelf b v ⊎ BoundByPatterns b v → BoundByPattern b v
bound_once b h v bound = elim bound [
  | inl own ↦ absurd (let q : b.self_ ≡ Some v = own.is_self in let none : b.self_ ≡ None = (carried_parts b h).no_self in cc)
  | inr many ↦ record {
    binder = many.binder;
    binds = many.binds;
    only = λ p binds. elim (many.apart p many.binder binds many.binds) [
      | inl same ↦ same
      | inr others ↦ absurd (no_or b h others.whole others.parts others.is_or)
    ];
    not_self = many.not_self;
  }
]

carried_literal : (o : Option RawExpr) → ((x : RawExpr) → o ≡ Some x → IsTrue (is_carried_expr x)) → IsAnyLiteral o → IsLiteral o
carried_literal (Some (expr.Lit l)) h is = tt
carried_literal (Some (expr.Later (later_expr.Lit l))) h is = absurd (let t : IsTrue (is_carried_expr (expr.Later (later_expr.Lit l))) = h (expr.Later (later_expr.Lit l)) refl in cc)
carried_literal _ h is = absurd is

-- a literal is of a kind that is carried
pub literal_once : (b : RawBody) → IsTrue (is_carried_body b) → (e : ExprId) → IsAnyLiteral (slice_get b.exprs e.0) → IsLiteral (slice_get b.exprs e.0)
literal_once b h e is = carried_literal (slice_get b.exprs e.0) (λ x found. list_all_at is_carried_expr b.exprs e.0 x (carried_parts b h).exprs found) is

-- ---- parts

no_closure : (o : Option RawExpr) → ((x : RawExpr) → o ≡ Some x → IsTrue (is_carried_expr x)) → is_closure_expr o ≡ false
no_closure (Some (expr.Later (later_expr.Closure params out body))) h =
    absurd (let t : IsTrue (is_carried_expr (expr.Later (later_expr.Closure params out body))) = h (expr.Later (later_expr.Closure params out body)) refl in cc)
no_closure _ h = refl

module _ (b : RawBody) (h : IsTrue (is_carried_body b)) where
  not_closure : (e : ExprId) → is_closure b e ≡ false
  not_closure e = no_closure (slice_get b.exprs e.0) (λ x found. list_all_at is_carried_expr b.exprs e.0 x (carried_parts b h).exprs found)

  all_first : (i : ℕ) (es : List ExprId) → arguments_from b false i es ≡ exprs_from argument i es
  all_first i [] = refl
  all_first i (e ∷ es) =
      ap (λ c. only_if (is_wanted false c) (expr_part (argument i) e) ++ arguments_from b false (suc i) es) (not_closure e) ∙ ap (λ ps. expr_part (argument i) e ∷ ps) (all_first (suc i) es)

  none_last : (i : ℕ) (es : List ExprId) → arguments_from b true i es ≡ []
  none_last i [] = refl
  none_last i (e ∷ es) = ap (λ c. only_if (is_wanted true c) (expr_part (argument i) e) ++ arguments_from b true (suc i) es) (not_closure e) ∙ none_last (suc i) es

  -- no argument is a closure, so they come in the order of their positions
  pub arguments_in_order : (es : List ExprId) → arguments b es ≡ exprs_from argument 0 es
  arguments_in_order es = ap (λ ps. arguments_from b false 0 es ++ ps) (none_last 0 es) ∙ (append-nil (arguments_from b false 0 es) ∙ all_first 0 es)

no_sub : (sub : Option PatId) → IsTrue (is_none sub) → bound_sub sub ≡ []
no_sub None h = refl
no_sub (Some p) h = absurd (cc)

-- nothing stands below a binding
pub bind_has_no_parts : (b : RawBody) → IsTrue (is_carried_body b) → (p : PatId) (v : BindingId) (sub : Option PatId) → slice_get b.pats p.0 ≡ Some (pat.Bind v sub) → pat_parts (pat.Bind v sub) ≡ []
bind_has_no_parts b h p v sub found = no_sub sub (list_all_at is_carried_pat b.pats p.0 (pat.Bind v sub) (carried_parts b h).pats found)
