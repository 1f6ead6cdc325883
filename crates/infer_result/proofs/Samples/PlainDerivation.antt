-- The tables of `GeneralInteger` at integer types are plain derivations: what is called is an item at plain types, and all other
-- types are plain.
use Rattle.std.proofs.Common.{ℕ, zero, suc, ◌≡◌, List, [], ◌∷◌, refl, sym, ap, subst, arith, Some, slice_get}
use Rattle.infer_result.specs.Words.{ExprId, IntegerTy, Ty, integer_type, unit, RawBody, IsPlainIn, plain_integer, plain_tuple}
use Rattle.hir_types.specs.declared.ids.CallableDefId.TheVariants as callable
use Rattle.infer_result.specs.Words.hir_raw.declared.raw.RawExpr.TheVariants as expr
use Rattle.infer_result.specs.Own.{IsDerivation, IsCalled, IsPlainItem, IsPlainDerivation, At}
use Rattle.infer_result.proofs.Samples.Small.{e, each_entry, each_placed}
use Rattle.infer_result.proofs.Samples.Calling.{function}
use Rattle.infer_result.proofs.Samples.Holes.{each_in}
use Rattle.infer_result.proofs.Samples.GeneralInteger.{body, facts, f, scope, table_at, integer_derives}

-- the path is called, and nothing else is
one_called : (n : ℕ) (x : ExprId) (args : List ExprId) → slice_get body.exprs n ≡ Some (expr.Call x args) → x ≡ e 0
one_called zero x args found = absurd (cc)
one_called (suc zero) x args found = absurd (cc)
one_called (suc (suc zero)) x args found = cc
one_called (suc (suc (suc zero))) x args found = absurd (cc)
one_called (suc (suc (suc (suc n)))) x args found = absurd (cc)

pub not_called : (k : ℕ) → IsCalled body (e (suc k)) → ⊥
not_called k (n, args, found) = (let same : suc k ≡ 0 = ap (λ (x : ExprId). x.0) (one_called n.0 (e (suc k)) args found) in absurd (omega arith))

-- a derivation is one of this body
same_body : (s : Ty) (h : IsDerivation facts f (table_at s)) → h.body ≡ body
same_body s h = (let found : Some h.body ≡ Some body = sym h.is_body in cc)

pub integer_derives_plain : (i : IntegerTy) → IsPlainDerivation facts f (table_at (integer_type i))
integer_derives_plain i =
    let s : Ty = integer_type i in
    let h : IsDerivation facts f (table_at s) = integer_derives i in
    let same : h.body ≡ body = same_body s h in
    let own : IsPlainIn scope s = plain_integer i in
    let empty : IsPlainIn scope unit = plain_tuple [] (each_in (IsPlainIn scope) [] tt) in
    let items : (n : ℕ) (u : Ty) → At (table_at s).type_of_expr n u → IsCalled body (e n) → IsPlainItem scope u =
    each_placed (λ k u. IsCalled body (e k) → IsPlainItem scope u) (table_at s).type_of_expr (
      λ called. (callable.FunctionId function, s ∷ [], refl, each_in (IsPlainIn scope) (s ∷ []) (own, tt)),
      (λ called. absurd (not_called 0 called), (λ called. absurd (not_called 1 called), (λ called. absurd (not_called 2 called), tt))),
    ) in
    let others : (n : ℕ) (u : Ty) → At (table_at s).type_of_expr n u → (IsCalled body (e n) → ⊥) → IsPlainIn scope u =
    each_placed (λ k u. (IsCalled body (e k) → ⊥) → IsPlainIn scope u) (table_at s).type_of_expr (
      λ other. absurd (other (e 2, e 1 ∷ [], refl)),
      (λ other. own, (λ other. own, (λ other. empty, tt))),
    ) in
    record {
      derivation = h;
      called = λ x u has called. items x.0 u has (subst (λ (b : RawBody). IsCalled b x) same called);
      exprs = λ x u has other. others x.0 u has (λ called. other (subst (λ (b : RawBody). IsCalled b x) (sym same) called));
      pats = λ x. each_entry (IsPlainIn scope) (table_at s).type_of_pat (own, tt) x.0;
      bindings = λ x. each_entry (IsPlainIn scope) (table_at s).type_of_binding (own, tt) x.0;
    }
