-- `{unknown}` at the literal of `fn f() { need(1u8) }`, as where each node is `{unknown}`: no rule admits it.
use Rattle.std.proofs.Common.{◌≡◌, [], ◌∷◌, refl, sym, subst, ◌∙◌, arith, Some}
use Rattle.infer_needs.specs.Words.{Ty, RawBody, InferenceResult, IsDerivation, HasTy, ObeysOrMismatch, ObeysExpression, given as given_in, IsTyped, of_literal}
use Rattle.hir_types.specs.declared.ty.Ty.TheVariants as ty
use Rattle.infer_needs.proofs.Words.{e, u8, one_u8, only, u8_is_no_error, body}
use Rattle.infer_needs.proofs.Samples.Impls.{facts, own_body}
use Rattle.infer_needs.proofs.Samples.Needed.{given, table_of}

abbrev everywhere : InferenceResult
everywhere = record (table_of u8 [] [] []) { type_of_expr = Some ty.Error ∷ Some ty.Error ∷ Some ty.Error ∷ Some ty.Error ∷ [] }

-- ---- refused, whatever else is in the table

module _ (r : InferenceResult) (unknown : HasTy r (e 1) ty.Error) where
  no_u8 : (t : Ty) → HasTy r (e 1) t → t ≡ u8 → ⊥
  no_u8 t has is = u8_is_no_error (sym is ∙ only t ty.Error (sym has ∙ unknown))

  -- by the literal's rule, mismatches or not
  pub no_rule : ObeysOrMismatch (given one_u8) r (e 1) → ⊥
  no_rule h = no_u8 h.0 h.1 h.2

  -- and since a literal's type stands
  pub not_upward : IsTyped (given one_u8) r → ⊥
  not_upward h = no_u8 u8 (h.upward (e 1) u8 (of_literal (e 1) one_u8 u8 refl refl)) refl

  pub not_typed : IsTyped (given one_u8) r → ⊥
  not_typed h = no_rule (h.clauses (e 1) (omega arith))

  pub no_derivation : IsDerivation facts own_body r → ⊥
  no_derivation h =
      (let found = h.is_body in
      let same : h.body ≡ body one_u8 = cc in
      let rule : ObeysExpression (given_in facts own_body (body one_u8)) r (e 1) = subst (λ (b : RawBody). ObeysExpression (given_in facts own_body b) r (e 1)) same (h.exprs (e 1) (rw same (omega arith))) in
      no_u8 rule.0 rule.1 rule.2)

-- so not where each node is
pub not_everywhere : IsTyped (given one_u8) everywhere → ⊥
not_everywhere = not_typed everywhere refl
