-- Plain signatures name no projection, and what the mark of a function says.
use Rattle.std.proofs.Common.{◌≡◌, inl, inr, ℕ, zero, suc, ◌<◌, Bool, true, false, List, [], ◌∷◌, length, get_or, Some, refl, sym, ◌∙◌, ap, arith, true≢false}
use Rattle.std.specs.Prelude.{◌↔◌, slice_get, Option, None, IsSomeAnd}
use Rattle.std.proofs.lemmas.Bool.{cases_lt}
use Rattle.std.proofs.lemmas.List.{get_or_past}
use Rattle.hir_facts.specs.Words.{FunctionId, RawFn, RawType, RawFacts, is_alias, type_parts}
use Rattle.hir_raw.specs.declared.raw.RawType.TheVariants as type
use Rattle.hir_facts.specs.Own.{PlainMarks, is_one, in_part, IsNoProjection, SignatureNamesNone, IsPlainKind, IsPlainType, plain, IsPlainAdt, IsPlainSignature, IsMarked, ArePlainMarks}

-- ---- a plain signature names no projection

pub kind_direct : (raw : RawFacts) (P : ℕ → Type 0) (n : ℕ) (x : RawType) → IsPlainKind raw P n x → is_alias x ≡ false
kind_direct raw P n (type.Projection a ts) h = absurd h
kind_direct raw P n _ h = refl

pub type_direct : (raw : RawFacts) (P : ℕ → Type 0) (n t : ℕ) → IsPlainType raw P n t → IsNoProjection raw t
type_direct raw P n t (plain _ x found own parts) (is_one _ y at alias) =
    let same : y ≡ x = (let both : Some y ≡ Some x = sym at ∙ found in cc) in
    true≢false (sym alias ∙ (ap is_alias same ∙ kind_direct raw P n x own))
type_direct raw P n t (plain _ x found own parts) (in_part _ y k u at here before held) =
    let same : y ≡ x = (let both : Some y ≡ Some x = sym at ∙ found in cc) in
    type_direct raw P n u.0 (parts k u (ap (λ (z : RawType). slice_get (type_parts z) k) (sym same) ∙ here)) held

pub plain_direct : (raw : RawFacts) (x : RawFn) → IsPlainSignature raw x → SignatureNamesNone raw x
plain_direct raw x h = record {
  inputs = λ k w at. type_direct raw (IsPlainAdt raw) (length x.params) w.0 (h.inputs k w at);
  output = type_direct raw (IsPlainAdt raw) (length x.params) x.output.0 h.output;
}

-- ---- marks

pub marked_inside : (marks : List Bool) (n : ℕ) → IsMarked marks n → n < length marks
marked_inside marks n h = elim (cases_lt n (length marks)) [
  | inl lt ↦ lt
  | inr ge ↦ absurd (let e : get_or marks n false ≡ false = get_or_past marks n false ge in cc)
]

-- what the mark of a function says, be it there or not
pub fn_told : (raw : RawFacts) (marks : PlainMarks) → ArePlainMarks raw marks → (f : FunctionId) (o : Option RawFn) → slice_get raw.fns f.0 ≡ o → IsMarked marks.fns f.0 ↔ IsSomeAnd o (λ x. IsPlainSignature raw x)
fn_told raw marks are f (Some x) was = are.fns f.0 x was
fn_told raw marks are f None was = (
  λ h. absurd (
      let within : f.0 < length marks.fns = marked_inside marks.fns f.0 h in
      let size : length marks.fns ≡ length raw.fns = are.size in
      let x = there raw.fns f.0 (omega arith) in
      let found : slice_get raw.fns f.0 ≡ Some x.0 = x.1 in cc),
  λ h. absurd h,
)
  where
    there : {X : Type 0} (xs : List X) (i : ℕ) → i < length xs → (x : X) × (slice_get xs i ≡ Some x)
    there [] i lt = absurd (omega arith)
    there (y ∷ ys) zero lt = (y, refl)
    there (y ∷ ys) (suc i) lt = there ys i (omega arith)
