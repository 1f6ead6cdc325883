-- The marks of the functions with a plain signature, one function after another.
use Rattle.std.proofs.Common.{◌≡◌, inl, inr, ℕ, ◌+◌, ◌<◌, Bool, true, false, List, [], ◌∷◌, ◌++◌, length, get_or, Some, refl, sym, ◌∙◌, ap, subst, arith}
use Rattle.std.specs.Prelude.{◌↔◌, slice_get, IsTrue}
use Rattle.std.proofs.lemmas.List.{get_or_push, get_or_append_left, length_push}
use Rattle.std.proofs.Math.Nat.{eq-or-lt_of_le}
use Rattle.hir_plain.specs.Words.{RawFn, RawFacts, IsLawful, inputs_fit, output_fits, IsPlainSignature, IsMarked, ArePlainNodes}
use Rattle.hir_plain.specs.Own.{HasMarkedSignature}

-- where the types of a signature are marked, they are plain
pub signature_plain : (raw : RawFacts) (nodes : List Bool) (f : ℕ) (x : RawFn) → IsLawful raw → ArePlainNodes raw nodes → slice_get raw.fns f ≡ Some x → HasMarkedSignature raw nodes x → IsPlainSignature raw x
signature_plain raw nodes f x law are found h = record {
  header = h.header;
  inputs = λ k t here. are.types (length x.params) t (inputs_fit raw law f x found k t here) (h.inputs k t here);
  output = are.types (length x.params) x.output (output_fits raw law f x found) h.output;
}

-- and where they are plain, they are marked
pub signature_marked : (raw : RawFacts) (nodes : List Bool) (x : RawFn) → ArePlainNodes raw nodes → IsPlainSignature raw x → HasMarkedSignature raw nodes x
signature_marked raw nodes x are h = record {
  header = h.header;
  inputs = λ k t here. are.plain_types (length x.params) t (h.inputs k t here);
  output = are.plain_types (length x.params) x.output h.output;
}

-- the marks of the first n functions
pub record FnsMarked (raw : RawFacts) (n : ℕ) (marks : List Bool) : Type 0 where
  pub size : length marks ≡ n
  pub each : (f : ℕ) (x : RawFn) → f < n → slice_get raw.fns f ≡ Some x → IsMarked marks f ↔ IsPlainSignature raw x

pub fns_more : (raw : RawFacts) (n : ℕ) (marks new : List Bool) (x : RawFn) (b : Bool) → FnsMarked raw n marks → slice_get raw.fns n ≡ Some x → IsTrue b ↔ IsPlainSignature raw x → new ≡ marks ++ b ∷ [] → FnsMarked raw (n + 1) new
fns_more raw n marks new x b m found told is = record {
  size = ap length is ∙ (length_push marks b ∙ ap (λ (k : ℕ). k + 1) m.size);
  each = λ f y lt here. elim (eq-or-lt_of_le {n = f} {m = n} (omega arith)) as (λ _. IsMarked new f ↔ IsPlainSignature raw y) [
    | inl same ↦ (
        let last : get_or new f false ≡ b = ap (λ (l : List Bool). get_or l f false) is ∙ get_or_push marks b false f (m.size ∙ sym same) in
        let at : slice_get raw.fns n ≡ Some y = subst (λ (k : ℕ). slice_get raw.fns k ≡ Some y) same here in
        let which : x ≡ y = cc in
        subst (λ (z : RawFn). IsMarked new f ↔ IsPlainSignature raw z) which (subst (λ (c : Bool). c ≡ true ↔ IsPlainSignature raw x) (sym last) told))
    | inr before ↦ (
        let size : length marks ≡ n = m.size in
        let kept : get_or new f false ≡ get_or marks f false = ap (λ (l : List Bool). get_or l f false) is ∙ get_or_append_left marks (b ∷ []) false f (omega arith) in
        subst (λ (c : Bool). c ≡ true ↔ IsPlainSignature raw y) (sym kept) (m.each f y before here))
  ];
}
