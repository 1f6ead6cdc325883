-- Goals that have a proof in a table, and terms in which `{unknown}`, a hole or a `_` stands.
use Rattle.std.specs.Prelude.{◌≡◌, ◌⊎◌, ℕ, slice_get, Some}
use Rattle.hir_types.specs.declared.head.Head.TheVariants as head
use Rattle.infer_result.specs.Words.{Term, hole, leaf, pair, Asked, Proof, asked_goal}
use Rattle.infer_result.specs.declared.result.InferenceResult.{InferenceResult}

-- `{unknown}` stands in the term
abbrev pub HoldsUnknown : Term → Type 0
HoldsUnknown (hole k) = ⊥
HoldsUnknown (leaf head.Error) = Unit {0}
HoldsUnknown (leaf head.UnknownConst) = Unit {0}
HoldsUnknown (leaf _) = ⊥
HoldsUnknown (pair a b) = HoldsUnknown a ⊎ HoldsUnknown b

-- no hole that inference made stands in the term, and no `_`
abbrev pub HoldsNoHole : Term → Type 0
HoldsNoHole (hole k) = ⊥
HoldsNoHole (leaf head.Hole) = ⊥
HoldsNoHole (leaf head.ConstHole) = ⊥
HoldsNoHole (leaf _) = Unit {0}
HoldsNoHole (pair a b) = HoldsNoHole a × HoldsNoHole b

-- a proof is listed whose goal it is
pub record IsProved (r : InferenceResult) (a : Asked) : Type 0 where
  pub number : ℕ
  pub proof : Proof
  pub listed : slice_get r.proofs number ≡ Some proof
  pub goal : asked_goal proof.goal ≡ a
