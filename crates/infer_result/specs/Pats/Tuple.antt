-- A tuple pattern: Reference, "Tuple patterns"; upstream `infer/pat.rs`, `infer_tuple_pat_like`.
use Rattle.std.specs.Prelude.{ℕ, ◌≡◌, List, slice_get, Some, [], ◌∷◌}
use Rattle.infer_result.specs.Words.{PatId, Ty}
use Rattle.hir_types.specs.declared.ty.Ty.TheVariants as ty
use Rattle.infer_result.specs.declared.result.InferenceResult.{InferenceResult}
use Rattle.infer_result.specs.Table.{PatTy}
use Rattle.infer_result.specs.Places.{Given, PatIsAtOrMismatch}

-- ---- its rule

-- each of these at its type, of which there are as many
abbrev pub AllPatsAt : Given → InferenceResult → List PatId → List Ty → Type 0
AllPatsAt g r [] [] = Unit {0}
AllPatsAt g r [] (s ∷ ss) = ⊥
AllPatsAt g r (p ∷ ps) [] = ⊥
AllPatsAt g r (p ∷ ps) (s ∷ ss) = PatIsAtOrMismatch g r p s × AllPatsAt g r ps ss

-- ---- what it gives its parts

-- the component of the pattern's own type at this position
pub record GivesComponent (r : InferenceResult) (p : PatId) (i : ℕ) (t : Ty) : Type 0 where
  pub types : List Ty
  pub has : PatTy r p (ty.Tuple types)
  pub component : slice_get types i ≡ Some t
