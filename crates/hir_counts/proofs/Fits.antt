-- What fits by the numbers that were found fits.
use Rattle.std.proofs.Common.{◌≡◌, ℕ, List, length, Bool, Option, Some, ap, ◌∙◌, subst}
use Rattle.std.specs.Prelude.{IsTrue, slice_get, ◌↔◌}
use Rattle.hir_counts.specs.Words.{BodyId, RawBody, RawFacts, param_bound, wrong_args, params_in, wrongs_in, BodyFits, MaybeBodyFits, body_at}
use Rattle.hir_counts.specs.Own.{number_in, AreMosts}
use Rattle.hir_counts.proofs.StandingTypes.{mosts_are}

-- a body that was found
pub body_says : (b w : ℕ → ℕ) (count : ℕ) (raw : RawFacts) (o : Option BodyId) (i : BodyId) (body : RawBody) (told : Bool) → o ≡ Some i → slice_get raw.bodies i.0 ≡ Some body
    → IsTrue told ↔ BodyFits b w count body → IsTrue told ↔ MaybeBodyFits b w count (body_at raw o)
body_says b w count raw o i body told is found says =
    let at : body_at raw o ≡ Some body = ap (λ (p : Option BodyId). body_at raw p) is ∙ found in
    rw at says

abbrev AreFound : RawFacts → List ℕ → List ℕ → Type 0
AreFound raw bs ws = AreMosts param_bound raw.types (length raw.types) bs × AreMosts (wrong_args raw) raw.types (length raw.types) ws

-- what is told by the numbers that were found is told of the facts
pub fits_says : {X : Type 0} (Fits : (b w : ℕ → ℕ) → RawFacts → X → Type 0) (raw : RawFacts) (bs ws : List ℕ) (x : X) (told : Bool) → AreFound raw bs ws
    → IsTrue told ↔ Fits (number_in bs) (number_in ws) raw x → IsTrue told ↔ Fits (params_in raw) (wrongs_in raw) raw x
fits_says Fits raw bs ws x told found says =
    subst (λ (w : ℕ → ℕ). IsTrue told ↔ Fits (params_in raw) w raw x) (mosts_are (wrong_args raw) raw.types ws found.1)
    (subst (λ (b : ℕ → ℕ). IsTrue told ↔ Fits b (number_in ws) raw x) (mosts_are param_bound raw.types bs found.0) says)
