-- What is copied since its parts are.
use Rattle.std.specs.Prelude.{◌≡◌, List, map, Option, Some, None}
use Rattle.goal_prove.specs.Words.{Term, Kind, Asked, System, only, CopiesParts}

-- the goals of the parts; or it is no matter of parts
abbrev pub CopiesAre : System → Kind → Term → Option (List Asked) → Type 0
CopiesAre f c w (Some gs) = (ts : List Term) × CopiesParts f c w ts × (gs ≡ map (λ t. record { kind = c; parts = only t }) ts)
CopiesAre f c w None = (ts : List Term) → CopiesParts f c w ts → ⊥
