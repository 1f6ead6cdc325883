-- What is noted of the associated types that the `let`s of a body are written with.
use Rattle.std.specs.Prelude.{◌≡◌, ℕ, List, Option, Some}
use Rattle.infer_obligations.specs.Words.{Ty, RawType, Scope, lowered, System, IsAliasKnownAs, recorded}

-- each type that is noted is what the body knows of the type of its number
abbrev pub AreNoted : Scope → System → ℕ → List RawType → List (Option Ty) → Type 0
AreNoted sc f n types known = (k : ℕ) (t : Ty) → recorded known k ≡ Some t → IsAliasKnownAs sc f n (lowered types k) (Some t)

-- what the body knows of type k is noted, and what was known of others still is
pub record NotesAlias (sc : Scope) (f : System) (n : ℕ) (types : List RawType) (k : ℕ) (old new : List (Option Ty)) : Type 0 where
  pub noted : AreNoted sc f n types new
  pub here : IsAliasKnownAs sc f n (lowered types k) (recorded new k)
  pub kept : (j : ℕ) → IsAliasKnownAs sc f n (lowered types j) (recorded old j) → IsAliasKnownAs sc f n (lowered types j) (recorded new j)
