-- What comes of a coercion.
use Rattle.std.specs.Prelude.{◌≡◌, ◌⊎◌, Bool, true, false, Result, Ok, Err}
use Rattle.infer_coerce.specs.Words.{ExprId, Ty, Assignment, folded, IsUnknownPair, mismatch, Given, Found, with_mismatch, InferenceContext, IsUnasked, Follows, waiting_at, Closes, found_under}
use Rattle.hir_types.specs.declared.ids.ExprOrPatId.TheVariants as node
use Rattle.infer_coerce.specs.declared.coercion.Coerced.{Coerced}
use Rattle.infer_coerce.specs.declared.coercion.NotCoercible.{NotCoercible}
use Rattle.infer_coerce.specs.MadeEqual.{IsUnifiedIf}

-- ---- coercions

-- The two types are the same, or they differ, and that is noted as a mismatch at the expression.
abbrev pub IsCoercedIf : Bool → ExprId → Ty → Ty → Found → Found → Type 0
IsCoercedIf true e actual target old new = (actual ≡ target) × (new ≡ old)
IsCoercedIf false e actual target old new = (target ≡ actual → ⊥) × (new ≡ with_mismatch old e (mismatch target actual))

-- one of these
abbrev pub IsCoercedOrNot : ExprId → Ty → Ty → Found → Found → Type 0
IsCoercedOrNot e actual target old new = (fits : Bool) × IsCoercedIf fits e actual target old new

-- of neither type anything is known, and nothing stands at the expression
pub record MayWait (c : InferenceContext) (e : ExprId) (actual target : Ty) : Type 0 where
  pub unasked : IsUnasked c e
  pub unknown : IsUnknownPair c.goals.table (record { source = actual; target = target; node = node.ExprId e })

-- the expression waits till one of the two types is known
pub record Waits (e : ExprId) (actual target : Ty) (old new : InferenceContext) : Type 0 where
  pub may : MayWait old e actual target
  pub waits : new ≡ waiting_at old e actual target

-- the answer is the type that was asked for, or the two types
abbrev pub CoercionAnswers : Result Coerced NotCoercible → Ty → Ty → Type 0
CoercionAnswers (Ok r) source target = r.ty ≡ target
CoercionAnswers (Err x) source target = (x.source ≡ source) × (x.target ≡ target)

-- The two types are the same from then on, or the expression waits; or they were refused.
abbrev pub Comes : Result Coerced NotCoercible → Given → ExprId → Ty → Ty → InferenceContext → InferenceContext → Type 0
Comes (Ok r) g e source target old new = IsUnifiedIf true g source target old new ⊎ Waits e source target old new
Comes (Err x) g e source target old new = IsUnifiedIf false g source target old new

-- The two types are the same, or that they are not is noted, as it is for one that waits; where they were refused nothing is noted.
abbrev pub ComesUnder : Result Coerced NotCoercible → ExprId → Ty → Ty → Found → Found → Type 0
ComesUnder (Ok r) e source target old new = IsCoercedOrNot e source target old new
ComesUnder (Err x) e source target old new = (target ≡ source → ⊥) × (new ≡ old)

-- what a coercion of the expression from the type `source` to `target` answers, and what comes of it
pub record IsCoercion (answer : Result Coerced NotCoercible) (g : Given) (e : ExprId) (source target : Ty)
    (old new : InferenceContext) : Type 0 where
  pub follows : Follows g old new
  pub clock : new.clock ≡ old.clock
  pub answers : CoercionAnswers answer source target
  pub comes : Comes answer g e source target old new
  pub each : (a : Assignment) → Closes a new
      → ComesUnder answer e (folded a source) (folded a target) (found_under a old) (found_under a new)

-- what it says of an assignment that a coercion could be made
abbrev pub Says : Bool → Bool → Type 0
Says true fits = Unit {0}
Says false fits = fits ≡ false

-- The two types are the same from here on, or they differ, and that is noted as a mismatch at the
-- expression. Where the coercion could be made, they are the same, or the expression waits: then it depends on
-- the assignment which of the two it is.
pub record IsCoerced (could : Bool) (g : Given) (e : ExprId) (actual target : Ty) (old new : InferenceContext) : Type 0 where
  pub follows : Follows g old new
  pub clock : new.clock ≡ old.clock
  pub comes : could ≡ true → IsUnifiedIf true g actual target old new ⊎ Waits e actual target old new
  pub each : (a : Assignment) → Closes a new → (fits : Bool) × Says could fits
      × IsCoercedIf fits e (folded a actual) (folded a target) (found_under a old) (found_under a new)
