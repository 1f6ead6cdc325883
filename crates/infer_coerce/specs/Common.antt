-- The common type of several expressions, as far as they are typed.
use Rattle.std.specs.Prelude.{◌≡◌, ◌⊎◌, Bool, true, false, Option, Some, None}
use Rattle.infer_coerce.specs.Words.{Assignment, folded, ExprId, Ty, Scope, State, Grew, StaysButHoles, Given, Found, IsFine, InferenceContext, Closes, found_under, IsSound, Follows}
use Rattle.infer_coerce.specs.declared.coerce_many.CoerceMany.{CoerceMany}
use Rattle.infer_coerce.specs.Coercions.{IsCoercedIf, IsCoercedOrNot, IsCoerced}
use Rattle.infer_coerce.specs.declared.coerce_many.CoerceMany.TheVariants as common

abbrev pub common_under : Assignment → CoerceMany → CoerceMany
common_under a common.Nothing = common.Nothing
common_under a (common.Is t) = common.Is (folded a t)
common_under a common.Unknown = common.Unknown

-- ---- alternatives

-- What the next alternative e, of type t, makes of the common type. It stays also where e is found later to differ from it.
abbrev pub MergesInto : ExprId → Ty → CoerceMany → CoerceMany → Found → Found → Type 0
MergesInto e t common.Nothing m old new = (m ≡ common.Is t) × (new ≡ old)
MergesInto e t (common.Is u) m old new =
    ((m ≡ common.Is u) × IsCoercedOrNot e t u old new) ⊎ ((m ≡ common.Unknown) × IsCoercedIf false e t u old new)
MergesInto e t common.Unknown m old new = (m ≡ common.Unknown) × (new ≡ old)

abbrev pub common_of : Option Ty → CoerceMany
common_of None = common.Nothing
common_of (Some t) = common.Is t

-- the type of a node whose alternatives came to this, where x is expected of them
abbrev pub CompletesAs : Option Ty → CoerceMany → Ty → Type 0
CompletesAs x common.Nothing t = Unit {0}
CompletesAs x (common.Is u) t = t ≡ u
CompletesAs x common.Unknown t = (u : Ty) → x ≡ Some u → t ≡ u

-- ---- alternatives
abbrev pub IsFineCommon : Scope → State → CoerceMany → Type 0
IsFineCommon sc state common.Nothing = Unit {0}
IsFineCommon sc state (common.Is t) = IsFine sc state t
IsFineCommon sc state common.Unknown = Unit {0}

-- the common type u once an alternative was coerced to it, or could not be
abbrev pub common_after : Bool → Ty → CoerceMany
common_after true u = common.Is u
common_after false u = common.Unknown

-- what the next alternative e, of type t, makes of the common type
pub record Merges (g : Given) (e : ExprId) (t : Ty) (before after : CoerceMany) (old new : InferenceContext) : Type 0 where
  pub follows : Follows g old new
  pub clock : new.clock ≡ old.clock
  pub fine : IsFineCommon g.scope new.goals.table after
  pub coerced_to : (u : Ty) → before ≡ common.Is u → (could : Bool) × IsCoerced could g e t u old new × (after ≡ common_after could u)
  pub each : (a : Assignment) → Closes a new
      → MergesInto e (folded a t) (common_under a before) (common_under a after) (found_under a old) (found_under a new)

-- the type of a node whose alternatives came to this, where x is expected of them: a hole that is new
-- where that is nothing known
pub record Completes (sc : Scope) (x : Option Ty) (m : CoerceMany) (t : Ty) (old new : InferenceContext) : Type 0 where
  pub result : new.result ≡ old.result
  pub asked : new.asked ≡ old.asked
  pub clock : new.clock ≡ old.clock
  pub grew : Grew old.goals.table new.goals.table
  pub stays : StaysButHoles old.goals new.goals
  pub sound : IsSound sc new
  pub fine : IsFine sc new.goals.table t
  pub is : CompletesAs x m t
