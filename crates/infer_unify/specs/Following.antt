-- How it is found out what associated types read as: one after another, and all of them as many times as there are of them.
use Rattle.std.specs.Prelude.{◌≡◌, ◌⊎◌, ℕ, zero, suc, Bool, true, false, List, [], ◌∷◌}
use Rattle.infer_unify.specs.Words.{Term, Log, Aliases, ReadsAs}
use Rattle.infer_unify.specs.Opening.{Alias}
use Rattle.infer_unify.specs.Unifying.{known_alias, IsStepOf, IsNoStepOf, AreSteps, IsNoStep}

-- the hole of one was made equal with what it reads as, or it reads as nothing; or nothing makes them equal
abbrev pub IsFollowed : Aliases → Alias → Log → Log → Bool → Type 0
IsFollowed A p l l' true = ((l' ≡ l) × ((type : Term) → ReadsAs A (known_alias l p) type → ⊥)) ⊎ IsStepOf A p l l'
IsFollowed A p l l' false = IsNoStepOf A p l

-- so it was of some of these, one after another
abbrev pub AreFollowed : Aliases → List Alias → Log → Log → Bool → Type 0
AreFollowed A ps l l' true = (ms : List Log) × AreSteps A ps ms l l'
AreFollowed A ps l l' false = (m : Log) × (ms : List Log) × AreSteps A ps ms l m × IsNoStep A ps m

-- of each of these, one after another
abbrev pub IsRound : Aliases → List Alias → Log → Log → Type 0
IsRound A [] l l' = l' ≡ l
IsRound A (p ∷ ps) l l' = (m : Log) × IsFollowed A p l m true × IsRound A ps m l'

-- so many times
abbrev pub AreRounds : Aliases → List Alias → ℕ → Log → Log → Type 0
AreRounds A ps zero l l' = l' ≡ l
AreRounds A ps (suc n) l l' = (m : Log) × AreRounds A ps n l m × IsRound A ps m l'
