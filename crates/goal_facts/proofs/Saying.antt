-- Which impls say something.
use Rattle.std.specs.Prelude.{◌≡◌, Bool, true, false, List, [], Option, Some, None, refl, if◌then◌else◌}
use Rattle.std.specs.List.{list_any}
use Rattle.std.proofs.Common.{ap, ◌∙◌}
use Rattle.goal_facts.specs.Words.{RawTraitRef, RawImpl, RawFacts, is_sized_lang}
use Rattle.goal_facts.specs.Own.{rules_for, said_trait, impl_rules}

abbrev unless : Bool → RawTraitRef → Option RawTraitRef
unless b r = if b then None else Some r

unless_is : (b : Bool) (r t : RawTraitRef) → unless b r ≡ Some t → Some r ≡ Some t
unless_is true r t is = cc
unless_is false r t is = is

pub said_is : (raw : RawFacts) (o : Option RawTraitRef) (t : RawTraitRef) → said_trait raw o ≡ Some t → o ≡ Some t
said_is raw None t is = cc
said_is raw (Some r) t is = unless_is (list_any (is_sized_lang r.trait_) raw.lang) r t is

-- an impl of the trait of types with a size says nothing
pub sized_unsaid : (raw : RawFacts) (p : RawImpl) (r : RawTraitRef) → p.trait_ ≡ Some r → list_any (is_sized_lang r.trait_) raw.lang ≡ true → impl_rules raw p ≡ []
sized_unsaid raw p r is sized = ap (λ o. rules_for raw p (said_trait raw o)) is ∙ ap (λ b. rules_for raw p (unless b r)) sized
