-- Which impl a rule comes from, by its place.
use Rattle.std.specs.Prelude.{◌≡◌, ◌+◌, ◌<◌, ℕ, zero, suc, List, [], ◌∷◌, ◌++◌, length, map, flat_map, take, slice_get, Option, Some, None, refl}
use Rattle.std.proofs.Common.{sym, ap, ap₂, ◌∙◌, subst, arith, append_assoc}
use Rattle.std.proofs.lemmas.List.{length-append}
use Rattle.std.proofs.lemmas.Option.{same_Some}
use Rattle.goal_facts.specs.Words.{ImplId, RawTraitRef, RawImpl, RawFacts, Rule, IsTraitKind, IsConcrete}
use Rattle.goal_facts.specs.Own.{trait_rule, assoc_rule, rules_for, said_trait, impl_rules, fact, RulesAre, ImplHasRule, ComesFrom, IsPlaceOf}
use Rattle.goal_facts.proofs.Adding.{get_in_map}
use Rattle.goal_facts.proofs.ListedBounds.{listed_not_concrete}
use Rattle.goal_facts.proofs.Saying.{said_is}

-- ---- places in lists one behind the other

get_behind : {X : Type 0} (xs ys : List X) (i : ℕ) → slice_get (xs ++ ys) (length xs + i) ≡ slice_get ys i
get_behind [] ys i = let e : 0 + i ≡ i = omega arith in ap (slice_get ys) e
get_behind (x ∷ xs) ys i = let e : suc (length xs) + i ≡ suc (length xs + i) = omega arith in ap (slice_get (x ∷ (xs ++ ys))) e ∙ get_behind xs ys i

get_first : {X : Type 0} (xs ys : List X) (i : ℕ) → i < length xs → slice_get (xs ++ ys) i ≡ slice_get xs i
get_first [] ys i h = absurd (omega (arith, h))
get_first (x ∷ xs) ys zero h = refl
get_first (x ∷ xs) ys (suc i) h = get_first xs ys i (omega (arith, h))

get_among : {X Y : Type 0} (f : X → List Y) (xs : List X) (ys : List Y) (x : X) (n i : ℕ) → slice_get xs n ≡ Some x → i < length (f x)
    → slice_get (flat_map f xs ++ ys) (length (flat_map f (take n xs)) + i) ≡ slice_get (f x) i
get_among f [] ys x n i at h = cc
get_among f (y ∷ xs) ys x zero i at h =
    let same : x ≡ y = sym (same_Some y x at) in
    let less : i < length (f y) = subst (λ z. i < length (f z)) same h in
    let here : 0 + i ≡ i = omega arith in
    ap (λ zs. slice_get zs (0 + i)) (append_assoc (f y) (flat_map f xs) ys)
    ∙ (ap (slice_get (f y ++ (flat_map f xs ++ ys))) here ∙ (get_first (f y) (flat_map f xs ++ ys) i less ∙ ap (λ z. slice_get (f z) i) (sym same)))
get_among f (y ∷ xs) ys x (suc n) i at h =
    let long : length (f y ++ flat_map f (take n xs)) ≡ length (f y) + length (flat_map f (take n xs)) = length-append (f y) (flat_map f (take n xs)) in
    let sum : length (f y ++ flat_map f (take n xs)) + i ≡ length (f y) + (length (flat_map f (take n xs)) + i) = omega (arith, long) in
    ap (λ zs. slice_get zs (length (f y ++ flat_map f (take n xs)) + i)) (append_assoc (f y) (flat_map f xs) ys)
    ∙ (ap (slice_get (f y ++ (flat_map f xs ++ ys))) sum
    ∙ (get_behind (f y) (flat_map f xs ++ ys) (length (flat_map f (take n xs)) + i) ∙ get_among f xs ys x n i at h))

-- ---- the impl of a rule

pub rule_from : (raw : RawFacts) (rs : List Rule) → RulesAre raw rs → (i : ℕ) (o : Option ImplId) → IsPlaceOf raw i o → (r : Rule) → slice_get rs i ≡ Some r → ComesFrom raw r o
rule_from raw rs are i (Some id) (p, rest, at, less, is) r here =
    (p, at, (rest, sym (get_among (impl_rules raw) raw.impls (map fact are.listed) p id.0 rest at less) ∙ (ap (slice_get (flat_map (impl_rules raw) raw.impls ++ map fact are.listed)) (sym is) ∙ (ap (λ xs. slice_get xs i) (sym are.are) ∙ here))))
rule_from raw rs are i None (rest, is) r here =
    let at : slice_get (map fact are.listed) rest ≡ Some r =
    sym (get_behind (flat_map (impl_rules raw) raw.impls) (map fact are.listed) rest) ∙ (ap (slice_get (flat_map (impl_rules raw) raw.impls ++ map fact are.listed)) (sym is) ∙ (ap (λ xs. slice_get xs i) (sym are.are) ∙ here)) in
    let found = get_in_map fact are.listed rest r at in
    (found.0, sym found.2, are.closed.only rest found.0 found.1)

-- ---- the rule that an impl implements its trait

trait_rule_at : (raw : RawFacts) (p : RawImpl) (o : Option RawTraitRef) (i : ℕ) (r : Rule) → slice_get (rules_for raw p o) i ≡ Some r → IsTraitKind r.head.kind → (t : RawTraitRef) × (o ≡ Some t) × (r ≡ trait_rule raw p t)
trait_rule_at raw p None i r at kind = cc
trait_rule_at raw p (Some t) zero r at kind = (t, refl, sym (same_Some (trait_rule raw p t) r at))
trait_rule_at raw p (Some t) (suc i) r at kind =
    let found = get_in_map (assoc_rule raw p t) p.types i r at in
    absurd (subst (λ x. IsTraitKind x.head.kind) (sym found.2) kind)

pub trait_rule_is : (raw : RawFacts) (id : ImplId) (p : RawImpl) (t : RawTraitRef) (r : Rule) → slice_get raw.impls id.0 ≡ Some p → p.trait_ ≡ Some t → ImplHasRule raw id r → IsTraitKind r.head.kind → r ≡ trait_rule raw p t
trait_rule_is raw id p t r here trait_ (q, at, (i, found)) kind =
    let own : q ≡ p = same_Some q p (sym at ∙ here) in
    let is = trait_rule_at raw q (said_trait raw q.trait_) i r found kind in
    let same : is.0 ≡ t = same_Some is.0 t (sym (said_is raw q.trait_ is.0 is.1) ∙ (ap (λ x. x.trait_) own ∙ trait_)) in
    is.2 ∙ ap₂ (trait_rule raw) own same

-- its trait is no trait of types with a size
pub trait_is_said : (raw : RawFacts) (id : ImplId) (p : RawImpl) (t : RawTraitRef) (r : Rule) → slice_get raw.impls id.0 ≡ Some p → p.trait_ ≡ Some t → ImplHasRule raw id r → IsTraitKind r.head.kind → said_trait raw p.trait_ ≡ Some t
trait_is_said raw id p t r here trait_ (q, at, (i, found)) kind =
    let own : q ≡ p = same_Some q p (sym at ∙ here) in
    let is = trait_rule_at raw q (said_trait raw q.trait_) i r found kind in
    let same : is.0 ≡ t = same_Some is.0 t (sym (said_is raw q.trait_ is.0 is.1) ∙ (ap (λ x. x.trait_) own ∙ trait_)) in
    sym (ap (λ (x : RawImpl). said_trait raw x.trait_) own) ∙ (is.1 ∙ ap (λ x. Some x) same)

-- ---- a rule that is no bound

pub not_bound : (raw : RawFacts) (r : Rule) → ComesFrom raw r None → IsTraitKind r.head.kind → IsConcrete r.head.parts → ⊥
not_bound raw r (d, is, follows) kind concrete =
    listed_not_concrete raw raw.limits.goal_depth d follows (subst (λ x. IsTraitKind x.head.kind) is kind) (subst (λ x. IsConcrete x.head.parts) is concrete)
