-- The clauses of an environment, and what follows from clauses along supertraits: The Rust Reference, "Trait and lifetime
-- bounds", "Supertraits".
use Rattle.std.specs.Prelude.{◌≡◌, ◌⊎◌, ℕ, zero, suc, List, [], map, slice_get, Option, Some, None, option_map, unwrap_or}
use Rattle.goal_facts.specs.Words.{TraitId, GenericDefId, GenericArg, Term, hole, chain, arg_term, RawGoal, RawFacts, count_or_none, params_in_trait, generic_params, Fill, Asked, implements, asked_at, key, self_type, AreArgs}
use Rattle.hir_types.specs.declared.ids.GenericDefId.TheVariants as generic
use Rattle.hir_types.specs.declared.head.Hole.TheVariants as hole_of
use Rattle.goal_facts.specs.Arguments.{holes, own_params, goal_at}
use Rattle.goal_facts.specs.Additions.{SomeSays, Has, AreDistinct}

-- ---- what is stated

abbrev pub preds_or_none : Option (List RawGoal) → List RawGoal
preds_or_none o = unwrap_or o []

abbrev pub trait_preds : RawFacts → TraitId → List RawGoal
trait_preds raw t = preds_or_none (option_map (λ x. x.preds) (slice_get raw.traits t.0))

-- the trait of whose items the environment is
abbrev pub env_trait : RawFacts → GenericDefId → Option TraitId
env_trait raw (generic.TraitId t) = Some t
env_trait raw (generic.TypeAliasId k) = option_map (λ x. x.trait_) (slice_get raw.aliases k.0)
env_trait raw _ = None

abbrev pub preds_of_trait : RawFacts → Option TraitId → List RawGoal
preds_of_trait raw None = []
preds_of_trait raw (Some t) = trait_preds raw t

-- the predicates of an item; those of an associated type are its trait's
abbrev pub env_preds : RawFacts → GenericDefId → List RawGoal
env_preds raw (generic.AdtId a) = preds_or_none (option_map (λ x. x.preds) (slice_get raw.adts a.0))
env_preds raw (generic.FunctionId f) = preds_or_none (option_map (λ x. x.preds) (slice_get raw.fns f.0))
env_preds raw (generic.ImplId i) = preds_or_none (option_map (λ x. x.preds) (slice_get raw.impls i.0))
env_preds raw item = preds_of_trait raw (env_trait raw item)

-- within a trait `Self` implements it
abbrev pub own_clause : ℕ → TraitId → Asked
own_clause n t = record { kind = implements t; parts = chain (map arg_term (own_params n)) }

abbrev pub IsOwn : RawFacts → ℕ → GenericDefId → Asked → Type 0
IsOwn raw n item d = (t : TraitId) × (env_trait raw item ≡ Some t) × (d ≡ own_clause n t)

abbrev pub IsStated : RawFacts → GenericDefId → Asked → Type 0
IsStated raw item d =
    IsOwn raw (generic_params raw item) item d
    ⊎ SomeSays (λ i g d. d ≡ goal_at raw (own_params (generic_params raw item)) g) (env_preds raw item) d

-- ---- what follows

-- of the type that implements the trait
abbrev pub IsOnSelf : Asked → Type 0
IsOnSelf g = self_type (key g.kind g.parts) ≡ hole (hole_of.Ty 0)

-- a predicate on `Self`, with holes for the parameters of its trait, says this at the arguments `w`
abbrev pub SaysAt : RawFacts → List GenericArg → Term → RawGoal → Asked → Type 0
SaysAt raw xs w g d = IsOnSelf (goal_at raw xs g) × (p : Fill) × AreArgs w p (goal_at raw xs g).parts × (d ≡ asked_at p (goal_at raw xs g))

abbrev pub trait_holes : RawFacts → TraitId → List GenericArg
trait_holes raw t = holes (count_or_none (params_in_trait raw t))

-- that a type implements a trait says so of what the trait asks of it
pub record IsSuper (raw : RawFacts) (c d : Asked) : Type 0 where
  pub trait_ : TraitId
  pub kind : c.kind ≡ implements trait_
  pub says : SomeSays (λ i g. SaysAt raw (trait_holes raw trait_) c.parts g) (trait_preds raw trait_) d

-- in at most `n` steps from what is `S`
abbrev pub Follows : RawFacts → (Asked → Type 0) → ℕ → Asked → Type 0
Follows raw S zero d = S d
Follows raw S (suc n) d = Follows raw S n d ⊎ ((c : Asked) × Follows raw S n c × IsSuper raw c d)

-- all that follows in at most `n` steps, each once
pub record IsClosure (raw : RawFacts) (S : Asked → Type 0) (n : ℕ) (ds : List Asked) : Type 0 where
  pub all : (d : Asked) → Follows raw S n d → Has ds d
  pub only : (i : ℕ) (d : Asked) → slice_get ds i ≡ Some d → Follows raw S n d
  pub once : AreDistinct ds
