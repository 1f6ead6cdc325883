-- What impls say: The Rust Reference, "Implementations".
use Rattle.std.specs.Prelude.{List, [], ◌∷◌, map, length, Option, Some, None, if◌then◌else◌}
use Rattle.std.specs.List.{list_any}
use Rattle.goal_facts.specs.Words.{GenericArg, Term, pair, RawTraitRef, RawAssocType, RawImpl, RawFacts, arg_types, is_sized_lang, Asked, Rule, implements, projects}
use Rattle.goal_facts.specs.Arguments.{holes, type_at, args_at, goal_at}

abbrev pub impl_holes : RawImpl → List GenericArg
impl_holes p = holes (length p.params)

-- where its predicates hold
abbrev pub impl_rule : RawFacts → RawImpl → Asked → Rule
impl_rule raw p head = record { head = head; preds = map (goal_at raw (impl_holes p)) p.preds }

-- the arguments of its trait, the self type first
abbrev pub impl_args : RawFacts → RawImpl → RawTraitRef → Term
impl_args raw p r = args_at raw (impl_holes p) (p.self_ ∷ arg_types r.args)

abbrev pub trait_rule : RawFacts → RawImpl → RawTraitRef → Rule
trait_rule raw p r = impl_rule raw p (record { kind = implements r.trait_; parts = impl_args raw p r })

abbrev pub assoc_rule : RawFacts → RawImpl → RawTraitRef → RawAssocType → Rule
assoc_rule raw p r x = impl_rule raw p
    (record { kind = projects x.alias; parts = pair (impl_args raw p r) (type_at raw (impl_holes p) x.ty) })

-- that the trait is implemented, and what each of its associated types is
abbrev pub rules_for : RawFacts → RawImpl → Option RawTraitRef → List Rule
rules_for raw p None = []
rules_for raw p (Some r) = trait_rule raw p r ∷ map (assoc_rule raw p r) p.types

-- `None` where the trait is that of types with a size: which these are is walked, and no impl says it
abbrev pub said_trait : RawFacts → Option RawTraitRef → Option RawTraitRef
said_trait raw None = None
said_trait raw (Some r) = if list_any (is_sized_lang r.trait_) raw.lang then None else Some r

abbrev pub impl_rules : RawFacts → RawImpl → List Rule
impl_rules raw p = rules_for raw p (said_trait raw p.trait_)
