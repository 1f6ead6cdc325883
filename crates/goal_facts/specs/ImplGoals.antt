-- What an impl says as goals over types, with fresh holes for its parameters.
use Rattle.std.specs.Prelude.{◌≡◌, ◌+◌, ◌<◌, ℕ, true, List, ◌∷◌, length, map, flat_map, take, slice_get, Option, Some, None}
use Rattle.std.specs.List.{range_with_len}
use Rattle.goal_facts.specs.Words.{ImplId, Hole, GenericArg, Term, hole, occurs, RawTraitRef, RawImpl, RawFacts, arg_types, generic_params, Fill, Asked, Rule, implements, asked_at, Each}
use Rattle.hir_types.specs.declared.ids.GenericDefId.TheVariants as generic
use Rattle.hir_types.specs.declared.head.Hole.TheVariants as hole_of
use Rattle.hir_types.specs.declared.ty.Ty.TheVariants as ty
use Rattle.hir_types.specs.declared.ty.GenericArg.TheVariants as arg
use Rattle.goal_facts.specs.declared.impl_goals.RuleGoals.{RuleGoals}
use Rattle.goal_facts.specs.Arguments.{args_at, goal_at}
use Rattle.goal_facts.specs.Environment.{Follows}
use Rattle.goal_facts.specs.Bounds.{IsListed}
use Rattle.goal_facts.specs.Impls.{impl_rules}
use Rattle.goal_facts.specs.Systems.{fact}
use Rattle.goal_facts.specs.Goals.{asked_goal}

-- ---- fresh holes

-- each hole as the one that is so many further
abbrev pub fresh : ℕ → Fill
fresh first (hole_of.Ty k) = hole (hole_of.Ty (first + k))
fresh first (hole_of.Int k) = hole (hole_of.Int (first + k))
fresh first (hole_of.Const k) = hole (hole_of.Const (first + k))

-- a hole for each of `n` parameters, the first of this number
abbrev pub holes_from : ℕ → ℕ → List GenericArg
holes_from first n = map (λ k. arg.Ty (ty.Var (first + k))) (range_with_len 0 n)

-- each hole of the term is that of one of `n` parameters
abbrev pub HasHolesBelow : ℕ → Term → Type 0
HasHolesBelow n t = (k : Hole) → occurs k t ≡ true → (j : ℕ) × (j < n) × (k ≡ hole_of.Ty j)

-- ---- where a rule comes from

abbrev pub ImplHasRule : RawFacts → ImplId → Rule → Type 0
ImplHasRule raw id r = (p : RawImpl) × (slice_get raw.impls id.0 ≡ Some p) × ((i : ℕ) × (slice_get (impl_rules raw p) i ≡ Some r))

-- a bound that is listed at an associated type, or what follows from one
abbrev pub IsBound : RawFacts → Rule → Type 0
IsBound raw r = (d : Asked) × (r ≡ fact d) × Follows raw (IsListed raw) raw.limits.goal_depth d

-- from this impl, or from no impl
abbrev pub ComesFrom : RawFacts → Rule → Option ImplId → Type 0
ComesFrom raw r (Some id) = ImplHasRule raw id r
ComesFrom raw r None = IsBound raw r

-- ---- goals

-- that the trait is implemented, at these arguments for the parameters of the impl
abbrev pub head_at : RawFacts → List GenericArg → RawImpl → RawTraitRef → Asked
head_at raw xs p r = record { kind = implements r.trait_; parts = args_at raw xs (p.self_ ∷ arg_types r.args) }

-- the goals are the rule, where the first of the holes for the impl's parameters has this number
pub record AreGoalsOf (raw : RawFacts) (first : ℕ) (r : Rule) (made : RuleGoals) : Type 0 where
  pub source : ImplHasRule raw made.source r
  pub args : made.args ≡ holes_from first (generic_params raw (generic.ImplId made.source))
  pub head : asked_goal made.head ≡ asked_at (fresh first) r.head
  pub preds : map asked_goal made.preds.items ≡ map (asked_at (fresh first)) r.preds
  pub head_holes : HasHolesBelow (generic_params raw (generic.ImplId made.source)) r.head.parts
  pub pred_holes : Each (λ q. HasHolesBelow (generic_params raw (generic.ImplId made.source)) q.parts) r.preds

-- that an impl implements its trait, at these arguments for its parameters
pub record AreGoalsAt (raw : RawFacts) (id : ImplId) (xs : List GenericArg) (p : RawImpl) (r : RawTraitRef)
    (made : RuleGoals) : Type 0 where
  pub source : made.source ≡ id
  pub args : made.args ≡ xs
  pub head : asked_goal made.head ≡ head_at raw xs p r
  pub preds : map asked_goal made.preds.items ≡ map (goal_at raw xs) p.preds

-- or that it implements none
abbrev pub AreGoalsIf : RawFacts → ImplId → List GenericArg → RawImpl → Option RawTraitRef → Option RuleGoals → Type 0
AreGoalsIf raw id xs p (Some r) (Some made) = AreGoalsAt raw id xs p r made
AreGoalsIf raw id xs p None None = Unit {0}
AreGoalsIf raw id xs p _ _ = ⊥

-- ---- places

-- the place is that many behind the first `n`, or among them
abbrev pub IsPlaceBehind : ℕ → ℕ → Option ℕ → Type 0
IsPlaceBehind n i (Some rest) = i ≡ n + rest
IsPlaceBehind n i None = i < n

-- how many rules the first `n` impls give
abbrev pub rules_of_first : RawFacts → ℕ → ℕ
rules_of_first raw n = length (flat_map (impl_rules raw) (take n raw.impls))

-- the place is among the rules of this impl, or behind those of all
abbrev pub IsPlaceOf : RawFacts → ℕ → Option ImplId → Type 0
IsPlaceOf raw i (Some id) = (p : RawImpl) × (rest : ℕ) × (slice_get raw.impls id.0 ≡ Some p) × (rest < length (impl_rules raw p))
    × (i ≡ rules_of_first raw id.0 + rest)
IsPlaceOf raw i None = (rest : ℕ) × (i ≡ length (flat_map (impl_rules raw) raw.impls) + rest)
