-- Written types and goals as terms, at arguments for the parameters in scope.
use Rattle.std.specs.Prelude.{ℕ, List, map}
use Rattle.std.specs.List.{range_with_len}
use Rattle.goal_facts.specs.Words.{TypeRefId, Ty, GenericArg, replaced, with_params, Term, pair, chain, term, arg_term, RawGoal, RawFacts, arg_types, written_type, Asked, implements, projects}
use Rattle.hir_types.specs.declared.ty.Ty.TheVariants as ty
use Rattle.hir_types.specs.declared.ty.GenericArg.TheVariants as arg
use Rattle.goal_facts.specs.Words.hir_raw.declared.raw.RawGoal.TheVariants as goal

-- a hole for each parameter, and each by itself
abbrev pub holes : ℕ → List GenericArg
holes n = map (λ k. arg.Ty (ty.Var k)) (range_with_len 0 n)

abbrev pub own_params : ℕ → List GenericArg
own_params n = map (λ k. arg.Ty (ty.Param k)) (range_with_len 0 n)

-- a written type at these arguments
abbrev pub instance : RawFacts → List GenericArg → TypeRefId → Ty
instance raw xs w = replaced (with_params xs) (written_type raw.types w)

abbrev pub instances : RawFacts → List GenericArg → List TypeRefId → List GenericArg
instances raw xs ws = map (λ w. arg.Ty (instance raw xs w)) ws

abbrev pub type_at : RawFacts → List GenericArg → TypeRefId → Term
type_at raw xs w = term (instance raw xs w)

abbrev pub args_at : RawFacts → List GenericArg → List TypeRefId → Term
args_at raw xs ws = chain (map arg_term (instances raw xs ws))

-- ---- goals

-- the types that a goal is about, the self type first
abbrev pub goal_types : RawGoal → List TypeRefId
goal_types (goal.Trait r) = arg_types r.args
goal_types (goal.Projection k ws w) = arg_types ws

-- a goal with these arguments in the place of its own
abbrev pub goal_with : RawFacts → List GenericArg → RawGoal → Term → Asked
goal_with raw xs (goal.Trait r) args = record { kind = implements r.trait_; parts = args }
goal_with raw xs (goal.Projection k ws w) args = record { kind = projects k; parts = pair args (type_at raw xs w) }

abbrev pub goal_at : RawFacts → List GenericArg → RawGoal → Asked
goal_at raw xs g = goal_with raw xs g (args_at raw xs (goal_types g))
