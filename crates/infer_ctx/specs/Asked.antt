-- What the walk keeps of the goals that nodes need: each is asked where its node has its type, once, and no other.
use Rattle.std.specs.Prelude.{◌≡◌, ◌==◌, ℕ, true, List, [], ◌∷◌, flat_map, slice_get, Option, Some, None, if◌then◌else◌}
use Rattle.infer_ctx.specs.Words.{ExprOrPatId, RawBody, RawFacts, Scope, Shape, Asked, system, asked_goal, ItemSources, IsSystemOf, HasHeadsIfConcrete, SystemHasHeadsOf, Obligation, GoalTree, AreKept, HasAllOpen, AreCounted, needs_at, Given}
use Rattle.hir_types.specs.declared.ids.ExprOrPatId.TheVariants as node
use Rattle.infer_ctx.specs.declared.context.InferenceContext.{InferenceContext}
use Rattle.infer_ctx.specs.Fine.{is_fine_head}
use Rattle.infer_ctx.specs.Tells.{TellsRecorded}

-- ---- what is asked

-- what an obligation of this parent and this node asks for the expression of the number n
abbrev pub asked_where : ℕ → Option ℕ → ExprOrPatId → Asked → List Asked
asked_where n (Some p) k a = []
asked_where n None (node.PatId p) a = []
asked_where n None (node.ExprId e) a = if e.0 == n then a ∷ [] else []

abbrev pub asked_by_node : ℕ → Obligation → List Asked
asked_by_node n o = asked_where n o.parent o.node (asked_goal o.goal)

-- what was registered for the expression of this number, in its order
abbrev pub asked_at : GoalTree → ℕ → List Asked
asked_at t n = flat_map (asked_by_node n) t.obligations.items

-- for each expression that has a type exactly what it needs at that type, and for others nothing
abbrev pub AllAreAsked : RawFacts → RawBody → InferenceContext → Type 0
AllAreAsked raw b c = (n : ℕ) → asked_at c.goals.obligations.tree n ≡ needs_at raw b c.result n

-- ---- types of goals

-- in the goals of all obligations that may be selected these heads stand alone
abbrev pub TreeHasHeadsOf : Shape → GoalTree → Type 0
TreeHasHeadsOf P t = (i : ℕ) (x : Obligation) → slice_get t.obligations.items i ≡ Some x → HasHeadsIfConcrete P (asked_goal x.goal)

-- they are of these facts, and what goals are selected by has types in scope alone
pub record AreSourcesIn (sc : Scope) (x : ItemSources) : Type 0 where
  pub facts : x.facts ≡ sc.facts
  pub heads : IsSystemOf x.facts x.item (system x.sources) → SystemHasHeadsOf (is_fine_head sc) (system x.sources)

-- ---- at any time of the walk

-- Goals are kept, all that is open is looked at again, goals that may be selected have types in scope alone, and all that nodes need
-- is asked.
pub record AreGoalsOf (g : Given) (c : InferenceContext) : Type 0 where
  pub sources : AreSourcesIn g.scope c.goals.sources
  pub bounded : c.goals.bounded ≡ true
  pub kept : AreKept c.goals.sources.facts (system c.goals.sources.sources) c.goals.table c.goals.obligations
  pub all : HasAllOpen (system c.goals.sources.sources) c.goals.table c.goals.obligations
  pub heads : TreeHasHeadsOf (is_fine_head g.scope) c.goals.obligations.tree
  pub counted : AreCounted c.goals.obligations
  pub asked : AllAreAsked g.scope.facts g.body c

-- types of bindings tell what their patterns say, and goals are asked
pub record IsTold (g : Given) (c : InferenceContext) : Type 0 where
  pub bindings : TellsRecorded g c.result
  pub goals : AreGoalsOf g c
