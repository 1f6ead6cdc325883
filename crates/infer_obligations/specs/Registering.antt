-- Obligations that nodes' goals are added to.
use Rattle.std.specs.Prelude.{◌≡◌, ℕ, List, map, slice_get, Some, None}
use Rattle.infer_obligations.specs.Words.{ExprOrPatId, RawFacts, Asked, asked_goal, Obligation, IsAsked, Obligations}
use Rattle.hir_types.specs.declared.ids.ExprOrPatId.TheVariants as node

-- that the expression of this number needs these
abbrev pub asked_for : ℕ → List Asked → List (ExprOrPatId × Asked)
asked_for n xs = map (λ a. (node.ExprId (record { 0 = n }), a)) xs

-- its node, and what it asks
abbrev pub node_asks : Obligation → ExprOrPatId × Asked
node_asks o = (o.node, asked_goal o.goal)

-- a node asks for it, and it may be followed for so many steps
pub record IsRegistered (limit : ℕ) (o : Obligation) : Type 0 where
  pub by_node : o.parent ≡ None
  pub depth : o.depth ≡ limit

-- these were registered as well, in this order
pub record Registers (raw : RawFacts) (xs : List (ExprOrPatId × Asked)) (o o' : Obligations) : Type 0 where
  pub added : List Obligation
  pub asked : IsAsked o.tree o'.tree added
  pub asks : map node_asks added ≡ xs
  pub each : (i : ℕ) (x : Obligation) → slice_get added i ≡ Some x → IsRegistered raw.limits.goal_depth x
  pub selected : o'.selected ≡ o.selected
