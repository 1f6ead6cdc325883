-- The nodes of a body are a tree, each binding is bound once, but for the parts of or-patterns, and each label stands once.
use Rattle.std.specs.Prelude.{ℕ, ◌≡◌, ◌<◌, ◌⊎◌, List, [], ◌∷◌, length, slice_get, Option, Some, option_map}
use Rattle.std.specs.Option.{option_and_then}
use Rattle.hir_facts.specs.Words.{BindingId, LabelId, PatId, RawBody, Binds, Node, inner, part_at, Mentions}
use Rattle.hir_types.specs.declared.ids.ExprOrPatId.TheVariants as node
use Rattle.hir_raw.specs.declared.mention.Mention.TheVariants as it
use Rattle.hir_raw.specs.declared.mention.LabelRole.TheVariants as labelled
use Rattle.hir_raw.specs.declared.raw.RawPat.TheVariants as pat
use Rattle.hir_raw.specs.declared.later.LaterPat.TheVariants as later_pat
use Rattle.hir_raw.specs.Order.{IsTree}

-- ---- below a node

-- Where a way leads from a node. It says which part is taken at each step, the last step first.
abbrev pub follow_from : RawBody → Node → List ℕ → Option Node
follow_from b n [] = Some n
follow_from b n (k ∷ way) = option_and_then (λ m. option_map (λ p. inner p.node) (part_at b m k)) (follow_from b n way)

-- the node m is n, or stands below it
pub record IsWithin (b : RawBody) (n m : Node) : Type 0 where
  pub way : List ℕ
  pub there : follow_from b n way ≡ Some m

-- ---- bindings

-- the patterns p and q stand in different parts of one or-pattern
pub record AreAlternatives (b : RawBody) (p q : PatId) : Type 0 where
  pub whole : PatId
  pub parts : List PatId
  pub is_or : slice_get b.pats whole.0 ≡ Some (pat.Later (later_pat.Or parts))
  pub i : ℕ
  pub j : ℕ
  pub apart : i ≡ j → ⊥
  pub first : PatId
  pub second : PatId
  pub is_first : slice_get parts i ≡ Some first
  pub is_second : slice_get parts j ≡ Some second
  pub in_first : IsWithin b (inner (node.PatId first)) (inner (node.PatId p))
  pub in_second : IsWithin b (inner (node.PatId second)) (inner (node.PatId q))

-- by `self` alone
pub record BoundBySelf (b : RawBody) (v : BindingId) : Type 0 where
  pub is_self : b.self_ ≡ Some v
  pub alone : (p : PatId) → Binds b p v → ⊥

-- by patterns alone, of which any two stand in different parts of one or-pattern
pub record BoundByPatterns (b : RawBody) (v : BindingId) : Type 0 where
  pub binder : PatId
  pub binds : Binds b binder v
  pub apart : (p q : PatId) → Binds b p v → Binds b q v → (p ≡ q) ⊎ AreAlternatives b p q
  pub not_self : b.self_ ≡ Some v → ⊥

-- by one pattern alone
pub record BoundByPattern (b : RawBody) (v : BindingId) : Type 0 where
  pub binder : PatId
  pub binds : Binds b binder v
  pub only : (p : PatId) → Binds b p v → p ≡ binder
  pub not_self : b.self_ ≡ Some v → ⊥

-- ---- labels

-- a label stands at one loop or block
abbrev pub StandOnce : RawBody → Type 0
StandOnce b = (l : LabelId) (n m : Node) → Mentions b n (it.Label labelled.Here l) → Mentions b m (it.Label labelled.Here l) → n ≡ m

pub record IsWellFormed (b : RawBody) : Type 0 where
  pub tree : IsTree b
  pub bound : (v : BindingId) → v.0 < length b.bindings → BoundBySelf b v ⊎ BoundByPatterns b v
  pub labels : StandOnce b
