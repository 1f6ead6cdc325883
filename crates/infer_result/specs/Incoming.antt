-- What comes into a pattern.
use Rattle.std.specs.Prelude.{ℕ, ◌≡◌, ◌⊎◌, slice_get, Some, None}
use Rattle.infer_result.specs.Words.{PatId, Ty, Role, parameter, let_pattern, arm_pattern, subpattern, Node, inner}
use Rattle.hir_types.specs.declared.ids.ExprOrPatId.TheVariants as node
use Rattle.infer_result.specs.declared.result.InferenceResult.{InferenceResult}
use Rattle.infer_result.specs.Table.{HasTy}
use Rattle.infer_result.specs.Places.{Given, StandsAt, IsDeclared}
use Rattle.infer_result.specs.Pats.Tuple.{GivesComponent}
use Rattle.infer_result.specs.Pats.Constructor.{GivesField}

-- the type of the parameter at this position
abbrev pub IsInput : Given → ℕ → Ty → Type 0
IsInput g i t = slice_get g.inputs i ≡ Some (Some t)

-- the type that a pattern gives to its part at this position: a component, or the type of a field. A part
-- beyond the fields is given none.
abbrev pub GivesPart : Given → InferenceResult → Node → ℕ → Ty → Type 0
GivesPart g r (inner (node.PatId p)) i t = GivesComponent r p i t ⊎ GivesField g r p i t
GivesPart g r _ i t = ⊥

-- the type that the node n gives to a pattern in this role: a written type, or that of the initializer,
-- of the scrutinee, of the component
abbrev pub Gives : Given → InferenceResult → Node → Role → Ty → Type 0
Gives g r n (parameter i) t = IsInput g i t
Gives g r n (let_pattern (Some w) init) t = IsDeclared g r w t
Gives g r n (let_pattern None (Some e)) t = HasTy r e t
Gives g r n (arm_pattern e i) t = HasTy r e t
Gives g r n (subpattern i) t = GivesPart g r n i t
Gives g r n _ t = ⊥

-- the type that comes into a pattern
pub record Incoming (g : Given) (r : InferenceResult) (p : PatId) (t : Ty) : Type 0 where
  pub parent : Node
  pub at_part : ℕ
  pub role : Role
  pub stands : StandsAt g.body (node.PatId p) parent at_part role
  pub gives : Gives g r parent role t
