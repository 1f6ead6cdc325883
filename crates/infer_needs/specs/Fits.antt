-- Types that a table lists for associated types, those in what it says could not be shown, and those in its proofs: they name what the
-- facts have, and have no holes.
use Rattle.std.specs.Prelude.{◌≡◌, ℕ, List, slice_get, Some, IsTrue}
use Rattle.infer_needs.specs.Words.{ExprOrPatId, Goal, GenericArg, out-TraitRef, Ty, IsClosed, ty_fits, Scope, Gap, InferenceResult, HasGap, Given, System, IsSystemOf, Proof, ProofSource, AreDrawn, DefWithBodyId, scope_item}
use Rattle.hir_types.specs.declared.goal.Goal.TheVariants as goal
use Rattle.hir_types.specs.declared.ty.GenericArg.TheVariants as arg
use Rattle.hir_types.specs.declared.ty.Ty.TheVariants as ty
use Rattle.infer_result.specs.declared.gaps.Gap.TheVariants as gap
use Rattle.infer_needs.specs.Words.goal_facts.declared.proof.ProofSource.TheVariants as source

-- the type names what there is, and neither a hole nor `_` stands in it
pub record IsFitType (sc : Scope) (t : Ty) : Type 0 where
  pub fits : IsTrue (ty_fits sc t)
  pub closed : IsClosed t

-- each argument is such a type
abbrev pub AreFitArgs : Scope → List GenericArg → Type 0
AreFitArgs sc xs = (k : ℕ) (x : GenericArg) → slice_get xs k ≡ Some x → (t : Ty) × (x ≡ arg.Ty t) × IsFitType sc t

-- so is each in the goal, and the associated type that it is about
abbrev pub IsFitGoal : Scope → Goal → Type 0
IsFitGoal sc (goal.Trait r) = AreFitArgs sc (out-TraitRef r).args
IsFitGoal sc (goal.Projection k xs t) = IsFitType sc (ty.Projection k xs) × IsFitType sc t

-- and each that a gap speaks of
abbrev pub IsFitGap : Scope → Gap → Type 0
IsFitGap sc (gap.Unproved n q) = IsFitGoal sc q
IsFitGap sc (gap.Clash n a t u) = IsFitType sc a × IsFitType sc t × IsFitType sc u

pub record EntriesFit (g : Given) (r : InferenceResult) : Type 0 where
  pub entries : (k : ℕ) (x : Ty × Ty) → slice_get r.projections k ≡ Some x → IsFitType g.scope x.0 × IsFitType g.scope x.1
  pub gaps : (n : ExprOrPatId) (x : Gap) → HasGap r n x → IsFitGap g.scope x

-- what stands for the parameters of an impl is such types; a clause is the facts' own
abbrev pub IsFitSource : Scope → ProofSource → Type 0
IsFitSource sc (source.Impl id xs) = AreFitArgs sc xs
IsFitSource sc _ = Unit {0}

pub record IsFitProof (sc : Scope) (x : Proof) : Type 0 where
  pub goal : IsFitGoal sc x.goal
  pub source : IsFitSource sc x.source

-- each listed proof is such; and its impl stands at parts of what its goal reads as: at `{unknown}` where its head lacks a parameter
pub record ProofsFit (d : DefWithBodyId) (g : Given) (r : InferenceResult) : Type 0 where
  pub system : System
  pub of_item : IsSystemOf g.scope.facts (scope_item g.scope.facts d) system
  pub each : (k : ℕ) (x : Proof) → slice_get r.proofs k ≡ Some x → IsFitProof g.scope x
  pub drawn : AreDrawn g.scope.facts system r.proofs
