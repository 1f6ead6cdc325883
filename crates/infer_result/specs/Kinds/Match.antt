-- A `match`, whose arms stand at its type: Reference, "match expressions"; upstream `infer/expr.rs`,
-- `Expr::Match`.
use Rattle.std.specs.Prelude.{◌⊎◌, List, Option, Some, None, [], ◌∷◌}
use Rattle.infer_result.specs.Words.{ExprId, Ty, RawArm}
use Rattle.hir_types.specs.declared.ty.Ty.TheVariants as ty
use Rattle.infer_result.specs.declared.result.InferenceResult.{InferenceResult}
use Rattle.infer_result.specs.Table.{HasTy, MaybeMismatch}
use Rattle.infer_result.specs.Placing.{Placing}

-- ---- its rule

-- the expressions of the arms
abbrev pub arm_exprs : List RawArm → List ExprId
arm_exprs [] = []
arm_exprs (a ∷ as_) = a.expr ∷ arm_exprs as_

-- each pattern at the type of the scrutinee
abbrev pub ArmPatterns : Placing → List RawArm → Ty → Type 0
ArmPatterns P [] t = Unit {0}
ArmPatterns P (a ∷ as_) t = P.pattern a.pat t × ArmPatterns P as_ t

-- a guard at `bool`
abbrev pub GuardRule : Placing → Option ExprId → Type 0
GuardRule P None = Unit {0}
GuardRule P (Some e) = P.at e ty.Bool

-- each guard at `bool`, and each arm at the type of the `match`, which these expressions give
abbrev pub ArmsRule : Placing → List ExprId → List RawArm → Ty → Type 0
ArmsRule P es [] t = Unit {0}
ArmsRule P es (a ∷ as_) t = (GuardRule P a.guard × P.alternative es a.expr t) × ArmsRule P es as_ t

-- the patterns at the type of the scrutinee, the arms at the type of the `match`
pub record MatchRule (P : Placing) (r : InferenceResult) (n e : ExprId) (arms : List RawArm) : Type 0 where
  pub scrutinee : Ty
  pub comes : HasTy r e scrutinee
  pub patterns : ArmPatterns P arms scrutinee
  pub type : Ty
  pub has : HasTy r n type
  pub alternatives : ArmsRule P (arm_exprs arms) arms type

-- ---- what excuses it

abbrev pub GuardsHaveMismatch : InferenceResult → List RawArm → Type 0
GuardsHaveMismatch r [] = ⊥
GuardsHaveMismatch r (a ∷ as_) = MaybeMismatch r a.guard ⊎ GuardsHaveMismatch r as_
