use Rattle.std.proofs.Common.{arith}
use Rattle.infer_branches.proofs.InAlternatives.{alternative_done, fine_common_grown}
use Rattle.infer_branches.proofs.branch.infer_alternative.Goals as goal

pub infer-requires : goal.infer-requires
infer-requires g c = c.requires.infers.may _ _ _ (omega arith) c.requires.before

pub coerce-requires-clause-of_body : goal.coerce-requires-clause-of_body
coerce-requires-clause-of_body g c = (c.requires.infers.does _ _ _ _ _ c.in_ok-ty.ensures).follows.of_body

pub coerce-requires-clause-sound : goal.coerce-requires-clause-sound
coerce-requires-clause-sound g c = (c.requires.infers.does _ _ _ _ _ c.in_ok-ty.ensures).follows.sound

pub coerce-requires-clause-ty : goal.coerce-requires-clause-ty
coerce-requires-clause-ty g c = (c.requires.infers.does _ _ _ _ _ c.in_ok-ty.ensures).fine

pub coerce-requires-clause-common : goal.coerce-requires-clause-common
coerce-requires-clause-common g c = fine_common_grown _ _ _ _ (c.requires.infers.does _ _ _ _ _ c.in_ok-ty.ensures).follows.grew c.requires.common

pub returns : goal.returns
returns g c = alternative_done _ _ _ _ _ _ _ _ _ _ (c.requires.infers.does _ _ _ _ _ c.in_ok-ty.ensures) c.in_ok-coerce.ensures
