use Rattle.hir_laws.proofs.Allowed.{allowed}
use Rattle.hir_laws.specs.Words.{IsWellFormed}
use Rattle.hir_laws.proofs.checks.check_trees.Goals as goal

pub returns-clause-ok : goal.returns-clause-ok
returns-clause-ok c = (allowed (λ i b. IsWellFormed b) c.args.raw.now.bodies _ _ _ _ _ c.in_ok-bodies.ensures c.allow.ensures c.in_ok-allow.was, tt)
