use Rattle.hir_laws.specs.Words.{NamesFit, LiteralsFit}
use Rattle.hir_laws.proofs.Allowed.{allowed}
use Rattle.hir_laws.proofs.checks.check_literals.Goals as goal

pub returns-clause-ok : goal.returns-clause-ok
returns-clause-ok c = (
  allowed (λ i v. NamesFit v) c.args.raw.now.variants _ _ _ _ _ c.in_ok-variants.ensures c.allow.ensures c.in_ok-allow.was,
  (allowed (λ i b. LiteralsFit b) c.args.raw.now.bodies _ _ _ _ _ c.in_ok-bodies.ensures c.allow-2.ensures c.in_ok-allow-2.was, tt),
)
