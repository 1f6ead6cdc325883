use Rattle.hir_laws.specs.Words.{HoleFits}
use Rattle.hir_laws.proofs.Allowed.{allowed}
use Rattle.hir_laws.proofs.checks.check_holes.Goals as goal

pub new-requires : goal.new-requires
new-requires c i t found = (c.requires i t found).before

pub returns-clause-ok : goal.returns-clause-ok
returns-clause-ok c = (allowed (λ i t. HoleFits c.args.raw.now i) c.args.raw.now.types _ _ _ _ _ c.in_ok-types.ensures c.allow.ensures c.in_ok-allow.was, tt)
