use Rattle.hir_laws.specs.Own.{AreFirsts}
use Rattle.hir_laws.proofs.scopes.firsts_of.Given as goal

abbrev pub invariant-loop-said : goal.invariant-loop-said
invariant-loop-said l = AreFirsts l.starts l.said l.said-index l.count l.firsts.items
