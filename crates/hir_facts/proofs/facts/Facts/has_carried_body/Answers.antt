use Rattle.std.proofs.Common.{sym}
use Rattle.hir_facts.proofs.InRange.{body_in_range}
use Rattle.hir_facts.proofs.facts.Facts.has_carried_body.Goals as goal

pub body-requires : goal.body-requires
body-requires c = body_in_range c.args.self.now c.args.def c.in-Some.body c.lawful.ensures (sym c.in-Some.ensures)
