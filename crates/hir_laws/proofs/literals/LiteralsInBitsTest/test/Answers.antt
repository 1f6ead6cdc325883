use Rattle.hir_laws.proofs.Words.{scheduled_at}
use Rattle.hir_laws.proofs.literals.LiteralsInBitsTest.test.Goals as goal

pub literals_fit-requires : goal.literals_fit-requires
literals_fit-requires c = (scheduled_at c.args._raw.now.bodies c.args.self.now.schedules.now c.as_slice.result.now c.args.at c.args.item.now c.index-as_slice-at.result c.requires.given c.requires.listed c.as_slice.ensures c.index-as_slice-at.is).0
