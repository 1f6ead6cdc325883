use Rattle.hir_ids.proofs.Owners.{owned_says, unowned_says}
use Rattle.hir_ids.proofs.body_ids.BodyIdsTest.test.Goals as goal

pub returns-then-is_one : goal.returns-then-is_one
returns-then-is_one c =
    owned_says c.args.raw.now c.args.self.now.owners.items c.args.at c.args.item.now c.index.result.now _ c.requires.given c.requires.listed c.index.ensures (c.is_one.ensures.0 c.if-is_one.true) c.in_ok-here.ensures

pub returns-else-is_one : goal.returns-else-is_one
returns-else-is_one c =
    unowned_says c.args.raw.now c.args.self.now.owners.items c.args.at c.args.item.now c.index.result.now c.is_one.result c.requires.given c.requires.listed c.index.ensures c.if-is_one.false c.is_one.ensures.1
