use Rattle.hir_ids.proofs.Owners.{listed_says, unlisted_says}
use Rattle.hir_ids.proofs.adt_ids.VariantIdsTest.test.Goals as goal

pub returns-then-is_one : goal.returns-then-is_one
returns-then-is_one c =
    listed_says c.args.raw.now c.args.self.now.listers.items c.args.at c.args.item.now c.index.result.now c.has_variant_ids.result c.requires.given c.requires.listed c.index.ensures (c.is_one.ensures.0 c.if-is_one.true) c.has_variant_ids.ensures

pub returns-else-is_one : goal.returns-else-is_one
returns-else-is_one c =
    unlisted_says c.args.raw.now c.args.self.now.listers.items c.args.at c.args.item.now c.index.result.now c.is_one.result c.requires.given c.requires.listed c.index.ensures c.if-is_one.false c.is_one.ensures.1
