use Rattle.hir_ids.proofs.Owners.{alias_says, unlisted_alias_says}
use Rattle.hir_ids.proofs.goal_ids.AliasIdsTest.test.Goals as goal

pub returns-then-is_one : goal.returns-then-is_one
returns-then-is_one c =
    alias_says c.args.raw.now c.args.self.now.listers.items c.args.at c.args.item.now c.index.result.now c.has_alias_ids.result c.requires.given c.requires.listed c.index.ensures (c.is_one.ensures.0 c.if-is_one.true) c.has_alias_ids.ensures

pub returns-else-is_one : goal.returns-else-is_one
returns-else-is_one c =
    unlisted_alias_says c.args.raw.now c.args.self.now.listers.items c.args.at c.args.item.now c.index.result.now c.is_one.result c.requires.given c.requires.listed c.index.ensures c.if-is_one.false c.is_one.ensures.1
