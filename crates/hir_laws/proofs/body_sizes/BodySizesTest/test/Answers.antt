use Rattle.hir_laws.proofs.Words.{scheduled_at}
use Rattle.hir_laws.proofs.body_sizes.BodySizesTest.test.Goals as goal

pub is_small-requires-clause-schedule : goal.is_small-requires-clause-schedule
is_small-requires-clause-schedule c = (scheduled_at c.args._raw.now.bodies c.args.self.now.schedules.now c.as_slice.result.now c.args.at c.args.item.now c.index-as_slice-at.result c.requires.given c.requires.listed c.as_slice.ensures c.index-as_slice-at.is).0

pub is_small-requires-clause-depths : goal.is_small-requires-clause-depths
is_small-requires-clause-depths c = (scheduled_at c.args._raw.now.bodies c.args.self.now.schedules.now c.as_slice.result.now c.args.at c.args.item.now c.index-as_slice-at.result c.requires.given c.requires.listed c.as_slice.ensures c.index-as_slice-at.is).1

pub is_small-requires-clause-lists : goal.is_small-requires-clause-lists
is_small-requires-clause-lists c = c.in_ok-has_short_lists.ensures.0 c.if-not-branch.false
