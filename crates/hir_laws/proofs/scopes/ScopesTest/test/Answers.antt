use Rattle.std.proofs.lemmas.Result.{IfOk-weaker}
use Rattle.hir_laws.proofs.Words.{scheduled_at}
use Rattle.hir_laws.proofs.Scoping.{scopes_say, deep_scopes}
use Rattle.hir_laws.specs.Words.hir_raw.declared.mention.Mention.TheVariants as it
use Rattle.hir_laws.proofs.scopes.ScopesTest.test.Goals as goal

pub is_low-requires-clause-schedule : goal.is_low-requires-clause-schedule
is_low-requires-clause-schedule c = (scheduled_at c.args._raw.now.bodies c.args.self.now.schedules.now c.as_slice.result.now c.args.at c.args.item.now c.index-as_slice-at.result c.requires.given.1 c.requires.listed c.as_slice.ensures c.index-as_slice-at.is).0

pub is_low-requires-clause-depths : goal.is_low-requires-clause-depths
is_low-requires-clause-depths c = (scheduled_at c.args._raw.now.bodies c.args.self.now.schedules.now c.as_slice.result.now c.args.at c.args.item.now c.index-as_slice-at.result c.requires.given.1 c.requires.listed c.as_slice.ensures c.index-as_slice-at.is).1

pub are_in_scope-requires : goal.are_in_scope-requires
are_in_scope-requires c n v here = (c.requires.given.0 c.args.at c.args.item.now c.requires.listed).named n (it.Local v) here

pub returns-then-not-is_low : goal.returns-then-not-is_low
returns-then-not-is_low c = deep_scopes c.args.item.now c.is_low.result c.if-not-is_low.true c.is_low.ensures.1

pub returns : goal.returns
returns c = IfOk-weaker _ _ _ (λ told says. scopes_say c.args.item.now c.index-as_slice-at.result told (scheduled_at c.args._raw.now.bodies c.args.self.now.schedules.now c.as_slice.result.now c.args.at c.args.item.now c.index-as_slice-at.result c.requires.given.1 c.requires.listed c.as_slice.ensures c.index-as_slice-at.is).0 (c.is_low.ensures.0 c.if-not-is_low.false) says) c.are_in_scope.ensures
