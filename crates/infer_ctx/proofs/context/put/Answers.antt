use Rattle.std.proofs.Common.{sym, append-nil, arith, ◌∙◌}
use Rattle.infer_ctx.proofs.Lists.{grown_more, grown_within, put_grown}
use Rattle.infer_ctx.proofs.context.put.Goals as goal

pub loop-init : goal.loop-init
loop-init g c = sym (append-nil c.args.entries.now)

pub loop-preserved : goal.loop-preserved
loop-preserved g c = c.in_ok-push.ensures.ok ∙ grown_more c.args.entries.now _ c.loop.counter c.loop.invariant

pub set-requires : goal.set-requires
set-requires g c = grown_within c.args.entries.now _ c.args.at c.loop.counter c.loop.invariant (omega (arith, c.loop-test.false, c.saturating_sub-missing.ensures, c.len.ensures))

pub returns : goal.returns
returns g c =
    c.set.ensures ∙ put_grown c.args.entries.now _ c.args.at c.loop.counter _ c.loop.invariant
    (omega (arith, c.loop-test.false, c.loop.auto.counter-end, c.saturating_sub-missing.ensures, c.len.ensures))
