use Rattle.std.proofs.Common.{sym, ◌∙◌}
use Rattle.infer_end.specs.Words.{given_of}
use Rattle.infer_end.proofs.Settling.{settles_nothing, settles_last}
use Rattle.infer_end.proofs.select.settle_where_possible.Goals as goal

pub returns-then-is_some : goal.returns-then-is_some
returns-then-is_some c = settles_nothing c.args.given.now.owner (given_of c.args.given.now) c.args.context.now c.requires.done (sym c.is_some.ensures ∙ c.if-is_some.true)

pub returns : goal.returns
returns c =
    let all = c.in_ok-settle.ensures in
    settles_last c.args.given.now.owner (given_of c.args.given.now) c.args.context.now c.settle.new.context (sym c.is_some.ensures ∙ c.if-is_some.false) all.done all.only all.settles
