use Rattle.std.proofs.Common.{subst}
use Rattle.infer_table.specs.Words.{term}
use Rattle.infer_table.specs.Own.{IsTypeHoleIf}
use Rattle.infer_table.proofs.Settling.{open_hole, settles_at, settles_here}
use Rattle.infer_table.proofs.bindings.Bindings.settle.Goals as goal

pub settle_at-requires-clause-is_open : goal.settle_at-requires-clause-is_open
settle_at-requires-clause-is_open c =
    open_hole c.args.self.now (term c.in_ok-known.known) c.in-Some.hole
    (subst (IsTypeHoleIf (term c.in_ok-known.known)) c.in-Some.is c.in_ok-hole.ensures) c.in_ok-known.ensures.none_bound

pub returns-in-Some-clause-settles : goal.returns-in-Some-clause-settles
returns-in-Some-clause-settles c =
    settles_at c.args.self.now c.settle_at.new.self c.args.origin.now (term c.in_ok-known.known) c.in-Some.hole c.in_ok-known.ensures.same
    (subst (IsTypeHoleIf (term c.in_ok-known.known)) c.in-Some.is c.in_ok-hole.ensures) c.in_ok-settle_at-in-Some.ensures.settles

pub returns-clause-settles : goal.returns-clause-settles
returns-clause-settles c =
    settles_here c.args.self.now c.args.origin.now (term c.in_ok-known.known) c.in_ok-known.ensures.same
    (subst (IsTypeHoleIf (term c.in_ok-known.known)) c.in-None.is c.in_ok-hole.ensures)
