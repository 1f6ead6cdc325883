use Rattle.infer_table.proofs.FallingBack.{may_fall, falls_one, now_bound}
use Rattle.infer_table.proofs.bindings.Bindings.fall_back_at.Goals as goal

pub bind-requires : goal.bind-requires
bind-requires c = may_fall c.args.self.now c.args.number (c.is_open_int.ensures.0 c.if-is_open_int.true)

pub returns-in_ok-bind-clause-falls : goal.returns-in_ok-bind-clause-falls
returns-in_ok-bind-clause-falls c = falls_one c.args.self.now c.bind.new.self c.args.number c.in_ok-bind.ensures.bound

pub returns-in_ok-bind-clause-closed : goal.returns-in_ok-bind-clause-closed
returns-in_ok-bind-clause-closed c = now_bound c.args.self.now c.bind.new.self c.args.number c.in_ok-bind.ensures.bound
