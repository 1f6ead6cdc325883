use Rattle.std.proofs.Common.{arith, refl, length, ap, sym, subst}
use Rattle.infer_table.specs.Own.{NoneOpenBelow}
use Rattle.infer_table.proofs.FallingBack.{falls_none, falls_more, none_open_more}
use Rattle.infer_table.proofs.bindings.Bindings.fall_back_integers.Goals as goal

pub loop-number-init : goal.loop-number-init
loop-number-init c = record { falls = falls_none c.args.self.now c.args.self.now refl; none_open = λ k lt is. omega (arith, lt) }

pub loop-number-preserved : goal.loop-number-preserved
loop-number-preserved c =
    let at = c.loop-number in
    record {
      falls = falls_more c.args.self.now at.self c.fall_back_at.new.self at.invariant.falls c.fall_back_at.ensures.falls;
      none_open = none_open_more at.self c.fall_back_at.new.self at.number at.invariant.none_open c.fall_back_at.ensures.falls c.in_ok-fall_back_at.ensures.closed;
    }

pub returns-in_err-fall_back_at-clause-falls : goal.returns-in_err-fall_back_at-clause-falls
returns-in_err-fall_back_at-clause-falls c =
    let at = c.loop-number in
    falls_more c.args.self.now at.self c.fall_back_at.new.self at.invariant.falls c.fall_back_at.ensures.falls

pub returns-clause-none_open : goal.returns-clause-none_open
returns-clause-none_open c =
    let at = c.loop-number in
    subst (λ n. NoneOpenBelow n at.self) (ap length (sym at.invariant.falls.kinds)) (λ k lt is. at.invariant.none_open k (omega (arith, lt, c.loop-number-test.false, c.hole_count-number-end.ensures)) is)
