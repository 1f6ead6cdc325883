use Rattle.std.proofs.Common.{Some}
use Rattle.hir_laws.specs.Own.{IsBinder}
use Rattle.hir_laws.proofs.Parted.{none_parts, innermost_tells}
use Rattle.hir_laws.proofs.or_patterns.is_parted.Goals as goal

pub returns-in-None : goal.returns-in-None
returns-in-None c s k law around binder =
    let here : IsBinder c.args.body.now s k (Some c.in-Some.last) = rw c.in-Some.is at binder in
    rw c.in-Some.is (λ t. absurd (cc), λ h. absurd (none_parts c.args.body.now s law c.in-Some.last k (rw c.in-None.is at (c.innermost_from.ensures c.args.body.now s k around)) here.1 h))

pub returns-in-Some-innermost_from : goal.returns-in-Some-innermost_from
returns-in-Some-innermost_from c s k law around binder =
    let here : IsBinder c.args.body.now s k (Some c.in-Some.last) = rw c.in-Some.is at binder in
    rw c.in-Some.is
    (innermost_tells c.args.body.now s law c.in-Some.last k c.in-Some-innermost_from.node c.is_or_at.result (rw c.in-Some-innermost_from.is at (c.innermost_from.ensures c.args.body.now s k around)) here c.is_or_at.ensures)
