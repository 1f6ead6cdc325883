use Rattle.std.proofs.Common.{refl}
use Rattle.hir_laws.specs.Own.{IsNew}
use Rattle.hir_laws.proofs.Words.{passed_more, passed_all}
use Rattle.hir_laws.proofs.FieldNames.{new_here}
use Rattle.hir_laws.proofs.fields.are_distinct.Goals as goal

pub loop-at-preserved : goal.loop-at-preserved
loop-at-preserved c =
    passed_more (IsNew c.args.fields.now) c.args.fields.now c.args.fields.now c.loop-at.at c.index-fields-at.result c.loop-at.invariant c.loop-at-test.true c.index-fields-at.is
    (new_here c.args.fields.now c.loop-at.at c.index-fields-at.result (c.is_new.ensures.0 c.if-not-is_new.false))

pub returns : goal.returns
returns c = (λ h. passed_all (IsNew c.args.fields.now) c.args.fields.now c.args.fields.now c.loop-at.at c.loop-at.invariant c.loop-at-test.false, λ h. refl)
