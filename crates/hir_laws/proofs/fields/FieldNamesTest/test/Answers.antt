use Rattle.hir_laws.proofs.FieldNames.{numbered_fits}
use Rattle.hir_laws.proofs.fields.FieldNamesTest.test.Goals as goal

pub returns-in_ok-told-in-Tuple : goal.returns-in_ok-told-in-Tuple
returns-in_ok-told-in-Tuple c = (
  λ h. numbered_fits c.args.item.now (rw c.as_slice.ensures at c.are_numbered.ensures.small) (rw c.as_slice.ensures at (c.in_ok-told-in-Tuple.ensures.told.0 h)),
  λ e. c.in_ok-told-in-Tuple.ensures.told.1 (rw c.as_slice.ensures (e.numbered c.in-Tuple.is)),
)
