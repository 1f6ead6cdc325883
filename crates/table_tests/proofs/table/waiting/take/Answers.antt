use Rattle.table_tests.proofs.Words.{grew_by_taking}
use Rattle.table_tests.proofs.table.waiting.take.Goals as goal

pub returns : goal.returns
returns c = grew_by_taking _ _ _ c.in_ok-pair.ensures.taken
