use Rattle.std.proofs.Common.{rules}
use Rattle.hir_ids.proofs.Words.{first_breaks}
use Rattle.hir_ids.proofs.carried.first_other.Goals as goal

pub returns-else-is_empty : goal.returns-else-is_empty
returns-else-is_empty g c = first_breaks c.args.items.now (search rules)
