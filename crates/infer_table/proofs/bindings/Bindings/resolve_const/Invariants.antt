use Rattle.std.proofs.Common.{◌≡◌}
use Rattle.infer_table.specs.Words.{const_folded, const_term}
use Rattle.infer_table.specs.Own.{log_of, resolution}
use Rattle.infer_table.proofs.Weights.{weight}
use Rattle.infer_table.proofs.bindings.Bindings.resolve_const.Given as goal

abbrev pub invariant-walk : goal.invariant-walk
invariant-walk l = const_folded (resolution l.self.log) l.known ≡ const_folded (resolution l.self.log) l.fn.value

abbrev pub decreases-walk : goal.decreases-walk
decreases-walk l = weight (log_of l.self.log) (const_term l.known)
