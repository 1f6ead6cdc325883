use Rattle.std.proofs.Common.{rules}
use Rattle.std.proofs.lemmas.List.Sorted.{IsPartitionPoint-from_clause}
use lib.Dec.{ltb}
use Rattle.hir_walk.proofs.Around.{left}
use Rattle.hir_walk.proofs.enclosing.Enclosing.leave.Goals as goal

pub returns : goal.returns
returns c b s law h =
    rw c.truncate.ensures.items (left b s law c.args.number c.partition_point-count.result c.args.self.now.nodes.items
    (λ by. rw c.deref.ensures.value at (IsPartitionPoint-from_clause (λ x. ltb c.args.number x.end) c.deref.result.now c.partition_point-count.result c.partition_point-count.ensures.partitioned (rw c.deref.ensures.value by) (λ x r f k. search rules)))
    h)
