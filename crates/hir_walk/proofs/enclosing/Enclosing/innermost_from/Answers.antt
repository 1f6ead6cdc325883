use Rattle.std.proofs.Common.{◌≡◌, true, false, rules, arith}
use Rattle.std.specs.List.Sorted.{IsPartitionedBy, IsPartitionPoint}
use Rattle.std.proofs.lemmas.List.Sorted.{IsPartitionPoint-from_clause}
use lib.Dec.{leb}
use Rattle.hir_walk.proofs.Around.{none_around, innermost}
use Rattle.hir_walk.proofs.enclosing.Enclosing.innermost_from.Goals as goal
use Rattle.hir_walk.proofs.enclosing.Enclosing.innermost_from.Goals.{After-partition_point-count}

parted : (c : After-partition_point-count) → IsPartitionedBy (λ x. leb x.start c.args.number) c.args.self.now.nodes.items
    → IsPartitionPoint (λ x. leb x.start c.args.number ≡ true) (λ x. leb x.start c.args.number ≡ false) c.args.self.now.nodes.items c.partition_point-count.result
parted c by =
    rw c.deref.ensures.value at (IsPartitionPoint-from_clause (λ x. leb x.start c.args.number) c.deref.result.now c.partition_point-count.result c.partition_point-count.ensures.partitioned (rw c.deref.ensures.value by) (λ x r f k. search rules))

pub returns-then-count-eq0 : goal.returns-then-count-eq0
returns-then-count-eq0 c b s k h = none_around b s k c.args.number c.partition_point-count.result c.args.self.now.nodes.items h (parted (goal.at.returns-then-count-eq0 c).After-partition_point-count) c.if-count-eq0.true

pub returns : goal.returns
returns c b s k h =
    innermost b s k c.args.number c.partition_point-count.result c.args.self.now.nodes.items h (parted (goal.at.returns c).After-partition_point-count) c.index.result.now
    (rw c.deref.ensures.value at c.partition_point-count.ensures.bound) (omega arith) (search rules)
