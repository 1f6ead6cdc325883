use Rattle.std.proofs.Common.{◌≡◌, ap, length, arith}
use Rattle.hir_ids.proofs.Named.{namers_none, namers_kept, namers_more}
use Rattle.hir_ids.proofs.namers.namers_of.Goals as goal
use Rattle.hir_ids.proofs.namers.namers_of.Goals.{in-Some, in_default}

pub loop-k-init : goal.loop-k-init
loop-k-init c = namers_none c.args.targets.now c.args.count c.in_ok-namers.namers.items (c.in_ok-namers.ensures.items_if_clones_equal (λ y e. e))

pub loop-k-preserved : goal.loop-k-preserved
loop-k-preserved c = elim c.match-target.branch [
  | in-Some w ↦ rw (ap (λ v. v.items) w.namers-is) (namers_more c.args.targets.now c.loop-k.k c.args.count w.in-Some.place c.loop-k.namers.items _ c.loop-k.invariant c.loop-k-test.true w.in-Some.is w.note.ensures)
  | in_default w ↦ rw (ap (λ v. v.items) w.namers-is) (namers_kept c.args.targets.now c.loop-k.k c.args.count c.loop-k.namers.items c.loop-k.invariant c.loop-k-test.true w.in_default.is)
]

pub returns : goal.returns
returns c = let e : c.loop-k.k ≡ length c.args.targets.now = omega arith in rw e at c.loop-k.invariant
