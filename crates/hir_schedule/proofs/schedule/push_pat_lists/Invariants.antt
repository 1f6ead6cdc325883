use Rattle.std.proofs.Common.{◌≡◌, ◌++◌, take, map}
use Rattle.hir_schedule.specs.Words.{pat_parts, nodes}
use Rattle.hir_schedule.proofs.schedule.push_pat_lists.Given as goal

abbrev pub invariant-loop-pat : goal.invariant-loop-pat
invariant-loop-pat l = l.lists ≡ l.fn.lists ++ map (λ p. nodes (pat_parts p)) (take l.pat-index l.pats)
