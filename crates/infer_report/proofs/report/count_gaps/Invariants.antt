use Rattle.std.proofs.Common.{◌≡◌, ◌≤◌, ◌*◌, ◌^◌, length, take}
use Rattle.std.specs.Prelude.{sum_by}
use Rattle.infer_report.proofs.report.count_gaps.Given as goal

-- so it fits
abbrev pub invariant-loop-gaps : goal.invariant-loop-gaps
invariant-loop-gaps l = (l.count ≡ sum_by length (take l.gaps-index l.lists)) × (l.count ≤ l.gaps-index * 2 ^ 64)
