use Rattle.std.proofs.Common.{◌≡◌, ◌++◌, drop, string_bytes}
use Rattle.infer_report.specs.Words.{gap_line, lines_from}
use Rattle.infer_report.proofs.report.push_gaps.Given as goal

abbrev pub invariant-loop-gap : goal.invariant-loop-gap
invariant-loop-gap l = string_bytes l.out ++ lines_from (gap_line l.facts) l.gap-index (drop l.gap-index l.gaps) ≡ string_bytes l.fn.out ++ lines_from (gap_line l.facts) 0 l.gaps
