use Rattle.std.proofs.Common.{◌≡◌, ◌++◌, drop, string_bytes}
use Rattle.infer_report.specs.Words.{pat_line, lines_from}
use Rattle.infer_report.proofs.report.push_pats.Given as goal

abbrev pub invariant-loop-at : goal.invariant-loop-at
invariant-loop-at l = string_bytes l.out ++ lines_from (pat_line l.facts l.modes l.variants) l.at (drop l.at l.types) ≡ string_bytes l.fn.out ++ lines_from (pat_line l.facts l.modes l.variants) 0 l.types
