use Rattle.std.proofs.Common.{◌≡◌, ◌++◌, drop, string_bytes}
use Rattle.infer_report.specs.Words.{complaints, lines_from}
use Rattle.infer_report.proofs.report.push_complaints.Given as goal

abbrev pub invariant-loop-at : goal.invariant-loop-at
invariant-loop-at l = string_bytes l.out ++ lines_from (complaints l.facts l.letter l.diagnostics l.gaps) l.at (drop l.at l.mismatches) ≡ string_bytes l.fn.out ++ lines_from (complaints l.facts l.letter l.diagnostics l.gaps) 0 l.mismatches
