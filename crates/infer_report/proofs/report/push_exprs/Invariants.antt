use Rattle.std.proofs.Common.{◌≡◌, ◌++◌, drop, string_bytes}
use Rattle.infer_report.specs.Words.{expr_line, lines_from}
use Rattle.infer_report.proofs.report.push_exprs.Given as goal

abbrev pub invariant-loop-at : goal.invariant-loop-at
invariant-loop-at l = string_bytes l.out ++ lines_from (expr_line l.facts l.variants) l.at (drop l.at l.types) ≡ string_bytes l.fn.out ++ lines_from (expr_line l.facts l.variants) 0 l.types
