use Rattle.std.proofs.Common.{◌≡◌, ◌++◌, drop, string_bytes}
use Rattle.infer_report.specs.Words.{binding_line, lines_from}
use Rattle.infer_report.proofs.report.push_bindings.Given as goal

abbrev pub invariant-loop-at : goal.invariant-loop-at
invariant-loop-at l = string_bytes l.out ++ lines_from (binding_line l.facts) l.at (drop l.at l.types) ≡ string_bytes l.fn.out ++ lines_from (binding_line l.facts) 0 l.types
