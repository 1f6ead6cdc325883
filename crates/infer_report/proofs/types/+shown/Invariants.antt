use Rattle.std.proofs.Common.{◌≡◌, ◌++◌, drop, map, take, string_bytes}
use Rattle.infer_report.specs.Words.{arg_text, ty_text, joined, lines_from}
use Rattle.infer_report.proofs.LaterArgs.{later_of}
use Rattle.infer_report.proofs.types.+shown.Given as goal

abbrev pub invariant-push_joined-loop-at : goal.invariant-push_joined-loop-at
invariant-push_joined-loop-at l = string_bytes l.out ≡ string_bytes l.fn.out ++ joined (map (ty_text l.facts) (take l.at l.types))

abbrev pub invariant-push_joined_args-loop-at : goal.invariant-push_joined_args-loop-at
invariant-push_joined_args-loop-at l = string_bytes l.out ≡ string_bytes l.fn.out ++ joined (map (arg_text l.facts) (take l.at l.args))

abbrev pub invariant-push_first_args-loop-at : goal.invariant-push_first_args-loop-at
invariant-push_first_args-loop-at l = string_bytes l.out ≡ string_bytes l.fn.out ++ joined (map (arg_text l.facts) (take l.at l.args))

abbrev pub invariant-push_later_args-loop-at : goal.invariant-push_later_args-loop-at
invariant-push_later_args-loop-at l =
    string_bytes l.out ++ lines_from (later_of l.facts) l.at (drop l.at l.args) ≡ string_bytes l.fn.out ++ lines_from (later_of l.facts) 0 l.args
