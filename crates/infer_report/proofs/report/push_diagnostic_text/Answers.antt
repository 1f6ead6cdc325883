use Rattle.std.proofs.Common.{string_bytes, codes, ◌++◌, sym, subst, ◌≡◌, OnOk}
use Rattle.std.specs.Fmt.{decimal}
use Rattle.infer_report.specs.Words.{diagnostic_text, node_text, type_field}
use Rattle.infer_report.proofs.Lines.{two_pieces, then_piece}
use Rattle.infer_report.proofs.report.push_diagnostic_text.Goals as goal

pub returns-in_ok-write-in-MismatchedArgCount : goal.returns-in_ok-write-in-MismatchedArgCount
unfolding diagnostic_text
returns-in_ok-write-in-MismatchedArgCount c =
    subst (λ d. OnOk c.push_counts.result (string_bytes c.push_counts.new.out ≡ string_bytes c.args.out.now ++ diagnostic_text c.args.facts.now d)) (sym c.in-MismatchedArgCount.is)
    (then_piece _ (string_bytes c.args.out.now) (codes "MismatchedArgCount e" ++ decimal c.in-MismatchedArgCount.call_expr.0) _ (string_bytes c.write.new.self) (string_bytes c.push_counts.new.out) c.in_ok-write-in-MismatchedArgCount.ensures.bytes c.push_counts.ensures)

pub returns-in_ok-push_node-in-MismatchedTupleStructPatArgCount : goal.returns-in_ok-push_node-in-MismatchedTupleStructPatArgCount
unfolding diagnostic_text
returns-in_ok-push_node-in-MismatchedTupleStructPatArgCount c =
    subst (λ d. OnOk c.push_counts-in-MismatchedTupleStructPatArgCount.result (string_bytes c.push_counts-in-MismatchedTupleStructPatArgCount.new.out ≡ string_bytes c.args.out.now ++ diagnostic_text c.args.facts.now d)) (sym c.in-MismatchedTupleStructPatArgCount.is)
    (then_piece _ (string_bytes c.args.out.now) (codes "MismatchedTupleStructPatArgCount " ++ node_text c.in-MismatchedTupleStructPatArgCount.pat) _ (string_bytes c.push_node.new.out) (string_bytes c.push_counts-in-MismatchedTupleStructPatArgCount.new.out)
    (two_pieces (string_bytes c.args.out.now) (codes "MismatchedTupleStructPatArgCount ") (node_text c.in-MismatchedTupleStructPatArgCount.pat) (string_bytes c.push_str.new.self) (string_bytes c.push_node.new.out) c.in_ok-push_str-in-MismatchedTupleStructPatArgCount.ensures.bytes c.in_ok-push_node-in-MismatchedTupleStructPatArgCount.ensures)
    c.push_counts-in-MismatchedTupleStructPatArgCount.ensures)

pub returns-in_ok-write-in-ExpectedFunction : goal.returns-in_ok-write-in-ExpectedFunction
unfolding diagnostic_text
returns-in_ok-write-in-ExpectedFunction c =
    subst (λ d. OnOk c.push_field.result (string_bytes c.push_field.new.out ≡ string_bytes c.args.out.now ++ diagnostic_text c.args.facts.now d)) (sym c.in-ExpectedFunction.is)
    (then_piece _ (string_bytes c.args.out.now) (codes "ExpectedFunction e" ++ decimal c.in-ExpectedFunction.call_expr.0) (type_field c.args.facts.now (codes " found=") c.in-ExpectedFunction.found) (string_bytes c.write-in-ExpectedFunction.new.self) (string_bytes c.push_field.new.out) c.in_ok-write-in-ExpectedFunction.ensures.bytes c.push_field.ensures)
