use Rattle.std.proofs.Common.{string_bytes}
use Rattle.infer_report.proofs.Lines.{all_seven}
use Rattle.infer_report.proofs.report.write_report.Goals as goal

pub returns : goal.returns
returns c =
    all_seven _ _ _ _ _ _ _ (string_bytes c.new-out.result) (string_bytes c.push_def.new.out) (string_bytes c.push_exprs.new.out)
    (string_bytes c.push_pats.new.out) (string_bytes c.push_bindings.new.out) (string_bytes c.push_complaints.new.out)
    (string_bytes c.push_complaints-2.new.out) (string_bytes c.writeln.new.self) c.new-out.ensures.bytes c.in_ok-push_def.ensures
    (rw (c.raw-raw.ensures.value, c.as_slice.ensures, c.as_slice-2.ensures) at c.in_ok-push_exprs.ensures)
    (rw (c.raw-raw.ensures.value, c.as_slice-3.ensures, c.as_slice-4.ensures, c.as_slice-5.ensures) at c.in_ok-push_pats.ensures)
    (rw (c.raw-raw.ensures.value, c.as_slice-6.ensures) at c.in_ok-push_bindings.ensures)
    (rw (c.raw-raw.ensures.value, c.as_slice-7.ensures, c.as_slice-8.ensures, c.as_slice-9.ensures) at c.in_ok-push_complaints.ensures)
    (rw (c.raw-raw.ensures.value, c.as_slice-10.ensures, c.as_slice-11.ensures, c.as_slice-12.ensures) at c.in_ok-push_complaints-2.ensures)
    (rw c.count_complaints-count.ensures at c.in_ok-writeln.ensures.bytes)
