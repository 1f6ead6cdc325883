use Rattle.std.proofs.Common.{◌++◌, ◌∙◌, ◌<◌, ◌≤◌, List, length, ℕ, ap, append_assoc, arith, codes, string_bytes}
use Rattle.infer_report.specs.Words.{arg_text, ty_text, lines_from}
use Rattle.infer_report.proofs.LaterArgs.{later_of, closes_later}
use Rattle.infer_report.proofs.OwnArgs.{own_written}
use Rattle.infer_report.proofs.Lines.{joins_on, writes_on, is_written}
use Rattle.infer_report.proofs.types.+shown.Goals as goal

below_all : (i n m : ℕ) → i < n → n ≤ m → i < m
below_all i n m lt le = omega (arith, lt, le)

pub push_joined-loop-at-preserved : goal.push_joined-loop-at-preserved
push_joined-loop-at-preserved t c =
    joins_on (ty_text c.args.facts.now) c.args.types.now c.loop-at.at c.index-types-at.result (string_bytes c.args.out.now) (string_bytes c.loop-at.out) (string_bytes c.push_separator.new.out) (string_bytes c.push_ty.new.out)
    c.loop-at-test.true c.index-types-at.is c.loop-at.invariant c.in_ok-push_separator.ensures c.in_ok-push_ty.ensures

pub push_joined_args-loop-at-preserved : goal.push_joined_args-loop-at-preserved
push_joined_args-loop-at-preserved t c =
    joins_on (arg_text c.args.facts.now) c.args.args.now c.loop-at.at c.index-args-at.result (string_bytes c.args.out.now) (string_bytes c.loop-at.out) (string_bytes c.push_separator.new.out) (string_bytes c.push_arg.new.out)
    c.loop-at-test.true c.index-args-at.is c.loop-at.invariant c.in_ok-push_separator.ensures c.in_ok-push_arg.ensures

pub push_first_args-loop-at-preserved : goal.push_first_args-loop-at-preserved
push_first_args-loop-at-preserved t c =
    joins_on (arg_text c.args.facts.now) c.args.args.now c.loop-at.at c.index-args-at.result (string_bytes c.args.out.now) (string_bytes c.loop-at.out) (string_bytes c.push_separator.new.out) (string_bytes c.push_arg.new.out)
    (below_all c.loop-at.at c.args.count (length c.args.args.now) c.loop-at-test.true c.requires) c.index-args-at.is c.loop-at.invariant c.in_ok-push_separator.ensures c.in_ok-push_arg.ensures

pub push_later_args-loop-at-preserved : goal.push_later_args-loop-at-preserved
push_later_args-loop-at-preserved t c =
    writes_on (later_of c.args.facts.now) c.args.args.now c.loop-at.at c.index-args-at.result (string_bytes c.loop-at.out) (string_bytes c.push_later_arg.new.out) _
    c.loop-at-test.true c.index-args-at.is c.in_ok-push_later_arg.ensures c.loop-at.invariant

pub push_later_args-returns-in_ok-push_str : goal.push_later_args-returns-in_ok-push_str
push_later_args-returns-in_ok-push_str t c =
    let f = later_of c.args.facts.now in
    let written = is_written f c.args.args.now c.loop-at.at (string_bytes c.loop-at.out) _ c.loop-at-test.false c.loop-at.invariant in
    c.in_ok-push_str.ensures.bytes
    ∙ (ap (λ (w : List ℕ). w ++ codes ">") written
    ∙ (append_assoc (string_bytes c.args.out.now) (lines_from f 0 c.args.args.now) (codes ">")
    ∙ ap (λ (w : List ℕ). string_bytes c.args.out.now ++ w) (closes_later c.args.facts.now c.args.args.now (omega (arith, c.if-args-gt1.true)))))

pub push_own_args-returns : goal.push_own_args-returns
push_own_args-returns t c =
    c.in_ok-push_str-2.ensures.bytes
    ∙ own_written c.args.facts.now c.args.id c.args.args.now c.own_count-count.result (string_bytes c.args.out.now) (string_bytes c.push_str.new.self) (string_bytes c.push_first_args.new.out)
    c.own_count-count.ensures (omega (arith, c.if-count-eq0.false)) c.in_ok-push_str.ensures.bytes c.in_ok-push_first_args.ensures
