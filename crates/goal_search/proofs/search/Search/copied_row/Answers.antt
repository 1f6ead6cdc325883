use Rattle.std.proofs.Common.{sym, ◌∙◌, true≢false}
use Rattle.goal_search.specs.Words.{term_of}
use Rattle.goal_search.specs.Own.{kind_of, system}
use Rattle.goal_search.specs.declared.rows.Copies.TheVariants as copies
use Rattle.goal_search.proofs.Copying.{copies_done}
use Rattle.goal_search.proofs.Choosing.{row_refuted, row_of_parts}
use Rattle.goal_search.proofs.search.Search.copied_row.Goals as goal
use Rattle.goal_search.proofs.search.Search.copied_row.Goals.{then-is_no-2, else-is_no-2}

pub ask_preds-requires : goal.ask_preds-requires
ask_preds-requires c =
    let f = system c.args.self.now in
    record { preds = rw c.deref.ensures.value (copies_done f (kind_of c.args.kind) (term_of c.args.target.now) c.in-Of.goals c.requires.target (rw (c.in-Of.is, c.sources.ensures.is) at c.in_ok-answer.ensures)) }

pub returns-after-is_no-2-clause-answer : goal.returns-after-is_no-2-clause-answer
returns-after-is_no-2-clause-answer c =
    let f = system c.args.self.now in let k = kind_of c.args.kind in let w = term_of c.args.target.now in let n = c.args.depth in
    let are = rw (c.in-Of.is, c.sources.ensures.is) at c.in_ok-answer.ensures in
    let asked = rw c.deref.ensures.value at c.in_ok-answer-in-Of.ensures.answer in
    elim c.if-is_no-2.branch [
      | then-is_no-2 x ↦ rw x.result-is (row_refuted f n k w (copies.Of c.in-Of.goals) c.in_ok-answer-in-Of.answer are asked (c.is_no-in-Of.ensures.0 x.if-is_no-2.true))
      | else-is_no-2 x ↦ rw x.result-is (row_of_parts f n k w c.in-Of.goals c.in_ok-answer-in-Of.answer are asked (λ e. true≢false (sym (c.is_no-in-Of.ensures.1 e) ∙ x.if-is_no-2.false)))
    ]
