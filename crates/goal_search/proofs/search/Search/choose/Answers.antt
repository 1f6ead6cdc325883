use Rattle.std.proofs.Common.{sym, ◌∙◌, true≢false}
use Rattle.std.specs.Option.{option_map}
use Rattle.std.proofs.lemmas.Result.{IfOk-weaker}
use Rattle.goal_search.specs.Words.{answers, known_below, SizeIsBy, IsChoice}
use Rattle.goal_search.specs.Own.{asked_of, system, choice_of, IsBy}
use Rattle.goal_search.proofs.Choosing.{selectable_done, sized_choice, unanswered_choice, is_answered, not_answered}
use Rattle.goal_search.proofs.search.Search.choose.Goals as goal

pub returns-then-not-is_yes-clause-answer : goal.returns-then-not-is_yes-clause-answer
returns-then-not-is_yes-clause-answer c =
    let f = system c.args.self.now in let n = c.args.depth in let g = asked_of c.args.goal.now in
    unanswered_choice f n g (rw (c.deref.ensures.value, c.sources.ensures.is) at (sym c.is_among.ensures ∙ c.if-is_among.true))
    (not_answered f n g c.in_ok-step_at.field-0 c.in_ok-step_at.ensures c.in_ok-evaluate.field-0 c.in_ok-evaluate.ensures.answer (λ e. true≢false (sym (c.is_yes.ensures.1 e) ∙ c.if-not-is_yes.true)))

pub choose_size-requires-clause-target : goal.choose_size-requires-clause-target
choose_size-requires-clause-target c = selectable_done (asked_of c.args.goal.now) (c.is_selectable.ensures.0 c.if-not-is_selectable.false) c.requires

pub returns-then-is_among-clause-answer : goal.returns-then-is_among-clause-answer
returns-then-is_among-clause-answer c =
    let f = system c.args.self.now in let n = c.args.depth in let g = asked_of c.args.goal.now in
    let sized = rw (c.deref.ensures.value, c.sources.ensures.is) at (sym c.is_among.ensures ∙ c.if-is_among.true) in
    let yes = is_answered f n g c.in_ok-step_at.field-0 c.in_ok-step_at.ensures c.in_ok-evaluate.field-0 c.in_ok-evaluate.ensures.answer (c.is_yes.ensures.0 c.if-not-is_yes.false) in
    IfOk-weaker c.choose_size.result (λ o. IsBy (SizeIsBy f (answers f n).Alias (known_below f n) g.kind g.parts) (option_map choice_of o)) (λ o. IsChoice f n g (option_map choice_of o))
    (λ o h. sized_choice f n g sized (c.is_selectable.ensures.0 c.if-not-is_selectable.false) yes (option_map choice_of o) h) (rw c.evaluate.ensures.same at c.choose_size.ensures.answer)

pub choose_source-requires-clause-target : goal.choose_source-requires-clause-target
choose_source-requires-clause-target c = selectable_done (asked_of c.args.goal.now) (c.is_selectable.ensures.0 c.if-not-is_selectable.false) c.requires
