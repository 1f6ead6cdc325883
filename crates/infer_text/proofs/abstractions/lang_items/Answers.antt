use Rattle.std.proofs.lemmas.Result.{err_from_is_err_and}
use Rattle.infer_text.proofs.LangItems.{lang_goes_on, lang_ends, lang_is_done}
use Rattle.infer_text.proofs.abstractions.lang_items.Goals as goal

pub returns-in_err-item : goal.returns-in_err-item
returns-in_err-item c =
    let p = err_from_is_err_and c.from_residual.result c.from_residual.ensures.1 in
    rw (p.1, p.2) (lang_ends c.in_err-item.field-0.0 c.loop-name.out.items c.in-Some.name.now c.in-Some.value.now c.loop-name.name-iterator c.next.new.self _ c.in-Some.ensures.steps c.in_err-item.ensures c.loop-name.invariant)

pub loop-name-preserved : goal.loop-name-preserved
loop-name-preserved c =
    rw c.in_ok-push.ensures.items (lang_goes_on c.loop-name.out.items c.in-Some.name.now c.in-Some.value.now c.in_ok-item.item c.loop-name.name-iterator c.next.new.self _ c.in-Some.ensures.steps c.in_ok-item.ensures c.loop-name.invariant)

pub returns : goal.returns
returns c = lang_is_done c.loop-name.out.items c.loop-name.name-iterator _ c.in-None.ensures.steps.0 c.loop-name.invariant
