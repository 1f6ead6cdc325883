use Rattle.infer_end.specs.Words.{given_of}
use Rattle.infer_end.proofs.SelectedBody.{selected_done, is_selection}
use Rattle.infer_end.proofs.select.select.Goals as goal

pub select_registered-requires-clause-kept : goal.select_registered-requires-clause-kept
select_registered-requires-clause-kept c = c.requires.told.goals.kept

pub select_registered-requires-clause-all : goal.select_registered-requires-clause-all
select_registered-requires-clause-all c = c.requires.told.goals.all

pub select_registered-requires-clause-bounded : goal.select_registered-requires-clause-bounded
select_registered-requires-clause-bounded c = c.requires.told.goals.bounded

pub returns-clause-done : goal.returns-clause-done
returns-clause-done c =
    let ends = c.in_ok-select_registered.ensures in
    selected_done (given_of c.args.given.now) c.args.context.now c.requires.done c.requires.told c.select_registered.new.goals ends.given ends.selected c.lawful.ensures.meets c.lawful.ensures.respects

pub returns-clause-selection : goal.returns-clause-selection
returns-clause-selection c =
    let ends = c.in_ok-select_registered.ensures in
    is_selection c.args.given.now.facts.now c.args.given.now.owner c.args.given.now.body.now c.args.given.now.inputs.now c.args.given.now.return_ty.now c.args.given.now.aliases.now c.args.context.now c.requires.told c.requires.item c.select_registered.new.goals ends.given ends.selected
