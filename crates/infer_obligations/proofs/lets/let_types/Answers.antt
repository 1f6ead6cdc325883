use Rattle.std.proofs.Common.{◌≡◌, ◌∙◌, ap, arith, length, List}
use Rattle.std.proofs.lemmas.Option.{slice_get-get_or}
use Rattle.infer_obligations.specs.Words.{RawType, let_aliases, system}
use Rattle.infer_obligations.proofs.LetsKnown.{notes_none, notes_next, all_noted}
use Rattle.infer_obligations.proofs.lets.let_types.Goals as goal

pub loop-alias-init : goal.loop-alias-init
loop-alias-init c = rw c.new-known.ensures (notes_none _ _ _ _ _ _)

pub loop-alias-preserved : goal.loop-alias-preserved
loop-alias-preserved c =
    let here = slice_get-get_or c.as_slice-alias-items.result.now c.loop-alias.alias-index 0 c.loop-alias-test.true in
    notes_next _ _ _ _ _ _ _ _ _ _ here c.loop-alias.invariant c.in_ok-note_alias.ensures.of_item c.in_ok-note_alias.ensures.notes

pub returns : goal.returns
returns c =
    let aliases = c.as_slice-alias-items.result.now in
    let are = c.as_slice-alias-items.ensures.value ∙ (c.in_ok-aliases.ensures ∙ ap (λ (ts : List RawType). let_aliases ts c.args.body.now) c.types.ensures) in
    let end : c.loop-alias.alias-index ≡ length aliases = omega arith in
    all_noted c.args.facts.now c.args.def c.args.body.now (system c.args.goals.now.sources.sources) aliases c.loop-alias.alias-index _ are end
    (rw c.requires.facts at (rw c.requires.item at c.loop-alias.invariant))
