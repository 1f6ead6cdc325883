use Rattle.std.proofs.Common.{◌≡◌, ◌∙◌, ap, subst, sym}
use Rattle.infer_needs.specs.Words.{RawFacts, let_aliases, system, aliases_of}
use Rattle.infer_needs.specs.Own.{CanItemsBeProved}
use Rattle.infer_needs.proofs.Writing.{items_provable, lists_all}
use Rattle.infer_needs.proofs.written.look_at_written.Goals as goal

pub look_at_exprs-requires-clause-read : goal.look_at_exprs-requires-clause-read
look_at_exprs-requires-clause-read c = c.in_ok-look_at_written_types-2.ensures.adds.read (c.in_ok-look_at_written_types.ensures.adds.read c.requires.read)

pub look_at_items-requires-clause-provable : goal.look_at_items-requires-clause-provable
look_at_items-requires-clause-provable c =
    let raw = c.args.sources.now.facts in
    subst (CanItemsBeProved raw) (sym c.as_slice-items.ensures) (items_provable raw c.args.table.now c.requires.pats)

pub look_at_items-requires-clause-read : goal.look_at_items-requires-clause-read
look_at_items-requires-clause-read c = c.in_ok-look_at_exprs.ensures.adds.read (c.in_ok-look_at_written_types-2.ensures.adds.read (c.in_ok-look_at_written_types.ensures.adds.read c.requires.read))

pub returns : goal.returns
returns c =
    let raw = c.args.sources.now.facts in
    let f = system c.args.sources.now.sources in
    let own : c.as_slice.result.now ≡ aliases_of raw c.args.def = c.as_slice.ensures.value ∙ c.in_ok-own.ensures ∙ ap (λ (z : RawFacts). aliases_of z c.args.def) c.facts-facts.ensures in
    let lets : c.as_slice-2.result.now ≡ let_aliases raw.types c.args.body.now =
    c.as_slice-2.ensures.value ∙ c.in_ok-lets.ensures ∙ ap (λ ts. let_aliases ts c.args.body.now) c.types.ensures ∙ ap (λ (z : RawFacts). let_aliases z.types c.args.body.now) c.facts-facts.ensures in
    lists_all raw c.args.def c.args.body.now c.args.table.now c.args.sources.now.item f _ _ _ _ _ _ _ _ _ _
    (rw own at c.in_ok-look_at_written_types.ensures) (rw lets at c.in_ok-look_at_written_types-2.ensures) c.in_ok-look_at_exprs.ensures (rw c.as_slice-items.ensures at c.in_ok-look_at_items.ensures)
