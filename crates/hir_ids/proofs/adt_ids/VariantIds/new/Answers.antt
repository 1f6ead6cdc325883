use Rattle.std.proofs.Common.{◌≡◌, ◌∙◌, ap}
use Rattle.hir_ids.specs.Words.{listed_variants}
use Rattle.hir_ids.proofs.adt_ids.VariantIds.new.Goals as goal

pub returns : goal.returns
returns c =
    let is : c.deref.result.now ≡ listed_variants c.args.raw.now.adts = c.deref.ensures.value ∙ (c.in_ok-listed.ensures ∙ ap listed_variants c.as_slice.ensures) in
    rw (← is, ← c.len.ensures) c.in_ok-listers.ensures
