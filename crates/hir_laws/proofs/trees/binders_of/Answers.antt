use Rattle.std.proofs.Common.{◌≡◌, ◌∙◌, map, ap, length}
use Rattle.std.proofs.lemmas.List.{length-map}
use Rattle.hir_laws.specs.Own.{bound_binding}
use Rattle.hir_laws.proofs.trees.binders_of.Goals as goal

pub returns : goal.returns
returns c =
    let is : c.deref.result.now ≡ map bound_binding c.args.body.now.pats = c.deref.ensures.value ∙ (c.in_ok-targets.ensures ∙ ap (map bound_binding) c.as_slice.ensures) in
    let size : length c.deref.result.now ≡ length c.args.body.now.pats = ap length is ∙ length-map c.args.body.now.pats bound_binding in
    rw (← size, ← is, ← c.len.ensures) c.namers_of.ensures
