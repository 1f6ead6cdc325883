use Rattle.std.proofs.Common.{◌≡◌, ◌∙◌, map, ap, length}
use Rattle.std.proofs.lemmas.List.{length-map}
use Rattle.hir_laws.specs.Own.{last_literal}
use Rattle.hir_laws.proofs.literals.ended_with.Goals as goal

pub returns : goal.returns
returns c =
    let is : c.deref.result.now ≡ map last_literal c.args.body.now.pats = c.deref.ensures.value ∙ (c.in_ok-targets.ensures ∙ ap (map last_literal) c.as_slice.ensures) in
    let size : length c.deref.result.now ≡ length c.args.body.now.pats = ap length is ∙ length-map c.args.body.now.pats last_literal in
    rw (← size, ← is, ← c.len.ensures) c.namers_of.ensures
