use Rattle.std.proofs.Common.{◌∙◌, sym}
use Rattle.std.proofs.lemmas.Option.{same_Some}
use Rattle.std.proofs.lemmas.Result.{on_ok_weaker}
use Rattle.infer_needs.specs.Words.{system}
use Rattle.infer_needs.specs.Own.{StandsInType}
use Rattle.infer_needs.proofs.Leaving.{lists_each}
use Rattle.infer_needs.proofs.left.look_at_entry.Goals as goal

pub returns-in-Some : goal.returns-in-Some
returns-in-Some c =
    on_ok_weaker c.look_at_type.result (lists_each c.args.sources.now.facts c.args.sources.now.item (system c.args.sources.now.sources) StandsInType c.args.entry.now c.in-Some.ty c.args.proofs.now.items c.look_at_type.new.proofs.items c.args.found.now c.look_at_type.new.found
    (λ t e. same_Some c.in-Some.ty t (sym c.in-Some.is ∙ e))) c.look_at_type.ensures
