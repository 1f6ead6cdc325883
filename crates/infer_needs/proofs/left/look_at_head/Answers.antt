use Rattle.std.proofs.Common.{◌∙◌, sym}
use Rattle.std.proofs.lemmas.Result.{on_ok_weaker}
use Rattle.infer_needs.specs.Words.{system, term_of}
use Rattle.infer_needs.proofs.Leaving.{lists_here}
use Rattle.infer_needs.proofs.left.look_at_head.Goals as goal

pub returns-in-Some : goal.returns-in-Some
returns-in-Some c =
    on_ok_weaker c.look_at_alias.result (lists_here c.args.sources.now.facts c.args.sources.now.item (system c.args.sources.now.sources) (term_of c.args.first.now) (term_of c.args.args.now) c.in-Some.alias
    c.args.proofs.now.items c.look_at_alias.new.proofs.items c.args.found.now c.look_at_alias.new.found (sym c.staying_alias.ensures ∙ c.in-Some.is)) c.look_at_alias.ensures
