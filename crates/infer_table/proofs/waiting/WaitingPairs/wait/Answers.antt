use Rattle.std.proofs.Common.{◌∙◌, ap, subst, refl}
use Rattle.std.proofs.lemmas.List.{map_push}
use Rattle.infer_table.specs.Own.{waiting, AllMade}
use Rattle.infer_table.proofs.WaitingLaws.{waiting-with_pair, AllMade-from_marks}
use Rattle.infer_table.proofs.waiting.WaitingPairs.wait.Goals as goal

pub returns-clause-ok : goal.returns-clause-ok
returns-clause-ok c = rw (← c.self.view_is, c.in_ok-push.ensures.items, map_push) refl

pub returns-clause-waits : goal.returns-clause-waits
returns-clause-waits c =
    let s = c.self.inside in
    let made = subst AllMade c.self.view_is (AllMade-from_marks s.entries.items s.taken.items c.self.invariant) in
    ap waiting (returns-clause-ok c) ∙ waiting-with_pair c.args.self.now c.args.pair made
