use Rattle.std.proofs.Common.{inl, inr, refl}
use Rattle.std.proofs.lemmas.Result.{on_ok_weaker}
use Rattle.infer_needs.specs.Words.{system}
use Rattle.infer_needs.proofs.Leaving.{lists_mismatch}
use Rattle.infer_needs.proofs.left.look_at_mismatch.Goals as goal

pub look_at_type-requires-clause-whole : goal.look_at_type-requires-clause-whole
look_at_type-requires-clause-whole c = c.requires.whole c.in-Some.mismatch.expected (c.in-Some.mismatch, c.in-Some.is, inl refl)

pub look_at_type-requires-in-Some-clause-whole : goal.look_at_type-requires-in-Some-clause-whole
look_at_type-requires-in-Some-clause-whole c = c.requires.whole c.in-Some.mismatch.actual (c.in-Some.mismatch, c.in-Some.is, inr refl)

pub returns-in_ok-look_at_type-in-Some : goal.returns-in_ok-look_at_type-in-Some
returns-in_ok-look_at_type-in-Some c =
    on_ok_weaker c.look_at_type-in-Some.result (lists_mismatch c.args.sources.now.facts c.args.sources.now.item (system c.args.sources.now.sources) c.args.entry.now c.in-Some.mismatch c.args.proofs.now.items c.look_at_type.new.proofs.items c.look_at_type-in-Some.new.proofs.items
    c.args.found.now c.look_at_type.new.found c.look_at_type-in-Some.new.found c.in-Some.is c.in_ok-look_at_type-in-Some.ensures) c.look_at_type-in-Some.ensures
