use Rattle.std.proofs.Common.{◌≡◌, ◌∙◌, ◌<◌, length, ap, sym, subst, refl, arith, slice_get, Some}
use Rattle.std.specs.Option.{IsSome}
use Rattle.std.proofs.lemmas.List.{length-map}
use Rattle.std.proofs.lemmas.Option.{slice_get_read, slice_get_within}
use Rattle.infer_table.specs.Own.{Entry, Waiting, waiting, pairs_of, left_at}
use Rattle.infer_table.proofs.WaitingLaws.{IsLeft-exists, AreMarked-take, pairs_of-mark, waiting-with_taken}
use Rattle.infer_table.proofs.waiting.WaitingPairs.take.Goals as goal

entry_at : (c : goal.After-self-1) → slice_get c.self.inside.entries.items c.args.at ≡ Some c.index_mut.result.now
entry_at c =
    let s = c.self.inside in
    let left = IsLeft-exists (record { made = pairs_of s.entries.items; taken = s.taken.items }) c.args.at (subst (λ (w : Waiting). IsSome (left_at w c.args.at)) (sym c.self.view_is) c.requires) in
    let inside : c.args.at < length s.entries.items = omega (arith, slice_get_within (pairs_of s.entries.items) c.args.at left.0 left.1.at, length-map s.entries.items (λ (e : Entry). e.pair)) in
    slice_get_read s.entries.items (length s.entries.items) c.args.at c.index_mut.result.now refl inside c.index_mut.ensures.value

pub invariant_of-self-2 : goal.invariant_of-self-2
invariant_of-self-2 c =
    let s = c.self.inside in
    let left = IsLeft-exists (record { made = pairs_of s.entries.items; taken = s.taken.items }) c.args.at (subst (λ (w : Waiting). IsSome (left_at w c.args.at)) (sym c.self.view_is) c.requires) in
    rw c.in_ok-push.ensures.items (AreMarked-take s.entries.items s.taken.items c.args.at c.index_mut.result.now c.self.invariant (entry_at c) left.1.is_left)

pub returns-clause-ok : goal.returns-clause-ok
returns-clause-ok c =
    rw (← c.self.view_is, c.in_ok-push.ensures.items, pairs_of-mark c.self.inside.entries.items c.args.at c.index_mut.result.now _ (entry_at c)) refl

pub returns-clause-waits : goal.returns-clause-waits
returns-clause-waits c =
    let left = IsLeft-exists c.args.self.now c.args.at c.requires in
    ap waiting (returns-clause-ok c) ∙ waiting-with_taken c.args.self.now c.args.at left.0 left.1
