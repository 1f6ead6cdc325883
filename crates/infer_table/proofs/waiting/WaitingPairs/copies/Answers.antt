use Rattle.std.proofs.Common.{◌≡◌, ◌∙◌, ◌+◌, length, take, List, refl, ap, sym, subst, [], ◌∷◌, ◌++◌}
use Rattle.std.proofs.lemmas.List.{append-nil}
use Rattle.std.proofs.lemmas.Option.{slice_get_read}
use Rattle.infer_table.specs.Own.{WaitingPair, Waiting, left_from}
use Rattle.infer_table.proofs.WaitingLaws.{left_from-entry}
use Rattle.infer_table.proofs.waiting.WaitingPairs.copies.Goals as goal

pub loop-entry-preserved-then-entry : goal.loop-entry-preserved-then-entry
loop-entry-preserved-then-entry c =
    let s = c.self.inside in
    let is = rw c.deref-entry-items.ensures.value at c.entry-item.is in
    let inside = rw c.deref-entry-items.ensures.value at c.loop-entry-test.true in
    let at = slice_get_read s.entries.items (length s.entries.items) c.loop-entry.entry-index c.entry-item.result refl inside is in
    let more = left_from-entry s.entries.items s.taken.items c.loop-entry.entry-index c.entry-item.result c.self.invariant at in
    let so_far = subst (λ (w : Waiting). c.loop-entry.pairs.items ≡ left_from w.taken 0 (take c.loop-entry.entry-index w.made)) (sym c.self.view_is) c.loop-entry.invariant in
    let here = rw c.if-entry.true at more in
    subst (λ (w : Waiting). c.loop-entry.pairs.items ≡ left_from w.taken 0 (take (c.loop-entry.entry-index + 1) w.made)) c.self.view_is (so_far ∙ sym (append-nil _) ∙ sym here)

pub loop-entry-preserved : goal.loop-entry-preserved
loop-entry-preserved c =
    let s = c.self.inside in
    let is = rw c.deref-entry-items.ensures.value at c.entry-item.is in
    let inside = rw c.deref-entry-items.ensures.value at c.loop-entry-test.true in
    let at = slice_get_read s.entries.items (length s.entries.items) c.loop-entry.entry-index c.entry-item.result refl inside is in
    let more = left_from-entry s.entries.items s.taken.items c.loop-entry.entry-index c.entry-item.result c.self.invariant at in
    let so_far = subst (λ (w : Waiting). c.loop-entry.pairs.items ≡ left_from w.taken 0 (take c.loop-entry.entry-index w.made)) (sym c.self.view_is) c.loop-entry.invariant in
    let here = rw c.if-entry.false at more in
    let grown : c.push.new.self.items ≡ c.loop-entry.pairs.items ++ c.entry-item.result.pair ∷ [] = rw (← c.in_ok-dup.ensures) c.in_ok-push.ensures.items in
    subst (λ (w : Waiting). c.push.new.self.items ≡ left_from w.taken 0 (take (c.loop-entry.entry-index + 1) w.made)) c.self.view_is (grown ∙ ap (λ (ps : List WaitingPair). ps ++ c.entry-item.result.pair ∷ []) so_far ∙ sym here)
