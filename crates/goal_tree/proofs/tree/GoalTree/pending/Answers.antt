use Rattle.std.proofs.Common.{◌≡◌, ◌∷◌, [], ◌++◌, length, get_or, refl, sym, ap, ◌∙◌, arith}
use Rattle.std.specs.Prelude.{Some, slice_get}
use Rattle.std.proofs.lemmas.Option.{slice_get_read, slice_get_within}
use Rattle.goal_tree.specs.Own.{pending_of}
use Rattle.goal_tree.proofs.Pending.{pending_more}
use Rattle.goal_tree.proofs.tree.GoalTree.pending.Goals as goal

pub loop-at-preserved : goal.loop-at-preserved
loop-at-preserved c =
    let os = c.args.self.now.obligations.items in
    let ss = c.args.self.now.standings.items in
    let at = c.loop-at.at in
    let o = c.obligation.result.now in
    let s = c.index-as_slice-at.result in
    let many = c.requires.as_many in
    let low = slice_get_within os at o c.obligation.ensures in
    let is : s ≡ get_or ss at s = c.index-as_slice-at.is ∙ ap (λ xs. get_or xs at s) c.as_slice.ensures.value in
    let stands : slice_get ss at ≡ Some s = slice_get_read ss (length ss) at s refl (omega arith) is in
    c.in_ok-add_pending.ensures ∙ (ap (λ xs. xs ++ pending_of (o ∷ []) (s ∷ [])) c.loop-at.invariant ∙ sym (pending_more os ss at o s c.obligation.ensures stands))
