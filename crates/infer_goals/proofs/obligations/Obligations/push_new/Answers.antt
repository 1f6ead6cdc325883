use Rattle.std.proofs.Common.{◌≡◌, ◌∷◌, [], ◌++◌, ◌-◌, ◌+◌, ◌≤◌, suc, length, sym, ap, ◌∙◌, append_assoc, arith}
use Rattle.std.specs.List.{range_with_len}
use Rattle.infer_goals.proofs.Lists.{range_last}
use Rattle.infer_goals.proofs.obligations.Obligations.push_new.Goals as goal

pub loop-number-preserved : goal.loop-number-preserved
loop-number-preserved c =
    let below = c.args.below.now.items in
    let first = c.args.first in
    let number = c.loop-number.number in
    let from : first ≤ number = c.loop-number.auto.number in
    let last = range_last (number - first) first number (omega (arith, from)) in
    let next : suc (number - first) ≡ number + 1 - first = omega (arith, from) in
    c.in_ok-push.ensures.items
    ∙ (ap (λ xs. xs ++ number ∷ []) c.loop-number.invariant
    ∙ (append_assoc below (range_with_len first (number - first)) (number ∷ [])
    ∙ ap (λ xs. below ++ xs) (sym last ∙ ap (range_with_len first) next)))

pub returns : goal.returns
returns c =
    let below = c.args.below.now.items in
    let first = c.args.first in
    let end = c.len-number-end.result in
    let long : end ≡ length c.args.self.now.tree.obligations.items = c.len-number-end.ensures in
    let from : first ≤ end = (let within = c.requires in omega (arith, within, long)) in
    let to : c.loop-number.number ≤ end = c.loop-number.auto.number-end from in
    let last : c.loop-number.number - first ≡ length c.args.self.now.tree.obligations.items - first = (let past = c.loop-number-test.false in omega (arith, long, to, past)) in
    c.loop-number.invariant ∙ ap (λ n. below ++ range_with_len first n) last
