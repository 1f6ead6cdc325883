use Rattle.std.proofs.Common.{◌≡◌, ap, ◌∙◌, max, arith}
use Rattle.infer_unify.specs.Words.{term_of}
use Rattle.infer_unify.specs.Own.{aliases_of, above_both}
use Rattle.infer_unify.proofs.Becoming.{both_opened}
use Rattle.infer_unify.proofs.opening.open_both.Goals as goal

pub returns : goal.returns
returns c =
    let a = term_of c.args.left.now in
    let b = term_of c.args.right.now in
    let j = c.in_ok-number_above.field-0 in
    let k = c.in_ok-number_above-2.field-0 in
    let n = c.max-next.result in
    let most = c.max-next.ensures in
    let is : n ≡ max j k = grind (arith, most) in
    let from : n ≡ above_both a b = is ∙ (λ i. max (c.in_ok-number_above.ensures i) (c.in_ok-number_above-2.ensures i)) in
    both_opened n c.open.new.self.next c.open-2.new.self.next _ (aliases_of c.open.new.self.aliases.items) (aliases_of c.open-2.new.self.aliases.items)
    a b (term_of c.in_ok-left.left) (term_of c.in_ok-right.right) from
    (ap aliases_of c.new.ensures.items) c.in_ok-left.ensures c.in_ok-right.ensures
