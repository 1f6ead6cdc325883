use Rattle.std.proofs.Common.{◌∙◌, subst, sym, true≢false}
use Rattle.infer_result.proofs.hand.is_in_hand.Goals as goal
use Rattle.infer_result.specs.Words.{term, Scope, scope_of, whole, IsMadeOf}
use Rattle.infer_result.specs.Own.{is_read_head, body_scope}
use Rattle.infer_result.proofs.InHand.{scope_is, not_in_hand, in_hand_if}

pub returns-then-not-is_read_type : goal.returns-then-not-is_read_type
returns-then-not-is_read_type c =
    let sc = scope_of c.args.facts.now c.args.owner in
    let same = scope_is c.args.owner c.args.facts.now c.raw-raw.result.now c.params_in_body-params.result c.has_associated-associated.result c.raw-raw.ensures.value c.params_in_body-params.ensures c.has_associated-associated.ensures in
    not_in_hand sc c.args.table.now c.args.ty.now
    (λ made. true≢false (sym (c.is_read_type.ensures.1 (subst (IsMadeOf (is_read_head (body_scope c.raw-raw.result.now c.params_in_body-params.result c.has_associated-associated.result)) whole) (sym c.in_ok-term.ensures.is) (subst (λ (x : Scope). IsMadeOf (is_read_head x) whole (term c.args.ty.now)) (sym same) made))) ∙ c.if-not-is_read_type.true))

pub returns : goal.returns
returns c =
    let sc = scope_of c.args.facts.now c.args.owner in
    let same = scope_is c.args.owner c.args.facts.now c.raw-raw.result.now c.params_in_body-params.result c.has_associated-associated.result c.raw-raw.ensures.value c.params_in_body-params.ensures c.has_associated-associated.ensures in
    in_hand_if sc c.args.table.now c.args.ty.now
    (subst (λ (x : Scope). IsMadeOf (is_read_head x) whole (term c.args.ty.now)) same (subst (IsMadeOf (is_read_head (body_scope c.raw-raw.result.now c.params_in_body-params.result c.has_associated-associated.result)) whole) c.in_ok-term.ensures.is (c.is_read_type.ensures.0 c.if-not-is_read_type.false)))
    c.has_made.result c.has_made.ensures
