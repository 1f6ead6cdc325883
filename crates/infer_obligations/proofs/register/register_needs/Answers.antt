use Rattle.std.proofs.Common.{◌≡◌, Some, ap, ◌∙◌, refl, slice_get, subst, sym}
use Rattle.std.proofs.lemmas.Option.{same_Some, slice_get_read}
use Rattle.infer_obligations.specs.Words.{RawExpr, needed_goals}
use Rattle.infer_obligations.specs.Own.{asked_for, Registers}
use Rattle.infer_obligations.proofs.NeedHoles.{needed_made}
use Rattle.infer_obligations.proofs.register.register_needs.Goals as goal

pub register_each-requires-clause-goals : goal.register_each-requires-clause-goals
register_each-requires-clause-goals c = needed_made c.args.given.now.facts.now c.args.goals.now.table c.index-as_slice-tgt_expr.result c.args.ty.now c.in_ok-needed.needed.items c.requires.holes c.in_ok-needed.ensures

pub returns-clause-registers : goal.returns-clause-registers
returns-clause-registers c x at =
    let here : slice_get c.args.given.now.body.now.exprs c.args.tgt_expr.0 ≡ Some c.index-as_slice-tgt_expr.result
    = slice_get_read c.args.given.now.body.now.exprs _ c.args.tgt_expr.0 _ refl c.requires.within (rw c.as_slice.ensures at c.index-as_slice-tgt_expr.is) in
    let same : c.index-as_slice-tgt_expr.result ≡ x = same_Some _ x (sym here ∙ at) in
    subst (λ xs. Registers c.args.goals.now.sources.facts (asked_for c.args.tgt_expr.0 xs) c.args.goals.now.obligations c.register_each.new.goals.obligations)
    (c.in_ok-needed.ensures ∙ ap (λ (y : RawExpr). needed_goals c.args.given.now.facts.now y c.args.ty.now) same) c.in_ok-register_each.ensures.registers
