use Rattle.std.proofs.Common.{◌≡◌, ◌∙◌, ap, refl, sym, arith, length}
use Rattle.std.specs.Prelude.{Some, slice_get}
use Rattle.std.proofs.lemmas.Option.{slice_get_read}
use Rattle.infer_needs.specs.Words.{system}
use Rattle.infer_needs.proofs.Writing.{holds_first, holds_next, holds_all, OfExpr, expr_later}
use Rattle.infer_needs.proofs.written.look_at_exprs.Goals as goal

pub loop-at-init : goal.loop-at-init
loop-at-init c =
    let raw = c.args.sources.now.facts in
    let item = c.args.sources.now.item in
    let f = system c.args.sources.now.sources in
    holds_first raw item f (OfExpr raw f c.args.table.now) c.args.body.now.exprs c.args.proofs.now.items c.args.found.now

pub look_at_expr-requires-clause-provable : goal.look_at_expr-requires-clause-provable
look_at_expr-requires-clause-provable c =
    let at = c.loop-at in
    let found : slice_get c.args.body.now.exprs at.at ≡ Some c.expr-item.result = ap (λ xs. slice_get xs at.at) (sym c.as_slice-expr-items.ensures) ∙ slice_get_read _ _ at.at _ refl c.loop-at-test.true c.expr-item.is in
    c.requires.provable at.at c.expr-item.result found

pub loop-at-preserved : goal.loop-at-preserved
loop-at-preserved c =
    let raw = c.args.sources.now.facts in
    let item = c.args.sources.now.item in
    let f = system c.args.sources.now.sources in
    let r = c.args.table.now in
    let at = c.loop-at in
    let found : slice_get c.args.body.now.exprs at.at ≡ Some c.expr-item.result = ap (λ xs. slice_get xs at.at) (sym c.as_slice-expr-items.ensures) ∙ slice_get_read _ _ at.at _ refl c.loop-at-test.true c.expr-item.is in
    holds_next raw item f (OfExpr raw f r) c.args.body.now.exprs (expr_later raw f r) at.at c.expr-item.result c.args.proofs.now.items at.proofs.items c.look_at_expr.new.proofs.items
    c.args.found.now at.found c.look_at_expr.new.found found at.invariant c.in_ok-look_at_expr.ensures

pub returns : goal.returns
returns c =
    let raw = c.args.sources.now.facts in
    let item = c.args.sources.now.item in
    let f = system c.args.sources.now.sources in
    let exprs = c.args.body.now.exprs in
    let items : length c.as_slice-expr-items.result.now ≡ length exprs = ap length c.as_slice-expr-items.ensures in
    let end : c.loop-at.at ≡ length exprs = omega arith in
    holds_all raw item f (OfExpr raw f c.args.table.now) exprs c.loop-at.at c.args.proofs.now.items c.loop-at.proofs.items c.args.found.now c.loop-at.found end c.loop-at.invariant
