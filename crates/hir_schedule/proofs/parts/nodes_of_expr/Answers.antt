use Rattle.std.proofs.Common.{ap}
use Rattle.hir_schedule.specs.Words.{RawExpr, expr_parts, tail, nodes}
use Rattle.hir_raw.specs.declared.raw.RawExpr.TheVariants as expr
use Rattle.hir_schedule.proofs.NodeLists.{block_pushed, tuple_pushed, kind_pushed, later_pushed}
use Rattle.hir_schedule.proofs.parts.nodes_of_expr.Goals as goal
use Rattle.hir_schedule.proofs.parts.nodes_of_expr.Goals.{in-Lit, in-Path, in-Block+in_ok-push_stmts-in-Block+in_ok-push_maybe-in-Block, in-Tuple+in_ok-push_exprs-in-Tuple, in-If+in_ok-push_if-in-If, in-Match+in_ok-push_match-in-Match, in-Call+in_ok-push_call-in-Call, in-Later+in_ok-push_later-in-Later}

pub returns : goal.returns
returns c =
    elim c.match-expr.branch [
      | in-Lit w ↦ (let e = ap (λ (x : RawExpr). nodes (expr_parts c.args.body.now x)) w.in-Lit.is in let o = w.out-is in let n = c.new-out.ensures.items in cc)
      | in-Path w ↦ (let e = ap (λ (x : RawExpr). nodes (expr_parts c.args.body.now x)) w.in-Path.is in let o = w.out-is in let n = c.new-out.ensures.items in cc)
      | in-Block+in_ok-push_stmts-in-Block+in_ok-push_maybe-in-Block w ↦
          (let pushed = block_pushed c.args.body.now c.args.expr.now w.in-Block.label w.in-Block.statements w.in-Block.tail c.new-out.result.items w.push_stmts.new.out.items w.push_maybe.new.out.items
          w.as_slice.result.now w.in-Block.is c.new-out.ensures.items w.as_slice.ensures w.in_ok-push_stmts-in-Block.ensures (w.in_ok-push_maybe-in-Block.ensures tail) in
          let o = w.out-is in cc)
      | in-Tuple+in_ok-push_exprs-in-Tuple w ↦
          (let pushed = tuple_pushed c.args.body.now c.args.expr.now w.in-Tuple.exprs c.new-out.result.items w.push_exprs.new.out.items
          w.as_slice-in-Tuple.result.now w.in-Tuple.is c.new-out.ensures.items w.as_slice-in-Tuple.ensures w.in_ok-push_exprs-in-Tuple.ensures in
          let o = w.out-is in cc)
      | in-If+in_ok-push_if-in-If w ↦
          (let pushed = kind_pushed c.args.body.now c.args.expr.now (expr.If w.in-If.condition w.in-If.then_branch w.in-If.else_branch) c.new-out.result.items w.push_if.new.out.items
          w.in-If.is c.new-out.ensures.items (w.in_ok-push_if-in-If.ensures c.args.body.now) in
          let o = w.out-is in cc)
      | in-Match+in_ok-push_match-in-Match w ↦
          (let pushed = kind_pushed c.args.body.now c.args.expr.now (expr.Match w.in-Match.scrutinee w.as_slice-in-Match.result.now) c.new-out.result.items w.push_match.new.out.items
          (rw w.as_slice-in-Match.ensures w.in-Match.is) c.new-out.ensures.items (w.in_ok-push_match-in-Match.ensures c.args.body.now) in
          let o = w.out-is in cc)
      | in-Call+in_ok-push_call-in-Call w ↦
          (let pushed = kind_pushed c.args.body.now c.args.expr.now (expr.Call w.in-Call.callee w.as_slice-in-Call.result.now) c.new-out.result.items w.push_call.new.out.items
          (rw w.as_slice-in-Call.ensures w.in-Call.is) c.new-out.ensures.items w.in_ok-push_call-in-Call.ensures in
          let o = w.out-is in cc)
      | in-Later+in_ok-push_later-in-Later w ↦
          (let pushed = later_pushed c.args.body.now c.args.expr.now w.in-Later.expr c.new-out.result.items w.push_later.new.out.items w.in-Later.is c.new-out.ensures.items w.in_ok-push_later-in-Later.ensures in
          let o = w.out-is in cc)
    ]
