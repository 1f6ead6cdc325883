use Rattle.std.proofs.Common.{sym, subst, ap, ◌∙◌}
use Rattle.infer_result.specs.General.{HasGeneral}
use Rattle.infer_result.specs.Needs.{with_goals}
use Rattle.infer_result.specs.Typed.{IsTableOf}
use Rattle.infer_expr.proofs.query.infer_with_goals.Goals as goal
use Rattle.infer_end.specs.Staying.{NoneStays}

pub prove_needs-requires : goal.prove_needs-requires
prove_needs-requires c =
    let made = c.in_ok-table.ensures in
    let r = c.in_ok-context.context.result in
    rw made.closed (c.in_ok-context.ensures.ends r.proofs r.projections r.expr_gaps r.pat_gaps made.meets made.respects made.acyclic).0

pub returns-clause-table : goal.returns-clause-table
returns-clause-table c =
    let made = c.in_ok-table.ensures in
    let t = c.prove_needs.new.table in
    subst (IsTableOf c.args.facts.now c.args.def) (sym c.in_ok-told.ensures.table) (rw made.closed (c.in_ok-context.ensures.ends t.proofs t.projections t.expr_gaps t.pat_gaps made.meets made.respects made.acyclic).0)

pub returns-clause-general : goal.returns-clause-general
returns-clause-general c =
    let made = c.in_ok-table.ensures in
    let t = c.prove_needs.new.table in
    subst (HasGeneral c.args.facts.now c.args.def) (sym c.in_ok-told.ensures.table) (rw made.closed (c.in_ok-context.ensures.ends t.proofs t.projections t.expr_gaps t.pat_gaps made.meets made.respects made.acyclic).1)

pub returns-clause-stays : goal.returns-clause-stays
returns-clause-stays c =
    let made = c.in_ok-table.ensures in
    let t = c.prove_needs.new.table in
    subst (NoneStays c.args.facts.now c.args.def) (sym c.in_ok-told.ensures.table) (rw made.closed (c.in_ok-context.ensures.ends t.proofs t.projections t.expr_gaps t.pat_gaps made.meets made.respects made.acyclic).2)

pub returns-clause-selected : goal.returns-clause-selected
returns-clause-selected c b is =
    let t = c.prove_needs.new.table in
    record {
      found = c.in_ok-context.context;
      selected = c.in_ok-context.ensures.selected b is;
      is = c.in_ok-told.ensures.table ∙ ap (with_goals t.proofs t.projections t.expr_gaps t.pat_gaps) c.in_ok-table.ensures.closed;
    }
