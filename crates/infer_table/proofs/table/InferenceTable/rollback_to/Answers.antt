use Rattle.std.proofs.Common.{ap, sym, subst}
use Rattle.infer_table.specs.Own.{State, GrewFrom, Undoes}
use Rattle.infer_table.proofs.UndoLaws.{undone, may_cut, pairs_kept}
use Rattle.infer_table.proofs.table.InferenceTable.rollback_to.Goals as goal

pub cut_back-requires : goal.cut_back-requires
cut_back-requires c = may_cut c.args.snapshot _ (subst (λ (s : State). GrewFrom c.args.snapshot s) (sym c.self.view_is) c.requires)

pub invariant_of-self : goal.invariant_of-self
invariant_of-self c =
    pairs_kept c.self.inside.bindings.kinds c.truncate.new.self.kinds c.self.inside.pairs.made c.cut_back.new.self.made c.args.snapshot.made
    c.truncate.ensures.kinds (ap (λ w. w.made) c.cut_back.ensures) c.self.invariant

pub returns-clause-undone : goal.returns-clause-undone
returns-clause-undone c =
    let before : State = record { substitution = c.self.inside.bindings; pairs = c.self.inside.pairs; diverging = c.self.inside.diverging.items } in
    let after : State = record { substitution = c.truncate.new.self; pairs = c.cut_back.new.self; diverging = c.truncate-2.new.self.items } in
    subst (λ (s : State). Undoes c.args.snapshot s after) c.self.view_is
    (undone c.args.snapshot before after c.truncate.ensures.kinds c.truncate.ensures.log c.cut_back.ensures c.truncate-2.ensures.items)
