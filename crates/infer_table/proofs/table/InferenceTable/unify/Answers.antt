use Rattle.std.proofs.Common.{refl, subst}
use Rattle.infer_table.specs.Words.{term}
use Rattle.infer_table.specs.Own.{State, AreUnifiedIf}
use Rattle.infer_table.proofs.UnifiedTables.{kinds_front, pairs_front, unified_if}
use Rattle.infer_table.proofs.table.InferenceTable.unify.Goals as goal

pub invariant_of-self-2 : goal.invariant_of-self-2
invariant_of-self-2 c =
    pairs_front c.self.inside.bindings.kinds c.unify.new.self.kinds c.self.inside.pairs.made
    (kinds_front c.in_ok-unified.unified c.self.inside.bindings c.unify.new.self (term c.args.left.now) (term c.args.right.now) c.in_ok-unified.ensures.unified)
    c.self.invariant

pub returns-clause-unified : goal.returns-clause-unified
returns-clause-unified c =
    let before : State = record { substitution = c.self.inside.bindings; pairs = c.self.inside.pairs; diverging = c.self.inside.diverging.items } in
    let after : State = record { substitution = c.unify.new.self; pairs = c.self.inside.pairs; diverging = c.self.inside.diverging.items } in
    subst (λ (s : State). AreUnifiedIf c.in_ok-unified.unified s after c.args.left.now c.args.right.now) c.self.view_is
    (unified_if c.in_ok-unified.unified before after c.args.left.now c.args.right.now refl refl c.in_ok-unified.ensures.unified)
