use Rattle.std.proofs.Common.{ap, sym, subst}
use Rattle.hir_types.specs.declared.head.HoleKind.TheVariants as kind
use Rattle.infer_table.specs.Own.{Substitution, State, PairsAreOf, hole_count, AreUnusedFrom}
use Rattle.infer_table.proofs.TableLaws.{pairs_are_of_hole}
use Rattle.infer_table.proofs.UndoLaws.{fresh}
use Rattle.infer_table.proofs.table.InferenceTable.next_int_var.Goals as goal

pub invariant_of-self-2 : goal.invariant_of-self-2
invariant_of-self-2 c =
    let s = c.self.inside in
    let P : Substitution → Type 0 = λ b. PairsAreOf b.kinds s.pairs.made in
    subst P (sym c.in_ok-hole.ensures.made) (pairs_are_of_hole s.bindings.kinds kind.Int s.pairs.made c.self.invariant)

pub returns-clause-unused : goal.returns-clause-unused
returns-clause-unused c =
    let s = c.self.inside in
    let before : State = record { substitution = s.bindings; pairs = s.pairs; diverging = s.diverging.items } in
    let after : State = record before { substitution = c.new_hole.new.self } in
    subst (λ (b : State). AreUnusedFrom (hole_count b) after) c.self.view_is (fresh before after c.bound_count-bound.ensures.made (ap (λ (b : Substitution). b.log) c.in_ok-hole.ensures.made))
