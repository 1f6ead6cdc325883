use Rattle.std.proofs.Common.{sym, refl, subst}
use Rattle.infer_table.specs.Own.{FellBack, State, PairsAreOf, Grew}
use Rattle.infer_table.proofs.FallingBack.{fallen_grew, fell_back}
use Rattle.infer_table.proofs.table.InferenceTable.fall_back_integers.Goals as goal

-- pairs keep their holes, since the kinds stay
pub invariant_of-self-2 : goal.invariant_of-self-2
invariant_of-self-2 c = subst (λ kinds. PairsAreOf kinds c.self.inside.pairs.made) (sym c.fall_back_integers.ensures.falls.kinds) c.self.invariant

pub returns-clause-fell : goal.returns-clause-fell
returns-clause-fell c =
    let before : State = record { substitution = c.self.inside.bindings; pairs = c.self.inside.pairs; diverging = c.self.inside.diverging.items } in
    let after : State = record before { substitution = c.fall_back_integers.new.self } in
    subst (λ (s : State). FellBack s after) c.self.view_is (fell_back before after c.fall_back_integers.ensures.falls refl refl c.in_ok-fall_back_integers.ensures.none_open)

pub returns-clause-grew : goal.returns-clause-grew
returns-clause-grew c =
    let before : State = record { substitution = c.self.inside.bindings; pairs = c.self.inside.pairs; diverging = c.self.inside.diverging.items } in
    let after : State = record before { substitution = c.fall_back_integers.new.self } in
    subst (λ (s : State). Grew s after) c.self.view_is (fallen_grew before after c.fall_back_integers.ensures.falls refl refl)
