use Rattle.std.proofs.Common.{ap}
use Rattle.infer_tuples.specs.Words.{expected_type}
use Rattle.infer_tuples.proofs.Elements.{places_element, waits_sound, own_fine, component_fine, element_waits}
use Rattle.infer_tuples.proofs.tuple.infer_element.Goals as goal

pub demand_coerce-requires-clause-sound : goal.demand_coerce-requires-clause-sound
demand_coerce-requires-clause-sound t c = waits_sound _ _ _ _ _ _ _ c.in_ok-ty.ensures _ c.in_ok-component-in-Var.ensures.made

pub demand_coerce-requires-clause-actual : goal.demand_coerce-requires-clause-actual
demand_coerce-requires-clause-actual t c = own_fine _ _ _ _ _ _ _ c.in_ok-ty.ensures _ c.in_ok-component-in-Var.ensures.made

pub demand_coerce-requires-clause-target : goal.demand_coerce-requires-clause-target
demand_coerce-requires-clause-target t c =
    let component = c.in_ok-component-in-Var.ensures in
    component_fine _ _ _ _ _ _ _ c.in_ok-ty.ensures _ component.made _ component.hole

pub returns-in_ok-demand_coerce-in-Var : goal.returns-in_ok-demand_coerce-in-Var
returns-in_ok-demand_coerce-in-Var t c =
    let component = c.in_ok-component-in-Var.ensures in
    element_waits _ _ _ _ _ _ _ c.in_ok-ty.ensures _ component.made _ component.hole (ap (λ x. expected_type x) c.in-None.is)
    c.in_ok-demand_coerce-in-Var.field-0 _ c.requires.before c.in_ok-demand_coerce-in-Var.ensures

pub returns-in_default : goal.returns-in_default
returns-in_default t c = places_element _ _ _ _ _ _ _ c.in_ok-ty.ensures
