use Rattle.std.proofs.Common.{◌≡◌, ◌∙◌, sym, ap, length}
use Rattle.std.specs.Prelude.{Some, option_map}
use Rattle.std.specs.Option.{option_and_then}
use Rattle.goal_facts.specs.Own.{holes, type_at, last_of, variant_of}
use Rattle.goal_facts.proofs.sources.last_field_of.Goals as goal

pub returns-clause-is : goal.returns-clause-is
returns-clause-is c =
    let raw = c.args.facts.now in
    let adt = c.args.adt.now in
    let v : variant_of raw adt adt.kind ≡ Some c.in-Some.variant.now =
    ap (λ r. variant_of r adt adt.kind) (sym c.raw.ensures.value) ∙ (sym c.variant_of.ensures ∙ ap (option_map (λ v. v.now)) c.in-Some.is) in
    let l : last_of c.in-Some.variant.now.fields ≡ Some c.in-Some-last.field.now = ap last_of (sym c.as_slice.ensures) ∙ sym c.in-Some-last.ensures.value in
    ap Some (c.in_ok-type_at.ensures.is ∙ ap (λ xs. type_at raw xs c.in-Some-last.field.now.type_) (c.in_ok-holes.ensures ∙ ap holes c.len.ensures))
    ∙ sym (ap (λ o. option_map (λ x. type_at raw (holes (length adt.params)) x.type_) (option_and_then (λ v. last_of v.fields) o)) v ∙ ap (option_map (λ x. type_at raw (holes (length adt.params)) x.type_)) l)
