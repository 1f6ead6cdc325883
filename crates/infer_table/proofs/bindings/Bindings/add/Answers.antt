use Rattle.std.proofs.Common.{◌≡◌, ◌∙◌, Some, length, slice_set, refl, sym, ap, subst, arith}
use Rattle.infer_table.specs.Words.{hole_number}
use Rattle.infer_table.specs.Own.{Variable, Substitution, IsKept, MayBind, kinds_of, with_binding}
use Rattle.infer_table.proofs.Kept.{kept_add, views_same}
use Rattle.infer_table.proofs.bindings.Bindings.add.Goals as goal

added : (c : goal.After-self-1) → IsKept (slice_set c.self.inside.variables.items c.number_of-number.result (record { kind = c.index_mut.result.now.kind; place = Some c.len-place.result; height = c.index_mut.result.now.height })) c.push.new.self.items × (kinds_of (slice_set c.self.inside.variables.items c.number_of-number.result (record { kind = c.index_mut.result.now.kind; place = Some c.len-place.result; height = c.index_mut.result.now.height })) ≡ kinds_of c.self.inside.variables.items)
added c =
    let b = c.args.binding in
    let M : Substitution → Type 0 = λ s. MayBind s b in
    let w : Variable = record { kind = c.index_mut.result.now.kind; place = Some c.len-place.result; height = c.index_mut.result.now.height } in
    let k : c.len-place.result ≡ length c.self.inside.log.items = omega (arith, c.len-place.ensures, c.self.inside.log.ok.0) in
    kept_add c.self.inside.variables.items c.self.inside.log.items c.push.new.self.items b c.index_mut.result.now w c.number_of-number.result c.self.invariant (subst M (sym c.self.view_is) c.requires) c.in_ok-push.ensures.items (c.number_of-number.ensures ∙ ap hole_number c.hole.ensures) c.index_mut.ensures.value refl (ap Some k)

pub invariant_of-self-2 : goal.invariant_of-self-2
invariant_of-self-2 c = (added c).0

pub returns-clause-bound : goal.returns-clause-bound
returns-clause-bound c =
    let vs = c.self.inside.variables.items in
    let w : Variable = record { kind = c.index_mut.result.now.kind; place = Some c.len-place.result; height = c.index_mut.result.now.height } in
    views_same (slice_set vs c.number_of-number.result w) vs c.push.new.self.items _ (added c).1 c.in_ok-push.ensures.items ∙ ap (λ (s : Substitution). with_binding s c.args.binding) c.self.view_is
