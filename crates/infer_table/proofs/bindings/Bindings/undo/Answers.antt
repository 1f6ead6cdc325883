use Rattle.std.proofs.Common.{◌≡◌, ◌∙◌, ◌-◌, ◌<◌, None, List, length, slice_set, take, refl, sym, ap, subst, arith}
use Rattle.std.proofs.lemmas.Option.{slice_get_read}
use Rattle.infer_table.specs.Words.{hole_number}
use Rattle.infer_table.specs.Own.{Binding, Variable, Substitution, IsKept, kinds_of}
use Rattle.infer_table.proofs.Kept.{kept_cut}
use Rattle.infer_table.proofs.bindings.Bindings.undo.Goals as goal

cut : (c : goal.After-truncate) → IsKept (slice_set c.self.inside.variables.items c.number_of-number.result (record { kind = c.index_mut.result.now.kind; place = None; height = c.index_mut.result.now.height })) (take (c.len-place.result - 1) c.self.inside.log.items) × (kinds_of (slice_set c.self.inside.variables.items c.number_of-number.result (record { kind = c.index_mut.result.now.kind; place = None; height = c.index_mut.result.now.height })) ≡ kinds_of c.self.inside.variables.items)
cut c =
    let log = c.self.inside.log.items in
    let w : Variable = record { kind = c.index_mut.result.now.kind; place = None; height = c.index_mut.result.now.height } in
    let P : Substitution → Type 0 = λ s. 0 < length s.log in
    let some : 0 < length log = subst P (sym c.self.view_is) c.requires in
    let k : c.len-place.result ≡ length log = omega (arith, c.len-place.ensures, c.self.inside.log.ok.0) in
    let i = c.len-place.result - 1 in
    let e = slice_get_read log (length log) i c.index.result.now refl (omega (arith, k, some)) c.index.ensures in
    kept_cut c.self.inside.variables.items log c.index.result.now c.index_mut.result.now w i c.number_of-number.result c.self.invariant e (omega (arith, k, some)) (c.number_of-number.ensures ∙ ap hole_number c.hole.ensures) c.index_mut.ensures.value refl refl

pub invariant_of-self : goal.invariant_of-self
invariant_of-self c =
    let P : List Binding → Type 0 = λ l. IsKept (slice_set c.self.inside.variables.items c.number_of-number.result (record { kind = c.index_mut.result.now.kind; place = None; height = c.index_mut.result.now.height })) l in
    subst P (sym c.truncate.ensures.items) (cut c).0

pub returns-clause-kinds : goal.returns-clause-kinds
returns-clause-kinds c = (cut c).1 ∙ ap (λ (s : Substitution). s.kinds) c.self.view_is
