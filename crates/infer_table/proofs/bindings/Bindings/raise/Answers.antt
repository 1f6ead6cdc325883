use Rattle.std.proofs.Common.{◌≡◌, ◌∙◌, ◌<◌, Some, length, refl, slice_set, arith}
use Rattle.std.specs.List.{slice_get}
use Rattle.std.proofs.lemmas.Option.{slice_get_read}
use Rattle.infer_table.specs.Own.{Variable}
use Rattle.infer_table.proofs.Kept.{kept_same, kinds_of_set, views_same}
use Rattle.infer_table.proofs.bindings.Bindings.raise.Goals as goal

here : (c : goal.After-self-1) → slice_get c.self.inside.variables.items c.number_of-number.result ≡ Some c.index_mut.result.now
here c =
    let vs = c.self.inside.variables.items in
    let k : c.number_of-number.result < length vs = omega (arith, c.if-number-len.true, c.len.ensures, c.self.inside.variables.ok.0) in
    slice_get_read vs (length vs) c.number_of-number.result c.index_mut.result.now refl k c.index_mut.ensures.value

pub invariant_of-self : goal.invariant_of-self
invariant_of-self c = kept_same c.self.inside.variables.items c.self.inside.log.items c.number_of-number.result c.index_mut.result.now _ c.self.invariant (here c) refl refl

pub returns-then-index-height : goal.returns-then-index-height
returns-then-index-height c =
    let vs = c.self.inside.variables.items in
    let w : Variable = record { kind = c.index_mut.result.now.kind; place = c.index_mut.result.now.place; height = c.args.height } in
    views_same (slice_set vs c.number_of-number.result w) vs c.self.inside.log.items c.self.inside.log.items (kinds_of_set vs c.number_of-number.result c.index_mut.result.now w (here c) refl) refl ∙ c.self.view_is
