use Rattle.std.proofs.Common.{refl, sym, ap, ◌≡◌, ◌∙◌, slice_get, Some}
use Rattle.std.proofs.lemmas.Option.{slice_get_read}
use Rattle.infer_end.proofs.general.resolve_each.Goals as goal

pub unreachable-requires : goal.unreachable-requires
unreachable-requires c =
    let all = c.as_slice-ty-items.result.now in
    let i = c.loop-ty.ty-index in
    let at : slice_get all i ≡ Some c.ty-item.result = slice_get_read all _ i _ refl c.loop-ty-test.true c.ty-item.is in
    let full = c.requires i (rw (sym c.as_slice-ty-items.ensures) c.loop-ty-test.true) in
    let both : Some (Some full.0) ≡ Some c.ty-item.result = sym full.1 ∙ (ap (λ xs. slice_get xs i) (sym c.as_slice-ty-items.ensures) ∙ at) in
    let none = c.in_default.is in
    cc
