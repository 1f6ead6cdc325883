use Rattle.std.proofs.Common.{◌≡◌, length, Some, None, sym, ap, subst, ◌∙◌}
use Rattle.std.specs.HashMap.{get}
use Rattle.infer_needs.proofs.Words.{ty_eq}
use Rattle.infer_needs.specs.Own.{FindsIn, IsIndexed}
use Rattle.infer_needs.proofs.Listing.{indexed_put, indexed_push}
use Rattle.infer_needs.proofs.found.Found.add.Goals as goal

pub invariant_of-self-in_err-push : goal.invariant_of-self-in_err-push
invariant_of-self-in_err-push c =
    let js = c.self.inside.pairs.items in
    let none = subst (λ zs. FindsIn zs c.args.alias None) (sym c.self.view_is) c.requires in
    subst (IsIndexed c.insert.new.self) (sym c.in_err-push.ensures.items)
    (indexed_put c.self.inside.places js c.self.invariant c.insert.new.self c.in_ok-key.key c.len-place.result (subst (λ a. FindsIn js a None) (sym c.in_ok-key.ensures) none) c.in_ok-insert.ensures.updates)

pub invariant_of-self-2 : goal.invariant_of-self-2
invariant_of-self-2 c =
    let js = c.self.inside.pairs.items in
    let m = c.insert.new.self in
    let none = subst (λ zs. FindsIn zs c.args.alias None) (sym c.self.view_is) c.requires in
    let indexed = indexed_put c.self.inside.places js c.self.invariant m c.in_ok-key.key c.len-place.result (subst (λ a. FindsIn js a None) (sym c.in_ok-key.ensures) none) c.in_ok-insert.ensures.updates in
    let has : get ty_eq m c.args.alias ≡ Some (length js) = ap (get ty_eq m) (sym c.in_ok-key.ensures) ∙ (c.in_ok-insert.ensures.updates.1 ∙ ap Some (c.len-place.ensures ∙ c.self.inside.pairs.ok.0)) in
    subst (IsIndexed m) (sym c.in_ok-push.ensures.items) (indexed_push m js indexed c.args.alias c.args.ty has)
