use Rattle.std.proofs.Common.{refl, sym, subst, List, None}
use Rattle.infer_table.specs.Own.{Variable, IsKept}
use Rattle.infer_table.proofs.Kept.{kept_new}
use Rattle.infer_table.proofs.bindings.Bindings.new_hole.Goals as goal

pub invariant_of-self-2 : goal.invariant_of-self-2
invariant_of-self-2 c =
    let P : List Variable → Type 0 = λ vs. IsKept vs c.self.inside.log.items in
    let v : Variable = record { kind = c.args.kind; place = None; height = 0 } in
    subst P (sym c.in_ok-push.ensures.items) (kept_new c.self.inside.variables.items c.self.inside.log.items v c.self.invariant refl)
