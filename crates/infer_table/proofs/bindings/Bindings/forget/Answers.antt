use Rattle.std.proofs.Common.{subst, sym, List, take, ◌∙◌, ap}
use Rattle.infer_table.specs.Own.{Variable, Substitution, AllOf, IsKept, kinds_of}
use Rattle.infer_table.proofs.Kept.{kept_forget, kinds_of_take}
use Rattle.infer_table.proofs.bindings.Bindings.forget.Goals as goal

pub invariant_of-self : goal.invariant_of-self
invariant_of-self c =
    let P : List Variable → Type 0 = λ vs. IsKept vs c.self.inside.log.items in
    let Q : Substitution → Type 0 = λ s. AllOf (take c.args.count s.kinds) s.log in
    subst P (sym c.truncate.ensures.items) (kept_forget c.self.inside.variables.items c.self.inside.log.items c.args.count c.self.invariant (subst Q (sym c.self.view_is) c.requires))

pub returns-clause-kinds : goal.returns-clause-kinds
returns-clause-kinds c =
    ap kinds_of c.truncate.ensures.items ∙ kinds_of_take c.self.inside.variables.items c.args.count ∙ ap (λ (s : Substitution). take c.args.count s.kinds) c.self.view_is
