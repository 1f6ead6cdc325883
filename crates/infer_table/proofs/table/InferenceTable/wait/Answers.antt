use Rattle.std.proofs.Common.{sym, subst}
use Rattle.infer_table.specs.Words.{Ty, term}
use Rattle.infer_table.specs.Own.{AreOf, State, HolesAreOf, PairsAreOf, Waiting}
use Rattle.infer_table.proofs.TableLaws.{pairs_are_of_last}
use Rattle.infer_table.proofs.table.InferenceTable.wait.Goals as goal

pub invariant_of-self-2 : goal.invariant_of-self-2
invariant_of-self-2 c =
    let s = c.self.inside in
    let kinds = s.bindings.kinds in
    let Made : Ty → Type 0 = λ t. AreOf kinds (term t) in
    let P : State → Type 0 = λ t. HolesAreOf t c.args.source.now in
    let Q : State → Type 0 = λ t. HolesAreOf t c.args.target.now in
    let W : Waiting → Type 0 = λ w. PairsAreOf kinds w.made in
    let source : AreOf kinds (term c.args.source.now) = subst P (sym c.self.view_is) c.requires.source in
    let target : AreOf kinds (term c.args.target.now) = subst Q (sym c.self.view_is) c.requires.target in
    let both : AreOf kinds (term c.in_ok-dup.field-0) × AreOf kinds (term c.in_ok-dup-2.field-0) = (subst Made (sym c.in_ok-dup.ensures) source, subst Made (sym c.in_ok-dup-2.ensures) target) in
    subst W (sym c.in_ok-wait.ensures.ok) (pairs_are_of_last kinds s.pairs.made _ c.self.invariant both)
