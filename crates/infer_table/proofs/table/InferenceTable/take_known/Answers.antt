use Rattle.std.proofs.Common.{sym, subst}
use Rattle.infer_table.specs.Own.{State, IsFirstKnown, TakesFirstKnown}
use Rattle.infer_table.proofs.TableLaws.{takes_first_known}
use Rattle.infer_table.proofs.table.InferenceTable.take_known.Goals as goal

pub returns-clause-taken : goal.returns-clause-taken
returns-clause-taken c =
    let i = c.self.inside in
    let s : State = record { substitution = i.bindings; pairs = i.pairs; diverging = i.diverging.items } in
    let P : State → Type 0 = λ t. IsFirstKnown t c.in-Some.at in
    let Q : State → Type 0 = λ t. TakesFirstKnown t (record s { pairs = c.take.new.self }) c.in_ok-copy.copy in
    let first = subst P (sym c.self.view_is) c.in-Some.ensures in
    subst Q c.self.view_is (takes_first_known s c.in-Some.at c.in-Some-left.pair.now c.in_ok-copy.copy c.take.new.self c.self.invariant first (sym c.in-Some-left.ensures) c.in_ok-copy.ensures c.in_ok-take.ensures.ok)
