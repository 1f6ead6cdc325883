use Rattle.std.proofs.Common.{sym, subst}
use Rattle.infer_table.proofs.FrontLaws.{all_taken_push}
use Rattle.infer_table.specs.Own.{Waiting, AllTakenBelow}
use Rattle.infer_table.proofs.queue.PairQueue.take.Goals as goal

pub first_left-self-inside-requires : goal.first_left-self-inside-requires
first_left-self-inside-requires c =
    let s = c.self.inside in
    let P : Waiting → Type 0 = λ w. AllTakenBelow w.taken s.front in
    subst P (sym c.in_ok-take.ensures.ok) (all_taken_push s.pairs.taken s.front c.args.at c.self.invariant)
