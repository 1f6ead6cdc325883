use Rattle.std.proofs.Common.{◌-◌, refl, option_map, arith}
use Rattle.goal_search.specs.Words.{term_of}
use Rattle.goal_search.proofs.Words.{pair_of}
use Rattle.goal_search.proofs.Small.{nth_next}
use Rattle.goal_search.proofs.rows.+nth.Goals as goal

pub returns-then-place-gt0 : goal.returns-then-place-gt0
returns-then-place-gt0 t c =
    nth_next c.args.place (c.args.place - 1) (term_of c.args.args.now) (term_of c.in-Pair.part) (term_of c.get.result.now) (option_map (λ x. term_of x.now) c.nth.result)
    (pair_of c.args.args.now c.in-Pair.part c.in-Pair.rest c.in-Pair.part c.get.result.now c.in-Pair.is refl c.get.ensures) (omega (arith, c.if-place-gt0.true)) c.nth.ensures
