use Rattle.std.proofs.Common.{subst, sym}
use Rattle.infer_needs.specs.Words.{Term, system, term_of, WrittenAreListed}
use Rattle.infer_needs.proofs.Words.{pair_of}
use Rattle.infer_needs.specs.Own.{Lists}
use Rattle.infer_needs.proofs.Writing.{lists_two}
use Rattle.infer_needs.proofs.written.+look_at_term.Goals as goal

pub returns-in_ok-look_at_term-in-Pair-2 : goal.returns-in_ok-look_at_term-in-Pair-2
returns-in_ok-look_at_term-in-Pair-2 t c =
    let raw = c.args.sources.now.facts in
    let item = c.args.sources.now.item in
    let f = system c.args.sources.now.sources in
    let is = pair_of c.args.term.now c.in-Pair.first c.in-Pair.rest c.get.result.now c.get-in-Pair.result.now c.in-Pair.is c.get.ensures c.get-in-Pair.ensures in
    subst (λ (x : Term). Lists raw item f (λ js. WrittenAreListed f raw.limits.goal_depth js x) c.args.proofs.now.items c.look_at_term-in-Pair.new.proofs.items c.args.found.now c.look_at_term-in-Pair.new.found) (sym is)
    (lists_two raw item f (term_of c.get.result.now) (term_of c.get-in-Pair.result.now) _ _ _ _ _ _ _ _ c.in_ok-look_at_pair-in-Pair.ensures (rw (c.get-in-Pair-2.ensures, sym c.get.ensures) at c.in_ok-look_at_term-in-Pair.ensures) (rw (c.get-in-Pair-3.ensures, sym c.get-in-Pair.ensures) at c.in_ok-look_at_term-in-Pair-2.ensures))
