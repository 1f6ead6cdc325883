use Rattle.hir_laws.specs.Own.{AreNamedAs, first_literal, last_literal}
use Rattle.hir_laws.proofs.PatternLiterals.{bits_from, hold_from, pats_from}
use Rattle.hir_laws.proofs.literals.literals_hold.Goals as goal
use Rattle.hir_laws.proofs.literals.literals_hold.Goals.{After-are_in_bits}

begun : (c : After-are_in_bits) → AreNamedAs first_literal c.args.body.now c.deref.result.now
begun c = rw c.deref.ensures.value c.in_ok-firsts.ensures

ended : (c : After-are_in_bits) → AreNamedAs last_literal c.args.body.now c.deref-2.result.now
ended c = rw c.deref-2.ensures.value c.in_ok-lasts.ensures

pub returns-then-not-are_in_bits : goal.returns-then-not-are_in_bits
returns-then-not-are_in_bits c =
    let d : After-are_in_bits = (goal.at.returns-then-not-are_in_bits c).After-are_in_bits in
    (λ t. absurd (cc), λ hold. (let t = c.are_in_bits.ensures.1 (bits_from c.args.body.now c.deref.result.now c.deref-2.result.now (begun d) (ended d) hold) in let f = c.if-not-are_in_bits.true in cc))

pub returns : goal.returns
returns c =
    let d : After-are_in_bits = (goal.at.returns c).After-are_in_bits in (
      λ t. hold_from c.args.body.now c.deref.result.now c.deref-2.result.now (begun d) (ended d) (c.are_in_bits.ensures.0 c.if-not-are_in_bits.false) (c.pats_fit.ensures.0 t),
      λ hold. c.pats_fit.ensures.1 (pats_from c.args.body.now hold),
    )
