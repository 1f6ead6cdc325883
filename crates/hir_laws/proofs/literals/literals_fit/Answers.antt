use Rattle.std.proofs.lemmas.Result.{IfOk-weaker}
use Rattle.hir_laws.proofs.PatternLiterals.{fit_told, held}
use Rattle.hir_laws.proofs.literals.literals_fit.Goals as goal

pub returns-then-not-branch : goal.returns-then-not-branch
returns-then-not-branch c = (λ t. absurd (cc), λ fit. (let t = c.in_ok-literals_hold.ensures.1 (held c.args.body.now fit) in let f = c.if-not-branch.true in cc))

pub returns : goal.returns
returns c = IfOk-weaker _ _ _ (λ told says. fit_told c.args.body.now told (c.in_ok-literals_hold.ensures.0 c.if-not-branch.false) says) c.have_targets.ensures
