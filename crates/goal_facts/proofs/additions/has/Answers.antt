use Rattle.std.proofs.Common.{◌≡◌, true≢false, sym}
use Rattle.goal_facts.proofs.Words.{each_all}
use Rattle.goal_facts.specs.Words.{asked_of}
use Rattle.goal_facts.proofs.Adding.{get_in_map}
use Rattle.goal_facts.proofs.Systems.{each_get}
use Rattle.goal_facts.proofs.additions.has.Goals as goal

pub returns : goal.returns
returns c = (
  λ e. absurd (true≢false (sym e)),
  λ h.
      let here = get_in_map asked_of c.args.goals.now h.0 (asked_of c.args.goal.now) h.1 in
      absurd (each_get (λ x. asked_of x ≡ asked_of c.args.goal.now → ⊥) c.args.goals.now h.0 here.0 (each_all (λ x. asked_of x ≡ asked_of c.args.goal.now → ⊥) c.args.goals.now c.loop-other.other-index c.loop-other-test.false c.loop-other.invariant) here.1 here.2),
)
