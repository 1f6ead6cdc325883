use Rattle.std.proofs.Common.{◌≡◌, true≢false, sym}
use Rattle.infer_needs.proofs.Words.{each_all, each_get}
use Rattle.infer_needs.specs.Words.{gap_says}
use Rattle.infer_needs.proofs.say.is_said.Goals as goal

pub returns : goal.returns
returns c = (
  λ e. absurd (true≢false (sym e)),
  λ h.
      absurd (each_get (λ x. gap_says x ≡ gap_says c.args.gap.now → ⊥) c.args.gaps.now h.0 h.1 (each_all (λ x. gap_says x ≡ gap_says c.args.gap.now → ⊥) c.args.gaps.now c.loop-said.said-index c.loop-said-test.false c.loop-said.invariant) h.2 h.3),
)
