use Rattle.std.proofs.Common.{length}
use Rattle.infer_text.proofs.wanted.after_digits.Given as goal

abbrev pub decreases-loop-rest : goal.decreases-loop-rest
decreases-loop-rest l = length l.rest
