use Rattle.std.proofs.Common.{refl}
use Rattle.infer_text.proofs.reading.judge.Goals as goal

pub returns-in-Err-Law : goal.returns-in-Err-Law
returns-in-Err-Law c = record { broken = c.args.raw; stands = refl; first = rw c.in-Err-Law.field-0-is at c.in-Err-Law.ensures.broken }
