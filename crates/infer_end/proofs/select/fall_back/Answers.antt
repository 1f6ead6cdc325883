use Rattle.infer_end.specs.Words.{given_of}
use Rattle.infer_end.proofs.Settling.{falls_back}
use Rattle.infer_end.proofs.select.fall_back.Goals as goal

pub returns : goal.returns
returns c = falls_back (given_of c.args.given.now) c.args.context.now c.requires.of_body c.requires.sound c.fall_back_integers.new.self c.in_ok-fall_back_integers.ensures.fell c.lawful.ensures.meets c.lawful.ensures.respects
