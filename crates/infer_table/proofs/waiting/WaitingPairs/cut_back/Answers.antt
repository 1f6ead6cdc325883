use Rattle.std.proofs.Common.{arith}
use Rattle.std.proofs.lemmas.Grind.{common_steps}
use Rattle.std.proofs.lemmas.List.{take-map, take_all}
use Rattle.infer_table.proofs.waiting.WaitingPairs.cut_back.Goals as goal

pub returns : goal.returns
returns c = grind (arith, common_steps, take-map, take_all)
