use Rattle.std.proofs.Common.{◌≡◌, take}
use Rattle.infer_unify.specs.Words.{answers, log_of, system}
use Rattle.infer_unify.specs.Own.{aliases_of}
use Rattle.infer_unify.proofs.Steps.{AreJudgedSoFar}
use Rattle.infer_unify.proofs.known.judge.Given as goal

-- those before were judged so
abbrev pub invariant-loop-alias : goal.invariant-loop-alias
invariant-loop-alias l = (l.search ≡ l.fn.search) × AreJudgedSoFar (answers (system l.fn.search) l.depth) (aliases_of (take l.alias-index l.aliases)) (log_of l.log) l.found
