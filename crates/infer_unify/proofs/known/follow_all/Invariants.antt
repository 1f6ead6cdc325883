use Rattle.std.proofs.Common.{◌≡◌, true, take}
use Rattle.infer_unify.specs.Words.{Log, answers, log_of, IsLog, system}
use Rattle.infer_unify.specs.Own.{aliases_of, AreFollowed, IsRound, AreRounds}
use Rattle.infer_unify.proofs.known.follow_all.Given as goal

-- some were followed, one after another, in so many rounds
abbrev pub invariant-loop : goal.invariant-loop
invariant-loop l =
    (l.search ≡ l.fn.search) × IsLog (log_of l.log.items) × AreFollowed (answers (system l.fn.search) l.depth).Alias (aliases_of l.aliases) (log_of l.fn.log.items) (log_of l.log.items) true
    × AreRounds (answers (system l.fn.search) l.depth).Alias (aliases_of l.aliases) l.index (log_of l.fn.log.items) (log_of l.log.items)

-- and those before in one more
abbrev pub invariant-loop-alias : goal.invariant-loop-alias
invariant-loop-alias l =
    (l.search ≡ l.fn.search) × IsLog (log_of l.log.items) × AreFollowed (answers (system l.fn.search) l.depth).Alias (aliases_of l.aliases) (log_of l.fn.log.items) (log_of l.log.items) true
    × ((m : Log) × AreRounds (answers (system l.fn.search) l.depth).Alias (aliases_of l.aliases) l.index (log_of l.fn.log.items) m × IsRound (answers (system l.fn.search) l.depth).Alias (aliases_of (take l.alias-index l.aliases)) m (log_of l.log.items))
