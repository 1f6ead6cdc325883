-- Answers that are kept.
use Rattle.std.specs.Prelude.{ℕ, List}
use Rattle.goal_search.specs.Words.{Term, Kind, System, Each, YesAt, NoAt, answers, known_below, term_of}
use Rattle.goal_search.specs.declared.answer.Answer.{Answer}
use Rattle.goal_search.specs.declared.kept.Entry.{Entry}
use Rattle.goal_search.specs.Sources.{kind_of}
use Rattle.goal_search.specs.Searching.{Decides}

-- the answer to a goal that is read, at a depth
abbrev pub IsAnswerAt : System → Kind → Term → ℕ → Answer → Type 0
IsAnswerAt f c w n a = Decides (YesAt f (answers f n).Alias (known_below f n) c w) (NoAt f (answers f n).Alias (known_below f n) c w) a

abbrev pub IsKeptRight : System → Entry → Type 0
IsKeptRight f e = IsAnswerAt f (kind_of e.kind) (term_of e.target) e.depth e.answer

abbrev pub AreKept : System → List Entry → Type 0
AreKept f es = Each (IsKeptRight f) es

-- what was found is right, where all that is kept is
abbrev pub FoundIs : List Entry → Kind → Term → ℕ → Answer → Type 0
FoundIs es c w n a = (f : System) → AreKept f es → IsAnswerAt f c w n a
