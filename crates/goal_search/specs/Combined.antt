-- Answers of several.
use Rattle.goal_search.specs.declared.answer.Answer.{Answer}
use Rattle.goal_search.specs.declared.answer.Answer.TheVariants as answer

-- yes where one is, no where both are
abbrev pub either : Answer → Answer → Answer
either answer.Yes b = answer.Yes
either answer.No b = b
either answer.Undecided answer.Yes = answer.Yes
either answer.Undecided _ = answer.Undecided

-- no only where it isn't to be kept open
abbrev pub unless_no : Answer → Answer
unless_no answer.No = answer.Undecided
unless_no a = a

-- clauses, whether they shadow the rules, and what the rules say
abbrev pub shadowed : Answer → Answer → Answer → Answer
shadowed answer.Yes b c = answer.Yes
shadowed answer.No answer.Yes c = answer.No
shadowed answer.No answer.No c = c
shadowed answer.No answer.Undecided answer.No = answer.No
shadowed answer.No answer.Undecided _ = answer.Undecided
shadowed answer.Undecided answer.No answer.Yes = answer.Yes
shadowed answer.Undecided _ _ = answer.Undecided
