use Rattle.goal_search.specs.Words.{term_of}
use Rattle.goal_search.specs.Own.{kind_of, system}
use Rattle.goal_search.proofs.Choosing.{clause_found, clauses_several}
use Rattle.goal_search.proofs.search.Search.choose_source.Goals as goal

pub choose_rule-requires-clause-clauses : goal.choose_rule-requires-clause-clauses
choose_rule-requires-clause-clauses c = rw c.left_of.ensures.same (rw (c.in-Nothing.is, c.as_slice-clauses.ensures.value, c.sources.ensures.is) at c.in_ok-left_of.ensures.answer)

pub returns-in-One-clause-answer : goal.returns-in-One-clause-answer
returns-in-One-clause-answer c =
    clause_found (system c.args.self.now) c.args.depth (kind_of c.args.kind) (term_of c.args.target.now) c.requires.kind c.in-One.number
    (rw (c.in-One.is, c.as_slice-clauses.ensures.value, c.sources.ensures.is) at c.in_ok-left_of.ensures.answer) c.if_concrete.result (rw (c.as_slice-clauses.ensures.value, c.sources.ensures.is) at c.if_concrete.ensures)

pub returns-in-Several-clause-answer : goal.returns-in-Several-clause-answer
returns-in-Several-clause-answer c =
    clauses_several (system c.args.self.now) c.args.depth (kind_of c.args.kind) (term_of c.args.target.now) c.requires.kind (rw (c.in-Several.is, c.as_slice-clauses.ensures.value, c.sources.ensures.is) at c.in_ok-left_of.ensures.answer)
