use Rattle.std.proofs.Common.{sym, ◌∙◌, true≢false}
use Rattle.goal_search.specs.Words.{term_of}
use Rattle.goal_search.specs.Own.{kind_of, system}
use Rattle.goal_search.proofs.Choosing.{size_shadowed, size_walked}
use Rattle.goal_search.proofs.search.Search.choose_size.Goals as goal

pub returns-then-not-is_no-clause-answer : goal.returns-then-not-is_no-clause-answer
returns-then-not-is_no-clause-answer c =
    size_shadowed (system c.args.self.now) c.args.depth (kind_of c.args.kind) (term_of c.args.target.now) c.requires.kind (rw c.in_default.is at c.in_ok-number.ensures.answer) c.in_ok-ask_rules.field-0
    (rw (c.as_slice-clauses.ensures.value, c.sources.ensures.is, c.proving_clause.ensures.same) at c.in_ok-ask_rules.ensures.answer) (λ e. true≢false (sym (c.is_no.ensures.1 e) ∙ c.if-not-is_no.true))

pub returns-clause-answer : goal.returns-clause-answer
returns-clause-answer c =
    size_walked (system c.args.self.now) c.args.depth (kind_of c.args.kind) (term_of c.args.target.now) c.requires.kind c.in_ok-ask_rules.field-0
    (rw (c.as_slice-clauses.ensures.value, c.sources.ensures.is, c.proving_clause.ensures.same) at c.in_ok-ask_rules.ensures.answer) (c.is_no.ensures.0 c.if-not-is_no.false)
