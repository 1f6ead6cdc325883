use Rattle.std.proofs.Common.{sym, ◌∙◌, subst, true≢false}
use Rattle.goal_search.specs.Words.{RuleIsRefuted, answers, known_below, term_of}
use Rattle.goal_search.specs.Own.{Sources, kind_of, system, IsLeft, IsRow}
use Rattle.goal_search.specs.declared.choose.Left.TheVariants as left
use Rattle.goal_search.specs.declared.choose.Row.TheVariants as row
use Rattle.goal_search.proofs.Choosing.{may_shadow, unshadowed, rules_several, rule_copied, rule_found, nothing_left, row_not}
use Rattle.goal_search.proofs.search.Search.choose_rule.Goals as goal

pub returns-then-not-is_no-clause-answer : goal.returns-then-not-is_no-clause-answer
returns-then-not-is_no-clause-answer c =
    may_shadow (system c.args.self.now) c.args.depth (kind_of c.args.kind) (term_of c.args.target.now) c.requires.kind c.requires.clauses c.in_ok-ask_rules.field-0
    (rw (c.as_slice-clauses.ensures.value, c.sources-sources.ensures.is) at c.in_ok-ask_rules.ensures.answer) (λ e. true≢false (sym (c.is_no.ensures.1 e) ∙ c.if-not-is_no.true))

pub returns-in-OfParts-clause-answer : goal.returns-in-OfParts-clause-answer
returns-in-OfParts-clause-answer c =
    let f = system c.args.self.now in let n = c.args.depth in let k = kind_of c.args.kind in let w = term_of c.args.target.now in
    let free =
    unshadowed f n k w c.requires.kind c.requires.clauses c.in_ok-ask_rules.field-0 (rw (c.as_slice-clauses.ensures.value, c.sources-sources.ensures.is) at c.in_ok-ask_rules.ensures.answer) (c.is_no.ensures.0 c.if-not-is_no.false) in
    let LeftIn = λ (s : Sources). IsLeft (RuleIsRefuted (answers (system s) n).Alias (known_below (system s) n) k w) f.rules left.Nothing in
    let remains = subst LeftIn c.ask_rules.ensures.same (rw (c.in-Nothing.is, c.as_slice-rules.ensures.value, c.sources-sources.ensures.is) at c.in_ok-left_of.ensures.answer) in
    let RowIn = λ (s : Sources). IsRow (system s) (known_below (system s) n) k w row.OfParts in
    let copied = subst RowIn (c.left_of.ensures.same ∙ c.ask_rules.ensures.same) (rw c.in-OfParts.is at c.in_ok-copied_row-in-Nothing.ensures.answer) in
    (free, remains, copied.0, copied.1)

pub returns-in-Refuted : goal.returns-in-Refuted
returns-in-Refuted c =
    let f = system c.args.self.now in let n = c.args.depth in let k = kind_of c.args.kind in let w = term_of c.args.target.now in
    let LeftIn = λ (s : Sources). IsLeft (RuleIsRefuted (answers (system s) n).Alias (known_below (system s) n) k w) f.rules left.Nothing in
    let remains = subst LeftIn c.ask_rules.ensures.same (rw (c.in-Nothing.is, c.as_slice-rules.ensures.value, c.sources-sources.ensures.is) at c.in_ok-left_of.ensures.answer) in
    let RowIn = λ (s : Sources). IsRow (system s) (known_below (system s) n) k w c.in_ok-copied_row-in-Nothing.field-0 in
    let copied = subst RowIn (c.left_of.ensures.same ∙ c.ask_rules.ensures.same) (c.in_ok-copied_row-in-Nothing.ensures.answer) in
    record {
      same = c.copied_row.ensures.same ∙ c.left_of.ensures.same ∙ c.ask_rules.ensures.same;
      answer = nothing_left f n k w c.requires.kind c.requires.clauses c.in_ok-copied_row-in-Nothing.field-0 remains copied c.in-Refuted.is;
    }

pub returns-in-Refuted-2-clause-answer : goal.returns-in-Refuted-2-clause-answer
returns-in-Refuted-2-clause-answer c =
    let f = system c.args.self.now in let n = c.args.depth in let k = kind_of c.args.kind in let w = term_of c.args.target.now in
    let free =
    unshadowed f n k w c.requires.kind c.requires.clauses c.in_ok-ask_rules.field-0 (rw (c.as_slice-clauses.ensures.value, c.sources-sources.ensures.is) at c.in_ok-ask_rules.ensures.answer) (c.is_no.ensures.0 c.if-not-is_no.false) in
    let LeftIn = λ (s : Sources). IsLeft (RuleIsRefuted (answers (system s) n).Alias (known_below (system s) n) k w) f.rules (left.One c.in-One.number) in
    let remains = subst LeftIn c.ask_rules.ensures.same (rw (c.in-One.is, c.as_slice-rules.ensures.value, c.sources-sources.ensures.is) at c.in_ok-left_of.ensures.answer) in
    let RowIn = λ (s : Sources). IsRow (system s) (known_below (system s) n) k w row.Refuted in
    let copied = subst RowIn (c.left_of.ensures.same ∙ c.ask_rules.ensures.same) (rw c.in-Refuted-2.is at c.in_ok-copied_row-in-One.ensures.answer) in
    rule_found f n k w c.requires.kind c.requires.clauses free copied c.in-One.number remains c.if_concrete.result (rw (c.as_slice-rules.ensures.value, c.sources-sources.ensures.is) at c.if_concrete.ensures)

pub returns-in-OfParts-2 : goal.returns-in-OfParts-2
returns-in-OfParts-2 c =
    let f = system c.args.self.now in let n = c.args.depth in let k = kind_of c.args.kind in let w = term_of c.args.target.now in
    let LeftIn = λ (s : Sources). IsLeft (RuleIsRefuted (answers (system s) n).Alias (known_below (system s) n) k w) f.rules (left.One c.in-One.number) in
    let remains = subst LeftIn c.ask_rules.ensures.same (rw (c.in-One.is, c.as_slice-rules.ensures.value, c.sources-sources.ensures.is) at c.in_ok-left_of.ensures.answer) in
    let RowIn = λ (s : Sources). IsRow (system s) (known_below (system s) n) k w c.in_ok-copied_row-in-One.field-0 in
    let copied = subst RowIn (c.left_of.ensures.same ∙ c.ask_rules.ensures.same) (c.in_ok-copied_row-in-One.ensures.answer) in
    record {
      same = c.copied_row-in-One.ensures.same ∙ c.left_of.ensures.same ∙ c.ask_rules.ensures.same;
      answer = rule_copied f n k w c.requires.kind c.requires.clauses c.in-One.number remains (row_not f n k w c.in_ok-copied_row-in-One.field-0 copied c.in-OfParts-2.is);
    }

pub returns-in-Several-clause-answer : goal.returns-in-Several-clause-answer
returns-in-Several-clause-answer c =
    let f = system c.args.self.now in let n = c.args.depth in let k = kind_of c.args.kind in let w = term_of c.args.target.now in
    let LeftIn = λ (s : Sources). IsLeft (RuleIsRefuted (answers (system s) n).Alias (known_below (system s) n) k w) f.rules left.Several in
    let remains = subst LeftIn c.ask_rules.ensures.same (rw (c.in-Several.is, c.as_slice-rules.ensures.value, c.sources-sources.ensures.is) at c.in_ok-left_of.ensures.answer) in
    rules_several f n k w c.requires.kind c.requires.clauses remains
