use Rattle.std.proofs.Common.{◌≡◌, sym, subst, ◌∙◌}
use Rattle.goal_tests.specs.Words.{State, Grew, GoalTable, system, stays_with, KeepsGoals}
use Rattle.goal_tests.proofs.Words.{grew_twice, went_grew}
use Rattle.goal_tests.proofs.Keeping.{keeps_still, keeps_same}
use Rattle.goal_tests.proofs.undo.go_on.Goals as goal

pub select_obligations_where_possible-requires-clause-kept : goal.select_obligations_where_possible-requires-clause-kept
select_obligations_where_possible-requires-clause-kept c =
    let one = c.register.new.goals in
    let two : GoalTable = record one { table = c.bind.new.table } in
    (keeps_still one two c.in_ok-register.ensures.keeps (stays_with one c.bind.new.table) c.bind.ensures).kept

pub select_obligations_where_possible-requires-clause-all : goal.select_obligations_where_possible-requires-clause-all
select_obligations_where_possible-requires-clause-all c =
    let one = c.register.new.goals in
    let two : GoalTable = record one { table = c.bind.new.table } in
    (keeps_still one two c.in_ok-register.ensures.keeps (stays_with one c.bind.new.table) c.bind.ensures).all

pub returns-clause-goes_on : goal.returns-clause-goes_on
returns-clause-goes_on c =
    let before = c.args.goals.now in
    let one = c.register.new.goals in
    let two : State = c.bind.new.table in
    let three = c.select_obligations_where_possible.new.self in
    let four = c.note_use.new.self in
    let five = c.enter_hidden.new.self in
    let bound : Grew before.table two = subst (λ s. Grew s two) c.register.ensures.table c.bind.ensures in
    let went : Grew two three.table = went_grew one.sources.facts (system one.sources.sources) one.bounded two one.obligations three.table three.obligations c.in_ok-select_obligations_where_possible.ensures.went in
    let grew = grew_twice before.table two three.table bound went in
    let same : five.table ≡ three.table = c.enter_hidden.ensures.table ∙ c.note_use.ensures.table in
    let first : one.sources ≡ before.sources = c.register.ensures.sources in
    let last : five.sources ≡ one.sources = c.enter_hidden.ensures.sources ∙ (c.note_use.ensures.sources ∙ c.select_obligations_where_possible.ensures.sources) in
    let selects = c.in_ok-select_obligations_where_possible.ensures in
    let noted = c.note_use.ensures in
    let entered = c.enter_hidden.ensures in
    let keeps : KeepsGoals five =
    keeps_same four five (keeps_same three four (record { kept = selects.kept; all = selects.all }) noted.table noted.sources noted.obligations) entered.table entered.sources entered.obligations in
    record { table = subst (λ s. Grew before.table s) (sym same) grew; sources = last ∙ first; selected = keeps.kept.selected }

pub returns-clause-keeps : goal.returns-clause-keeps
returns-clause-keeps c =
    let three = c.select_obligations_where_possible.new.self in
    let four = c.note_use.new.self in
    let five = c.enter_hidden.new.self in
    let selected = c.in_ok-select_obligations_where_possible.ensures in
    let noted = c.note_use.ensures in
    let entered = c.enter_hidden.ensures in
    let keeps : KeepsGoals three = record { kept = selected.kept; all = selected.all } in
    keeps_same four five (keeps_same three four keeps noted.table noted.sources noted.obligations) entered.table entered.sources entered.obligations
