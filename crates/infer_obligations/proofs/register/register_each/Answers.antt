use Rattle.std.proofs.Common.{◌≡◌, ◌∷◌, [], length, refl, sym, ap, ◌∙◌, subst, append_assoc, arith}
use Rattle.std.proofs.lemmas.List.{nil_from_length}
use Rattle.std.specs.Vec.Iter.{into_iter_items}
use Rattle.hir_types.specs.declared.ids.ExprOrPatId.TheVariants as node
use Rattle.infer_obligations.specs.Words.{RawFacts, State, ItemSources, GoalIsOf, IsAsked, registered}
use Rattle.infer_obligations.specs.Own.{asked_for, Registers}
use Rattle.infer_obligations.proofs.Registering.{registers_none, registers_next, next_is, all_were}
use Rattle.infer_obligations.proofs.register.register_each.Goals as goal

pub loop-goal-init : goal.loop-goal-init
loop-goal-init c = record {
  items = refl;
  long = cc;
  kept = c.requires.kept;
  all = c.requires.all;
  registers = registers_none c.args.goals.now.sources.facts c.args.goals.now.obligations;
  table = refl;
  bounded = refl;
  sources = refl;
}

pub register_obligation-requires-clause-goal : goal.register_obligation-requires-clause-goal
register_obligation-requires-clause-goal c =
    let at = c.loop-goal in
    let whole = at.invariant.items ∙ c.into_iter-goal-iterator.ensures.into_iter_gives.0 in
    subst (λ (s : State). GoalIsOf s c.in-Some.goal) (sym at.invariant.table)
    (next_is (GoalIsOf c.args.goals.now.table) at.yielded (into_iter_items at.goal-iterator) (into_iter_items c.next.new.self) c.args.needed.items c.in-Some.goal c.requires.goals whole c.in-Some.ensures.steps.0)

pub loop-goal-preserved : goal.loop-goal-preserved
loop-goal-preserved c =
    let at = c.loop-goal in
    let x = c.in-Some.goal in
    let n = c.args.expr.0 in
    let new = c.register_obligation.new.self in
    let done = c.in_ok-register_obligation.ensures in
    let steps : into_iter_items at.goal-iterator ≡ x ∷ into_iter_items c.next.new.self = c.in-Some.ensures.steps.0 in
    let raw : RawFacts = c.args.goals.now.sources.facts in
    let asked = subst (λ (z : ItemSources). IsAsked at.goals.obligations.tree new.obligations.tree (registered x (node.ExprId c.args.expr) z.facts.limits.goal_depth ∷ [])) at.invariant.sources done.asked in
    record {
      items = append_assoc at.yielded (x ∷ []) _ ∙ rw (← steps) at.invariant.items;
      long = (let was = at.invariant.long in let gone = c.in-Some.ensures.steps.1 in let short = ap length steps in omega arith);
      kept = done.kept;
      all = done.all;
      registers = registers_next raw n at.yielded x c.args.goals.now.obligations at.goals.obligations new.obligations at.invariant.registers asked done.selected;
      table = c.register_obligation.ensures.table ∙ at.invariant.table;
      bounded = c.register_obligation.ensures.bounded ∙ at.invariant.bounded;
      sources = c.register_obligation.ensures.sources ∙ at.invariant.sources;
    }

pub returns-clause-registers : goal.returns-clause-registers
returns-clause-registers c =
    let at = c.loop-goal in
    let empty : into_iter_items at.goal-iterator ≡ [] = nil_from_length _ (sym at.invariant.long ∙ c.in-None.ensures.steps.0) in
    let gs = c.args.needed.items in
    let whole = at.invariant.items ∙ c.into_iter-goal-iterator.ensures.into_iter_gives.0 in
    let all = all_were at.yielded (into_iter_items at.goal-iterator) gs whole empty in
    subst (λ xs. Registers c.args.goals.now.sources.facts (asked_for c.args.expr.0 xs) c.args.goals.now.obligations at.goals.obligations) all at.invariant.registers
