use Rattle.std.proofs.Common.{◌≡◌, ℕ, ◌∙◌, List, length, map, refl, sym, ap, subst, arith, rules}
use Rattle.std.specs.Prelude.{Some, slice_get, slice_set}
use Rattle.std.proofs.lemmas.Option.{slice_get_within}
use Rattle.goal_tree.specs.Words.{ExprOrPatId, Goal, ProofSource}
use Rattle.goal_tree.specs.declared.obligation.Standing.TheVariants as standing
use Rattle.goal_tree.specs.Own.{GoalTree, IsTree, IsOpenAt, asked_by, IsAsked}
use Rattle.goal_tree.proofs.Words.{get_left as front_get}
use Rattle.goal_tree.proofs.Selecting.{Selects, selected_tree, selected_waits, selected_by}
use Rattle.goal_tree.proofs.tree.GoalTree.select.Goals as goal

abbrev selects : (t v u : GoalTree) (at first count depth : ℕ) (source : ProofSource) (goals : List Goal) (node : ExprOrPatId) → IsTree t → IsOpenAt t.standings.items at
    → IsAsked t v (map (asked_by node depth at) goals) → first ≡ length t.obligations.items → count ≡ length goals
    → u.obligations.items ≡ v.obligations.items → u.standings.items ≡ slice_set v.standings.items at (standing.Selected source first count) → u.proofs.items ≡ v.proofs.items → Selects t u at
selects t v u at first count depth source goals node tree was_open asks from many obligations standings proofs = record {
  source = source;
  goals = goals;
  node = node;
  depth = depth;
  tree = tree;
  was_open = was_open;
  asked = v;
  asks = asks;
  obligations = obligations;
  standings = standings ∙ (ap (λ m. slice_set v.standings.items at (standing.Selected source m count)) from ∙ ap (λ n. slice_set v.standings.items at (standing.Selected source (length t.obligations.items) n)) many);
  proofs = proofs;
}

pub put-requires : goal.put-requires
put-requires c =
    let before = c.args.self.now.standings.items in
    let after = c.ask.new.self.standings.items in
    let within = slice_get_within after c.args.at standing.Open (subst (λ ss. slice_get ss c.args.at ≡ Some standing.Open) (sym c.in_ok-ask.ensures.standings) (front_get before _ c.args.at standing.Open c.requires.is_open)) in
    omega (arith, within)

pub finish-requires-clause-tree : goal.finish-requires-clause-tree
finish-requires-clause-tree c =
    let asking = c.obligation-asking.result.now in
    let count : c.len-count.result ≡ length c.args.goals.items = search rules in
    selected_tree c.args.self.now c.put.new.self c.args.at (selects c.args.self.now c.ask.new.self c.put.new.self c.args.at c.len-first.result c.len-count.result c.saturating_sub-depth.result c.args.source c.args.goals.items asking.node
    c.requires.tree c.requires.is_open c.in_ok-ask.ensures c.len-first.ensures count c.put.ensures.obligations c.put.ensures.standings c.put.ensures.proofs)

pub finish-requires-clause-waiting : goal.finish-requires-clause-waiting
finish-requires-clause-waiting c =
    let asking = c.obligation-asking.result.now in
    let count : c.len-count.result ≡ length c.args.goals.items = search rules in
    selected_waits c.args.self.now c.put.new.self c.args.at (selects c.args.self.now c.ask.new.self c.put.new.self c.args.at c.len-first.result c.len-count.result c.saturating_sub-depth.result c.args.source c.args.goals.items asking.node
    c.requires.tree c.requires.is_open c.in_ok-ask.ensures c.len-first.ensures count c.put.ensures.obligations c.put.ensures.standings c.put.ensures.proofs)

pub returns-clause-selected : goal.returns-clause-selected
returns-clause-selected c =
    let asking = c.obligation-asking.result.now in
    let count : c.len-count.result ≡ length c.args.goals.items = search rules in
    selected_by c.args.self.now c.put.new.self c.args.at (selects c.args.self.now c.ask.new.self c.put.new.self c.args.at c.len-first.result c.len-count.result c.saturating_sub-depth.result c.args.source c.args.goals.items asking.node
    c.requires.tree c.requires.is_open c.in_ok-ask.ensures c.len-first.ensures count c.put.ensures.obligations c.put.ensures.standings c.put.ensures.proofs)
    c.finish.new.self asking c.obligation-asking.ensures refl (sym c.saturating_sub-depth.ensures) c.in_ok-finish.ensures.proved
