use Rattle.std.proofs.Common.{◌≡◌, ◌<◌, ℕ, List, get_or, length, refl, sym, ap, ◌∙◌, inl, subst, arith}
use Rattle.std.specs.Prelude.{Some, slice_get}
use Rattle.std.proofs.lemmas.Option.{same_Some, slice_get_read, slice_get_within}
use Rattle.goal_tree.specs.Own.{Obligation, Standing, GoalTree, IsTreeBut, IsWaitingAt, AreProvedAs}
use Rattle.goal_tree.specs.declared.obligation.Standing.TheVariants as standing
use Rattle.goal_tree.proofs.Proving.{proved_none, tree_waits, proved_next}
use Rattle.goal_tree.proofs.tree.GoalTree.advance.Goals as goal

within : (t : GoalTree) (at : ℕ) → IsWaitingAt t.standings.items at → at < length t.standings.items
within t at w = slice_get_within t.standings.items at (standing.Selected w.0 w.1 w.2) w.3

within_obligations : (t : GoalTree) (at : ℕ) → IsTreeBut (λ i. i ≡ at) t → IsWaitingAt t.standings.items at → at < length t.obligations.items
within_obligations t at tree w = subst (λ n. at < n) tree.as_many (within t at w)

read_at : (t : GoalTree) (at : ℕ) (read : List Standing) (a b : Standing) → IsWaitingAt t.standings.items at → read ≡ t.standings.items → a ≡ get_or read at a → a ≡ b → slice_get t.standings.items at ≡ Some b
read_at t at read a b w same is e = slice_get_read t.standings.items (length t.standings.items) at a refl (within t at w) (is ∙ ap (λ xs. get_or xs at a) same) ∙ ap (λ (s : Standing). Some s) e

pub proofs_of-requires : goal.proofs_of-requires
proofs_of-requires c =
    let t = c.args.self.now in
    let here = read_at t c.args.at c.as_slice.result.now c.index-as_slice-at.result (standing.Selected c.in-Selected.source c.in-Selected.first c.in-Selected.count) c.requires.waiting c.as_slice.ensures.value c.index-as_slice-at.is c.in-Selected.is in
    let asked = c.requires.tree.selected c.args.at c.in-Selected.first c.in-Selected.count c.in-Selected.source (inl here) in
    let within = asked.within in
    let many = c.requires.tree.as_many in
    omega (arith, within, many)

pub returns-in_default-2 : goal.returns-in_default-2
returns-in_default-2 c =
    let t = c.args.self.now in
    let here = read_at t c.args.at c.as_slice.result.now c.index-as_slice-at.result (standing.Selected c.in-Selected.source c.in-Selected.first c.in-Selected.count) c.requires.waiting c.as_slice.ensures.value c.index-as_slice-at.is c.in-Selected.is in
    let unproved = subst (AreProvedAs t.standings.items c.in-Selected.first c.in-Selected.count) c.in_default-2.is c.in_ok-children.ensures in
    (proved_none t, tree_waits t c.args.at c.in-Selected.first c.in-Selected.count c.in-Selected.source c.requires.tree here unproved)

pub obligation-requires : goal.obligation-requires
obligation-requires c = within_obligations c.args.self.now c.args.at c.requires.tree c.requires.waiting

pub prove-requires : goal.prove-requires
prove-requires c = within c.args.self.now c.args.at c.requires.waiting

pub obligation-requires-2 : goal.obligation-requires-2
obligation-requires-2 c = subst (λ n. c.args.at < n) (ap length (sym c.in_ok-prove.ensures.obligations)) (within_obligations c.args.self.now c.args.at c.requires.tree c.requires.waiting)

pub returns : goal.returns
returns c =
    let t = c.args.self.now in
    let here = read_at t c.args.at c.as_slice.result.now c.index-as_slice-at.result (standing.Selected c.in-Selected.source c.in-Selected.first c.in-Selected.count) c.requires.waiting c.as_slice.ensures.value c.index-as_slice-at.is c.in-Selected.is in
    let before = c.obligation.result.now in
    let after = c.obligation-2.result.now in
    let same : before ≡ after = same_Some before after (sym c.obligation.ensures ∙ (ap (λ os. slice_get os c.args.at) (sym c.in_ok-prove.ensures.obligations) ∙ c.obligation-2.ensures)) in
    proved_next t c.prove.new.self c.args.at (record {
      proof = record { goal = c.in_ok-dup.field-0; source = c.in_ok-dup-2.field-0; children = c.in-Some.children };
      first = c.in-Selected.first;
      count = c.in-Selected.count;
      obligation = before;
      tree = c.requires.tree;
      asked = c.obligation.ensures;
      waited = here ∙ ap (λ s. Some (standing.Selected s c.in-Selected.first c.in-Selected.count)) (sym c.in_ok-dup-2.ensures);
      goal = c.in_ok-dup.ensures;
      children = subst (AreProvedAs t.standings.items c.in-Selected.first c.in-Selected.count) c.in-Some.is c.in_ok-children.ensures;
      next = c.in_ok-prove.ensures;
    }) after.parent (ap (λ (o : Obligation). o.parent) same)
