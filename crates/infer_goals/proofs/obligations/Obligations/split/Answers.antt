use Rattle.std.proofs.Common.{◌≡◌, ◌∷◌, [], ◌++◌, ◌<◌, ◌≤◌, List, ℕ, length, sym, ap, ◌∙◌, subst, append_assoc, append-nil, arith}
use Rattle.std.specs.Prelude.{Some, slice_get}
use Rattle.std.proofs.lemmas.List.{nil_from_length}
use Rattle.std.proofs.lemmas.Option.{same_Some}
use Rattle.std.specs.Vec.Iter.{into_iter_items}
use Rattle.infer_goals.specs.Words.{Obligation, GoalTree}
use Rattle.infer_goals.specs.Own.{AreWithin, AreAmongEither, AreAt, AreBelow}
use Rattle.infer_goals.proofs.Lists.{all_append, all_one, at_among, yielded_among, either_here, either_below}
use Rattle.infer_goals.proofs.Scanning.{Is, is_within}
use Rattle.infer_goals.proofs.obligations.Obligations.split.Goals as goal

-- one of those that are of at most the depth
listed : (t : GoalTree) (d : ℕ) (numbers ys rest more : List ℕ) (x : ℕ) → AreWithin t d numbers → ys ++ rest ≡ numbers → rest ≡ x ∷ more → Is (λ n. n ≤ d) t x
listed t d numbers ys rest more x within whole next = at_among (Is (λ n. n ≤ d) t) numbers x within (yielded_among ys rest numbers more x whole next)

is_at : (t : GoalTree) (d x : ℕ) (o : Obligation) → slice_get t.obligations.items x ≡ Some o → o.depth ≡ d → Is (λ n. n ≡ d) t x
is_at t d x o e same = (o, e, same)

is_below : (t : GoalTree) (d x : ℕ) (o : Obligation) → slice_get t.obligations.items x ≡ Some o → (o.depth ≡ d → ⊥) → Is (λ n. n ≤ d) t x → Is (λ n. n < d) t x
is_below t d x o e other h =
    let same : h.0 ≡ o = same_Some h.0 o (sym h.1 ∙ e) in
    let depth : h.0.depth ≡ o.depth = ap (λ (z : Obligation). z.depth) same in
    let low = h.2 in
    (o, e, omega (arith, other, depth, low))

pub obligation-requires : goal.obligation-requires
obligation-requires c =
    let at = c.loop-at in
    let whole = at.invariant.items ∙ c.into_iter-at-iterator.ensures.into_iter_gives.0 in
    is_within (λ n. n ≤ c.args.depth) c.args.self.now.tree c.in-Some.at
    (listed c.args.self.now.tree c.args.depth c.args.numbers.items at.yielded (into_iter_items at.at-iterator) (into_iter_items c.next.new.self) c.in-Some.at c.requires whole c.in-Some.ensures.steps.0)

pub loop-at-preserved-in-Continue-1 : goal.loop-at-preserved-in-Continue-1
loop-at-preserved-in-Continue-1 c =
    let at = c.loop-at in
    let x = c.in-Some.at in
    let t = c.args.self.now.tree in
    let d = c.args.depth in
    let steps : into_iter_items at.at-iterator ≡ x ∷ into_iter_items c.next.new.self = c.in-Some.ensures.steps.0 in
    let pushed : c.push.new.self.items ≡ at.here.items ++ x ∷ [] = c.in_ok-push.ensures.items in
    record {
      items = append_assoc at.yielded (x ∷ []) _ ∙ rw (← steps) at.invariant.items;
      long = (let was = at.invariant.long in let gone = c.in-Some.ensures.steps.1 in let short = ap length steps in omega arith);
      are_here = subst (AreAt t d) (sym pushed) (all_append (Is (λ n. n ≡ d) t) at.here.items (x ∷ []) at.invariant.are_here (all_one (Is (λ n. n ≡ d) t) x (is_at t d x c.obligation.result.now c.obligation.ensures c.if-obligation-depth.true)));
      are_below = at.invariant.are_below;
      all = subst (λ xs. AreAmongEither (at.yielded ++ x ∷ []) xs at.below.items) (sym pushed) (either_here at.yielded at.here.items at.below.items x at.invariant.all);
    }

pub loop-at-preserved : goal.loop-at-preserved
loop-at-preserved c =
    let at = c.loop-at in
    let x = c.in-Some.at in
    let t = c.args.self.now.tree in
    let d = c.args.depth in
    let steps : into_iter_items at.at-iterator ≡ x ∷ into_iter_items c.next.new.self = c.in-Some.ensures.steps.0 in
    let pushed : c.push-else-obligation-depth.new.self.items ≡ at.below.items ++ x ∷ [] = c.in_ok-push-2.ensures.items in
    let whole = at.invariant.items ∙ c.into_iter-at-iterator.ensures.into_iter_gives.0 in
    let low = listed t d c.args.numbers.items at.yielded (into_iter_items at.at-iterator) (into_iter_items c.next.new.self) x c.requires whole steps in
    record {
      items = append_assoc at.yielded (x ∷ []) _ ∙ rw (← steps) at.invariant.items;
      long = (let was = at.invariant.long in let gone = c.in-Some.ensures.steps.1 in let short = ap length steps in omega arith);
      are_here = at.invariant.are_here;
      are_below = subst (AreBelow t d) (sym pushed) (all_append (Is (λ n. n < d) t) at.below.items (x ∷ []) at.invariant.are_below (all_one (Is (λ n. n < d) t) x (is_below t d x c.obligation.result.now c.obligation.ensures c.if-obligation-depth.false low)));
      all = subst (λ xs. AreAmongEither (at.yielded ++ x ∷ []) at.here.items xs) (sym pushed) (either_below at.yielded at.here.items at.below.items x at.invariant.all);
    }

pub returns-clause-all : goal.returns-clause-all
returns-clause-all c =
    let at = c.loop-at in
    let none = c.in-None.ensures.steps in
    let empty : into_iter_items at.at-iterator ≡ [] = nil_from_length _ (sym at.invariant.long ∙ none.0) in
    let all = sym (append-nil at.yielded) ∙ (rw empty at at.invariant.items ∙ c.into_iter-at-iterator.ensures.into_iter_gives.0) in
    subst (λ xs. AreAmongEither xs at.here.items at.below.items) all at.invariant.all
