use Rattle.std.proofs.Common.{◌∙◌, ◌++◌, ◌∷◌, List, ℕ, [], get_or, ap, arith}
use Rattle.infer_goals.proofs.Waking.{get_or_more}
use Rattle.infer_goals.proofs.sleepers.make_room.Goals as goal

pub grow-preserved : goal.grow-preserved
grow-preserved c m = ap (λ (xs : List (List ℕ)). get_or xs m []) c.in_ok-push.ensures.items ∙ (ap (λ (x : List ℕ). get_or (c.grow.lists.items ++ x ∷ []) m []) c.new.ensures ∙ (get_or_more c.grow.lists.items [] m ∙ c.grow.invariant m))

pub returns : goal.returns
returns c = record { room = (let past = c.grow-test.false in omega (arith, past)); same = c.grow.invariant }
