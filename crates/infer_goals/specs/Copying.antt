-- Copies of obligations.
use Rattle.std.specs.Prelude.{◌≡◌}
use Rattle.infer_goals.specs.Words.{IsCopied as IsTreeCopied}
use Rattle.infer_goals.specs.declared.obligations.Obligations.{Obligations}
use Rattle.infer_goals.specs.declared.sleepers.Sleepers.{Sleepers}

-- the same sleep, on the same holes
pub record AreCopied (z u : Sleepers) : Type 0 where
  pub lists : u.by_hole.items ≡ z.by_hole.items
  pub asleep : u.asleep.items ≡ z.asleep.items
  pub seen : u.seen ≡ z.seen

-- the same goals with what selects them and their proofs; the same are to be looked at, and the same sleep. How many were selected is
-- not in it.
pub record IsCopied (o u : Obligations) : Type 0 where
  pub tree : IsTreeCopied o.tree u.tree
  pub todo : u.todo.items ≡ o.todo.items
  pub asleep : AreCopied o.asleep u.asleep
