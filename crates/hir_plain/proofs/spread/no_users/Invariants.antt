use Rattle.std.proofs.Common.{◌≡◌, [], replicate}
use Rattle.hir_plain.proofs.spread.no_users.Given as goal

abbrev pub invariant-loop : goal.invariant-loop
invariant-loop l = l.users.items ≡ replicate l.counter []
