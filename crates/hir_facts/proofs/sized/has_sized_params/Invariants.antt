use Rattle.std.proofs.Common.{ℕ, ◌<◌, IsTrue}
use Rattle.std.specs.List.{list_any}
use Rattle.hir_facts.specs.Own.{is_sized_of}
use Rattle.hir_facts.proofs.sized.has_sized_params.Given as goal

abbrev pub invariant-loop-param : goal.invariant-loop-param
invariant-loop-param l = (i : ℕ) → i < l.param → IsTrue (list_any (is_sized_of l.raw i) l.function.preds)
