use Rattle.std.proofs.Common.{◌≡◌, ◌++◌, take}
use Rattle.std.specs.List.{flat_map}
use Rattle.hir_ids.specs.Words.{said}
use Rattle.hir_ids.specs.Words.hir_raw.Mentions.{param_mentions}
use Rattle.hir_ids.proofs.saying_later.say_params.Given as goal

abbrev pub invariant-loop-param : goal.invariant-loop-param
invariant-loop-param l = l.out.items ≡ l.fn.out.items ++ said l.node (flat_map param_mentions (take l.param-index l.params))
