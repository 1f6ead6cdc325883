use Rattle.std.proofs.Common.{◌≡◌, ◌++◌, take}
use Rattle.std.specs.List.{flat_map}
use Rattle.hir_ids.specs.Words.{said}
use Rattle.hir_ids.specs.Words.hir_raw.Mentions.{arg_mentions}
use Rattle.hir_ids.proofs.saying_later.say_entries.Given as goal

abbrev pub invariant-loop-arg : goal.invariant-loop-arg
invariant-loop-arg l = l.out.items ≡ l.fn.out.items ++ said l.node (flat_map arg_mentions (take l.arg-index l.args))
