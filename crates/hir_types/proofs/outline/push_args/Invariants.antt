use Rattle.std.proofs.Common.{◌≡◌, ◌++◌, map, take}
use Rattle.hir_types.specs.Own.{arg_term, part_terms}
use Rattle.hir_types.proofs.outline.push_args.Given as goal

abbrev pub invariant-loop-arg : goal.invariant-loop-arg
invariant-loop-arg l = part_terms l.parts.items ≡ part_terms l.initial.parts.items ++ map arg_term (take l.arg-index l.args)
