use Rattle.std.proofs.Common.{◌≡◌, Some, map, take}
use Rattle.infer_obligations.specs.Words.{written_type}
use Rattle.infer_obligations.proofs.own.written_tys.Given as goal

abbrev pub invariant-loop-type_ref : goal.invariant-loop-type_ref
invariant-loop-type_ref l = l.tys.items ≡ map (λ w. Some (written_type l.facts.types w)) (take l.type_ref-index l.written)
