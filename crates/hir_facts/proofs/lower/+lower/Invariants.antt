use Rattle.std.proofs.Common.{◌≡◌, map, take}
use Rattle.hir_types.specs.declared.ty.GenericArg.TheVariants as arg
use Rattle.hir_facts.specs.Words.{lowered, opened}
use Rattle.hir_facts.proofs.lower.+lower.Given as goal

abbrev pub decreases-lower : goal.decreases-lower
decreases-lower l = l.t

abbrev pub invariant-loop-part : goal.invariant-loop-part
invariant-loop-part l = l.tys ≡ map (λ t. lowered (opened l.params l.aliases l.types) t.0) (take l.part-index l.part-items)

abbrev pub invariant-loop-arg : goal.invariant-loop-arg
invariant-loop-arg l = l.lowered ≡ map (λ t. arg.Ty (lowered (opened l.params l.aliases l.types) t.0)) (take l.arg-index l.arg-items)

abbrev pub invariant-loop-arg-2 : goal.invariant-loop-arg-2
invariant-loop-arg-2 l = l.lowered ≡ map (λ t. arg.Ty (lowered (opened l.params l.aliases l.types) t.0)) (take l.arg-index l.arg-items)
