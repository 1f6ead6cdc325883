use Rattle.std.proofs.Common.{◌≡◌, drop, nat_eq}
use Rattle.std.specs.List.{find}
use Rattle.hir_types.proofs.subst.first_for.Given as goal

abbrev pub invariant-loop-listed : goal.invariant-loop-listed
invariant-loop-listed g l = find (λ e. nat_eq e.0 l.hole) (drop l.listed-index l.entries) ≡ find (λ e. nat_eq e.0 l.hole) l.entries
