use Rattle.std.proofs.Common.{◌≡◌, ◌+◌, drop, option_map}
use Rattle.hir_facts.specs.Words.{place_in}
use Rattle.hir_facts.proofs.lower.place_in.Given as goal

abbrev pub invariant-loop-place : goal.invariant-loop-place
invariant-loop-place l = option_map (λ p. l.place + p) (place_in l.number (drop l.place l.numbers)) ≡ place_in l.number l.numbers
