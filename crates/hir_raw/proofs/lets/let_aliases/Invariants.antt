use Rattle.std.proofs.Common.{◌≡◌, take}
use Rattle.std.specs.Prelude.{flat_map}
use Rattle.hir_raw.specs.Own.{expr_aliases}
use Rattle.hir_raw.proofs.lets.let_aliases.Given as goal

abbrev pub invariant-loop-expr : goal.invariant-loop-expr
invariant-loop-expr l = l.found.items ≡ flat_map (expr_aliases l.types) (take l.expr-index l.expr-items)
