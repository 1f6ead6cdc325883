use Rattle.hir_facts.specs.Own.{IsPlainStmt}
use Rattle.hir_facts.proofs.Broken.{Passed}
use Rattle.hir_facts.proofs.plain_body.are_plain_stmts.Given as goal

abbrev pub ghost-is_plain_stmt : goal.ghost-is_plain_stmt
ghost-is_plain_stmt g a = g.count

abbrev pub invariant-loop-stmt : goal.invariant-loop-stmt
invariant-loop-stmt g l = Passed (λ k s. IsPlainStmt l.facts g.count s) l.stmts l.fn.stmts l.stmt-index
