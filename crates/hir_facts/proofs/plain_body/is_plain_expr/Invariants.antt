use Rattle.hir_facts.proofs.plain_body.is_plain_expr.Given as goal

abbrev pub ghost-are_plain_stmts : goal.ghost-are_plain_stmts
ghost-are_plain_stmts g a = g.count
