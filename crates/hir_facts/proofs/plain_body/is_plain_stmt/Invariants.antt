use Rattle.hir_facts.proofs.plain_body.is_plain_stmt.Given as goal

abbrev pub ghost-is_plain_written : goal.ghost-is_plain_written
ghost-is_plain_written g a = g.count
