use Rattle.hir_facts.proofs.plain_body.looks_plain.Given as goal

abbrev pub ghost-are_plain_exprs : goal.ghost-are_plain_exprs
ghost-are_plain_exprs g a = g.count
