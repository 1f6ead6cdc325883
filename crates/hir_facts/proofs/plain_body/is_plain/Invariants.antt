use Rattle.hir_facts.proofs.plain_body.is_plain.Given as goal

abbrev pub ghost-has_plain_body : goal.ghost-has_plain_body
ghost-has_plain_body a = a.function
