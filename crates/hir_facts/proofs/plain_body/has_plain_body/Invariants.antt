use Rattle.hir_facts.proofs.plain_body.has_plain_body.Given as goal

abbrev pub ghost-is_plain_body : goal.ghost-is_plain_body
ghost-is_plain_body g a = g.owner
