use Rattle.hir_types.specs.declared.ids.DefWithBodyId.TheVariants as def
use Rattle.hir_facts.specs.Words.{params_of}
use Rattle.hir_facts.proofs.plain_body.is_plain_body.Given as goal

abbrev pub ghost-looks_plain : goal.ghost-looks_plain
ghost-looks_plain g a = params_of a.facts.now (def.FunctionId g.owner)
