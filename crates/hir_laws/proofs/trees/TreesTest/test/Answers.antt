use Rattle.hir_laws.proofs.trees.TreesTest.test.Goals as goal

pub is_well_formed-requires : goal.is_well_formed-requires
is_well_formed-requires c = (c.requires.given c.args._at c.args.item.now c.requires.listed).parts
