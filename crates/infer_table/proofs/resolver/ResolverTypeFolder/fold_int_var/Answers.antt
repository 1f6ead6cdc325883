use Rattle.std.proofs.Common.{refl, sym}
use Rattle.infer_table.specs.Own.{open_int_var}
use Rattle.infer_table.proofs.resolver.ResolverTypeFolder.fold_int_var.Goals as goal

pub returns : goal.returns
returns c = sym (open_int_var c.args.self.now.bindings.now.log c.args.hole (c.requires.int_var c.args.hole refl))
