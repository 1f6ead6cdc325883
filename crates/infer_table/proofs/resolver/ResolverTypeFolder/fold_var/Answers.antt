use Rattle.std.proofs.Common.{refl, sym}
use Rattle.infer_table.specs.Own.{open_var}
use Rattle.infer_table.proofs.resolver.ResolverTypeFolder.fold_var.Goals as goal

pub returns : goal.returns
returns c = sym (open_var c.args.self.now.bindings.now.log c.args.hole (c.requires.var c.args.hole refl))
