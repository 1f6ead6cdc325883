use Rattle.std.proofs.Common.{sym}
use Rattle.infer_table.proofs.CompletionLaws.{completed_int_var}
use Rattle.infer_table.proofs.complete.CompleterTypeFolder.fold_int_var.Goals as goal

pub returns : goal.returns
returns c = sym (completed_int_var c.args.self.now.bindings.now.log c.args._hole c.requires)
