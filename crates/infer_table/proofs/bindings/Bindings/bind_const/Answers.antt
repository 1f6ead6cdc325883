use Rattle.std.proofs.Common.{refl}
use Rattle.hir_types.specs.declared.head.Hole.TheVariants as hole_of
use Rattle.infer_table.specs.Words.{const_term}
use Rattle.infer_table.specs.declared.binding.Binding.TheVariants as binding
use Rattle.infer_table.proofs.Unifying.{unified_binding}
use Rattle.infer_table.proofs.bindings.Bindings.bind_const.Goals as goal

pub returns-in_ok-bind-clause-unified : goal.returns-in_ok-bind-clause-unified
returns-in_ok-bind-clause-unified c =
    unified_binding c.args.self.now c.bind.new.self (binding.Const c.args.hole c.args.value) (hole_of.Const c.args.hole) (const_term c.args.value)
    refl refl c.requires.none_bound c.in_ok-bind.ensures.bound
