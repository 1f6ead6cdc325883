use Rattle.std.proofs.Common.{refl}
use Rattle.hir_types.specs.declared.head.Hole.TheVariants as hole_of
use Rattle.hir_types.specs.declared.ty.Const.TheVariants as const
use Rattle.infer_table.specs.Words.{const_term}
use Rattle.infer_table.specs.Own.{log_of, hole_eq_same}
use Rattle.infer_table.proofs.UnifyLaws.{unified_if_put_in}
use Rattle.infer_table.proofs.Unifying.{open_from, same_bindings, unifies_put_in, unifies_flip, consts_compared}
use Rattle.infer_table.proofs.bindings.Bindings.equate_const.Goals as goal

pub bind_const-requires-clause-made : goal.bind_const-requires-clause-made
bind_const-requires-clause-made c = c.in-Var.ensures.none_bound.made (hole_of.Const c.in-Var.x) (hole_eq_same (hole_of.Const c.in-Var.x))

pub bind_const-requires-clause-is_open : goal.bind_const-requires-clause-is_open
bind_const-requires-clause-is_open c = open_from c.args.self.now.log (hole_of.Const c.in-Var.x) c.in-Var.ensures.none_bound.none_bound

pub returns-in-Var-clause-unified : goal.returns-in-Var-clause-unified
returns-in-Var-clause-unified c =
    unifies_put_in c.bind_const.result _ _ (const_term c.args.left) (const_term (const.Var c.in-Var.x)) (const_term c.args.right) (const_term c.known_const-known_right.result)
    c.in-Var.ensures.same c.known_const-known_right.ensures.same c.bind_const.ensures.unified

pub bind_const-requires-in-Var-known_right : goal.bind_const-requires-in-Var-known_right
bind_const-requires-in-Var-known_right c =
    let k = hole_of.Const c.in-Var-known_right.y in
    record {
      made = c.in-Var-known_right.ensures.none_bound.made k (hole_eq_same k);
      is_open = open_from c.args.self.now.log k c.in-Var-known_right.ensures.none_bound.none_bound;
      none_bound = c.known_const-known_left.ensures.none_bound;
    }

pub returns-in-Var-known_right : goal.returns-in-Var-known_right
returns-in-Var-known_right c = record {
  unified =
      unifies_put_in c.bind_const-in-Var-known_right.result _ _ (const_term c.args.left) (const_term c.known_const-known_left.result) (const_term c.args.right) (const_term (const.Var c.in-Var-known_right.y))
      c.known_const-known_left.ensures.same c.in-Var-known_right.ensures.same
      (unifies_flip c.bind_const-in-Var-known_right.result _ _ (const_term (const.Var c.in-Var-known_right.y)) (const_term c.known_const-known_left.result) c.bind_const-in-Var-known_right.ensures.unified);
  binds = c.bind_const-in-Var-known_right.ensures.binds;
}

pub returns : goal.returns
returns c =
    let l = log_of c.args.self.now.log in
    let left = c.known_const-known_left.result in
    let right = c.known_const-known_right.result in
    record {
      unified =
          unified_if_put_in c.is_same_const.result l l (const_term c.args.left) (const_term left) (const_term c.args.right) (const_term right)
          c.known_const-known_left.ensures.same c.known_const-known_right.ensures.same
          (consts_compared c.is_same_const.result l left right c.in_default.not-Var c.in_default-known_right.not-Var c.is_same_const.ensures);
      binds = same_bindings c.args.self.now c.args.self.now refl;
    }
