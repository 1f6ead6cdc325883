use Rattle.std.proofs.Common.{get_or, refl, ap, ◌∙◌, sym}
use Rattle.std.specs.Prelude.{slice_index}
use Rattle.hir_walk.proofs.Around.{entered}
use Rattle.hir_walk.proofs.enclosing.Enclosing.enter.Goals as goal

pub returns : goal.returns
returns c n is at around =
    rw c.in_ok-push.ensures.items (entered c.args._body.now c.args.schedule.now c.requires.schedule _ n _ _
    (record {
      is_node = is;
      at = at;
      from = ap (λ i. slice_index c.args.schedule.now.starts i) at ∙ sym (ap (λ xs. get_or xs c.args.node 0) c.as_slice.ensures);
      to = ap (λ i. slice_index c.args.schedule.now.ends i) at ∙ sym (ap (λ xs. get_or xs c.args.node 0) c.as_slice-2.ensures);
    }) refl around)
