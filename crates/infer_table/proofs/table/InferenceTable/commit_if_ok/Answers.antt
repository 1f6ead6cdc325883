use Rattle.std.proofs.Common.{◌∙◌, Ok, ap, subst}
use Rattle.std.specs.Fn.{FnOnceReturnsAtMut}
use Rattle.infer_table.proofs.table.InferenceTable.commit_if_ok.Goals as goal

pub rollback_to-requires : goal.rollback_to-requires
rollback_to-requires g c = (c.args.self.now, c.mark-mark.ensures.taken, c.requires.grows c.run.result c.run.new.self c.run.ensures)

pub rollback_to-requires-in-Err : goal.rollback_to-requires-in-Err
rollback_to-requires-in-Err g c = (c.args.self.now, c.mark-mark.ensures.taken, c.requires.grows c.run.result c.run.new.self c.run.ensures)

pub returns-in-Ok-Err : goal.returns-in-Ok-Err
returns-in-Ok-Err g c = (
  c.run.new.self,
  subst (λ r. FnOnceReturnsAtMut g.F.FnOnce c.args.f c.args.self.now r c.run.new.self) (c.in-Ok-Err.is ∙ ap Ok c.in-Ok-Err.field-0-is) c.run.ensures,
  record {
    back = c.rollback_to.ensures.undone c.args.self.now c.mark-mark.ensures.taken (c.requires.grows c.run.result c.run.new.self c.run.ensures);
    kinds = c.rollback_to.ensures.kinds;
  },
)

pub returns-in-Err : goal.returns-in-Err
returns-in-Err g c = (
  c.run.new.self,
  subst (λ r. FnOnceReturnsAtMut g.F.FnOnce c.args.f c.args.self.now r c.run.new.self) c.in-Err.is c.run.ensures,
  record {
    back = c.rollback_to-in-Err.ensures.undone c.args.self.now c.mark-mark.ensures.taken (c.requires.grows c.run.result c.run.new.self c.run.ensures);
    kinds = c.rollback_to-in-Err.ensures.kinds;
  },
)
