use Rattle.std.proofs.Common.{◌∙◌, Ok, Err, ap, subst, sym, refl}
use Rattle.infer_table.specs.Own.{IsResolvedOr}
use Rattle.infer_table.proofs.UndoLaws.{fresh}
use Rattle.infer_table.proofs.table.InferenceTable.fudge.Goals as goal

pub returns-in-Ok : goal.returns-in-Ok
returns-in-Ok g c =
    let back = c.rollback_to.ensures.undone c.args.self.now c.mark-mark.ensures.taken (c.requires.grows c.run.result c.run.new.self c.run.ensures) in
    record {
      during = c.run.new.self;
      given = c.run.result;
      returned = c.run.ensures;
      resolved = subst (λ r. IsResolvedOr g.T.Folded.replaced c.run.new.self r (Ok (Ok c.in-Ok.resolved))) (sym (c.in-Ok-Ok.is ∙ ap Ok c.in-Ok-Ok.field-0-is)) c.in-Ok.ensures;
      undone = record { back = back; kinds = c.rollback_to.ensures.kinds };
      fresh = fresh c.args.self.now c.rollback_to.new.self c.mark-mark.ensures.made back.log;
    }

pub returns-in-Ok-Ok : goal.returns-in-Ok-Ok
returns-in-Ok-Ok g c =
    let back = c.rollback_to.ensures.undone c.args.self.now c.mark-mark.ensures.taken (c.requires.grows c.run.result c.run.new.self c.run.ensures) in
    record {
      during = c.run.new.self;
      given = c.run.result;
      returned = c.run.ensures;
      resolved = subst (λ r. IsResolvedOr g.T.Folded.replaced c.run.new.self r (Err c.in-Err-resolved.error)) (sym (c.in-Ok-Ok.is ∙ ap Ok c.in-Ok-Ok.field-0-is)) tt;
      undone = record { back = back; kinds = c.rollback_to.ensures.kinds };
      fresh = fresh c.args.self.now c.rollback_to.new.self c.mark-mark.ensures.made back.log;
    }

pub returns-in-Ok-Err : goal.returns-in-Ok-Err
returns-in-Ok-Err g c =
    let back = c.rollback_to-in-Ok-Err.ensures.undone c.args.self.now c.mark-mark.ensures.taken (c.requires.grows c.run.result c.run.new.self c.run.ensures) in
    record {
      during = c.run.new.self;
      given = c.run.result;
      returned = c.run.ensures;
      resolved = subst (λ r. IsResolvedOr g.T.Folded.replaced c.run.new.self r (Ok (Err c.in-Ok-Err.refusal))) (sym (c.in-Ok-Err.is ∙ ap Ok c.in-Ok-Err.field-0-is)) refl;
      undone = record { back = back; kinds = c.rollback_to-in-Ok-Err.ensures.kinds };
      fresh = fresh c.args.self.now c.rollback_to-in-Ok-Err.new.self c.mark-mark.ensures.made back.log;
    }

pub returns : goal.returns
returns g c =
    let back = c.rollback_to-in-Err.ensures.undone c.args.self.now c.mark-mark.ensures.taken (c.requires.grows c.run.result c.run.new.self c.run.ensures) in
    record {
      during = c.run.new.self;
      given = c.run.result;
      returned = c.run.ensures;
      resolved = subst (λ r. IsResolvedOr g.T.Folded.replaced c.run.new.self r (Err c.in-Err.error)) (sym c.in-Err.is) refl;
      undone = record { back = back; kinds = c.rollback_to-in-Err.ensures.kinds };
      fresh = fresh c.args.self.now c.rollback_to-in-Err.new.self c.mark-mark.ensures.made back.log;
    }
