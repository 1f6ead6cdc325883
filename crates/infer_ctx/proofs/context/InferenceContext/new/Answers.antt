use Rattle.std.proofs.Common.{sym, subst}
use Rattle.infer_ctx.specs.Words.{RawFacts, system, AreKept}
use Rattle.infer_ctx.proofs.context.InferenceContext.new.Goals as goal

pub returns-clause-goals : goal.returns-clause-goals
returns-clause-goals c =
    let made = c.in_ok-goals.goals in
    let so = c.in_ok-goals.ensures in
    record {
      facts = so.facts;
      scope = so.env;
      bounded = so.bounded;
      kept = subst (λ (raw : RawFacts). AreKept raw (system made.sources.sources) made.table made.obligations) (sym so.facts) so.kept;
      all = so.all;
      obligations = so.obligations;
      proofs = so.proofs;
      selected = so.selected;
    }
