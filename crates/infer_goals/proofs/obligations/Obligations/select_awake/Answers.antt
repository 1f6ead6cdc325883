use Rattle.std.proofs.Common.{true, Bool, refl, subst}
use Rattle.infer_goals.specs.Words.{system}
use Rattle.infer_goals.specs.Own.{EndsRound}
use Rattle.infer_goals.proofs.Steps.{went_none, went_then}
use Rattle.infer_goals.proofs.Rounds.{kept_same}
use Rattle.infer_goals.proofs.obligations.Obligations.select_awake.Goals as goal

pub round-init : goal.round-init
round-init c =
    let raw = c.args.sources.now.facts in
    let f = system c.args.sources.now.sources in
    let s = c.args.table.now in
    let o = c.args.self.now in
    let woken = c.wake.new.self in
    record {
      kept = kept_same raw f s o woken c.wake.ensures.tree c.wake.ensures.selected c.requires.kept;
      went = went_none raw f true s o s woken (record { table = refl; tree = c.wake.ensures.tree; selected = c.wake.ensures.selected });
      since = c.in_ok-wake.ensures.all f c.requires.all;
    }

pub returns-then-not-branch-clause-went : goal.returns-then-not-branch-clause-went
returns-then-not-branch-clause-went c =
    let at = c.round in
    went_then c.args.sources.now.facts (system c.args.sources.now.sources) true c.args.table.now c.args.self.now at.table at.self c.select_round.new.table c.select_round.new.self at.invariant.went c.in_ok-select_round.ensures.went

pub round-preserved : goal.round-preserved
round-preserved c =
    let raw = c.args.sources.now.facts in
    let f = system c.args.sources.now.sources in
    let at = c.round in
    let ends = subst (λ (b : Bool). EndsRound raw f at.self c.select_round.new.table c.select_round.new.self b) c.if-not-branch.false c.in_ok-select_round.ensures.ends in
    record {
      kept = c.in_ok-select_round.ensures.kept;
      went = went_then raw f true c.args.table.now c.args.self.now at.table at.self c.select_round.new.table c.select_round.new.self at.invariant.went c.in_ok-select_round.ensures.went;
      since = ends.1;
    }
