use Rattle.std.proofs.Common.{sym, subst, ◌+◌, take}
use Rattle.std.proofs.lemmas.List.{get_or_default}
use Rattle.infer_obligations.specs.Words.{scope_of, system, EachIsKnownAs}
use Rattle.infer_obligations.proofs.Known.{each_more}
use Rattle.infer_obligations.proofs.own.known_tys.Goals as goal

pub loop-type_ref-preserved : goal.loop-type_ref-preserved
loop-type_ref-preserved c =
    let sc = scope_of c.args.facts.now c.args.def in
    let f = system c.args.goals.now.sources.sources in
    let n = c.args.goals.now.sources.facts.limits.goal_depth in
    let types = c.args.facts.now.types in
    let ws = c.args.written.now in
    let i = c.loop-type_ref.type_ref-index in
    subst (EachIsKnownAs sc f n types (take (i + 1) ws)) (sym c.in_ok-push.ensures.items)
    (each_more sc f n types ws i _ c.in_ok-ty.ty c.loop-type_ref.known.items c.in_ok-known_ty.field-0 c.loop-type_ref-test.true (get_or_default _ _ _ _ c.loop-type_ref-test.true) c.in_ok-ty.ensures c.loop-type_ref.invariant c.in_ok-known_ty.ensures.known)
