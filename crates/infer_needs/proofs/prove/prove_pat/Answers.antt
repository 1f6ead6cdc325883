use Rattle.std.proofs.Common.{◌≡◌, List, ap, subst, sym, map}
use Rattle.hir_types.specs.declared.ids.ExprOrPatId.TheVariants as node
use Rattle.infer_needs.specs.Words.{system, Asked, asked_goal, pat_needs_at, scope_of}
use Rattle.infer_needs.specs.Own.{AreProvable, ListsAnswers, AddsRootsOf}
use Rattle.infer_needs.proofs.Provable.{pat_needed_here}
use Rattle.infer_needs.proofs.Judging.{judged_at}
use Rattle.infer_needs.proofs.Rooted.{roots_none}
use Rattle.infer_needs.proofs.prove.prove_pat.Goals as goal

pub prove_each-requires : goal.prove_each-requires
prove_each-requires c =
    let all = pat_needed_here c.args.sources.now.facts c.facts.result.now c.args.table.now c.args.at c.in_ok-pat.pat.0 c.in-Some.item.now (map asked_goal c.in_ok-needed-in-Some.needed.items)
    c.in_ok-needed-in-Some.ensures c.facts.ensures c.in-Some.ensures c.in_ok-pat.ensures in
    subst AreProvable (sym all) c.requires

pub returns-in_ok-gaps-in-Some : goal.returns-in_ok-gaps-in-Some
returns-in_ok-gaps-in-Some c =
    let raw = c.args.sources.now.facts in
    let f = system c.args.sources.now.sources in
    let r = c.args.table.now in
    let gs : List Asked = map asked_goal c.in_ok-needed-in-Some.needed.items in
    let new = c.prove_each.new in
    let all = pat_needed_here raw c.facts.result.now r c.args.at c.in_ok-pat.pat.0 c.in-Some.item.now gs c.in_ok-needed-in-Some.ensures c.facts.ensures c.in-Some.ensures c.in_ok-pat.ensures in
    let here : node.PatId c.in_ok-pat.pat ≡ node.PatId (record { 0 = c.args.at }) = ap (λ n. node.PatId (record { 0 = n })) c.in_ok-pat.ensures in
    record {
      judged = judged_at raw (scope_of c.args.sources.now.facts c.args.def) f (node.PatId c.in_ok-pat.pat) (node.PatId (record { 0 = c.args.at })) gs (pat_needs_at raw r c.args.at) c.args.proofs.now.items new.proofs.items c.args.found.now new.found c.in_ok-gaps-in-Some.gaps here all c.in_ok-gaps-in-Some.ensures.judged;
      told = subst (λ xs. ListsAnswers f raw.limits.goal_depth xs c.args.told.now.items new.told.items) all c.in_ok-gaps-in-Some.ensures.told;
      roots = subst (λ xs. AddsRootsOf c.args.sources.now.facts c.args.sources.now.item (system c.args.sources.now.sources) xs c.args.proofs.now.items new.proofs.items) all c.in_ok-gaps-in-Some.ensures.roots;
    }

pub returns-in-None-clause-roots : goal.returns-in-None-clause-roots
returns-in-None-clause-roots c = roots_none _ c.args.proofs.now.items
