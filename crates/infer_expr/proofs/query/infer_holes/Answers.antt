use Rattle.std.proofs.Common.{◌≡◌, ◌∙◌, Option, None, ap, sym, subst, true≢false}
use Rattle.std.specs.Prelude.{IsSome}
use Rattle.hir_types.specs.declared.ids.BodyId.{BodyId}
use Rattle.hir_raw.specs.declared.raw.RawBody.{RawBody}
use Rattle.hir_facts.specs.Bodies.{body_id_of}
use Rattle.hir_facts.proofs.InRange.{body_in_range}
use Rattle.hir_facts.proofs.Walkable.{asked_is_carried, carried_has_body}
use Rattle.infer_goals.specs.Words.{ItemSources}
use Rattle.infer_goals.specs.declared.table.GoalTable.{GoalTable}
use Rattle.infer_table.specs.Table.{new_state}
use Rattle.infer_result.specs.OwnTypes.{AreOwnTypes, AreLetTypes}
use Rattle.infer_result.specs.Typed.{given_by}
use Rattle.infer_needs.proofs.Holding.{same_body}
use Rattle.infer_end.proofs.Definitions.{found_body, written_exist, inputs_for_params, output_carried, output_fine}
use Rattle.infer_end.specs.Ends.{IsSelectedBody}
use Rattle.infer_end.proofs.GeneralTables.{has_all_types, kept_done, keeps_goals, kept_told, ends_selected}
use Rattle.infer_end.proofs.Settling.{kept_of_body}
use Rattle.infer_expr.proofs.Start.{sources_in, goals_at_start}
use Rattle.infer_expr.proofs.query.infer_holes.Goals as goal

-- the asked body is there
pub unreachable-requires : goal.unreachable-requires
unreachable-requires c =
    let none : body_id_of c.args.facts.now c.args.def ≡ None = sym c.body_id.ensures ∙ c.in_default.is in
    let some : IsSome {T = BodyId} None = subst (λ (o : Option BodyId). IsSome o) none (carried_has_body c.args.facts.now c.args.def c.requires) in
    absurd (true≢false (sym some))

pub own_types-requires-clause-body : goal.own_types-requires-clause-body
own_types-requires-clause-body c = carried_has_body c.args.facts.now c.args.def c.requires

pub body-body-requires : goal.body-body-requires
body-body-requires c = body_in_range _ _ _ c.lawful.ensures (sym c.in-Some.ensures)

pub schedule-requires : goal.schedule-requires
schedule-requires c = body_in_range _ _ _ c.lawful.ensures (sym c.in-Some.ensures)

pub infer_body-requires-clause-written : goal.infer_body-requires-clause-written
infer_body-requires-clause-written c =
    written_exist c.args.facts.now c.args.def c.in-Some.id _ _ _ c.lawful.ensures (sym c.in-Some.ensures) c.body-body.ensures
    (subst (λ xs. AreOwnTypes c.args.facts.now c.args.def xs c.in_ok-own.own.output) (sym c.deref.ensures.value) c.in_ok-own.ensures) _
    (subst (AreLetTypes c.args.facts.now c.args.def c.body-body.result.now) (sym c.as_slice.ensures) c.in_ok-aliases.ensures)

pub infer_body-requires-clause-count : goal.infer_body-requires-clause-count
infer_body-requires-clause-count c =
    inputs_for_params c.args.facts.now c.args.def c.in-Some.id _ _ _ c.lawful.ensures (sym c.in-Some.ensures) c.body-body.ensures
    (subst (λ xs. AreOwnTypes c.args.facts.now c.args.def xs c.in_ok-own.own.output) (sym c.deref.ensures.value) c.in_ok-own.ensures)
    (asked_is_carried c.args.facts.now c.args.def c.body-body.result.now c.requires (found_body c.args.facts.now c.args.def c.in-Some.id c.body-body.result.now (sym c.in-Some.ensures) c.body-body.ensures))

pub infer_body-requires-clause-law : goal.infer_body-requires-clause-law
infer_body-requires-clause-law c =
    c.schedule.ensures.walkable _ c.body-body.ensures (asked_is_carried c.args.facts.now c.args.def c.body-body.result.now c.requires (found_body c.args.facts.now c.args.def c.in-Some.id c.body-body.result.now (sym c.in-Some.ensures) c.body-body.ensures))

pub infer_body-requires-clause-carried : goal.infer_body-requires-clause-carried
infer_body-requires-clause-carried c = output_carried c.args.facts.now c.args.def c.in-Some.id _ _ _ c.lawful.ensures (sym c.in-Some.ensures) c.body-body.ensures c.in_ok-own.ensures

pub infer_body-requires-clause-fine : goal.infer_body-requires-clause-fine
infer_body-requires-clause-fine c = output_fine c.args.facts.now c.args.def c.in-Some.id _ _ _ c.lawful.ensures (sym c.in-Some.ensures) c.body-body.ensures c.in_ok-own.ensures new_state

pub own_types-requires-clause-item : goal.own_types-requires-clause-item
own_types-requires-clause-item c = c.in_ok-context.ensures.goals.scope ∙ c.scope_item.ensures

pub let_types-requires-clause-item : goal.let_types-requires-clause-item
let_types-requires-clause-item c = c.in_ok-context.ensures.goals.scope ∙ c.scope_item.ensures

pub keep_general-requires : goal.keep_general-requires
keep_general-requires c = has_all_types _ _ c.infer_body.new.context (c.schedule.ensures.walkable _ c.body-body.ensures (asked_is_carried c.args.facts.now c.args.def c.body-body.result.now c.requires (found_body c.args.facts.now c.args.def c.in-Some.id c.body-body.result.now (sym c.in-Some.ensures) c.body-body.ensures))) c.in_ok-infer_body.ensures.done

pub infer_body-requires-clause-goals : goal.infer_body-requires-clause-goals
infer_body-requires-clause-goals c =
    let raw = c.args.facts.now in
    let d = c.args.def in
    let b = c.body-body.result.now in
    let context = c.in_ok-context.context in
    let unused = c.in_ok-context.ensures.goals in
    let is = found_body raw d c.in-Some.id b (sym c.in-Some.ensures) c.body-body.ensures in
    goals_at_start _ context c.in_ok-context.ensures.empty raw _ unused (sources_in raw c.lawful.ensures d b is context.goals.sources unused.facts (unused.scope ∙ c.scope_item.ensures))

pub settle_where_possible-requires-clause-item : goal.settle_where_possible-requires-clause-item
settle_where_possible-requires-clause-item c =
    let walked = c.infer_body.new.context in
    let mid = c.keep_general.new.context in
    let kept : mid.goals ≡ walked.goals = keeps_goals c.args.facts.now c.args.def walked mid c.in_ok-keep_general.ensures in
    ap (λ (t : GoalTable). t.sources.item) kept ∙ (ap (λ (z : ItemSources). z.item) c.in_ok-infer_body.ensures.sources ∙ (c.in_ok-context.ensures.goals.scope ∙ c.scope_item.ensures))

-- what was told while the body was walked is told still, with its types before fallback
pub settle_where_possible-requires-clause-told : goal.settle_where_possible-requires-clause-told
settle_where_possible-requires-clause-told c = kept_told _ c.args.facts.now c.args.def c.infer_body.new.context c.keep_general.new.context c.in_ok-infer_body.ensures.told c.in_ok-keep_general.ensures

pub settle_where_possible-requires-clause-done : goal.settle_where_possible-requires-clause-done
settle_where_possible-requires-clause-done c = kept_done _ c.args.facts.now c.args.def c.infer_body.new.context c.keep_general.new.context c.in_ok-infer_body.ensures.done c.in_ok-keep_general.ensures

pub settle_where_possible-requires-clause-of_body : goal.settle_where_possible-requires-clause-of_body
settle_where_possible-requires-clause-of_body c =
    let g = given_by c.args.facts.now c.args.def c.body-body.result.now c.deref.result.now c.in_ok-own.own.output c.as_slice.result.now in
    kept_of_body g c.args.facts.now c.args.def c.infer_body.new.context c.keep_general.new.context c.in_ok-infer_body.ensures.read.settles.settles.binds.follows.of_body c.in_ok-keep_general.ensures

pub returns-clause-ends : goal.returns-clause-ends
returns-clause-ends c = λ ps js gs hs. (
    let raw = c.args.facts.now in
    let d = c.args.def in
    let settled = c.in_ok-settle_where_possible.ensures in
    ends_selected raw d c.in-Some.id c.body-body.result.now _ _ _ _ (sym c.in-Some.ensures) c.body-body.ensures (c.schedule.ensures.walkable _ c.body-body.ensures (asked_is_carried c.args.facts.now c.args.def c.body-body.result.now c.requires (found_body c.args.facts.now c.args.def c.in-Some.id c.body-body.result.now (sym c.in-Some.ensures) c.body-body.ensures))) (subst (λ xs. AreOwnTypes raw d xs c.in_ok-own.own.output) (sym c.deref.ensures.value) c.in_ok-own.ensures) (subst (AreLetTypes c.args.facts.now c.args.def c.body-body.result.now) (sym c.as_slice.ensures) c.in_ok-aliases.ensures) c.infer_body.new.context c.in_ok-infer_body.ensures.done c.lawful.ensures ps js gs hs
    c.keep_general.new.context c.settle_where_possible.new.context c.in_ok-keep_general.ensures settled.only settled.plain settled.done)

pub returns-clause-selected : goal.returns-clause-selected
returns-clause-selected c b is =
    let raw = c.args.facts.now in
    let d = c.args.def in
    let mid = c.keep_general.new.context in
    let same : c.body-body.result.now ≡ b = same_body raw d c.in-Some.id c.body-body.result.now b (sym c.in-Some.ensures) c.body-body.ensures is in
    subst (λ (x : RawBody). IsSelectedBody raw d x c.settle_where_possible.new.context) same (record {
      inputs = c.deref.result.now;
      output = c.in_ok-own.own.output;
      own = subst (λ xs. AreOwnTypes raw d xs c.in_ok-own.own.output) (sym c.deref.ensures.value) c.in_ok-own.ensures;
      aliases = c.as_slice.result.now;
      lets = subst (AreLetTypes c.args.facts.now c.args.def c.body-body.result.now) (sym c.as_slice.ensures) c.in_ok-aliases.ensures;
      settled = c.infer_body.new.context;
      facts = ap (λ (z : ItemSources). z.facts) c.in_ok-infer_body.ensures.sources ∙ c.in_ok-context.ensures.goals.facts;
      item = ap (λ (z : ItemSources). z.item) c.in_ok-infer_body.ensures.sources ∙ (c.in_ok-context.ensures.goals.scope ∙ c.scope_item.ensures);
      types = has_all_types _ _ c.infer_body.new.context (c.schedule.ensures.walkable _ c.body-body.ensures (asked_is_carried c.args.facts.now c.args.def c.body-body.result.now c.requires (found_body c.args.facts.now c.args.def c.in-Some.id c.body-body.result.now (sym c.in-Some.ensures) c.body-body.ensures))) c.in_ok-infer_body.ensures.done;
      read = c.in_ok-infer_body.ensures.read;
      walked = mid;
      kept = c.in_ok-keep_general.ensures;
      done = kept_done _ raw d c.infer_body.new.context mid c.in_ok-infer_body.ensures.done c.in_ok-keep_general.ensures;
      last = c.in_ok-settle_where_possible.ensures;
    })
