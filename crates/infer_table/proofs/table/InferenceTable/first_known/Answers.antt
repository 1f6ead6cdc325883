use Rattle.std.proofs.Common.{◌≡◌, ◌⊎◌, inl, inr, sym, ap, subst, ◌∙◌, length, Some, None, option_copied, arith, true≢false}
use Rattle.infer_table.specs.Own.{State, IsNoOpenHole, left_at, AllTakenBelow}
use Rattle.infer_table.proofs.FrontLaws.{all_unknown_front}
use Rattle.infer_table.proofs.TableLaws.{all_unknown_none, all_unknown_more, unknown_from_not}
use Rattle.infer_table.proofs.table.InferenceTable.first_known.Goals.{then-is_known-via-then-is_known, then-is_known-via-else-is_known+then-is_known-2, in-Some+else-is_known+else-is_known-2, in_default}
use Rattle.infer_table.proofs.table.InferenceTable.first_known.Goals as goal

pub returns-then-is_known : goal.returns-then-is_known
returns-then-is_known c =
    let s = c.args.self.now in
    let p = c.in-Some.pair.now in
    let known : IsNoOpenHole s p.source ⊎ IsNoOpenHole s p.target = elim c.then-is_known.branch [
      | then-is_known-via-then-is_known w ↦ inl (c.is_known.ensures.0 w.if-is_known.true)
      | then-is_known-via-else-is_known+then-is_known-2 w ↦ inr (w.is_known-else-is_known.ensures.0 w.if-is_known-2.true)
    ] in
    let Left : State → Type 0 = λ t. left_at t.pairs c.loop-at.at ≡ Some p in
    record { pair = p; left = subst Left c.self.view_is (sym c.in-Some.ensures); known = known; none_before = c.loop-at.invariant }

pub loop-at-init : goal.loop-at-init
loop-at-init c =
    let P : State → Type 0 = λ t. AllTakenBelow t.pairs.taken c.front-at.result in
    all_unknown_front c.args.self.now c.front-at.result (subst P c.self.view_is c.front-at.ensures)

pub loop-at-preserved : goal.loop-at-preserved
loop-at-preserved c =
    let s = c.args.self.now in
    let i = c.loop-at.at in
    elim c.match-left.branch [
      | in-Some+else-is_known+else-is_known-2 w ↦
          let Left : State → Type 0 = λ t. left_at t.pairs i ≡ Some w.in-Some.pair.now in
          all_unknown_more s i w.in-Some.pair.now (subst Left c.self.view_is (sym w.in-Some.ensures)) (record {
            source = unknown_from_not s w.in-Some.pair.now.source (λ k. true≢false (sym (w.is_known.ensures.1 k) ∙ w.if-is_known.false));
            target = unknown_from_not s w.in-Some.pair.now.target (λ k. true≢false (sym (w.is_known-else-is_known.ensures.1 k) ∙ w.if-is_known-2.false));
          }) c.loop-at.invariant
      | in_default w ↦
          let Left : State → Type 0 = λ t. left_at t.pairs i ≡ None in
          let Count : State → Type 0 = λ t. c.made_count-at-end.result ≡ length t.pairs.made in
          let count = subst Count c.self.view_is c.made_count-at-end.ensures.count in
          all_unknown_none s i (omega (arith, count)) (subst Left c.self.view_is (sym c.left.ensures ∙ ap option_copied w.in_default.is)) c.loop-at.invariant
    ]
