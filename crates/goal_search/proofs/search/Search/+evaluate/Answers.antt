use Rattle.std.proofs.Common.{◌≡◌, inr, ℕ, suc, ◌-◌, true, true≢false, refl, sym, ap, ◌∙◌, subst, arith, Some, None}
use Rattle.std.specs.Option.{option_map}
use Rattle.std.proofs.lemmas.Result.{IfOk-weaker}
use Rattle.goal_search.specs.Words.{Term, hole, asked_at, self_type, only, is_among, IsKnown, tail_of, SizedYes, SizedNo, HasSource, HasNoSource, YesAt, NoAt, answers, known_below, ReadingIs, AliasIs, term_of, log_of, fill_of}
use Rattle.goal_search.proofs.Words.{each_at, some_at, each_in_map, each_of_map, some_of_map, some_in_map, level}
use Rattle.goal_search.specs.Own.{kind_of, asked_of, rule_of, system, holes_fill, tail_as, CopiesAre, Answer, PredIsDone, RuleHasHeads, Decides, side_part, Holds, HoldsNot, Sources, IsAnswerAt, IsKeptRight, AreKept, IsSaid, IsDenied, WalkIs}
use Rattle.goal_search.specs.declared.answer.Answer.TheVariants as answer
use Rattle.goal_search.proofs.SoFar.{each_append, all_yes, all_open, all_end, any_no, any_open, any_end, decides_same}
use Rattle.goal_search.proofs.Heads.{type_heads, may_done, reading_done, heads_in}
use Rattle.goal_search.proofs.Refuting.{not_refuted_now, side_heads, common_done, fills_done, preds_done, none_holds, open_holds_not, other_holds_not, preds_hold_not, holds_here, no_refutes, same_refutes_if, open_refutes_not}
use Rattle.goal_search.proofs.Copying.{copies_done}
use Rattle.goal_search.proofs.Deciding.{source_decides, sized_decides, never_itself_decides, maybe_itself_decides, open_decides_not, goal_decides}
use Rattle.goal_search.proofs.Given.{given_fills, given_open, given_twice, given_neither, given_first, given_refuted, given_other, given_is, nothing_is, open_clauses, open_rules, pair_heads, pair_fills, alias_reading}
use Rattle.goal_search.proofs.Walking.{asked_known, last_done, field_args_done, field_heads, last_is_done, field_at_heads, stay_done, asked_decides, last_decides, field_decides, field_open}
use Rattle.goal_search.proofs.search.Search.+evaluate.Goals as goal
use Rattle.goal_search.proofs.search.Search.+evaluate.Goals.{ask_preds-in-Yes, ask_preds-in-Undecided, ask_rules-then-not-branch, ask_rules-else-not-branch, source-in-Known, source-in-Of+in_ok-by_parts-in-Of, evaluate-else-depth-eq0-via-then-depth-eq0+else-not-is_among, evaluate-else-depth-eq0-via-else-depth-eq0, ask_given-in-Some-found-2, ask_given-in-None-found, ask_given-in-Some+in_ok-ty-in-Some+in-Some-2+in_default-found, ask_given-in-None+in_ok-is_refuted-in-None+else-not-branch}

-- ---- fits

pub fits-returns-in_default-clause-answer : goal.fits-returns-in_default-clause-answer
fits-returns-in_default-clause-answer t c =
    none_holds (system c.args.self.now) (heads_in c.self.view_is c.self.invariant.1) c.args.depth c.args.steps (rule_of c.args.rule.now) c.requires.rule c.args.side (term_of c.args.target.now)
    (rw (c.in_default.is, c.part-part.ensures) at c.in_ok-fills.ensures)

pub fits-read-requires : goal.fits-read-requires
fits-read-requires t c =
    let m = rw (c.in-Some.is, c.part-part.ensures) at c.in_ok-fills.ensures in
    let q = fill_of (log_of c.in-Some.fills.items) in
    let s = side_part c.args.side (rule_of c.args.rule.now) in (
      omega (arith, c.decreases, c.requires.level.0),
      (
        rw c.part-part.ensures (side_heads c.args.side (rule_of c.args.rule.now) c.requires.rule),
        rw (c.part-part.ensures, c.as_slice.ensures.value)
            (fills_done (system c.args.self.now) (heads_in c.self.view_is c.self.invariant.1) c.args.depth c.args.steps (rule_of c.args.rule.now) c.requires.rule c.args.side (term_of c.args.target.now) q
            (may_done q s (term_of c.args.target.now) m c.requires.target) (c.is_told.ensures.0 c.if-not-is_told.false)),
      ),
    )

pub fits-returns-in_default-2-clause-answer : goal.fits-returns-in_default-2-clause-answer
fits-returns-in_default-2-clause-answer t c =
    open_holds_not (system c.args.self.now) (heads_in c.self.view_is c.self.invariant.1) c.args.depth c.args.steps (rule_of c.args.rule.now) c.requires.rule c.args.side (term_of c.args.target.now) (fill_of (log_of c.in-Some.fills.items))
    (rw (c.in-Some.is, c.part-part.ensures) at c.in_ok-fills.ensures) (rw (c.in_default-2.is, c.part-part.ensures, c.as_slice.ensures.value) at c.in_ok-reading.ensures.answer)

pub fits-returns-then-not-is_same-clause-answer : goal.fits-returns-then-not-is_same-clause-answer
fits-returns-then-not-is_same-clause-answer t c =
    other_holds_not (system c.args.self.now) (heads_in c.self.view_is c.self.invariant.1) c.args.depth c.args.steps (rule_of c.args.rule.now) c.requires.rule c.args.side (term_of c.args.target.now) (fill_of (log_of c.in-Some.fills.items))
    (rw (c.in-Some.is, c.part-part.ensures) at c.in_ok-fills.ensures) (term_of c.in-Some-2.reading) (rw (c.in-Some-2.is, c.part-part.ensures, c.as_slice.ensures.value) at c.in_ok-reading.ensures.answer)
    (λ e. true≢false (sym (c.is_same.ensures.1 e) ∙ c.if-not-is_same.true))

pub fits-ask_preds-requires : goal.fits-ask_preds-requires
fits-ask_preds-requires t c =
    let m = rw (c.in-Some.is, c.part-part.ensures) at c.in_ok-fills.ensures in
    let q = fill_of (log_of c.in-Some.fills.items) in
    let s = side_part c.args.side (rule_of c.args.rule.now) in (
      omega (arith, c.decreases, c.requires.level.1),
      rw (c.preds.ensures, c.as_slice.ensures.value)
          (preds_done (system c.args.self.now) (heads_in c.self.view_is c.self.invariant.1) c.args.depth c.args.steps (rule_of c.args.rule.now) c.requires.rule c.args.side (term_of c.args.target.now) q
          (may_done q s (term_of c.args.target.now) m c.requires.target) (c.is_told.ensures.0 c.if-not-is_told.false)),
    )

pub fits-returns-then-not-is_yes-clause-answer : goal.fits-returns-then-not-is_yes-clause-answer
fits-returns-then-not-is_yes-clause-answer t c =
    preds_hold_not (system c.args.self.now) (heads_in c.self.view_is c.self.invariant.1) c.args.depth c.args.steps (rule_of c.args.rule.now) c.requires.rule c.args.side (term_of c.args.target.now) (fill_of (log_of c.in-Some.fills.items))
    (rw (c.in-Some.is, c.part-part.ensures) at c.in_ok-fills.ensures) c.in_ok-ask_preds.field-0 (rw (c.preds.ensures, c.as_slice.ensures.value, c.read.ensures.same) at c.in_ok-ask_preds.ensures.answer)
    (λ e. true≢false (sym (c.is_yes.ensures.1 e) ∙ c.if-not-is_yes.true))

pub fits-returns-clause-answer : goal.fits-returns-clause-answer
fits-returns-clause-answer t c =
    holds_here (system c.args.self.now) (heads_in c.self.view_is c.self.invariant.1) c.args.depth c.args.steps (rule_of c.args.rule.now) c.requires.rule c.args.side (term_of c.args.target.now) (fill_of (log_of c.in-Some.fills.items))
    (c.is_told.ensures.0 c.if-not-is_told.false) (term_of c.in-Some-2.reading) (rw (c.in-Some-2.is, c.part-part.ensures, c.as_slice.ensures.value) at c.in_ok-reading.ensures.answer)
    (c.is_same.ensures.0 c.if-not-is_same.false) c.in_ok-ask_preds.field-0 (rw (c.preds.ensures, c.as_slice.ensures.value, c.read.ensures.same) at c.in_ok-ask_preds.ensures.answer) (c.is_yes.ensures.0 c.if-not-is_yes.false)

-- ---- is_refuted

pub is_refuted-ask_preds-requires : goal.is_refuted-ask_preds-requires
is_refuted-ask_preds-requires t c =
    let m = rw (c.in-Some.is, c.part-part.ensures) at c.in_ok-fills.ensures in
    let q = fill_of (log_of c.in-Some.fills.items) in
    let s = side_part c.args.side (rule_of c.args.rule.now) in (
      omega (arith, c.decreases, c.requires.level.1),
      rw (c.preds.ensures, c.as_slice.ensures.value)
          (preds_done (system c.args.self.now) (heads_in c.self.view_is c.self.invariant.1) c.args.depth c.args.steps (rule_of c.args.rule.now) c.requires.rule c.args.side (term_of c.args.target.now) q
          (common_done s (term_of c.args.target.now) q m) (c.is_told.ensures.0 c.if-not-is_told.false)),
    )

pub is_refuted-returns-then-is_no-clause-answer : goal.is_refuted-returns-then-is_no-clause-answer
is_refuted-returns-then-is_no-clause-answer t c = (
  λ e. no_refutes (system c.args.self.now) (heads_in c.self.view_is c.self.invariant.1) c.args.depth c.args.steps (rule_of c.args.rule.now) c.requires.rule c.args.side (term_of c.args.target.now) (fill_of (log_of c.in-Some.fills.items))
      (rw (c.in-Some.is, c.part-part.ensures) at c.in_ok-fills.ensures) (c.is_told.ensures.0 c.if-not-is_told.false) c.in_ok-ask_preds.field-0
      (rw (c.preds.ensures, c.as_slice.ensures.value) at c.in_ok-ask_preds.ensures.answer) (c.is_no.ensures.0 c.if-is_no.true),
  λ r. refl,
)

pub is_refuted-read-requires : goal.is_refuted-read-requires
is_refuted-read-requires t c =
    let m = rw (c.in-Some.is, c.part-part.ensures) at c.in_ok-fills.ensures in
    let q = fill_of (log_of c.in-Some.fills.items) in
    let s = side_part c.args.side (rule_of c.args.rule.now) in (
      omega (arith, c.decreases, c.requires.level.0),
      (
        rw c.part-part.ensures (side_heads c.args.side (rule_of c.args.rule.now) c.requires.rule),
        rw (c.part-part.ensures, c.as_slice.ensures.value)
            (fills_done (system c.args.self.now) (heads_in c.self.view_is c.self.invariant.1) c.args.depth c.args.steps (rule_of c.args.rule.now) c.requires.rule c.args.side (term_of c.args.target.now) q
            (common_done s (term_of c.args.target.now) q m) (c.is_told.ensures.0 c.if-not-is_told.false)),
      ),
    )

pub is_refuted-can_be_same-requires-clause-left : goal.is_refuted-can_be_same-requires-clause-left
is_refuted-can_be_same-requires-clause-left t c =
    let m = rw (c.in-Some.is, c.part-part.ensures) at c.in_ok-fills.ensures in
    let q = fill_of (log_of c.in-Some.fills.items) in
    let r = rule_of c.args.rule.now in
    let s = side_part c.args.side r in
    let f = system c.args.self.now in
    (reading_done f (heads_in c.self.view_is c.self.invariant.1) c.args.depth q s (term_of c.in-Some-2.reading) (side_heads c.args.side r c.requires.rule)
    (fills_done f (heads_in c.self.view_is c.self.invariant.1) c.args.depth c.args.steps r c.requires.rule c.args.side (term_of c.args.target.now) q (common_done s (term_of c.args.target.now) q m) (c.is_told.ensures.0 c.if-not-is_told.false))
    (rw (c.in-Some-2.is, c.part-part.ensures, c.as_slice.ensures.value, c.ask_preds.ensures.same) at c.in_ok-reading.ensures.answer)).heads

pub is_refuted-returns-in-Some-2-clause-answer : goal.is_refuted-returns-in-Some-2-clause-answer
is_refuted-returns-in-Some-2-clause-answer t c =
    same_refutes_if (system c.args.self.now) (heads_in c.self.view_is c.self.invariant.1) c.args.depth c.args.steps (rule_of c.args.rule.now) c.requires.rule c.args.side (term_of c.args.target.now) (fill_of (log_of c.in-Some.fills.items))
    (rw (c.in-Some.is, c.part-part.ensures) at c.in_ok-fills.ensures) (c.is_told.ensures.0 c.if-not-is_told.false) c.in_ok-ask_preds.field-0
    (rw (c.preds.ensures, c.as_slice.ensures.value) at c.in_ok-ask_preds.ensures.answer) (λ e. true≢false (sym (c.is_no.ensures.1 e) ∙ c.if-is_no.false))
    (term_of c.in-Some-2.reading) (rw (c.in-Some-2.is, c.part-part.ensures, c.as_slice.ensures.value, c.ask_preds.ensures.same) at c.in_ok-reading.ensures.answer) c.in_ok-can_be_same-in-Some-2.field-0 c.in_ok-can_be_same-in-Some-2.ensures

pub is_refuted-returns-clause-answer : goal.is_refuted-returns-clause-answer
is_refuted-returns-clause-answer t c = (
  λ e. absurd (true≢false (sym e)),
  λ r. absurd (open_refutes_not (system c.args.self.now) (heads_in c.self.view_is c.self.invariant.1) c.args.depth c.args.steps (rule_of c.args.rule.now) c.requires.rule c.args.side (term_of c.args.target.now) (fill_of (log_of c.in-Some.fills.items))
      (rw (c.in-Some.is, c.part-part.ensures) at c.in_ok-fills.ensures) (c.is_told.ensures.0 c.if-not-is_told.false) c.in_ok-ask_preds.field-0
      (rw (c.preds.ensures, c.as_slice.ensures.value) at c.in_ok-ask_preds.ensures.answer) (λ e. true≢false (sym (c.is_no.ensures.1 e) ∙ c.if-is_no.false))
      (rw (c.in-None.is, c.part-part.ensures, c.as_slice.ensures.value, c.ask_preds.ensures.same) at c.in_ok-reading.ensures.answer) r),
)

-- ---- loops

pub ask_preds-evaluate-requires : goal.ask_preds-evaluate-requires
ask_preds-evaluate-requires t c = (
  omega (arith, c.decreases),
  each_at (λ q. PredIsDone (holes_fill c.args.holes) (asked_of q)) c.args.preds.now c.loop-pred.pred-index c.pred-item.result (omega arith) c.pred-item.is (each_in_map asked_of (PredIsDone (holes_fill c.args.holes)) c.args.preds.now c.requires.preds),
)

pub ask_preds-returns-in-No-clause-answer : goal.ask_preds-returns-in-No-clause-answer
ask_preds-returns-in-No-clause-answer t c =
    let D = λ (s : Sources). Decides ((known_below (system s) c.args.steps).Yes (asked_at (holes_fill c.args.holes) (asked_of c.pred-item.result))) ((known_below (system s) c.args.steps).No (asked_at (holes_fill c.args.holes) (asked_of c.pred-item.result))) c.in_ok-evaluate.field-0 in
    let found = subst D c.loop-pred.invariant.same c.in_ok-evaluate.ensures.answer in
    let v = known_below (system c.args.self.now) c.args.steps in let p = holes_fill c.args.holes in
    some_of_map asked_of (λ q. v.No (asked_at p q)) c.args.preds.now
    (some_at (λ q. v.No (asked_at p (asked_of q))) c.args.preds.now c.loop-pred.pred-index c.pred-item.result (omega arith) c.pred-item.is (rw c.in-No.is at found))

pub ask_preds-returns-clause-answer : goal.ask_preds-returns-clause-answer
ask_preds-returns-clause-answer t c =
    let v = known_below (system c.args.self.now) c.args.steps in let p = holes_fill c.args.holes in let xs = c.args.preds.now in
    let Y = λ (q : _). v.Yes (asked_at p (asked_of q)) in
    let N = λ (q : _). v.No (asked_at p (asked_of q)) in
    decides_same c.loop-pred.left
    (each_of_map asked_of (λ q. v.Yes (asked_at p q)) xs) (each_in_map asked_of (λ q. v.Yes (asked_at p q)) xs)
    (some_of_map asked_of (λ q. v.No (asked_at p q)) xs) (some_in_map asked_of (λ q. v.No (asked_at p q)) xs)
    (all_end Y N xs c.loop-pred.pred-index c.loop-pred.left (omega arith) c.loop-pred.invariant.so_far)

pub ask_preds-loop-pred-preserved : goal.ask_preds-loop-pred-preserved
ask_preds-loop-pred-preserved t c =
    let D = λ (s : Sources). Decides ((known_below (system s) c.args.steps).Yes (asked_at (holes_fill c.args.holes) (asked_of c.pred-item.result))) ((known_below (system s) c.args.steps).No (asked_at (holes_fill c.args.holes) (asked_of c.pred-item.result))) c.in_ok-evaluate.field-0 in
    let found = subst D c.loop-pred.invariant.same c.in_ok-evaluate.ensures.answer in
    let f = system c.args.self.now in let v = known_below f c.args.steps in let p = holes_fill c.args.holes in
    let Y = λ (q : _). v.Yes (asked_at p (asked_of q)) in
    let N = λ (q : _). v.No (asked_at p (asked_of q)) in
    let x = c.pred-item.result in
    record {
      same = c.evaluate.ensures.same ∙ c.loop-pred.invariant.same;
      so_far = elim c.match-branch-2.branch [
        | ask_preds-in-Yes w ↦ rw w.left-is (all_yes Y N c.args.preds.now c.loop-pred.pred-index x (omega arith) c.pred-item.is c.loop-pred.left ((level f 0 c.args.steps).never (asked_at p (asked_of x))) (rw w.in-Yes.is at found) c.loop-pred.invariant.so_far)
        | ask_preds-in-Undecided w ↦ rw w.left-is (all_open Y N c.args.preds.now c.loop-pred.pred-index x (omega arith) c.pred-item.is c.loop-pred.left (rw w.in-Undecided.is at found) c.loop-pred.invariant.so_far)
      ];
    }

pub ask_rules-fits-requires : goal.ask_rules-fits-requires
ask_rules-fits-requires t c = (
  omega (arith, c.decreases),
  (c.requires.level, (each_at (λ r. RuleHasHeads (rule_of r)) c.args.rules.now c.loop-rule.rule-index c.rule-item.result (omega arith) c.rule-item.is (each_in_map rule_of RuleHasHeads c.args.rules.now c.requires.rules), c.requires.target)),
)

pub ask_rules-is_refuted-requires : goal.ask_rules-is_refuted-requires
ask_rules-is_refuted-requires t c = (
  omega (arith, c.decreases),
  (c.requires.level, (each_at (λ r. RuleHasHeads (rule_of r)) c.args.rules.now c.loop-rule.rule-index c.rule-item.result (omega arith) c.rule-item.is (each_in_map rule_of RuleHasHeads c.args.rules.now c.requires.rules), c.requires.target)),
)

pub ask_rules-returns-in-Some-clause-answer : goal.ask_rules-returns-in-Some-clause-answer
ask_rules-returns-in-Some-clause-answer t c =
    let f = system c.args.self.now in
    let P = Holds (answers f c.args.depth).Alias (known_below f c.args.steps) c.args.side (kind_of c.args.kind) (term_of c.args.target.now) in
    some_of_map rule_of P c.args.rules.now
    (some_at (λ r. P (rule_of r)) c.args.rules.now c.loop-rule.rule-index c.rule-item.result (omega arith) c.rule-item.is
    (record {
      kind = c.is_same_kind.ensures.0 c.if-not-is_same_kind.false;
      at = fill_of (log_of c.in-Some.field-0.items);
      holds = rw (c.in-Some.is, c.loop-rule.invariant.same) at c.in_ok-fits.ensures.answer;
    }))

pub ask_rules-returns-clause-answer : goal.ask_rules-returns-clause-answer
ask_rules-returns-clause-answer t c =
    let f = system c.args.self.now in let xs = c.args.rules.now in
    let P = Holds (answers f c.args.depth).Alias (known_below f c.args.steps) c.args.side (kind_of c.args.kind) (term_of c.args.target.now) in
    let N = HoldsNot (answers f c.args.depth).Alias (known_below f c.args.steps) c.args.side (kind_of c.args.kind) (term_of c.args.target.now) in
    decides_same c.loop-rule.left (some_of_map rule_of P xs) (some_in_map rule_of P xs) (each_of_map rule_of N xs) (each_in_map rule_of N xs)
    (any_end (λ r. P (rule_of r)) (λ r. N (rule_of r)) xs c.loop-rule.rule-index c.loop-rule.left (omega arith) c.loop-rule.invariant.so_far)

pub ask_rules-loop-rule-preserved : goal.ask_rules-loop-rule-preserved
ask_rules-loop-rule-preserved t c =
    let f = system c.args.self.now in let x = c.rule-item.result in
    let A = (answers f c.args.depth).Alias in let v = known_below f c.args.steps in
    let P = λ (r : _). Holds A v c.args.side (kind_of c.args.kind) (term_of c.args.target.now) (rule_of r) in
    let N = λ (r : _). HoldsNot A v c.args.side (kind_of c.args.kind) (term_of c.args.target.now) (rule_of r) in
    let none = rw (c.in_default.is, c.loop-rule.invariant.same) at c.in_ok-fits.ensures.answer in
    let refuted = rw (c.fits.ensures.same, c.loop-rule.invariant.same) at c.in_ok-is_refuted.ensures.answer in
    record {
      same = c.is_refuted.ensures.same ∙ c.fits.ensures.same ∙ c.loop-rule.invariant.same;
      so_far = elim c.if-not-branch.branch [
        | ask_rules-then-not-branch w ↦ rw w.left-is (any_open P N c.args.rules.now c.loop-rule.rule-index x (omega arith) c.rule-item.is c.loop-rule.left (λ h. none h.at h.holds)
            (not_refuted_now A v c.args.side (kind_of c.args.kind) (term_of c.args.target.now) (rule_of x) (c.is_same_kind.ensures.0 c.if-not-is_same_kind.false) c.in_ok-is_refuted.field-0 refuted w.if-not-branch.true) c.loop-rule.invariant.so_far)
        | ask_rules-else-not-branch w ↦ rw w.left-is (any_no P N c.args.rules.now c.loop-rule.rule-index x (omega arith) c.rule-item.is c.loop-rule.left (λ h n. none h.at h.holds) (inr (refuted.0 w.if-not-branch.false)) c.loop-rule.invariant.so_far)
      ];
    }

-- ---- what is given

pub ask_given-fits-requires : goal.ask_given-fits-requires
ask_given-fits-requires t c = (
  omega (arith, c.decreases, c.requires.steps),
  ((omega arith, omega (arith, c.requires.steps)), (each_at (λ r. RuleHasHeads (rule_of r)) c.args.rules.now c.loop-rule.rule-index c.rule-item.result (omega arith) c.rule-item.is (each_in_map rule_of RuleHasHeads c.args.rules.now c.requires.rules), c.requires.args)),
)

pub ask_given-is_refuted-requires : goal.ask_given-is_refuted-requires
ask_given-is_refuted-requires t c = (
  omega (arith, c.decreases, c.requires.steps),
  ((omega arith, omega (arith, c.requires.steps)), (each_at (λ r. RuleHasHeads (rule_of r)) c.args.rules.now c.loop-rule.rule-index c.rule-item.result (omega arith) c.rule-item.is (each_in_map rule_of RuleHasHeads c.args.rules.now c.requires.rules), c.requires.args)),
)

pub ask_given-read-requires : goal.ask_given-read-requires
ask_given-read-requires t c =
    let f = system c.args.self.now in let r = rule_of c.rule-item.result in
    let e = c.is_same_kind.ensures.0 c.if-not-is_same_kind.false in
    let h = rw (c.in-Some.is, c.loop-rule.invariant.same) at c.in_ok-fills.ensures.answer in
    let q = fill_of (log_of c.in-Some.fills.items) in
    let heads = each_at (λ x. RuleHasHeads (rule_of x)) c.args.rules.now c.loop-rule.rule-index c.rule-item.result (omega arith) c.rule-item.is (each_in_map rule_of RuleHasHeads c.args.rules.now c.requires.rules) in (
      omega (arith, c.decreases, c.requires.steps),
      (
        rw c.type_of-ty.ensures (type_heads r.head.parts heads.head),
        rw (c.type_of-ty.ensures, c.as_slice.ensures.value) (given_fills f c.args.steps c.requires.steps c.args.alias (term_of c.args.args.now) r e q h c.requires.args),
      ),
    )

pub ask_given-returns-in_default-clause-answer : goal.ask_given-returns-in_default-clause-answer
ask_given-returns-in_default-clause-answer t c =
    let f = system c.args.self.now in let r = rule_of c.rule-item.result in
    let e = c.is_same_kind.ensures.0 c.if-not-is_same_kind.false in
    given_open f c.args.alias (term_of c.args.args.now) c.args.rules.now c.loop-rule.rule-index c.rule-item.result (omega arith) c.rule-item.is c.args.steps c.requires.steps e (fill_of (log_of c.in-Some.fills.items))
    (rw (c.in-Some.is, c.loop-rule.invariant.same) at c.in_ok-fills.ensures.answer) (rw (c.in_default.is, c.type_of-ty.ensures, c.as_slice.ensures.value, c.fits.ensures.same, c.loop-rule.invariant.same) at c.in_ok-ty-in-Some.ensures.answer)

pub ask_given-returns-in-Some-found-clause-answer : goal.ask_given-returns-in-Some-found-clause-answer
ask_given-returns-in-Some-found-clause-answer t c =
    let f = system c.args.self.now in let r = rule_of c.rule-item.result in
    let e = c.is_same_kind.ensures.0 c.if-not-is_same_kind.false in
    given_twice f c.args.alias (term_of c.args.args.now) c.args.rules.now c.loop-rule.rule-index c.rule-item.result (omega arith) c.rule-item.is c.args.steps c.requires.steps e (fill_of (log_of c.in-Some.fills.items))
    (rw (c.in-Some.is, c.loop-rule.invariant.same) at c.in_ok-fills.ensures.answer) (term_of c.in-Some-2.ty) (rw (c.in-Some-2.is, c.type_of-ty.ensures, c.as_slice.ensures.value, c.fits.ensures.same, c.loop-rule.invariant.same) at c.in_ok-ty-in-Some.ensures.answer)
    (term_of c.in-Some-found.field-0) (rw c.in-Some-found.is at c.loop-rule.invariant.so_far)

pub ask_given-returns-then-not-branch-clause-answer : goal.ask_given-returns-then-not-branch-clause-answer
ask_given-returns-then-not-branch-clause-answer t c =
    let f = system c.args.self.now in let r = rule_of c.rule-item.result in
    let e = c.is_same_kind.ensures.0 c.if-not-is_same_kind.false in
    given_neither f c.args.alias (term_of c.args.args.now) c.args.rules.now c.loop-rule.rule-index c.rule-item.result (omega arith) c.rule-item.is c.args.steps c.requires.steps e
    (rw (c.in-None.is, c.loop-rule.invariant.same) at c.in_ok-fills.ensures.answer) (λ x. true≢false (sym ((rw (c.fits.ensures.same, c.loop-rule.invariant.same) at c.in_ok-is_refuted-in-None.ensures.answer).1 x) ∙ c.if-not-branch.true))

pub ask_given-returns-clause-answer : goal.ask_given-returns-clause-answer
ask_given-returns-clause-answer t c =
    let f = system c.args.self.now in
    elim c.match-found-14.branch [
      | ask_given-in-Some-found-2 w ↦ rw w.result-is (given_is f c.args.steps c.requires.steps c.args.alias (term_of c.args.args.now) c.args.rules.now c.loop-rule.rule-index (omega arith) w.in-Some-found-2.ty (rw w.in-Some-found-2.is at c.loop-rule.invariant.so_far))
      | ask_given-in-None-found w ↦ rw w.result-is (nothing_is f c.args.steps c.requires.steps c.args.alias (term_of c.args.args.now) c.args.rules.now c.loop-rule.rule-index (omega arith) (rw w.in-None-found.is at c.loop-rule.invariant.so_far))
    ]

pub ask_given-loop-rule-preserved : goal.ask_given-loop-rule-preserved
ask_given-loop-rule-preserved t c =
    let f = system c.args.self.now in let r = rule_of c.rule-item.result in
    let e = c.is_same_kind.ensures.0 c.if-not-is_same_kind.false in
    elim c.match-branch-2.branch [
      | ask_given-in-Some+in_ok-ty-in-Some+in-Some-2+in_default-found w ↦ rw (w.found-is, w.self-is) (record {
        same = w.read.ensures.same ∙ c.fits.ensures.same ∙ c.loop-rule.invariant.same;
        so_far =
            (given_first f c.args.alias (term_of c.args.args.now) c.args.rules.now c.loop-rule.rule-index c.rule-item.result (omega arith) c.rule-item.is c.args.steps c.requires.steps e (fill_of (log_of w.in-Some.fills.items))
            (rw (w.in-Some.is, c.loop-rule.invariant.same) at c.in_ok-fills.ensures.answer) (term_of w.in-Some-2.ty) (rw (w.in-Some-2.is, w.type_of-ty.ensures, w.as_slice.ensures.value, c.fits.ensures.same, c.loop-rule.invariant.same) at w.in_ok-ty-in-Some.ensures.answer) (rw w.in_default-found.is at c.loop-rule.invariant.so_far));
      })
      | ask_given-in-None+in_ok-is_refuted-in-None+else-not-branch w ↦ rw (w.found-is, w.self-is) (record {
        same = w.is_refuted.ensures.same ∙ c.fits.ensures.same ∙ c.loop-rule.invariant.same;
        so_far =
            (given_refuted f c.args.alias (term_of c.args.args.now) c.args.rules.now c.loop-rule.rule-index c.rule-item.result (omega arith) c.rule-item.is c.args.steps c.requires.steps e
            ((rw (c.fits.ensures.same, c.loop-rule.invariant.same) at w.in_ok-is_refuted-in-None.ensures.answer).0 w.if-not-branch.false) (option_map term_of c.loop-rule.found) c.loop-rule.invariant.so_far);
      })
    ]

pub ask_given-loop-rule-preserved-then-not-is_same_kind : goal.ask_given-loop-rule-preserved-then-not-is_same_kind
ask_given-loop-rule-preserved-then-not-is_same_kind t c =
    record {
      same = c.loop-rule.invariant.same;
      so_far = given_other (system c.args.self.now) c.args.alias (term_of c.args.args.now) c.args.rules.now c.loop-rule.rule-index c.rule-item.result (omega arith) c.rule-item.is c.args.steps c.requires.steps
          (λ e. true≢false (sym (c.is_same_kind.ensures.1 e) ∙ c.if-not-is_same_kind.true)) (option_map term_of c.loop-rule.found) c.loop-rule.invariant.so_far;
    }

pub alias_reads-returns-in-Open-clause-answer : goal.alias_reads-returns-in-Open-clause-answer
alias_reads-returns-in-Open-clause-answer t c =
    open_clauses (system c.args.self.now) c.args.depth (λ e. absurd (omega (arith, e, c.if-depth-eq0.false))) c.args.alias (term_of c.args.args.now)
    (rw (c.in-Open.is, c.deref.ensures.value, c.self.view_is) at c.in_ok-ty.ensures.answer)

pub alias_reads-returns-in-Open-2-clause-answer : goal.alias_reads-returns-in-Open-2-clause-answer
alias_reads-returns-in-Open-2-clause-answer t c =
    open_rules (system c.args.self.now) c.args.depth (λ e. absurd (omega (arith, e, c.if-depth-eq0.false))) c.args.alias (term_of c.args.args.now)
    (rw (c.in-Nothing.is, c.deref.ensures.value, c.self.view_is) at c.in_ok-ty.ensures.answer) (rw (c.in-Open-2.is, c.deref-2.ensures.value, c.self.view_is, c.ask_given.ensures.same) at c.in_ok-ty-2.ensures.answer)

-- ---- reading

pub read-alias_reads-requires : goal.read-alias_reads-requires
read-alias_reads-requires t c =
    let f = system c.args.self.now in let p = holes_fill c.args.holes in
    let r = rw (c.in-Some.is, c.get-in-Alias.ensures) at c.in_ok-args-in-Alias.ensures.answer in (
      omega (arith, c.decreases),
      reading_done f (heads_in c.self.view_is c.self.invariant.1) c.args.depth p (term_of c.in-Pair.second) (term_of c.in-Some.args) (pair_heads c.args.term.now c.in-Pair.first c.in-Pair.second c.in-Pair.is c.requires.heads).2
          (pair_fills p c.args.term.now c.in-Pair.first c.in-Pair.second c.in-Pair.is c.requires.fills) r,
    )

pub read-returns-in-Some-clause-answer : goal.read-returns-in-Some-clause-answer
read-returns-in-Some-clause-answer t c =
    let f = system c.args.self.now in let p = holes_fill c.args.holes in
    let r = rw (c.in-Some.is, c.get-in-Alias.ensures) at c.in_ok-args-in-Alias.ensures.answer in
    let A = (answers f c.args.depth).Alias in
    IfOk-weaker c.alias_reads.result (λ o. AliasIs A c.in-Alias.alias (term_of c.in-Some.args) (option_map term_of o)) (λ o. ReadingIs A p (term_of c.args.term.now) (option_map term_of o))
    (λ o h. alias_reading A (level f c.args.depth 0).one p c.args.term.now c.in-Pair.first c.in-Pair.second c.in-Alias.alias (term_of c.in-Some.args) (option_map term_of o) c.in-Pair.is
    (sym (rw (c.in-Alias.is, c.get.ensures) at c.role.ensures)) r h) (rw c.read.ensures.same at c.alias_reads.ensures.answer)

-- ---- the walk

pub sized-sized-requires : goal.sized-sized-requires
sized-sized-requires t c =
    let f = system c.args.self.now in
    let tail = sym (subst (λ (s : Sources). tail_as c.tail_of.result ≡ tail_of (system s) (term_of c.args.ty.now)) c.self.view_is c.tail_of.ensures) ∙ ap tail_as c.in-Last.is in
    let is_last = rw c.in-Some.is at c.last_type.ensures in (
      omega (arith, c.decreases, c.if-left-eq0.false),
      last_is_done (term_of c.in-Last.parts.now) (term_of c.in-Some.last.now) is_last (last_done f (term_of c.args.ty.now) (term_of c.in-Last.parts.now) tail c.requires.ty),
    )

pub sized-returns-in-Some-clause-answer : goal.sized-returns-in-Some-clause-answer
sized-returns-in-Some-clause-answer t c =
    let f = system c.args.self.now in let n = c.args.depth in let o = option_map kind_of c.args.kind in
    let ty = term_of c.args.ty.now in
    let left : c.args.left ≡ suc (c.args.left - 1) = omega (arith, c.if-left-eq0.false) in
    let tail = sym (subst (λ (s : Sources). tail_as c.tail_of.result ≡ tail_of (system s) (term_of c.args.ty.now)) c.self.view_is c.tail_of.ensures) ∙ ap tail_as c.in-Last.is in
    let is_last = rw c.in-Some.is at c.last_type.ensures in
    IfOk-weaker c.sized.result (WalkIs f n o (c.args.left - 1) (term_of c.in-Some.last.now)) (WalkIs f n o c.args.left ty)
    (λ a d. last_decides f (answers f n).Alias (level f n n).one (IsSaid f n o) (IsDenied f n o) c.args.left (c.args.left - 1) left ty (term_of c.in-Last.parts.now) (term_of c.in-Some.last.now) tail is_last a d) c.sized.ensures.answer

pub sized-read-requires : goal.sized-read-requires
sized-read-requires t c =
    let f = system c.args.self.now in let ty = term_of c.args.ty.now in
    let tail = sym (subst (λ (s : Sources). tail_as c.tail_of.result ≡ tail_of (system s) (term_of c.args.ty.now)) c.self.view_is c.tail_of.ensures) ∙ ap tail_as c.in-Field.is in
    let at = rw c.in-Some-2.is at c.in_ok-field-in-Field.ensures in
    let heads = field_at_heads (term_of c.in-Field.args.now) (term_of c.in-Field.field.now) (term_of c.in-Some-2.field)
    (field_args_done f ty (term_of c.in-Field.field.now) (term_of c.in-Field.args.now) tail c.requires.ty) (field_heads f (heads_in c.self.view_is c.self.invariant.1) ty (term_of c.in-Field.field.now) (term_of c.in-Field.args.now) tail) at in (
      omega (arith, c.decreases),
      (heads, stay_done (term_of c.in-Some-2.field)),
    )

pub sized-sized-requires-in-Some-3 : goal.sized-sized-requires-in-Some-3
sized-sized-requires-in-Some-3 t c =
    let f = system c.args.self.now in let ty = term_of c.args.ty.now in
    let tail = sym (subst (λ (s : Sources). tail_as c.tail_of.result ≡ tail_of (system s) (term_of c.args.ty.now)) c.self.view_is c.tail_of.ensures) ∙ ap tail_as c.in-Field.is in
    let at = rw c.in-Some-2.is at c.in_ok-field-in-Field.ensures in
    let heads = field_at_heads (term_of c.in-Field.args.now) (term_of c.in-Field.field.now) (term_of c.in-Some-2.field)
    (field_args_done f ty (term_of c.in-Field.field.now) (term_of c.in-Field.args.now) tail c.requires.ty) (field_heads f (heads_in c.self.view_is c.self.invariant.1) ty (term_of c.in-Field.field.now) (term_of c.in-Field.args.now) tail) at in
    let r = rw c.in-Some-3.is at c.in_ok-field-in-Field-2.ensures.answer in (
      omega (arith, c.decreases, c.if-left-eq0.false),
      reading_done f (heads_in c.self.view_is c.self.invariant.1) c.args.depth hole (term_of c.in-Some-2.field) (term_of c.in-Some-3.field) heads (stay_done (term_of c.in-Some-2.field)) r,
    )

pub sized-returns-in-Some-3-clause-answer : goal.sized-returns-in-Some-3-clause-answer
sized-returns-in-Some-3-clause-answer t c =
    let f = system c.args.self.now in let n = c.args.depth in let o = option_map kind_of c.args.kind in
    let ty = term_of c.args.ty.now in
    let left : c.args.left ≡ suc (c.args.left - 1) = omega (arith, c.if-left-eq0.false) in
    let tail = sym (subst (λ (s : Sources). tail_as c.tail_of.result ≡ tail_of (system s) (term_of c.args.ty.now)) c.self.view_is c.tail_of.ensures) ∙ ap tail_as c.in-Field.is in
    let at = rw c.in-Some-2.is at c.in_ok-field-in-Field.ensures in
    let r = rw c.in-Some-3.is at c.in_ok-field-in-Field-2.ensures.answer in
    IfOk-weaker c.sized-in-Some-3.result (WalkIs f n o (c.args.left - 1) (term_of c.in-Some-3.field)) (WalkIs f n o c.args.left ty)
    (λ a d. field_decides f (answers f n).Alias (level f n n).one (IsSaid f n o) (IsDenied f n o) c.args.left (c.args.left - 1) left ty (term_of c.in-Field.field.now) (term_of c.in-Field.args.now) (term_of c.in-Some-2.field) (term_of c.in-Some-3.field) tail at r a d)
    (rw c.read.ensures.same at c.sized-in-Some-3.ensures.answer)

pub sized-returns-in-Field-clause-answer : goal.sized-returns-in-Field-clause-answer
sized-returns-in-Field-clause-answer t c =
    let f = system c.args.self.now in let n = c.args.depth in let o = option_map kind_of c.args.kind in
    let ty = term_of c.args.ty.now in
    let left : c.args.left ≡ suc (c.args.left - 1) = omega (arith, c.if-left-eq0.false) in
    let tail = sym (subst (λ (s : Sources). tail_as c.tail_of.result ≡ tail_of (system s) (term_of c.args.ty.now)) c.self.view_is c.tail_of.ensures) ∙ ap tail_as c.in-Field.is in
    let at = rw c.in-Some-2.is at c.in_ok-field-in-Field.ensures in
    let none = rw c.in-None-2.is at c.in_ok-field-in-Field-2.ensures.answer in
    field_open f (answers f n).Alias (level f n n).one (IsSaid f n o) (IsDenied f n o) c.args.left (c.args.left - 1) left ty (term_of c.in-Field.field.now) (term_of c.in-Field.args.now) (term_of c.in-Some-2.field) tail at none

pub sized-returns-in-Some-kind-clause-answer : goal.sized-returns-in-Some-kind-clause-answer
sized-returns-in-Some-kind-clause-answer t c =
    let f = system c.args.self.now in let n = c.args.depth in let k = kind_of c.in-Some-kind.kind in
    let A = (answers f n).Alias in let v = known_below f n in
    let ty = term_of c.args.ty.now in
    let left : c.args.left ≡ suc (c.args.left - 1) = omega (arith, c.if-left-eq0.false) in
    let tail = sym (subst (λ (s : Sources). tail_as c.tail_of.result ≡ tail_of (system s) (term_of c.args.ty.now)) c.self.view_is c.tail_of.ensures) ∙ ap tail_as c.in-Asked.is in
    let known = asked_known f ty tail in
    rw c.in-Some-kind.is (IfOk-weaker c.source.result (Decides (HasSource f A v k (only ty)) (HasNoSource f A v k (only ty))) (WalkIs f n (Some k) c.args.left ty)
    (λ a d. asked_decides f A (level f n n).one (IsSaid f n (Some k)) (IsDenied f n (Some k)) c.args.left (c.args.left - 1) left ty tail a (decides_same a (λ y. (known, y)) (λ y. y.1) (λ y. (known, y)) (λ y. y.1) d))
    (rw c.in_ok-args-in-Some-kind.ensures at c.source.ensures.answer))

pub sized-returns-clause-answer : goal.sized-returns-clause-answer
sized-returns-clause-answer t c =
    let f = system c.args.self.now in let n = c.args.depth in
    let left : c.args.left ≡ suc (c.args.left - 1) = omega (arith, c.if-left-eq0.false) in
    let tail = sym (subst (λ (s : Sources). tail_as c.tail_of.result ≡ tail_of (system s) (term_of c.args.ty.now)) c.self.view_is c.tail_of.ensures) ∙ ap tail_as c.in-Asked.is in
    rw c.in-None-kind.is (asked_decides f (answers f n).Alias (level f n n).one (IsSaid f n None) (IsDenied f n None) c.args.left (c.args.left - 1) left (term_of c.args.ty.now) tail answer.Undecided (λ y. y, λ y. y))

-- ---- sources and answers

pub source-ask_preds-requires : goal.source-ask_preds-requires
source-ask_preds-requires t c =
    let f = system c.args.self.now in (
      omega (arith, c.decreases),
      rw c.deref.ensures.value (copies_done f (kind_of c.args.kind) (term_of c.args.target.now) c.in-Of.goals c.requires.target (rw c.in-Of.is at (subst (λ (s : Sources). CopiesAre (system s) (kind_of c.args.kind) (term_of c.args.target.now) c.in_ok-answer.field-0) c.self.view_is c.in_ok-answer.ensures))),
    )

pub source-returns-clause-answer : goal.source-returns-clause-answer
source-returns-clause-answer t c =
    let f = system c.args.self.now in let k = kind_of c.args.kind in let w = term_of c.args.target.now in
    rw (c.shadowed.ensures, c.either.ensures) (source_decides f c.args.depth k w c.in_ok-answer.field-0 c.in_ok-by_clauses.by_clauses c.in_ok-shadows.shadows c.in_ok-by_rules.by_rules c.match-branch-5.by_parts
    (subst (λ (s : Sources). CopiesAre (system s) k w c.in_ok-answer.field-0) c.self.view_is c.in_ok-answer.ensures) (rw (c.as_slice-clauses.ensures.value, c.self.view_is) at c.in_ok-by_clauses.ensures.answer) (rw (c.as_slice-clauses.ensures.value, c.self.view_is, c.key_of-key.ensures, c.ask_rules.ensures.same) at c.in_ok-shadows.ensures.answer)
    (rw (c.as_slice-rules.ensures.value, c.self.view_is, c.ask_rules-2.ensures.same, c.ask_rules.ensures.same) at c.in_ok-by_rules.ensures.answer)
    (elim c.match-branch-5.branch [
      | source-in-Known x ↦ rw (x.in-Known.is, x.by_parts-is) refl
      | source-in-Of+in_ok-by_parts-in-Of x ↦ rw (x.in-Of.is, x.by_parts-is) (rw (x.deref.ensures.value, c.ask_rules-3.ensures.same, c.ask_rules-2.ensures.same, c.ask_rules.ensures.same) at x.in_ok-by_parts-in-Of.ensures.answer)
    ]))

pub decide-returns-then-is_among-clause-answer : goal.decide-returns-then-is_among-clause-answer
decide-returns-then-is_among-clause-answer t c =
    let f = system c.args.self.now in let k = kind_of c.args.kind in let w = term_of c.args.target.now in let n = c.args.depth in
    let A = (answers f n).Alias in let v = known_below f n in
    let known = rw c.key_of.ensures at (c.is_known.ensures.0 c.if-not-is_known.false) in
    let Y = λ (u : Term). IsKnown (only u) × HasSource f A v k (only u) in
    let N = λ (u : Term). IsKnown (only u) × HasNoSource f A v k (only u) in
    IfOk-weaker c.sized.result (λ a. Decides (SizedYes f A Y f.tail (self_type w)) (SizedNo f A N f.tail (self_type w)) a) (λ a. Decides (YesAt f A v k w) (NoAt f A v k w) a)
    (λ a d. sized_decides f n k w known (rw (c.deref.ensures.value, c.self.view_is) at (sym c.is_among.ensures ∙ c.if-is_among.true)) a d) (rw (c.self_type-ty.ensures, c.self.view_is) at c.sized.ensures.answer)

pub decide-returns-in-No-clause-answer : goal.decide-returns-in-No-clause-answer
decide-returns-in-No-clause-answer t c =
    let f = system c.args.self.now in let k = kind_of c.args.kind in let w = term_of c.args.target.now in let n = c.args.depth in
    let A = (answers f n).Alias in let v = known_below f n in
    let known = rw c.key_of.ensures at (c.is_known.ensures.0 c.if-not-is_known.false) in
    IfOk-weaker c.source.result (λ a. Decides (HasSource f A v k w) (HasNoSource f A v k w) a) (λ a. Decides (YesAt f A v k w) (NoAt f A v k w) a)
    (λ a d. never_itself_decides f n k w known (rw (c.deref.ensures.value, c.self.view_is) at (sym c.is_among.ensures ∙ c.if-is_among.false)) (rw c.in-No.is at c.in_ok-is_itself.ensures) a d) c.source.ensures.answer

pub decide-returns-clause-answer : goal.decide-returns-clause-answer
decide-returns-clause-answer t c =
    let f = system c.args.self.now in let k = kind_of c.args.kind in let w = term_of c.args.target.now in let n = c.args.depth in
    let known = rw c.key_of.ensures at (c.is_known.ensures.0 c.if-not-is_known.false) in
    let itself = rw c.in-Undecided.is at c.in_ok-is_itself.ensures in
    rw c.unless_no.ensures (maybe_itself_decides f n k w known (rw (c.deref.ensures.value, c.self.view_is) at (sym c.is_among.ensures ∙ c.if-is_among.false)) itself.0 itself.1 c.in_ok-found-in-Undecided.found c.in_ok-found-in-Undecided.ensures.answer)

pub evaluate-returns-in_default-clause-answer : goal.evaluate-returns-in_default-clause-answer
evaluate-returns-in_default-clause-answer t c =
    let f = system c.args.self.now in let g = asked_of c.args.goal.now in let p = holes_fill c.args.holes in let n = c.args.steps - 1 in
    let e : suc n ≡ c.args.steps = omega (arith, c.if-steps-eq0.false) in
    let v = λ (m : ℕ). ((known_below f m).Yes (asked_at p g) → ⊥) × ((known_below f m).No (asked_at p g) → ⊥) in
    subst v e (open_decides_not f g p c.requires.goal n (rw c.in_default.is at c.in_ok-parts.ensures.answer))

pub evaluate-decide-requires : goal.evaluate-decide-requires
evaluate-decide-requires t c =
    let f = system c.args.self.now in let g = asked_of c.args.goal.now in let p = holes_fill c.args.holes in (
      omega (arith, c.decreases, c.if-steps-eq0.false),
      reading_done f (heads_in (c.self.view_is ∙ c.read.ensures.same) c.self.invariant.1) (c.args.steps - 1) p g.parts (term_of c.in-Some.parts) c.requires.goal.heads c.requires.goal.fills (rw c.in-Some.is at c.in_ok-parts.ensures.answer),
    )

pub evaluate-returns-in-Some-find-clause-answer : goal.evaluate-returns-in-Some-find-clause-answer
evaluate-returns-in-Some-find-clause-answer t c =
    let f = system c.args.self.now in let g = asked_of c.args.goal.now in let p = holes_fill c.args.holes in let n = c.args.steps - 1 in
    let e : suc n ≡ c.args.steps = omega (arith, c.if-steps-eq0.false) in
    let sized : n ≡ 0 → is_among f.sized g.kind ≡ true = λ z. elim c.else-depth-eq0.branch [
      | evaluate-else-depth-eq0-via-then-depth-eq0+else-not-is_among w ↦ rw (w.deref.ensures.value, c.self.view_is, c.read.ensures.same) at (sym w.is_among.ensures ∙ w.if-not-is_among.false)
      | evaluate-else-depth-eq0-via-else-depth-eq0 w ↦ absurd (omega (arith, z, w.if-depth-eq0.false))
    ] in
    let parts = term_of c.in-Some.parts in
    let r = rw c.in-Some.is at c.in_ok-parts.ensures.answer in
    let D = λ (m : ℕ) (a : Answer). Decides ((known_below f m).Yes (asked_at p g)) ((known_below f m).No (asked_at p g)) a in
    let a = c.in-Some-find.answer in
    subst (λ (m : ℕ). D m a) e (goal_decides f g p c.requires.goal n parts r sized a (c.in-Some-find.ensures f (subst (λ (s : Sources). AreKept (system s) c.self.inside.kept.entries.items) (c.self.view_is ∙ c.read.ensures.same) c.self.invariant.0)))

pub evaluate-returns-clause-answer : goal.evaluate-returns-clause-answer
evaluate-returns-clause-answer t c =
    let f = system c.args.self.now in let g = asked_of c.args.goal.now in let p = holes_fill c.args.holes in let n = c.args.steps - 1 in
    let e : suc n ≡ c.args.steps = omega (arith, c.if-steps-eq0.false) in
    let sized : n ≡ 0 → is_among f.sized g.kind ≡ true = λ z. elim c.else-depth-eq0.branch [
      | evaluate-else-depth-eq0-via-then-depth-eq0+else-not-is_among w ↦ rw (w.deref.ensures.value, c.self.view_is, c.read.ensures.same) at (sym w.is_among.ensures ∙ w.if-not-is_among.false)
      | evaluate-else-depth-eq0-via-else-depth-eq0 w ↦ absurd (omega (arith, z, w.if-depth-eq0.false))
    ] in
    let parts = term_of c.in-Some.parts in
    let r = rw c.in-Some.is at c.in_ok-parts.ensures.answer in
    let D = λ (m : ℕ) (a : Answer). Decides ((known_below f m).Yes (asked_at p g)) ((known_below f m).No (asked_at p g)) a in
    let a = c.in_ok-answer.answer in
    subst (λ (m : ℕ). D m a) e (goal_decides f g p c.requires.goal n parts r sized a (subst (λ (s : Sources). IsAnswerAt (system s) (kind_of c.args.goal.now.kind) (term_of c.in-Some.parts) n a) c.read.ensures.same c.in_ok-answer.ensures.answer))

pub evaluate-invariant_of-self : goal.evaluate-invariant_of-self
evaluate-invariant_of-self t c = (rw c.in_err-keep.ensures.err c.self-2.invariant.0, c.self-2.invariant.1)

pub evaluate-invariant_of-self-2 : goal.evaluate-invariant_of-self-2
evaluate-invariant_of-self-2 t c =
    let f = system c.self-2.inside.sources.now in let n = c.args.steps - 1 in
    let here = sym (c.self-2.view_is ∙ c.decide.ensures.same) in
    let right = subst (λ (s : Sources). IsAnswerAt (system s) (kind_of c.args.goal.now.kind) (term_of c.in-Some.parts) n c.in_ok-answer.answer) here c.in_ok-answer.ensures.answer in
    (rw c.in_ok-keep.ensures.ok (each_append (IsKeptRight f) c.self-2.inside.kept.entries.items _ c.self-2.invariant.0 right), c.self-2.invariant.1)
