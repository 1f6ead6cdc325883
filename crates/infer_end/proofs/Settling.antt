-- What is found out about a body holds where goals are selected and associated types are read in the end.
use Rattle.std.specs.Prelude.{ℕ, suc, length}
use Rattle.std.proofs.Common.{◌≡◌, ◌∙◌, refl, sym, ap, subst, inl, inr, arith, true≢false, List, Option, Some, None, is_some, true, false}
use Rattle.infer_end.specs.Words.{terms_of, DefWithBodyId, RawFacts, completion, FellBack, Respects, State, Meets, bindings, IsOfBody, IsMade, Given, At, General, InferenceResult, TypeMismatch, GoalTable, stays_with, InferenceContext, IsSound, closed_table, with_general, with_table, is_fine_head, BodyDone, OnlyBinds, ReadsOn, IsSelection, SelectsInWalk}
use Rattle.infer_end.proofs.Words.{long_beside, binds_only_fallen, told_same, decided_later, closes_earlier, binds_nothing, binds_twice, sound_later}
use Rattle.infer_end.specs.Own.{KeepsGeneral, OnlyGoals, FallsBack, SelectsThenReads, SelectsThenReadsTimes, SelectsAndReadsOn, SettlesBody, SettlesLast}

-- where some holes more are bound
pub binds_done : (g : Given) (old new : InferenceContext) → BodyDone g old → OnlyBinds g old new → BodyDone g new
binds_done g old new done binds = record {
  sound = binds.follows.sound;
  decided = λ n m at. decided_later old.goals.table new.goals.table m binds.follows.grew (done.decided n m (subst (λ (ms : List (Option TypeMismatch)). At ms n m) binds.asked at));
  made = λ a closes.
      (let before = done.made a (closes_earlier a old new binds.follows.grew closes) in
      subst (λ (r : InferenceResult). IsMade g (closed_table a new.asked r)) (sym binds.result) (subst (λ (ms : List (Option TypeMismatch)). IsMade g (closed_table a ms old.result)) (sym binds.asked) before));
}

-- ---- integer types

pub falls_back : (g : Given) (c : InferenceContext) → IsOfBody g.body c.result → IsSound g.scope c → (after : State) → FellBack c.goals.table after → Meets (terms_of (completion after)) after → Respects (terms_of (completion after)) → FallsBack g c (with_table c after)
falls_back g c body sound after fell meets respects =
    let goals : GoalTable = record c.goals { table = after } in
    let bound = binds_only_fallen (is_fine_head g.scope) refl c.goals.table after fell sound.bound in
    record {
      binds = record {
        follows = record {
          clock = omega arith;
          grew = fell.grew;
          sources = refl;
          of_body = body;
          sound = sound_later g c sound goals fell.grew fell.pairs bound meets respects;
          told = told_same g c (with_table c after) refl (stays_with c.goals after) fell.grew;
        };
        result = refl;
        asked = refl;
        clock = refl;
      };
      fell = fell;
    }

-- ---- selected and read in turn

pub selects_then_reads : (g : Given) (old mid new : InferenceContext) → SelectsInWalk g old mid → ReadsOn g mid new → SelectsThenReads g old new
selects_then_reads g old mid new selects reads = record { selected = mid; selects = selects; reads = reads }

pub round_binds : (g : Given) (old new : InferenceContext) → SelectsThenReads g old new → OnlyBinds g old new
round_binds g old new round = binds_twice g old round.selected new round.selects.binds round.reads.binds

-- that was done so many times
pub record Rounds (g : Given) (old c : InferenceContext) : Type 0 where
  pub binds : OnlyBinds g old c
  pub times : ℕ
  pub rounds : SelectsThenReadsTimes g times old c

pub begins_rounds : (g : Given) (c : InferenceContext) → IsOfBody g.body c.result → IsSound g.scope c → Rounds g c c
begins_rounds g c body sound = record { binds = binds_nothing g c body sound; times = 0; rounds = refl }

pub once_more : (g : Given) (old c next : InferenceContext) → Rounds g old c → SelectsThenReads g c next → Rounds g old next
once_more g old c next so_far round = record { binds = binds_twice g old c next so_far.binds (round_binds g c next round); times = suc so_far.times; rounds = (c, so_far.rounds, round) }

pub bound_none : (g : Given) (old c next : InferenceContext) → Rounds g old c → SelectsThenReads g c next → length (bindings next.goals.table) ≡ length (bindings c.goals.table) → SelectsAndReadsOn g old next
bound_none g old c next so_far round none = record {
  binds = binds_twice g old c next so_far.binds (round_binds g c next round);
  times = so_far.times;
  before = c;
  first = so_far.rounds;
  again = round;
  none = none;
}

-- ---- in the end

-- what is bound before the last selection
module _ (g : Given) (old first fallen read : InferenceContext) (selects : SelectsInWalk g old first) (falls : FallsBack g first fallen) (reads : SelectsAndReadsOn g fallen read) where
  pub settling : OnlyBinds g old read
  settling = binds_twice g old fallen read (binds_twice g old first fallen selects.binds falls.binds) reads.binds

  pub settles_body : (d : DefWithBodyId) (new : InferenceContext) → IsSelection g.scope.facts d g.body read new → SettlesBody d g old new
  settles_body d new last = record { selected = first; selects = selects; fallen = fallen; falls = falls; read = read; reads = reads; last = last }

  pub settles_only : (new : InferenceContext) → OnlyGoals read new → OnlyGoals old new
  settles_only new only = record { result = only.result ∙ settling.result; asked = only.asked ∙ settling.asked; clock = only.clock ∙ settling.clock }

-- nothing is done with a body whose types before fallback are kept
pub settles_nothing : (d : DefWithBodyId) (g : Given) (c : InferenceContext) → BodyDone g c → is_some c.result.general ≡ true → SettlesLast d g c c
settles_nothing d g c done some = record {
  done = done;
  only = record { result = refl; asked = refl; clock = refl };
  plain = λ x is. refl;
  settles = λ none. absurd (true≢false (sym some ∙ ap is_some none));
}

-- with others all is
pub settles_last : (d : DefWithBodyId) (g : Given) (old new : InferenceContext) → is_some old.result.general ≡ false → BodyDone g new → OnlyGoals old new → SettlesBody d g old new → SettlesLast d g old new
settles_last d g old new none done only settles = record {
  done = done;
  only = only;
  plain = λ x is. absurd (true≢false (sym (ap is_some is) ∙ none));
  settles = λ same. settles;
}

-- ---- the table is of the body

-- with other types before fallback
general_of_body : (g : Given) (c : InferenceContext) (o : Option General) → IsOfBody g.body c.result → IsOfBody g.body (with_general c o).result
general_of_body g c o h = long_beside g.body c.result (with_general c o).result h

pub kept_of_body : (g : Given) (raw : RawFacts) (d : DefWithBodyId) (c last : InferenceContext) → IsOfBody g.body c.result → KeepsGeneral raw d c last → IsOfBody g.body last.result
kept_of_body g raw d c last h (inl (plain, (x, resolved, is))) = subst (λ (z : InferenceContext). IsOfBody g.body z.result) (sym is) (general_of_body g c (Some x) h)
kept_of_body g raw d c last h (inr (not_plain, is)) = subst (λ (z : InferenceContext). IsOfBody g.body z.result) (sym is) (general_of_body g c None h)
