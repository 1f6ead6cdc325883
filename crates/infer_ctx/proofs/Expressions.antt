-- The walk comes to an expression, and records its type.
use Rattle.std.proofs.Common.{refl, arith, Option, sym, subst, ◌∙◌, ◌≡◌}
use Rattle.infer_ctx.specs.Words.{ExprId, Ty, folded, Schedule, Scope, Grew, State, GoalTable, Given}
use Rattle.infer_ctx.specs.Own.{InferenceContext, IsTold, Closes, found_under, expected_under, IsSound, IsFine, Before, Within, OwnDone, KindDone, Follows, OwnWalked}
use Rattle.infer_ctx.specs.Context as context
use Rattle.infer_ctx.proofs.OwnRecord.{entered_within, close}
use Rattle.infer_ctx.proofs.UnderClosings.{closes_same, sound_entered, expr_ty_under, of_body_expr_ty, sound_expr_ty}
use Rattle.infer_ctx.proofs.Asked.{told_beside}
use Rattle.infer_ctx.proofs.AtEach.{before_under, closes_before}

-- the clock alone went on
pub told_entered : (g : Given) (c : InferenceContext) → IsTold g c → IsTold g (context.entered c)
told_entered g c = told_beside g c (context.entered c) refl refl refl

-- the clock goes on to the parts of the expression
pub comes_within : (g : Given) (s : Schedule) (e : ExprId) (x : Option Ty) (c : InferenceContext) → Before g s e x c → Within g s e x (context.entered c)
comes_within g s e x c h = record {
  ready = h.ready;
  state = record {
    of_body = h.state.of_body;
    sound = sound_entered c h.state.sound;
    told = told_entered g c h.state.told;
    each = λ a k.
        let l : Closes a c = closes_same a (context.entered c) c refl k in
        (entered_within g s e (expected_under a x) (found_under a c) (before_under g s a c l e x h)).state;
  };
  within = h.within;
  clock = omega (arith, h.here);
  expected = h.expected;
}

-- with another table of goals over the same holes all is as sound
sound_with_goals : (sc : Scope) (c : InferenceContext) (goals : GoalTable) → goals.table ≡ c.goals.table → IsSound sc c → IsSound sc (context.with_goal_table c goals)
sound_with_goals sc c goals same s = subst (λ (z : State). IsSound sc (context.with_goal_table c (record goals { table = z }))) (sym same) (record {
  fine = s.fine;
  seen = s.seen;
  asked = s.asked;
  kept = s.kept;
  pairs = s.pairs;
  bound = s.bound;
  some = (s.some.0, record { closing = s.some.1.closing; meets = s.some.1.meets });
})

-- The expression's own type is recorded, and then what it needs is registered.
module _ (g : Given) (s : Schedule) (e : ExprId) (x : Option Ty) (t : Ty) (old mid : InferenceContext) (goals : GoalTable) (h : Before g s e x old) (k : KindDone g s e x t (context.entered old) mid) (table : goals.table ≡ mid.goals.table) (sources : goals.sources ≡ mid.goals.sources) where
  abbrev last : InferenceContext
  last = context.with_goal_table (context.with_expr_ty mid e t) goals

  own_follows : (IsTold g mid → IsTold g last) → Follows g old last
  own_follows told = record {
    clock = omega (arith, k.follows.clock);
    grew = subst (λ (z : State). Grew old.goals.table z) (sym table) k.follows.grew;
    sources = sources ∙ k.follows.sources;
    of_body = of_body_expr_ty g.body mid k.follows.of_body e t;
    sound = sound_with_goals g.scope (context.with_expr_ty mid e t) goals table (sound_expr_ty mid k.follows.sound e t k.fine);
    told = λ was. told (k.follows.told (told_entered g old was));
  }

  pub own_done : (IsTold g mid → IsTold g last) → OwnDone g s e x t old last
  own_done told = record {
    follows = own_follows told;
    fine = subst (λ (z : State). IsFine g.scope z t) (sym table) k.fine;
    tells = k.tells;
    each = λ a q.
        let m : Closes a mid = closes_same a last mid table q in
        let o : Closes a old = closes_same a (context.entered old) old refl (closes_before g a (context.entered old) mid k.follows m) in
        subst (λ f. OwnWalked g s e (expected_under a x) (folded a t) (found_under a old) f) (sym (expr_ty_under a mid e t))
        (close g s e (expected_under a x) (folded a t) (found_under a old) (found_under a mid) (before_under g s a old o e x h) (k.each a m));
  }
