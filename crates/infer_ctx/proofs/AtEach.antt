-- From what holds of the context to what holds under each assignment that closes it, and back.
use Rattle.std.proofs.Common.{arith, ◌∙◌, refl, Option, Some, None}
use Rattle.infer_ctx.specs.Words.{Assignment, Ty, ExprId, Schedule, Scope, State, IsOfBody, Given}
use Rattle.infer_ctx.proofs.Words.{grew_itself, grew_twice}
use Rattle.infer_ctx.specs.Own.{InferenceContext, IsSound, Closes, found_under, IsClosing, expected_under, Follows, IsWalking, Before, Within, IsTold, IsWalked, IsCarriedExpectation, IsFineExpectation, ComesTo, IsInside}
use Rattle.infer_ctx.proofs.UnderClosings.{closes_earlier}
use Rattle.infer_ctx.proofs.OverTypes.{fine_closed}

-- ---- one after another
pub follows_itself : (g : Given) (c : InferenceContext) → IsOfBody g.body c.result → IsSound g.scope c → Follows g c c
follows_itself g c h s = record { clock = omega arith; grew = grew_itself c.goals.table; sources = refl; of_body = h; sound = s; told = λ k. k }

pub follows_twice : (g : Given) (x y z : InferenceContext) → Follows g x y → Follows g y z → Follows g x z
follows_twice g x y z f h = record {
  clock = omega (arith, f.clock, h.clock);
  grew = grew_twice x.goals.table y.goals.table z.goals.table f.grew h.grew;
  sources = h.sources ∙ f.sources;
  of_body = h.of_body;
  sound = h.sound;
  told = λ k. h.told (f.told k);
}

pub closes_before : (g : Given) (a : Assignment) (x y : InferenceContext) → Follows g x y → Closes a y → Closes a x
closes_before g a x y f k = closes_earlier a x y f.grew k

pub walking_after : (g : Given) (s : Schedule) (old new : InferenceContext) → IsTold g old → Follows g old new → ((a : Assignment) → Closes a new → IsWalked g s (found_under a new)) → IsWalking g s new
walking_after g s old new told f h = record { of_body = f.of_body; sound = f.sound; told = f.told told; each = h }

-- ---- what is expected
pub expected_carried : (sc : Scope) (a : Assignment) (state : State) (x : Option Ty) → IsClosing a → IsFineExpectation sc state x → IsCarriedExpectation (expected_under a x)
expected_carried sc a state None k h = tt
expected_carried sc a state (Some t) k h = fine_closed sc a t k h.heads

-- ---- what a function is given
module _ (g : Given) (s : Schedule) (a : Assignment) (c : InferenceContext) (k : Closes a c) where
  pub before_under : (e : ExprId) (x : Option Ty) → Before g s e x c → ComesTo g s e (expected_under a x) (found_under a c)
  before_under e x h = record {
    ready = h.ready;
    state = h.state.each a k;
    within = h.within;
    here = h.here;
    expected = expected_carried g.scope a c.goals.table x k.closing h.expected;
  }

  pub within_under : (e : ExprId) (x : Option Ty) → Within g s e x c → IsInside g s e (expected_under a x) (found_under a c)
  within_under e x h = record {
    ready = h.ready;
    state = h.state.each a k;
    within = h.within;
    clock = h.clock;
    expected = expected_carried g.scope a c.goals.table x k.closing h.expected;
  }
