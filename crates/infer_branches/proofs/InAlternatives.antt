-- One alternative of a node after another, over holes.
use Rattle.std.proofs.Common.{inl, inr, sym, subst, Option, ap, ◌≡◌, refl, Some, None, ◌∙◌, arith, List, [], ◌∷◌, ◌++◌, ℕ}
use Rattle.infer_branches.specs.Words.{Ty, Assignment, folded, with_holes, ExprId, replaced_bool, Scope, Schedule, IsCarriedType, Role, Part, inner, expr_part, after, State, Grew, InferenceResult, Given, AsksOf, IsOfBody, IsLess, of_alternatives, of_arms, IsFineExpectation, expected_under, found_under, Closes, InferenceContext, OwnDone, Follows, CoerceDone, Before, CoerceWalked, LieAhead, IsReady, Walks, Nothing, OwedByAlternatives, Extends, expr_end, IsTold, common_under, common_of, IsFineCommon, Completes, CompletesAs, Merges, CoerceMany}
use Rattle.hir_types.specs.declared.ty.Ty.TheVariants as ty
use Rattle.hir_types.specs.declared.ids.ExprOrPatId.TheVariants as node
use Rattle.infer_branches.proofs.Words.{grew_twice, alternatives_less, arms_less, fine_grown, fine_expectation_grown, told_same, follows_twice, closes_before, walking_after, expected_carried, walks_trans, walks_paid, same_found, closes_earlier, fine_closed, ahead_rest, ahead_stands, owed_paid}
use Rattle.infer_branches.specs.Words.infer_coerce.declared.coerce_many.CoerceMany.TheVariants as common
use Rattle.infer_branches.specs.Own.{AlternativeDone, AreMerged, GuardWalked}
use Rattle.infer_branches.proofs.Branches.{less_twice}
use Rattle.infer_branches.proofs.Alternatives.{StandsAs, IsAlternative, FirstBefore, Alternatives, Completed, completed, none_merged, taken}

-- ---- what is expected
pub less_fine : (sc : Scope) (state : State) (x y : Option Ty) → IsLess x y → IsFineExpectation sc state x → IsFineExpectation sc state y
less_fine sc state x y (inl h) k = subst (λ o. IsFineExpectation sc state o) (sym h) k
less_fine sc state x y (inr h) k = subst (λ o. IsFineExpectation sc state o) (sym h) tt

-- what is wanted of the alternatives, and of the arms of a `match`
pub wanted_less : (state : State) (x y : Option Ty) → y ≡ of_alternatives state x → IsLess x y
wanted_less state x y is = subst (λ o. IsLess x o) (sym is) (alternatives_less state x)

pub arms_wanted : (state : State) (x y z : Option Ty) → y ≡ of_alternatives state x → z ≡ of_arms state y → IsLess x z
arms_wanted state x y z is arms = less_twice x y z (wanted_less state x y is) (subst (λ o. IsLess y o) (sym arms) (arms_less state y))

pub less_under : (a : Assignment) (x y : Option Ty) → IsLess x y → IsLess (expected_under a x) (expected_under a y)
less_under a x y (inl h) = inl (ap (expected_under a) h)
less_under a x y (inr h) = inr (ap (expected_under a) h)

-- ---- the common type
pub common_of_under : (a : Assignment) (x : Option Ty) → common_under a (common_of x) ≡ common_of (expected_under a x)
common_of_under a None = refl
common_of_under a (Some t) = refl

pub common_of_fine : (sc : Scope) (state : State) (x : Option Ty) → IsFineExpectation sc state x → IsFineCommon sc state (common_of x)
common_of_fine sc state None h = tt
common_of_fine sc state (Some t) h = h

pub fine_common_grown : (sc : Scope) (s t : State) (m : CoerceMany) → Grew s t → IsFineCommon sc s m → IsFineCommon sc t m
fine_common_grown sc s t common.Nothing g h = tt
fine_common_grown sc s t (common.Is u) g h = fine_grown sc s t u g h
fine_common_grown sc s t common.Unknown g h = tt

-- how it ends, under an assignment
pub completes_under : (a : Assignment) (x : Option Ty) (m : CoerceMany) (t : Ty) → CompletesAs x m t
    → CompletesAs (expected_under a x) (common_under a m) (folded a t)
completes_under a x common.Nothing t h = tt
completes_under a x (common.Is u) t h = ap (folded a) h
completes_under a None common.Unknown t h = λ u is. absurd (cc)
completes_under a (Some v) common.Unknown t h = λ u is. (let k : folded a v ≡ u = cc in ap (folded a) (h v refl) ∙ k)

-- ---- an alternative

-- its own type, and then the common one
pub alternative_done : (g : Given) (s : Schedule) (e : ExprId) (x : Option Ty) (t : Ty) (before after : CoerceMany) (old mid new : InferenceContext)
    → OwnDone g s e x t old mid → Merges g e t before after mid new → AlternativeDone g s e x before after old new
alternative_done g s e x t before after old mid new d k = record {
  follows = follows_twice g old mid new d.follows k.follows;
  fine = k.fine;
  each = λ a q. record {
    mid = found_under a mid;
    type = folded a t;
    own = d.each a (closes_before g a mid new k.follows q);
    merged = k.each a q;
  };
}

-- ---- the type of the node

-- it is of a carried kind under an assignment, also where it is a new hole
pub completed_fine : {sc : Scope} (a : Assignment) (x : Option Ty) (m : CoerceMany) (t : Ty) (old new : InferenceContext)
    → Completes sc x m t old new → Closes a new → IsCarriedType (folded a t)
completed_fine {sc} a x m t old new d q = fine_closed sc a t q.closing d.fine.heads

pub completed_follows : (g : Given) (x : Option Ty) (m : CoerceMany) (t : Ty) (first old new : InferenceContext) → Follows g first old
    → Completes g.scope x m t old new → Follows g first new
completed_follows g x m t first old new f d = record {
  clock = omega (arith, f.clock, d.clock);
  grew = grew_twice first.goals.table old.goals.table new.goals.table f.grew d.grew;
  sources = d.stays.sources ∙ f.sources;
  of_body = subst (λ r. IsOfBody g.body r) (sym d.result) f.of_body;
  sound = d.sound;
  told = λ k. told_same g old new d.result d.stays d.grew (f.told k);
}

-- ---- a part that is to be a truth value

-- under an assignment
bool_under : (g : Given) (s : Schedule) (e : ExprId) (t : Ty) (a : Assignment) (old new : InferenceContext) → Closes a new
    → CoerceDone g s e (Some ty.Bool) t old new → CoerceWalked g s e (Some ty.Bool) (folded a t) (found_under a old) (found_under a new)
bool_under g s e t a old new q d =
    subst (λ u. CoerceWalked g s e (Some u) (folded a t) (found_under a old) (found_under a new)) (replaced_bool (with_holes a)) (d.each a q)

pub bool_walked : (g : Given) (s : Schedule) (n : ExprId) (role : Role) (e : ExprId) (t : Ty) (old new : InferenceContext)
    → StandsAs g.body n role e → ((r : InferenceResult) (u : Ty) → u ≡ ty.Bool → AsksOf g r n role u) → CoerceDone g s e (Some ty.Bool) t old new
    → (a : Assignment) → Closes a new → GuardWalked g s (Some e) (found_under a old) (found_under a new)
bool_walked g s n role e t old new at asks d a q =
    let h = bool_under g s e t a old new q d in
    let r : InferenceResult = (found_under a new).result in
    record {
      walks = owed_paid g s e (Some ty.Bool) _ _ (λ u is. (
          let k : ty.Bool ≡ u = cc in
          inl (record { parent = inner (node.ExprId n); at_part = at.0; role = role; stands = at.1; asks = asks r u (sym k) })
          )) h.walks;
      clock = λ i. h.clock;
      made = h.placed.1;
    }

-- ---- one alternative after another

-- The alternatives es of the node n, of which y is expected, are typed, m is what they have in common, and beside them K holds.
-- The parts ps lie ahead, up to the number `stop`.
pub record AtAlternatives (g : Given) (s : Schedule) (n : ExprId) (y : Option Ty) (es : List ExprId) (m : CoerceMany) (K : InferenceResult → Type 0) (ps : List Part) (stop : ℕ) (mid c : InferenceContext) : Type 0 where
  pub follows : Follows g mid c
  pub expected : IsFineExpectation g.scope c.goals.table y
  pub fine : IsFineCommon g.scope c.goals.table m
  pub ahead : LieAhead g.body s (inner (node.ExprId n)) c.clock ps
  pub ends : after g.body s c.clock ps ≡ stop
  pub each : (a : Assignment) → Closes a c → Alternatives g s n es (expected_under a y) (common_under a m) K (found_under a mid) (found_under a c)

module _ (g : Given) (s : Schedule) (n : ExprId) (y : Option Ty) where
  -- none is typed yet
  pub begins_alternatives : (m : CoerceMany) (K : InferenceResult → Type 0) (ps : List Part) (stop : ℕ) (mid c : InferenceContext)
      → m ≡ common_of y → IsFineExpectation g.scope c.goals.table y → Follows g mid c → LieAhead g.body s (inner (node.ExprId n)) c.clock ps
      → after g.body s c.clock ps ≡ stop → ((a : Assignment) → Closes a c → Walks g s Nothing (found_under a mid) (found_under a c))
      → ((a : Assignment) → Closes a c → K (found_under a c).result) → AtAlternatives g s n y [] m K ps stop mid c
  begins_alternatives m K ps stop mid c is expected follows ahead ends walks beside = record {
    follows = follows;
    expected = expected;
    fine = subst (λ k. IsFineCommon g.scope c.goals.table k) (sym is) (common_of_fine g.scope c.goals.table y expected);
    ahead = ahead;
    ends = ends;
    each = λ a q. record {
      walks = walks_paid g s Nothing (OwedByAlternatives g n (expected_under a y)) _ _ (λ e k p. absurd p) (walks a q);
      merged = subst (λ k. AreMerged (found_under a c).result [] (expected_under a y) k) (sym (ap (common_under a) is ∙ common_of_under a y)) (
          none_merged (found_under a c).result (expected_under a y)
          );
      beside = beside a q;
    };
  }

  module _ (es : List ExprId) (m : CoerceMany) (K : InferenceResult → Type 0) (ps : List Part) (stop : ℕ) (mid c : InferenceContext) where
    module _ (role : Role) (e : ExprId) (h : AtAlternatives g s n y es m K (expr_part role e ∷ ps) stop mid c) where
      pub comes_to_alternative : IsReady g s → IsTold g mid → Before g s e y c
      comes_to_alternative ready told = record {
        ready = ready;
        state = walking_after g s mid c told h.follows (λ a l. (h.each a l).walks.state);
        within = h.ahead.fit.0;
        here = h.ahead.fit.1;
        expected = h.expected;
      }

      pub past_alternative : IsAlternative role → FirstBefore g.body n role es → ((a b : InferenceResult) → Extends a b → K a → K b)
          → (made : CoerceMany) (next : InferenceContext) → AlternativeDone g s e y m made c next
          → AtAlternatives g s n y (es ++ e ∷ []) made K ps stop mid next
      past_alternative is first kept made next d =
          let expected = fine_expectation_grown g.scope c.goals.table next.goals.table y d.follows.grew h.expected in
          let at = ahead_stands g.body s (inner (node.ExprId n)) c.clock (expr_part role e) ps h.ahead in
          let before : (a : Assignment) → Closes a next → Closes a c = λ a q. closes_before g a c next d.follows q in
          let q = (λ (a : Assignment) (k : Closes a next).
          let carried = expected_carried g.scope a next.goals.table y k.closing expected in
          let v = d.each a k in
          taken g s n role e (expected_under a y) at is carried es v.type (found_under a c) v.mid (found_under a next) first v.own
          (common_under a m) (common_under a made) (h.each a (before a k)).merged v.merged) in
          let some = d.follows.sound.some in
          let clock : next.clock ≡ expr_end g.body s e = (q some.0 some.1).1 in
          record {
            follows = follows_twice g mid c next h.follows d.follows;
            expected = expected;
            fine = d.fine;
            ahead = subst (λ j. LieAhead g.body s (inner (node.ExprId n)) j ps) (sym clock) (ahead_rest _ _ _ _ (expr_part role e) ps h.ahead);
            ends = subst (λ j. after g.body s j ps ≡ stop) (sym clock) h.ends;
            each = λ a k. record {
              walks = walks_trans g s (OwedByAlternatives g n (expected_under a y)) _ _ _ (h.each a (before a k)).walks (q a k).0;
              merged = (q a k).2;
              beside = kept (found_under a c).result (found_under a next).result (q a k).0.extends (h.each a (before a k)).beside;
            };
          }

  -- their common type
  pub ends_alternatives : (es : List ExprId) (m : CoerceMany) (K : InferenceResult → Type 0) (stop : ℕ) (mid c : InferenceContext)
      → AtAlternatives g s n y es m K [] stop mid c → (es ≡ [] → ⊥) → (x : Option Ty) (t : Ty) (last : InferenceContext)
      → Completes g.scope y m t c last → (a : Assignment) → Closes a last
      → Completed g s n es (expected_under a x) (folded a t) K (found_under a mid) (found_under a last)
  ends_alternatives es m K stop mid c h some x t last k a q =
      subst (λ z. Completed g s n es (expected_under a x) (folded a t) K (found_under a mid) z) (sym (same_found a c last k.result k.asked k.clock)) (
      completed _ _ _ _ _ _ _ _ _ _ _ some (h.each a (closes_earlier a c last k.grew q)) (completes_under a y m t k.is) (completed_fine a y m t c last k q)
      )
