-- One part of a node after another. Each loop over parts and each single part of any kind goes by what is said here once.
use Rattle.std.proofs.Common.{ℕ, ◌+◌, ◌<◌, ◌≤◌, ◌≡◌, ◌⊎◌, inr, List, [], ◌∷◌, length, drop, get_or, sym, ap, subst, ◌∙◌, arith, Option, Some, slice_get, zero, suc}
use Rattle.std.proofs.Math.ListN.{drop_of_length-le}
use Rattle.infer_ctx.specs.Words.{ExprId, Ty, Assignment, Role, Node, Part, inner, end, after, expr_part, expr_parts, exprs_from, RawExpr, Schedule, TypeMismatch, Given, Demand}
use Rattle.hir_types.specs.declared.ids.ExprOrPatId.TheVariants as node
use Rattle.infer_ctx.specs.Own.{InferenceContext, Closes, found_under, expected_under, IsFineExpectation, Found, Follows, Before, Within, OwnDone, CoerceDone, OnlyBinds, IsTold, IsReady, LieAhead, Walks, Debt, Owed}
use Rattle.infer_ctx.proofs.AtEach.{follows_itself, follows_twice, closes_before, walking_after}
use Rattle.infer_ctx.proofs.UnderClosings.{same_found}
use Rattle.infer_ctx.proofs.Category.{walks_refl, walks_trans, walks_paid}
use Rattle.infer_ctx.proofs.Lists.{drop-step}
use Rattle.infer_ctx.proofs.Parts.{ahead_rest, expr_ahead}

-- the walk is in n since mid: the parts ps lie ahead, and of those that it has come to it owes P
pub record InParts (g : Given) (s : Schedule) (n : Node) (P : Debt) (ps : List Part) (mid c : Found) : Type 0 where
  pub walks : Walks g s P mid c
  pub ahead : LieAhead g.body s n c.clock ps
  pub ends : after g.body s c.clock ps ≡ end g.body s n

-- so it is under each assignment
pub record WalksParts (g : Given) (s : Schedule) (n : Node) (P : Assignment → Debt) (ps : List Part) (mid c : InferenceContext) : Type 0 where
  pub follows : Follows g mid c
  pub each : (a : Assignment) → Closes a c → InParts g s n (P a) ps (found_under a mid) (found_under a c)

-- the walk has come to an expression of this kind: all its parts lie ahead
pub begins_parts : (g : Given) (s : Schedule) (n : ExprId) (y : RawExpr) (x : Option Ty) (c : InferenceContext) (P : Assignment → Debt) → Within g s n x c → slice_get g.body.exprs n.0 ≡ Some y → WalksParts g s (inner (node.ExprId n)) P (expr_parts g.body y) c c
begins_parts g s n y x c P h is =
    let p = expr_ahead g.body s n y c.clock h.ready.law.schedule h.within is h.clock in
    record {
      follows = follows_itself g c h.state.of_body h.state.sound;
      each = λ a q. record { walks = walks_refl g s (P a) (found_under a c) (h.state.each a q); ahead = p.0; ends = p.1 };
    }

-- P is owed on as R
abbrev pub OwesOn : (Assignment → Debt) → (Assignment → Debt) → Type 0
OwesOn P R = (a : Assignment) (b : ExprId) (m : TypeMismatch) → P a b m → R a b m

-- what is owed of a part is owed on as R, or its place asks it
abbrev pub PaysPart : Given → (Assignment → Debt) → (Assignment → Debt) → InferenceContext → Type 0
PaysPart g Q R next = (a : Assignment) → Closes a next → (b : ExprId) (m : TypeMismatch) → Q a b m → Demand g (found_under a next).result b m.expected ⊎ R a b m

-- the walk came past a part, of which it owes Q
abbrev pub PastPart : Given → Schedule → Part → (Assignment → Debt) → InferenceContext → InferenceContext → Type 0
PastPart g s p Q c next = (a : Assignment) → Closes a next → Walks g s (Q a) (found_under a c) (found_under a next) × (next.clock ≡ end g.body s (inner p.node))

-- what lies behind the next part, whatever it is
pub goes_past : (g : Given) (s : Schedule) (n : Node) (P Q R : Assignment → Debt) (p : Part) (ps : List Part) (mid c next : InferenceContext) → WalksParts g s n P (p ∷ ps) mid c → Follows g c next → PastPart g s p Q c next → OwesOn P R → PaysPart g Q R next → WalksParts g s n R ps mid next
goes_past g s n P Q R p ps mid c next w f done keep pay = record {
  follows = follows_twice g mid c next w.follows f;
  each = λ a q.
      let h = w.each a (closes_before g a c next f q) in
      let k = done a q in
      record {
        walks = walks_trans g s (R a) (found_under a mid) (found_under a c) (found_under a next)
            (walks_paid g s (P a) (R a) (found_under a mid) (found_under a c) (λ b m o. inr (keep a b m o)) h.walks)
            (walks_paid g s (Q a) (R a) (found_under a c) (found_under a next) (pay a q) k.0);
        ahead = subst (λ j. LieAhead g.body s n j ps) (sym k.1) (ahead_rest g.body s n c.clock p ps h.ahead);
        ends = subst (λ j. after g.body s j ps ≡ end g.body s n) (sym k.1) h.ends;
      };
}

-- where only bindings were added, it is the same
pub binds_on : (g : Given) (s : Schedule) (n : Node) (P : Assignment → Debt) (ps : List Part) (mid c next : InferenceContext) → WalksParts g s n P ps mid c → OnlyBinds g c next → WalksParts g s n P ps mid next
binds_on g s n P ps mid c next w o = record {
  follows = follows_twice g mid c next w.follows o.follows;
  each = λ a l. subst (λ z. InParts g s n (P a) ps (found_under a mid) z) (sym (same_found a c next o.result o.asked o.clock)) (w.each a (closes_before g a c next o.follows l));
}

-- ---- expressions

-- what an expression owes of which x is expected
abbrev pub OwedOf : ExprId → Option Ty → Assignment → Debt
OwedOf e x a = Owed e (expected_under a x)

module _ (g : Given) (s : Schedule) (n : Node) (P : Assignment → Debt) (role : Role) (e : ExprId) (ps : List Part) (mid c : InferenceContext) (w : WalksParts g s n P (expr_part role e ∷ ps) mid c) where
  -- the next part
  pub comes_to : (x : Option Ty) → IsReady g s → IsTold g mid → IsFineExpectation g.scope c.goals.table x → Before g s e x c
  comes_to x ready told fine =
      let q = w.follows.sound.some in
      let here = w.each q.0 q.1 in
      record {
        ready = ready;
        state = walking_after g s mid c told w.follows (λ a l. (w.each a l).walks.state);
        within = here.ahead.fit.0;
        here = here.ahead.fit.1;
        expected = fine;
      }

  pub goes_past_own : (R : Assignment → Debt) (x : Option Ty) (t : Ty) (next : InferenceContext) → OwnDone g s e x t c next → OwesOn P R → PaysPart g (OwedOf e x) R next → WalksParts g s n R ps mid next
  goes_past_own R x t next d = goes_past g s n P (OwedOf e x) R (expr_part role e) ps mid c next w d.follows (λ a q. ((d.each a q).walks, (d.each a q).clock))

  pub goes_past_coerced : (R : Assignment → Debt) (x : Option Ty) (t : Ty) (next : InferenceContext) → CoerceDone g s e x t c next → OwesOn P R → PaysPart g (OwedOf e x) R next → WalksParts g s n R ps mid next
  goes_past_coerced R x t next d = goes_past g s n P (OwedOf e x) R (expr_part role e) ps mid c next w d.follows (λ a q. ((d.each a q).walks, (d.each a q).clock))

-- ---- expressions that are numbered

pub part_at : (role : ℕ → Role) (es : List ExprId) (i : ℕ) (e : ExprId) → e ≡ get_or es i e → i < length es → exprs_from role i (drop i es) ≡ expr_part (role i) e ∷ exprs_from role (i + 1) (drop (i + 1) es)
part_at role es i e is k =
    let d : drop i es ≡ e ∷ drop (i + 1) es = drop-step es i e k ∙ ap (λ x. x ∷ drop (i + 1) es) (sym is) in
    let z : suc i ≡ i + 1 = omega arith in
    ap (λ l. exprs_from role i l) d ∙ ap (λ j. expr_part (role i) e ∷ exprs_from role j (drop (i + 1) es)) z

-- where the i-th of them stands among all
pub expr_at : (role : ℕ → Role) (from : ℕ) (es : List ExprId) (i : ℕ) (e : ExprId) → slice_get es i ≡ Some e → slice_get (exprs_from role from es) i ≡ Some (expr_part (role (from + i)) e)
expr_at role from [] i e h = absurd (cc)
expr_at role from (n ∷ es) zero e h =
    let k : n ≡ e = cc in
    let z : from ≡ from + zero = omega arith in
    ap (λ m. Some (expr_part (role from) m)) k ∙ ap (λ j. Some (expr_part (role j) e)) z
expr_at role from (n ∷ es) (suc i) e h =
    let z : suc from + i ≡ from + suc i = omega arith in
    expr_at role (suc from) es i e h ∙ ap (λ j. Some (expr_part (role j) e)) z

pub none_left : (role : ℕ → Role) (es : List ExprId) (i : ℕ) → length es ≤ i → exprs_from role i (drop i es) ≡ []
none_left role es i over = ap (λ l. exprs_from role i l) (drop_of_length-le es over)

-- the first i of these parts are behind
abbrev pub AtPart : Given → Schedule → Node → (Assignment → Debt) → (ℕ → Role) → List ExprId → ℕ → InferenceContext → InferenceContext → Type 0
AtPart g s n P role es i mid c = WalksParts g s n P (exprs_from role i (drop i es)) mid c

module _ (g : Given) (s : Schedule) (n : Node) (P : Assignment → Debt) (role : ℕ → Role) (es : List ExprId) (i : ℕ) (mid c : InferenceContext) (w : AtPart g s n P role es i mid c) where
  module _ (e : ExprId) (is : e ≡ get_or es i e) (k : i < length es) where
    pub here_part : WalksParts g s n P (expr_part (role i) e ∷ exprs_from role (i + 1) (drop (i + 1) es)) mid c
    here_part = subst (λ ps. WalksParts g s n P ps mid c) (part_at role es i e is k) w

    pub comes_to_part : (x : Option Ty) → IsReady g s → IsTold g mid → IsFineExpectation g.scope c.goals.table x → Before g s e x c
    comes_to_part = comes_to g s n P (role i) e (exprs_from role (i + 1) (drop (i + 1) es)) mid c here_part

    pub past_own_part : (R : Assignment → Debt) (x : Option Ty) (t : Ty) (next : InferenceContext) → OwnDone g s e x t c next → OwesOn P R → PaysPart g (OwedOf e x) R next → AtPart g s n R role es (i + 1) mid next
    past_own_part = goes_past_own g s n P (role i) e (exprs_from role (i + 1) (drop (i + 1) es)) mid c here_part

    pub past_coerced_part : (R : Assignment → Debt) (x : Option Ty) (t : Ty) (next : InferenceContext) → CoerceDone g s e x t c next → OwesOn P R → PaysPart g (OwedOf e x) R next → AtPart g s n R role es (i + 1) mid next
    past_coerced_part = goes_past_coerced g s n P (role i) e (exprs_from role (i + 1) (drop (i + 1) es)) mid c here_part

  -- once all are behind, the walk is at the end of the node
  pub all_past : length es ≤ i → (a : Assignment) → Closes a c → c.clock ≡ end g.body s n
  all_past over a q = subst (λ ps. after g.body s c.clock ps ≡ end g.body s n) (none_left role es i over) (w.each a q).ends
