-- One part of a pattern after another.
use Rattle.std.proofs.Common.{ℕ, ◌+◌, ◌<◌, ◌≤◌, ◌≡◌, List, [], ◌∷◌, length, drop, get_or, sym, ap, subst, ◌∙◌, arith, suc, Option, Some, slice_get}
use Rattle.std.proofs.Math.ListN.{drop_of_length-le}
use Rattle.infer_pat.specs.Words.{PatId, Ty, Assignment, RawPat, Schedule, inner, after, pat_part, pat_parts, subpatterns, subpattern, IsOfBody, Given, InferenceContext, Closes, IsSound, expected_under, found_under, IsFineExpectation, IsTold, IsReady, IsWalked, Nothing, pat_start, pat_end}
use Rattle.hir_types.specs.declared.ids.ExprOrPatId.TheVariants as node
use Rattle.infer_pat.specs.Words.infer_result.Incoming.{Gives}
use Rattle.infer_pat.proofs.Words.{follows_itself, walking_after, walks_refl, WalksParts, goes_past, drop-step, ahead_stands, pat_ahead, part_tells}
use Rattle.infer_pat.specs.Own.{BeforePat, PatDone}

-- the first i parts of the pattern p are behind, and the others lie ahead; no part owes anything
abbrev pub AtPat : Given → Schedule → PatId → List PatId → ℕ → InferenceContext → InferenceContext → Type 0
AtPat g s p ps i mid c = WalksParts g s (inner (node.PatId p)) (λ a. Nothing) (subpatterns i (drop i ps)) mid c

-- the walk has come to the pattern itself
pub begins_pats : (g : Given) (s : Schedule) (p : PatId) (y : RawPat) (mid : InferenceContext) → IsReady g s → p.0 < length g.body.pats → slice_get g.body.pats p.0 ≡ Some y → mid.clock ≡ pat_start g.body s p + 1 → IsOfBody g.body mid.result → IsSound g.scope mid →
    ((a : Assignment) → Closes a mid → IsWalked g s (found_under a mid)) → WalksParts g s (inner (node.PatId p)) (λ a. Nothing) (pat_parts y) mid mid
begins_pats g s p y mid ready within is at of_body sound state =
    let parts = pat_ahead g.body s p y mid.clock ready.law.schedule within is at in
    record {
      follows = follows_itself g mid of_body sound;
      each = λ a k. record { walks = walks_refl g s Nothing (found_under a mid) (state a k); ahead = parts.0; ends = parts.1 };
    }

next_pat : (ps : List PatId) (i : ℕ) (q : PatId) → q ≡ get_or ps i q → i < length ps → subpatterns i (drop i ps) ≡ pat_part (subpattern i) q ∷ subpatterns (i + 1) (drop (i + 1) ps)
next_pat ps i q is k =
    let d : drop i ps ≡ q ∷ drop (i + 1) ps = drop-step ps i q k ∙ ap (λ x. x ∷ drop (i + 1) ps) (sym is) in
    let z : suc i ≡ i + 1 = omega arith in
    ap (λ l. subpatterns i l) d ∙ ap (λ j. pat_part (subpattern i) q ∷ subpatterns j (drop (i + 1) ps)) z

module _ (g : Given) (s : Schedule) (p : PatId) (ps : List PatId) (i : ℕ) (mid c : InferenceContext) (w : AtPat g s p ps i mid c) where
  module _ (q : PatId) (is : q ≡ get_or ps i q) (k : i < length ps) where
    here_pat : WalksParts g s (inner (node.PatId p)) (λ a. Nothing) (pat_part (subpattern i) q ∷ subpatterns (i + 1) (drop (i + 1) ps)) mid c
    here_pat = subst (λ qs. WalksParts g s (inner (node.PatId p)) (λ a. Nothing) qs mid c) (next_pat ps i q is k) w

    -- the next part, into which the pattern gives x
    pub comes_to_pat : (x : Option Ty) → IsReady g s → IsTold g mid → IsFineExpectation g.scope c.goals.table x →
        ((a : Assignment) → Closes a c → (t : Ty) → expected_under a x ≡ Some t → Gives g (found_under a c).result (inner (node.PatId p)) (subpattern i) t) → BeforePat g s q x c
    comes_to_pat x ready told fine gives =
        let rest = subpatterns (i + 1) (drop (i + 1) ps) in
        let z = w.follows.sound.some in
        let lies = (here_pat.each z.0 z.1).ahead in
        let place = ahead_stands g.body s (inner (node.PatId p)) c.clock (pat_part (subpattern i) q) rest lies in
        record {
          ready = ready;
          state = walking_after g s mid c told w.follows (λ a l. (w.each a l).walks.state);
          within = lies.fit.0;
          here = lies.fit.1;
          fine = fine;
          tells = λ t e. part_tells g s ready.law (inner (node.PatId p)) place.0 q i place.1 t;
          incoming = λ a l t e. record { parent = inner (node.PatId p); at_part = place.0; role = subpattern i; stands = place.1; gives = gives a l t e };
        }

    pub past_pat : (x : Option Ty) (next : InferenceContext) → PatDone g s q x c next → AtPat g s p ps (i + 1) mid next
    past_pat x next d =
        goes_past g s (inner (node.PatId p)) (λ a. Nothing) (λ a. Nothing) (λ a. Nothing) (pat_part (subpattern i) q) (subpatterns (i + 1) (drop (i + 1) ps)) mid c next here_pat d.follows
        (λ a l. ((d.each a l).walks, (d.each a l).clock)) (λ a b m o. o) (λ a l b m o. absurd o)

  -- once all are behind, the walk is at the end of the pattern
  pub pats_past : length ps ≤ i → (a : Assignment) → Closes a c → c.clock ≡ pat_end g.body s p
  pats_past over a l =
      let none : drop i ps ≡ [] = drop_of_length-le ps over in
      subst (λ qs. after g.body s c.clock (subpatterns i qs) ≡ pat_end g.body s p) none (w.each a l).ends
