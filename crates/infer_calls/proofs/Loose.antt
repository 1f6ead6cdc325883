-- Arguments that are typed, each with its one of some types expected of it, as far as there is one.
use Rattle.std.proofs.Common.{ℕ, ◌+◌, ◌<◌, ◌≤◌, ◌≡◌, arith, inl, inr, refl, sym, ap, subst, ◌∙◌, List, length, get_or, map, Option, None, Some, option_map, slice_get}
use Rattle.std.proofs.lemmas.Option.{slice_get_read, slice_get-map, slice_get_within}
use Rattle.infer_calls.specs.Words.{ExprId, Ty, Assignment, folded, inner, argument, Schedule, Given, Demand, HasTy, TypeMismatch, InferenceContext, Closes, expected_under, found_under, IsFine, IsFineExpectation, Found, Before, Follows, OwnDone, OnlyBinds, OwnWalked, Nothing, Owed, SameOrDiffer}
use Rattle.hir_types.specs.declared.ids.ExprOrPatId.TheVariants as node
use Rattle.infer_calls.proofs.Words.{closes_before, follows_itself, follows_twice, walks_refl, same_found, fine_grown, AtPart, comes_to_part, past_own_part, binds_on, all_past, extends_trans, earlier_or_here, settled_later}
use Rattle.infer_calls.specs.Own.{BeforeLoose, IsMet, LooseDone}
use Rattle.infer_calls.specs.Words.infer_result.Columns as column

-- the first i of them are typed
pub record AtLoose (g : Given) (s : Schedule) (n : ExprId) (args : List ExprId) (ss : List Ty) (i : ℕ) (mid c : InferenceContext) : Type 0 where
  pub before : BeforeLoose g s n args ss mid
  pub walk : AtPart g s (inner (node.ExprId n)) (λ a. Nothing) argument args i mid c
  pub met : (j : ℕ) (e : ExprId) (u : Ty) → j < i → slice_get args j ≡ Some e → slice_get ss j ≡ Some u → IsMet c e u

module _ (g : Given) (s : Schedule) (n : ExprId) (args : List ExprId) (ss : List Ty) (mid : InferenceContext) where
  pub begins_loose : BeforeLoose g s n args ss mid → AtLoose g s n args ss 0 mid mid
  begins_loose h = record {
    before = h;
    walk = record {
      follows = follows_itself g mid h.state.of_body h.state.sound;
      each = λ a q. record {
        walks = walks_refl g s Nothing (found_under a mid) (h.state.each a q);
        ahead = (h.each a q).ahead;
        ends = (h.each a q).ends;
      };
    };
    met = λ j e u low at there. absurd (omega arith);
  }

  module _ (i : ℕ) (c : InferenceContext) (h : AtLoose g s n args ss i mid c) where
    module _ (e : ExprId) (is : e ≡ get_or args i e) (k : i < length args) where
      -- what is expected of it: to be at its one of the types, where there is one
      fine_at : (x : Option Ty) → slice_get ss i ≡ x → IsFineExpectation g.scope c.goals.table x
      fine_at None at = tt
      fine_at (Some u) at = fine_grown g.scope mid.goals.table c.goals.table u h.walk.follows.grew (h.before.fine i u at)

      pub comes_to_loose : (x : Option Ty) → x ≡ slice_get ss i → Before g s e x c
      comes_to_loose x own = comes_to_part _ _ _ _ _ _ _ _ _ h.walk e is k x h.before.ready h.before.state.told (fine_at x (sym own))

      -- what it owes is asked of it
      module _ (x : Option Ty) (own : x ≡ slice_get ss i) (t : Ty) (next : InferenceContext) (d : OwnDone g s e x t c next) where
        owed_asked : (a : Assignment) → Closes a next → (y : Option Ty) → slice_get ss i ≡ y → (b : ExprId) (m : TypeMismatch) → Owed e (expected_under a y) b m
            → Demand g (found_under a next).result b m.expected
        owed_asked a q None at b m o = absurd o
        owed_asked a q (Some u) at b m o =
            let now = (found_under a next).result in
            let z : Closes a c = closes_before g a c next d.follows q in
            let grown = extends_trans _ _ now (h.walk.each a z).walks.extends (d.each a q).walks.extends in
            let input : slice_get (map (folded a) ss) i ≡ Some (folded a u) = slice_get-map (folded a) ss i ∙ ap (option_map (folded a)) at in
            let asked = h.before.asks a (closes_before g a mid c h.walk.follows z) i e (folded a u) (slice_get_read args _ i e refl k is) input now grown in
            subst (λ n. Demand g now n m.expected) (sym o.0) (subst (λ v. Demand g now e v) (sym o.1) asked)

        module _ (last : InferenceContext) (o : OnlyBinds g next last) where
          as_found : (a : Assignment) (b : ExprId) (v : Ty) → HasTy (found_under a next).result b v → HasTy (found_under a last).result b v
          as_found a b v has = subst (λ (f : Found). HasTy f.result b v) (sym (same_found a next last o.result o.asked o.clock)) has

          typed_last : (a : Assignment) → Closes a last → OwnWalked g s e (expected_under a x) (folded a t) (found_under a c) (found_under a next)
          typed_last a q = d.each a (closes_before g a next last o.follows q)

          -- those before it are as they were
          still_met : (b : ExprId) (u : Ty) → IsMet c b u → IsMet last b u
          still_met b u m =
              let f : Follows g c last = follows_twice g c next last d.follows o.follows in
              record {
                type = m.type;
                has = λ a q. as_found a b (folded a m.type) ((typed_last a q).walks.extends.columns column.type_of_expr b.0 (folded a m.type) (m.has a (closes_before g a c last f q)));
                settled = settled_later g c last m.type u f m.settled;
              }

          -- and so is it itself
          now_met : (u : Ty) → SameOrDiffer last t u → IsMet last e u
          now_met u settled = record { type = t; has = λ a q. as_found a e (folded a t) (typed_last a q).type_is; settled = settled }

          pub goes_past_loose : ((u : Ty) → slice_get ss i ≡ Some u → SameOrDiffer last t u) → AtLoose g s n args ss (i + 1) mid last
          goes_past_loose settled = record {
            before = h.before;
            walk = binds_on _ _ _ _ _ _ _ _
                (past_own_part _ _ _ _ _ _ _ _ _ h.walk e is k (λ a. Nothing) x t next d (λ a b m p. p)
                (λ a q b m p. inl (owed_asked a q x (sym own) b m p))) o;
            met = λ j b u low at there. elim (earlier_or_here j i low) [
              | inl l ↦ still_met b u (h.met j b u l at there)
              | inr at_i ↦
                  (let here : slice_get args i ≡ Some e = slice_get_read args _ i e refl k is in
                  let mine : slice_get args i ≡ Some b = subst (λ m. slice_get args m ≡ Some b) at_i at in
                  let same : e ≡ b = (let q : Some e ≡ Some b = sym here ∙ mine in cc) in
                  subst (λ v. IsMet last v u) same (now_met u (settled u (subst (λ m. slice_get ss m ≡ Some u) at_i there))))
            ];
          }

    -- the type that may be made equal to the next one's is still fine
    pub still_fine : (u : Ty) (next : InferenceContext) → Follows g c next → slice_get ss i ≡ Some u → IsFine g.scope next.goals.table u
    still_fine u next f is = fine_grown g.scope mid.goals.table next.goals.table u (follows_twice g mid c next h.walk.follows f).grew (h.before.fine i u is)

    pub ends_loose : length args ≤ i → LooseDone g s n args ss mid c
    ends_loose over = record {
      follows = h.walk.follows;
      each = λ a q. record { walks = (h.walk.each a q).walks; clock = all_past _ _ _ _ _ _ _ _ _ h.walk over a q };
      met = λ j e u at there. (let within : j < length args = slice_get_within args j e at in h.met j e u (omega (arith, within, over)) at there);
    }
