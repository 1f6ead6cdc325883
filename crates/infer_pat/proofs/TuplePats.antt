-- Tuple patterns: what is asked of what comes in, and the loop over the parts.
use Rattle.std.proofs.Common.{ℕ, ◌≡◌, List, take, drop, arith, Option, ◌+◌, [], ◌∷◌, ◌++◌, ◌<◌, ◌≤◌, inl, length, get_or, sym, ap, subst, ◌∙◌, Some, None, slice_get, append-nil, map, option_map}
use Rattle.std.proofs.Math.ListN.{drop_of_length-le, take-append-drop}
use Rattle.std.proofs.lemmas.List.{take_more, length-map}
use Rattle.std.proofs.lemmas.Option.{slice_get-get_or, slice_get_within, slice_get-map}
use Rattle.infer_pat.specs.Words.{PatId, Ty, Schedule, AreCarriedTypes, PatTy, Given, PatIsAtOrMismatch, AllPatsAt, InferenceResult, Assignment, folded, SaysItsType, InferenceContext, Closes, found_under, expected_under, IsTold, IsFine, AllFine}
use Rattle.infer_pat.proofs.Words.{all_pats_kept, pat_at_kept, carried_tuple_of, grew_twice, told_same, told_entered, closes_before, follows_twice, same_found, closes_earlier, all_fine_grown, every_at, every_from}
use Rattle.infer_pat.specs.Own.{AreTupleParts, HandsParts, ComesToPat, IsTuplePatOf, IsPatPlaced, BeforePat, PatDemanded, PatIsDemanded, PatDone}
use Rattle.infer_pat.proofs.PatDemands.{Demands, entered_opening, pat_demanded}
use Rattle.infer_pat.proofs.PatSteps.{enters_more, enters_done, before_pat_under}
use Rattle.infer_pat.proofs.Pats.{pat_rule_of}
use Rattle.infer_pat.proofs.PatHoles.{carried_each, tuple_under}
use Rattle.infer_pat.proofs.PatParts.{AtPat, begins_pats, comes_to_pat, past_pat, pats_past}
use Rattle.hir_types.specs.declared.ty.Ty.TheVariants as ty
use Rattle.infer_pat.specs.Words.hir_raw.declared.raw.RawPat.TheVariants as pat
use Rattle.infer_pat.specs.Words.infer_ctx.Context as context
use Rattle.infer_pat.specs.Words.infer_ctx.Found as found
use Rattle.infer_pat.specs.Words.infer_result.Columns as column

-- the tuple of ts is asked of what comes into the pattern p, of which ps are the parts
pub record TuplePatBegun (g : Given) (s : Schedule) (p : PatId) (ps : List PatId) (ts : List Ty) (x : Option Ty) (old mid : InferenceContext) : Type 0 where
  pub before : BeforePat g s p x old
  pub is : IsTuplePatOf g.body p ps
  pub holed : InferenceContext
  pub parts : AreTupleParts g.scope x (length ps) ts (context.entered old) holed
  pub demanded : PatDemanded g p (ty.Tuple ts) x holed mid

pub tuple_pat_begun : (g : Given) (s : Schedule) (p : PatId) (ps : List PatId) (ts made : List Ty) (own : Ty) (x : Option Ty) (old first holed mid : InferenceContext) → BeforePat g s p x old → IsTuplePatOf g.body p ps → first ≡ context.entered old → ts ≡ made → AreTupleParts g.scope x (length ps) made first holed → own ≡ ty.Tuple ts → PatDemanded g p own x holed mid → TuplePatBegun g s p ps ts x old mid
tuple_pat_begun g s p ps ts made own x old first holed mid h is at same parts tuple demanded = record {
  before = h;
  is = is;
  holed = holed;
  parts = subst (λ c. AreTupleParts g.scope x (length ps) ts c holed) at (subst (λ us. AreTupleParts g.scope x (length ps) us first holed) (sym same) parts);
  demanded = subst (λ t. PatDemanded g p t x holed mid) tuple demanded;
}

module _ (g : Given) (s : Schedule) (p : PatId) (ps : List PatId) (ts : List Ty) (x : Option Ty) (old mid : InferenceContext) (b : TuplePatBegun g s p ps ts x old mid) where
  holed_fine : AllFine g.scope b.holed.goals.table ts
  holed_fine = every_from (IsFine g.scope b.holed.goals.table) ts b.parts.made.fine

  module _ (a : Assignment) (k : Closes a mid) where
    at_holes : Closes a b.holed
    at_holes = closes_before g a b.holed mid b.demanded.follows k

    at_old : Closes a old
    at_old = closes_earlier a old b.holed b.parts.made.grew at_holes

    begun_before : ComesToPat g s p (expected_under a x) (found_under a old)
    begun_before = before_pat_under g s a old at_old p x b.before

    begun_carried : AreCarriedTypes (map (folded a) ts)
    begun_carried = carried_each g.scope a b.holed.goals.table ts k.closing holed_fine

    begun_demands : Demands g s p (ty.Tuple (map (folded a) ts)) (expected_under a x) (found_under a old) (found.entered (found_under a old)) (found_under a mid)
    begun_demands =
        let e : found_under a b.holed ≡ found.entered (found_under a old) = same_found a (context.entered old) b.holed b.parts.made.result b.parts.made.asked b.parts.made.clock in
        let asked : PatIsDemanded p (ty.Tuple (map (folded a) ts)) (expected_under a x) (found_under a b.holed) (found_under a mid) = subst (λ t. PatIsDemanded p t (expected_under a x) (found_under a b.holed) (found_under a mid)) (tuple_under a ts) (b.demanded.each a k) in
        pat_demanded g s p (ty.Tuple (map (folded a) ts)) (expected_under a x) (found_under a old) (found.entered (found_under a old)) begun_before
        (entered_opening g s p (expected_under a x) (found_under a old) begun_before) (subst (λ o. SaysItsType o) (sym b.is) tt) (carried_tuple_of (map (folded a) ts) begun_carried) (found_under a mid)
        (subst (λ f. PatIsDemanded p (ty.Tuple (map (folded a) ts)) (expected_under a x) f (found_under a mid)) e asked)

  -- what is told stays so
  holed_told : IsTold g old → IsTold g b.holed
  holed_told told = told_same g (context.entered old) b.holed b.parts.made.result b.parts.made.stays b.parts.made.grew (told_entered g old told)

  begun_told : IsTold g mid
  begun_told = b.demanded.follows.told (holed_told b.before.state.told)

  begun_fine : AllFine g.scope mid.goals.table ts
  begun_fine = all_fine_grown g.scope b.holed.goals.table mid.goals.table ts b.demanded.follows.grew holed_fine

-- ---- the parts

-- the first i parts of the pattern p are behind, each at its component
pub record TupleParts (g : Given) (s : Schedule) (p : PatId) (ps : List PatId) (ts : List Ty) (i : ℕ) (mid c : InferenceContext) : Type 0 where
  pub walk : AtPat g s p ps i mid c
  pub made : (a : Assignment) → Closes a c → AllPatsAt g (found_under a c).result (take i ps) (take i (map (folded a) ts))

pats_push : (g : Given) (r : InferenceResult) (ps : List PatId) (ts : List Ty) (p : PatId) (t : Ty) → AllPatsAt g r ps ts → PatIsAtOrMismatch g r p t → AllPatsAt g r (ps ++ p ∷ []) (ts ++ t ∷ [])
pats_push g r [] [] p t h k = (k, tt)
pats_push g r [] (u ∷ ts) p t h k = absurd h
pats_push g r (q ∷ ps) [] p t h k = absurd h
pats_push g r (q ∷ ps) (u ∷ ts) p t h k = (h.0, pats_push g r ps ts p t h.1 k)

module _ (g : Given) (s : Schedule) (p : PatId) (ps : List PatId) (ts : List Ty) (x : Option Ty) (old mid : InferenceContext) (b : TuplePatBegun g s p ps ts x old mid) where
  pub begun_clock : mid.clock ≡ old.clock + 1
  begun_clock = b.demanded.clock ∙ b.parts.made.clock

  pub begins_tuple_pat : TupleParts g s p ps ts 0 mid mid
  begins_tuple_pat = record {
    walk =
        begins_pats g s p (pat.Tuple ps) mid b.before.ready b.before.within b.is (begun_clock ∙ ap (λ k. k + 1) (sym b.before.here)) b.demanded.follows.of_body b.demanded.follows.sound
        (λ a k. (begun_demands g s p ps ts x old mid b a k).state);
    made = λ a k. tt;
  }

  module _ (i : ℕ) (c : InferenceContext) (h : TupleParts g s p ps ts i mid c) where
    demands_at : (a : Assignment) (l : Closes a c) → Demands g s p (ty.Tuple (map (folded a) ts)) (expected_under a x) (found_under a old) (found.entered (found_under a old)) (found_under a mid)
    demands_at a l = begun_demands g s p ps ts x old mid b a (closes_before g a mid c h.walk.follows l)

    has_tuple : (a : Assignment) → Closes a c → PatTy (found_under a c).result p (ty.Tuple (map (folded a) ts))
    has_tuple a l = (h.walk.each a l).walks.extends.columns column.type_of_pat p.0 (ty.Tuple (map (folded a) ts)) (demands_at a l).type_is

    module _ (q : PatId) (t : Ty) (is : q ≡ get_or ps i q) (type_at : slice_get ts i ≡ Some t) (k : i < length ps) where
      type_under : (a : Assignment) → slice_get (map (folded a) ts) i ≡ Some (folded a t)
      type_under a = slice_get-map (folded a) ts i ∙ ap (option_map (folded a)) type_at

      pub comes_to_part : BeforePat g s q (Some t) c
      comes_to_part =
          comes_to_pat g s p ps i mid c h.walk q is k (Some t) b.before.ready (begun_told g s p ps ts x old mid b)
          (every_at (IsFine g.scope c.goals.table) ts i t (all_fine_grown g.scope mid.goals.table c.goals.table ts h.walk.follows.grew (begun_fine g s p ps ts x old mid b)) type_at)
          (λ a l u e. (let same : folded a t ≡ u = cc in inl (record { types = map (folded a) ts; has = has_tuple a l; component = type_under a ∙ ap (λ y. Some y) same })))

      pub goes_past_part : (next : InferenceContext) → PatDone g s q (Some t) c next → TupleParts g s p ps ts (i + 1) mid next
      goes_past_part next d = record {
        walk = past_pat g s p ps i mid c h.walk q is k (Some t) next d;
        made = λ a l.
            let m : Closes a c = closes_before g a c next d.follows l in
            let us : List Ty = map (folded a) ts in
            let r = (found_under a next).result in
            let within : i < length us = slice_get_within us i (folded a t) (type_under a) in
            let type_is : folded a t ≡ get_or us i (folded a t) = (let read : Some (folded a t) ≡ Some (get_or us i (folded a t)) = sym (type_under a) ∙ slice_get-get_or us i (folded a t) within in cc) in
            rw (take_more ps i q k, take_more us i (folded a t) within) (
            subst (λ y. AllPatsAt g r (take i ps ++ y ∷ []) (take i us ++ get_or us i (folded a t) ∷ [])) is (
            subst (λ y. AllPatsAt g r (take i ps ++ q ∷ []) (take i us ++ y ∷ [])) type_is (
            pats_push g r (take i ps) (take i us) q (folded a t) (all_pats_kept g (found_under a c).result r (d.each a l).walks.extends (take i ps) (take i us) (h.made a m)) (d.each a l).placed
            )
            )
            );
      }

    -- what its parts got
    pub hands_parts : HandsParts g p x (length ps) old c
    hands_parts = record { types = ts; holed = b.holed; parts = b.parts; each = has_tuple }

    whole : {X : Type 0} (xs : List X) → length xs ≤ i → take i xs ≡ xs
    whole xs over =
        let none : drop i xs ≡ [] = drop_of_length-le xs over in
        sym (append-nil (take i xs)) ∙ (ap (λ l. take i xs ++ l) (sym none) ∙ take-append-drop i xs)

    placed : (a : Assignment) (l : Closes a c) (y : Option Ty) → IsPatPlaced g (found_under a mid).result p y → IsPatPlaced g (found_under a c).result p y
    placed a l None d = tt
    placed a l (Some u) d = pat_at_kept g (found_under a mid).result (found_under a c).result (h.walk.each a l).walks.extends p u d

    pub ends_tuple_pat : length ps ≤ i → PatDone g s p x old c
    ends_tuple_pat over = record {
      follows = record {
        clock = omega (arith, begun_clock, h.walk.follows.clock);
        grew = grew_twice old.goals.table b.holed.goals.table c.goals.table b.parts.made.grew (follows_twice g b.holed mid c b.demanded.follows h.walk.follows).grew;
        sources = (follows_twice g b.holed mid c b.demanded.follows h.walk.follows).sources ∙ b.parts.made.stays.sources;
        of_body = h.walk.follows.of_body;
        sound = h.walk.follows.sound;
        told = λ told. h.walk.follows.told (b.demanded.follows.told (holed_told g s p ps ts x old mid b told));
      };
      each = λ a l.
          let us : List Ty = map (folded a) ts in
          let r = (found_under a c).result in
          let d = demands_at a l in
          let all = (h.walk.each a l).walks in
          let same : length us ≡ length ps = length-map ts (folded a) ∙ b.parts.made.count_is in
          let made : AllPatsAt g r ps us =
          subst (λ l. AllPatsAt g r l us) (whole ps over) (subst (λ l. AllPatsAt g r (take i ps) l) (whole us (omega (arith, same, over))) (h.made a l)) in
          record {
            walks = enters_done g s p (found_under a old) (found_under a c) (enters_more g s p (found_under a old) (found_under a mid) d.enters (found_under a c) all) all.state (pat_rule_of g r p (pat.Tuple ps) b.is (us, has_tuple a l, made));
            clock = pats_past g s p ps i mid c h.walk over a l;
            placed = placed a l (expected_under a x) d.placed;
          };
    }
