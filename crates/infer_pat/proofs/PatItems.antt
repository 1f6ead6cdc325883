-- Which item a pattern is of, recorded beside its type.
use Rattle.std.proofs.Common.{◌≡◌, refl, Option, Some, None, ℕ, ◌<◌, ◌≤◌, ◌≢◌, ◌⊎◌, length, arith, inl, inr, sym, ap, subst, ◌∙◌, slice_get}
use Rattle.std.proofs.Math.ListN.{length-set}
use Rattle.infer_pat.specs.Words.{PatId, Ty, Schedule, IsCarriedType, IsItemOfPat, Given, At, PatItem, Found, with_pat_item, Extends, IsFree, IsWalked, pat_start}
use Rattle.infer_pat.proofs.Words.{columns_written, long_with, types_with, extends_trans, obeys_kept, pat_kept, pat_at_kept, pat_truth_kept, misfit_kept, demand_kept, diagnostic_kept, seen_as_kept, At-set, At-set_cases, slice_get-set_same, slice_get-set_other, pat_id}
use Rattle.infer_pat.specs.Own.{IsPatPlaced, IsDemanded, PatIsDemanded, PartsAreCounted}
use Rattle.infer_pat.proofs.PatDemands.{Demands}
use Rattle.infer_pat.proofs.PatSteps.{open_walked}
use Rattle.infer_pat.specs.Words.infer_result.Columns as column

-- ---- what leaves the items alone

pub counted_items : (p : PatId) (n m : ℕ) (old new : Found) → PartsAreCounted p n m old new → new.result.item_of_pat ≡ old.result.item_of_pat
counted_items p n m old new (inl k) = ap (λ (c : Found). c.result.item_of_pat) k.1
counted_items p n m old new (inr k) = ap (λ (c : Found). c.result.item_of_pat) k.1

asked_items : (p : PatId) (t : Ty) (x : Option Ty) (old new : Found) → IsDemanded p t x old new → new.result.item_of_pat ≡ old.result.item_of_pat
asked_items p t None old new d = ap (λ (c : Found). c.result.item_of_pat) d
asked_items p t (Some u) old new (inl d) = ap (λ (c : Found). c.result.item_of_pat) d.1
asked_items p t (Some u) old new (inr d) = ap (λ (c : Found). c.result.item_of_pat) d.1

pub demanded_items : (p : PatId) (t : Ty) (x : Option Ty) (old new : Found) → PatIsDemanded p t x old new → new.result.item_of_pat ≡ old.result.item_of_pat
demanded_items p t x old new d = ap (λ (c : Found). c.result.item_of_pat) d.recorded ∙ asked_items p t x old d.mid d.demanded

-- ---- the record of an item

module _ (g : Given) (s : Schedule) (p : PatId) (t u : Ty) (x : Option Ty) (old mid c : Found) (d : Demands g s p t x old mid c) (within : p.0 < length g.body.pats) (here : pat_start g.body s p ≡ old.clock)
    (free : IsFree c.result.item_of_pat p.0) (carried : IsCarriedType u) (of : IsItemOfPat g.scope.facts g.body p u) where
  abbrev new : Found
  new = with_pat_item c p u

  long : p.0 < length c.result.item_of_pat
  long = rw (d.state.of_body.long column.item_of_pat) within

  extends : Extends c.result new.result
  extends = record {
    columns = columns_written c.result column.item_of_pat _ (λ n w i. At-set c.result.item_of_pat p.0 n u w free i);
    diagnostics = λ e k i. inl i;
    seen = λ e k. record { position = k.position; entry = k.entry; found = k.found; is_node = k.is_node };
  }

  item_cases : (n : ℕ) (w : Ty) → At new.result.item_of_pat n w → At c.result.item_of_pat n w ⊎ ((n ≡ p.0) × (u ≡ w))
  item_cases n w i = At-set_cases c.result.item_of_pat p.0 n u w long i

  -- a pattern that lies ahead is another one
  other : (q : PatId) → new.clock ≤ pat_start g.body s q → q.0 ≢ p.0
  other q lo is = (let same : pat_start g.body s q ≡ pat_start g.body s p = ap (λ z. pat_start g.body s z) (pat_id q p is) in omega (arith, same, here, d.clock, lo))

  state : IsWalked g s new
  state = record {
    of_body = long_with g.body c.result column.item_of_pat _ (length-set c.result.item_of_pat p.0 (Some u) ∙ d.state.of_body.long column.item_of_pat) d.state.of_body;
    carried = types_with IsCarriedType c.result column.item_of_pat _ (λ n w i. elim (item_cases n w i) [
      | inl q ↦ d.state.carried.each column.item_of_pat n w q
      | inr q ↦ subst (λ z. IsCarriedType z) q.1 carried
    ]) d.state.carried;
    modes = d.state.modes;
    free_exprs = d.state.free_exprs;
    free_pats = d.state.free_pats;
    free_modes = d.state.free_modes;
    free_bindings = d.state.free_bindings;
    bound = d.state.bound;
    diagnostics = λ e k i. diagnostic_kept g c.result new.result extends e k (d.state.diagnostics e k i);
    pat_diagnostics = d.state.pat_diagnostics;
    variants = record { exprs = d.state.variants.exprs; pats = d.state.variants.pats };
    items = λ q w i. elim (item_cases q.0 w i) [
      | inl k ↦ d.state.items q w k
      | inr k ↦ subst (λ z. IsItemOfPat g.scope.facts g.body z w) (pat_id p q (sym k.0)) (subst (λ z. IsItemOfPat g.scope.facts g.body p z) k.1 of)
    ];
    free_items = λ q i lo. slice_get-set_other c.result.item_of_pat p.0 q.0 (Some u) (other q lo) ∙ d.state.free_items q i lo;
    placeholders = d.state.placeholders;
    seen = λ i y at. seen_as_kept g c new extends (λ e k q. q) refl y (d.state.seen i y at);
  }

  placed : (y : Option Ty) → IsPatPlaced g c.result p y → IsPatPlaced g new.result p y
  placed None h = tt
  placed (Some w) h = pat_at_kept g c.result new.result extends p w h

  pub item_has : PatItem new.result p u
  item_has = slice_get-set_same c.result.item_of_pat p.0 (Some u) long

  pub item_demands : Demands g s p t x old mid new
  item_demands = record {
    enters = record {
      clock = d.enters.clock;
      extends = extends_trans old.result c.result new.result d.enters.extends extends;
      kept = d.enters.kept;
      kept_pats = d.enters.kept_pats;
      state = open_walked g s p new state;
      made = λ e i lo hi. obeys_kept g c.result new.result extends e (d.enters.made e i lo hi);
      pats_made = λ q i apart lo hi. pat_kept g c.result new.result extends q (slice_get g.body.pats q.0) (d.enters.pats_made q i apart lo hi);
      truths = λ e m i.
          elim (d.enters.truths e m i) [
            | inl q ↦ inl q
            | inr q ↦ inr (misfit_kept g c.result new.result extends e m q.0, demand_kept g c.result new.result extends e m.expected q.1)
          ];
      pat_truths = λ q m i. elim (d.enters.pat_truths q m i) [ inl k ↦ inl k | inr k ↦ inr (pat_truth_kept g c.result new.result extends q m k) ];
    };
    state = state;
    extends = extends_trans mid.result c.result new.result d.extends extends;
    type_is = d.type_is;
    clock = d.clock;
    placed = placed x d.placed;
  }
