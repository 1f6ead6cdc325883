-- Arguments, each at its input.
use Rattle.std.proofs.Common.{ℕ, ◌+◌, ◌<◌, ◌≤◌, ◌≡◌, inl, List, length, get_or, map, take, refl, sym, ap, subst, ◌∙◌, arith, Some, slice_get, option_map}
use Rattle.std.proofs.lemmas.List.{length-map, take_all}
use Rattle.std.proofs.lemmas.Option.{slice_get_read, slice_get-map}
use Rattle.infer_calls.specs.Words.{ExprId, Ty, Assignment, folded, inner, argument, Schedule, Given, IsAtOrMismatch, Demand, InferenceResult, AllAt, InferenceContext, Closes, found_under, Found, Before, CoerceDone, OnlyBinds, Extends, Nothing}
use Rattle.hir_types.specs.declared.ids.ExprOrPatId.TheVariants as node
use Rattle.infer_calls.proofs.Words.{follows_itself, closes_before, walks_refl, fine_grown, AtPart, binds_on, comes_to_part, past_coerced_part, all_past, all_kept, extends_trans, take_next, all_push}
use Rattle.infer_calls.specs.Own.{BeforeInputs, ArgsDone}
use Rattle.infer_calls.proofs.CallWalk.{found_same, input_fine, asks_inputs}

-- the first i of them are at the first inputs
pub record AtArgs (g : Given) (s : Schedule) (n : ExprId) (args : List ExprId) (ss : List Ty) (i : ℕ) (mid c : InferenceContext) : Type 0 where
  pub before : BeforeInputs g s n args ss mid
  pub walk : AtPart g s (inner (node.ExprId n)) (λ a. Nothing) argument args i mid c
  pub made : (a : Assignment) → Closes a c → AllAt (IsAtOrMismatch (found_under a c).result) (take i args) (take i (map (folded a) ss))

module _ (g : Given) (s : Schedule) (n : ExprId) (args : List ExprId) (ss : List Ty) (mid : InferenceContext) where
  pub begins_args : BeforeInputs g s n args ss mid → AtArgs g s n args ss 0 mid mid
  begins_args h = record {
    before = h;
    walk = record {
      follows = follows_itself g mid h.before.state.of_body h.before.state.sound;
      each = λ a q. record {
        walks = walks_refl g s Nothing (found_under a mid) (h.before.state.each a q);
        ahead = (h.before.each a q).ahead;
        ends = (h.before.each a q).ends;
      };
    };
    made = λ a q. tt;
  }

  -- where only bindings were added
  pub args_on : (i : ℕ) (c next : InferenceContext) → AtArgs g s n args ss i mid c → OnlyBinds g c next → AtArgs g s n args ss i mid next
  args_on i c next h o = record {
    before = h.before;
    walk = binds_on g s (inner (node.ExprId n)) (λ a. Nothing) _ mid c next h.walk o;
    made = λ a q. subst (λ (f : Found). AllAt (IsAtOrMismatch f.result) (take i args) (take i (map (folded a) ss))) (found_same g s n args c next o a) (h.made a (closes_before g a c next o.follows q));
  }

  module _ (i : ℕ) (c : InferenceContext) (h : AtArgs g s n args ss i mid c) where
    module _ (e : ExprId) (is : e ≡ get_or args i e) (k : i < length args) (u : Ty) (input : slice_get ss i ≡ Some u) where
      pub comes_to_arg : Before g s e (Some u) c
      comes_to_arg =
          comes_to_part _ _ _ _ _ _ _ _ _ h.walk e is k (Some u) h.before.before.ready h.before.before.state.told
          (fine_grown g.scope mid.goals.table c.goals.table u h.walk.follows.grew (input_fine g s n args ss mid h.before i u input))

      input_under : (a : Assignment) → slice_get (map (folded a) ss) i ≡ Some (folded a u)
      input_under a = slice_get-map (folded a) ss i ∙ ap (option_map (folded a)) input

      -- the call asks it of the argument
      asks_arg : (a : Assignment) (r : InferenceResult) → Closes a mid → Extends (found_under a mid).result r → Demand g r e (folded a u)
      asks_arg a r y x = asks_inputs g s n args ss mid h.before a y i e (folded a u) (slice_get_read args _ i e refl k is) (input_under a) r x

      pub goes_past_arg : (t : Ty) (next : InferenceContext) → CoerceDone g s e (Some u) t c next → AtArgs g s n args ss (i + 1) mid next
      goes_past_arg t next d = record {
        before = h.before;
        walk = past_coerced_part _ _ _ _ _ _ _ _ _ h.walk e is k (λ a. Nothing) (Some u) t next d (λ a b m p. p) (λ a q b m o. inl (
            let now = (found_under a next).result in
            let z : Closes a c = closes_before g a c next d.follows q in
            let x = extends_trans _ _ now (h.walk.each a z).walks.extends (d.each a q).walks.extends in
            let asked = asks_arg a now (closes_before g a mid c h.walk.follows z) x in
            subst (λ x. Demand g now x m.expected) (sym o.0) (subst (λ x. Demand g now e x) (sym o.1) asked)));
        made = λ a q.
            let now = (found_under a next).result in
            let vs : List Ty = take i (map (folded a) ss) in
            let before = h.made a (closes_before g a c next d.follows q) in
            rw (take_next args i e (slice_get_read args _ i e refl k is), take_next (map (folded a) ss) i (folded a u) (input_under a)) (
            all_push now (take i args) vs e (folded a u)
            (all_kept g (found_under a c).result now (d.each a q).walks.extends (take i args) vs before) (d.each a q).placed.1
            );
      }

    pub ends_args : length args ≡ length ss → length args ≤ i → ArgsDone g s n args ss mid c
    ends_args count over = record {
      follows = h.walk.follows;
      each = λ a q.
          let us : List Ty = map (folded a) ss in
          let all_inputs : length us ≤ i = omega (arith, count, length-map ss (folded a), over) in
          record {
            walks = (h.walk.each a q).walks;
            clock = all_past _ _ _ _ _ _ _ _ _ h.walk over a q;
            made = inl (inl (
                subst (λ l. AllAt (IsAtOrMismatch (found_under a c).result) l us) (take_all i args over)
                (subst (λ l. AllAt (IsAtOrMismatch (found_under a c).result) (take i args) l) (take_all i us all_inputs) (h.made a q))));
          };
    }
