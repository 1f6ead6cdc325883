-- The elements of a tuple, one after another.
use Rattle.std.proofs.Common.{inl, inr, refl, Option, Some, None, ◌<◌, length, ◌∙◌, ℕ, ◌≡◌, List, take, [], ◌+◌, ◌∷◌, ap, arith, slice_get, ◌≤◌, ◌++◌, get_or, map, sym, subst, length-append}
use Rattle.std.proofs.lemmas.List.{length-map, map-append, take_all}
use Rattle.std.proofs.lemmas.Option.{slice_get_read}
use Rattle.infer_tuples.specs.Words.{ExprId, Ty, folded, Assignment, with_holes, replaced_tuple, IsCarriedType, inner, element, expr_part, exprs_from, parts_of_expr, part_at, Schedule, Given, IsAtOrMismatch, Demand, AllAt, HasTy, InferenceResult, TypeMismatch, InferenceContext, Closes, found_under, element_type, IsFineExpectation, AllFine, Found, Before, CoerceDone, KindDone, Within, KindWalked, Debt, OwedAmong, PaidBy}
use Rattle.hir_types.specs.declared.ids.ExprOrPatId.TheVariants as node
use Rattle.hir_types.specs.declared.ty.Ty.TheVariants as ty
use Rattle.infer_tuples.specs.Words.hir_raw.declared.raw.RawExpr.TheVariants as expr
use Rattle.infer_tuples.proofs.Words.{closes_before, walks_paid, all_fine_grown, fine_push, fine_tuple, fine_element, fine_expectation_grown, AtPart, begins_parts, comes_to_part, past_coerced_part, all_past, expr_at, all_kept, rule_of, slice_get-append_left, slice_get-push, take_next, fine_closed, all_push, tuple_tells}
use Rattle.infer_tuples.specs.Own.{IsTupleOf}

-- what a tuple asks of its elements, once it has its type
element_demand : (g : Given) (n : ExprId) (es : List ExprId) (ts : List Ty) → n.0 < length g.body.exprs → IsTupleOf g.body n es →
    (e : ExprId) (m : TypeMismatch) → OwedAmong es ts e m → (r : InferenceResult) → HasTy r n (ty.Tuple ts) → Demand g r e m.expected
element_demand g n es ts h is e m o r has =
    let i : ℕ = o.0 in
    let z : 0 + i ≡ i = omega arith in
    let own : slice_get (exprs_from element 0 es) i ≡ Some (expr_part (element i) e)
    = expr_at element 0 es i e o.1 ∙ ap (λ j. Some (expr_part (element j) e)) z in
    let p : part_at g.body (inner (node.ExprId n)) i ≡ Some (expr_part (element i) e) = ap (λ x. slice_get (parts_of_expr g.body x) i) is ∙ own in
    inl (record {
      parent = inner (node.ExprId n);
      at_part = i;
      role = element i;
      stands = record { node_is = h; part = p };
      asks = (ts, has, o.2);
    })

-- ---- one type more

-- what is owed of each element at its type
abbrev OwedEach : List ExprId → List Ty → Assignment → Debt
OwedEach es ts a = OwedAmong es (map (folded a) ts)

module _ (es : List ExprId) (ts : List Ty) (t : Ty) (a : Assignment) where
  abbrev us : List Ty
  us = map (folded a) ts

  one_more : map (folded a) (ts ++ t ∷ []) ≡ us ++ folded a t ∷ []
  one_more = map-append (folded a) ts (t ∷ [])

  owed_still : (e : ExprId) (m : TypeMismatch) → OwedEach es ts a e m → OwedEach es (ts ++ t ∷ []) a e m
  owed_still e m (i, here, typed) =
      (i, here, subst (λ vs. slice_get vs i ≡ Some m.expected) (sym one_more) (slice_get-append_left us (folded a t ∷ []) i m.expected typed))

  owed_last : (e n : ExprId) (m : TypeMismatch) → slice_get es (length ts) ≡ Some e → (n ≡ e) × (m.expected ≡ folded a t) → OwedEach es (ts ++ t ∷ []) a n m
  owed_last e n m here (own, typed) =
      let last : slice_get (us ++ folded a t ∷ []) (length ts) ≡ Some (folded a t)
      = subst (λ j. slice_get (us ++ folded a t ∷ []) j ≡ Some (folded a t)) (length-map ts (folded a)) (slice_get-push us (folded a t)) in (
        length ts,
        here ∙ ap (λ y. Some y) (sym own),
        subst (λ vs. slice_get vs (length ts) ≡ Some m.expected) (sym one_more) (last ∙ ap (λ y. Some y) (sym typed)),
      )

-- ---- the loop

-- the first i elements of the tuple n have the types ts, and the others lie ahead
pub record AtElement (g : Given) (s : Schedule) (n : ExprId) (es : List ExprId) (i : ℕ) (ts : List Ty) (mid c : InferenceContext) : Type 0 where
  pub walk : AtPart g s (inner (node.ExprId n)) (OwedEach es ts) element es i mid c
  pub fine : AllFine g.scope c.goals.table ts
  pub count : length ts ≡ i
  pub within : i ≤ length es
  pub made : (a : Assignment) → Closes a c → AllAt (IsAtOrMismatch (found_under a c).result) (take i es) (map (folded a) ts)

module _ (g : Given) (s : Schedule) (n : ExprId) (es : List ExprId) (x : Option Ty) (mid : InferenceContext) (b : Within g s n None mid) (fine : IsFineExpectation g.scope mid.goals.table x) where
  pub begins_tuple : IsTupleOf g.body n es → AtElement g s n es 0 [] mid mid
  begins_tuple is = record {
    walk = begins_parts g s n (expr.Tuple es) None mid (OwedEach es []) b is;
    fine = tt;
    count = refl;
    within = omega arith;
    made = λ a q. tt;
  }

  module _ (i : ℕ) (ts : List Ty) (c : InferenceContext) (h : AtElement g s n es i ts mid c) where
    module _ (e : ExprId) (is : e ≡ get_or es i e) (k : i < length es) where
      pub comes_to_element : Before g s e (element_type x i) c
      comes_to_element =
          comes_to_part _ _ _ _ _ _ _ _ _ h.walk e is k (element_type x i) b.ready b.state.told
          (fine_element g.scope c.goals.table x i (fine_expectation_grown g.scope mid.goals.table c.goals.table x h.walk.follows.grew fine))

      pub goes_past_element : (t : Ty) (next : InferenceContext) → CoerceDone g s e (Some t) t c next →
          AtElement g s n es (i + 1) (ts ++ t ∷ []) mid next
      goes_past_element t next d =
          let here : slice_get es i ≡ Some e = slice_get_read es _ i e refl k is in
          record {
            walk = past_coerced_part _ _ _ _ _ _ _ _ _ h.walk e is k (OwedEach es (ts ++ t ∷ [])) (Some t) t next d
                (λ a y m o. owed_still es ts t a y m o)
                (λ a q y m o. inr (owed_last es ts t a e y m (subst (λ j. slice_get es j ≡ Some e) (sym h.count) here) o));
            fine = fine_push g.scope next.goals.table ts t (all_fine_grown g.scope c.goals.table next.goals.table ts d.follows.grew h.fine) d.fine;
            count = length-append ts (t ∷ []) ∙ ap (λ m. m + 1) h.count;
            within = omega (arith, k);
            made = λ a q.
                let now : Found = found_under a next in
                let vs : List Ty = map (folded a) ts in
                let before = h.made a (closes_before g a c next d.follows q) in
                rw (take_next es i e here, one_more es ts t a) (
                all_push now.result (take i es) vs e (folded a t)
                (all_kept g (found_under a c).result now.result (d.each a q).walks.extends (take i es) vs before) (d.each a q).placed.1
                );
          }

    pub ends_tuple : IsTupleOf g.body n es → length es ≤ i → KindDone g s n None (ty.Tuple ts) mid c
    ends_tuple is over = record {
      follows = h.walk.follows;
      fine = fine_tuple g.scope c.goals.table ts h.fine;
      tells = tuple_tells g n es ts (ty.Tuple ts) is (omega (arith, h.count, h.within, over)) refl;
      each = λ a q.
          let us : List Ty = map (folded a) ts in
          let now : Found = found_under a c in
          let under_it : folded a (ty.Tuple ts) ≡ ty.Tuple us = replaced_tuple (with_holes a) ts in
          let made : AllAt (IsAtOrMismatch now.result) es us = subst (λ l. AllAt (IsAtOrMismatch now.result) l us) (take_all i es over) (h.made a q) in
          subst (λ t. KindWalked g s n None t (found_under a mid) now) (sym under_it) (record {
            walks = walks_paid g s (OwedAmong es us) (PaidBy g n None (ty.Tuple us)) (found_under a mid) now
                (λ e m o. inr (inl (element_demand g n es us b.within is e m o))) (h.walk.each a q).walks;
            clock = all_past _ _ _ _ _ _ _ _ _ h.walk over a q;
            carried = subst (λ t. IsCarriedType t) under_it
                (fine_closed g.scope a (ty.Tuple ts) q.closing (fine_tuple g.scope c.goals.table ts h.fine).heads);
            rule = λ r k has. rule_of g r n (expr.Tuple es) is (us, has, all_kept g now.result r k es us made);
          });
    }
