-- What is told after one another.
use Rattle.std.specs.Prelude.{◌≡◌, ◌+◌, ◌++◌, ℕ, zero, suc, List, [], ◌∷◌, length, slice_get, Option, Some, refl}
use Rattle.std.proofs.Common.{sym, ap, ◌∙◌, subst, arith, append_assoc, append-nil}
use Rattle.infer_needs.specs.Words.{Goal, Ty, RawBody, RawExpr, RawFacts, Asked, System, Answer, asked_goal, IsAnswer, Proof, Gap, InferenceResult, with_goals, needs_of, needs_at, pat_needs_at, recorded}
use Rattle.infer_needs.specs.Own.{first_needs, first_pat_needs, all_needs, AreAnswered, ListsAnswers}

answered_both : (f : System) (n : ℕ) (xs bs : List Asked) (ts us : List (Goal × Answer)) → AreAnswered f n xs ts → AreAnswered f n bs us → AreAnswered f n (xs ++ bs) (ts ++ us)
answered_both f n [] bs [] us h k = k
answered_both f n [] bs (t ∷ ts) us h k = absurd h
answered_both f n (a ∷ xs) bs [] us h k = absurd h
answered_both f n (a ∷ xs) bs (t ∷ ts) us h k = (h.0, h.1, answered_both f n xs bs ts us h.2 k)

-- ---- goals

pub tells_none : (f : System) (n : ℕ) (ts : List (Goal × Answer)) → ListsAnswers f n [] ts ts
tells_none f n ts = record { told = []; answers = tt; behind = sym (append-nil ts) }

pub tells_one : (f : System) (n : ℕ) (g : Goal) (a : Answer) (ts us : List (Goal × Answer)) → IsAnswer f n (asked_goal g) a → us ≡ ts ++ (g, a) ∷ [] → ListsAnswers f n (asked_goal g ∷ []) ts us
tells_one f n g a ts us is h = record { told = (g, a) ∷ []; answers = (refl, is, tt); behind = h }

pub tells_both : (f : System) (n : ℕ) (xs bs : List Asked) (ts us vs : List (Goal × Answer)) → ListsAnswers f n xs ts us → ListsAnswers f n bs us vs → ListsAnswers f n (xs ++ bs) ts vs
tells_both f n xs bs ts us vs h k = record {
  told = h.told ++ k.told;
  answers = answered_both f n xs bs h.told k.told h.answers k.answers;
  behind = k.behind ∙ (ap (λ l. l ++ k.told) h.behind ∙ append_assoc ts h.told k.told);
}

-- ---- at a place

pub tells_here : (f : System) (n : ℕ) (raw : RawFacts) (b : RawBody) (r : InferenceResult) (k : ℕ) (x : RawExpr) (ts us : List (Goal × Answer)) → slice_get b.exprs k ≡ Some x
    → ListsAnswers f n (needs_of raw (Some x) (recorded r.type_of_expr k)) ts us → ListsAnswers f n (needs_at raw b r k) ts us
tells_here f n raw b r k x ts us at h = subst (λ (o : Option RawExpr). ListsAnswers f n (needs_of raw o (recorded r.type_of_expr k)) ts us) (sym at) h

-- those of one more expression
pub first_more : (raw : RawFacts) (b : RawBody) (r : InferenceResult) (n : ℕ) → first_needs raw b r n ++ needs_at raw b r n ≡ first_needs raw b r (n + 1)
first_more raw b r n = let e : suc n ≡ n + 1 = omega arith in ap (first_needs raw b r) e

-- of one more pattern
pub first_pat_more : (raw : RawFacts) (r : InferenceResult) (n : ℕ) → first_pat_needs raw r n ++ pat_needs_at raw r n ≡ first_pat_needs raw r (n + 1)
first_pat_more raw r n = let e : suc n ≡ n + 1 = omega arith in ap (first_pat_needs raw r) e

-- proofs, what associated types were found to be and what could not be shown are no matter
module _ (raw : RawFacts) (b : RawBody) (r : InferenceResult) (ps : List Proof) (js : List (Ty × Ty)) (gs hs : List (List Gap)) where
  abbrev after : InferenceResult
  after = with_goals ps js gs hs r

  exprs_stay : (n : ℕ) → first_needs raw b after n ≡ first_needs raw b r n
  exprs_stay zero = refl
  exprs_stay (suc n) = ap (λ (xs : List Asked). xs ++ needs_at raw b r n) (exprs_stay n)

  pats_stay : (n : ℕ) → first_pat_needs raw after n ≡ first_pat_needs raw r n
  pats_stay zero = refl
  pats_stay (suc n) = ap (λ (xs : List Asked). xs ++ pat_needs_at raw r n) (pats_stay n)

  pub needs_stay : all_needs raw b after ≡ all_needs raw b r
  needs_stay = λ i. exprs_stay (length b.exprs) i ++ pats_stay (length b.pats) i
