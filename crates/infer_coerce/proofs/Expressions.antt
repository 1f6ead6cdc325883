-- What is expected of an expression, what it has, and what is made of the two.
use Rattle.std.proofs.Common.{Bool, true, false, Result, Ok, Err, ◌≡◌, Some, ◌∙◌, sym, ap, subst, Option, None}
use Rattle.infer_coerce.specs.Words.{ExprId, Ty, folded, Schedule, Given, mismatch, InferenceContext, Closes, found_under, expected_under, IsFine, IsFineExpectation, Follows, Before, OwnDone, CoerceDone}
use Rattle.infer_ctx.specs.Context.{with_mismatch}
use Rattle.infer_coerce.proofs.Words.{fine_grown, follows_twice, closes_before, before_under}
use Rattle.infer_coerce.specs.Own.{IsCoercion, IsCoerced, Coerced, NotCoercible}
use Rattle.infer_coerce.proofs.Coercions.{coerced_as}
use Rattle.infer_coerce.proofs.Unified.{coercion_coerced, refused_coerced}

only_some : {A : Type 0} {x y : A} → Some x ≡ Some y → x ≡ y
only_some h = cc

pub coerced_done : (could : Bool) (g : Given) (s : Schedule) (e : ExprId) (x : Option Ty) (t u v : Ty) (old mid new : InferenceContext) → Some u ≡ x → v ≡ u → Before g s e x old → OwnDone g s e x t old mid → IsCoerced could g e t u mid new → CoerceDone g s e x v old new
coerced_done could g s e x t u v old mid new f i h d k =
    let all : Follows g old new = follows_twice g old mid new d.follows k.follows in
    record {
      follows = all;
      fine =
          subst (λ w. IsFine g.scope new.goals.table w) (sym i)
          (fine_grown g.scope old.goals.table new.goals.table u all.grew (subst (λ y. IsFineExpectation g.scope old.goals.table y) (sym f) h.expected));
      is_expected = λ w k. (let same : Some u ≡ Some w = f ∙ k in i ∙ only_some same);
      tells = λ none. absurd (let clash : Some u ≡ None = f ∙ none in cc);
      each = λ a q.
          let m : Closes a mid = closes_before g a mid new k.follows q in
          let o : Closes a old = closes_before g a old mid d.follows m in
          let z = k.each a q in
          coerced_as g s z.0 e (expected_under a x) (folded a t) (folded a u) (folded a v) (found_under a old) (found_under a mid) (found_under a new)
          (ap (expected_under a) f) (ap (folded a) i) (before_under g s a old o e x h) (d.each a m) z.2;
    }

-- it is coerced, or can't be, and then that is noted
module _ (g : Given) (s : Schedule) (e : ExprId) (x : Option Ty) (t u : Ty) (old mid new : InferenceContext) (f : Some u ≡ x) (h : Before g s e x old) (d : OwnDone g s e x t old mid) (answer : Result Coerced NotCoercible) (k : IsCoercion answer g e t u mid new) where
  pub coerced_own : (r : Coerced) → answer ≡ Ok r → CoerceDone g s e x r.ty old new
  coerced_own r is =
      let made : IsCoercion (Ok r) g e t u mid new = subst (λ a. IsCoercion a g e t u mid new) is k in
      coerced_done true g s e x t u r.ty old mid new f made.answers h d (coercion_coerced g e t u mid new r made)

  pub refused_own : (y : NotCoercible) (v : Ty) → answer ≡ Err y → v ≡ y.target → CoerceDone g s e x v old (with_mismatch new e (mismatch y.target y.source))
  refused_own y v is at =
      let refused : IsCoercion (Err y) g e t u mid new = subst (λ a. IsCoercion a g e t u mid new) is k in
      let fine : IsFine g.scope mid.goals.table u = fine_grown g.scope old.goals.table mid.goals.table u d.follows.grew (subst (λ z. IsFineExpectation g.scope old.goals.table z) (sym f) h.expected) in
      coerced_done false g s e x t u v old mid (with_mismatch new e (mismatch y.target y.source)) f (at ∙ refused.answers.1) h d (refused_coerced g e t u mid new d.fine fine y refused)
