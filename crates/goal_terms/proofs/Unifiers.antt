-- What each step of unification comes to.
use Rattle.std.specs.Prelude.{◌≡◌, Bool, true, false, cond, ◌∷◌, [], ◌++◌, Some, None, ◌↔◌, IsTrue}
use Rattle.std.proofs.Common.{refl, sym, ap, ◌∙◌, subst, append_assoc, append-nil, IfOk, Result}
use Rattle.std.proofs.lemmas.Bool.{both_ways, false_from_ne_true}
use Rattle.std.proofs.lemmas.Result.{IfOk-weaker}
use Rattle.goal_terms.specs.Words.{Head, Hole, Term, hole, leaf, pair, apply, occurs, hole_eq, IsInt, Log, resolved, found, binds, IsIntHole, Kept, Free, Unified, NoneUnifies, UnifiedIf, hole_eq_true, hole_eq_same, leaf_head, leaf_pair, pair_left, IsNoHole, occurs_within, found_none, none_found, resolved_free, resolved_fixed, triangular_last, Fill}
use Rattle.goal_terms.proofs.Words.{SameUnder, unified_equal, unified_bind, unified_if_left, unified_if_put_in_right, unified_pair}
use Rattle.goal_terms.specs.Own.{HasHeads, IsLog, Extends}
use Rattle.goal_terms.proofs.HeadLaws.{heads_append, heads_resolved, int_before}

-- ---- bindings that are added

pub extends_same : (l m : Log) → IsLog l → m ≡ l → Extends l m
extends_same l m h e = record { is_log = subst IsLog (sym e) h; added = ([], e ∙ sym (append-nil l)) }

pub extends_itself : (l : Log) → IsLog l → Extends l l
extends_itself l h = extends_same l l h refl

pub extends_further : (l m n : Log) → Extends l m → Extends m n → Extends l n
extends_further l m n f g = record {
  is_log = g.is_log;
  added = (f.added.0 ++ g.added.0, g.added.1 ∙ ap (λ (z : Log). z ++ g.added.0) f.added.1 ∙ append_assoc l f.added.0 g.added.0);
}

-- ---- a hole that isn't bound

pub free_hole : (l : Log) (y : Hole) → found l y ≡ None → Free l (hole y)
free_hole l y n z b = false_from_ne_true (hole_eq z y) (λ e.
    let same : binds l y ≡ true = subst (λ (k : Hole). binds l k ≡ true) (hole_eq_true z y e) b in
    both_ways (binds l y) (found_none l y n) same)

pub hole_free : (l : Log) (y : Hole) → Free l (hole y) → found l y ≡ None
hole_free l y f = none_found l y (false_from_ne_true (binds l y) (λ e. both_ways (hole_eq y y) (f y e) (hole_eq_same y)))

-- ---- a binding

module _ (l m : Log) (x : Hole) (t t' : Term) (same : t' ≡ t) (is : m ≡ l ++ (x, t') ∷ []) where
  last : m ≡ l ++ (x, t) ∷ []
  last = is ∙ ap (λ (u : Term). l ++ (x, u) ∷ []) same

  pub extends_bind : IsLog l → found l x ≡ None → Free l t → occurs x t ≡ false → Kept x t → HasHeads t → Extends l m
  extends_bind h n f o k i = record {
    is_log = subst IsLog (sym last) (record { triangular = triangular_last l x t h.triangular n f o k; heads = heads_append l x t h.heads i });
    added = ((x, t) ∷ [], last);
  }

  pub unified_term : Free l t → Unified l m (hole x) t
  unified_term f = subst (λ (z : Log). Unified l z (hole x) t) (sym last) (unified_bind l x t t (sym (resolved_fixed l t f)))

-- ---- what can not be made equal

pub none_int : (l : Log) (x : Hole) (t : Term) → IsIntHole x → IsNoHole t → HasHeads t → (IsInt t → ⊥) → NoneUnifies l (hole x) t
none_int l x t i n h f s r k e = f (int_before s t n h (subst IsInt e (r x i)))

pub none_within : (l : Log) (x : Hole) (t : Term) → IsNoHole t → occurs x t ≡ true → NoneUnifies l (hole x) t
none_within l x t n o s r k e = occurs_within s x t n o e

pub unified_leaves : (y : Bool) (l : Log) (g h : Head) → (IsTrue y ↔ (g ≡ h)) → UnifiedIf y l l (leaf g) (leaf h)
unified_leaves true l g h d = unified_equal l (leaf g) (leaf h) (ap leaf (d.0 refl))
unified_leaves false l g h d = λ s r k e. let f = d.1 (leaf_head e) in cc

pub none_leaf_pair : (l : Log) (h : Head) (a b : Term) → NoneUnifies l (leaf h) (pair a b)
none_leaf_pair l h a b s r k e = leaf_pair e

pub none_pair_leaf : (l : Log) (h : Head) (a b : Term) → NoneUnifies l (pair a b) (leaf h)
none_pair_leaf l h a b s r k e = leaf_pair (sym e)

pub none_lefts : (l : Log) (a b c d : Term) → NoneUnifies l a c → NoneUnifies l (pair a b) (pair c d)
none_lefts l a b c d n s r k e = n s r k (pair_left e)

-- ---- a hole that is bound

solves_first : (s : Fill) (l : Log) (k x : Hole) (t u : Term) (b : Bool) → hole_eq k x ≡ b → s x ≡ apply s t → (found l k ≡ Some u → s k ≡ apply s u) → cond b (Some t) (found l k) ≡ Some u → s k ≡ apply s u
solves_first s l k x t u true q h f e = let g : t ≡ u = cc in ap s (hole_eq_true k x q) ∙ h ∙ ap (apply s) g
solves_first s l k x t u false q h f e = f e

pub solves_found : (l : Log) (k : Hole) (u : Term) → found l k ≡ Some u → SameUnder l (hole k) u
solves_found [] k u e s h = cc
solves_found (p ∷ l) k u e s h = solves_first s l k p.0 p.1 u (hole_eq k p.0) refl h.0 (λ f. solves_found l k u f s h.1) e

-- ---- as the code takes them

pub after_bound : {E : Type 0} (r : Result Bool E) (l m : Log) (x : Hole) (u t : Term) → found l x ≡ Some u → IfOk r (λ yes. UnifiedIf yes l m u t) → IfOk r (λ yes. UnifiedIf yes l m (hole x) t)
after_bound r l m x u t e h = IfOk-weaker r (λ yes. UnifiedIf yes l m u t) (λ yes. UnifiedIf yes l m (hole x) t) (λ yes k. unified_if_left yes l m (hole x) u t (solves_found l x u e) k) h

pub after_first : {E : Type 0} (r : Result Bool E) (y : Bool) (l m n : Log) (a b c d : Term) → y ≡ true → UnifiedIf y l m a c → IfOk r (λ yes. UnifiedIf yes m n b d) → IfOk r (λ yes. UnifiedIf yes l n (pair a b) (pair c d))
after_first r y l m n a b c d e g h =
    let first : Unified l m a c = subst (λ (z : Bool). UnifiedIf z l m a c) e g in
    IfOk-weaker r (λ yes. UnifiedIf yes m n b d) (λ yes. UnifiedIf yes l n (pair a b) (pair c d)) (λ yes k. unified_pair yes l m n a b c d first k) h

-- a term `u` that is `t` with the bindings put in
module _ (l : Log) (t u : Term) (h : IsLog l) (e : u ≡ resolved l t) where
  pub known_free : Free l u
  known_free = subst (Free l) (sym e) (resolved_free l t h.triangular)

  pub known_heads : HasHeads t → HasHeads u
  known_heads i = subst HasHeads (sym e) (heads_resolved l t h.heads i)

  pub known_hole : (k : Hole) → u ≡ hole k → found l k ≡ None
  known_hole k f = hole_free l k (subst (Free l) f known_free)

  pub after_known : {E : Type 0} (r : Result Bool E) (m : Log) (a v : Term) → u ≡ v → IfOk r (λ yes. UnifiedIf yes l m a v) → IfOk r (λ yes. UnifiedIf yes l m a t)
  after_known r m a v f k = IfOk-weaker r (λ yes. UnifiedIf yes l m a v) (λ yes. UnifiedIf yes l m a t) (λ yes i. unified_if_put_in_right yes l m a t v (sym f ∙ e) i) k
