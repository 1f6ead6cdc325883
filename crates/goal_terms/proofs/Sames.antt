-- What making two terms equal says of two that have holes of their own, and of a projection.
use Rattle.std.specs.Prelude.{◌≡◌, ℕ, ◌+◌, ◌-◌, ◌<◌, Bool, true, false, cond, [], nat_lt}
use Rattle.std.proofs.Common.{rules, refl, sym, ap, ◌∙◌, subst, arith, IfOk, Result, MatchBool}
use Rattle.std.proofs.lemmas.Result.{IfOk-weaker}
use Rattle.goal_terms.specs.Words.{TypeAliasId, Hole, Term, pair, apply, hole_number, IsInt, Log, Respects, IsIntHole, Triangular, Unified, NoneUnifies, UnifiedIf, apply_agree, apply_apply, pair_left, pair_right, solution, solution_solves, solution_respects, IsBelow, Fill, staying, projects, NeverSame, IsNeverItself}
use Rattle.hir_types.specs.declared.head.Hole.TheVariants as hole_of
use Rattle.goal_terms.specs.Own.{HasHeads, moved, CanBeSame, CanBeItself}
use Rattle.goal_terms.proofs.HeadLaws.{heads_stay}

moved_head : (n : ℕ) (k : Hole) → HasHeads (moved n k)
moved_head n (hole_of.Ty m) = tt
moved_head n (hole_of.Int m) = tt
moved_head n (hole_of.Const m) = tt

pub moved_heads : (n : ℕ) (t : Term) → HasHeads t → HasHeads (apply (moved n) t)
moved_heads n t h = heads_stay (moved n) (moved_head n) t h

-- ---- one assignment for both

abbrev back : ℕ → Hole → Hole
back n (hole_of.Ty k) = hole_of.Ty (k - n)
back n (hole_of.Int k) = hole_of.Int (k - n)
back n (hole_of.Const k) = hole_of.Const (k - n)

abbrev choose : Bool → Term → Term → Term
choose b t u = cond b t u

abbrev both : ℕ → Fill → Fill → Fill
both n x s k = choose (nat_lt (hole_number k) n) (s k) (x (back n k))

choose_int : (b : Bool) (t u : Term) → IsInt t → IsInt u → IsInt (choose b t u)
choose_int true t u i j = i
choose_int false t u i j = j

back_int : (n : ℕ) (k : Hole) → IsIntHole k → IsIntHole (back n k)
back_int n (hole_of.Int m) i = tt
back_int n (hole_of.Ty m) i = absurd i
back_int n (hole_of.Const m) i = absurd i

both_respects : (n : ℕ) (x s : Fill) → Respects x → Respects s → Respects (both n x s)
both_respects n x s f g k i = choose_int (nat_lt (hole_number k) n) (s k) (x (back n k)) (g k i) (f (back n k) (back_int n k i))

both_low : (n : ℕ) (x s : Fill) (k : Hole) → hole_number k < n → both n x s k ≡ s k
both_low n x s k h = let e : nat_lt (hole_number k) n ≡ true = search rules in rw e refl

both_high : (n : ℕ) (x s : Fill) (k : Hole) → apply (both n x s) (moved n k) ≡ x k
both_high n x s (hole_of.Ty m) = let e : nat_lt (n + m) n ≡ false = search rules in let f : n + m - n ≡ m = omega arith in rw e (ap (λ i. x (hole_of.Ty i)) f)
both_high n x s (hole_of.Int m) = let e : nat_lt (n + m) n ≡ false = search rules in let f : n + m - n ≡ m = omega arith in rw e (ap (λ i. x (hole_of.Int i)) f)
both_high n x s (hole_of.Const m) = let e : nat_lt (n + m) n ≡ false = search rules in let f : n + m - n ≡ m = omega arith in rw e (ap (λ i. x (hole_of.Const i)) f)

pub never_same : (n : ℕ) (h w : Term) → IsBelow n w → NoneUnifies [] (apply (moved n) h) w → NeverSame h w
never_same n h w below none x s f g e =
    let z = both n x s in
    let left : apply z (apply (moved n) h) ≡ apply x h = apply_apply z (moved n) h ∙ apply_agree (λ k. apply z (moved n k)) x h (λ k o. both_high n x s k) in
    let right : apply z w ≡ apply s w = apply_agree z s w (λ k o. both_low n x s k (below k o)) in
    none z (both_respects n x s f g) tt (left ∙ e ∙ sym right)

moved_respects : (n : ℕ) (s : Fill) → Respects s → Respects (λ k. apply s (moved n k))
moved_respects n s f (hole_of.Int m) i = f (hole_of.Int (n + m)) tt
moved_respects n s f (hole_of.Ty m) i = absurd i
moved_respects n s f (hole_of.Const m) i = absurd i

pub can_be_same : (n : ℕ) (h w : Term) (l : Log) → Triangular l → Unified [] l (apply (moved n) h) w → CanBeSame h w
can_be_same n h w l t u =
    let s = solution l in record {
      left = λ k. apply s (moved n k);
      right = s;
      left_respects = moved_respects n s (solution_respects l t);
      right_respects = solution_respects l t;
      same = sym (apply_apply s (moved n) h) ∙ u.unifies s (solution_solves l t);
    }

pub same_if : (y : Bool) (n : ℕ) (h w : Term) (l : Log) → IsBelow n w → Triangular l → UnifiedIf y [] l (apply (moved n) h) w → MatchBool y (CanBeSame h w) (NeverSame h w)
same_if true n h w l b t u = can_be_same n h w l t u
same_if false n h w l b t u = never_same n h w b u

-- ---- of themselves

pub itself_if : (y : Bool) (k : TypeAliasId) (args ty : Term) (l : Log) → Triangular l → UnifiedIf y [] l ty (staying k args) → MatchBool y (CanBeItself k args ty) (IsNeverItself (projects k) (pair args ty))
itself_if true k args ty l t u = record {
  at = solution l;
  respects = solution_respects l t;
  same = u.unifies (solution l) (solution_solves l t);
}
itself_if false k args ty l t u = λ s x r e. u s r tt (pair_right e ∙ ap (staying k) (sym (pair_left e)))

-- ---- as the code takes them

pub after_moved : {E : Type 0} (r : Result Bool E) (n : ℕ) (h h' w : Term) (l : Log) → IsBelow n w → Triangular l → h' ≡ apply (moved n) h → IfOk r (λ yes. UnifiedIf yes [] l h' w) → IfOk r (λ yes. MatchBool yes (CanBeSame h w) (NeverSame h w))
after_moved r n h h' w l b t e u = IfOk-weaker r (λ yes. UnifiedIf yes [] l h' w) (λ yes. MatchBool yes (CanBeSame h w) (NeverSame h w))
    (λ yes v. same_if yes n h w l b t (subst (λ (z : Term). UnifiedIf yes [] l z w) e v)) u

pub after_staying : {E : Type 0} (r : Result Bool E) (k : TypeAliasId) (args ty v : Term) (l : Log) → Triangular l → v ≡ staying k args → IfOk r (λ yes. UnifiedIf yes [] l ty v) → IfOk r (λ yes. MatchBool yes (CanBeItself k args ty) (IsNeverItself (projects k) (pair args ty)))
after_staying r k args ty v l t e u = IfOk-weaker r (λ yes. UnifiedIf yes [] l ty v) (λ yes. MatchBool yes (CanBeItself k args ty) (IsNeverItself (projects k) (pair args ty)))
    (λ yes w. itself_if yes k args ty l t (subst (λ (z : Term). UnifiedIf yes [] l ty z) e w)) u
