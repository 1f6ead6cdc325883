-- What the bindings say that make an opened part and a read term equal.
use Rattle.std.specs.Prelude.{◌≡◌, ℕ, true, false, Bool, cond, [], ◌∷◌, Option, Some, None}
use Rattle.std.proofs.Common.{refl, sym, ap, ◌∙◌, subst}
use Rattle.hir_types.specs.declared.head.Head.TheVariants as head
use Rattle.goal_terms.specs.Words.{Hole, Term, leaf, apply, hole_eq, Log, found, resolved, Unified, NoneUnifies, apply_agree, solution, solution_apply, solution_solves, resolved_apply, IsBelow, Fill, IsRead, IsFilling, MayRead, IsApart, IsGeneral}
use Rattle.hir_types.specs.declared.head.Hole.TheVariants as hole_of
use Rattle.goal_terms.proofs.Words.{read_filled}
use Rattle.goal_terms.specs.Own.{HasHeads, given, fill_of, IsLog, AreNames, Stand, Lifted, Opened, resolved_all, IsCommon}
use Rattle.goal_terms.proofs.Read.{read_before, solution_filling}
use Rattle.goal_terms.proofs.HeadLaws.{heads_resolved}

all_first : (l m : Log) (k : Hole) (t v : Term) (b : Bool) → (found m k ≡ Some v → found (resolved_all l m) k ≡ Some (resolved l v)) → cond b (Some t) (found m k) ≡ Some v → cond b (Some (resolved l t)) (found (resolved_all l m) k) ≡ Some (resolved l v)
all_first l m k t v true f e = let g : t ≡ v = cc in ap (λ (x : Term). Some (resolved l x)) g
all_first l m k t v false f e = f e

pub found_all : (l m : Log) (k : Hole) (v : Term) → found m k ≡ Some v → found (resolved_all l m) k ≡ Some (resolved l v)
found_all l [] k v e = cc
found_all l (p ∷ m) k v e = all_first l m k p.1 v (hole_eq k p.0) (found_all l m k v) e

none_first : (l m : Log) (k : Hole) (t : Term) (b : Bool) → (found m k ≡ None → found (resolved_all l m) k ≡ None) → cond b (Some t) (found m k) ≡ None → cond b (Some (resolved l t)) (found (resolved_all l m) k) ≡ None
none_first l m k t true f e = cc
none_first l m k t false f e = f e

none_all : (l m : Log) (k : Hole) → found m k ≡ None → found (resolved_all l m) k ≡ None
none_all l [] k e = refl
none_all l (p ∷ m) k e = none_first l m k p.1 (hole_eq k p.0) (none_all l m k) e

pub no_names : (n : ℕ) → AreNames n []
no_names n k v f = cc

none_stand : (q z : Fill) → Stand q z []
none_stand q z k v f = cc

-- `u` is the part `t` opened from a number on that is above the holes of the read term `w`
module _ (n m : ℕ) (names : Log) (t u w : Term) (below : IsBelow n w) (read : IsRead w) (o : Opened n [] m names t u) where
  lift : (q s : Fill) → IsFilling s → MayRead q t (apply s w) → Lifted n names q s u (apply s w)
  lift q s f r = o.lifts q s (apply s w) (none_stand q s) f (read_filled s f w read) r

  equal : (q s : Fill) (f : IsFilling s) (r : MayRead q t (apply s w)) → apply (lift q s f r).at u ≡ apply (lift q s f r).at w
  equal q s f r = let x = lift q s f r in x.is ∙ sym (apply_agree x.at s w (λ k h. x.same k (below k h)))

  -- an alias that isn't under arguments is nothing that is read
  pub apart_unread : (IsRead u → ⊥) → IsApart t w
  apart_unread unread q s f r =
      let x = lift q s f r in unread (read_before x.at u (subst IsRead (sym x.is) (read_filled s f w read)))

  pub apart_none : NoneUnifies [] u w → IsApart t w
  apart_none none q s f r = let x = lift q s f r in none x.at x.filling.respects tt (equal q s f r)

  module _ (l fills : Log) (log : IsLog l) (unified : Unified [] l u w) (is : fills ≡ resolved_all l names) where
    -- what a hole stands for is its name with the bindings put in
    filled_name : (k : Hole) (v : Term) → found names k ≡ Some v → fill_of fills k ≡ resolved l v
    filled_name k v f = ap given (ap (λ (x : Log). found x k) is ∙ found_all l names k v f)

    general : IsGeneral t w (fill_of fills)
    general q s f r =
        let x = lift q s f r in
        let solves = unified.general x.at tt (equal q s f r) in (
          x.at,
          x.filling,
          λ k h. let d = o.told k h in
              sym (x.named k d.0 d.1) ∙ sym (resolved_apply x.at l d.0 solves) ∙ ap (apply x.at) (sym (filled_name k d.0 d.1)),
        )

    unfilled : (k : Hole) → found names k ≡ None → fill_of fills k ≡ leaf head.End
    unfilled k f = ap given (ap (λ (x : Log). found x k) is ∙ none_all l names k f)

    pub common : IsRead u → IsCommon t w (fill_of fills)
    common unread =
        let s = solution l in
        let filling : IsFilling s = solution_filling l u w log.triangular unified unread read in
        let stand : Stand (fill_of fills) s names = λ k v f. solution_apply l v ∙ sym (filled_name k v f) in
        let lowered = o.lowers (fill_of fills) s stand in
        let reads = subst (MayRead (fill_of fills) t) (unified.unifies s (solution_solves l log.triangular)) lowered in
        record {
          general = general;
          at = s;
          filling = filling;
          reads = reads;
          read = λ k. each_read k (found names k) refl;
          heads = λ k. each_heads k (found names k) refl;
        }
      where
        each_read : (k : Hole) (v : Option Term) → found names k ≡ v → IsRead (fill_of fills k)
        each_read k None f = subst IsRead (sym (unfilled k f)) tt
        each_read k (Some v) f =
            let d = o.names k v f in
            let filling = solution_filling l u w log.triangular unified unread read in
            subst IsRead (sym (filled_name k v f ∙ ap (resolved l) d.1)) (filling.read (hole_of.Ty d.0))

        each_heads : (k : Hole) (v : Option Term) → found names k ≡ v → HasHeads (fill_of fills k)
        each_heads k None f = subst HasHeads (sym (unfilled k f)) tt
        each_heads k (Some v) f =
            let d = o.names k v f in
            subst HasHeads (sym (filled_name k v f)) (heads_resolved l v log.heads (subst HasHeads (sym d.1) tt))
