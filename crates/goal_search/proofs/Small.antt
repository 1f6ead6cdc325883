-- Parts of types, and what rules give an alias, as the search finds them.
use Rattle.std.proofs.Common.{◌≡◌, inl, inr, ℕ, suc, Bool, true, false, true≢false, ◌||◌, cond, refl, sym, ap, ap₂, ◌∙◌, subst, List, Option, Some, None, Result, IfOk}
use Rattle.std.proofs.lemmas.Bool.{or_left, or_right}
use Rattle.std.proofs.lemmas.Result.{IfOk-weaker}
use Rattle.goal_search.specs.Words.{TypeAliasId, Head, Hole, Term, hole, leaf, pair, apply, occurs, hole_number, apply_agree, hole_eq_true, hole_eq_same, pair_left, pair_right, Fill, staying, Kind as AskedKind, projects, Asked as AskedGoal, Rule as SourceRule, args_of, types_of, IsNth, AreArgs, CannotGive, IsItself, IsNeverItself, IsCommon, CanBeItself}
use Rattle.goal_search.proofs.Words.{nth_one}
use Rattle.goal_search.specs.declared.rows.Part.TheVariants as part
use Rattle.goal_search.specs.Own.{IsNthIf, IsFieldAt, with_kind, IsPartKind, PushesGoals}

-- ---- places

next_nth : (n m : ℕ) (a b : Term) (o : Option Term) → n ≡ suc m → IsNthIf m b o → IsNthIf n (pair a b) o
next_nth n m a b (Some u) e h = subst (λ (k : ℕ). IsNth k (pair a b) u) (sym e) h
next_nth n m a b None e h = λ u i. h u (subst (λ (k : ℕ). IsNth k (pair a b) u) e i)

pub nth_next : (n m : ℕ) (t a b : Term) (o : Option Term) → t ≡ pair a b → n ≡ suc m → IsNthIf m b o → IsNthIf n t o
nth_next n m t a b o is e h = subst (λ x. IsNthIf n x o) (sym is) (next_nth n m a b o e h)

-- ---- goals of parts

const_pushed : (c : AskedKind) (before after : List AskedGoal) (o : Option (List Term)) (yes : Bool) → PushesGoals c yes before after o → PushesGoals c yes before after (with_kind part.Const o)
const_pushed c before after o true h = (h.0, ap (with_kind part.Const) h.1, h.2)
const_pushed c before after o false h = ap (with_kind part.Const) h

-- a const asks for nothing
pub after_const : {E : Type 0} (r : Result Bool E) (c : AskedKind) (before after : List AskedGoal) (t a b : Term) → t ≡ pair a b → IsPartKind a part.Const → IfOk r (λ yes. PushesGoals c yes before after (types_of b)) → IfOk r (λ yes. PushesGoals c yes before after (types_of t))
after_const r c before after t a b is kind h =
    let e = ap types_of is ∙ kind (types_of b) in
    subst (λ o. IfOk r (λ yes. PushesGoals c yes before after o)) (sym e)
    (IfOk-weaker r (λ yes. PushesGoals c yes before after (types_of b)) (λ yes. PushesGoals c yes before after (with_kind part.Const (types_of b))) (const_pushed c before after (types_of b)) h)

-- ---- a field at arguments

pub hole_at : (args : Term) (k : Hole) (o : Option Term) → IsNthIf (hole_number k) args o → IsFieldAt args (hole k) o
hole_at args k (Some u) h = ((λ j. u), (λ j o. subst (λ (i : Hole). IsNth (hole_number i) args u) (sym (hole_eq_true j k o)) h), refl)
hole_at args k None h = λ p are. h (p k) (are k (hole_eq_same k))

pub leaf_at : (args : Term) (h : Head) → IsFieldAt args (leaf h) (Some (leaf h))
leaf_at args h = (hole, (λ k o. absurd (true≢false (sym o))), refl)

left_at : (args a b : Term) (p : Fill) → AreArgs args p (pair a b) → AreArgs args p a
left_at args a b p are = λ k o. are k (or_left (occurs k a) (occurs k b) o)

right_at : (args a b : Term) (p : Fill) → AreArgs args p (pair a b) → AreArgs args p b
right_at args a b p are = λ k o. are k (or_right (occurs k a) (occurs k b) o)

pub not_left_at : (args a b : Term) → IsFieldAt args a None → IsFieldAt args (pair a b) None
not_left_at args a b h = λ p are. h p (left_at args a b p are)

pub not_right_at : (args a b : Term) → IsFieldAt args b None → IsFieldAt args (pair a b) None
not_right_at args a b h = λ p are. h p (right_at args a b p are)

-- what stands for a hole is the same in both parts
pub pair_at : (args a b u v : Term) → IsFieldAt args a (Some u) → IsFieldAt args b (Some v) → IsFieldAt args (pair a b) (Some (pair u v))
pair_at args a b u v g h = (both, are, ap₂ pair (g.2 ∙ left) (h.2 ∙ right))
  where
    both : Fill
    both k = cond (occurs k a) (g.0 k) (h.0 k)

    chosen : (k : Hole) (x y : Bool) → occurs k a ≡ x → occurs k b ≡ y → (x || y) ≡ true → IsNth (hole_number k) args (cond x (g.0 k) (h.0 k))
    chosen k true y e f o = g.1 k e
    chosen k false true e f o = h.1 k f
    chosen k false false e f o = absurd (true≢false (sym o))

    are : AreArgs args both (pair a b)
    are k o = chosen k (occurs k a) (occurs k b) refl refl o

    same : (p : Fill) (t : Term) → AreArgs args p t → ((k : Hole) → occurs k t ≡ true → occurs k (pair a b) ≡ true) → apply p t ≡ apply both t
    same p t args_are within = apply_agree p both t (λ k o. nth_one (hole_number k) args (p k) (both k) (args_are k o) (are k (within k o)))

    left : apply g.0 a ≡ apply both a
    left = same g.0 a g.1 (λ k o. or_left (occurs k a) (occurs k b) o)

    right : apply h.0 b ≡ apply both b
    right = same h.0 b h.1 (λ k o. or_right (occurs k a) (occurs k b) o)

-- ---- rules that give an alias

-- the rule speaks of the alias, and its arguments have an instance in common with these
pub can_give : (k : TypeAliasId) (w : Term) (r : SourceRule) (p : Fill) → r.head.kind ≡ projects k → IsCommon (args_of r.head.parts) w p → CannotGive k w r → ⊥
can_give k w r p e common (inl other) = other e
can_give k w r p e common (inr apart) = apart p common.at common.filling common.reads

-- ---- projections of themselves

itself_open_at : (k : TypeAliasId) (a b : Term) → (staying k a ≡ b → ⊥) → CanBeItself k a b → (IsItself (projects k) (pair a b) → ⊥) × (IsNeverItself (projects k) (pair a b) → ⊥)
itself_open_at k a b other can = (
  λ i. other (ap (staying k) (pair_left i.1) ∙ sym (pair_right i.1)),
  λ never. never can.at (apply can.at a) can.respects (ap (pair (apply can.at a)) can.same),
)

-- neither the same, nor never
pub itself_open : (c : AskedKind) (k : TypeAliasId) (w a b : Term) → c ≡ projects k → w ≡ pair a b → (staying k a ≡ b → ⊥) → CanBeItself k a b → (IsItself c w → ⊥) × (IsNeverItself c w → ⊥)
itself_open c k w a b e f other can =
    subst (λ (x : AskedKind). (IsItself x w → ⊥) × (IsNeverItself x w → ⊥)) (sym e) (subst (λ (x : Term). (IsItself (projects k) x → ⊥) × (IsNeverItself (projects k) x → ⊥)) (sym f) (itself_open_at k a b other can))
