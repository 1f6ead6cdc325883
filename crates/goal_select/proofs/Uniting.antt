-- Goals about a trait that are made equal.
use Rattle.std.proofs.Common.{◌≡◌, refl, sym, ap, ◌∙◌, subst, true}
use Rattle.std.proofs.lemmas.Bool.{or_left, or_right}
use Rattle.goal_select.specs.Words.{Head, Hole, TraitRef, Term, hole, leaf, pair, apply, occurs, resolved, Respects, Place, unknown_type, unknown_const, place, IsPlain, IsReadAs, Reads_at, opened_plain, reads_apply, hole_eq_same, pair_right, State, resolved_term, Meets, IsMostGeneral, CanBeEqual, AreUnified, Fill, plain, role, MayRead, trait_goal}
use Rattle.hir_types.specs.declared.head.Head.TheVariants as head
use Rattle.goal_select.specs.Words.infer_table.Opened.{plain as plain_place, alias as alias_place}
use Rattle.goal_select.specs.Words.goal_answers.Reading.{Role}
use Rattle.goal_select.proofs.Words.{MayReadBy}
use Rattle.goal_select.specs.Own.{goal_type}
use Rattle.goal_select.proofs.Known.{adt_head, log, goal_type_term, goal_type_resolved}

-- ---- readings

leaf_role : (h : Head) (b : Term) → place (pair (leaf h) b) ≡ plain_place → role (leaf h) ≡ plain
leaf_role (head.Projection k) b e = cc
leaf_role _ b e = refl

-- what is plain to unification isn't an alias
plain_role : (a b : Term) → place (pair a b) ≡ plain_place → role a ≡ plain
plain_role (hole k) b e = refl
plain_role (leaf h) b e = leaf_role h b e
plain_role (pair x y) b e = refl

-- what a term may read as at `q` unification may read it as, where the same stands for its holes
pub may_be_read : (q s : Fill) (t u : Term) → ((k : Hole) → occurs k t ≡ true → q k ≡ s k) → MayRead q t u → IsReadAs s t u
may_be_read q s (hole k) u e m = sym (e k (hole_eq_same k)) ∙ sym m
may_be_read q s (leaf h) u e m = sym m
may_be_read q s (pair a b) u e m =
    by_place (place (pair a b)) refl
    (λ v. may_be_read q s a v (λ k o. e k (or_left (occurs k a) (occurs k b) o)))
    (λ v. may_be_read q s b v (λ k o. e k (or_right (occurs k a) (occurs k b) o)))
  where
    Keeps : Term → Type 0
    Keeps t = (v : Term) → MayRead q t v → IsReadAs s t v

    by_place : (p : Place) → place (pair a b) ≡ p → Keeps a → Keeps b → Reads_at p s a b u
    by_place plain_place is left right =
        let P : Role → Type 0 = λ x. MayReadBy x q a b u in
        let r = subst P (plain_role a b is) m in
        (r.0, r.1, r.2, left r.0 r.3, right r.1 r.4)
    by_place alias_place is left right = tt
    by_place unknown_type is left right = tt
    by_place unknown_const is left right = tt

-- a plain term is read as what it is filled to
pub plain_read : (s : Fill) (t : Term) → IsPlain t → IsReadAs s t (apply s t)
plain_read s t h = reads_apply s 0 t (apply s t) (ap (λ x. apply s x.0) (opened_plain 0 t h))

-- ---- two goals about a trait

-- they are equal at what meets the table afterwards, and what makes them equal does
module _ (s after : State) (k h : TraitRef) (most : IsMostGeneral s after (goal_type k) (goal_type h)) where
  pub united_by : (f : Fill) → Meets f after → apply f (trait_goal k).parts ≡ apply f (trait_goal h).parts
  united_by f m = pair_right (ap (apply f) (sym (goal_type_term k)) ∙ most.unifies f m ∙ ap (apply f) (goal_type_term h))

  pub unites_by : (f : Fill) → Meets f s → apply f (trait_goal k).parts ≡ apply f (trait_goal h).parts → Meets f after
  unites_by f m e = most.general f m (ap (apply f) (goal_type_term k) ∙ ap (pair adt_head) e ∙ ap (apply f) (sym (goal_type_term h)))

-- with nothing that is bound in them

module _ (s : State) (k h : TraitRef) (known : resolved (log s) (trait_goal k).parts ≡ (trait_goal k).parts) (stays : resolved (log s) (trait_goal h).parts ≡ (trait_goal h).parts) where
  left_is : resolved_term s (goal_type k) ≡ pair adt_head (trait_goal k).parts
  left_is = goal_type_resolved s k ∙ ap (pair adt_head) known

  right_is : resolved_term s (goal_type h) ≡ pair adt_head (trait_goal h).parts
  right_is = goal_type_resolved s h ∙ ap (pair adt_head) stays

  pub can_be_equal : (f : Fill) (u : Term) → Respects f → Meets f s → IsReadAs f (trait_goal k).parts u → IsReadAs f (trait_goal h).parts u → CanBeEqual s (goal_type k) (goal_type h)
  can_be_equal f u respects meets left right =
      let v = pair adt_head u in (
        f,
        v,
        respects,
        meets,
        subst (λ t. IsReadAs f t v) (sym left_is) (adt_head, u, refl, refl, left),
        subst (λ t. IsReadAs f t v) (sym right_is) (adt_head, u, refl, refl, right),
      )

  module _ (after : State) (met : AreUnified s after (goal_type k) (goal_type h)) (left : IsPlain (trait_goal k).parts) (right : IsPlain (trait_goal h).parts) where
    most_general : IsMostGeneral s after (goal_type k) (goal_type h)
    most_general = met.most_general (subst IsPlain (sym left_is) (refl, tt, left)) (subst IsPlain (sym right_is) (refl, tt, right))

    pub united : (f : Fill) → Meets f after → apply f (trait_goal k).parts ≡ apply f (trait_goal h).parts
    united = united_by s after k h most_general

    pub unites : (f : Fill) → Meets f s → apply f (trait_goal k).parts ≡ apply f (trait_goal h).parts → Meets f after
    unites = unites_by s after k h most_general
