-- A rule's head, at fresh holes, beside a goal of the table.
use Rattle.std.proofs.Common.{◌≡◌, ℕ, sym, ap, ◌∙◌, subst, List, length}
use Rattle.goal_select.specs.Words.{HoleKind, TraitRef, Term, apply, AllOf, resolved, Triangular, AreOf, BindsOf, resolved_fixed, IsReadAs, State, bindings, hole_count, Meets, CanBeEqual, AreUnified, Fill, IsFilling, MayRead, IsConcrete, concrete_plain, may_concrete, fresh, HasHolesBelow, trait_goal}
use Rattle.goal_select.proofs.Words.{binds_of_all}
use Rattle.goal_select.specs.Own.{goal_type, with_type_holes}
use Rattle.goal_select.proofs.Known.{log}
use Rattle.goal_select.proofs.Uniting.{plain_read, can_be_equal, united, unites}
use Rattle.goal_select.proofs.Fills.{fresh_free, joined, joined_of, joined_solves, joined_fresh, joined_respects}
use Rattle.goal_select.proofs.ClauseSteps.{after_known, known_respects, known_meets, known_at}
use Rattle.goal_select.proofs.Params.{fresh_concrete}

-- the goal has nothing bound in it, and the table made its holes; the head is that of a rule, at fresh holes
module _ (s : State) (acyclic : Triangular (log s)) (made : AllOf s.substitution.kinds (bindings s)) (k : TraitRef) (known : resolved (log s) (trait_goal k).parts ≡ (trait_goal k).parts) (of : AreOf s.substitution.kinds (trait_goal k).parts)
    (concrete : IsConcrete (trait_goal k).parts) (n : ℕ) (r : Term) (plain : IsConcrete r) (holes : HasHolesBelow n r) (h : TraitRef) (is : (trait_goal h).parts ≡ apply (fresh (hole_count s)) r) where
  abbrev kinds : List HoleKind
  kinds = s.substitution.kinds

  abbrev mid : State
  mid = with_type_holes s n

  binds : BindsOf kinds (log s)
  binds = binds_of_all kinds (bindings s) made

  head_stays : resolved (log s) (trait_goal h).parts ≡ (trait_goal h).parts
  head_stays = subst (λ t. resolved (log s) t ≡ t) (sym is) (resolved_fixed (log s) (apply (fresh (length kinds)) r) (fresh_free kinds (log s) r binds))

  head_concrete : IsConcrete (trait_goal h).parts
  head_concrete = subst IsConcrete (sym is) (fresh_concrete (length kinds) r plain)

  goal_joined : (f v : Fill) → apply (joined (length kinds) f v) (trait_goal k).parts ≡ apply f (trait_goal k).parts
  goal_joined f v = joined_of kinds f v (trait_goal k).parts of

  head_joined : (f v : Fill) → apply (joined (length kinds) f v) (trait_goal h).parts ≡ apply v r
  head_joined f v = ap (apply (joined (length kinds) f v)) is ∙ joined_fresh (length kinds) n f v r holes

  -- where the rule's head may read as the goal at some filling, the two can be made equal
  pub rule_can : (q f : Fill) → IsFilling f → MayRead q r (apply f (trait_goal k).parts) → CanBeEqual mid (goal_type k) (goal_type h)
  rule_can q f filling may =
      let w = (trait_goal k).parts in
      let x = joined (length kinds) (after_known s f) q in
      can_be_equal mid k h known head_stays x (apply f w)
      (joined_respects (length kinds) (after_known s f) q (known_respects s acyclic f filling))
      (joined_solves kinds (after_known s f) q (log s) binds (known_meets s acyclic f filling))
      (subst (IsReadAs x w) (goal_joined (after_known s f) q ∙ known_at s acyclic f filling w known) (plain_read x w (concrete_plain w concrete)))
      (subst (IsReadAs x (trait_goal h).parts) (head_joined (after_known s f) q ∙ sym (may_concrete q r (apply f w) plain may)) (plain_read x (trait_goal h).parts (concrete_plain (trait_goal h).parts head_concrete)))

  module _ (after : State) (met : AreUnified mid after (goal_type k) (goal_type h)) where
    -- they are the same at what meets the table afterwards
    pub rule_united : (f : Fill) → Meets f after → apply f (trait_goal k).parts ≡ apply f (apply (fresh (hole_count s)) r)
    rule_united f m = united mid k h known head_stays after met (concrete_plain (trait_goal k).parts concrete) (concrete_plain (trait_goal h).parts head_concrete) f m ∙ ap (apply f) is

    -- and a filling at which the head is the goal meets it, with what stands for the rule's holes
    pub rule_unites : (f v : Fill) → Meets f s → apply f (trait_goal k).parts ≡ apply v r → Meets (joined (hole_count s) f v) after
    rule_unites f v m e =
        unites mid k h known head_stays after met (concrete_plain (trait_goal k).parts concrete) (concrete_plain (trait_goal h).parts head_concrete) (joined (length kinds) f v)
        (joined_solves kinds f v (log s) binds m)
        (goal_joined f v ∙ e ∙ sym (head_joined f v))
