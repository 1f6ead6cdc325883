-- What the most general common instance and the one match tell of a rule.
use Rattle.std.proofs.Common.{◌≡◌, ◌⊎◌, inl, inr, true, sym, ap, ◌∙◌, subst, List}
use Rattle.goal_answers.specs.Words.{Hole, Term, apply, occurs, apply_apply, apply_agree, is_int_apply}
use Rattle.goal_answers.specs.Own.{Fill, IsFilling, stands, Aliases, Reads, MayRead, Asked, Rule, asked_at, Each, SomeOf, IsTold, Verdicts, NeverSame, IsApart, FailsAt, IsRefuted, HoldsAt, Tells}
use Rattle.goal_answers.proofs.Lists.{each_with, some_with}
use Rattle.goal_answers.proofs.Readings.{reads_filled, reads_one, reads_may, reads_agree, may_tells}
use Rattle.goal_answers.proofs.Levels.{IsLevel}

-- a goal at what stands for its holes, where two agree on these
asked_agree : (p q : Fill) (g : Asked) → ((k : Hole) → occurs k g.parts ≡ true → p k ≡ q k) → asked_at p g ≡ asked_at q g
asked_agree p q g e = ap (λ (t : Term). let r : Asked = record { kind = g.kind; parts = t } in r) (apply_agree p q g.parts e)

module _ (A : Aliases) (v : Verdicts) (l : IsLevel A v) (r : Rule) (t : Term) (preds : List Asked) (tells : IsTold r → Tells r t preds) (w : Term) where
  -- where the part matches at all, it does by the match that was found
  module _ (q : Fill) (m : MayRead q t w) where
    agree : (p : Fill) → HoldsAt A v r t preds w p → (k : Hole) → stands k t ≡ true → p k ≡ q k
    agree p h = may_tells p q t w (reads_may A p t w h.part) m

    pub part_here : (p : Fill) → HoldsAt A v r t preds w p → Reads A q t w
    part_here p h = reads_agree A p q t w (λ k o. agree p h k ((tells h.told).itself k o)) h.part

    pub preds_here : (p : Fill) → HoldsAt A v r t preds w p → Each (λ g. v.Yes (asked_at q g)) preds
    preds_here p h =
        each_with (λ g told y. subst v.Yes (asked_agree p q g (λ k o. agree p h k (told k o))) y) preds (tells h.told).preds h.preds

    pub reading_here : (p : Fill) (u : Term) → Reads A q t u → HoldsAt A v r t preds w p → u ≡ w
    reading_here p u i h = reads_one A l.one q t u w i (part_here p h)

  -- ---- refutation, at a most general common instance

  module _ (q s : Fill) (filling : IsFilling s) (m : MayRead q t (apply s w)) where
    abbrev instance : (f : FailsAt A v t preds w) → (x : Fill) × IsFilling x × ((k : Hole) → stands k t ≡ true → q k ≡ apply x (f.at k))
    instance f = f.general q s filling m

    pub not_apart : IsApart t w → ⊥
    not_apart a = a q s filling m

    -- a predicate that fails there fails here
    pub some_no_here : Tells r t preds → (f : FailsAt A v t preds w) → SomeOf (λ g. v.No (asked_at f.at g)) preds → SomeOf (λ g. v.No (asked_at q g)) preds
    some_no_here ts f h =
        let x = instance f in
        some_with (λ g told n. subst v.No
        (ap (λ (y : Term). let i : Asked = record { kind = g.kind; parts = y } in i) (apply_apply x.0 f.at g.parts ∙ apply_agree (λ k. apply x.0 (f.at k)) q g.parts (λ k o. sym (x.2 k (told k o)))))
        ((l.stays x.0 x.1).no (asked_at f.at g) n)) preds ts.preds h

    -- and what reads as something else there reads as an instance of it here
    pub reading_there : Tells r t preds → (f : FailsAt A v t preds w) (h : Term) → Reads A f.at t h → Reads A q t (apply (instance f).0 h)
    reading_there ts f h i =
        let x = instance f in
        reads_agree A (λ k. apply x.0 (f.at k)) q t (apply x.0 h) (λ k o. sym (x.2 k (ts.itself k o))) (reads_filled x.0 A (l.alias_stays x.0 x.1) f.at t h i)

    never_same_instance : (x : Fill) → IsFilling x → (h : Term) → NeverSame h w → NeverSame (apply x h) w
    never_same_instance x f h n y z a b e = n (λ k. apply y (x k)) z (λ k i. is_int_apply y (x k) a (f.respects k i)) b (sym (apply_apply y x h) ∙ e)

    -- so the rule is not refuted, where no predicate is No here and what the part reads as here can be the goal's
    pub not_refuted_here : (SomeOf (λ g. v.No (asked_at q g)) preds → ⊥) → ((u : Term) → Reads A q t u → NeverSame u w → ⊥) → IsRefuted A v r t preds w → ⊥
    not_refuted_here no_pred same (inl a) = not_apart a
    not_refuted_here no_pred same (inr (told, f)) = by_case f.fails
      where
        by_case : ((h : Term) × Reads A f.at t h × NeverSame h w) ⊎ SomeOf (λ g. v.No (asked_at f.at g)) preds → ⊥
        by_case (inl a) = same (apply (instance f).0 a.0) (reading_there (tells told) f a.0 a.1) (never_same_instance (instance f).0 (instance f).1 a.0 a.2)
        by_case (inr a) = no_pred (some_no_here (tells told) f a)
