-- Types without associated types and without `{unknown}` unify exactly where some types for their holes make them the same.
use Rattle.std.specs.Prelude.{◌≡◌, ◌⊎◌, ◌++◌, Bool, true, false, List, []}
use Rattle.std.proofs.Common.{inl, inr, refl, sym, ap, ◌∙◌, subst, true≢false}
use Rattle.infer_unify.specs.Words.{Ty, erased_tells, folded, Term, term, terms_of, term_folded, Verdicts}
use Rattle.infer_unify.specs.Own.{Unification, CanBeSame, UnifyExactly, IsExact, Alias, Opened, as_it_is, opened, second_opened, above_both, AreOpened, IsBare, HaveCommon, Becomes, BecomesFrom}
use Rattle.infer_unify.specs.declared.unification.Unification.TheVariants as unification
use Rattle.infer_unify.proofs.Openings.{opened_bare}
use Rattle.infer_unify.proofs.ReadBack.{back, same_back, back_respects}

-- ---- terms and types

terms_have : (a b : Ty) → CanBeSame a b → HaveCommon (term a) (term b)
terms_have a b (s, r, e) = (terms_of s, r, sym (term_folded s a) ∙ erased_tells (folded s a) (folded s b) e ∙ term_folded s b)

types_have : (a b : Ty) → HaveCommon (term a) (term b) → CanBeSame a b
types_have a b (s, r, e) = (back s, back_respects s r, same_back s a b e)

-- ---- nothing is opened

record IsPlain (a b : Term) (ps : List Alias) (u v : Term) : Type 0 where
  left : u ≡ a
  right : v ≡ b
  none : ps ≡ []

nothing_opened : (a b : Term) (ps : List Alias) (u v : Term) → IsBare a → IsBare b → AreOpened a b ps u v → IsPlain a b ps u v
nothing_opened a b ps u v bare_a bare_b h =
    let n = above_both a b in
    let x : opened n a ≡ as_it_is n a = opened_bare n a bare_a in
    let y : second_opened n a b ≡ as_it_is (opened n a).next b = opened_bare (opened n a).next b bare_b in
    record {
      left = h.left ∙ ap (λ (z : Opened). z.term) x;
      right = h.right ∙ ap (λ (z : Opened). z.term) y;
      none = h.aliases ∙ (λ i. (x i).aliases ++ (second_opened n a b).aliases) ∙ ap (λ (z : Opened). z.aliases) y;
    }

plain_becomes : (v : Verdicts) (a b : Term) (found : Unification) → IsBare a → IsBare b → BecomesFrom v a b found → Becomes v [] a b found
plain_becomes v a b found bare_a bare_b h =
    let q = nothing_opened a b h.aliases h.left h.right bare_a bare_b h.opened in
    let P : List Alias → Type 0 = λ z. Becomes v z h.left h.right found in
    let Q : Term → Type 0 = λ z. Becomes v [] z h.right found in
    let R : Term → Type 0 = λ z. Becomes v [] a z found in
    subst R q.right (subst Q q.left (subst P q.none h.becomes))

plain_exactly : (v : Verdicts) (a b : Ty) (found : Unification) → Becomes v [] (term a) (term b) found
    → ((found ≡ unification.Yes) × CanBeSame a b) ⊎ ((found ≡ unification.No) × (CanBeSame a b → ⊥))
plain_exactly v a b unification.No (inl none) = inr (refl, λ h. none (terms_have a b h))
plain_exactly v a b unification.No (inr (l, is, inl (i, p, at, s))) = cc
plain_exactly v a b unification.No (inr (l, is, inr h)) = absurd h.1
plain_exactly v a b unification.Undecided (l, is, all, common, judged) = absurd judged.1
plain_exactly v a b unification.Yes (l, is, all, common, judged) = inl (refl, types_have a b (common.0, common.1, common.3))

exactly : (v : Verdicts) (a b : Ty) (found : Unification) → BecomesFrom v (term a) (term b) found → UnifyExactly a b found
exactly v a b found h bare = plain_exactly v a b found (plain_becomes v (term a) (term b) found bare.0 bare.1 h)

pub exactly_by : (v : Verdicts) (a b : Ty) (x y : Term) (ps : List Alias) (u w : Term) (found : Unification) → x ≡ term a → y ≡ term b → AreOpened x y ps u w → Becomes v ps u w found → UnifyExactly a b found
exactly_by v a b x y ps u w found e f h g =
    let P : Term → Type 0 = λ z. AreOpened z y ps u w in
    let Q : Term → Type 0 = λ z. AreOpened (term a) z ps u w in
    exactly v a b found (record { aliases = ps; left = u; right = w; opened = subst Q f (subst P e h); becomes = g })

-- ---- a test that holds of Yes and not of No

pub exact_test : (test : Unification → Bool) (a b : Ty) (found : Unification) (is : Bool) → test unification.Yes ≡ true → test unification.No ≡ false → is ≡ test found → UnifyExactly a b found → IsExact a b is
exact_test test a b found is at_yes at_no e h bare = elim (h bare) [
  | inl q ↦ ((λ t. q.1), (λ c. e ∙ ap test q.0 ∙ at_yes))
  | inr q ↦ ((λ t. absurd (true≢false (sym t ∙ e ∙ ap test q.0 ∙ at_no))), (λ c. absurd (q.1 c)))
]
