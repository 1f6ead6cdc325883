-- What each step of matching comes to.
use Rattle.std.specs.Prelude.{◌≡◌, Bool, true, false, ◌∷◌, [], ◌++◌, Some, None, ◌↔◌, IsTrue}
use Rattle.std.proofs.Common.{inl, inr, refl, sym, ap, ◌∙◌, subst, IfOk, Result}
use Rattle.std.proofs.lemmas.Result.{IfOk-weaker}
use Rattle.goal_terms.specs.Words.{TypeAliasId, Head, Hole, Term, hole, leaf, pair, Log, found, found_left, Fill, plain, alias, role, MayRead}
use Rattle.goal_terms.specs.Own.{fill_of, given, Agrees, Matched, NoneMatches, MatchedIf}
use Rattle.goal_terms.proofs.Parts.{may_by, may_alias, may_pair, may_parts}
use Rattle.goal_terms.proofs.Logs.{found_last, found_more}

-- nothing to do where the fills that agree are those under which it reads so
matched_here : (l : Log) (t w : Term) → ((p : Fill) → Agrees p l → MayRead p t w) → Matched l l t w
matched_here l t w f = record { keeps = λ p a. a; reads = f; general = λ p a m. a }

-- a hole that was met before
pub matched_known : (y : Bool) (l : Log) (k : Hole) (u w : Term) → found l k ≡ Some u → (IsTrue y ↔ (u ≡ w)) → MatchedIf y l l (hole k) w
matched_known true l k u w f d = matched_here l (hole k) w (λ p a. sym (a k u f ∙ d.0 refl))
matched_known false l k u w f d = λ p a m. let e = d.1 (sym (m ∙ a k u f)) in cc

-- a hole that is met first
pub matched_new : (l : Log) (k : Hole) (w : Term) → found l k ≡ None → Matched l (l ++ (k, w) ∷ []) (hole k) w
matched_new l k w n = record {
  keeps = λ p a j u f. a j u (found_left l ((k, w) ∷ []) j u f);
  reads = λ p a. sym (a k w (found_last l k w n));
  general = λ p a m j u f. elim (found_more l k j w u f) [
    | inl g ↦ a j u g
    | inr g ↦ ap p g.1 ∙ sym m ∙ g.2
  ];
}

pub matched_leaf : (y : Bool) (l : Log) (h : Head) (w : Term) → (IsTrue y ↔ (w ≡ leaf h)) → MatchedIf y l l (leaf h) w
matched_leaf true l h w d = matched_here l (leaf h) w (λ p a. d.0 refl)
matched_leaf false l h w d = λ p a m. let e = d.1 m in cc

pub matched_alias : (l : Log) (k : TypeAliasId) (a b w : Term) → role a ≡ alias k → Matched l l (pair a b) w
matched_alias l k a b w e = matched_here l (pair a b) w (λ p q. may_alias p k a b w e)

pub none_hole : (l : Log) (a b : Term) (k : Hole) → role a ≡ plain → NoneMatches l (pair a b) (hole k)
none_hole l a b k e p q m = let r = may_by p a b (hole k) plain e m in let f = r.2 in cc

pub none_leaf : (l : Log) (a b : Term) (h : Head) → role a ≡ plain → NoneMatches l (pair a b) (leaf h)
none_leaf l a b h e p q m = let r = may_by p a b (leaf h) plain e m in let f = r.2 in cc

pub none_left : (l : Log) (a b v w : Term) → role a ≡ plain → NoneMatches l a v → NoneMatches l (pair a b) (pair v w)
none_left l a b v w e n p q m = n p q (may_parts p a b v w e m).0

pub matched_pair : (y : Bool) (l m n : Log) (a b v w : Term) → role a ≡ plain → Matched l m a v → MatchedIf y m n b w → MatchedIf y l n (pair a b) (pair v w)
matched_pair true l m n a b v w e f g = record {
  keeps = λ p q. f.keeps p (g.keeps p q);
  reads = λ p q. may_pair p a b v w e (f.reads p (g.keeps p q)) (g.reads p q);
  general = λ p q r. let d = may_parts p a b v w e r in g.general p (f.general p q d.0) d.1;
}
matched_pair false l m n a b v w e f g = λ p q r. let d = may_parts p a b v w e r in g p (f.general p q d.0) d.1

-- ---- at the end

pub fill_agrees : (l : Log) → Agrees (fill_of l) l
fill_agrees l k u f = ap given f

pub agrees_none : (p : Fill) → Agrees p []
agrees_none p k u f = cc

-- ---- as the code takes them

pub matched_bound : (l m : Log) (k : Hole) (w w' : Term) → found l k ≡ None → w' ≡ w → m ≡ l ++ (k, w') ∷ [] → Matched l m (hole k) w
matched_bound l m k w w' n e f =
    subst (λ (z : Log). Matched l z (hole k) w) (sym (f ∙ ap (λ (u : Term). l ++ (k, u) ∷ []) e)) (matched_new l k w n)

pub after_pair : {E : Type 0} (r : Result Bool E) (y : Bool) (l m n : Log) (t u a b v w : Term) → t ≡ pair a b → u ≡ pair v w → role a ≡ plain → y ≡ true → MatchedIf y l m a v → IfOk r (λ yes. MatchedIf yes m n b w) → IfOk r (λ yes. MatchedIf yes l n t u)
after_pair r y l m n t u a b v w e f p i g h =
    let first : Matched l m a v = subst (λ (z : Bool). MatchedIf z l m a v) i g in
    IfOk-weaker r (λ yes. MatchedIf yes m n b w) (λ yes. MatchedIf yes l n t u) (λ yes k.
    let whole = matched_pair yes l m n a b v w p first k in
    let there = subst (λ (z : Term). MatchedIf yes l n (pair a b) z) (sym f) whole in
    subst (λ (z : Term). MatchedIf yes l n z u) (sym e) there) h
