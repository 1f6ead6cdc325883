-- What each step of opening a part comes to.
use Rattle.std.specs.Prelude.{◌≡◌, ℕ, ◌+◌, ◌≤◌, ◌<◌, Bool, true, false, cond, [], ◌∷◌, ◌++◌, Some, None}
use Rattle.std.proofs.Common.{inl, inr, refl, sym, ap, ap₂, ◌∙◌, subst, arith, true≢false, IfOk, OnOk, Result, Ok, Err}
use Rattle.std.proofs.lemmas.Bool.{or_cases}
use Rattle.goal_terms.specs.Words.{TypeAliasId, Head, Hole, Term, hole, leaf, pair, apply, occurs, hole_eq, hole_number, IsInt, Log, found, Respects, IsIntHole, hole_eq_true, hole_eq_same, hole_ne, apply_agree, found_left, IsBelow, Fill, plain, alias, role, IsRead, IsFilling, stands, MayRead}
use Rattle.hir_types.specs.declared.head.Hole.TheVariants as hole_of
use Rattle.goal_terms.specs.Own.{Term as Owned, term_of, HasHeads, AreNames, Stand, Lifted, Opened}
use Rattle.goal_terms.proofs.Logs.{found_last, found_more}
use Rattle.goal_terms.proofs.Parts.{may_by, may_alias, may_pair, stands_at}

-- ---- what stands for a new hole

abbrev put : ℕ → Term → Fill → Fill
put n x z k = cond (hole_eq (hole_of.Ty n) k) x (z k)

put_read : (x t : Term) (b : Bool) → IsRead x → IsRead t → IsRead (cond b x t)
put_read x t true r s = r
put_read x t false r s = s

put_respects : (n : ℕ) (x : Term) (z : Fill) → Respects z → (k : Hole) → IsIntHole k → IsInt (put n x z k)
put_respects n x z r (hole_of.Ty m) i = absurd i
put_respects n x z r (hole_of.Int m) i = r (hole_of.Int m) i
put_respects n x z r (hole_of.Const m) i = absurd i

put_filling : (n : ℕ) (x : Term) (z : Fill) → IsRead x → IsFilling z → IsFilling (put n x z)
put_filling n x z r f = record {
  read = λ k. put_read x (z k) (hole_eq (hole_of.Ty n) k) r (f.read k);
  respects = put_respects n x z f.respects;
}

other : (x t : Term) (b : Bool) → b ≡ false → cond b x t ≡ t
other x t true e = absurd (true≢false e)
other x t false e = refl

this : (x t : Term) (b : Bool) → b ≡ true → cond b x t ≡ x
this x t true e = refl
this x t false e = absurd (true≢false (sym e))

put_same : (n : ℕ) (x : Term) (z : Fill) (k : Hole) → hole_number k < n → put n x z k ≡ z k
put_same n x z k h = other x (z k) (hole_eq (hole_of.Ty n) k) (hole_ne (hole_of.Ty n) k (λ e. let f = ap hole_number e in omega arith))

put_there : (n : ℕ) (x : Term) (z : Fill) → put n x z (hole_of.Ty n) ≡ x
put_there n x z = this x (z (hole_of.Ty n)) (hole_eq (hole_of.Ty n) (hole_of.Ty n)) (hole_eq_same (hole_of.Ty n))

put_named : (n : ℕ) (x : Term) (q z : Fill) (l : Log) → AreNames n l → Stand q z l → Stand q (put n x z) l
put_named n x q z l h s k v f =
    let d = h k v f in
    ap (apply (put n x z)) d.1 ∙ put_same n x z (hole_of.Ty d.0) d.2 ∙ ap (apply z) (sym d.1) ∙ s k v f

below_hole : (n i : ℕ) → i < n → IsBelow n (hole (hole_of.Ty i))
below_hole n i h k o = let e = ap hole_number (hole_eq_true k (hole_of.Ty i) o) in omega arith

below_more : (n : ℕ) (t : Term) (m : ℕ) → n ≤ m → IsBelow n t → IsBelow m t
below_more n t m h b k o = let c = b k o in omega arith

more_names : (n m : ℕ) (l : Log) → n ≤ m → AreNames n l → AreNames m l
more_names n m l h a k v f = let d = a k v f in let lt = d.2 in (d.0, d.1, omega arith)

-- ---- steps

pub opened_leaf : (n : ℕ) (l : Log) (h : Head) → AreNames n l → Opened n l n l (leaf h) (leaf h)
opened_leaf n l h a = record {
  grows = omega arith;
  names = a;
  keeps = λ k v f. f;
  below = λ k o. absurd (true≢false (sym o));
  roles = refl;
  head = λ i. i;
  heads = λ i. i;
  told = λ k s. absurd (true≢false (sym s));
  lowers = λ q z s. refl;
  lifts = λ q z x s f r m. record { at = z; filling = f; named = s; same = λ k i. refl; is = sym m };
}

pub opened_known : (n : ℕ) (l : Log) (k : Hole) (v : Term) → AreNames n l → found l k ≡ Some v → Opened n l n l (hole k) v
opened_known n l k v a f =
    let d = a k v f in record {
      grows = omega arith;
      names = a;
      keeps = λ j u g. g;
      below = subst (IsBelow n) (sym d.1) (below_hole n d.0 d.2);
      roles = ap role d.1;
      head = λ i. absurd i;
      heads = λ i. subst HasHeads (sym d.1) tt;
      told = λ j s. (v, ap (found l) (hole_eq_true j k s) ∙ f);
      lowers = λ q z s. s k v f;
      lifts = λ q z x s g r m. record { at = z; filling = g; named = s; same = λ j i. refl; is = s k v f ∙ sym m };
    }

new_names : (n : ℕ) (l : Log) (k : Hole) → AreNames n l → AreNames (n + 1) (l ++ (k, hole (hole_of.Ty n)) ∷ [])
new_names n l k a j v f = elim (found_more l k j (hole (hole_of.Ty n)) v f) [
  | inl g ↦ let d = a j v g in let lt = d.2 in (d.0, d.1, omega arith)
  | inr g ↦ (n, sym g.2, omega arith)
]

new_named : (n : ℕ) (x : Term) (q z : Fill) (l : Log) (k : Hole) → AreNames n l → x ≡ q k → Stand q z l → Stand q (put n x z) (l ++ (k, hole (hole_of.Ty n)) ∷ [])
new_named n x q z l k a e s j v f = elim (found_more l k j (hole (hole_of.Ty n)) v f) [
  | inl g ↦ put_named n x q z l a s j v g
  | inr g ↦ ap (apply (put n x z)) (sym g.2) ∙ put_there n x z ∙ e ∙ ap q (sym g.1)
]

pub opened_new : (n : ℕ) (l : Log) (k : Hole) → AreNames n l → found l k ≡ None → Opened n l (n + 1) (l ++ (k, hole (hole_of.Ty n)) ∷ []) (hole k) (hole (hole_of.Ty n))
opened_new n l k a e =
    let fresh = hole (hole_of.Ty n) in record {
      grows = omega arith;
      names = new_names n l k a;
      keeps = λ j u g. found_left l ((k, fresh) ∷ []) j u g;
      below = below_hole (n + 1) n (omega arith);
      roles = refl;
      head = λ i. i;
      heads = λ i. i;
      told = λ j s. (fresh, ap (found (l ++ (k, fresh) ∷ [])) (hole_eq_true j k s) ∙ found_last l k fresh e);
      lowers = λ q z s. s k fresh (found_last l k fresh e);
      lifts = λ q z x s f r m. record {
        at = put n x z;
        filling = put_filling n x z r f;
        named = new_named n x q z l k a m s;
        same = λ j i. put_same n x z j i;
        is = put_there n x z;
      };
    }

pub opened_alias : (n : ℕ) (l : Log) (c : TypeAliasId) (a b : Term) → AreNames n l → role a ≡ alias c → Opened n l (n + 1) l (pair a b) (hole (hole_of.Ty n))
opened_alias n l c a b h e = record {
  grows = omega arith;
  names = more_names n (n + 1) l (omega arith) h;
  keeps = λ j u g. g;
  below = below_hole (n + 1) n (omega arith);
  roles = refl;
  head = λ i. let f : alias c ≡ plain = sym e ∙ i in cc;
  heads = λ i. tt;
  told = λ j s. absurd (true≢false (sym (stands_at j a b (alias c) e s)));
  lowers = λ q z s. may_alias q c a b (z (hole_of.Ty n)) e;
  lifts = λ q z x s f r m. record {
    at = put n x z;
    filling = put_filling n x z r f;
    named = put_named n x q z l h s;
    same = λ j i. put_same n x z j i;
    is = put_there n x z;
  };
}

-- two parts, one after the other
module _ (n : ℕ) (l : Log) (i : ℕ) (j : Log) (m : ℕ) (o : Log) (a b u v : Term) (e : role a ≡ plain) (f : Opened n l i j a u) (g : Opened i j m o b v) where
  pair_below : IsBelow m (pair u v)
  pair_below k h = elim (or_cases (occurs k u) (occurs k v) h) [
    | inl c ↦ below_more i u m g.grows f.below k c
    | inr c ↦ g.below k c
  ]

  pair_told : (k : Hole) → stands k (pair a b) ≡ true → (w : Term) × (found o k ≡ Some w)
  pair_told k s = elim (or_cases (stands k a) (stands k b) (stands_at k a b plain e s)) [
    | inl c ↦ let d = f.told k c in (d.0, g.keeps k d.0 d.1)
    | inr c ↦ g.told k c
  ]

  pair_lifts : (q z : Fill) (x : Term) → Stand q z l → IsFilling z → IsRead x → MayRead q (pair a b) x → Lifted n o q z (pair u v) x
  pair_lifts q z x s h r w =
      let d = may_by q a b x plain e w in
      let parts : IsRead d.0 × IsRead d.1 = subst IsRead d.2 r in
      let c = f.lifts q z d.0 s h parts.0 d.3 in
      let k = g.lifts q c.at d.1 c.named c.filling parts.1 d.4 in
      let grows = f.grows in record {
        at = k.at;
        filling = k.filling;
        named = k.named;
        same = λ y t. k.same y (omega arith) ∙ c.same y t;
        is = ap₂ pair (apply_agree k.at c.at u (λ y t. k.same y (f.below y t)) ∙ c.is) k.is ∙ sym d.2;
      }

  pub opened_pair : Opened n l m o (pair a b) (pair u v)
  opened_pair = let p = f.grows in let r = g.grows in record {
    grows = omega arith;
    names = g.names;
    keeps = λ k w h. g.keeps k w (f.keeps k w h);
    below = pair_below;
    roles = refl;
    head = λ h. f.roles ∙ h;
    heads = λ h. (f.head h.0, f.heads h.1, g.heads h.2);
    told = pair_told;
    lowers = λ q z s. may_pair q a b (apply z u) (apply z v) e (f.lowers q z (λ k w h. s k w (g.keeps k w h))) (g.lowers q z s);
    lifts = pair_lifts;
  }

-- ---- as the code takes them

pub after_new : (n : ℕ) (l : Log) (k : Hole) (m : ℕ) (l' o : Log) (v w : Term) → AreNames n l → found l k ≡ None → m ≡ n + 1 → l' ≡ l → v ≡ hole (hole_of.Ty n) → w ≡ v → o ≡ l' ++ (k, w) ∷ [] → Opened n l m o (hole k) v
after_new n l k m l' o v w a f e g h i j =
    let named : o ≡ l ++ (k, hole (hole_of.Ty n)) ∷ [] = j ∙ ap (λ (z : Log). z ++ (k, w) ∷ []) g ∙ ap (λ (z : Term). l ++ (k, z) ∷ []) (i ∙ h) in
    let counted = subst (λ (z : ℕ). Opened n l z (l ++ (k, hole (hole_of.Ty n)) ∷ []) (hole k) (hole (hole_of.Ty n))) (sym e) (opened_new n l k a f) in
    let there = subst (λ (z : Log). Opened n l m z (hole k) (hole (hole_of.Ty n))) (sym named) counted in
    subst (Opened n l m o (hole k)) (sym h) there

alias_as : (n : ℕ) (l : Log) (c : TypeAliasId) (a b : Term) (m : ℕ) (o : Log) (t v : Term) → AreNames n l → role a ≡ alias c → t ≡ pair a b → v ≡ hole (hole_of.Ty n) → m ≡ n + 1 → o ≡ l → Opened n l m o t v
alias_as n l c a b m o t v h e f g i j =
    let counted = subst (λ (z : ℕ). Opened n l z l (pair a b) (hole (hole_of.Ty n))) (sym i) (opened_alias n l c a b h e) in
    let there = subst (λ (z : Log). Opened n l m z (pair a b) (hole (hole_of.Ty n))) (sym j) counted in
    let part = subst (λ (z : Term). Opened n l m o z (hole (hole_of.Ty n))) (sym f) there in
    subst (Opened n l m o t) (sym g) part

pub after_alias : {E : Type 0} (r : Result Owned E) (n : ℕ) (l : Log) (c : TypeAliasId) (a b : Term) (m : ℕ) (o : Log) (t : Term) → AreNames n l → role a ≡ alias c → t ≡ pair a b → IfOk r (λ x. term_of x ≡ hole (hole_of.Ty n)) → OnOk r (m ≡ n + 1) → o ≡ l → IfOk r (λ x. Opened n l m o t (term_of x))
after_alias (Ok x) n l c a b m o t h e f g i j = alias_as n l c a b m o t (term_of x) h e f g i j
after_alias (Err x) n l c a b m o t h e f g i j = tt

pub after_parts : (n : ℕ) (l : Log) (i : ℕ) (j : Log) (m : ℕ) (o : Log) (t w a b u v : Term) → role a ≡ plain → t ≡ pair a b → w ≡ pair u v → Opened n l i j a u → Opened i j m o b v → Opened n l m o t w
after_parts n l i j m o t w a b u v e f g h k =
    let part = subst (λ (z : Term). Opened n l m o z (pair u v)) (sym f) (opened_pair n l i j m o a b u v e h k) in
    subst (Opened n l m o t) (sym g) part
