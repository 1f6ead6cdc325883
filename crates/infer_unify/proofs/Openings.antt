-- What each step of opening a term comes to.
use Rattle.std.specs.Prelude.{◌≡◌, ℕ, ◌+◌, List, [], ◌∷◌, ◌++◌}
use Rattle.std.proofs.Common.{refl, sym, ap, ◌∙◌, subst, append_assoc}
use Rattle.infer_unify.specs.Words.{TypeAliasId, Head, Hole, Term, hole, leaf, pair, role, IsReadLeaf, IsRead, IsHead, HasHeads}
use Rattle.hir_types.specs.declared.head.Head.TheVariants as head
use Rattle.hir_types.specs.declared.head.Hole.TheVariants as hole_of
use Rattle.infer_unify.proofs.Words.{each_append}
use Rattle.infer_unify.specs.Own.{Place, plain, alias, unknown_type, unknown_const, place, Alias, Opened, as_it_is, behind, joined, opened, IsOpened, HaveHeads, IsBare}
use Rattle.infer_unify.proofs.Lists.{IsListBehind, HasLists}

-- ---- a head with parts behind it

abbrev node_at : Place → ℕ → Head → Term → Opened
node_at p n h b = elim p [
  | plain ↦ behind (leaf h) (opened n b)
  | alias k ↦ record { term = hole (hole_of.Ty n); next = n + 1; aliases = record { hole = n; alias = k; args = b } ∷ [] }
  | unknown_type ↦ as_it_is (n + 1) (hole (hole_of.Ty n))
  | unknown_const ↦ as_it_is (n + 1) (hole (hole_of.Const n))
]

plain_node : (p : Place) (n : ℕ) (h : Head) (b : Term) → p ≡ plain → node_at p n h b ≡ behind (leaf h) (opened n b)
plain_node p n h b e = let P : Place → Type 0 = λ z. node_at z n h b ≡ behind (leaf h) (opened n b) in subst P (sym e) refl

opened_leaf : (n : ℕ) (h : Head) (b : Term) → place h ≡ plain → opened n (pair (leaf h) b) ≡ behind (leaf h) (opened n b)
opened_leaf n h b e = plain_node (place h) n h b e

-- ---- steps

pub after_hole : (n m : ℕ) (os ps : List Alias) (t w a b u : Term) (k : Hole) → a ≡ hole k → t ≡ pair a b → w ≡ pair (hole k) u → IsOpened n m os ps b u → IsOpened n m os ps t w
after_hole n m os ps t w a b u k is e f h =
    let here : IsOpened n m os ps (pair (hole k) b) (pair (hole k) u) = record { term = ap (pair (hole k)) h.term; next = h.next; aliases = h.aliases } in
    let P : Term → Type 0 = λ z. IsOpened n m os ps z (pair (hole k) u) in
    subst (IsOpened n m os ps t) (sym f) (subst P (sym (e ∙ ap (λ z. pair z b) is)) here)

pub after_leaf : (n i m : ℕ) (os qs ps : List Alias) (t w a b u : Term) (h : Head) → a ≡ leaf h → t ≡ pair a b → w ≡ pair (leaf h) u → (place h ≡ plain) × (i ≡ n) × (qs ≡ os) → IsOpened i m qs ps b u → IsOpened n m os ps t w
after_leaf n i m os qs ps t w a b u h is e f g o =
    let P : ℕ → Type 0 = λ z. IsOpened z m qs ps b u in
    let Q : List Alias → Type 0 = λ z. IsOpened n m z ps b u in
    let x : IsOpened n m os ps b u = subst Q g.2 (subst P g.1 o) in
    let same : opened n (pair (leaf h) b) ≡ behind (leaf h) (opened n b) = opened_leaf n h b g.0 in
    let here : IsOpened n m os ps (pair (leaf h) b) (pair (leaf h) u) = record {
      term = ap (pair (leaf h)) x.term ∙ sym (ap (λ (z : Opened). z.term) same);
      next = x.next ∙ sym (ap (λ (z : Opened). z.next) same);
      aliases = x.aliases ∙ ap (◌++◌ os) (sym (ap (λ (z : Opened). z.aliases) same));
    } in
    let R : Term → Type 0 = λ z. IsOpened n m os ps z (pair (leaf h) u) in
    subst (IsOpened n m os ps t) (sym f) (subst R (sym (e ∙ ap (λ z. pair z b) is)) here)

pub after_pair : (n i m : ℕ) (os qs ps : List Alias) (t w a b c d u v x : Term) → a ≡ pair c d → t ≡ pair a b → x ≡ c → w ≡ pair (pair x u) v → IsOpened n i os qs d u → IsOpened i m qs ps b v → IsOpened n m os ps t w
after_pair n i m os qs ps t w a b c d u v x is e same f g h =
    let P : ℕ → Type 0 = λ z. IsOpened z m qs ps b v in
    let k : IsOpened (opened n d).next m qs ps b v = subst P g.next h in
    let here : IsOpened n m os ps (pair (pair c d) b) (pair (pair c u) v) = record {
      term = λ j. pair (pair c (g.term j)) (k.term j);
      next = k.next;
      aliases = k.aliases ∙ ap (λ z. z ++ (opened (opened n d).next b).aliases) g.aliases ∙ append_assoc os (opened n d).aliases (opened (opened n d).next b).aliases;
    } in
    let R : Term → Type 0 = λ z. IsOpened n m os ps z (pair (pair c u) v) in
    subst (IsOpened n m os ps t) (sym (f ∙ ap (λ z. pair (pair z u) v) same)) (subst R (sym (e ∙ ap (λ z. pair z b) is)) here)

-- ---- what stands first in pairs is known still

record StillHeaded (x : Opened) : Type 0 where
  term : HasHeads x.term
  aliases : HaveHeads x.aliases

-- a list stands behind the mark of an associated type
list_behind : (h : Head) (k : TypeAliasId) (b : Term) → place h ≡ alias k → IsListBehind (role (leaf h)) b → IsHead b
list_behind (head.Projection j) k b e i = i
list_behind head.Error k b e i = cc
list_behind head.UnknownConst k b e i = cc
list_behind _ k b e i = cc

node_headed : (p : Place) (n : ℕ) (h : Head) (b : Term) → p ≡ place h → HasHeads b → IsListBehind (role (leaf h)) b → StillHeaded (opened n b) → StillHeaded (node_at p n h b)
node_headed plain n h b e i l j = record { term = (tt, tt, j.term); aliases = j.aliases }
node_headed (alias k) n h b e i l j = record { term = tt; aliases = ((list_behind h k b (sym e) l, i), tt) }
node_headed unknown_type n h b e i l j = record { term = tt; aliases = tt }
node_headed unknown_const n h b e i l j = record { term = tt; aliases = tt }

still_headed : (n : ℕ) (t : Term) → HasHeads t → HasLists t → StillHeaded (opened n t)
still_headed n (hole k) h l = record { term = tt; aliases = tt }
still_headed n (leaf a) h l = record { term = tt; aliases = tt }
still_headed n (pair (hole k) b) h l = absurd h.0
still_headed n (pair (leaf a) b) h l = node_headed (place a) n a b refl h.2 l.0 (still_headed n b h.2 l.1)
still_headed n (pair (pair m a) b) h l =
    let x = still_headed n a h.1.2 l.1 in
    let y = still_headed (opened n a).next b h.2 l.2 in record {
      term = (h.0, (h.1.0, h.1.1, x.term), y.term);
      aliases = each_append (λ p. IsHead p.args × HasHeads p.args) (opened n a).aliases (opened (opened n a).next b).aliases x.aliases y.aliases;
    }

pub opened_heads : (n : ℕ) (t : Term) → HasHeads t → HasLists t → HasHeads (opened n t).term
opened_heads n t h l = (still_headed n t h l).term

pub aliases_heads : (n : ℕ) (t : Term) → HasHeads t → HasLists t → HaveHeads (opened n t).aliases
aliases_heads n t h l = (still_headed n t h l).aliases

-- ---- no associated type is left to be read

plain_read : (h : Head) → place h ≡ plain → IsReadLeaf (role (leaf h))
plain_read (head.Projection k) e = cc
plain_read _ e = tt

node_read : (p : Place) (n : ℕ) (h : Head) (b : Term) → p ≡ place h → IsRead (opened n b).term → IsRead (node_at p n h b).term
node_read plain n h b e r = (plain_read h (sym e), r)
node_read (alias k) n h b e r = tt
node_read unknown_type n h b e r = tt
node_read unknown_const n h b e r = tt

pub opened_read : (n : ℕ) (t : Term) → HasLists t → IsRead (opened n t).term
opened_read n (hole k) l = tt
opened_read n (leaf a) l = l
opened_read n (pair (hole k) b) l = (tt, opened_read n b l)
opened_read n (pair (leaf a) b) l = node_read (place a) n a b refl (opened_read n b l.1)
opened_read n (pair (pair m a) b) l = ((l.0, opened_read n a l.1), opened_read (opened n a).next b l.2)

-- ---- types without such places stay

bare_node : (n : ℕ) (h : Head) (b : Term) → place h ≡ plain → opened n b ≡ as_it_is n b → opened n (pair (leaf h) b) ≡ as_it_is n (pair (leaf h) b)
bare_node n h b e f = opened_leaf n h b e ∙ ap (behind (leaf h)) f

pub opened_bare : (n : ℕ) (t : Term) → IsBare t → opened n t ≡ as_it_is n t
opened_bare n (hole k) h = refl
opened_bare n (leaf a) h = refl
opened_bare n (pair (hole k) b) h = ap (behind (hole k)) (opened_bare n b h.1)
opened_bare n (pair (leaf a) b) h = bare_node n a b h.0 (opened_bare n b h.1)
opened_bare n (pair (pair m a) b) h =
    let e : opened n a ≡ as_it_is n a = opened_bare n a h.0.1 in
    let f : opened n b ≡ as_it_is n b = opened_bare n b h.1 in
    (λ i. joined m (e i) (opened (e i).next b)) ∙ ap (λ x. joined m (as_it_is n a) x) f
