-- What each step of unification comes to.
use Rattle.std.specs.Prelude.{◌≡◌, Bool, true, false, List, [], ◌∷◌, ◌++◌, length}
use Rattle.std.proofs.Common.{refl, sym, ap, ap₂, ◌∙◌, append_assoc, append-nil}
use Rattle.infer_table.specs.Words.{Head, Hole, Term, hole, leaf, pair, apply, occurs, chain, node}
use Rattle.infer_table.specs.Own.{Log, resolved, Solves, Unified, NoneUnifies, UnifiedIf, pair_left, pair_right, leaf_head, IsNoHole, occurs_within, chain_length, chain_split, chain_join, chain_last, resolved_apply, solves_left, solves_right, solves_append}

-- ---- terms that the solutions of the bindings do not tell apart

abbrev pub SameUnder : Log → Term → Term → Type 0
SameUnder l a b = (s : Hole → Term) → Solves s l → apply s a ≡ apply s b

-- a term and itself with the bindings put in
pub same_itself : (l : Log) (a a' : Term) → a' ≡ resolved l a → SameUnder l a a'
same_itself l a a' e s h = sym (resolved_apply s l a h) ∙ ap (apply s) (sym e)

-- ---- nothing to do

pub unified_under_all : (l : Log) (a b : Term) → SameUnder l a b → Unified l l a b
unified_under_all l a b f = record {
  grown = ([], sym (append-nil l));
  keeps = λ s h. h;
  unifies = f;
  general = λ s h e. h;
}

pub unified_equal : (l : Log) (a b : Term) → a ≡ b → Unified l l a b
unified_equal l a b e = unified_under_all l a b (λ s h. ap (apply s) e)

-- ---- a binding

pub unified_bind : (l : Log) (x : Hole) (t t' : Term) → t' ≡ resolved l t → Unified l (l ++ (x, t') ∷ []) (hole x) t
unified_bind l x t t' e = record {
  grown = ((x, t') ∷ [], refl);
  keeps = λ s h. solves_left s l ((x, t') ∷ []) h;
  unifies = λ s h. (solves_right s l ((x, t') ∷ []) h).0 ∙ sym (same_itself l t t' e s (solves_left s l ((x, t') ∷ []) h));
  general = λ s h g. solves_append s l ((x, t') ∷ []) h (g ∙ same_itself l t t' e s h, tt);
}

-- ---- either side first

pub unified_flip : (l m : Log) (a b : Term) → Unified l m a b → Unified l m b a
unified_flip l m a b u = record {
  grown = u.grown;
  keeps = u.keeps;
  unifies = λ s h. sym (u.unifies s h);
  general = λ s h e. u.general s h (sym e);
}

pub none_flip : (l : Log) (a b : Term) → NoneUnifies l a b → NoneUnifies l b a
none_flip l a b n s r h e = n s r h (sym e)

pub unified_if_flip : (y : Bool) (l m : Log) (a b : Term) → UnifiedIf y l m a b → UnifiedIf y l m b a
unified_if_flip true l m a b u = unified_flip l m a b u
unified_if_flip false l m a b n = none_flip l a b n

-- ---- other terms that have the same value

pub unified_if_under : (y : Bool) (l m : Log) (a a' b b' : Term) → SameUnder l a a' → SameUnder l b b' → UnifiedIf y l m a' b' → UnifiedIf y l m a b
unified_if_under true l m a a' b b' f g u = record {
  grown = u.grown;
  keeps = u.keeps;
  unifies = λ s h. f s (u.keeps s h) ∙ u.unifies s h ∙ sym (g s (u.keeps s h));
  general = λ s h e. u.general s h (sym (f s h) ∙ e ∙ g s h);
}
unified_if_under false l m a a' b b' f g n = λ s r h e. n s r h (sym (f s h) ∙ e ∙ g s h)

pub unified_if_left : (y : Bool) (l m : Log) (a a' b : Term) → SameUnder l a a' → UnifiedIf y l m a' b → UnifiedIf y l m a b
unified_if_left y l m a a' b f u = unified_if_under y l m a a' b b f (λ s h. refl) u

pub unified_if_right : (y : Bool) (l m : Log) (a b b' : Term) → SameUnder l b b' → UnifiedIf y l m a b' → UnifiedIf y l m a b
unified_if_right y l m a b b' g u = unified_if_under y l m a a b b' (λ s h. refl) g u

-- with the bindings put in first
pub unified_if_put_in : (y : Bool) (l m : Log) (a a' b b' : Term) → a' ≡ resolved l a → b' ≡ resolved l b → UnifiedIf y l m a' b' → UnifiedIf y l m a b
unified_if_put_in y l m a a' b b' e f u = unified_if_under y l m a a' b b' (same_itself l a a' e) (same_itself l b b' f) u

pub unified_if_put_in_left : (y : Bool) (l m : Log) (a a' b : Term) → a' ≡ resolved l a → UnifiedIf y l m a' b → UnifiedIf y l m a b
unified_if_put_in_left y l m a a' b e u = unified_if_left y l m a a' b (same_itself l a a' e) u

pub unified_if_put_in_right : (y : Bool) (l m : Log) (a b b' : Term) → b' ≡ resolved l b → UnifiedIf y l m a b' → UnifiedIf y l m a b
unified_if_put_in_right y l m a b b' e u = unified_if_right y l m a b b' (same_itself l b b' e) u

-- ---- what can not be made equal

-- a hole and a term that it stands within
pub none_occurs : (l : Log) (x : Hole) (t t' : Term) → t' ≡ resolved l t → IsNoHole t' → occurs x t' ≡ true → NoneUnifies l (hole x) t
none_occurs l x t t' e n o s r h g = occurs_within s x t' n o (g ∙ same_itself l t t' e s h)

pub none_heads : (l : Log) (g h : Head) (a b : Term) → (g ≡ h → ⊥) → NoneUnifies l (pair (leaf g) a) (pair (leaf h) b)
none_heads l g h a b n s r k e = n (leaf_head (pair_left e))

pub none_nodes : (l : Log) (g h : Head) (xs ys : List Term) → (g ≡ h → ⊥) → NoneUnifies l (node g xs) (node h ys)
none_nodes l g h xs ys n = none_heads l g h (chain xs) (chain ys) n

-- ---- one after the other

pub unified_pair : (y : Bool) (l m n : Log) (a b c d : Term) → Unified l m a c → UnifiedIf y m n b d → UnifiedIf y l n (pair a b) (pair c d)
unified_pair true l m n a b c d u v = record {
  grown = (u.grown.0 ++ v.grown.0, v.grown.1 ∙ ap (λ (z : Log). z ++ v.grown.0) u.grown.1 ∙ append_assoc l u.grown.0 v.grown.0);
  keeps = λ s h. u.keeps s (v.keeps s h);
  unifies = λ s h. ap₂ pair (u.unifies s (v.keeps s h)) (v.unifies s h);
  general = λ s h e. v.general s (u.general s h (pair_left e)) (pair_right e);
}
unified_pair false l m n a b c d u v = λ s r h e. v s r (u.general s h (pair_left e)) (pair_right e)

-- over one and the same leaf
pub unified_if_over : (y : Bool) (l m : Log) (h : Head) (a b : Term) → UnifiedIf y l m a b → UnifiedIf y l m (pair (leaf h) a) (pair (leaf h) b)
unified_if_over y l m h a b u = unified_pair y l l m (leaf h) a (leaf h) b (unified_equal l (leaf h) (leaf h) refl) u

pub unified_if_node : (y : Bool) (l m : Log) (h : Head) (xs ys : List Term) → UnifiedIf y l m (chain xs) (chain ys) → UnifiedIf y l m (node h xs) (node h ys)
unified_if_node y l m h xs ys u = unified_if_over y l m h (chain xs) (chain ys) u

-- ---- lists of parts

pub unified_chain_more : (l m n : Log) (xs ys : List Term) (x y : Term) → Unified l m (chain xs) (chain ys) → Unified m n x y → Unified l n (chain (xs ++ x ∷ [])) (chain (ys ++ y ∷ []))
unified_chain_more l m n xs ys x y u v = record {
  grown = (u.grown.0 ++ v.grown.0, v.grown.1 ∙ ap (λ (z : Log). z ++ v.grown.0) u.grown.1 ∙ append_assoc l u.grown.0 v.grown.0);
  keeps = λ s h. u.keeps s (v.keeps s h);
  unifies = λ s h. chain_join s xs ys (x ∷ []) (y ∷ []) (u.unifies s (v.keeps s h)) (ap (λ (z : Term). pair z (chain [])) (v.unifies s h));
  general = λ s h e. let p = chain_last s xs ys x y e in v.general s (u.general s h p.0) p.1;
}

pub none_chain_more : (l m : Log) (xs ys : List Term) (x y : Term) (xs' ys' : List Term) → length xs ≡ length ys → Unified l m (chain xs) (chain ys) → NoneUnifies m x y → NoneUnifies l (chain (xs ++ x ∷ xs')) (chain (ys ++ y ∷ ys'))
none_chain_more l m xs ys x y xs' ys' k u n s r h e =
    let p = chain_split s xs ys x y xs' ys' k e in n s r (u.general s h p.0) p.1

pub none_chain_length : (l : Log) (xs ys : List Term) → (length xs ≡ length ys → ⊥) → NoneUnifies l (chain xs) (chain ys)
none_chain_length l xs ys n s r h e = n (chain_length s xs ys e)
