-- What nodes mention and what is said of a body one after another are the same.
use Rattle.std.proofs.Common.{◌≡◌, inl, inr, ◌⊎◌, ◌<◌, ◌+◌, ℕ, zero, suc, List, [], ◌∷◌, ◌++◌, length, Option, Some, None, refl, ◌∙◌, ap, subst, arith}
use Rattle.std.specs.Prelude.{slice_get, option_map}
use Rattle.std.proofs.lemmas.Option.{slice_get-map, slice_get_within}
use Rattle.hir_types.specs.declared.ids.ExprOrPatId.TheVariants as node
use Rattle.hir_ids.specs.Words.{Mention, Said, RawExpr, RawPat, RawBody, Node, the_body, inner, IsNode, position, expr_mentions, pat_mentions, body_mentions, mentions_of_expr, mentions_of_pat, Mentions, AllMentioned, each, said, expr_said, pat_said, body_said}

module _ {X : Type 0} where
  entry_left : (xs ys : List X) (k : ℕ) (x : X) → slice_get xs k ≡ Some x → slice_get (xs ++ ys) k ≡ Some x
  entry_left [] ys k x e = cc
  entry_left (y ∷ xs) ys zero x e = e
  entry_left (y ∷ xs) ys (suc k) x e = entry_left xs ys k x e

  entry_right : (xs ys : List X) (k : ℕ) (x : X) → slice_get ys k ≡ Some x → (j : ℕ) × (slice_get (xs ++ ys) j ≡ Some x)
  entry_right [] ys k x e = (k, e)
  entry_right (y ∷ xs) ys k x e = let r = entry_right xs ys k x e in (suc r.0, r.1)

  either_entry : (xs ys : List X) (k : ℕ) (x : X) → slice_get (xs ++ ys) k ≡ Some x → ((j : ℕ) × (slice_get xs j ≡ Some x)) ⊎ ((j : ℕ) × (slice_get ys j ≡ Some x))
  either_entry [] ys k x e = inr (k, e)
  either_entry (y ∷ xs) ys zero x e = inl (zero, e)
  either_entry (y ∷ xs) ys (suc k) x e = elim (either_entry xs ys k x e) [ inl r ↦ inl (suc r.0, r.1) | inr r ↦ inr r ]

each_entry : {A B : Type 0} (f : ℕ → A → List B) (from i : ℕ) (xs : List A) (x : A) (k : ℕ) (y : B) → slice_get xs i ≡ Some x → slice_get (f (from + i) x) k ≡ Some y → (j : ℕ) × (slice_get (each f from xs) j ≡ Some y)
each_entry f from i [] x k y at here = cc
each_entry f from zero (z ∷ xs) x k y at here =
    let same : x ≡ z = cc in
    let first : slice_get (f from z) k ≡ Some y = subst (λ w. slice_get (f from w) k ≡ Some y) same (subst (λ n. slice_get (f n x) k ≡ Some y) (omega arith) here) in
    (k, entry_left (f from z) (each f (suc from) xs) k y first)
each_entry f from (suc i) (z ∷ xs) x k y at here =
    let rest = each_entry f (suc from) i xs x k y at (subst (λ n. slice_get (f n x) k ≡ Some y) (omega arith) here) in
    entry_right (f from z) (each f (suc from) xs) rest.0 y rest.1

-- of which entry it is
each_from : {A B : Type 0} (f : ℕ → A → List B) (from : ℕ) (xs : List A) (j : ℕ) (y : B) → slice_get (each f from xs) j ≡ Some y → (i : ℕ) × (x : A) × (k : ℕ) × (slice_get xs i ≡ Some x) × (slice_get (f (from + i) x) k ≡ Some y)
each_from f from [] j y at = cc
each_from f from (z ∷ xs) j y at = elim (either_entry (f from z) (each f (suc from) xs) j y at) [
  | inl r ↦ (zero, z, r.0, refl, subst (λ n. slice_get (f n z) r.0 ≡ Some y) (omega arith) r.1)
  | inr r ↦ (let q = each_from f (suc from) xs r.0 y r.1 in (suc q.0, q.1, q.2, q.3, subst (λ n. slice_get (f n q.1) q.2 ≡ Some y) (omega arith) q.4))
]

said_entry : (n k : ℕ) (ms : List Mention) (m : Mention) → slice_get ms k ≡ Some m → slice_get (said n ms) k ≡ Some (record { node = n; mention = m })
said_entry n k ms m at = slice_get-map (λ m. record { node = n; mention = m }) ms k ∙ ap (option_map (λ m. record { node = n; mention = m })) at

said_from : (n : ℕ) (ms : List Mention) (k : ℕ) (s : Said) → slice_get (said n ms) k ≡ Some s → (slice_get ms k ≡ Some s.mention) × (n ≡ s.node)
said_from n [] k s at = cc
said_from n (m ∷ ms) zero s at =
    let same : record { node = n; mention = m } ≡ s = cc in
    (ap (λ (x : Said). Some x.mention) same, ap (λ (x : Said). x.node) same)
said_from n (m ∷ ms) (suc k) s at = said_from n ms k s at

-- ---- from nodes to the list

-- the list has this entry
abbrev Says : RawBody → Said → Type 0
Says b s = (j : ℕ) × (slice_get (body_said b) j ≡ Some s)

expr_says : (b : RawBody) (e k : ℕ) (x : RawExpr) (m : Mention) → slice_get b.exprs e ≡ Some x → slice_get (expr_mentions x) k ≡ Some m → Says b (record { node = e; mention = m })
unfolding body_said
expr_says b e k x m at here =
    let s : Said = record { node = e; mention = m } in
    let own : slice_get (expr_said (0 + e) x) k ≡ Some s = subst (λ n. slice_get (expr_said n x) k ≡ Some s) (omega arith) (said_entry e k (expr_mentions x) m here) in
    let among = each_entry expr_said 0 e b.exprs x k s at own in
    entry_right (said (length b.exprs + length b.pats) (body_mentions b)) (each expr_said 0 b.exprs ++ each (pat_said (length b.exprs)) 0 b.pats) among.0 s
    (entry_left (each expr_said 0 b.exprs) (each (pat_said (length b.exprs)) 0 b.pats) among.0 s among.1)

pat_says : (b : RawBody) (p k : ℕ) (x : RawPat) (m : Mention) → slice_get b.pats p ≡ Some x → slice_get (pat_mentions x) k ≡ Some m → Says b (record { node = length b.exprs + p; mention = m })
unfolding body_said
pat_says b p k x m at here =
    let s : Said = record { node = length b.exprs + p; mention = m } in
    let own : slice_get (pat_said (length b.exprs) (0 + p) x) k ≡ Some s = subst (λ n. slice_get (pat_said (length b.exprs) n x) k ≡ Some s) (omega arith) (said_entry (length b.exprs + p) k (pat_mentions x) m here) in
    let among = each_entry (pat_said (length b.exprs)) 0 p b.pats x k s at own in
    let later = entry_right (each expr_said 0 b.exprs) (each (pat_said (length b.exprs)) 0 b.pats) among.0 s among.1 in
    entry_right (said (length b.exprs + length b.pats) (body_mentions b)) (each expr_said 0 b.exprs ++ each (pat_said (length b.exprs)) 0 b.pats) later.0 s later.1

body_says : (b : RawBody) (k : ℕ) (m : Mention) → slice_get (body_mentions b) k ≡ Some m → Says b (record { node = length b.exprs + length b.pats; mention = m })
unfolding body_said
body_says b k m here = (k, entry_left (said (length b.exprs + length b.pats) (body_mentions b)) (each expr_said 0 b.exprs ++ each (pat_said (length b.exprs)) 0 b.pats) k _ (said_entry (length b.exprs + length b.pats) k (body_mentions b) m here))

-- what a node mentions is in the list
pub mention_said : (b : RawBody) (n : Node) (m : Mention) → Mentions b n m → (k : ℕ) × (slice_get (body_said b) k ≡ Some (record { node = position b n; mention = m }))
mention_said b the_body m by = body_says b by.0 m by.1
mention_said b (inner (node.ExprId e)) m by = of_expr (slice_get b.exprs e.0) refl by.1
  where
    of_expr : (o : Option RawExpr) → slice_get b.exprs e.0 ≡ o → slice_get (mentions_of_expr o) by.0 ≡ Some m → Says b (record { node = e.0; mention = m })
    of_expr None is h = cc
    of_expr (Some x) is h = expr_says b e.0 by.0 x m is h
mention_said b (inner (node.PatId p)) m by = of_pat (slice_get b.pats p.0) refl by.1
  where
    of_pat : (o : Option RawPat) → slice_get b.pats p.0 ≡ o → slice_get (mentions_of_pat o) by.0 ≡ Some m → Says b (record { node = length b.exprs + p.0; mention = m })
    of_pat None is h = cc
    of_pat (Some x) is h = pat_says b p.0 by.0 x m is h

-- ---- and back

-- a node at its position mentions it
abbrev IsMentioned : RawBody → Said → Type 0
IsMentioned b s = (n : Node) × Mentions b n s.mention × (position b n ≡ s.node)

from_exprs : (b : RawBody) (k : ℕ) (s : Said) → slice_get (each expr_said 0 b.exprs) k ≡ Some s → IsMentioned b s
from_exprs b k s at =
    let q = each_from expr_said 0 b.exprs k s at in
    let own = said_from (0 + q.0) (expr_mentions q.1) q.2 s q.4 in
    (inner (node.ExprId (record { 0 = q.0 })), (q.2, ap (λ (o : Option RawExpr). slice_get (mentions_of_expr o) q.2) q.3 ∙ own.0), omega (arith, own.1))

from_pats : (b : RawBody) (k : ℕ) (s : Said) → slice_get (each (pat_said (length b.exprs)) 0 b.pats) k ≡ Some s → IsMentioned b s
from_pats b k s at =
    let q = each_from (pat_said (length b.exprs)) 0 b.pats k s at in
    let own = said_from (length b.exprs + (0 + q.0)) (pat_mentions q.1) q.2 s q.4 in
    (inner (node.PatId (record { 0 = q.0 })), (q.2, ap (λ (o : Option RawPat). slice_get (mentions_of_pat o) q.2) q.3 ∙ own.0), omega (arith, own.1))

from_body : (b : RawBody) (k : ℕ) (s : Said) → slice_get (said (length b.exprs + length b.pats) (body_mentions b)) k ≡ Some s → IsMentioned b s
from_body b k s at = let own = said_from (length b.exprs + length b.pats) (body_mentions b) k s at in (the_body, (k, own.0), own.1)

-- what is in the list, the node at its position mentions
pub said_mention : (b : RawBody) (k : ℕ) (s : Said) → slice_get (body_said b) k ≡ Some s → (n : Node) × Mentions b n s.mention × (position b n ≡ s.node)
unfolding body_said
said_mention b k s at = elim (either_entry (said (length b.exprs + length b.pats) (body_mentions b)) (each expr_said 0 b.exprs ++ each (pat_said (length b.exprs)) 0 b.pats) k s at) [
  | inl r ↦ from_body b r.0 s r.1
  | inr r ↦ elim (either_entry (each expr_said 0 b.exprs) (each (pat_said (length b.exprs)) 0 b.pats) r.0 s r.1) [
    | inl e ↦ from_exprs b e.0 s e.1
    | inr p ↦ from_pats b p.0 s p.1
  ]
]

-- ---- of all

pub all_mentioned : (P : ℕ → Mention → Type 0) (b : RawBody) → ((k : ℕ) (s : Said) → slice_get (body_said b) k ≡ Some s → P s.node s.mention) → AllMentioned (λ n m. P (position b n) m) b
all_mentioned P b h n m by = let s = mention_said b n m by in h s.0 (record { node = position b n; mention = m }) s.1

pub all_said : (P : ℕ → Mention → Type 0) (b : RawBody) → AllMentioned (λ n m. P (position b n) m) b → (k : ℕ) (s : Said) → slice_get (body_said b) k ≡ Some s → P s.node s.mention
all_said P b h k s at = let q = said_mention b k s at in subst (λ n. P n s.mention) q.2 (h q.0 s.mention q.1)

-- only nodes of the body mention anything
pub mentions_within : (b : RawBody) (n : Node) (m : Mention) → Mentions b n m → IsNode b n
mentions_within b the_body m by = tt
mentions_within b (inner (node.ExprId e)) m by = of_expr (slice_get b.exprs e.0) refl by.1
  where
    of_expr : (o : Option RawExpr) → slice_get b.exprs e.0 ≡ o → slice_get (mentions_of_expr o) by.0 ≡ Some m → e.0 < length b.exprs
    of_expr None is h = cc
    of_expr (Some x) is h = slice_get_within b.exprs e.0 x is
mentions_within b (inner (node.PatId p)) m by = of_pat (slice_get b.pats p.0) refl by.1
  where
    of_pat : (o : Option RawPat) → slice_get b.pats p.0 ≡ o → slice_get (mentions_of_pat o) by.0 ≡ Some m → p.0 < length b.pats
    of_pat None is h = cc
    of_pat (Some x) is h = slice_get_within b.pats p.0 x is
