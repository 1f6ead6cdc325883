-- Types with holes in the places of associated types that are to be read, and of `{unknown}`.
use Rattle.std.specs.Prelude.{◌≡◌, ℕ, ◌+◌, max, List, [], ◌∷◌, ◌++◌, map, Option, Some, None}
use Rattle.infer_unify.specs.Words.{TypeAliasId, Head, Hole, Term, hole, leaf, pair, hole_number, Each, term_of, IsHead, HasHeads}
use Rattle.hir_types.specs.declared.head.Head.TheVariants as head
use Rattle.hir_types.specs.declared.head.Hole.TheVariants as hole_of
use Rattle.infer_unify.specs.declared.opening.Alias.{Alias as Owned}

-- what a head makes of the parts behind it
pub data Place : Type 0 where
  plain : Place
  alias : TypeAliasId → Place
  unknown_type : Place
  unknown_const : Place

abbrev pub place : Head → Place
place (head.Projection k) = alias k
place head.Error = unknown_type
place head.UnknownConst = unknown_const
place _ = plain

-- an associated type at its arguments, and the number of the hole in its place
pub record Alias : Type 0 where
  pub hole : ℕ
  pub alias : TypeAliasId
  pub args : Term

abbrev pub alias_of : Owned → Alias
alias_of p = record { hole = p.hole; alias = p.alias; args = term_of p.args }

abbrev pub aliases_of : List Owned → List Alias
aliases_of = map alias_of

-- a term with holes in these places, the number after these, and the associated types
pub record Opened : Type 0 where
  pub term : Term
  pub next : ℕ
  pub aliases : List Alias

abbrev pub as_it_is : ℕ → Term → Opened
as_it_is n t = record { term = t; next = n; aliases = [] }

abbrev pub behind : Term → Opened → Opened
behind a x = record { term = pair a x.term; next = x.next; aliases = x.aliases }

abbrev pub joined : Term → Opened → Opened → Opened
joined m x y = record { term = pair (pair m x.term) y.term; next = y.next; aliases = x.aliases ++ y.aliases }

-- with holes from number `n` on. What stands in the arguments of an associated type stays
abbrev pub opened : ℕ → Term → Opened
opened n (hole k) = as_it_is n (hole k)
opened n (leaf h) = as_it_is n (leaf h)
opened n (pair (hole k) b) = behind (hole k) (opened n b)
opened n (pair (leaf h) b) = elim (place h) [
  | plain ↦ behind (leaf h) (opened n b)
  | alias k ↦ record { term = hole (hole_of.Ty n); next = n + 1; aliases = record { hole = n; alias = k; args = b } ∷ [] }
  | unknown_type ↦ as_it_is (n + 1) (hole (hole_of.Ty n))
  | unknown_const ↦ as_it_is (n + 1) (hole (hole_of.Const n))
]
opened n (pair (pair m a) b) = joined m (opened n a) (opened (opened n a).next b)

-- so it was opened, and its associated types were added to others
pub record IsOpened (n m : ℕ) (before after : List Alias) (t u : Term) : Type 0 where
  pub term : u ≡ (opened n t).term
  pub next : m ≡ (opened n t).next
  pub aliases : after ≡ before ++ (opened n t).aliases

-- so a hole was put in the place of a head with the parts behind it, or none is to be put there
abbrev pub IsPutFor : ℕ → ℕ → List Alias → List Alias → Head → Term → Option Hole → Type 0
IsPutFor n m before after h b (Some k) = IsOpened n m before after (pair (leaf h) b) (hole k)
IsPutFor n m before after h b None = (place h ≡ plain) × (m ≡ n) × (after ≡ before)

-- ---- two types, the holes of the second behind those of the first

abbrev pub second_opened : ℕ → Term → Term → Opened
second_opened n a b = opened (opened n a).next b

abbrev pub aliases_of_both : ℕ → Term → Term → List Alias
aliases_of_both n a b = (opened n a).aliases ++ (second_opened n a b).aliases

-- the least number above those of all holes in the term
abbrev pub above : Term → ℕ
above (hole k) = hole_number k + 1
above (leaf h) = 0
above (pair a b) = max (above a) (above b)

abbrev pub above_both : Term → Term → ℕ
above_both a b = max (above a) (above b)

-- so they were opened, with holes of their own
pub record AreOpened (a b : Term) (ps : List Alias) (u v : Term) : Type 0 where
  pub left : u ≡ (opened (above_both a b) a).term
  pub right : v ≡ (second_opened (above_both a b) a b).term
  pub aliases : ps ≡ aliases_of_both (above_both a b) a b

-- the arguments are a list, and what stands first in each pair of them is known
abbrev pub HaveHeads : List Alias → Type 0
HaveHeads = Each (λ p. IsHead p.args × HasHeads p.args)

-- ---- types without such places

abbrev pub IsBare : Term → Type 0
IsBare (hole k) = Unit {0}
IsBare (leaf h) = place h ≡ plain
IsBare (pair a b) = IsBare a × IsBare b
