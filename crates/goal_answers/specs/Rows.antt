-- Goals that hold without an impl: which types have a size (The Rust Reference, "Dynamically sized types", "Sized"), and which are
-- copied because their parts are ("Special types and traits", `Copy`, `Clone`).
use Rattle.std.specs.Prelude.{◌≡◌, ◌⊎◌, ℕ, zero, suc, true, List, [], ◌∷◌, Option, Some, None}
use Rattle.goal_answers.specs.Words.{Head, Term, hole, leaf, pair, apply, occurs, hole_number}
use Rattle.hir_types.specs.declared.head.Head.TheVariants as head
use Rattle.hir_types.specs.declared.ty.Mutability.TheVariants as mutability
use Rattle.goal_answers.specs.Reading.{Fill, Aliases, ReadsAs}
use Rattle.goal_answers.specs.Goals.{Kind, Asked, System, self_type, only, is_among, Each, SomeOf}

-- ---- parts

-- the types among the parts, where each part is a type or a const
abbrev pub with_part : Term → Option (List Term) → Option (List Term)
with_part (pair (leaf head.TypePart) t) (Some ts) = Some (t ∷ ts)
with_part (pair (leaf head.ConstPart) t) (Some ts) = Some ts
with_part _ _ = None

abbrev pub types_of : Term → Option (List Term)
types_of (hole k) = None
types_of (leaf h) = Some []
types_of (pair a b) = with_part a (types_of b)

-- each of them; some of them
abbrev pub EachType : (Term → Type 0) → Option (List Term) → Type 0
EachType P None = ⊥
EachType P (Some ts) = Each P ts

abbrev pub SomeType : (Term → Type 0) → Option (List Term) → Type 0
SomeType P None = ⊥
SomeType P (Some ts) = SomeOf P ts

-- a part with a mark before it
abbrev pub IsLastPart : Term → Term → Type 0
IsLastPart (pair (leaf head.TypePart) t) u = u ≡ t
IsLastPart _ u = ⊥

-- the type is the last of the parts
abbrev pub IsLast : Term → Term → Type 0
IsLast (pair a (leaf h)) u = IsLastPart a u
IsLast (pair a (pair b c)) u = IsLast (pair b c) u
IsLast _ u = ⊥

-- the type or const is the one at this place
abbrev pub IsNth : ℕ → Term → Term → Type 0
IsNth zero (pair (pair m t) b) u = u ≡ t
IsNth (suc n) (pair a b) u = IsNth n b u
IsNth _ _ u = ⊥

-- for each hole of the term stands the argument of its number
abbrev pub AreArgs : Term → Fill → Term → Type 0
AreArgs args p t = (k : _) → occurs k t ≡ true → IsNth (hole_number k) args (p k)

-- ---- what is copied

pub data Copied : Type 0 where
  -- where the types among these parts are
  with_parts : Term → Copied
  by_impls : Copied
  -- where what stands outermost isn't known
  unclear : Copied

abbrev pub copied_head : Head → Term → Copied
copied_head head.Never ts = with_parts (leaf head.End)
copied_head (head.FnDef id) ts = with_parts (leaf head.End)
copied_head (head.FnPtr s) ts = with_parts (leaf head.End)
copied_head (head.RawPtr m) ts = with_parts (leaf head.End)
copied_head (head.Ref mutability.Not) ts = with_parts (leaf head.End)
copied_head head.Tuple ts = with_parts ts
copied_head head.Array ts = with_parts ts
copied_head _ ts = by_impls

abbrev pub copied : Term → Copied
copied (pair (leaf h) ts) = copied_head h ts
copied _ = unclear

abbrev pub CopyYes : System → (Asked → Type 0) → Kind → Term → Type 0
CopyYes f Yes c w = (is_among f.copied c ≡ true) × elim (copied (self_type w)) [
  | with_parts ts ↦ EachType (λ t. Yes (record { kind = c; parts = only t })) (types_of ts)
  | by_impls ↦ ⊥
  | unclear ↦ ⊥
]

abbrev pub CopyNo : System → (Asked → Type 0) → Kind → Term → Type 0
CopyNo f No c w = (is_among f.copied c ≡ true → ⊥) ⊎ elim (copied (self_type w)) [
  | with_parts ts ↦ SomeType (λ t. No (record { kind = c; parts = only t })) (types_of ts)
  | by_impls ↦ Unit {0}
  | unclear ↦ ⊥
]

-- ---- what has a size

pub data Tail : Type 0 where
  has_size : Tail
  has_none : Tail
  -- where the last field's type has, at these arguments
  field : Term → Term → Tail
  -- where the last of these parts has
  last : Term → Tail
  -- where a clause or a bound says so
  asked : Tail
  unclear_tail : Tail

abbrev pub field_tail : Option Term → Term → Tail
field_tail None args = has_size
field_tail (Some t) args = field t args

abbrev pub tuple_tail : Term → Tail
tuple_tail (hole k) = unclear_tail
tuple_tail (leaf h) = has_size
tuple_tail (pair a b) = last (pair a b)

abbrev pub head_tail : System → Head → Term → Tail
head_tail f head.Str ts = has_none
head_tail f head.Slice ts = has_none
head_tail f head.Dynamic ts = has_none
head_tail f (head.Adt id) ts = field_tail (f.last_field id) ts
head_tail f head.Tuple ts = tuple_tail ts
head_tail f (head.Param n) ts = asked
head_tail f (head.AssociatedType k) ts = asked
head_tail f (head.Opaque o) ts = asked
head_tail f _ ts = has_size

abbrev pub tail_of : System → Term → Tail
tail_of f (pair (leaf h) ts) = head_tail f h ts
tail_of f _ = unclear_tail

-- the type has a size, where `Yes` says of which parameters, aliases and opaque types that is known; so has what is looked at last
abbrev pub SizedYes : System → Aliases → (Term → Type 0) → ℕ → Term → Type 0
SizedYes f A Yes zero t = Unit {0}
SizedYes f A Yes (suc n) t = elim (tail_of f t) [
  | has_size ↦ Unit {0}
  | has_none ↦ ⊥
  | field u args ↦ (p : Fill) × (v : Term) × AreArgs args p u × ReadsAs A (apply p u) v × SizedYes f A Yes n v
  | last ts ↦ (v : Term) × IsLast ts v × SizedYes f A Yes n v
  | asked ↦ Yes t
  | unclear_tail ↦ ⊥
]

abbrev pub SizedNo : System → Aliases → (Term → Type 0) → ℕ → Term → Type 0
SizedNo f A No zero t = ⊥
SizedNo f A No (suc n) t = elim (tail_of f t) [
  | has_size ↦ ⊥
  | has_none ↦ Unit {0}
  | field u args ↦ (p : Fill) × (v : Term) × AreArgs args p u × ReadsAs A (apply p u) v × SizedNo f A No n v
  | last ts ↦ (v : Term) × IsLast ts v × SizedNo f A No n v
  | asked ↦ No t
  | unclear_tail ↦ ⊥
]
