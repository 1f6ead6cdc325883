-- Owned terms as types, and what is in terms.
use Rattle.std.specs.Prelude.{◌≡◌, ℕ, zero, suc, true, List, [], ◌∷◌, ◌++◌, slice_get, Option, Some, None, map}
use Rattle.std.proofs.Common.{inl, inr, refl, sym, ap, ap₂, ◌∙◌, subst, true≢false}
use Rattle.std.proofs.lemmas.Bool.{or_cases}
use Rattle.goal_terms.specs.Words.{TraitId, Head, Hole, Ty, GenericArg, AliasBound, Term, hole, leaf, pair, apply, occurs, ReadPart, mark, const_of, unread, type_of_term, place, IsPlain, hole_eq_true, Fill, plain, alias, role, IsReadLeaf, IsRead, Aliases, Reads, MayRead, IsConcreteHead, IsConcrete}
use Rattle.hir_types.specs.declared.head.Head.TheVariants as head
use Rattle.hir_types.specs.declared.ty.GenericArg.TheVariants as arg
use Rattle.hir_types.specs.Faithful.{type_of}
use Rattle.goal_terms.specs.Words.infer_table.Opened.{plain as plain_place}
use Rattle.goal_answers.specs.Reading.{Role}
use Rattle.goal_terms.specs.declared.types.TermPart.{TermPart}
use Rattle.goal_terms.specs.declared.types.TermPart.TheVariants as part
use Rattle.goal_terms.specs.Terms.{term_of}

-- ---- parts

abbrev pub part_read : TermPart → ReadPart
part_read (part.Mark h) = mark h
part_read (part.Ty t) = type_of (type_of_term (term_of t.now))
part_read (part.Const c) = const_of c
part_read part.Unread = unread

abbrev pub parts_read : List TermPart → List ReadPart
parts_read = map part_read

-- ---- what one part adds to each list that is read

abbrev pub types_with : ReadPart → List Ty
types_with (type_of t) = t ∷ []
types_with _ = []

abbrev pub leading : ReadPart → Option GenericArg
leading (type_of t) = Some (arg.Ty t)
leading (const_of c) = Some (arg.Const c)
leading _ = None

abbrev pub autos_with : ReadPart → List TraitId
autos_with (mark (head.AutoTrait id)) = id ∷ []
autos_with _ = []

-- the bound that the parts begin with
abbrev pub bounds_with : List ReadPart → List AliasBound
bounds_with (mark (head.Bound a) ∷ type_of t ∷ ps) = record { alias = a; ty = t } ∷ []
bounds_with _ = []

-- ---- holes

-- each in order, as often as it stands in the term
abbrev pub holes_of : Term → List Hole
holes_of (hole k) = k ∷ []
holes_of (leaf h) = []
holes_of (pair a b) = holes_of a ++ holes_of b

held_left : (xs ys : List Hole) (i : ℕ) (k : Hole) → slice_get xs i ≡ Some k → slice_get (xs ++ ys) i ≡ Some k
held_left [] ys i k e = cc
held_left (x ∷ xs) ys zero k e = e
held_left (x ∷ xs) ys (suc i) k e = held_left xs ys i k e

held_right : (xs ys : List Hole) (i : ℕ) (k : Hole) → slice_get ys i ≡ Some k → (j : ℕ) × (slice_get (xs ++ ys) j ≡ Some k)
held_right [] ys i k e = (i, e)
held_right (x ∷ xs) ys i k e = let q = held_right xs ys i k e in (suc q.0, q.1)

-- each hole that stands in the term is among them
pub occurs_held : (k : Hole) (t : Term) → occurs k t ≡ true → (i : ℕ) × (slice_get (holes_of t) i ≡ Some k)
occurs_held k (hole j) e = (zero, ap Some (sym (hole_eq_true k j e)))
occurs_held k (leaf h) e = absurd (true≢false (sym e))
occurs_held k (pair a b) e = elim (or_cases (occurs k a) (occurs k b) e) [
  | inl o ↦ let q = occurs_held k a o in (q.0, held_left (holes_of a) (holes_of b) q.0 k q.1)
  | inr o ↦ let q = occurs_held k b o in held_right (holes_of a) (holes_of b) q.0 k q.1
]

-- ---- concrete terms

head_plain : (h : Head) (b : Term) → IsConcreteHead h → place (pair (leaf h) b) ≡ plain_place
head_plain (head.Projection k) b c = absurd c
head_plain (head.Opaque o) b c = absurd c
head_plain head.Error b c = absurd c
head_plain head.UnknownConst b c = absurd c
head_plain _ b c = refl

pair_plain : (a b : Term) → IsConcrete a → place (pair a b) ≡ plain_place
pair_plain (hole k) b c = refl
pair_plain (leaf h) b c = head_plain h b c
pair_plain (pair x y) b c = refl

-- neither an alias nor `{unknown}` is in them, to unification
pub concrete_plain : (t : Term) → IsConcrete t → IsPlain t
concrete_plain (hole k) c = tt
concrete_plain (leaf h) c = tt
concrete_plain (pair a b) c = (pair_plain a b c.0, concrete_plain a c.0, concrete_plain b c.1)

head_role : (h : Head) → IsConcreteHead h → role (leaf h) ≡ plain
head_role (head.Projection k) c = absurd c
head_role _ c = refl

concrete_role : (t : Term) → IsConcrete t → role t ≡ plain
concrete_role (hole k) c = refl
concrete_role (leaf h) c = head_role h c
concrete_role (pair a b) c = refl

leaf_read : (h : Head) → IsConcreteHead h → IsReadLeaf (role (leaf h))
leaf_read h c = subst IsReadLeaf (sym (head_role h c)) tt

-- no alias is left to be read
pub concrete_read : (t : Term) → IsConcrete t → IsRead t
concrete_read (hole k) c = tt
concrete_read (leaf h) c = leaf_read h c
concrete_read (pair a b) c = (concrete_read a c.0, concrete_read b c.1)

abbrev ReadsBy : Role → Aliases → Fill → Term → Term → Term → Type 0
ReadsBy x A p a b u = elim x [
  | plain ↦ (v : Term) × (w : Term) × (u ≡ pair v w) × Reads A p a v × Reads A p b w
  | alias k ↦ (v : Term) × Reads A p b v × A k v u
]

abbrev MayReadBy : Role → Fill → Term → Term → Term → Type 0
MayReadBy x p a b u = elim x [
  | plain ↦ (v : Term) × (w : Term) × (u ≡ pair v w) × MayRead p a v × MayRead p b w
  | alias k ↦ Unit {0}
]

-- they read as what they are filled to, and as nothing else
pub concrete_reads : (A : Aliases) (p : Fill) (t u : Term) → IsConcrete t → Reads A p t u → u ≡ apply p t
concrete_reads A p (hole k) u c r = r
concrete_reads A p (leaf h) u c r = r.1
concrete_reads A p (pair a b) u c r =
    let P : Role → Type 0 = λ x. ReadsBy x A p a b u in
    let q = subst P (concrete_role a c.0) r in q.2 ∙ ap₂ pair (concrete_reads A p a q.0 c.0 q.3) (concrete_reads A p b q.1 c.1 q.4)

pub reads_concrete : (A : Aliases) (p : Fill) (t : Term) → IsConcrete t → Reads A p t (apply p t)
reads_concrete A p (hole k) c = refl
reads_concrete A p (leaf h) c = (leaf_read h c, refl)
reads_concrete A p (pair a b) c =
    let P : Role → Type 0 = λ x. ReadsBy x A p a b (pair (apply p a) (apply p b)) in
    subst P (sym (concrete_role a c.0)) (apply p a, apply p b, refl, reads_concrete A p a c.0, reads_concrete A p b c.1)

pub may_concrete : (p : Fill) (t u : Term) → IsConcrete t → MayRead p t u → u ≡ apply p t
may_concrete p (hole k) u c r = r
may_concrete p (leaf h) u c r = r
may_concrete p (pair a b) u c r =
    let P : Role → Type 0 = λ x. MayReadBy x p a b u in
    let q = subst P (concrete_role a c.0) r in q.2 ∙ ap₂ pair (may_concrete p a q.0 c.0 q.3) (may_concrete p b q.1 c.1 q.4)

pub concrete_may : (p : Fill) (t : Term) → IsConcrete t → MayRead p t (apply p t)
concrete_may p (hole k) c = refl
concrete_may p (leaf h) c = refl
concrete_may p (pair a b) c =
    let P : Role → Type 0 = λ x. MayReadBy x p a b (pair (apply p a) (apply p b)) in
    subst P (sym (concrete_role a c.0)) (apply p a, apply p b, refl, concrete_may p a c.0, concrete_may p b c.1)
