-- The walk that tells whether a type has a size.
use Rattle.std.proofs.Common.{◌≡◌, ℕ, zero, suc, refl, sym, ap, ◌∙◌, subst, Option, Some, None}
use Rattle.std.proofs.lemmas.Bool.{or_left, or_right}
use Rattle.goal_search.specs.Words.{AdtId, Head, Term, hole, leaf, pair, apply, occurs, hole_number, apply_agree, hole_eq_same, Fill, plain, role, Aliases, ReadsAs, System, only, IsKnown, IsLastPart, IsLast, IsNth, AreArgs, Tail, field, last, asked, field_tail, tuple_tail, head_tail, tail_of, SizedYes, SizedNo, IsOne, IsHead, HasHeads}
use Rattle.hir_types.specs.declared.head.Head.TheVariants as head
use Rattle.goal_search.proofs.Words.{last_one, nth_one, role_read, reads_one, SizedYesBy, SizedNoBy}
use Rattle.goal_search.specs.Own.{Answer, IsFieldAt, IsDone, FillsAreDone, SystemHasHeads, Decides}
use Rattle.goal_search.specs.declared.answer.Answer.TheVariants as answer
use Rattle.goal_search.proofs.SoFar.{decides_same}

-- ---- what is met on the way

last_in : {a b : Term} → last a ≡ last b → a ≡ b
last_in e = cc

tuple_last : (ts us : Term) → tuple_tail ts ≡ last us → ts ≡ us
tuple_last (hole k) us e = cc
tuple_last (leaf h) us e = cc
tuple_last (pair a b) us e = last_in e

field_not_last : (o : Option Term) (ts us : Term) → field_tail o ts ≡ last us → ⊥
field_not_last None ts us e = cc
field_not_last (Some t) ts us e = cc

head_last : (f : System) (h : Head) (ts us : Term) → head_tail f h ts ≡ last us → ts ≡ us
head_last f head.Tuple ts us e = tuple_last ts us e
head_last f (head.Adt id) ts us e = absurd (field_not_last (f.last_field id) ts us e)
head_last f _ ts us e = cc

pub last_done : (f : System) (t us : Term) → tail_of f t ≡ last us → IsDone t → IsDone us
last_done f (pair (leaf h) ts) us e d = subst IsDone (head_last f h ts us e) (record { read = d.read.1; heads = d.heads.2 })
last_done f (pair (hole k) ts) us e d = cc
last_done f (pair (pair a b) ts) us e d = cc
last_done f (leaf h) us e d = cc
last_done f (hole k) us e d = cc

abbrev IsField : System → Term → Term → Term → Type 0
IsField f ts u us = (ts ≡ us) × (a : AdtId) × (f.last_field a ≡ Some u)

field_in : {u v a b : Term} → field u a ≡ field v b → (u ≡ v) × (a ≡ b)
field_in e = (cc, cc)

field_is : (f : System) (id : AdtId) (o : Option Term) → f.last_field id ≡ o → (ts u us : Term) → field_tail o ts ≡ field u us → IsField f ts u us
field_is f id None h ts u us e = cc
field_is f id (Some t) h ts u us e = let s = field_in e in (s.1, id, h ∙ ap Some s.0)

tuple_not_field : (ts u us : Term) → tuple_tail ts ≡ field u us → ⊥
tuple_not_field (hole k) u us e = cc
tuple_not_field (leaf h) u us e = cc
tuple_not_field (pair a b) u us e = cc

head_field : (f : System) (h : Head) (ts u us : Term) → head_tail f h ts ≡ field u us → IsField f ts u us
head_field f head.Tuple ts u us e = absurd (tuple_not_field ts u us e)
head_field f (head.Adt id) ts u us e = field_is f id (f.last_field id) refl ts u us e
head_field f _ ts u us e = cc

pub field_args_done : (f : System) (t u us : Term) → tail_of f t ≡ field u us → IsDone t → IsDone us
field_args_done f (pair (leaf h) ts) u us e d = subst IsDone (head_field f h ts u us e).0 (record { read = d.read.1; heads = d.heads.2 })
field_args_done f (pair (hole k) ts) u us e d = cc
field_args_done f (pair (pair a b) ts) u us e d = cc
field_args_done f (leaf h) u us e d = cc
field_args_done f (hole k) u us e d = cc

pub field_heads : (f : System) → SystemHasHeads f → (t u us : Term) → tail_of f t ≡ field u us → HasHeads u
field_heads f h (pair (leaf x) ts) u us e = let i = head_field f x ts u us e in h.fields i.1 u i.2
field_heads f h (pair (hole k) ts) u us e = cc
field_heads f h (pair (pair a b) ts) u us e = cc
field_heads f h (leaf x) u us e = cc
field_heads f h (hole k) u us e = cc

-- a type of which a clause or bound is asked is no hole
pub asked_known : (f : System) (t : Term) → tail_of f t ≡ asked → IsKnown (only t)
asked_known f (pair a b) e = tt
asked_known f (leaf h) e = tt
asked_known f (hole k) e = cc

last_part_done : (a u : Term) → IsLastPart a u → IsDone a → IsDone u
last_part_done (pair (leaf head.TypePart) t) u l d = subst IsDone (sym l) (record { read = d.read.1; heads = d.heads.2 })
last_part_done (pair (leaf _) t) u l d = absurd l
last_part_done (pair (hole k) t) u l d = absurd l
last_part_done (pair (pair a c) t) u l d = absurd l
last_part_done (leaf h) u l d = absurd l
last_part_done (hole k) u l d = absurd l

pub last_is_done : (ts u : Term) → IsLast ts u → IsDone ts → IsDone u
last_is_done (pair a (leaf h)) u l d = last_part_done a u l (record { read = d.read.0; heads = d.heads.1 })
last_is_done (pair a (pair b c)) u l d = last_is_done (pair b c) u l (record { read = d.read.1; heads = d.heads.2 })
last_is_done (pair a (hole k)) u l d = absurd l
last_is_done (leaf h) u l d = absurd l
last_is_done (hole k) u l d = absurd l

nth_done : (n : ℕ) (ts u : Term) → IsNth n ts u → IsDone ts → IsDone u
nth_done zero (pair (pair m t) b) u l d = subst IsDone (sym l) (record { read = d.read.0.1; heads = d.heads.1.2 })
nth_done (suc n) (pair a b) u l d = nth_done n b u l (record { read = d.read.1; heads = d.heads.2 })
nth_done zero (pair (hole k) b) u l d = absurd l
nth_done zero (pair (leaf h) b) u l d = absurd l
nth_done zero (hole k) u l d = absurd l
nth_done zero (leaf h) u l d = absurd l
nth_done (suc n) (hole k) u l d = absurd l
nth_done (suc n) (leaf h) u l d = absurd l

-- ---- a field at arguments

role_at : (p : Fill) (a : Term) → FillsAreDone p a → role a ≡ plain → role (apply p a) ≡ plain
role_at p (hole k) d e = role_read (p k) ((d k (hole_eq_same k)).read)
role_at p (leaf h) d e = e
role_at p (pair a b) d e = refl

head_at : (p : Fill) (a : Term) → FillsAreDone p a → IsHead a → IsHead (apply p a)
head_at p (hole k) d h = absurd h
head_at p (leaf x) d h = tt
head_at p (pair a b) d h = role_at p a (λ k o. d k (or_left (occurs k a) (occurs k b) o)) h

apply_heads : (p : Fill) (t : Term) → FillsAreDone p t → HasHeads t → HasHeads (apply p t)
apply_heads p (hole k) d h = (d k (hole_eq_same k)).heads
apply_heads p (leaf x) d h = tt
apply_heads p (pair a b) d h = (
  head_at p a (λ k o. d k (or_left (occurs k a) (occurs k b) o)) h.0,
  apply_heads p a (λ k o. d k (or_left (occurs k a) (occurs k b) o)) h.1,
  apply_heads p b (λ k o. d k (or_right (occurs k a) (occurs k b) o)) h.2,
)

pub field_at_heads : (args t u : Term) → IsDone args → HasHeads t → IsFieldAt args t (Some u) → HasHeads u
field_at_heads args t u d h i = subst HasHeads (sym i.2) (apply_heads i.0 t (λ k o. nth_done (hole_number k) args (i.0 k) (i.1 k o) d) h)

pub stay_done : (t : Term) → FillsAreDone hole t
stay_done t k o = record { read = tt; heads = tt }

-- ---- a step

module _ (f : System) (A : Aliases) (one : IsOne A) (Y N : Term → Type 0) (left n : ℕ) (is : left ≡ suc n) (t : Term) where
  abbrev Yes : Type 0
  Yes = SizedYes f A Y left t

  abbrev No : Type 0
  No = SizedNo f A N left t

  by_tail : (x : Tail) → tail_of f t ≡ x → (a : Answer) → Decides (SizedYesBy f A Y n t x) (SizedNoBy f A N n t x) a → Decides Yes No a
  by_tail x e a d =
      let P : ℕ → Type 0 = λ m. Decides (SizedYes f A Y m t) (SizedNo f A N m t) a in
      let Q : Tail → Type 0 = λ y. Decides (SizedYesBy f A Y n t y) (SizedNoBy f A N n t y) a in
      subst P (sym is) (subst Q (sym e) d)

  pub asked_decides : tail_of f t ≡ asked → (a : Answer) → Decides (Y t) (N t) a → Decides Yes No a
  asked_decides e a d = by_tail asked e a d

  pub last_decides : (ts u : Term) → tail_of f t ≡ last ts → IsLast ts u → (a : Answer) → Decides (SizedYes f A Y n u) (SizedNo f A N n u) a → Decides Yes No a
  last_decides ts u e l a d =
      by_tail (last ts) e a (decides_same a (λ y. (u, l, y)) (λ y. subst (SizedYes f A Y n) (last_one ts y.0 u y.1 l) y.2) (λ y. (u, l, y)) (λ y. subst (SizedNo f A N n) (last_one ts y.0 u y.1 l) y.2) d)

  pub field_decides : (v args u w : Term) → tail_of f t ≡ field v args → IsFieldAt args v (Some u) → ReadsAs A u w → (a : Answer) → Decides (SizedYes f A Y n w) (SizedNo f A N n w) a → Decides Yes No a
  field_decides v args u w e i r a d =
      by_tail (field v args) e a (decides_same a (λ y. (i.0, w, i.1, here, y)) (λ y. subst (SizedYes f A Y n) (same y.0 y.1 y.2 y.3) y.4) (λ y. (i.0, w, i.1, here, y)) (λ y. subst (SizedNo f A N n) (same y.0 y.1 y.2 y.3) y.4) d)
    where
      here : ReadsAs A (apply i.0 v) w
      here = subst (λ (x : Term). ReadsAs A x w) i.2 r

      same : (p : Fill) (x : Term) → AreArgs args p v → ReadsAs A (apply p v) x → x ≡ w
      same p x are reads =
          let e = apply_agree p i.0 v (λ k o. nth_one (hole_number k) args (p k) (i.0 k) (are k o) (i.1 k o)) in
          reads_one A one hole (apply i.0 v) x w (subst (λ (y : Term). ReadsAs A y x) e reads) here

  pub field_open : (v args u : Term) → tail_of f t ≡ field v args → IsFieldAt args v (Some u) → ((w : Term) → ReadsAs A u w → ⊥) → (Yes → ⊥) × (No → ⊥)
  field_open v args u e i none = by_tail (field v args) e answer.Undecided (λ y. none y.1 (back y.0 y.1 y.2 y.3), λ y. none y.1 (back y.0 y.1 y.2 y.3))
    where
      back : (p : Fill) (x : Term) → AreArgs args p v → ReadsAs A (apply p v) x → ReadsAs A u x
      back p x are reads =
          let e = apply_agree p i.0 v (λ k o. nth_one (hole_number k) args (p k) (i.0 k) (are k o) (i.1 k o)) in
          subst (λ (y : Term). ReadsAs A y x) (e ∙ sym i.2) reads
