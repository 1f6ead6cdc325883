-- Proofs that are added, as other proofs ask for them, or they are of goals that nodes need, which are told.
use Rattle.std.specs.Prelude.{◌≡◌, ◌⊎◌, ◌≤◌, ℕ, zero, suc, List, [], ◌∷◌, ◌++◌, length, slice_get, Option, Some, None}
use Rattle.std.proofs.Common.{inl, inr, refl, sym, ap, ◌∙◌, subst, arith}
use Rattle.std.proofs.lemmas.Option.{same_Some, slice_get_within}
use Rattle.infer_needs.specs.Words.{Goal, DefWithBodyId, ExprOrPatId, out-TraitRef, RawBody, RawExpr, RawFacts, IsFront, Asked, System, implements, projects, Answer, Proof, asked_goal, IsProofAt, IsProvedIf, IsChild, AddsChildrenBut, AddsOneRoot, InferenceResult, needs_of, needs_at, pat_needs_at, IsNeeded, IsAboutAlias, recorded, given, GenericDefId, GoalReads}
use Rattle.hir_types.specs.declared.goal.Goal.TheVariants as goal
use Rattle.hir_types.specs.declared.ids.ExprOrPatId.TheVariants as node
use Rattle.infer_needs.proofs.Words.{get_left, child_later}
use Rattle.infer_needs.specs.Own.{first_needs, first_pat_needs, all_needs, AreAnswered, IsAboutTrait, IsOneOf, AreRootsOf, AddsRootsOf, RootsAreNeeded, WasTold, RootsAreTold, IsRightIn, IsRootOf}

-- ---- places of lists

get_back : {X : Type 0} (xs ys : List X) (i : ℕ) (x : X) → slice_get (xs ++ ys) i ≡ Some x → (slice_get xs i ≡ Some x) ⊎ (length xs ≤ i)
get_back [] ys i x e = inr (omega arith)
get_back (z ∷ xs) ys zero x e = inl e
get_back (z ∷ xs) ys (suc i) x e = elim (get_back xs ys i x e) [
  | inl h ↦ inl h
  | inr h ↦ inr (omega (arith, h))
]

one_left : (xs ys : List Asked) (a : Asked) → IsOneOf xs a → IsOneOf (xs ++ ys) a
one_left xs ys a h = (h.0, get_left xs ys h.0 a h.1)

pub one_right : (xs ys : List Asked) (a : Asked) → IsOneOf ys a → IsOneOf (xs ++ ys) a
one_right [] ys a h = h
one_right (x ∷ xs) ys a h = let r = one_right xs ys a h in (suc r.0, r.1)

-- one of both is one of the first, or of the second
one_of_both : (xs ys : List Asked) (a : Asked) (i : ℕ) → slice_get (xs ++ ys) i ≡ Some a → IsOneOf xs a ⊎ IsOneOf ys a
one_of_both [] ys a i e = inr (i, e)
one_of_both (x ∷ xs) ys a zero e = inl (zero, e)
one_of_both (x ∷ xs) ys a (suc i) e = elim (one_of_both xs ys a i e) [
  | inl h ↦ inl (suc h.0, h.1)
  | inr h ↦ inr h
]

-- ---- proofs that are added

pub roots_none : {raw : RawFacts} {item : GenericDefId} {f : System} (ys : List Asked) (ps : List Proof) → AddsRootsOf raw item f ys ps ps
roots_none ys ps = record { later = λ xs among h. h }

-- of goals of two lists, of one and of none, or of one
pub roots_both : {raw : RawFacts} {item : GenericDefId} {f : System} (xs ys : List Asked) (ps qs rs : List Proof) → AddsRootsOf raw item f xs ps qs → AddsRootsOf raw item f ys qs rs → AddsRootsOf raw item f (xs ++ ys) ps rs
roots_both xs ys ps qs rs before now = record { later = λ zs among h. now.later zs (λ a o. among a (one_right xs ys a o)) (before.later zs (λ a o. among a (one_left xs ys a o)) h) }

pub roots_more : {raw : RawFacts} {item : GenericDefId} {f : System} (xs : List Asked) (ps qs rs : List Proof) → AddsRootsOf raw item f xs ps qs → AddsRootsOf raw item f xs qs rs → AddsRootsOf raw item f xs ps rs
roots_more xs ps qs rs before now = record { later = λ zs among h. now.later zs among (before.later zs among h) }

-- where none was before
pub all_roots : {raw : RawFacts} {item : GenericDefId} {f : System} (xs : List Asked) (ps : List Proof) → AddsRootsOf raw item f xs [] ps → AreRootsOf raw item f xs ps
all_roots xs ps adds = adds.later xs (λ a o. o) (record { each = λ j y here. absurd (let none : None ≡ Some y = here in cc) })

-- ---- a goal that was proved

module _ (raw : RawFacts) (item : GenericDefId) (f : System) where
  abbrev depth : ℕ
  depth = raw.limits.goal_depth

  root_wider : (ys xs : List Asked) → ((a : Asked) → IsOneOf ys a → IsOneOf xs a) → (g : Goal) → IsRootOf raw item f ys g → IsRootOf raw item f xs g
  root_wider ys xs among g (inl o) = inl (among (asked_goal g) o)
  root_wider ys xs among g (inr (other, inl (b, o, reads))) = inr (other, inl (b, among b o, reads))
  root_wider ys xs among g (inr (other, inr right)) = inr (other, inr right)

  -- where each that is added and not asked for is a root of these
  module _ (ys : List Asked) (ps qs : List Proof) (R : ℕ → Type 0) (front : IsFront ps qs) (adds : AddsChildrenBut R ps qs) (are : (k : ℕ) (x : Proof) → R k → slice_get qs k ≡ Some x → IsRootOf raw item f ys x.goal) where
    root_by : (xs : List Asked) → ((a : Asked) → IsOneOf ys a → IsOneOf xs a) → AreRootsOf raw item f xs ps → (k : ℕ) (x : Proof) → slice_get qs k ≡ Some x → IsChild qs k ⊎ IsRootOf raw item f xs x.goal
    root_by xs among h k x at = elim (get_back ps front.0 k x (subst (λ l. slice_get l k ≡ Some x) front.1 at)) [
      | inl was ↦ elim (h.each k x was) [
        | inl c ↦ inl (child_later ps qs front k c)
        | inr o ↦ inr o
      ]
      | inr from ↦ elim (adds k from (slice_get_within qs k x at)) [
        | inl c ↦ inl c
        | inr is ↦ inr (root_wider ys xs among x.goal (are k x is at))
      ]
    ]

    roots_by : AddsRootsOf raw item f ys ps qs
    roots_by = record { later = λ xs among h. record { each = root_by xs among h } }

  root_is : (g : Goal) (qs : List Proof) (k j : ℕ) (x : Proof) → IsProofAt qs g k → Some k ≡ Some j → slice_get qs j ≡ Some x → x.goal ≡ g
  root_is g qs k j x h is at =
      let same : h.0 ≡ x = same_Some h.0 x (sym h.1 ∙ (ap (slice_get qs) (same_Some k j is) ∙ at)) in
      ap (λ (y : Proof). y.goal) (sym same) ∙ h.2

  -- whose goal is a root of these
  module _ (ys : List Asked) (n : ℕ) (g : Goal) (root : IsRootOf raw item f ys g) (ps qs : List Proof) where
    root_proved : (o : Option ℕ) → IsFront ps qs → AddsOneRoot o ps qs → IsProvedIf f n qs g o → AddsRootsOf raw item f ys ps qs
    root_proved None front adds proved = roots_by ys ps qs (λ k. None ≡ Some k) front adds (λ k x is at. absurd (cc))
    root_proved (Some j) front adds proved = roots_by ys ps qs (λ k. Some j ≡ Some k) front adds (λ k x is at. subst (IsRootOf raw item f ys) (sym (root_is g qs j k x proved is at)) root)

  pub roots_proved : (n : ℕ) (g : Goal) (ps qs : List Proof) (o : Option ℕ) → IsFront ps qs → AddsOneRoot o ps qs → IsProvedIf f n qs g o → AddsRootsOf raw item f (asked_goal g ∷ []) ps qs
  roots_proved n g ps qs o front adds proved = root_proved (asked_goal g ∷ []) n g (inl (0, refl)) ps qs o front adds proved

  about_other : (a : Asked) → IsAboutAlias a → (g : Goal) → IsAboutTrait g → a ≡ asked_goal g → ⊥
  about_other a alias (goal.Trait t) about is = (let clash : projects alias.alias ≡ implements (out-TraitRef t).id = sym alias.is ∙ ap (λ (x : Asked). x.kind) is in cc)
  about_other a alias (goal.Projection k xs t) about is = about

  -- of what a goal reads as, about an associated type
  pub roots_read : (a : Asked) (n : ℕ) (g : Goal) (ps qs : List Proof) (o : Option ℕ) → GoalReads f depth a (asked_goal g) → IsAboutAlias (asked_goal g) → IsFront ps qs → AddsOneRoot o ps qs → IsProvedIf f n qs g o → AddsRootsOf raw item f (a ∷ []) ps qs
  roots_read a n g ps qs o reads alias front adds proved =
      root_proved (a ∷ []) n g (inr (λ about. about_other (asked_goal g) alias g about refl, inl (a, (0, refl), reads))) ps qs o front adds proved

  -- of one that fits
  pub roots_other : (n : ℕ) (g : Goal) (ps qs : List Proof) (o : Option ℕ) → (IsAboutTrait g → ⊥) → IsRightIn raw item (asked_goal g) → IsFront ps qs → AddsOneRoot o ps qs → IsProvedIf f n qs g o → AddsRootsOf raw item f [] ps qs
  roots_other n g ps qs o other right front adds proved = root_proved [] n g (inr (other, inr right)) ps qs o front adds proved

-- ---- at a place

pub roots_here : {item : GenericDefId} {f : System} (raw : RawFacts) (b : RawBody) (r : InferenceResult) (k : ℕ) (x : RawExpr) (ps qs : List Proof) → slice_get b.exprs k ≡ Some x
    → AddsRootsOf raw item f (needs_of raw (Some x) (recorded r.type_of_expr k)) ps qs → AddsRootsOf raw item f (needs_at raw b r k) ps qs
roots_here {item} {f} raw b r k x ps qs at h = subst (λ (o : Option RawExpr). AddsRootsOf raw item f (needs_of raw o (recorded r.type_of_expr k)) ps qs) (sym at) h

-- ---- what nodes need

module _ (raw : RawFacts) (d : DefWithBodyId) (b : RawBody) (r : InferenceResult) where
  abbrev NeedsIt : Asked → Type 0
  NeedsIt a = (n : ExprOrPatId) × IsNeeded (given raw d b) r n a

  expr_needs_it : (n : ℕ) (a : Asked) → IsOneOf (first_needs raw b r n) a → NeedsIt a
  expr_needs_it zero a o = absurd (let none : None ≡ Some a = o.1 in cc)
  expr_needs_it (suc n) a o = elim (one_of_both (first_needs raw b r n) (needs_at raw b r n) a o.0 o.1) [
    | inl h ↦ expr_needs_it n a h
    | inr h ↦ (node.ExprId (record { 0 = n }), record { at = h.0; among = h.1 })
  ]

  pat_needs_it : (n : ℕ) (a : Asked) → IsOneOf (first_pat_needs raw r n) a → NeedsIt a
  pat_needs_it zero a o = absurd (let none : None ≡ Some a = o.1 in cc)
  pat_needs_it (suc n) a o = elim (one_of_both (first_pat_needs raw r n) (pat_needs_at raw r n) a o.0 o.1) [
    | inl h ↦ pat_needs_it n a h
    | inr h ↦ (node.PatId (record { 0 = n }), record { at = h.0; among = h.1 })
  ]

  pub node_needs_it : (a : Asked) → IsOneOf (all_needs raw b r) a → NeedsIt a
  node_needs_it a o = elim (one_of_both (first_needs raw b r (length b.exprs)) (first_pat_needs raw r (length b.pats)) a o.0 o.1) [
    | inl h ↦ expr_needs_it (length b.exprs) a h
    | inr h ↦ pat_needs_it (length b.pats) a h
  ]

  pub roots_needed : {item : GenericDefId} {f : System} → AddsRootsOf raw item f (all_needs raw b r) [] r.proofs → RootsAreNeeded (given raw d b) r
  roots_needed adds k x at about = elim ((all_roots (all_needs raw b r) r.proofs adds).each k x at) [
    | inl c ↦ inl c
    | inr (inl o) ↦ inr (node_needs_it (asked_goal x.goal) o)
    | inr (inr (other, root)) ↦ absurd (other about)
  ]

-- ---- what was told

answered_told : (f : System) (n : ℕ) (xs : List Asked) (ts : List (Goal × Answer)) → AreAnswered f n xs ts → (i : ℕ) (a : Asked) → slice_get xs i ≡ Some a → WasTold ts a
answered_told f n [] ts h i a at = absurd (cc)
answered_told f n (y ∷ xs) [] h i a at = absurd h
answered_told f n (y ∷ xs) (t ∷ ts) h zero a at = (zero, t, refl, h.0 ∙ same_Some y a at)
answered_told f n (y ∷ xs) (t ∷ ts) h (suc i) a at = let r = answered_told f n xs ts h.2 i a at in (suc r.0, r.1, r.2, r.3)

pub roots_told : {raw : RawFacts} {item : GenericDefId} (f : System) (n : ℕ) (xs : List Asked) (ps : List Proof) (ts : List (Goal × Answer)) → AddsRootsOf raw item f xs [] ps → AreAnswered f n xs ts → RootsAreTold ps ts
roots_told f n xs ps ts adds answers k x at about =
    elim ((all_roots xs ps adds).each k x at) [
      | inl c ↦ inl c
      | inr (inl o) ↦ inr (answered_told f n xs ts answers o.0 (asked_goal x.goal) o.1)
      | inr (inr (other, root)) ↦ absurd (other about)
    ]
