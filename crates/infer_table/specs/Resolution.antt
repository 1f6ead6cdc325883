-- What bindings come to: each hole with what it is bound to in the end.
use Rattle.std.specs.Prelude.{◌≡◌, ℕ, Bool, true, false, nat_eq, if◌then◌else◌, cond, List, [], ◌∷◌, Option, Some, None}
use Rattle.std.proofs.Common.{◌⊎◌, inl, inr, refl, sym, ap, ◌∙◌, subst, true≢false}
use Rattle.infer_table.specs.Words.{Hole, Const, Ty, Ty-F, roll-Ty, out-Ty, out-roll-Ty, roll-out-Ty, GenericArg, AliasBound, TraitRef, Assignment, with_holes, each_itself, composed, folded, const_folded, Term, hole, apply, occurs, hole_eq, term, const_term, terms_of, replaced_var, replaced_int_var, folded_twice, const_folded_twice, term_var, term_int_var, term_folded, const_term_folded, SameAt, folded_absent, const_folded_absent}
use Rattle.hir_types.specs.declared.head.Hole.TheVariants as hole_of
use Rattle.hir_types.specs.declared.ty.Const.TheVariants as const
use Rattle.hir_types.specs.declared.ty.Ty.TheVariants as ty
use Rattle.infer_table.specs.declared.binding.Binding.{Binding}
use Rattle.infer_table.specs.declared.binding.Binding.TheVariants as binding
use Rattle.infer_table.specs.Solutions.{single, sub, resolved, found, Kept, Absent, Triangular, log_of}
use Rattle.infer_table.specs.Bindings.{bound_hole, bound_term, found_binding}
use Rattle.infer_table.specs.TermLemmas.{hole_eq_true, hole_eq_same, hole_eq_flip, apply_agree}
use Rattle.infer_table.specs.LogLemmas.{solution, solution_apply}

-- the bound hole by what it is bound to, each other hole by itself
abbrev pub single_assignment : Binding → Assignment
single_assignment (binding.Ty x t) = record each_itself { var = λ n. if nat_eq x n then t else ty.Var n }
single_assignment (binding.Int x t) = record each_itself { int_var = λ n. if nat_eq x n then t else ty.IntVar n }
single_assignment (binding.Const x c) = record each_itself { const_var = λ n. if nat_eq x n then c else const.Var n }

-- each binding put in, the earliest first
abbrev pub resolution : List Binding → Assignment
resolution [] = each_itself
resolution (b ∷ bs) = composed (resolution bs) (single_assignment b)

-- ---- as terms

type_at : (n : ℕ) (t : Ty) (b : Bool) → term (cond b t (ty.Var n)) ≡ cond b (term t) (hole (hole_of.Ty n))
type_at n t true = refl
type_at n t false = term_var n

int_at : (n : ℕ) (t : Ty) (b : Bool) → term (cond b t (ty.IntVar n)) ≡ cond b (term t) (hole (hole_of.Int n))
int_at n t true = refl
int_at n t false = term_int_var n

const_at : (n : ℕ) (c : Const) (b : Bool) → const_term (cond b c (const.Var n)) ≡ cond b (const_term c) (hole (hole_of.Const n))
const_at n c true = refl
const_at n c false = refl

pub single_terms : (b : Binding) (k : Hole) → terms_of (single_assignment b) k ≡ single (bound_hole b) (bound_term b) k
single_terms (binding.Ty x t) (hole_of.Ty n) = type_at n t (nat_eq x n)
single_terms (binding.Ty x t) (hole_of.Int n) = term_int_var n
single_terms (binding.Ty x t) (hole_of.Const n) = refl
single_terms (binding.Int x t) (hole_of.Ty n) = term_var n
single_terms (binding.Int x t) (hole_of.Int n) = int_at n t (nat_eq x n)
single_terms (binding.Int x t) (hole_of.Const n) = refl
single_terms (binding.Const x c) (hole_of.Ty n) = term_var n
single_terms (binding.Const x c) (hole_of.Int n) = term_int_var n
single_terms (binding.Const x c) (hole_of.Const n) = const_at n c (nat_eq x n)

terms_itself : (k : Hole) → terms_of each_itself k ≡ hole k
terms_itself (hole_of.Ty n) = term_var n
terms_itself (hole_of.Int n) = term_int_var n
terms_itself (hole_of.Const n) = refl

pub terms_composed : (f g : Assignment) (k : Hole) → terms_of (composed f g) k ≡ apply (terms_of f) (terms_of g k)
terms_composed f g (hole_of.Ty n) = term_folded f (g.var n)
terms_composed f g (hole_of.Int n) = term_folded f (g.int_var n)
terms_composed f g (hole_of.Const n) = const_term_folded f (g.const_var n)

resolved_step : (b : Binding) (bs : List Binding) (t : Term)
    → resolved (log_of (b ∷ bs)) t ≡ resolved (log_of bs) (sub (bound_hole b) (bound_term b) t)
resolved_step (binding.Ty x u) bs t = refl
resolved_step (binding.Int x u) bs t = refl
resolved_step (binding.Const x c) bs t = refl

pub resolution_terms : (bs : List Binding) (k : Hole) → terms_of (resolution bs) k ≡ resolved (log_of bs) (hole k)
resolution_terms [] k = terms_itself k
resolution_terms (b ∷ bs) k =
    terms_composed (resolution bs) (single_assignment b) k
    ∙ ap (apply (terms_of (resolution bs))) (single_terms b k)
    ∙ apply_resolution bs (single (bound_hole b) (bound_term b) k) (resolution_terms bs)
    ∙ sym (resolved_step b bs (hole k))
  where
    apply_resolution : (bs : List Binding) (t : Term) → ((k : Hole) → terms_of (resolution bs) k ≡ resolved (log_of bs) (hole k))
        → apply (terms_of (resolution bs)) t ≡ resolved (log_of bs) t
    apply_resolution bs t h = apply_agree (terms_of (resolution bs)) (solution (log_of bs)) t (λ k _. h k) ∙ solution_apply (log_of bs) t

pub resolution_term : (bs : List Binding) (t : Ty) → term (folded (resolution bs) t) ≡ resolved (log_of bs) (term t)
resolution_term bs t =
    term_folded (resolution bs) t
    ∙ apply_agree (terms_of (resolution bs)) (solution (log_of bs)) (term t) (λ k _. resolution_terms bs k)
    ∙ solution_apply (log_of bs) (term t)

pub resolution_const_term : (bs : List Binding) (c : Const)
    → const_term (const_folded (resolution bs) c) ≡ resolved (log_of bs) (const_term c)
resolution_const_term bs c =
    const_term_folded (resolution bs) c
    ∙ apply_agree (terms_of (resolution bs)) (solution (log_of bs)) (const_term c) (λ k _. resolution_terms bs k)
    ∙ solution_apply (log_of bs) (const_term c)

-- ---- a binding whose hole does not occur changes nothing

at_other_var : (x n : ℕ) (t : Ty) (b : Bool) → b ≡ false → cond b t (ty.Var n) ≡ ty.Var n
at_other_var x n t true e = absurd (true≢false e)
at_other_var x n t false e = refl

at_other_int : (x n : ℕ) (t : Ty) (b : Bool) → b ≡ false → cond b t (ty.IntVar n) ≡ ty.IntVar n
at_other_int x n t true e = absurd (true≢false e)
at_other_int x n t false e = refl

at_other_const : (x n : ℕ) (c : Const) (b : Bool) → b ≡ false → cond b c (const.Var n) ≡ const.Var n
at_other_const x n c true e = absurd (true≢false e)
at_other_const x n c false e = refl

pub single_other : (b : Binding) (k : Hole) → hole_eq (bound_hole b) k ≡ false → SameAt (single_assignment b) each_itself k
single_other (binding.Ty x t) (hole_of.Ty n) h = at_other_var x n t (nat_eq x n) h
single_other (binding.Ty x t) (hole_of.Int n) h = refl
single_other (binding.Ty x t) (hole_of.Const n) h = refl
single_other (binding.Int x t) (hole_of.Ty n) h = refl
single_other (binding.Int x t) (hole_of.Int n) h = at_other_int x n t (nat_eq x n) h
single_other (binding.Int x t) (hole_of.Const n) h = refl
single_other (binding.Const x c) (hole_of.Ty n) h = refl
single_other (binding.Const x c) (hole_of.Int n) h = refl
single_other (binding.Const x c) (hole_of.Const n) h = at_other_const x n c (nat_eq x n) h

pub single_absent : (b : Binding) (t : Ty) → occurs (bound_hole b) (term t) ≡ false → folded (single_assignment b) t ≡ t
single_absent b t h = folded_absent (bound_hole b) (single_assignment b) (single_other b) t h

pub single_const_absent : (b : Binding) (c : Const) → occurs (bound_hole b) (const_term c) ≡ false
    → const_folded (single_assignment b) c ≡ c
single_const_absent b c h = const_folded_absent (bound_hole b) (single_assignment b) (single_other b) c h

-- ---- the binding of a hole

some_binding : (a b : Binding) (o : Option Binding) (c : Bool) → cond c (Some a) o ≡ Some b → ((c ≡ true) × (a ≡ b))
    ⊎ ((c ≡ false) × (o ≡ Some b))
some_binding a b o true e = inl (refl, cc)
some_binding a b o false e = inr (refl, e)

no_binding : (a : Binding) (o : Option Binding) (c : Bool) → cond c (Some a) o ≡ None → (c ≡ false) × (o ≡ None)
no_binding a o true e = cc
no_binding a o false e = (refl, e)

-- it is a binding of that hole
pub found_is : (bs : List Binding) (k : Hole) (b : Binding) → found_binding bs k ≡ Some b → bound_hole b ≡ k
found_is [] k b e = cc
found_is (a ∷ bs) k b e = elim (some_binding a b (found_binding bs k) (hole_eq k (bound_hole a)) e) [
  | inl q ↦ ap bound_hole (sym q.1) ∙ sym (hole_eq_true k (bound_hole a) q.0)
  | inr q ↦ found_is bs k b q.1
]

found_step : (a : Binding) (bs : List Binding) (k : Hole)
    → found (log_of (a ∷ bs)) k ≡ cond (hole_eq k (bound_hole a)) (Some (bound_term a)) (found (log_of bs) k)
found_step (binding.Ty x u) bs k = refl
found_step (binding.Int x u) bs k = refl
found_step (binding.Const x c) bs k = refl

-- among terms
pub found_in_log : (bs : List Binding) (k : Hole) (b : Binding) → found_binding bs k ≡ Some b → found (log_of bs) k ≡ Some (bound_term b)
found_in_log [] k b e = cc
found_in_log (a ∷ bs) k b e = elim (some_binding a b (found_binding bs k) (hole_eq k (bound_hole a)) e) [
  | inl q ↦ found_step a bs k ∙ ap (λ (c : Bool). cond c (Some (bound_term a)) (found (log_of bs) k)) q.0 ∙ ap
      (λ (z : Binding). Some (bound_term z)) q.1
  | inr q ↦ found_step a bs k ∙ ap (λ (c : Bool). cond c (Some (bound_term a)) (found (log_of bs) k)) q.0 ∙ found_in_log bs k b q.1
]

absent_step : (x : Hole) (a : Binding) (bs : List Binding) → Absent x (log_of (a ∷ bs)) → (hole_eq x (bound_hole a) ≡ false)
    × (occurs x (bound_term a) ≡ false) × Absent x (log_of bs)
absent_step x (binding.Ty y u) bs h = h
absent_step x (binding.Int y u) bs h = h
absent_step x (binding.Const y c) bs h = h

triangular_step : (a : Binding) (bs : List Binding) → Triangular (log_of (a ∷ bs)) → (occurs (bound_hole a) (bound_term a) ≡ false)
    × Kept (bound_hole a) (bound_term a) × Absent (bound_hole a) (log_of bs) × Triangular (log_of bs)
triangular_step (binding.Ty y u) bs h = h
triangular_step (binding.Int y u) bs h = h
triangular_step (binding.Const y c) bs h = h

-- a hole that is absent is neither the bound hole nor in what it is bound to
absent_found : (x : Hole) (bs : List Binding) (k : Hole) (b : Binding) → Absent x (log_of bs) → found_binding bs k ≡ Some b
    → (hole_eq x (bound_hole b) ≡ false) × (occurs x (bound_term b) ≡ false)
absent_found x [] k b h e = cc
absent_found x (a ∷ bs) k b h e =
    let n = absent_step x a bs h in
    elim (some_binding a b (found_binding bs k) (hole_eq k (bound_hole a)) e) [
      | inl q ↦ let P : Binding → Type 0 = λ z. (hole_eq x (bound_hole z) ≡ false) × (occurs x (bound_term z) ≡ false) in
          subst P q.1 (n.0, n.1)
      | inr q ↦ absent_found x bs k b n.2 q.1
    ]

-- ---- what a bound hole comes to

-- the binding holds
abbrev pub Holds : Assignment → Binding → Type 0
Holds s (binding.Ty n t) = s.var n ≡ folded s t
Holds s (binding.Int n t) = s.int_var n ≡ folded s t
Holds s (binding.Const n c) = s.const_var n ≡ const_folded s c

at_same : {X : Type 0} (x y : X) (b : Bool) → b ≡ true → cond b x y ≡ x
at_same x y true e = refl
at_same x y false e = absurd (true≢false (sym e))

holds_first : (s : Assignment) (b : Binding) → occurs (bound_hole b) (bound_term b) ≡ false → Holds (composed s (single_assignment b)) b
holds_first s (binding.Ty n t) h =
    ap (folded s) (at_same t (ty.Var n) (nat_eq n n) (hole_eq_same (hole_of.Ty n)) ∙ sym (single_absent (binding.Ty n t) t h))
    ∙ folded_twice s (single_assignment (binding.Ty n t)) t
holds_first s (binding.Int n t) h =
    ap (folded s) (at_same t (ty.IntVar n) (nat_eq n n) (hole_eq_same (hole_of.Int n)) ∙ sym (single_absent (binding.Int n t) t h))
    ∙ folded_twice s (single_assignment (binding.Int n t)) t
holds_first s (binding.Const n c) h =
    ap (const_folded s) (at_same c (const.Var n) (nat_eq n n) (hole_eq_same (hole_of.Const n)) ∙ sym
    (single_const_absent (binding.Const n c) c h))
    ∙ const_folded_twice s (single_assignment (binding.Const n c)) c

holds_later : (s : Assignment) (a b : Binding) → hole_eq (bound_hole a) (bound_hole b) ≡ false
    → occurs (bound_hole a) (bound_term b) ≡ false → Holds s b → Holds (composed s (single_assignment a)) b
holds_later s a (binding.Ty n t) h o e =
    ap (folded s) (single_other a (hole_of.Ty n) h) ∙ replaced_var (with_holes s) n ∙ e
    ∙ ap (folded s) (sym (single_absent a t o)) ∙ folded_twice s (single_assignment a) t
holds_later s a (binding.Int n t) h o e =
    ap (folded s) (single_other a (hole_of.Int n) h) ∙ replaced_int_var (with_holes s) n ∙ e
    ∙ ap (folded s) (sym (single_absent a t o)) ∙ folded_twice s (single_assignment a) t
holds_later s a (binding.Const n c) h o e =
    ap (const_folded s) (single_other a (hole_of.Const n) h) ∙ e
    ∙ ap (const_folded s) (sym (single_const_absent a c o)) ∙ const_folded_twice s (single_assignment a) c

pub found_holds : (bs : List Binding) (k : Hole) (b : Binding) → Triangular (log_of bs) → found_binding bs k ≡ Some b
    → Holds (resolution bs) b
found_holds [] k b t e = cc
found_holds (a ∷ bs) k b t e =
    let n = triangular_step a bs t in
    elim (some_binding a b (found_binding bs k) (hole_eq k (bound_hole a)) e) [
      | inl q ↦ let P : Binding → Type 0 = Holds (resolution (a ∷ bs)) in subst P q.1 (holds_first (resolution bs) a n.0)
      | inr q ↦ let m = absent_found (bound_hole a) bs k b n.2 q.1 in holds_later (resolution bs) a b m.0 m.1 (found_holds bs k b n.3 q.1)
    ]

pub found_var : (bs : List Binding) (n : ℕ) (t : Ty) → Triangular (log_of bs) → found_binding bs (hole_of.Ty n) ≡ Some (binding.Ty n t)
    → (resolution bs).var n ≡ folded (resolution bs) t
found_var bs n t h e = found_holds bs (hole_of.Ty n) (binding.Ty n t) h e

pub found_int_var : (bs : List Binding) (n : ℕ) (t : Ty) → Triangular (log_of bs)
    → found_binding bs (hole_of.Int n) ≡ Some (binding.Int n t) → (resolution bs).int_var n ≡ folded (resolution bs) t
found_int_var bs n t h e = found_holds bs (hole_of.Int n) (binding.Int n t) h e

pub found_const_var : (bs : List Binding) (n : ℕ) (c : Const) → Triangular (log_of bs)
    → found_binding bs (hole_of.Const n) ≡ Some (binding.Const n c) → (resolution bs).const_var n ≡ const_folded (resolution bs) c
found_const_var bs n c h e = found_holds bs (hole_of.Const n) (binding.Const n c) h e

-- ---- what an open hole comes to

itself_later : (s : Assignment) (a : Binding) (k : Hole) → hole_eq (bound_hole a) k ≡ false → SameAt s each_itself k
    → SameAt (composed s (single_assignment a)) each_itself k
itself_later s a (hole_of.Ty n) h e = ap (folded s) (single_other a (hole_of.Ty n) h) ∙ replaced_var (with_holes s) n ∙ e
itself_later s a (hole_of.Int n) h e = ap (folded s) (single_other a (hole_of.Int n) h) ∙ replaced_int_var (with_holes s) n ∙ e
itself_later s a (hole_of.Const n) h e = ap (const_folded s) (single_other a (hole_of.Const n) h) ∙ e

each_is_itself : (k : Hole) → SameAt each_itself each_itself k
each_is_itself (hole_of.Ty n) = refl
each_is_itself (hole_of.Int n) = refl
each_is_itself (hole_of.Const n) = refl

pub open_itself : (bs : List Binding) (k : Hole) → found_binding bs k ≡ None → SameAt (resolution bs) each_itself k
open_itself [] k e = each_is_itself k
open_itself (a ∷ bs) k e =
    let q = no_binding a (found_binding bs k) (hole_eq k (bound_hole a)) e in
    itself_later (resolution bs) a k (hole_eq_flip k (bound_hole a) false q.0) (open_itself bs k q.1)

pub open_var : (bs : List Binding) (n : ℕ) → found_binding bs (hole_of.Ty n) ≡ None → (resolution bs).var n ≡ ty.Var n
open_var bs n e = open_itself bs (hole_of.Ty n) e

pub open_int_var : (bs : List Binding) (n : ℕ) → found_binding bs (hole_of.Int n) ≡ None → (resolution bs).int_var n ≡ ty.IntVar n
open_int_var bs n e = open_itself bs (hole_of.Int n) e

pub open_const_var : (bs : List Binding) (n : ℕ) → found_binding bs (hole_of.Const n) ≡ None → (resolution bs).const_var n ≡ const.Var n
open_const_var bs n e = open_itself bs (hole_of.Const n) e

-- ---- looking types and consts up

-- what a type hole or a hole of integer types is bound to
abbrev pub type_bound : Option Binding → Option Ty
type_bound None = None
type_bound (Some (binding.Ty n t)) = Some t
type_bound (Some (binding.Int n t)) = Some t
type_bound (Some (binding.Const n c)) = None

-- what a const hole is bound to
abbrev pub const_bound : Option Binding → Option Const
const_bound None = None
const_bound (Some (binding.Ty n t)) = None
const_bound (Some (binding.Int n t)) = None
const_bound (Some (binding.Const n c)) = Some c

abbrev pub found_type : List Binding → Hole → Option Ty
found_type bs k = type_bound (found_binding bs k)

abbrev pub found_const : List Binding → ℕ → Option Const
found_const bs n = const_bound (found_binding bs (hole_of.Const n))

abbrev pub found_at : List Binding → Ty-F GenericArg Ty AliasBound TraitRef → Option Ty
found_at bs (Ty-F.Var n) = found_type bs (hole_of.Ty n)
found_at bs (Ty-F.IntVar n) = found_type bs (hole_of.Int n)
found_at bs _ = None

-- what the type is bound to, where it is a hole
abbrev pub found_for : List Binding → Ty → Option Ty
found_for bs t = found_at bs (out-Ty t)

-- the type is no bound hole
pub record IsOpenOrKnown (bs : List Binding) (t : Ty) : Type 0 where
  pub var : (n : ℕ) → t ≡ ty.Var n → found_binding bs (hole_of.Ty n) ≡ None
  pub int_var : (n : ℕ) → t ≡ ty.IntVar n → found_binding bs (hole_of.Int n) ≡ None

bound_is_type : (n : ℕ) (b : Binding) (t : Ty) → bound_hole b ≡ hole_of.Ty n → type_bound (Some b) ≡ Some t → b ≡ binding.Ty n t
bound_is_type n (binding.Ty m u) t h e = cc
bound_is_type n (binding.Int m u) t h e = cc
bound_is_type n (binding.Const m c) t h e = cc

bound_is_int : (n : ℕ) (b : Binding) (t : Ty) → bound_hole b ≡ hole_of.Int n → type_bound (Some b) ≡ Some t → b ≡ binding.Int n t
bound_is_int n (binding.Ty m u) t h e = cc
bound_is_int n (binding.Int m u) t h e = cc
bound_is_int n (binding.Const m c) t h e = cc

bound_is_const : (n : ℕ) (b : Binding) (c : Const) → bound_hole b ≡ hole_of.Const n → const_bound (Some b) ≡ Some c → b ≡ binding.Const n c
bound_is_const n (binding.Ty m u) c h e = cc
bound_is_const n (binding.Int m u) c h e = cc
bound_is_const n (binding.Const m d) c h e = cc

bound_has_term : (b : Binding) (t : Ty) → type_bound (Some b) ≡ Some t → bound_term b ≡ term t
bound_has_term (binding.Ty m u) t e = let f : u ≡ t = cc in ap term f
bound_has_term (binding.Int m u) t e = let f : u ≡ t = cc in ap term f
bound_has_term (binding.Const m c) t e = cc

bound_has_const : (b : Binding) (c : Const) → const_bound (Some b) ≡ Some c → bound_term b ≡ const_term c
bound_has_const (binding.Ty m u) c e = cc
bound_has_const (binding.Int m u) c e = cc
bound_has_const (binding.Const m d) c e = let f : d ≡ c = cc in ap const_term f

some_has_type : (n : ℕ) (b : Binding) → bound_hole b ≡ hole_of.Ty n → type_bound (Some b) ≡ None → ⊥
some_has_type n (binding.Ty m u) h e = cc
some_has_type n (binding.Int m u) h e = cc
some_has_type n (binding.Const m c) h e = cc

some_has_int : (n : ℕ) (b : Binding) → bound_hole b ≡ hole_of.Int n → type_bound (Some b) ≡ None → ⊥
some_has_int n (binding.Ty m u) h e = cc
some_has_int n (binding.Int m u) h e = cc
some_has_int n (binding.Const m c) h e = cc

some_has_const : (n : ℕ) (b : Binding) → bound_hole b ≡ hole_of.Const n → const_bound (Some b) ≡ None → ⊥
some_has_const n (binding.Ty m u) h e = cc
some_has_const n (binding.Int m u) h e = cc
some_has_const n (binding.Const m c) h e = cc

-- a binding that is found, from what it holds
binding_behind : {X : Type 0} (f : Option Binding → Option X) (o : Option Binding) (x : X) → f None ≡ None → f o ≡ Some x → (b : Binding)
    × (o ≡ Some b) × (f (Some b) ≡ Some x)
binding_behind f None x n e = let g = sym n ∙ e in cc
binding_behind f (Some b) x n e = (b, refl, e)

none_of : {X : Type 0} (f : Option Binding → Option X) (o : Option Binding) → ((b : Binding) → o ≡ Some b → f (Some b) ≡ None → ⊥)
    → f o ≡ None → o ≡ None
none_of f None h e = refl
none_of f (Some b) h e = absurd (h b refl e)

pub type_found : (bs : List Binding) (n : ℕ) (t : Ty) → found_type bs (hole_of.Ty n) ≡ Some t
    → found_binding bs (hole_of.Ty n) ≡ Some (binding.Ty n t)
type_found bs n t e =
    let p = binding_behind type_bound (found_binding bs (hole_of.Ty n)) t refl e in
    p.1 ∙ ap Some (bound_is_type n p.0 t (found_is bs (hole_of.Ty n) p.0 p.1) p.2)

pub int_found : (bs : List Binding) (n : ℕ) (t : Ty) → found_type bs (hole_of.Int n) ≡ Some t
    → found_binding bs (hole_of.Int n) ≡ Some (binding.Int n t)
int_found bs n t e =
    let p = binding_behind type_bound (found_binding bs (hole_of.Int n)) t refl e in
    p.1 ∙ ap Some (bound_is_int n p.0 t (found_is bs (hole_of.Int n) p.0 p.1) p.2)

pub const_found : (bs : List Binding) (n : ℕ) (c : Const) → found_const bs n ≡ Some c
    → found_binding bs (hole_of.Const n) ≡ Some (binding.Const n c)
const_found bs n c e =
    let p = binding_behind const_bound (found_binding bs (hole_of.Const n)) c refl e in
    p.1 ∙ ap Some (bound_is_const n p.0 c (found_is bs (hole_of.Const n) p.0 p.1) p.2)

pub no_type_found : (bs : List Binding) (n : ℕ) → found_type bs (hole_of.Ty n) ≡ None → found_binding bs (hole_of.Ty n) ≡ None
no_type_found bs n e = none_of type_bound (found_binding bs (hole_of.Ty n)) (λ b f g. some_has_type n b (found_is bs (hole_of.Ty n) b f) g)
    e

pub no_int_found : (bs : List Binding) (n : ℕ) → found_type bs (hole_of.Int n) ≡ None → found_binding bs (hole_of.Int n) ≡ None
no_int_found bs n e = none_of type_bound (found_binding bs (hole_of.Int n)) (λ b f g. some_has_int n b (found_is bs (hole_of.Int n) b f) g)
    e

pub no_const_found : (bs : List Binding) (n : ℕ) → found_const bs n ≡ None → found_binding bs (hole_of.Const n) ≡ None
no_const_found bs n e = none_of const_bound (found_binding bs (hole_of.Const n))
    (λ b f g. some_has_const n b (found_is bs (hole_of.Const n) b f) g) e

-- among terms
pub type_in_log : (bs : List Binding) (k : Hole) (t : Ty) → found_type bs k ≡ Some t → found (log_of bs) k ≡ Some (term t)
type_in_log bs k t e =
    let p = binding_behind type_bound (found_binding bs k) t refl e in
    found_in_log bs k p.0 p.1 ∙ ap Some (bound_has_term p.0 t p.2)

pub const_in_log : (bs : List Binding) (n : ℕ) (c : Const) → found_const bs n ≡ Some c
    → found (log_of bs) (hole_of.Const n) ≡ Some (const_term c)
const_in_log bs n c e =
    let p = binding_behind const_bound (found_binding bs (hole_of.Const n)) c refl e in
    found_in_log bs (hole_of.Const n) p.0 p.1 ∙ ap Some (bound_has_const p.0 c p.2)

-- ---- the same by a type

pub found_for_var : (bs : List Binding) (n : ℕ) → found_for bs (ty.Var n) ≡ found_type bs (hole_of.Ty n)
found_for_var bs n = ap (found_at bs) (ap out-Ty (sym (ty.rolls-Var n)) ∙ out-roll-Ty (Ty-F.Var n))

pub found_for_int_var : (bs : List Binding) (n : ℕ) → found_for bs (ty.IntVar n) ≡ found_type bs (hole_of.Int n)
found_for_int_var bs n = ap (found_at bs) (ap out-Ty (sym (ty.rolls-IntVar n)) ∙ out-roll-Ty (Ty-F.IntVar n))

-- a type is bound only where it is a hole
bound_is_hole : (bs : List Binding) (x : Ty-F GenericArg Ty AliasBound TraitRef) (u : Ty) → found_at bs x ≡ Some u
    → ((n : ℕ) × (x ≡ Ty-F.Var n)) ⊎ ((n : ℕ) × (x ≡ Ty-F.IntVar n))
bound_is_hole bs (Ty-F.Var n) u e = inl (n, refl)
bound_is_hole bs (Ty-F.IntVar n) u e = inr (n, refl)
bound_is_hole bs _ u e = cc

out_var : (t : Ty) (n : ℕ) → out-Ty t ≡ Ty-F.Var n → t ≡ ty.Var n
out_var t n e = sym (roll-out-Ty t) ∙ ap roll-Ty e ∙ ty.rolls-Var n

out_int_var : (t : Ty) (n : ℕ) → out-Ty t ≡ Ty-F.IntVar n → t ≡ ty.IntVar n
out_int_var t n e = sym (roll-out-Ty t) ∙ ap roll-Ty e ∙ ty.rolls-IntVar n

pub hole_for : (bs : List Binding) (t u : Ty) → found_for bs t ≡ Some u → ((n : ℕ) × (t ≡ ty.Var n)) ⊎ ((n : ℕ) × (t ≡ ty.IntVar n))
hole_for bs t u e = elim (bound_is_hole bs (out-Ty t) u e) [
  | inl q ↦ inl (q.0, out_var t q.0 q.1)
  | inr q ↦ inr (q.0, out_int_var t q.0 q.1)
]

-- it comes to what the type that it is bound to comes to
pub found_for_folded : (bs : List Binding) (t u : Ty) → Triangular (log_of bs) → found_for bs t ≡ Some u
    → folded (resolution bs) u ≡ folded (resolution bs) t
found_for_folded bs t u h e = elim (hole_for bs t u e) [
  | inl q ↦
      let f = sym (found_for_var bs q.0) ∙ ap (found_for bs) (sym q.1) ∙ e in
      sym (found_var bs q.0 u h (type_found bs q.0 u f)) ∙ sym (replaced_var (with_holes (resolution bs)) q.0) ∙ ap
      (folded (resolution bs)) (sym q.1)
  | inr q ↦
      let f = sym (found_for_int_var bs q.0) ∙ ap (found_for bs) (sym q.1) ∙ e in
      sym (found_int_var bs q.0 u h (int_found bs q.0 u f)) ∙ sym (replaced_int_var (with_holes (resolution bs)) q.0) ∙ ap
      (folded (resolution bs)) (sym q.1)
]

pub found_for_in_log : (bs : List Binding) (t u : Ty) → found_for bs t ≡ Some u → (k : Hole) × (term t ≡ hole k)
    × (found (log_of bs) k ≡ Some (term u))
found_for_in_log bs t u e = elim (hole_for bs t u e) [
  | inl q ↦ (
    hole_of.Ty q.0,
    ap term q.1 ∙ term_var q.0,
    type_in_log bs (hole_of.Ty q.0) u
        (sym (found_for_var bs q.0) ∙ ap (found_for bs) (sym q.1) ∙ e),
  )
  | inr q ↦ (
    hole_of.Int q.0,
    ap term q.1 ∙ term_int_var q.0,
    type_in_log bs (hole_of.Int q.0) u
        (sym (found_for_int_var bs q.0) ∙ ap (found_for bs) (sym q.1) ∙ e),
  )
]

pub none_for : (bs : List Binding) (t : Ty) → found_for bs t ≡ None → IsOpenOrKnown bs t
none_for bs t e = record {
  var = λ n f. no_type_found bs n (sym (found_for_var bs n) ∙ ap (found_for bs) (sym f) ∙ e);
  int_var = λ n f. no_int_found bs n (sym (found_for_int_var bs n) ∙ ap (found_for bs) (sym f) ∙ e);
}
