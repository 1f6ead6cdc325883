-- What is read of a type that is resolved at its top, and what is expected of parts.
use Rattle.std.proofs.Common.{◌≡◌, refl, sym, ap, ◌∙◌, inl, inr, ℕ, List, [], ◌∷◌, Option, Some, None}
use Rattle.infer_ctx.specs.Words.{folded, const_folded, with_holes, Replacement, replacing, at_ty, replaced_array, replaced_var, replaced_int_var, replaced_param, in_ty, Maps, AliasBound, Const, GenericArg, TraitRef, Ty, Ty-F, out-Ty, roll-Ty, roll-out-Ty, out-roll-Ty, resolution, IsOpenOrKnown, open_var, open_int_var, State, bindings, resolved_type, Binding, ExprId, Schedule, Given}
use Rattle.hir_types.specs.declared.ty.Ty.TheVariants as ty
use Rattle.infer_ctx.specs.Own.{InferenceContext, expected_under, found_under, KindDone, Within, PaidBy, IsLess, unless_open, unless_empty, of_alternatives, of_arms}
use Rattle.infer_ctx.proofs.Category.{walks_paid}

abbrev Layer : Type 0
Layer = Ty-F GenericArg Ty AliasBound TraitRef

-- what is read of a type's outermost layer alone, and not of its parts
pub record IsOfLayer {X : Type 0} (f : Layer → X) : Type 0 where
  pub kept : (m : Maps GenericArg Ty AliasBound TraitRef) (x : Layer) → f (in_ty m x) ≡ f x
  pub arrays : (t u : Ty) (c d : Const) → f (Ty-F.Array t c) ≡ f (Ty-F.Array u d)

module _ {X : Type 0} (f : Layer → X) (of_layer : IsOfLayer f) (bs : List Binding) where
  abbrev put_in : Replacement
  put_in = with_holes (resolution bs)

  open_at : (t u : Ty) (x : Layer) → t ≡ u → u ≡ roll-Ty x → folded (resolution bs) u ≡ u → f (out-Ty (folded (resolution bs) t)) ≡ f x
  open_at t u x is rolled itself =
      ap (λ v. f (out-Ty (folded (resolution bs) v))) is
      ∙ (ap (λ v. f (out-Ty v)) (itself ∙ rolled) ∙ ap f (out-roll-Ty x))

  by_layer : (t : Ty) (x : Layer) → t ≡ roll-Ty x → IsOpenOrKnown bs t → f (out-Ty (folded (resolution bs) t)) ≡ f x
  by_layer t (Ty-F.Var n) e h =
      let k : t ≡ ty.Var n = e ∙ ty.rolls-Var n in
      open_at t (ty.Var n) (Ty-F.Var n) k (sym (ty.rolls-Var n)) (replaced_var put_in n ∙ open_var bs n (h.var n k))
  by_layer t (Ty-F.IntVar n) e h =
      let k : t ≡ ty.IntVar n = e ∙ ty.rolls-IntVar n in
      open_at t (ty.IntVar n) (Ty-F.IntVar n) k (sym (ty.rolls-IntVar n)) (replaced_int_var put_in n ∙ open_int_var bs n (h.int_var n k))
  by_layer t (Ty-F.Param n) e h =
      open_at t (ty.Param n) (Ty-F.Param n) (e ∙ ty.rolls-Param n) (sym (ty.rolls-Param n)) (replaced_param put_in n)
  by_layer t (Ty-F.Array u k) e h =
      let a : Ty = folded (resolution bs) u in
      let c : Const = const_folded (resolution bs) k in
      ap (λ v. f (out-Ty (folded (resolution bs) v))) (e ∙ ty.rolls-Array u k)
      ∙ (ap (λ v. f (out-Ty v)) (replaced_array put_in u k ∙ sym (ty.rolls-Array a c)) ∙ (ap f (out-roll-Ty (Ty-F.Array a c)) ∙ of_layer.arrays a u c k))
  by_layer t x e h =
      ap (λ v. f (out-Ty (folded (resolution bs) v))) e
      ∙ (ap (λ v. f (out-Ty v)) (at_ty put_in x) ∙ (ap f (out-roll-Ty (in_ty (replacing put_in) x)) ∙ of_layer.kept (replacing put_in) x))

-- of a type and of what it is at the top the same is read, once resolved
pub read_alike : {X : Type 0} (f : Layer → X) → IsOfLayer f → (s : State) (t r : Ty) → resolved_type s r ≡ resolved_type s t → IsOpenOrKnown (bindings s) r
    → f (out-Ty (resolved_type s t)) ≡ f (out-Ty r)
read_alike f of_layer s t r same open_or_known =
    ap (λ v. f (out-Ty v)) (sym same) ∙ by_layer f of_layer (bindings s) r (out-Ty r) (sym (roll-out-Ty r)) open_or_known

-- ---- alternatives
open_kept : (t : Ty) (m : Maps GenericArg Ty AliasBound TraitRef) (x : Layer) → unless_open t (in_ty m x) ≡ unless_open t x
open_kept t m (Ty-F.Var n) = refl
open_kept t m x = refl

unless_open_of_layer : (t : Ty) → IsOfLayer (unless_open t)
unless_open_of_layer t = record { kept = open_kept t; arrays = λ a b c d. refl }

empty_kept : (t : Ty) (m : Maps GenericArg Ty AliasBound TraitRef) (x : Layer) → unless_empty t (in_ty m x) ≡ unless_empty t x
empty_kept t m (Ty-F.Tuple []) = refl
empty_kept t m (Ty-F.Tuple (y ∷ ys)) = refl
empty_kept t m x = refl

unless_empty_of_layer : (t : Ty) → IsOfLayer (unless_empty t)
unless_empty_of_layer t = record { kept = empty_kept t; arrays = λ a b c d. refl }

pub of_alternatives_at : (s : State) (t r : Ty) → resolved_type s r ≡ resolved_type s t → IsOpenOrKnown (bindings s) r → of_alternatives s (Some t) ≡ unless_open t (out-Ty r)
of_alternatives_at s t r same open_or_known = read_alike (unless_open t) (unless_open_of_layer t) s t r same open_or_known

pub of_arms_at : (s : State) (t r : Ty) → resolved_type s r ≡ resolved_type s t → IsOpenOrKnown (bindings s) r → of_arms s (Some t) ≡ unless_empty t (out-Ty r)
of_arms_at s t r same open_or_known = read_alike (unless_empty t) (unless_empty_of_layer t) s t r same open_or_known

-- by the type that it is at the top
pub unless_open_var : (t r : Ty) (n : ℕ) → r ≡ ty.Var n → unless_open t (out-Ty r) ≡ None
unless_open_var t r n e = ap (λ u. unless_open t (out-Ty u)) (e ∙ sym (ty.rolls-Var n)) ∙ ap (unless_open t) (out-roll-Ty (Ty-F.Var n))

known_by_layer : (t r : Ty) (x : Layer) → r ≡ roll-Ty x → ((n : ℕ) → r ≡ ty.Var n → ⊥) → unless_open t x ≡ Some t
known_by_layer t r (Ty-F.Var n) e h = absurd (h n (e ∙ ty.rolls-Var n))
known_by_layer t r x e h = refl

pub unless_open_known : (t r : Ty) → ((n : ℕ) → r ≡ ty.Var n → ⊥) → unless_open t (out-Ty r) ≡ Some t
unless_open_known t r h = known_by_layer t r (out-Ty r) (sym (roll-out-Ty r)) h

not_empty : (t : Ty) (ts : List Ty) → (ts ≡ [] → ⊥) → unless_empty t (Ty-F.Tuple ts) ≡ Some t
not_empty t [] h = absurd (h refl)
not_empty t (y ∷ ys) h = refl

pub unless_empty_tuple : (t r : Ty) (ts : List Ty) → r ≡ ty.Tuple ts → (ts ≡ [] → ⊥) → unless_empty t (out-Ty r) ≡ Some t
unless_empty_tuple t r ts e h =
    ap (λ u. unless_empty t (out-Ty u)) (e ∙ sym (ty.rolls-Tuple ts)) ∙ (ap (unless_empty t) (out-roll-Ty (Ty-F.Tuple ts)) ∙ not_empty t ts h)

other_by_layer : (t r : Ty) (x : Layer) → r ≡ roll-Ty x → ((ts : List Ty) → r ≡ ty.Tuple ts → ⊥) → unless_empty t x ≡ Some t
other_by_layer t r (Ty-F.Tuple ts) e h = absurd (h ts (e ∙ ty.rolls-Tuple ts))
other_by_layer t r x e h = refl

pub unless_empty_other : (t r : Ty) → ((ts : List Ty) → r ≡ ty.Tuple ts → ⊥) → unless_empty t (out-Ty r) ≡ Some t
unless_empty_other t r h = other_by_layer t r (out-Ty r) (sym (roll-out-Ty r)) h

-- it is what is expected of the node, or nothing
open_less : (t : Ty) (x : Layer) → IsLess (Some t) (unless_open t x)
open_less t (Ty-F.Var n) = inr refl
open_less t x = inl refl

empty_less : (t : Ty) (x : Layer) → IsLess (Some t) (unless_empty t x)
empty_less t (Ty-F.Tuple []) = inr refl
empty_less t (Ty-F.Tuple (y ∷ ys)) = inl refl
empty_less t x = inl refl

pub alternatives_less : (s : State) (x : Option Ty) → IsLess x (of_alternatives s x)
alternatives_less s None = inl refl
alternatives_less s (Some t) = open_less t (out-Ty (resolved_type s t))

pub arms_less : (s : State) (x : Option Ty) → IsLess x (of_arms s x)
arms_less s None = inl refl
arms_less s (Some t) = empty_less t (out-Ty (resolved_type s t))

-- ---- a node of which nothing need be expected
pub within_for_any : (g : Given) (s : Schedule) (n : ExprId) (x : Option Ty) (c : InferenceContext) → Within g s n x c → Within g s n None c
within_for_any g s n x c h = record { ready = h.ready; state = h.state; within = h.within; clock = h.clock; expected = tt }

-- what is owed where nothing is expected is owed in any case
pub kind_for_any : (g : Given) (s : Schedule) (n : ExprId) (x : Option Ty) (t : Ty) (old new : InferenceContext) →
    KindDone g s n None t old new → KindDone g s n x t old new
kind_for_any g s n x t old new k = record {
  follows = k.follows;
  fine = k.fine;
  tells = k.tells;
  each = λ a q.
      let w = k.each a q in
      record {
        walks = walks_paid g s (PaidBy g n None (folded a t)) (PaidBy g n (expected_under a x) (folded a t)) (found_under a old) (found_under a new)
            (λ e m o. inr (elim o [ inl y ↦ inl y | inr y ↦ absurd y ])) w.walks;
        clock = w.clock;
        carried = w.carried;
        rule = w.rule;
      };
}
