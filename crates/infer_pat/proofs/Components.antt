-- What is known of the parts of a tuple pattern.
use Rattle.std.proofs.Common.{ℕ, ◌≡◌, refl, sym, ap, subst, ◌∙◌, ◌+◌, inl, inr, List, [], ◌∷◌, ◌++◌, length-append, slice_get, Option, Some, None, arith}
use Rattle.hir_types.specs.declared.head.HoleKind.TheVariants as kind
use Rattle.infer_pat.specs.Words.{AliasBound, GenericArg, TraitRef, Ty, Ty-F, out-Ty, roll-Ty, roll-out-Ty, out-roll-Ty, folded, Scope, resolution, IsOpenOrKnown, State, bindings, hole_count, resolved_type, with_new_hole, InferenceContext, IsSound, component, element_type}
use Rattle.hir_types.specs.declared.ty.Ty.TheVariants as ty
use Rattle.infer_pat.specs.Own.{AreTupleParts, IsComponentOf, IsGivenOrNew, after_all_given, after_given, given_types}
use Rattle.infer_pat.proofs.PatHoles.{no_part_yet, one_part_more, push_cases}

-- ---- a component
pub tuple_component : (r : Ty) (ts : List Ty) (i : ℕ) → r ≡ ty.Tuple ts → element_type (Some r) i ≡ slice_get ts i
tuple_component r ts i e = ap (λ u. component (out-Ty u) i) (e ∙ sym (ty.rolls-Tuple ts)) ∙ ap (λ x. component x i) (out-roll-Ty (Ty-F.Tuple ts))

other_layer : (r : Ty) (x : Ty-F GenericArg Ty AliasBound TraitRef) (i : ℕ) → r ≡ roll-Ty x → ((ts : List Ty) → r ≡ ty.Tuple ts → ⊥) → component x i ≡ None
other_layer r (Ty-F.Tuple ts) i e h = absurd (h ts (e ∙ ty.rolls-Tuple ts))
other_layer r x i e h = refl

pub other_component : (r : Ty) (i : ℕ) → ((ts : List Ty) → r ≡ ty.Tuple ts → ⊥) → element_type (Some r) i ≡ None
other_component r i h = other_layer r (out-Ty r) i (sym (roll-out-Ty r)) h

pub component_at : (s : State) (x : Option Ty) (t r : Ty) (i : ℕ) (k : Option Ty) → x ≡ Some t → resolved_type s r ≡ resolved_type s t → IsOpenOrKnown (bindings s) r
    → k ≡ element_type (Some r) i → IsComponentOf s x i k
component_at s x t r i k is same top known = subst (λ y. IsComponentOf s y i k) (sym is) (r, record { same = same; top = top }, known)

pub no_component : (s : State) (x : Option Ty) (i : ℕ) → x ≡ None → IsComponentOf s x i None
no_component s x i is = subst (λ y. IsComponentOf s y i None) (sym is) refl

-- it depends on bindings alone
component_alike : (s t : State) (x : Option Ty) (i : ℕ) (k : Option Ty) → bindings s ≡ bindings t → IsComponentOf s x i k → IsComponentOf t x i k
component_alike s t None i k e h = h
component_alike s t (Some u) i k e (r, top, known) = (
  r,
  record {
    same = subst (λ bs. folded (resolution bs) r ≡ folded (resolution bs) u) e top.same;
    top = subst (λ bs. IsOpenOrKnown bs r) e top.top;
  },
  known,
)

-- ---- one part more
bindings_given : (s : State) (k : Option Ty) → bindings (after_given s k) ≡ bindings s
bindings_given s None = refl
bindings_given s (Some t) = refl

bindings_all_given : (s : State) (ks : List (Option Ty)) → bindings (after_all_given s ks) ≡ bindings s
bindings_all_given s [] = refl
bindings_all_given s (k ∷ ks) = bindings_all_given (after_given s k) ks ∙ bindings_given s k

table_more : (s : State) (ks : List (Option Ty)) (k : Option Ty) → after_all_given s (ks ++ k ∷ []) ≡ after_given (after_all_given s ks) k
table_more s [] k = refl
table_more s (j ∷ ks) k = table_more (after_given s j) ks k

types_more : (s : State) (ks : List (Option Ty)) (k : Option Ty) → given_types s (ks ++ k ∷ []) ≡ given_types s ks ++ given_types (after_all_given s ks) (k ∷ [])
types_more s [] k = refl
types_more s (None ∷ ks) k = ap (λ us. ty.Var (hole_count s) ∷ us) (types_more (with_new_hole s kind.Ty) ks k)
types_more s (Some t ∷ ks) k = ap (λ us. t ∷ us) (types_more s ks k)

one_type : {sc : Scope} (s : State) (k : Option Ty) (t : Ty) (c new : InferenceContext) → c.goals.table ≡ s → IsGivenOrNew sc k t c new → t ∷ [] ≡ given_types s (k ∷ [])
one_type s None t c new is d = ap (λ u. u ∷ []) (d.new_hole refl ∙ ap (λ z. ty.Var (hole_count z)) is)
one_type s (Some u) t c new is d = ap (λ v. v ∷ []) (d.given u refl)

pub no_tuple_part : {sc : Scope} (x : Option Ty) (c : InferenceContext) → IsSound sc c → AreTupleParts sc x 0 [] c c
no_tuple_part x c s = record {
  made = no_part_yet c s;
  known = [];
  count_is = refl;
  each = λ i k at. absurd (cc);
  types = refl;
  table = refl;
}

pub tuple_part_more : {sc : Scope} (x : Option Ty) (n : ℕ) (ts : List Ty) (k : Option Ty) (t : Ty) (old c new : InferenceContext) → AreTupleParts sc x n ts old c
    → IsComponentOf c.goals.table x n k → IsGivenOrNew sc k t c new → AreTupleParts sc x (n + 1) (ts ++ t ∷ []) old new
tuple_part_more {sc} x n ts k t old c new h is d =
    let same : bindings c.goals.table ≡ bindings old.goals.table = ap (λ s. bindings s) h.table ∙ bindings_all_given old.goals.table h.known in
    let here : IsComponentOf old.goals.table x n k = component_alike c.goals.table old.goals.table x n k same is in
    record {
      made = one_part_more n ts k t old c new h.made d;
      known = h.known ++ k ∷ [];
      count_is = simp length-append (omega (arith, h.count_is));
      each = λ i j at.
          elim (push_cases h.known k i j at) [
            | inl q ↦ h.each i j q
            | inr q ↦ subst (λ m. IsComponentOf old.goals.table x m j) (sym (q.0 ∙ h.count_is)) (subst (λ m. IsComponentOf old.goals.table x n m) q.1 here)
          ];
      types = ap (λ us. us ++ t ∷ []) h.types
          ∙ (ap (λ us. given_types old.goals.table h.known ++ us) (one_type (after_all_given old.goals.table h.known) k t c new h.table d) ∙ sym (types_more old.goals.table h.known k));
      table = d.table ∙ (ap (λ s. after_given s k) h.table ∙ sym (table_more old.goals.table h.known k));
    }
