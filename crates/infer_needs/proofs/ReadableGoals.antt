-- Whether what an associated type is could have been read: what it reads as is one type.
use Rattle.std.specs.Prelude.{◌≡◌, ◌↔◌, ℕ, Bool, true, false, IsTrue, List, map, Option, Some, None, Result, Ok, Err, IfOk}
use Rattle.std.proofs.Common.{refl, sym, ap, ◌∙◌, subst, inl, inr, true≢false}
use Rattle.hir_types.specs.declared.goal.Goal.TheVariants as goal
use Rattle.hir_types.specs.declared.head.Head.TheVariants as head
use Rattle.hir_types.specs.declared.ty.Ty.TheVariants as ty
use Rattle.infer_needs.specs.Words.{TypeAliasId, GenericArg, TraitRef, out-TraitRef, Ty, hole, leaf, pair, chain, arg_term, term, term_projection, Scope, State, new_state, ReadsAs, Asked, System, implements, projects, args_of, answers, asked_goal, TypeReads, IsTypeRead, CannotHold, IsReadable, HasCause, IsInHand, CanStand, ReadsAsNone, HoldsUnknown}
use Rattle.infer_needs.proofs.Words.{answers_sound, reads_one, hand_same}
use Rattle.infer_needs.specs.Own.{IsKnownIf}

-- ---- a type

module _ (sc : Scope) (f : System) (n : ℕ) (t : Ty) where
  pub known_none : IsTypeRead f n t None → IsKnownIf sc f n t false
  known_none none = record { found = None; is = none; cannot = λ u same stands. absurd (cc) }

  known_by : (u : Ty) (state : State) (yes : Bool) → state ≡ new_state → IsTypeRead f n t (Some u) → (IsTrue yes ↔ IsInHand sc state u) → IsKnownIf sc f n t yes
  known_by u state true new read tells = (u, (read, subst (λ s. IsInHand sc s u) new (tells.0 refl)))
  known_by u state false new read tells = record {
    found = Some u;
    is = read;
    cannot = λ v same stands. (let one : u ≡ v = cc in true≢false (sym (tells.1 (subst (λ s. IsInHand sc s u) (sym new) (subst (CanStand sc) (sym one) stands)))));
  }

  pub known_if : {E : Type 0} (u : Ty) (state : State) → state ≡ new_state → IsTypeRead f n t (Some u) → (r : Result Bool E) → IfOk r (λ yes. IsTrue yes ↔ IsInHand sc state u) → IfOk r (λ yes. IsKnownIf sc f n t yes)
  known_if u state new read (Ok b) h = known_by u state b new read h
  known_if u state new read (Err e) h = tt

-- what reads as none that can stand there reads as no other that can
module _ (sc : Scope) (f : System) (n : ℕ) (t t' : Ty) (same : term t' ≡ term t) (v : Ty) (reads : TypeReads f n t' v) (stands : CanStand sc v) where
  reads_here : ReadsAs (answers f n).Alias (term t) (term v)
  reads_here = subst (λ w. ReadsAs (answers f n).Alias w (term v)) same reads

  none_by : (o : Option Ty) → IsTypeRead f n t o → ((u : Ty) → o ≡ Some u → CanStand sc u → ⊥) → ⊥
  none_by None none cannot = none v reads_here
  none_by (Some u) is cannot = cannot u refl (hand_same sc new_state v u (reads_one (answers f n).Alias (answers_sound f n).one hole (term t) (term v) (term u) reads_here is) stands)

  not_known : ReadsAsNone sc f n t → ⊥
  not_known h = none_by h.found h.is h.cannot

-- ---- a goal

-- one about a trait is about no associated type
pub trait_not_readable : (sc : Scope) (f : System) (n : ℕ) (r : TraitRef) → IsTrue false ↔ IsReadable sc f n (asked_goal (goal.Trait r))
trait_not_readable sc f n r = (
  λ e. absurd (true≢false (sym e)),
  λ h. absurd (let clash : projects h.alias ≡ implements (out-TraitRef r).id = ap (λ (x : Asked). x.kind) h.is in cc),
)

module _ (sc : Scope) (f : System) (n : ℕ) (k : TypeAliasId) (xs : List GenericArg) (t : Ty) where
  abbrev asks : Asked
  asks = asked_goal (goal.Projection k xs t)

  -- the associated type is one, at the same arguments
  same_alias : (h : IsReadable sc f n asks) → term (ty.Projection h.alias h.args) ≡ term (ty.Projection k xs)
  same_alias h =
      let kind : h.alias ≡ k = (let both : projects h.alias ≡ projects k = ap (λ (x : Asked). x.kind) h.is in cc) in
      let args : chain (map arg_term h.args) ≡ chain (map arg_term xs) = ap (λ (x : Asked). args_of x.parts) h.is in
      term_projection h.alias h.args ∙ (ap (λ (j : TypeAliasId). pair (leaf (head.Projection j)) (chain (map arg_term h.args))) kind
      ∙ (ap (λ w. pair (leaf (head.Projection k)) w) args ∙ sym (term_projection k xs)))

  -- where `{unknown}` stands in them
  pub unknown_not_readable : HoldsUnknown (chain (map arg_term xs)) → IsTrue false ↔ IsReadable sc f n asks
  unknown_not_readable holds = (λ e. absurd (true≢false (sym e)), λ h. absurd (h.known holds))

  by_known : (yes : Bool) → (HoldsUnknown (chain (map arg_term xs)) → ⊥) → IsKnownIf sc f n (ty.Projection k xs) yes → IsTrue yes ↔ IsReadable sc f n asks
  by_known true known reads = (λ e. record { alias = k; args = xs; type = t; is = refl; known = known; read = reads.0; reads = reads.1 }, λ h. refl)
  by_known false known none = (
    λ e. absurd (true≢false (sym e)),
    λ h. absurd (not_known sc f n (ty.Projection k xs) (ty.Projection h.alias h.args) (same_alias h) h.read h.reads.0 h.reads.1 none),
  )

  -- and else
  pub readable_if : {E : Type 0} → (HoldsUnknown (chain (map arg_term xs)) → ⊥) → (r : Result Bool E) → IfOk r (λ yes. IsKnownIf sc f n (ty.Projection k xs) yes) → IfOk r (λ yes. IsTrue yes ↔ IsReadable sc f n asks)
  readable_if known (Ok b) h = by_known b known h
  readable_if known (Err e) h = tt

-- ---- of which there is something to say

pub no_cause : (sc : Scope) (f : System) (n : ℕ) (a : Asked) → (CannotHold f n a → ⊥) → (IsReadable sc f n a → ⊥) → HasCause sc f n a → ⊥
no_cause sc f n a may unread (inl h) = may h
no_cause sc f n a may unread (inr h) = unread h
