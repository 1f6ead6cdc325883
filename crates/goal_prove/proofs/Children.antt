-- Proofs that are added since others ask for them.
use Rattle.std.specs.Prelude.{◌≡◌, ◌+◌, ℕ, List, [], ◌∷◌, ◌++◌, length, slice_get, Some}
use Rattle.std.proofs.Common.{inl, inr, refl, sym, ap, ◌∙◌, subst, arith, length-append}
use Rattle.std.proofs.lemmas.Bool.{cases_lt}
use Rattle.goal_prove.specs.Words.{IsFront, Proof}
use Rattle.goal_prove.proofs.Words.{get_left, get_last}
use Rattle.goal_prove.specs.Own.{IsNamed, IsChild, AddsChildrenBut, AddsOneRoot}

-- ---- numbers that are named

pub named_before : (ks : List ℕ) (j k : ℕ) → IsNamed ks k → IsNamed (ks ++ j ∷ []) k
named_before ks j k h = (h.0, get_left ks (j ∷ []) h.0 k h.1)

pub named_last : (ks : List ℕ) (j k : ℕ) → Some j ≡ Some k → IsNamed (ks ++ j ∷ []) k
named_last ks j k e = (length ks, get_last ks j ∙ e)

-- ---- what is asked for

pub child_later : (ps qs : List Proof) → IsFront ps qs → (k : ℕ) → IsChild ps k → IsChild qs k
child_later ps qs front k h = record {
  parent = h.parent;
  behind = h.behind;
  proof = h.proof;
  at = subst (λ zs. slice_get zs h.parent ≡ Some h.proof) (sym front.1) (get_left ps front.0 h.parent h.proof h.at);
  named = h.named;
}

pub children_none : (R : ℕ → Type 0) (ps : List Proof) → AddsChildrenBut R ps ps
children_none R ps k from to = absurd (omega (arith, from, to))

pub children_then : (R S T : ℕ → Type 0) (ps qs rs : List Proof) → IsFront qs rs → ((k : ℕ) → R k → T k) → ((k : ℕ) → S k → T k) → AddsChildrenBut R ps qs → AddsChildrenBut S qs rs → AddsChildrenBut T ps rs
children_then R S T ps qs rs front first last before now k from to = elim (cases_lt k (length qs)) [
  | inl less ↦ elim (before k from less) [
    | inl h ↦ inl (child_later qs rs front k h)
    | inr h ↦ inr (first k h)
  ]
  | inr more ↦ elim (now k more to) [
    | inl h ↦ inl h
    | inr h ↦ inr (last k h)
  ]
]

-- the proof at the end asks for those that nothing asked for
pub children_last : (ps qs : List Proof) (x : Proof) → AddsChildrenBut (IsNamed x.children) ps qs → AddsOneRoot (Some (length qs)) ps (qs ++ x ∷ [])
children_last ps qs x before k from to = elim (cases_lt k (length qs)) [
  | inl less ↦ elim (before k from less) [
    | inl h ↦ inl (child_later qs (qs ++ x ∷ []) (x ∷ [], refl) k h)
    | inr h ↦ inl (record { parent = length qs; behind = less; proof = x; at = get_last qs x; named = h })
  ]
  | inr more ↦ (let long : length (qs ++ x ∷ []) ≡ length qs + 1 = length-append qs (x ∷ []) in let end : length qs ≡ k = omega (arith, more, to, long) in inr (ap Some end))
]
