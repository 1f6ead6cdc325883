-- Which entries of a list name a place.
use Rattle.std.proofs.Common.{◌≡◌, inl, inr, ◌<◌, ◌+◌, ℕ, List, length, get_or, Option, Some, None, refl, sym, ◌∙◌, ap, arith, replicate}
use Rattle.std.specs.Prelude.{slice_get, slice_set}
use Rattle.std.proofs.lemmas.List.{get_or-set_same, get_or-set_other, length-set, length-replicate, get_or-replicate}
use Rattle.std.proofs.lemmas.Bool.Decides.{eqb_tells}
use Rattle.std.proofs.lemmas.Option.{slice_get_read, slice_get-get_or}
use Rattle.std.proofs.Math.Nat.{eq-or-lt_of_le}
use Rattle.hir_ids.specs.Own.{Namers, and_one, IsNamedBy, AreNamers}
use Rattle.hir_ids.specs.declared.namers.Namers.TheVariants.{Nobody, One, Several}
use Rattle.hir_ids.specs.Words.{IsNamedAt}

-- entry n names t too
named_again : (targets : List (Option ℕ)) (n t : ℕ) (x : Namers) → IsNamedAt targets t n → IsNamedBy targets n t x → IsNamedBy targets (n + 1) t (and_one x n)
named_again targets n t Nobody here h = (omega arith, here, λ j lt p. elim (eq-or-lt_of_le {n = j} {m = n} (omega arith)) [ inl e ↦ e | inr l ↦ absurd (h j l p) ])
named_again targets n t (One k) here h = (k, n, h.1, here, λ e. (let lt : k < n = h.0 in omega arith))
named_again targets n t Several here h = h

-- entry n does not name t
named_same : (targets : List (Option ℕ)) (n t : ℕ) (x : Namers) → (IsNamedAt targets t n → ⊥) → IsNamedBy targets n t x → IsNamedBy targets (n + 1) t x
named_same targets n t Nobody other h = λ j lt p. elim (eq-or-lt_of_le {n = j} {m = n} (omega arith)) [ inl e ↦ other (rw e at p) | inr l ↦ h j l p ]
named_same targets n t (One k) other h = (let lt : k < n = h.0 in omega arith, h.1, λ j lt p. elim (eq-or-lt_of_le {n = j} {m = n} (omega arith)) [ inl e ↦ absurd (other (rw e at p)) | inr l ↦ h.2 j l p ])
named_same targets n t Several other h = h

pub namers_none : (targets : List (Option ℕ)) (count : ℕ) (xs : List Namers) → xs ≡ replicate count Nobody → AreNamers targets 0 count xs
namers_none targets count xs e = record {
  size = rw e (length-replicate count Nobody);
  each = λ t lt. rw (e, get_or-replicate count t Nobody Nobody lt) (λ k below p. omega arith);
}

pub namers_kept : (targets : List (Option ℕ)) (n count : ℕ) (xs : List Namers) → AreNamers targets n count xs → n < length targets → get_or targets n None ≡ None → AreNamers targets (n + 1) count xs
namers_kept targets n count xs h lt is = record {
  size = h.size;
  each = λ t below. named_same targets n t (get_or xs t Nobody) (λ p. (let here : slice_get targets n ≡ Some None = slice_get_read targets (length targets) n None refl lt (sym is) in cc)) (h.each t below);
}

named_here : (targets : List (Option ℕ)) (n place : ℕ) → n < length targets → get_or targets n None ≡ Some place → slice_get targets n ≡ Some (Some place)
named_here targets n place lt was = slice_get-get_or targets n None lt ∙ ap (λ (o : Option ℕ). Some o) was

pub namers_more : (targets : List (Option ℕ)) (n count place : ℕ) (xs ys : List Namers) → AreNamers targets n count xs → n < length targets → get_or targets n None ≡ Some place → ys ≡ slice_set xs place (and_one (get_or xs place Nobody) n) → AreNamers targets (n + 1) count ys
namers_more targets n count place xs ys h inside was is =
    let here : slice_get targets n ≡ Some (Some place) = named_here targets n place inside was in
    record {
      size = rw (is, length-set xs place (and_one (get_or xs place Nobody) n)) h.size;
      each = λ t below. rw is (elim (eqb_tells t place) [
        | inl e ↦ (let lt : place < count = rw e.1 at below in
            let within : place < length xs = rw h.size lt in
            rw (e.1, get_or-set_same xs place (and_one (get_or xs place Nobody) n) Nobody within) (named_again targets n place (get_or xs place Nobody) here (h.each place lt)))
        | inr e ↦ rw (get_or-set_other xs place t (and_one (get_or xs place Nobody) n) Nobody e.1) (named_same targets n t (get_or xs t Nobody) (λ p. e.1 (let q : Some (Some t) ≡ Some (Some place) = sym p ∙ here in cc)) (h.each t below))
      ]);
    }
