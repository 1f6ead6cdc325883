-- A place that one entry names.
use Rattle.std.proofs.Common.{◌≡◌, ◌<◌, ℕ, List, length, get_or, Option, Some, sym, ◌∙◌}
use Rattle.std.proofs.lemmas.List.{get_or_read_under}
use Rattle.std.proofs.lemmas.Option.{slice_get_within}
use Rattle.hir_ids.specs.Own.{Namers, IsNamedBy, AreNamers, IsOne}
use Rattle.hir_ids.specs.declared.namers.Namers.TheVariants.{Nobody, One, Several}
use Rattle.hir_ids.specs.Words.{NamedOnce}

pub once_from_one : (targets : List (Option ℕ)) (t : ℕ) (x : Namers) → IsNamedBy targets (length targets) t x → IsOne x → NamedOnce targets t
once_from_one targets t Nobody named one = absurd one
once_from_one targets t (One k) named one = record { entry = k; names = named.1; only = λ j h. named.2 j (slice_get_within targets j (Some t) h) h }
once_from_one targets t Several named one = absurd one

pub one_from_once : (targets : List (Option ℕ)) (t : ℕ) (x : Namers) → IsNamedBy targets (length targets) t x → NamedOnce targets t → IsOne x
one_from_once targets t Nobody named once = absurd (named once.entry (slice_get_within targets once.entry (Some t) once.names) once.names)
one_from_once targets t (One k) named once = tt
one_from_once targets t Several named once = absurd (named.4 (once.only named.0 named.2 ∙ sym (once.only named.1 named.3)))

-- who is found at place i
pub named_at : (targets : List (Option ℕ)) (count : ℕ) (xs : List Namers) (i : ℕ) (x : Namers) → AreNamers targets (length targets) count xs → i < count → x ≡ get_or xs i x → IsNamedBy targets (length targets) i x
named_at targets count xs i x names lt is =
    let read : x ≡ get_or xs i Nobody = get_or_read_under xs i count x Nobody is lt (sym names.size) in
    rw read (names.each i lt)
