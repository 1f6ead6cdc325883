-- The goals of associated types, one after another.
use Rattle.std.specs.Prelude.{◌≡◌, ◌<◌, ◌≤◌, ℕ, suc, ◌+◌, List, ◌++◌, length, get_or, drop, slice_get}
use Rattle.std.proofs.Common.{arith, ap, sym, ◌∙◌, append_assoc, append-nil}
use Rattle.std.proofs.lemmas.List.{drop_more, drop_all}
use Rattle.infer_result.specs.Words.{GenericArg, RawFacts, Asked}
use Rattle.infer_result.specs.Own.{alias_goals_by, alias_goals_from}

module _ (raw : RawFacts) (xs : List GenericArg) (n : ℕ) (ks : List ℕ) (all : List Asked) where
  -- these, and those from place i on, are all
  abbrev pub AreUpTo : List Asked → ℕ → Type 0
  AreUpTo gs i = gs ++ alias_goals_from raw xs (n + i) (drop i ks) ≡ all

  next_place : (i : ℕ) → n + (i + 1) ≡ suc (n + i)
  next_place i = omega arith

  pub up_to_next : (gs more : List Asked) (i d : ℕ) → i < length ks → more ≡ gs ++ alias_goals_by raw xs (n + i) (slice_get raw.types (get_or ks i d)) → AreUpTo gs i → AreUpTo more (i + 1)
  up_to_next gs more i d lt is h =
      let here : List Asked = alias_goals_by raw xs (n + i) (slice_get raw.types (get_or ks i d)) in
      let rest : List Asked = alias_goals_from raw xs (suc (n + i)) (drop (i + 1) ks) in
      ap (λ m. more ++ alias_goals_from raw xs m (drop (i + 1) ks)) (next_place i)
      ∙ (ap (λ l. l ++ rest) is
      ∙ (append_assoc gs here rest
      ∙ (sym (ap (λ js. gs ++ alias_goals_from raw xs (n + i) js) (drop_more ks i d lt)) ∙ h)))

  pub up_to_end : (gs : List Asked) (i : ℕ) → length ks ≤ i → AreUpTo gs i → gs ≡ all
  up_to_end gs i le h = sym (append-nil gs) ∙ (sym (ap (λ js. gs ++ alias_goals_from raw xs (n + i) js) (drop_all i ks le)) ∙ h)

  none_passed : n + 0 ≡ n
  none_passed = omega arith

  pub up_to_start : (gs : List Asked) → gs ++ alias_goals_from raw xs n ks ≡ all → AreUpTo gs 0
  up_to_start gs h = ap (λ m. gs ++ alias_goals_from raw xs m ks) none_passed ∙ h
