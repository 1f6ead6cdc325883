-- Pairs that wait and become known, taken off one after the other.
use Rattle.std.proofs.Common.{ℕ, ◌≡◌, ◌≤◌, ◌+◌, ◌++◌, ◌∷◌, [], sym, subst, ap, ◌∙◌, arith, true, false, List, length, length-append}
use Rattle.infer_coerce.specs.Words.{State, AllUnknown, Waiting, waiting, WaitingPair, IsOfBody, Given, InferenceContext, IsSound, OnlyBinds}
use Rattle.infer_coerce.proofs.Words.{waiting_count}
use Rattle.infer_coerce.specs.Own.{UnifiesFirst, UnifiesKnown, UnifiesNext}
use Rattle.infer_coerce.proofs.Unified.{binds_nothing, binds_twice}

-- so many of the pairs were taken
pub record KnownSoFar (g : Given) (n : ℕ) (old c : InferenceContext) : Type 0 where
  pub binds : OnlyBinds g old c
  pub left : length (waiting c.goals.table.pairs) + n ≤ length old.goals.table.pairs.made

one_less : (xs ys zs ws : List WaitingPair) (p : WaitingPair) → ws ≡ xs ++ p ∷ ys → zs ≡ xs ++ ys → length ws ≡ length zs + 1
one_less xs ys zs ws p was is =
    let before : length ws ≡ length xs + (length ys + 1) = ap (λ (us : List WaitingPair). length us) was ∙ simp length-append (omega arith) in
    let after : length zs ≡ length xs + length ys = ap (λ (us : List WaitingPair). length us) is ∙ simp length-append in
    omega arith

none_left : (s : State) (ps : List WaitingPair) → length ps ≤ 0 → AllUnknown s ps
none_left s [] h = tt
none_left s (p ∷ ps) h = absurd (omega arith)

module _ (g : Given) (old : InferenceContext) where
  pub begins_known : IsOfBody g.body old.result → IsSound g.scope old → KnownSoFar g 0 old old
  begins_known h s = record { binds = binds_nothing g old h s; left = omega (arith, waiting_count old.goals.table.pairs) }

  module _ (n : ℕ) (c : InferenceContext) (h : KnownSoFar g n old c) where
    pub goes_past_known : (next : InferenceContext) → UnifiesFirst g c next → KnownSoFar g (n + 1) old next
    goes_past_known next u =
        let is : waiting next.goals.table.pairs ≡ u.takes.ahead ++ u.takes.rest = ap (λ (w : Waiting). waiting w) u.others ∙ u.takes.is in
        let one = one_less u.takes.ahead u.takes.rest (waiting next.goals.table.pairs) (waiting c.goals.table.pairs) u.pair u.takes.was is in
        record { binds = binds_twice g old c next h.binds u.binds; left = omega (arith, one, h.left) }

    -- there is none any more
    pub no_known : (next : InferenceContext) → UnifiesNext false g c next → UnifiesKnown g old next
    no_known next u = subst (λ k. UnifiesKnown g old k) (sym u.1) (record { binds = h.binds; none = u.0 })

    -- all were taken
    pub ends_known : length old.goals.table.pairs.made ≤ n → UnifiesKnown g old c
    ends_known over = record {
      binds = h.binds;
      none = none_left c.goals.table (waiting c.goals.table.pairs) (omega (arith, h.left, over));
    }
