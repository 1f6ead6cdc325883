-- What stays open where a tree grows, and that an obligation has one source.
use Rattle.std.proofs.Common.{◌≡◌, inl, inr, ℕ, ◌<◌, ◌≤◌, length, sym, ap, ◌∙◌, subst, arith, length-append}
use Rattle.std.specs.Prelude.{Some, slice_get}
use Rattle.std.proofs.lemmas.Option.{same_Some, slice_get_within}
use Rattle.infer_goals.specs.Words.{Proof, ProofSource, Obligation, Standing, GoalTree, IsOpenAt, IsTree, IsLater}
use Rattle.goal_tree.specs.declared.obligation.Standing.TheVariants as standing
use Rattle.goal_tree.specs.Trees.{HasSource}
use Rattle.infer_goals.proofs.Words.{get_left as front_get, open_selected, open_proved, selected_proved, same_standing}
use Rattle.infer_goals.proofs.Lists.{get_within}

-- ---- obligations

pub later_get : (t u : GoalTree) → IsLater t u → (i : ℕ) (x : Obligation) → slice_get t.obligations.items i ≡ Some x → slice_get u.obligations.items i ≡ Some x
later_get t u later i x e = subst (λ os. slice_get os i ≡ Some x) (sym later.obligations.1) (front_get t.obligations.items later.obligations.0 i x e)

pub later_long : (t u : GoalTree) → IsLater t u → length t.obligations.items ≤ length u.obligations.items
later_long t u later = let e = ap length later.obligations.1 in omega (arith, length-append t.obligations.items later.obligations.0)

-- ---- what is open

pub open_within : (t : GoalTree) (i : ℕ) → IsTree t → IsOpenAt t.standings.items i → i < length t.obligations.items
open_within t i tree e = subst (λ n. i < n) tree.as_many (slice_get_within t.standings.items i standing.Open e)

open_source : (u : GoalTree) (i m n : ℕ) (src : ProofSource) → HasSource u i src m n → IsOpenAt u.standings.items i → ⊥
open_source u i m n src (inl h) e = open_selected src m n (same_standing u.standings.items i standing.Open (standing.Selected src m n) e h)
open_source u i m n src (inr h) e = open_proved h.number m n (same_standing u.standings.items i standing.Open (standing.Proved h.number m n) e h.proved)

stood_open : (t u : GoalTree) → IsLater t u → (i : ℕ) (s : Standing) → slice_get t.standings.items i ≡ Some s → IsOpenAt u.standings.items i → IsOpenAt t.standings.items i
stood_open t u later i standing.Open e now = e
stood_open t u later i (standing.Selected src m n) e now = absurd (open_source u i m n src (later.sources i m n src (inl e)) now)
stood_open t u later i (standing.Proved k m n) e now = absurd (open_proved k m n (same_standing u.standings.items i standing.Open (standing.Proved k m n) now (later.proved i k m n e)))

-- what is open now was open, if it was there
pub open_before : (t u : GoalTree) → IsTree t → IsLater t u → (i : ℕ) → i < length t.obligations.items → IsOpenAt u.standings.items i → IsOpenAt t.standings.items i
open_before t u tree later i within now =
    let there = get_within t.standings.items i (let many = tree.as_many in omega arith) in
    stood_open t u later i there.0 there.1 now

-- ---- sources

-- a source with what it asks for
pub record AreOne (src : ProofSource) (m n : ℕ) (src' : ProofSource) (m' n' : ℕ) : Type 0 where
  pub source : src ≡ src'
  pub first : m ≡ m'
  pub count : n ≡ n'

selected_one : (src src' : ProofSource) (m n m' n' : ℕ) → standing.Selected src m n ≡ standing.Selected src' m' n' → AreOne src m n src' m' n'
selected_one src src' m n m' n' e = record { source = cc; first = cc; count = cc }

pub source_one : (t : GoalTree) (i m n m' n' : ℕ) (src src' : ProofSource) → HasSource t i src m n → HasSource t i src' m' n' → AreOne src m n src' m' n'
source_one t i m n m' n' src src' (inl a) (inl b) = selected_one src src' m n m' n' (same_standing t.standings.items i (standing.Selected src m n) (standing.Selected src' m' n') a b)
source_one t i m n m' n' src src' (inl a) (inr b) = absurd (selected_proved src m n b.number m' n' (same_standing t.standings.items i (standing.Selected src m n) (standing.Proved b.number m' n') a b.proved))
source_one t i m n m' n' src src' (inr a) (inl b) = absurd (selected_proved src' m' n' a.number m n (same_standing t.standings.items i (standing.Selected src' m' n') (standing.Proved a.number m n) b a.proved))
source_one t i m n m' n' src src' (inr a) (inr b) =
    let e : standing.Proved a.number m n ≡ standing.Proved b.number m' n' = same_standing t.standings.items i (standing.Proved a.number m n) (standing.Proved b.number m' n') a.proved b.proved in
    let number : a.number ≡ b.number = cc in
    let proof : a.proof ≡ b.proof = same_Some a.proof b.proof (sym a.at ∙ (ap (λ k. slice_get t.proofs.items k) number ∙ b.at)) in
    record {
      source = sym a.source ∙ (ap (λ (p : Proof). p.source) proof ∙ b.source);
      first = cc;
      count = cc;
    }
