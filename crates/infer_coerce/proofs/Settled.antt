-- Types that are the same from here on, or differ.
use Rattle.std.proofs.Common.{ℕ, ◌≡◌, ◌⊎◌, ◌<◌, ◌≤◌, ◌+◌, inl, inr, refl, sym, subst, ◌∙◌, arith, Bool, List, length, slice_get, Some}
use Rattle.std.proofs.lemmas.Option.{slice_get_within}
use Rattle.infer_coerce.specs.Words.{Ty, IsOfBody, Given, InferenceContext, IsSound, AllFine, IsFine, Follows, OnlyBinds}
use Rattle.infer_coerce.proofs.Words.{closes_before, all_fine_grown, every_at}
use Rattle.infer_coerce.specs.Own.{SameOrDiffer, IsUnifiedIf, UnifiesAll}
use Rattle.infer_coerce.proofs.Unified.{binds_nothing, binds_twice, settled_by}

-- they are, or do, once more is found out
pub settled_later : (g : Given) (x y : InferenceContext) (t u : Ty) → Follows g x y → SameOrDiffer x t u → SameOrDiffer y t u
settled_later g x y t u f (inl same) = inl (λ a q. same a (closes_before g a x y f q))
settled_later g x y t u f (inr apart) = inr (λ a q. apart a (closes_before g a x y f q))

-- ---- types made equal one after the other

-- each of the first n of these types and its one of the others are the same from here on, or differ
abbrev pub EachSameOrDiffer : ℕ → List Ty → List Ty → InferenceContext → Type 0
EachSameOrDiffer n ts us c = (i : ℕ) (t u : Ty) → i < n → slice_get ts i ≡ Some t → slice_get us i ≡ Some u → SameOrDiffer c t u

-- the first i of the types are settled
pub record AtUnify (g : Given) (ts us : List Ty) (i : ℕ) (old c : InferenceContext) : Type 0 where
  pub binds : OnlyBinds g old c
  pub settled : EachSameOrDiffer i ts us c

pub begins_unify : (g : Given) (ts us : List Ty) (c : InferenceContext) → IsOfBody g.body c.result → IsSound g.scope c → AtUnify g ts us 0 c c
begins_unify g ts us c h s = record { binds = binds_nothing g c h s; settled = λ i t u lt at there. absurd (omega arith) }

-- what was fine is still fine
pub still : (g : Given) (ts : List Ty) (old c : InferenceContext) → OnlyBinds g old c → AllFine g.scope old.goals.table ts → AllFine g.scope c.goals.table ts
still g ts old c o fine = all_fine_grown g.scope old.goals.table c.goals.table ts o.follows.grew fine

pub still_fine : (g : Given) (ts : List Ty) (old c : InferenceContext) (i : ℕ) (t : Ty) → OnlyBinds g old c → AllFine g.scope old.goals.table ts → slice_get ts i ≡ Some t
    → IsFine g.scope c.goals.table t
still_fine g ts old c i t o fine at = every_at (IsFine g.scope c.goals.table) ts i t (still g ts old c o fine) at

pub earlier_or_here : (i n : ℕ) → i < n + 1 → (i < n) ⊎ (i ≡ n)
earlier_or_here i n lt = grind arith

pub goes_past_unify : (g : Given) (ts us : List Ty) (n : ℕ) (old c next : InferenceContext) (same : Bool) (t u : Ty) → AtUnify g ts us n old c
    → slice_get ts n ≡ Some t → slice_get us n ≡ Some u → IsUnifiedIf same g t u c next → AtUnify g ts us (n + 1) old next
goes_past_unify g ts us n old c next same t u h here there k = record {
  binds = binds_twice g old c next h.binds k.binds;
  settled = λ i v w lt at at_other. elim (earlier_or_here i n lt) [
    | inl l ↦ settled_later g c next v w k.binds.follows (h.settled i v w l at at_other)
    | inr at_n ↦
        (let mine : slice_get ts n ≡ Some v = subst (λ j. slice_get ts j ≡ Some v) at_n at in
        let its : slice_get us n ≡ Some w = subst (λ j. slice_get us j ≡ Some w) at_n at_other in
        let one : t ≡ v = (let q : Some t ≡ Some v = sym here ∙ mine in cc) in
        let other : u ≡ w = (let q : Some u ≡ Some w = sym there ∙ its in cc) in
        subst (λ y. SameOrDiffer next v y) other (subst (λ y. SameOrDiffer next y u) one (settled_by same g t u c next next refl k)))
  ];
}

pub ends_unify : (g : Given) (ts us : List Ty) (n : ℕ) (old c : InferenceContext) → AtUnify g ts us n old c → length ts ≤ n → UnifiesAll g ts us old c
ends_unify g ts us n old c h over = record {
  binds = h.binds;
  each = λ i t u at at_other.
      let within : i < length ts = slice_get_within ts i t at in
      h.settled i t u (omega (arith, within, over)) at at_other;
}
