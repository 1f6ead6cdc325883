-- Where entries come from, as more are added.
use Rattle.std.specs.Prelude.{◌++◌, ℕ, List}
use Rattle.std.proofs.Common.{inl, inr}
use Rattle.infer_needs.specs.Words.{GenericDefId, Ty, RawFacts, Asked, System}
use Rattle.infer_needs.proofs.Words.{get_left}
use Rattle.infer_needs.specs.Own.{IsSaidBy, ComeFrom, FitOrAreSaid}
use Rattle.infer_needs.proofs.Rooted.{one_right}

said_left : (f : System) (n : ℕ) (xs ys : List Asked) (x : Ty × Ty) → IsSaidBy f n xs x → IsSaidBy f n (xs ++ ys) x
said_left f n xs ys x h = record { alias = h.alias; args = h.args; is = h.is; need = h.need; at = h.at; among = get_left xs ys h.at h.need h.among; reads = h.reads }

said_right : (f : System) (n : ℕ) (xs ys : List Asked) (x : Ty × Ty) → IsSaidBy f n ys x → IsSaidBy f n (xs ++ ys) x
said_right f n xs ys x h =
    let there = one_right xs ys h.need (h.at, h.among) in
    record { alias = h.alias; args = h.args; is = h.is; need = h.need; at = there.0; among = there.1; reads = h.reads }

pub from_then : (f : System) (n : ℕ) (xs ys : List Asked) (js ks ls : List (Ty × Ty)) → ComeFrom f n xs js ks → ComeFrom f n ys ks ls → ComeFrom f n (xs ++ ys) js ls
from_then f n xs ys js ks ls a b k x at = elim (b k x at) [
  | inl was ↦ elim (a k x was) [
    | inl old ↦ inl old
    | inr h ↦ inr (said_left f n xs ys x h)
  ]
  | inr h ↦ inr (said_right f n xs ys x h)
]

pub fit_then : (raw : RawFacts) (item : GenericDefId) (f : System) (xs ys : List Asked) (js ks : List (Ty × Ty)) → FitOrAreSaid raw item f xs js → ComeFrom f raw.limits.goal_depth ys js ks → FitOrAreSaid raw item f (xs ++ ys) ks
fit_then raw item f xs ys js ks a b k x at = elim (b k x at) [
  | inl was ↦ elim (a k x was) [
    | inl fits ↦ inl fits
    | inr h ↦ inr (said_left f raw.limits.goal_depth xs ys x h)
  ]
  | inr h ↦ inr (said_right f raw.limits.goal_depth xs ys x h)
]
