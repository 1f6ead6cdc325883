-- The parts of a node, which lie ahead one after another.
use Rattle.std.specs.Option.{option_and_then}
use Rattle.std.proofs.Common.{ℕ, ◌≡◌, ap, ◌<◌, length, refl, Option, Some, None, slice_get, ◌+◌, List, [], ◌∷◌, ◌++◌, suc, sym, subst}
use Rattle.std.proofs.lemmas.Option.{slice_get_within}
use Rattle.infer_ctx.specs.Words.{ExprId, PatId, BindingId, Ty, RawBody, Schedule, inner, IsSchedule, binding_of, Binds, Part, end, after, Node, parts, start, IsNode, parts_of_expr, expr_parts, Role, expr_part, parts_of_pat, pat_parts, RawPat, RawExpr, StandsAt, Given, IsAtOrMismatch, InferenceResult, AllAt}
use Rattle.hir_types.specs.declared.ids.ExprOrPatId.TheVariants as node
use Rattle.infer_ctx.specs.Own.{expr_start, pat_start, expr_end, IsWalked, pat_end, LieAhead, ComesTo, IsReady, Found, IsCarriedExpectation}
use Rattle.infer_ctx.proofs.Lists.{slice_get-append_left}

pub all_push : (r : InferenceResult) (es : List ExprId) (ts : List Ty) (e : ExprId) (t : Ty) → AllAt (IsAtOrMismatch r) es ts → IsAtOrMismatch r e t → AllAt (IsAtOrMismatch r) (es ++ e ∷ []) (ts ++ t ∷ [])
all_push r [] [] e t h k = (k, tt)
all_push r [] (u ∷ ts) e t h k = absurd h
all_push r (n ∷ es) [] e t h k = absurd h
all_push r (n ∷ es) (u ∷ ts) e t h k = (h.0, all_push r es ts e t h.1 k)

-- ---- ids
pub expr_id : (a b : ExprId) → a.0 ≡ b.0 → a ≡ b
expr_id a b h = let f : ℕ → ExprId = (λ n. record { 0 = n }) in ap f h

pub pat_id : (a b : PatId) → a.0 ≡ b.0 → a ≡ b
pat_id a b h = let f : ℕ → PatId = (λ n. record { 0 = n }) in ap f h

pub binding_id : (a b : BindingId) → a.0 ≡ b.0 → a ≡ b
binding_id a b h = let f : ℕ → BindingId = (λ n. record { 0 = n }) in ap f h

-- ---- numbers
module _ (b : RawBody) (s : Schedule) (law : IsSchedule b s) where
  pub one_expr : (e n : ExprId) → e.0 < length b.exprs → n.0 < length b.exprs → expr_start b s e ≡ expr_start b s n → e ≡ n
  one_expr e n h k same =
      let q : inner (node.ExprId e) ≡ inner (node.ExprId n) = law.apart (inner (node.ExprId e)) (inner (node.ExprId n)) h k same in
      cc

  pub one_pat : (p q : PatId) → p.0 < length b.pats → q.0 < length b.pats → pat_start b s p ≡ pat_start b s q → p ≡ q
  one_pat p q h k same =
      let r : inner (node.PatId p) ≡ inner (node.PatId q) = law.apart (inner (node.PatId p)) (inner (node.PatId q)) h k same in
      cc

  pub expr_is_no_pat : (e : ExprId) (p : PatId) → e.0 < length b.exprs → p.0 < length b.pats → expr_start b s e ≡ pat_start b s p → ⊥
  expr_is_no_pat e p h k same =
      let q : inner (node.ExprId e) ≡ inner (node.PatId p) = law.apart (inner (node.ExprId e)) (inner (node.PatId p)) h k same in
      cc

binds_some : (x : Option RawPat) (v : BindingId) → option_and_then binding_of x ≡ Some v → (y : RawPat) × (x ≡ Some y)
binds_some None v h = absurd (cc)
binds_some (Some y) v h = (y, refl)

pub binds_within : (b : RawBody) (p : PatId) (v : BindingId) → Binds b p v → p.0 < length b.pats
binds_within b p v h = let q = binds_some (slice_get b.pats p.0) v h in slice_get_within b.pats p.0 q.0 q.1

-- ---- what lies ahead
pub after_append : (b : RawBody) (s : Schedule) (from : ℕ) (ps qs : List Part) → after b s from (ps ++ qs) ≡ after b s (after b s from ps) qs
after_append b s from [] qs = refl
after_append b s from (p ∷ ps) qs = after_append b s (end b s (inner p.node)) ps qs

module _ (b : RawBody) (s : Schedule) (n : Node) where
  -- the first of them has its place in the node
  pub ahead_stands : (from : ℕ) (p : Part) (ps : List Part) → LieAhead b s n from (p ∷ ps) → (j : ℕ) × StandsAt b p.node n j p.role
  ahead_stands from p ps h = let q = h.stand 0 p refl in (q.0, record { node_is = h.node_is; part = q.1 })

  pub ahead_rest : (from : ℕ) (p : Part) (ps : List Part) → LieAhead b s n from (p ∷ ps) → LieAhead b s n (end b s (inner p.node)) ps
  ahead_rest from p ps h = record { node_is = h.node_is; fit = h.fit.2; stand = λ k q e. h.stand (suc k) q e }

  pub ahead_left : (from : ℕ) (ps qs : List Part) → LieAhead b s n from (ps ++ qs) → LieAhead b s n from ps
  ahead_left from [] qs h = record { node_is = h.node_is; fit = tt; stand = λ k p e. absurd (cc) }
  ahead_left from (p ∷ ps) qs h = record {
    node_is = h.node_is;
    fit = (h.fit.0, h.fit.1, (ahead_left (end b s (inner p.node)) ps qs (ahead_rest from p (ps ++ qs) h)).fit);
    stand = λ k q e. h.stand k q (slice_get-append_left (p ∷ ps) qs k q e);
  }

  pub ahead_right : (from : ℕ) (ps qs : List Part) → LieAhead b s n from (ps ++ qs) → LieAhead b s n (after b s from ps) qs
  ahead_right from [] qs h = h
  ahead_right from (p ∷ ps) qs h = ahead_right (end b s (inner p.node)) ps qs (ahead_rest from p (ps ++ qs) h)

  pub ahead_start : IsSchedule b s → IsNode b n → LieAhead b s n (start b s n + 1) (parts b n)
  ahead_start law h = record { node_is = h; fit = law.fits n h; stand = λ k p e. (k, e) }

-- the parts of an expression of this kind
pub expr_ahead : (b : RawBody) (s : Schedule) (e : ExprId) (x : RawExpr) (from : ℕ) → IsSchedule b s → e.0 < length b.exprs → slice_get b.exprs e.0 ≡ Some x → from ≡ expr_start b s e + 1 → LieAhead b s (inner (node.ExprId e)) from (expr_parts b x) × (after b s from (expr_parts b x) ≡ expr_end b s e)
expr_ahead b s e x from law h is at =
    let n : Node = inner (node.ExprId e) in
    let p : parts_of_expr b (slice_get b.exprs e.0) ≡ expr_parts b x = ap (λ o. parts_of_expr b o) is in (
      subst (λ k. LieAhead b s n k (expr_parts b x)) (sym at) (subst (λ ps. LieAhead b s n (expr_start b s e + 1) ps) p (ahead_start b s n law h)),
      subst (λ k. after b s k (expr_parts b x) ≡ expr_end b s e) (sym at) (subst (λ ps. after b s (expr_start b s e + 1) ps ≡ expr_end b s e) p (law.ends n h)),
    )

pub expr_before : (g : Given) (s : Schedule) (n : Node) (role : Role) (e : ExprId) (ps : List Part) (x : Option Ty) (c : Found) → IsReady g s → IsWalked g s c → LieAhead g.body s n c.clock (expr_part role e ∷ ps) → IsCarriedExpectation x → ComesTo g s e x c
expr_before g s n role e ps x c ready state ahead carried = record {
  ready = ready;
  state = state;
  within = ahead.fit.0;
  here = ahead.fit.1;
  expected = carried;
}

-- the parts of a pattern of this kind
pub pat_ahead : (b : RawBody) (s : Schedule) (p : PatId) (x : RawPat) (from : ℕ) → IsSchedule b s → p.0 < length b.pats → slice_get b.pats p.0 ≡ Some x → from ≡ pat_start b s p + 1 → LieAhead b s (inner (node.PatId p)) from (pat_parts x) × (after b s from (pat_parts x) ≡ pat_end b s p)
pat_ahead b s p x from law h is at =
    let n : Node = inner (node.PatId p) in
    let q : parts_of_pat (slice_get b.pats p.0) ≡ pat_parts x = ap (λ o. parts_of_pat o) is in (
      subst (λ k. LieAhead b s n k (pat_parts x)) (sym at) (subst (λ ps. LieAhead b s n (pat_start b s p + 1) ps) q (ahead_start b s n law h)),
      subst (λ k. after b s k (pat_parts x) ≡ pat_end b s p) (sym at) (subst (λ ps. after b s (pat_start b s p + 1) ps ≡ pat_end b s p) q (law.ends n h)),
    )
