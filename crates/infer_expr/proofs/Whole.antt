-- The walk of a whole body.
use Rattle.std.specs.Prelude.{replicate}
use Rattle.std.proofs.Common.{ℕ, zero, suc, ◌<◌, refl, arith, Option, None, ◌≡◌, ◌⊎◌, inl, inr, sym, ◌∙◌, ◌+◌, [], ◌∷◌, length, subst, ◌^◌, Some}
use Rattle.std.proofs.lemmas.List.{length-replicate, length-map}
use Rattle.hir_types.specs.declared.ids.ExprOrPatId.{ExprOrPatId}
use Rattle.hir_types.specs.declared.ids.ExprId.{ExprId}
use Rattle.hir_types.specs.Subst.{Assignment}
use Rattle.hir_types.specs.declared.ty.Ty.{Ty}
use Rattle.hir_types.specs.declared.ids.ExprOrPatId.TheVariants as node
use Rattle.hir_raw.specs.declared.raw.RawBody.{RawBody}
use Rattle.hir_raw.specs.declared.schedule.Schedule.{Schedule}
use Rattle.hir_raw.specs.Order.{inner, the_body, start, IsInBody, IsSchedule, root, expr_part, param_parts, body_parts, end}
use Rattle.hir_facts.specs.Bodies.{IsWalkable}
use Rattle.hir_facts.specs.CarriedTypes.{IsCarriedType}
use Rattle.infer_result.specs.Table.{At}
use Rattle.infer_result.specs.Places.{Given, IsAtMaybeOrMismatch}
use Rattle.infer_result.specs.Demands.{Demand}
use Rattle.infer_result.specs.declared.result.InferenceResult.{InferenceResult}
use Rattle.infer_result.specs.declared.result.TypeMismatch.{TypeMismatch}
use Rattle.infer_result.specs.Made.{IsMade, IsMisfit}
use Rattle.infer_result.specs.Closed.{AllTypes}
use Rattle.infer_result.specs.Columns.{Column, Entry, entry_kind, index, col, IsIn, IsLong, AllIn, count_of}
use Rattle.infer_result.specs.Columns as column
use Rattle.infer_ctx.specs.Writes as writes
use Rattle.infer_ctx.specs.Walks.{IsFree, expr_end, IsWalked, Walks, Nothing, Owed}
use Rattle.infer_ctx.specs.Found.{nothing_found, expr_variant, pat_variant, Found}
use Rattle.infer_ctx.specs.Context.{IsCarriedExpectation}
use Rattle.infer_ctx.specs.Under.{LieAhead, IsReady, WrittenExist, ComesTo, IsPlaced, CoerceWalked}
use Rattle.infer_ctx.proofs.Parts.{after_append, ahead_start, ahead_right, binds_within, expr_before, ahead_stands}
use Rattle.infer_ctx.proofs.Types.{table_closed}
use Rattle.infer_ctx.proofs.Category.{walks_trans, walks_paid}
use Rattle.infer_ctx.proofs.Keeps.{pat_at_kept}
use Rattle.infer_ctx.proofs.Variants.{only_named}
use Rattle.infer_expr.specs.Params.{ComesToParams, ParamsWalked}

-- ---- nothing is recorded
module _ {A : Type 0} where
  abbrev nothing : Option A
  nothing = None

  free-replicate : (n i : ℕ) → i < n → IsFree (replicate n nothing) i
  free-replicate zero i h = absurd (omega arith)
  free-replicate (suc n) zero h = refl
  free-replicate (suc n) (suc i) h = (let k : i < n = omega arith in free-replicate n i k)

  pub At-replicate : (n i : ℕ) (a : A) → At (replicate n nothing) i a → ⊥
  At-replicate zero i a h = cc
  At-replicate (suc n) zero a h = cc
  At-replicate (suc n) (suc i) a h = At-replicate n i a h

none_in : (P : Ty → Type 0) (b : RawBody) (c : Column) (n : ℕ) (x : Entry c) → IsIn (writes.nothing b) c n x → AllIn P (entry_kind c) x
none_in P b column.expr_variants n x i = tt
none_in P b column.pat_variants n x i = tt
none_in P b c n x i = absurd (At-replicate (count_of b (index c)) n x i)

pub no_types : (P : Ty → Type 0) (b : RawBody) → AllTypes P (writes.nothing b)
no_types P b = record { each = none_in P b }

long_in : (b : RawBody) (c : Column) → IsLong b (index c) (length (col (writes.nothing b) c))
long_in b column.expr_variants = length-map b.exprs expr_variant
long_in b column.pat_variants = length-map b.pats pat_variant
long_in b column.type_of_placeholder = tt
long_in b c = length-replicate (count_of b (index c)) None

-- each node but the body has a number above 0
inner_start : (b : RawBody) (s : Schedule) (x : ExprOrPatId) → IsSchedule b s → IsInBody b x → 0 < start b s (inner x)
inner_start b s x law h =
    elim (above 0 (start b s (inner x))) [
      | inl l ↦ l
      | inr z ↦ (let e : inner x ≡ the_body = law.apart (inner x) the_body h tt (z ∙ sym law.first) in absurd (cc))
    ]
  where
    above : (a n : ℕ) → (0 < n) ⊎ (n ≡ 0)
    above a n = grind arith

module _ (b : RawBody) (s : Schedule) (law : IsWalkable b s) where
  -- the parts of the body lie ahead
  body_ahead : LieAhead b s the_body 1 (body_parts b)
  body_ahead =
      let one : start b s the_body + 1 ≡ 1 = omega (arith, law.schedule.first) in
      subst (λ k. LieAhead b s the_body k (body_parts b)) one (ahead_start b s the_body law.schedule tt)

  -- the root is the last of them
  root_last : expr_end b s b.root ≡ end b s the_body
  root_last = sym (after_append b s (start b s the_body + 1) (param_parts 0 b.params) (expr_part root b.root ∷ [])) ∙ law.schedule.ends the_body tt

  pub root_within : IsInBody b (node.ExprId b.root)
  root_within = (ahead_right b s the_body 1 (param_parts 0 b.params) (expr_part root b.root ∷ []) body_ahead).fit.0

empty_walked : (g : Given) (s : Schedule) (a : Assignment) → IsWalkable g.body s → IsWalked g s (nothing_found a g.body)
empty_walked g s a law = record {
  of_body = record { long = long_in g.body };
  carried = no_types IsCarriedType g.body;
  modes = λ p m i. absurd (At-replicate (length g.body.pats) p.0 m i);
  diagnostics = λ e d i. absurd (At-replicate (length g.body.exprs) e.0 d i);
  pat_diagnostics = λ p d i. absurd (At-replicate (length g.body.pats) p.0 d i);
  variants = record { exprs = refl; pats = refl };
  items = λ p t i. absurd (At-replicate (length g.body.pats) p.0 t i);
  free_items = λ p i lo. free-replicate (length g.body.pats) p.0 i;
  placeholders = λ k t i. absurd (cc);
  seen = λ i y there. absurd (cc);
  free_exprs = λ e i lo. free-replicate (length g.body.exprs) e.0 i;
  free_pats = λ p i lo. free-replicate (length g.body.pats) p.0 i;
  free_modes = λ p i lo. free-replicate (length g.body.pats) p.0 i;
  free_bindings = λ p v i lo. free-replicate (length g.body.bindings) v.0 (law.binders p v i);
  bound = λ p v i hi. absurd (omega (arith, inner_start g.body s (node.PatId p) law.schedule (binds_within g.body p v i)));
}

pub params_before : (g : Given) (s : Schedule) (a : Assignment) (last : ℕ) (c : Found) → IsWalkable g.body s → WrittenExist g → length g.inputs ≡ length g.body.params → last ≡ expr_end g.body s g.body.root → last < 2 ^ 64 → c ≡ nothing_found a g.body → ComesToParams g s c
params_before g s a last c law written count is room empty =
    let ready : IsReady g s = record { law = law; written = written; room = omega (arith, is, root_last g.body s law) } in
    subst (λ k. ComesToParams g s k) (sym empty) (record { ready = ready; count = count; state = empty_walked g s a law; ahead = body_ahead g.body s law })

pub root_before : (g : Given) (s : Schedule) (old c : Found) → IsReady g s → IsCarriedExpectation g.output → ParamsWalked g s old c → ComesTo g s g.body.root g.output c
root_before g s old c ready carried d = expr_before g s the_body root g.body.root [] g.output c ready d.walks.state d.ahead carried

-- what the body asks of its root
root_demand : (g : Given) (s : Schedule) (c : Found) → LieAhead g.body s the_body c.clock (expr_part root g.body.root ∷ []) → (r : InferenceResult) (t : Ty) → g.output ≡ Some t → Demand g r g.body.root t
root_demand g s c ahead r t is =
    let q = ahead_stands g.body s the_body c.clock (expr_part root g.body.root) [] ahead in
    inl (record { parent = the_body; at_part = q.0; role = root; stands = q.1; asks = (refl, is) })

module _ (g : Given) (s : Schedule) (a : Assignment) (law : IsWalkable g.body s) (t : Ty) (mid new : Found) (p : ParamsWalked g s (nothing_found a g.body) mid) (d : CoerceWalked g s g.body.root g.output t mid new) where
  abbrev first : Found
  first = nothing_found a g.body

  at_end : new.clock ≡ end g.body s the_body
  at_end = d.clock ∙ root_last g.body s law

  walked : Walks g s (Owed g.body.root g.output) first new
  walked =
      walks_trans g s (Owed g.body.root g.output) first mid new
      (walks_paid g s Nothing (Owed g.body.root g.output) first mid (λ e m o. absurd o) p.walks) d.walks

  -- what is owed is what the body asks of its root
  owed_demand : (e : ExprId) (m : TypeMismatch) (x : Option Ty) → g.output ≡ x → Owed g.body.root x e m → Demand g new.result e m.expected
  owed_demand e m None is o = absurd o
  owed_demand e m (Some u) is o =
      subst (λ n. Demand g new.result n m.expected) (sym o.0) (
      subst (λ v. Demand g new.result g.body.root v) (sym o.1) (root_demand g s mid p.ahead new.result u is)
      )

  root_placed : (x : Option Ty) → IsPlaced new.result g.body.root x t → IsAtMaybeOrMismatch new.result g.body.root x
  root_placed None has = (t, has)
  root_placed (Some u) placed = placed.1

  misfit : (e : ExprId) (m : TypeMismatch) → At new.result.expr_mismatches e.0 m → IsMisfit g new.result e m × Demand g new.result e m.expected
  misfit e m i =
      elim (walked.truths e m i) [
        | inl o ↦ absurd (At-replicate (length g.body.exprs) e.0 m o)
        | inr q ↦ (
          q.0,
          elim q.1 [
            | inl k ↦ k
            | inr o ↦ owed_demand e m g.output refl o
          ],
        )
      ]

  pub body_made : IsMade g new.result
  body_made = record {
    shape = record {
      of_body = walked.state.of_body;
      closed = table_closed new.result walked.state.carried;
      modes = walked.state.modes;
      placeholders = walked.state.placeholders;
      items = walked.state.items;
      variants = only_named g.body new.result walked.state.variants;
    };
    clauses = λ e i.
        walked.made e i (inner_start g.body s (node.ExprId e) law.schedule i) (omega (arith, at_end, law.schedule.reached (inner (node.ExprId e)) i));
    kinds = λ p i.
        walked.pats_made p i (inner_start g.body s (node.PatId p) law.schedule i) (omega (arith, at_end, law.schedule.reached (inner (node.PatId p)) i));
    params = λ i q u at is. pat_at_kept g mid.result new.result d.walks.extends q u (p.typed i q u at is);
    bindings = λ v i.
        (let q = law.bound v i in
        walked.state.bound q.binder v q.binds (
        omega (arith, at_end, law.schedule.reached (inner (node.PatId q.binder)) (binds_within g.body q.binder v q.binds))
        ));
    body_clause = root_placed g.output d.placed;
    misfits = λ e m i. (misfit e m i).0;
    demands = λ e m i. (misfit e m i).1;
    complaints = record {
      diagnostics = walked.state.diagnostics;
      pat_diagnostics = walked.state.pat_diagnostics;
      pat_truths = λ q m i. elim (walked.pat_truths q m i) [ inl o ↦ absurd (At-replicate (length g.body.pats) q.0 m o) | inr o ↦ o ];
      seen = λ i y there. (walked.state.seen i y there).is_true;
      said = λ i y there. (walked.state.seen i y there).is_said;
    };
  }
