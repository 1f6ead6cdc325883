-- Statements: the parts of each come one after another.
use Rattle.std.proofs.Common.{ℕ, ◌≡◌, ◌∙◌, ◌⊎◌, Bool, true, false, Option, Some, None, List, [], ◌∷◌, inl, inr, refl, sym, ap, subst}
use Rattle.hir_types.specs.declared.ids.ExprId.{ExprId}
use Rattle.hir_types.specs.declared.ids.PatId.{PatId}
use Rattle.hir_types.specs.declared.ids.TypeRefId.{TypeRefId}
use Rattle.hir_types.specs.declared.ids.ExprOrPatId.TheVariants as node
use Rattle.hir_types.specs.declared.ty.Ty.{Ty}
use Rattle.hir_types.specs.Subst.{Assignment, folded}
use Rattle.hir_types.specs.Types.{unit}
use Rattle.hir_raw.specs.declared.raw.RawStmt.TheVariants as stmt
use Rattle.hir_raw.specs.declared.schedule.Schedule.{Schedule}
use Rattle.hir_raw.specs.Order.{Part, Role, inner, initializer, let_pattern, statement, expr_part, pat_part}
use Rattle.infer_result.specs.Places.{Given, IsAtOrMismatch, PatIsAtOrMismatch, AreRecorded, declared}
use Rattle.infer_result.specs.Demands.{Demand, AsksOf}
use Rattle.infer_result.specs.Incoming.{Gives}
use Rattle.infer_result.specs.Kinds.Block.{LetRule}
use Rattle.infer_result.specs.Placing.{at_or_mismatch}
use Rattle.infer_result.specs.Table.{HasTy}
use Rattle.infer_result.specs.declared.result.InferenceResult.{InferenceResult}
use Rattle.infer_ctx.specs.declared.context.InferenceContext.{InferenceContext}
use Rattle.infer_ctx.specs.Closings.{Closes, found_under, expected_under}
use Rattle.infer_ctx.specs.Fine.{IsFineExpectation}
use Rattle.infer_ctx.specs.Found.{Found}
use Rattle.infer_ctx.specs.Steps.{IsWalking, Before, CoerceDone}
use Rattle.infer_ctx.specs.Tells.{TellsLet}
use Rattle.infer_ctx.specs.Under.{LieAhead, IsReady, IsPlaced, CoerceWalked}
use Rattle.infer_ctx.specs.Walks.{Nothing, Extends}
use Rattle.infer_ctx.proofs.AtEach.{follows_twice, closes_before, walking_after}
use Rattle.infer_ctx.proofs.Category.{walks_trans}
use Rattle.infer_ctx.proofs.Keeps.{recorded_kept, declared_kept, at_kept}
use Rattle.infer_ctx.proofs.OverTypes.{carried_closed}
use Rattle.infer_ctx.proofs.Parts.{ahead_stands, ahead_rest}
use Rattle.infer_ctx.proofs.Tellings.{let_tells}
use Rattle.infer_ctx.proofs.Types.{carried_unit}
use Rattle.infer_coerce.proofs.Coercions.{owed_paid}
use Rattle.infer_pat.specs.Patterns.{BeforePat, PatDone, PatWalked}
use Rattle.infer_blocks.specs.Blocks.{BeforeStmt, StmtDone, StmtWalked, InitDone, MaybeRecorded, declared_type}
use Rattle.infer_blocks.specs.BodyTypes.{BeforeBodyTy, BodyTyDone, BodyTyWalked}
use Rattle.infer_result.specs.Columns as column

-- what an expression asks of the first of the parts that lie ahead
pub part_demand : (g : Given) (s : Schedule) (n : ExprId) (from : ℕ) (role : Role) (e : ExprId) (ps : List Part) (r : InferenceResult) (t : Ty)
    → LieAhead g.body s (inner (node.ExprId n)) from (expr_part role e ∷ ps) → AsksOf g r n role t → Demand g r e t
part_demand g s n from role e ps r t h asks =
    let q = ahead_stands g.body s (inner (node.ExprId n)) from (expr_part role e) ps h in
    inl (record { parent = inner (node.ExprId n); at_part = q.0; role = role; stands = q.1; asks = asks })

-- ---- `let`

-- the written type is one of the body
pub comes_to_body_ty : (g : Given) (s : Schedule) (n : ExprId) (p : PatId) (o : Option TypeRefId) (w : TypeRefId) (init : Option ExprId)
    (old : InferenceContext) → o ≡ Some w → BeforeStmt g s n (stmt.Let p o init None) old → BeforeBodyTy g s w old
comes_to_body_ty g s n p o w init old is h = record {
  ready = h.ready;
  state = h.state;
  block = n;
  at_stmt = h.stands.0;
  pattern = p;
  init = init;
  other = None;
  is_let = h.stands.1 ∙ ap (λ x. Some (stmt.Let p x init None)) is;
}

-- what stands for the written type then, stands for it later too
still_declared : (g : Given) (s : Schedule) (w : TypeRefId) (t : Ty) (old first : Found) → BodyTyWalked g s w t old first
    → (r : InferenceResult) → Extends first.result r → AreRecorded g r w × (t ≡ declared g r w)
still_declared g s w t old first b r x = (recorded_kept g first.result r x w b.recorded, b.is ∙ declared_kept g first.result r x w b.recorded)

-- with a written type: what that stands for is expected of the initializer
module _ (g : Given) (s : Schedule) (n : ExprId) (p : PatId) (w : TypeRefId) (e : ExprId) (old first : InferenceContext)
    (h : BeforeStmt g s n (stmt.Let p (Some w) (Some e) None) old) (t : Ty) (b : BodyTyDone g s w t old first) where
  pub comes_to_written_init : Before g s e (Some t) first
  comes_to_written_init = record {
    ready = h.ready;
    state = walking_after g s old first h.state.told b.follows (λ a k. (b.each a k).walks.state);
    within = h.ahead.fit.0;
    here = h.ahead.fit.1 ∙ sym b.clock;
    expected = b.fine;
  }

  pub written_init_walked : (v : Ty) (new : InferenceContext) → CoerceDone g s e (Some t) v first new → InitDone g s (Some w) e v old new
  written_init_walked v new d = record {
    follows = follows_twice g old first new b.follows d.follows;
    fine = d.fine;
    tells = (b.filled.0, d.is_expected t refl ∙ b.filled.1);
    each = λ a q.
        let z = b.each a (closes_before g a first new d.follows q) in
        let k = d.each a q in
        let r = (found_under a new).result in
        let still = still_declared _ _ _ _ _ _ z r k.walks.extends in
        let asks : (u : Ty) → Some (folded a t) ≡ Some u → AsksOf g r n (initializer (Some w)) u
        = λ u i. (let is : folded a t ≡ u = cc in (still.0, sym is ∙ still.1)) in
        record {
          walks = walks_trans g s Nothing _ _ _ z.walks
              (owed_paid g s e (Some (folded a t)) _ _ (λ u i. part_demand g s n _ _ e _ r u h.ahead (asks u i)) k.walks);
          clock = k.clock;
          recorded = still.0;
          placed = (k.placed.0 ∙ still.1, subst (λ u. IsAtOrMismatch r e u) still.1 k.placed.1);
        };
  }

-- The pattern lies ahead in its `let`. What comes into it, if something does, is what the `let` gives it.
module _ (g : Given) (s : Schedule) (n : ExprId) (p : PatId) (w : Option TypeRefId) (init : Option ExprId) (x : Option Ty)
    (c : InferenceContext) where
  let_pat : IsReady g s → IsWalking g s c → LieAhead g.body s (inner (node.ExprId n)) c.clock (pat_part (let_pattern w init) p ∷ [])
      → IsFineExpectation g.scope c.goals.table x → ((u : Ty) → (x ≡ Some u) ⊎ (x ≡ None) → TellsLet g w init u)
      → ((a : Assignment) → Closes a c → (u : Ty) → expected_under a x ≡ Some u
      → Gives g (found_under a c).result (inner (node.ExprId n)) (let_pattern w init) u)
      → BeforePat g s p x c
  let_pat ready state ahead fine tells gives =
      let q = ahead_stands g.body s (inner (node.ExprId n)) c.clock (pat_part (let_pattern w init) p) [] ahead in
      record {
        ready = ready;
        state = state;
        within = ahead.fit.0;
        here = ahead.fit.1;
        fine = fine;
        tells = λ u i. let_tells g s ready.law (inner (node.ExprId n)) q.0 p w init q.1 u (tells u i);
        incoming = λ a k u i. record { parent = inner (node.ExprId n); at_part = q.0; role = let_pattern w init; stands = q.1; gives = gives a k u i };
      }

-- into it comes the type t
comes_in : (P : Ty → Type 0) (t u : Ty) → P t → (Some t ≡ Some u) ⊎ (Some t ≡ None) → P u
comes_in P t u has (inl i) = let same : t ≡ u = cc in subst P same has
comes_in P t u has (inr i) = absurd (cc)

-- with an initializer
module _ (g : Given) (s : Schedule) (n : ExprId) (p : PatId) (w : Option TypeRefId) (e : ExprId) (old : InferenceContext)
    (h : BeforeStmt g s n (stmt.Let p w (Some e) None) old) where
  -- what that gives to the pattern
  gives : (y : Option TypeRefId) (t u : Ty) (r : InferenceResult) → MaybeRecorded g r y → IsPlaced r e (declared_type g r y) t → t ≡ u
      → Gives g r (inner (node.ExprId n)) (let_pattern y (Some e)) u
  gives None t u r m k same = subst (λ v. HasTy r e v) same k
  gives (Some y) t u r m k same = (m, sym same ∙ k.0)

  pub comes_to_pat : (t : Ty) (mid : InferenceContext) → InitDone g s w e t old mid → BeforePat g s p (Some t) mid
  comes_to_pat t mid d =
      let q = d.follows.sound.some in
      let rest = ahead_rest g.body s (inner (node.ExprId n)) old.clock (expr_part (initializer w) e) (pat_part (let_pattern w (Some e)) p ∷ []) h.ahead in
      let state = walking_after g s old mid h.state.told d.follows (λ a l. (d.each a l).walks.state) in
      let_pat g s n p w (Some e) (Some t) mid h.ready state
      (subst (λ k. LieAhead g.body s (inner (node.ExprId n)) k (pat_part (let_pattern w (Some e)) p ∷ [])) (sym (d.each q.0 q.1).clock) rest) d.fine
      (λ u i. comes_in (TellsLet g w (Some e)) t u d.tells i)
      (λ a k u i. (let z = d.each a k in let same : folded a t ≡ u = cc in gives w (folded a t) u (found_under a mid).result z.recorded z.placed same))

  made : (y : Option TypeRefId) (t : Ty) (mid new : Found) → MaybeRecorded g mid.result y → IsPlaced mid.result e (declared_type g mid.result y) t
      → PatWalked g s p (Some t) mid new → LetRule (at_or_mismatch g new.result) g new.result p y (Some e)
  made None t mid new m k d = (t, d.walks.extends.columns column.type_of_expr e.0 t k, d.placed)
  made (Some y) t mid new m k d =
      let same : declared g mid.result y ≡ declared g new.result y = declared_kept g mid.result new.result d.walks.extends y m in (
        recorded_kept g mid.result new.result d.walks.extends y m,
        subst (λ u. IsAtOrMismatch new.result e u) same (at_kept g mid.result new.result d.walks.extends e (declared g mid.result y) k.1),
        subst (λ u. PatIsAtOrMismatch g new.result p u) (k.0 ∙ same) d.placed,
      )

  pub let_walked : (t : Ty) (mid new : InferenceContext) → InitDone g s w e t old mid → PatDone g s p (Some t) mid new → StmtDone g s (stmt.Let p w (Some e) None) old new
  let_walked t mid new i d = record {
    follows = follows_twice g old mid new i.follows d.follows;
    each = λ a q.
        let z = i.each a (closes_before g a mid new d.follows q) in
        let k = d.each a q in
        record {
          walks = walks_trans g s Nothing _ _ _ z.walks k.walks;
          clock = k.clock;
          made = made w (folded a t) (found_under a mid) (found_under a new) z.recorded z.placed k;
        };
  }

-- without an initializer, what the written type stands for comes into the pattern
module _ (g : Given) (s : Schedule) (n : ExprId) (p : PatId) (w : TypeRefId) (old first : InferenceContext)
    (h : BeforeStmt g s n (stmt.Let p (Some w) None None) old) (t : Ty) (b : BodyTyDone g s w t old first) where
  pub comes_to_written_pat : BeforePat g s p (Some t) first
  comes_to_written_pat =
      let state = walking_after g s old first h.state.told b.follows (λ a k. (b.each a k).walks.state) in
      let_pat g s n p (Some w) None (Some t) first h.ready state
      (subst (λ k. LieAhead g.body s (inner (node.ExprId n)) k (pat_part (let_pattern (Some w) None) p ∷ [])) (sym b.clock) h.ahead) b.fine
      (λ u i. comes_in (TellsLet g (Some w) None) t u b.filled i)
      (λ a k u i. (let z = b.each a k in let same : folded a t ≡ u = cc in (z.recorded, sym same ∙ z.is)))

  pub written_let_walked : (new : InferenceContext) → PatDone g s p (Some t) first new → StmtDone g s (stmt.Let p (Some w) None None) old new
  written_let_walked new d = record {
    follows = follows_twice g old first new b.follows d.follows;
    each = λ a q.
        let z = b.each a (closes_before g a first new d.follows q) in
        let k = d.each a q in
        let r = (found_under a new).result in
        let still = still_declared _ _ _ _ _ _ z r k.walks.extends in
        record {
          walks = walks_trans g s Nothing _ _ _ z.walks k.walks;
          clock = k.clock;
          made = (still.0, subst (λ u. PatIsAtOrMismatch g r p u) still.1 k.placed);
        };
  }

-- with neither
module _ (g : Given) (s : Schedule) (n : ExprId) (p : PatId) (old : InferenceContext) (h : BeforeStmt g s n (stmt.Let p None None None) old) where
  pub comes_to_bare_pat : BeforePat g s p None old
  comes_to_bare_pat = let_pat g s n p None None None old h.ready h.state h.ahead tt (λ u i. tt) (λ a k u i. absurd (cc))

-- ---- expressions

-- what is expected of an expression that is a statement
abbrev pub statement_type : Bool → Option Ty
statement_type true = None
statement_type false = Some unit

module _ (g : Given) (s : Schedule) (n : ExprId) (e : ExprId) (old : InferenceContext) where
  under : (semicolon : Bool) (a : Assignment) (t : Ty) (new : Found) → BeforeStmt g s n (stmt.Expr e semicolon) old
      → CoerceWalked g s e (expected_under a (statement_type semicolon)) t (found_under a old) new → StmtWalked g s (stmt.Expr e semicolon) (found_under a old) new
  under true a t new h k = record { walks = k.walks; clock = k.clock; made = tt }
  under false a t new h k =
      let same : folded a unit ≡ unit = carried_closed a unit carried_unit in
      let asks : (u : Ty) → Some (folded a unit) ≡ Some u → AsksOf g new.result n (statement false) u
      = λ u i. (let is : folded a unit ≡ u = cc in sym is ∙ same) in
      record {
        walks = owed_paid g s e (Some (folded a unit)) _ _ (λ u i. part_demand g s n _ _ e _ new.result u h.ahead (asks u i)) k.walks;
        clock = k.clock;
        made = subst (λ u. IsAtOrMismatch new.result e u) same k.placed.1;
      }

  pub expr_walked : (semicolon : Bool) → BeforeStmt g s n (stmt.Expr e semicolon) old → (t : Ty) (new : InferenceContext)
      → CoerceDone g s e (statement_type semicolon) t old new → StmtDone g s (stmt.Expr e semicolon) old new
  expr_walked semicolon h t new d = record { follows = d.follows; each = λ a q. under semicolon a (folded a t) (found_under a new) h (d.each a q) }
