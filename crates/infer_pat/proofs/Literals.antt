-- Literals: the holes that they make, and their types.
use Rattle.std.proofs.Common.{◌≡◌, sym, subst, arith, Option, Some, slice_get, ap, ◌∙◌, refl, None, unwrap_or}
use Rattle.infer_pat.specs.Words.{ExprId, Ty, Ty-F, out-Ty, AliasBound, GenericArg, TraitRef, folded, with_holes, IntegerTy, integer_type, replaced_int_var, Maps, in_ty, RawLiteral, Schedule, carried_integer, Scope, IsOpenOrKnown, State, bindings, resolved_type, with_new_hole, hole_count, stays_itself, stays_with, IsOfBody, Given, InferenceContext, Closes, found_under, expected_under, IsSound, Within, KindDone, KindWalked}
use Rattle.hir_types.specs.declared.ty.UintTy.TheVariants as uint
use Rattle.hir_types.specs.declared.ty.Ty.TheVariants as ty
use Rattle.hir_types.specs.declared.ty.IntegerTy.TheVariants as integer
use Rattle.hir_types.specs.declared.head.HoleKind.TheVariants as kind
use Rattle.infer_pat.specs.Words.hir_raw.declared.raw.RawExpr.TheVariants as expr
use Rattle.infer_pat.proofs.Words.{grew_itself, grew_by_hole, IsOfLayer, read_alike, literal_done, same_found, closes_earlier, literal_tells, told_same, within_under, carried_closed, fine_integer, fine_int_hole, holed, holed_sound}
use Rattle.infer_pat.specs.Own.{LiteralDone, IntDone, integer_step, integer_for, expected_integer, unsuffixed_type}

-- ---- literals
pub literal_kind : (g : Given) (s : Schedule) (e : ExprId) (x : Option Ty) (l : RawLiteral) (t : Ty) (c new : InferenceContext) → Within g s e x c → slice_get g.body.exprs e.0 ≡ Some (expr.Lit l) → LiteralDone g.scope x l t c new → KindDone g s e x t c new
literal_kind g s e x l t c new h is d = record {
  follows = record {
    clock = omega (arith, d.clock);
    grew = d.grew;
    sources = d.stays.sources;
    of_body = subst (λ r. IsOfBody g.body r) (sym d.result) h.state.of_body;
    sound = d.sound;
    told = told_same g c new d.result d.stays d.grew;
  };
  fine = d.fine;
  tells = literal_tells g e l t is d.own;
  each = λ a q.
      let o : Closes a c = closes_earlier a c new d.grew q in
      subst (λ f. KindWalked g s e (expected_under a x) (folded a t) (found_under a c) f) (sym (same_found a c new d.result d.asked d.clock))
      (literal_done g s e (expected_under a x) l (folded a t) (found_under a c) (within_under g s a c o e x h) is (d.each a q.closing));
}

-- ---- integers

-- what is read of the type that is expected is read of its outermost layer
integer_kept : (m : Maps GenericArg Ty AliasBound TraitRef) (x : Ty-F GenericArg Ty AliasBound TraitRef) → integer_step (in_ty m x) ≡ integer_step x
integer_kept m (Ty-F.Int i) = refl
integer_kept m x = refl

integer_of_layer : IsOfLayer integer_step
integer_of_layer = record { kept = integer_kept; arrays = λ a b c d. refl }

pub expected_at : (state : State) (x : Option Ty) (e r : Ty) → x ≡ Some e → resolved_type state r ≡ resolved_type state e → IsOpenOrKnown (bindings state) r
    → expected_integer state x ≡ integer_for r
expected_at state x e r is same open_or_known = ap (expected_integer state) is ∙ read_alike integer_step integer_of_layer state e r same open_or_known

step_integer : (x : Ty-F GenericArg Ty AliasBound TraitRef) (t : Ty) → integer_step x ≡ Some t → (i : IntegerTy) × (t ≡ integer_type i)
step_integer (Ty-F.Int i) t h = (integer.Int i, (let e : ty.Int i ≡ t = cc in sym e))
step_integer (Ty-F.Uint i) t h = (integer.Uint i, (let e : ty.Uint i ≡ t = cc in sym e))
step_integer Ty-F.Char t h = (integer.Uint uint.U8, (let e : ty.Uint uint.U8 ≡ t = cc in sym e))
step_integer (Ty-F.FnDef i xs) t h = (integer.Uint uint.Usize, (let e : ty.Uint uint.Usize ≡ t = cc in sym e))
step_integer x t h = absurd (cc)

expected_is_integer : (state : State) (x : Option Ty) (t : Ty) → expected_integer state x ≡ Some t → (i : IntegerTy) × (t ≡ integer_type i)
expected_is_integer state None t h = absurd (cc)
expected_is_integer state (Some e) t h = step_integer (out-Ty (resolved_type state e)) t h

known_integer : {sc : Scope} (c : InferenceContext) (i : IntegerTy) (x : Option Ty) → IsSound sc c → integer_type i ≡ unsuffixed_type c.goals.table x → IntDone sc x (integer_type i) c c
known_integer c i x s h = record {
  is = h;
  result = refl;
  asked = refl;
  clock = refl;
  grew = grew_itself c.goals.table;
  stays = stays_itself c.goals;
  sound = s;
  fine = fine_integer _ c.goals.table i;
  each = λ a k. (i, carried_closed a (integer_type i) (carried_integer i));
}

pub known_int : {sc : Scope} (c : InferenceContext) (t : Ty) (x : Option Ty) → IsSound sc c → expected_integer c.goals.table x ≡ Some t → IntDone sc x t c c
known_int {sc} c t x s h =
    let q = expected_is_integer c.goals.table x t h in
    let is : t ≡ unsuffixed_type c.goals.table x = sym (ap (λ o. unwrap_or o (ty.IntVar (hole_count c.goals.table))) h) in
    subst (λ u. IntDone sc x u c c) (sym q.1) (known_integer c q.0 x s (sym q.1 ∙ is))

pub int_hole : {sc : Scope} (c : InferenceContext) (x : Option Ty) → IsSound sc c → expected_integer c.goals.table x ≡ None → IntDone sc x (ty.IntVar (hole_count c.goals.table)) c (holed c kind.Int)
int_hole c x s none = record {
  is = sym (ap (λ o. unwrap_or o (ty.IntVar (hole_count c.goals.table))) none);
  result = refl;
  asked = refl;
  clock = refl;
  grew = grew_by_hole c.goals.table (with_new_hole c.goals.table kind.Int) kind.Int refl;
  stays = stays_with c.goals (with_new_hole c.goals.table kind.Int);
  sound = holed_sound c kind.Int s;
  fine = fine_int_hole _ c.goals.table;
  each = λ a k.
      let q = k.int_var (hole_count c.goals.table) in
      (q.0, replaced_int_var (with_holes a) (hole_count c.goals.table) ∙ q.1);
}
