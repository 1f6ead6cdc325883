-- Where holes are filled a head stays, and what tells the type that an expression has by itself comes to that type, which has
-- no holes.
use Rattle.std.specs.Prelude.{◌≡◌, map, Some, None, ℕ, List, [], slice_get}
use Rattle.std.proofs.Common.{ap, sym, ◌∙◌, subst}
use Rattle.std.proofs.lemmas.List.{length-map}
use Rattle.infer_ctx.specs.Words.{AliasBound, GenericArg, TraitRef, Ty, Ty-F, out-Ty, out-roll-Ty, roll-Ty, roll-out-Ty, replacing, at_ty, replaced_int, replaced_uint, replaced_adt, replaced_bool, replaced_char, in_ty, Replacement, const_replaced, ty_layer, replaced, Assignment, with_holes, folded, TypeRefId, IntegerTy, integer_type, AdtId, ExprId, instance_at_types, RawType, filled_written, filled_folded, HasNoHole, written_type, RawLiteral, Signature, Outermost, tuple, outermost_step, HasHead, IsOwnType, Given, let_types, CallsNonGeneric, Up, of_literal, of_written, of_initializer, of_parameter, of_call, of_unit}
use Rattle.hir_types.specs.declared.ty.Ty.TheVariants as ty
use Rattle.hir_types.specs.declared.ty.IntegerTy.TheVariants as integer
use Rattle.infer_ctx.specs.Words.hir_raw.declared.raw.RawLiteral.TheVariants as literal
use Rattle.infer_ctx.specs.Own.{Tells}

-- ---- heads stay where holes and parameters are replaced
layer_head : (r : Replacement) (x : Ty-F GenericArg Ty AliasBound TraitRef) (h : Outermost) → outermost_step x ≡ Some h → outermost_step (out-Ty (ty_layer r (in_ty (replacing r) x))) ≡ Some h
layer_head r (Ty-F.Var n) h has = (let clash : None ≡ Some h = has in absurd (cc))
layer_head r (Ty-F.IntVar n) h has = (let clash : None ≡ Some h = has in absurd (cc))
layer_head r (Ty-F.Param n) h has = (let clash : None ≡ Some h = has in absurd (cc))
layer_head r (Ty-F.Tuple ts) h has = ap outermost_step (out-roll-Ty (Ty-F.Tuple (map (replaced r) ts))) ∙ (ap (λ n. Some (tuple n)) (length-map ts (replaced r)) ∙ has)
layer_head r (Ty-F.Array t c) h has =
    ap outermost_step (ap out-Ty (sym (ty.rolls-Array (replaced r t) (const_replaced r c))) ∙ out-roll-Ty (Ty-F.Array (replaced r t) (const_replaced r c))) ∙ has
layer_head r x h has = ap outermost_step (out-roll-Ty (in_ty (replacing r) x)) ∙ has

rolled_head : (r : Replacement) (x : Ty-F GenericArg Ty AliasBound TraitRef) (h : Outermost) → HasHead (roll-Ty x) h → HasHead (replaced r (roll-Ty x)) h
rolled_head r x h has = ap (λ t. outermost_step (out-Ty t)) (at_ty r x) ∙ layer_head r x h (sym (ap outermost_step (out-roll-Ty x)) ∙ has)

-- a hole and a parameter have no head, so what stands for one changes none
pub replaced_head : (r : Replacement) (t : Ty) (h : Outermost) → HasHead t h → HasHead (replaced r t) h
replaced_head r t h has = subst (λ u. HasHead u h → HasHead (replaced r u) h) (roll-out-Ty t) (rolled_head r (out-Ty t) h) has

pub head_kept : (a : Assignment) (t : Ty) (h : Outermost) → HasHead t h → HasHead (folded a t) h
head_kept a t h has = replaced_head (with_holes a) t h has

-- ---- types that stay where holes are filled
closed_by : (a : Assignment) (t u : Ty) → t ≡ u → folded a u ≡ u → folded a t ≡ t
closed_by a t u same closed = ap (folded a) same ∙ (closed ∙ sym same)

-- a written type without a `_`
pub written_closed : (types : List RawType) (w : TypeRefId) → HasNoHole types w → (a : Assignment) → folded a (written_type types w) ≡ written_type types w
written_closed types w none a =
    let fill : ℕ → Ty = λ k. ty.Error in
    ap (folded a) (sym (filled_written fill types w none)) ∙ (filled_folded a fill types w ∙ filled_written (λ k. folded a (fill k)) types w none)

integer_closed : (a : Assignment) (i : IntegerTy) → folded a (integer_type i) ≡ integer_type i
integer_closed a (integer.Int i) = replaced_int (with_holes a) i
integer_closed a (integer.Uint i) = replaced_uint (with_holes a) i

adt_closed : (a : Assignment) (id : AdtId) → folded a (ty.Adt id []) ≡ ty.Adt id []
adt_closed a id = replaced_adt (with_holes a) id []

literal_closed : (a : Assignment) (l : RawLiteral) (s : Ty) → IsOwnType l s → folded a s ≡ s
literal_closed a (literal.Bool b) s own = closed_by a s ty.Bool own (replaced_bool (with_holes a))
literal_closed a (literal.Char c) s own = closed_by a s ty.Char own (replaced_char (with_holes a))
literal_closed a (literal.Int digits (Some suffix)) s own = closed_by a s (integer_type suffix) own (integer_closed a suffix)
literal_closed a (literal.Int digits None) s own = absurd own

-- ---- types that expressions have by themselves

-- where no hole stands in the types of the parameters, nor in the output of what is called
module _ (g : Given) (inputs : (i : ℕ) (t : Ty) → slice_get g.inputs i ≡ Some (Some t) → (a : Assignment) → folded a t ≡ t) (outputs : (e : ExprId) (σ : Signature) → CallsNonGeneric g e σ → (a : Assignment) → folded a σ.output ≡ σ.output) (a : Assignment) where
  pub up_closed : (e : ExprId) (s : Ty) → Up g e s → folded a s ≡ s
  up_closed m r (of_literal e l s is own) = literal_closed a l s own
  up_closed m r (of_written e w init n none) = written_closed (let_types g) w none a
  up_closed m r (of_initializer e i s n u) = up_closed i s u
  up_closed m r (of_parameter e i s n found) = inputs i s found a
  up_closed m r (of_call e σ c) = instance_at_types a [] σ.output (outputs e σ c)
  up_closed m r (of_unit e x n) = adt_closed a x.adt

  -- what tells the type comes to it
  pub type_kept : (e : ExprId) (t s : Ty) → Tells g e t → Up g e s → folded a t ≡ s
  type_kept e t s tells up = ap (folded a) (tells.type s up) ∙ up_closed e s up
