-- What a function takes and gives, at types in the place of its parameters.
use Rattle.std.specs.List.{list_all}
use Rattle.std.specs.Cmp.{first_so, second_so}
use Rattle.std.proofs.Common.{ℕ, sym, ap, ◌∙◌, Bool, true≢false, ◌≡◌, refl, ◌&&◌, List, [], ◌∷◌, subst, true, length, map, Option, suc, Some, slice_get}
use Rattle.std.proofs.lemmas.Bool.{ltb-true}
use Rattle.std.proofs.lemmas.List.{length-map}
use Rattle.infer_ctx.specs.Words.{Ty-F, fold-roll-Ty, Ty, with_params, replaced_bool, replaced_char, replaced_int, replaced_uint, replaced_tuple, replaced_adt, replaced_fn_def, param_at, types_args_replaced, instance_at_types, Assignment, folded, carried_arg, carried_step, carried_bound, carried_trait, is_carried_type, IsCarriedType, is_carried_arg, carried_type_arg, AreCarriedTypes, carried_tuple, carried_adt, carried_fn_def, type_args, at_args, RawFacts, Scope, has_params, adt_params, types_scope, State}
use Rattle.hir_types.specs.declared.ty.Ty.TheVariants as ty
use Rattle.hir_types.specs.declared.ty.IntegerTy.TheVariants as integer
use Rattle.infer_ctx.specs.Own.{item_params, HasFineHeads, IsFine, IsCarriedIn, Every, AllFine}
use Rattle.infer_ctx.proofs.FineTypes.{every_at, fine_bool, fine_char, fine_integer, fine_tuple, fine_adt, fine_fn_def}
use Rattle.infer_ctx.proofs.OverTypes.{over_fine, carried_closed}
use Rattle.infer_ctx.proofs.Lists.{found}

-- a hole is of no carried kind
hole_not_carried : (n : ℕ) → IsCarriedType (ty.Var n) → {A : Type 0} → A
hole_not_carried n h = absurd (true≢false (sym h ∙ (ap is_carried_type (sym (ty.rolls-Var n)) ∙ fold-roll-Ty Bool Bool Bool Bool carried_arg carried_step carried_bound carried_trait (Ty-F.Var n))))

int_hole_not_carried : (n : ℕ) → IsCarriedType (ty.IntVar n) → {A : Type 0} → A
int_hole_not_carried n h = absurd (true≢false (sym h ∙ (ap is_carried_type (sym (ty.rolls-IntVar n)) ∙ fold-roll-Ty Bool Bool Bool Bool carried_arg carried_step carried_bound carried_trait (Ty-F.IntVar n))))

args_as_types : (ts : List Ty) → list_all is_carried_arg (type_args ts) ≡ list_all is_carried_type ts
args_as_types [] = refl
args_as_types (t ∷ ts) = λ i. carried_type_arg t i && args_as_types ts i

-- ---- types of the signature's own scope, at fine types in the place of parameters
module _ (sc : Scope) (state : State) (facts : RawFacts) (same : facts ≡ sc.facts) (ts : List Ty) (fine : AllFine sc state ts) where
  abbrev Own : Scope
  Own = types_scope facts (length ts)

  -- fine at the types, if it has no holes
  abbrev FineAt : Ty → Type 0
  FineAt t = IsCarriedType t → IsFine sc state (at_args ts t)

  fine_by : (t u : Ty) → at_args ts t ≡ u → IsFine sc state u → IsFine sc state (at_args ts t)
  fine_by t u e h = subst (λ v. IsFine sc state v) (sym e) h

  all_fine_at : (us : List Ty) → Every FineAt us → AreCarriedTypes us → AllFine sc state (map (at_args ts) us)
  all_fine_at [] h c = tt
  all_fine_at (u ∷ us) h c =
      let all = list_all is_carried_type us in
      (h.0 (first_so (is_carried_type u) all c), all_fine_at us h.1 (second_so (is_carried_type u) all c))

  takes : (o p : Option ℕ) (us : List Ty) → o ≡ p → has_params o (length us) ≡ true → has_params p (length (map (at_args ts) us)) ≡ true
  takes o p us e h = ap (has_params p) (length-map us (at_args ts)) ∙ (ap (λ q. has_params q (length us)) (sym e) ∙ h)

  pub fine_at_args : (t : Ty) → HasFineHeads Own t → IsCarriedType t → IsFine sc state (at_args ts t)
  fine_at_args = over_fine Own FineAt (record {
    bool = λ c. fine_by ty.Bool ty.Bool (replaced_bool (with_params (type_args ts))) (fine_bool sc state);
    char = λ c. fine_by ty.Char ty.Char (replaced_char (with_params (type_args ts))) (fine_char sc state);
    int = λ i c. fine_by (ty.Int i) (ty.Int i) (replaced_int (with_params (type_args ts)) i) (fine_integer sc state (integer.Int i));
    uint = λ i c. fine_by (ty.Uint i) (ty.Uint i) (replaced_uint (with_params (type_args ts)) i) (fine_integer sc state (integer.Uint i));
    var = λ n c. hole_not_carried n c;
    int_var = λ n c. int_hole_not_carried n c;
    tuple = λ us h c. fine_by (ty.Tuple us) (ty.Tuple (map (at_args ts) us)) (replaced_tuple (with_params (type_args ts)) us) (fine_tuple sc state (map (at_args ts) us) (all_fine_at us h (sym (carried_tuple us) ∙ c)));
    adt = λ id us k h c.
        let vs = map (at_args ts) us in
        fine_by (ty.Adt id (type_args us)) (ty.Adt id (type_args vs)) (replaced_adt (with_params (type_args ts)) id (type_args us) ∙ ap (ty.Adt id) (types_args_replaced (with_params (type_args ts)) us)) (
        fine_adt sc state id vs (takes (adt_params facts id) (adt_params sc.facts id) us (ap (λ r. adt_params r id) same) k) (all_fine_at us h (sym (args_as_types us) ∙ (sym (carried_adt id (type_args us)) ∙ c)))
        );
    fn_def = λ id us k h c.
        let vs = map (at_args ts) us in
        fine_by (ty.FnDef id (type_args us)) (ty.FnDef id (type_args vs)) (replaced_fn_def (with_params (type_args ts)) id (type_args us) ∙ ap (ty.FnDef id) (types_args_replaced (with_params (type_args ts)) us)) (
        fine_fn_def sc state id vs (takes (item_params facts id) (item_params sc.facts id) us (ap (λ r. item_params r id) same) k) (all_fine_at us h (sym (args_as_types us) ∙ (sym (carried_fn_def id (type_args us)) ∙ c)))
        );
    associated = λ id us k h c. absurd (true≢false (sym k));
    param = λ n k c.
        let q = found ts n (ltb-true n (length ts) k) in
        fine_by (ty.Param n) q.0 (param_at ts n q.0 q.1) (every_at (IsFine sc state) ts n q.0 fine q.1);
  })

-- ---- what a function takes and gives

-- what is known in a signature has no holes
pub known_instance : (a : Assignment) (sc : Scope) (t : Ty) (ts : List Ty) → IsCarriedIn sc t → folded a (at_args ts t) ≡ at_args (map (folded a) ts) t
known_instance a sc t ts h = instance_at_types a ts t (λ b. carried_closed b t h.carried)

module _ (sc : Scope) (state : State) (n : ℕ) (ts : List Ty) (count : length ts ≡ n) (fine : AllFine sc state ts) where
  pub fine_instance : (t : Ty) → IsCarriedIn (types_scope sc.facts n) t → IsFine sc state (at_args ts t)
  fine_instance t h =
      let own : HasFineHeads (types_scope sc.facts (length ts)) t = subst (λ m. HasFineHeads (types_scope sc.facts m) t) (sym count) h.heads in
      fine_at_args sc state sc.facts refl ts fine t own h.carried

  pub fine_instances : (us : List Ty) → ((k : ℕ) (t : Ty) → slice_get us k ≡ Some t → IsCarriedIn (types_scope sc.facts n) t) → AllFine sc state (map (at_args ts) us)
  fine_instances [] h = tt
  fine_instances (u ∷ us) h = (fine_instance u (h 0 u refl), fine_instances us (λ k v e. h (suc k) v e))

-- what is taken under an assignment is what is taken at what the types come to
pub instances_under : (a : Assignment) (sc : Scope) (ts us : List Ty) → ((k : ℕ) (t : Ty) → slice_get us k ≡ Some t → IsCarriedIn sc t) → map (folded a) (map (at_args ts) us) ≡ map (at_args (map (folded a) ts)) us
instances_under a sc ts [] h = refl
instances_under a sc ts (u ∷ us) h = λ i. known_instance a sc u ts (h 0 u refl) i ∷ instances_under a sc ts us (λ k v e. h (suc k) v e) i
