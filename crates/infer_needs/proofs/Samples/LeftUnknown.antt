-- A table of `take(1u8, x)` over the facts of `Impls` in which `{unknown}` stands in the place of `<u8 as Tr>::Out`, though this is `bool`: it is refused.
use Rattle.std.proofs.Common.{inl, inr, true≢false, List, [], ◌∷◌, refl, sym, subst}
use Rattle.hir_types.specs.declared.ty.Ty.TheVariants as ty
use Rattle.infer_needs.specs.Words.{Ty, hole, term_bool, term_error, Scope, scope_of, type_args, whole, IsMadeOf, AreOf, answers, System, Proof, IsSystemOf, IsReadable, is_read_head, CanStand, GoalsHold}
use Rattle.infer_needs.proofs.Words.{hole_filling, u8}
use Rattle.infer_needs.proofs.Samples.Impls.{out, facts, own, own_body, u8_term, found_as}
use Rattle.infer_needs.proofs.Samples.Sources.{asks_out_is, neither, nothing}
use Rattle.infer_needs.proofs.Samples.AliasProofs.{unknown, not_unknown}
use Rattle.infer_needs.proofs.Samples.Needed.{path_node}
use Rattle.infer_needs.proofs.Samples.Left.{reads_bool}
use Rattle.infer_needs.proofs.Samples.Taking.{letter, given, table_of, alias_needed, no_gap}

abbrev sc : Scope
sc = scope_of facts own_body

-- `bool` can stand in the body
bool_stands : CanStand sc ty.Bool
bool_stands = record {
  heads = subst (IsMadeOf (is_read_head sc) whole) (sym term_bool) (refl, tt);
  holes = subst (AreOf []) (sym term_bool) (λ k h. absurd (true≢false (sym h)));
}

-- so what stands there could have been read
pub readable : (s : System) → IsSystemOf facts own s → IsReadable sc s 8 (found_as u8_term unknown)
readable s of = record {
  alias = out;
  args = type_args (u8 ∷ []);
  type = ty.Error;
  is = asks_out_is ty.Error unknown term_error;
  known = neither (neither nothing (neither nothing nothing)) nothing;
  read = ty.Bool;
  reads = (reads_bool s of 7, bool_stands);
}

-- without a complaint, whatever is listed
pub left_unknown : (ps : List Proof) (js : List (Ty × Ty)) → GoalsHold own_body (given letter) (table_of ty.Error ps js []) → ⊥
left_unknown ps js h =
    elim (h.needs path_node (found_as u8_term unknown) (alias_needed letter ty.Error unknown term_error ps js [])) [
      | inl proved ↦ not_unknown h.system h.of_item (answers h.system 8).Alias hole ps proved.number proved.proof proved.listed proved.goal (h.proofs hole hole_filling)
      | inr other ↦ elim other [
        | inl said ↦ no_gap ty.Error ps js path_node _ said.1
        | inr may ↦ may.1 (inr (readable h.system h.of_item))
      ]
    ]
