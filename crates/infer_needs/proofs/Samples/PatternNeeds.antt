-- Tables of `fn g(o: H<u8>) { let H(x) = o; }` over the facts of `Impls`: the pattern needs that `<u8 as Tr>::Out` is the type that stands in its item.
use Rattle.std.proofs.Common.{ℕ, zero, suc, ◌≡◌, inl, inr, List, [], ◌∷◌, refl, sym, ap, subst, ◌∙◌, Some, None, slice_get}
use Rattle.hir_types.specs.declared.ids.CallableDefId.TheVariants as callable
use Rattle.infer_needs.specs.Words.{ExprOrPatId, GenericArg, Ty, Ty-F, out-Ty, out-roll-Ty, arg_as_type, Term, hole, pair, term, term_bool, term_char, term_error, term_uint, unit, RawBody, type_args, Asked, projects, only, answers, Proof, type_at, Gap, InferenceResult, alias_goal, Given, GoalReads, HasEntry, needs_at, pat_needs_by, pat_needs_at, IsNeeded, HasGap, IsProved, GoalsHold, given as given_in}
use Rattle.hir_types.specs.declared.ids.ExprOrPatId.TheVariants as node
use Rattle.hir_types.specs.declared.ty.Ty.TheVariants as ty
use Rattle.hir_types.specs.declared.ty.UintTy.TheVariants as uint
use Rattle.infer_needs.specs.Words.hir_raw.declared.raw.RawExpr.TheVariants as expr
use Rattle.infer_needs.specs.Words.hir_raw.declared.raw.RawPat.TheVariants as pat
use Rattle.infer_needs.specs.Words.hir_raw.declared.raw.RawPath.TheVariants as path
use Rattle.infer_needs.specs.Words.hir_raw.declared.raw.RawStmt.TheVariants as stmt
use Rattle.infer_needs.proofs.Words.{hole_filling, type_layer, args_are, e, p, b, w, u8, plain, body_with, top_arg, v}
use Rattle.infer_result.specs.declared.modes.BindingMode.TheVariants as mode
use Rattle.infer_needs.proofs.Samples.Impls.{out, facts, own_body, u8_term, bool_term, char_term, found_as}
use Rattle.infer_needs.proofs.Samples.Sources.{goal_reads_bare, bare_goal_reads}
use Rattle.infer_needs.proofs.Samples.AliasProofs.{unknown, out_is_bool, out_asks, not_char, not_unknown}
use Rattle.infer_needs.proofs.Samples.LeftUnknown.{readable}
use Rattle.infer_needs.proofs.Samples.Needed.{sources, are_sources}
use Rattle.infer_needs.proofs.Samples.Tables.{proofs, are_proofs, entry, out_known, out_bare, about_out, char_known, found_once}

abbrev body : RawBody
body =
    body_with (p 0 ∷ []) (expr.Path (path.Local (b 0)) ∷ expr.Block None (stmt.Let (p 1) None (Some (e 0)) None ∷ []) None ∷ []) 1
    (pat.Bind (b 0) None ∷ pat.TupleStruct (v 1) (p 2 ∷ []) ∷ pat.Bind (b 1) None ∷ []) (plain ∷ plain ∷ [])

abbrev given : Given
given = given_in facts own_body body

abbrev whole : Ty
whole = ty.Adt (record { 0 = 1 }) (type_args (u8 ∷ []))

-- the constructor at `u8`, where the associated type is this type
abbrev item : Ty → Ty
item t = ty.FnDef (callable.VariantId (v 1)) (type_args (u8 ∷ t ∷ []))

abbrev table_of : Ty → List Proof → List (Ty × Ty) → InferenceResult
table_of t proofs found = record {
  type_of_expr = Some whole ∷ Some unit ∷ [];
  type_of_pat = Some whole ∷ Some whole ∷ Some t ∷ [];
  item_of_pat = None ∷ Some (item t) ∷ None ∷ [];
  type_of_binding = Some whole ∷ Some t ∷ [];
  type_of_placeholder = [];
  binding_modes = Some mode.Move ∷ None ∷ Some mode.Move ∷ [];
  expr_mismatches = None ∷ None ∷ [];
  expr_diagnostics = None ∷ None ∷ [];
  pat_mismatches = None ∷ None ∷ None ∷ [];
  pat_diagnostics = None ∷ None ∷ None ∷ [];
  expr_variants = None ∷ None ∷ [];
  pat_variants = None ∷ Some (v 1) ∷ None ∷ [];
  seen = [];
  proofs = proofs;
  projections = found;
  expr_gaps = [];
  pat_gaps = [];
  general = None;
}

abbrev pattern : ExprOrPatId
pattern = node.PatId (p 1)

-- ---- what nodes need

top_item : (xs : List GenericArg) → out-Ty (ty.FnDef (callable.VariantId (v 1)) xs) ≡ Ty-F.FnDef (callable.VariantId (v 1)) xs
top_item xs = ap out-Ty (sym (ty.rolls-FnDef (callable.VariantId (v 1)) xs)) ∙ out-roll-Ty (Ty-F.FnDef (callable.VariantId (v 1)) xs)

module _ (t : Ty) (x : Term) (t_is : term t ≡ x) (ps : List Proof) (js : List (Ty × Ty)) where
  abbrev r : InferenceResult
  r = table_of t ps js

  abbrev xs : List GenericArg
  xs = type_args (u8 ∷ t ∷ [])

  at_param : type_at facts xs (w 2) ≡ u8_term
  at_param = type_layer facts xs (w 2) ∙ (ap (λ z. term (arg_as_type z)) (top_arg u8) ∙ term_uint uint.U8)

  alias_is : alias_goal facts xs 1 out (w 2 ∷ []) ≡ found_as u8_term x
  alias_is = λ i. record { kind = projects out; parts = pair ((args_are facts xs (w 2 ∷ []) ∙ ap only at_param) i) ((ap (λ z. term (arg_as_type z)) (top_arg t) ∙ t_is) i) }

  needs_are : pat_needs_at facts r 1 ≡ found_as u8_term x ∷ []
  needs_are = ap (pat_needs_by facts) (top_item xs) ∙ ap (λ g. g ∷ []) alias_is

  pattern_needs : IsNeeded given r pattern (found_as u8_term x)
  pattern_needs = record { «at» = 0; among = ap (λ gs. slice_get gs 0) needs_are }

  no_gap : (n : ExprOrPatId) (y : Gap) → HasGap r n y → ⊥
  no_gap (node.ExprId k) y h = (let none : slice_get [] k.0 ≡ Some h.gaps = h.at in cc)
  no_gap (node.PatId k) y h = (let none : slice_get [] k.0 ≡ Some h.gaps = h.at in cc)

  one_is : (j : ℕ) (a : Asked) → slice_get (found_as u8_term x ∷ []) j ≡ Some a → a ≡ found_as u8_term x
  one_is zero a h = cc
  one_is (suc j) a h = absurd (cc)

  of_expr : (k j : ℕ) (a : Asked) → slice_get (needs_at facts body r k) j ≡ Some a → ⊥
  of_expr zero j a h = cc
  of_expr (suc zero) j a h = cc
  of_expr (suc (suc k)) j a h = cc

  of_pat : (k j : ℕ) (a : Asked) → slice_get (pat_needs_at facts r k) j ≡ Some a → a ≡ found_as u8_term x
  of_pat zero j a h = absurd (cc)
  of_pat (suc zero) j a h = one_is j a (subst (λ gs. slice_get gs j ≡ Some a) needs_are h)
  of_pat (suc (suc zero)) j a h = absurd (cc)
  of_pat (suc (suc (suc k))) j a h = absurd (cc)

  needed : (n : ExprOrPatId) (a : Asked) → IsNeeded given r n a → a ≡ found_as u8_term x
  needed (node.ExprId k) a h = absurd (of_expr k.0 h.at a h.among)
  needed (node.PatId k) a h = of_pat k.0 h.at a h.among

-- ---- refused

-- neither a proof of what the pattern needs nor a complaint, whatever else is listed
pub nothing_said : (js : List (Ty × Ty)) → GoalsHold own_body given (table_of ty.Bool [] js) → ⊥
nothing_said js h =
    elim (h.needs pattern (found_as u8_term bool_term) (pattern_needs ty.Bool bool_term term_bool [] js)) [
      | inl proved ↦ (let none = proved.listed in cc)
      | inr other ↦ elim other [ inl said ↦ no_gap ty.Bool bool_term term_bool [] js pattern _ said.1 | inr unknown ↦ out_known unknown.0 ]
    ]

-- without an entry, whatever proofs are listed
pub no_entry : (ps : List Proof) → GoalsHold own_body given (table_of ty.Bool ps []) → ⊥
no_entry ps h =
    let a = found_as u8_term bool_term in
    elim (h.entries pattern a a (pattern_needs ty.Bool bool_term term_bool ps []) out_known (bare_goal_reads h.system 8 a out_bare) about_out) [
      | inl found ↦ (let none = found.3.1 in cc)
      | inr other ↦ elim other [
        | inl clash ↦ no_gap ty.Bool bool_term term_bool ps [] pattern _ clash.4
        | inr said ↦ no_gap ty.Bool bool_term term_bool ps [] pattern _ said.1
      ]
    ]

-- where another type stands in the item than `<u8 as Tr>::Out` is, without a complaint, whatever else is listed
pub other_type : (ps : List Proof) (js : List (Ty × Ty)) → GoalsHold own_body given (table_of ty.Char ps js) → ⊥
other_type ps js h =
    elim (h.needs pattern (found_as u8_term char_term) (pattern_needs ty.Char char_term term_char ps js)) [
      | inl proved ↦ not_char h.system h.of_item (answers h.system 8).Alias hole ps proved.number proved.proof proved.listed proved.goal (h.proofs hole hole_filling)
      | inr other ↦ elim other [ inl said ↦ no_gap ty.Char char_term term_char ps js pattern _ said.1 | inr unknown ↦ char_known unknown.0 ]
    ]

-- where `{unknown}` stands in the item, which could have been read, without a complaint, whatever else is listed
pub left_unknown : (ps : List Proof) (js : List (Ty × Ty)) → GoalsHold own_body given (table_of ty.Error ps js) → ⊥
left_unknown ps js h =
    elim (h.needs pattern (found_as u8_term unknown) (pattern_needs ty.Error unknown term_error ps js)) [
      | inl proved ↦ not_unknown h.system h.of_item (answers h.system 8).Alias hole ps proved.number proved.proof proved.listed proved.goal (h.proofs hole hole_filling)
      | inr other ↦ elim other [
        | inl said ↦ no_gap ty.Error unknown term_error ps js pattern _ said.1
        | inr may ↦ may.1 (inr (readable h.system h.of_item))
      ]
    ]

-- ---- taken

abbrev right : InferenceResult
right = table_of ty.Bool proofs (entry ∷ [])

is_proved : (a : Asked) → a ≡ found_as u8_term bool_term → IsProved right a
is_proved a is = record { number = 1; proof = out_is_bool; listed = refl; goal = out_asks ∙ sym is }

has_entry : (a b : Asked) → GoalReads sources 8 a b → a ≡ found_as u8_term bool_term → HasEntry right.projections b
has_entry a b reads is =
    let itself : b ≡ found_as u8_term bool_term = goal_reads_bare sources 8 (found_as u8_term bool_term) b out_bare (subst (λ x. GoalReads sources 8 x b) is reads) in
    (out, type_args (u8 ∷ []), ty.Bool, (0, refl), out_asks ∙ sym itself)

pub with_entry : GoalsHold own_body given right
with_entry = record {
  system = sources;
  of_item = are_sources;
  proofs = λ s filling. are_proofs (answers sources 8).Alias s;
  needs = λ n a h. inl (is_proved a (needed ty.Bool bool_term term_bool proofs (entry ∷ []) n a h));
  gaps = λ n x h. absurd (no_gap ty.Bool bool_term term_bool proofs (entry ∷ []) n x h);
  once = λ n x y h k same. absurd (no_gap ty.Bool bool_term term_bool proofs (entry ∷ []) n x h);
  found = found_once right refl refl;
  entries = λ n a b h known reads about. inl (has_entry a b reads (needed ty.Bool bool_term term_bool proofs (entry ∷ []) n a h));
}
