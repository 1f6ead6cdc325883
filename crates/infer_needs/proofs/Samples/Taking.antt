-- Tables of `take(1u8, true)` and of `take(1u8, 'a')` over the facts of `Impls`: what `<u8 as Tr>::Out` is, which the path needs, is listed, and it is
-- said where it is not what stands there.
use Rattle.std.proofs.Common.{ℕ, zero, suc, ◌≡◌, ◌⊎◌, inl, inr, true, List, [], ◌∷◌, ◌++◌, map, refl, sym, ap, subst, ◌∙◌, Some, None, slice_get}
use Rattle.hir_types.specs.declared.ids.CallableDefId.TheVariants as callable
use Rattle.infer_needs.specs.Words.{ExprId, ExprOrPatId, FunctionId, GenericArg, Ty, Ty-F, out-Ty, out-roll-Ty, arg_as_type, Term, hole, pair, term, term_bool, term_char, term_uint, unit, RawBody, RawLiteral, type_args, Asked, implements, projects, only, answers, Proof, type_at, goal_at, Gap, InferenceResult, alias_goal, Given, GoalReads, IsAboutAlias, HasEntry, item_args, needed_goals, needs_at, IsNeeded, HasGap, IsProved, GoalsHold, given as given_in}
use Rattle.hir_types.specs.declared.ids.ExprOrPatId.TheVariants as node
use Rattle.hir_types.specs.declared.ty.Ty.TheVariants as ty
use Rattle.hir_types.specs.declared.ty.UintTy.TheVariants as uint
use Rattle.infer_needs.specs.Words.hir_raw.declared.raw.RawExpr.TheVariants as expr
use Rattle.infer_needs.specs.Words.hir_raw.declared.raw.RawLiteral.TheVariants as literal
use Rattle.infer_needs.specs.Words.hir_raw.declared.raw.RawPath.TheVariants as path
use Rattle.infer_needs.proofs.Words.{hole_filling, type_layer, args_are, e, w, u8, one_u8, body_of, top_arg}
use Rattle.infer_needs.proofs.Samples.Impls.{tr, out, bound, take, facts, own_body, u8_term, bool_term, char_term, implemented, found_as}
use Rattle.infer_needs.proofs.Samples.Sources.{goal_reads_bare, bare_goal_reads, asks_u8}
use Rattle.infer_needs.proofs.Samples.ImplProofs.{by_impl}
use Rattle.infer_needs.proofs.Samples.AliasProofs.{out_is_bool, out_asks, not_char}
use Rattle.infer_needs.proofs.Samples.Needed.{path_node, sources, are_sources}
use Rattle.infer_needs.proofs.Samples.Tables.{proofs, are_proofs, entry, out_known, out_bare, about_out, char_known, found_once}

abbrev pub taking : FunctionId
taking = record { 0 = 2 }

abbrev pub item : List Ty → Ty
item ts = ty.FnDef (callable.FunctionId taking) (type_args ts)

-- the path, the arguments, the call and the block
abbrev body : RawLiteral → RawBody
body l =
    body_of (expr.Path (path.Function taking) ∷ expr.Lit one_u8 ∷ expr.Lit l ∷ expr.Call (e 0) (e 1 ∷ e 2 ∷ []) ∷ expr.Block None [] (Some (e 3)) ∷ []) 4 [] []

abbrev pub given : RawLiteral → Given
given l = given_in facts own_body (body l)

-- where the second argument has this type
abbrev pub table_of : Ty → List Proof → List (Ty × Ty) → List (List Gap) → InferenceResult
table_of t proofs found gaps = record {
  type_of_expr = Some (item (u8 ∷ t ∷ [])) ∷ Some u8 ∷ Some t ∷ Some unit ∷ Some unit ∷ [];
  type_of_pat = [];
  item_of_pat = [];
  type_of_binding = [];
  type_of_placeholder = [];
  binding_modes = [];
  expr_mismatches = None ∷ None ∷ None ∷ None ∷ None ∷ [];
  expr_diagnostics = None ∷ None ∷ None ∷ None ∷ None ∷ [];
  pat_mismatches = [];
  pat_diagnostics = [];
  expr_variants = None ∷ None ∷ None ∷ None ∷ None ∷ [];
  pat_variants = [];
  seen = [];
  proofs = proofs;
  projections = found;
  expr_gaps = gaps;
  pat_gaps = [];
  general = None;
}

-- ---- what nodes need

args_of : (ts : List Ty) → item_args (out-Ty (item ts)) ≡ type_args ts
args_of ts =
    ap item_args (ap out-Ty (sym (ty.rolls-FnDef (callable.FunctionId taking) (type_args ts))) ∙ out-roll-Ty (Ty-F.FnDef (callable.FunctionId taking) (type_args ts)))

-- these two
abbrev pub IsOneOf : Term → Asked → Type 0
IsOneOf x a = (a ≡ implemented u8_term) ⊎ (a ≡ found_as u8_term x)

-- of the path at whatever types
module _ (s t : Ty) (z x : Term) (s_is : term s ≡ z) (t_is : term t ≡ x) where
  abbrev xs : List GenericArg
  xs = type_args (s ∷ t ∷ [])

  at_param : type_at facts xs (w 2) ≡ z
  at_param = type_layer facts xs (w 2) ∙ (ap (λ y. term (arg_as_type y)) (top_arg s) ∙ s_is)

  bound_is : goal_at facts xs (bound (w 2)) ≡ implemented z
  bound_is = λ i. record { kind = implements tr; parts = (args_are facts xs (w 2 ∷ []) ∙ ap only at_param) i }

  alias_is : alias_goal facts xs 1 out (w 2 ∷ []) ≡ found_as z x
  alias_is = λ i. record { kind = projects out; parts = pair ((args_are facts xs (w 2 ∷ []) ∙ ap only at_param) i) ((ap (λ y. term (arg_as_type y)) (top_arg t) ∙ t_is) i) }

  pub path_needs : needed_goals facts (expr.Path (path.Function taking)) (item (s ∷ t ∷ [])) ≡ implemented z ∷ found_as z x ∷ []
  path_needs = ap (λ ys. map (goal_at facts ys) take.preds ++ alias_goal facts ys 1 out (w 2 ∷ []) ∷ []) (args_of (s ∷ t ∷ [])) ∙ (λ i. bound_is i ∷ alias_is i ∷ [])

module _ (l : RawLiteral) (t : Ty) (x : Term) (t_is : term t ≡ x) (ps : List Proof) (js : List (Ty × Ty)) (gs : List (List Gap)) where
  abbrev r : InferenceResult
  r = table_of t ps js gs

  pub needs_are : needs_at facts (body l) r 0 ≡ implemented u8_term ∷ found_as u8_term x ∷ []
  needs_are = path_needs u8 t u8_term x (term_uint uint.U8) t_is

  pub alias_needed : IsNeeded (given l) r path_node (found_as u8_term x)
  alias_needed = record { «at» = 1; among = ap (λ gs. slice_get gs 1) needs_are }

  one_is : (j : ℕ) (a : Asked) → slice_get (implemented u8_term ∷ found_as u8_term x ∷ []) j ≡ Some a → IsOneOf x a
  one_is zero a h = inl cc
  one_is (suc zero) a h = inr cc
  one_is (suc (suc j)) a h = absurd (cc)

  needed_at : (k : ExprId) (m j : ℕ) (a : Asked) → m ≡ k.0 → slice_get (needs_at facts (body l) r m) j ≡ Some a → (path_node ≡ node.ExprId k) × IsOneOf x a
  needed_at k zero j a is h = (ap (λ n. node.ExprId (e n)) is, one_is j a (subst (λ gs. slice_get gs j ≡ Some a) needs_are h))
  needed_at k (suc zero) j a is h = absurd (cc)
  needed_at k (suc (suc zero)) j a is h = absurd (cc)
  needed_at k (suc (suc (suc zero))) j a is h = absurd (cc)
  needed_at k (suc (suc (suc (suc zero)))) j a is h = absurd (cc)
  needed_at k (suc (suc (suc (suc (suc m))))) j a is h = absurd (cc)

  pub needed : (n : ExprOrPatId) (a : Asked) → IsNeeded (given l) r n a → (path_node ≡ n) × IsOneOf x a
  needed (node.ExprId k) a h = needed_at k k.0 h.at a refl h.among
  needed (node.PatId k) a h = (let none : slice_get [] h.at ≡ Some a = h.among in absurd (cc))

module _ (t : Ty) (ps : List Proof) (js : List (Ty × Ty)) where
  pub no_gap : (n : ExprOrPatId) (y : Gap) → HasGap (table_of t ps js []) n y → ⊥
  no_gap (node.ExprId k) y h = (let none : slice_get [] k.0 ≡ Some h.gaps = h.at in cc)
  no_gap (node.PatId k) y h = (let none : slice_get [] k.0 ≡ Some h.gaps = h.at in cc)

-- ---- refused

abbrev pub yes : RawLiteral
yes = literal.Bool true

abbrev pub letter : RawLiteral
letter = literal.Char 97

-- without an entry for what the path needs, whatever proofs are listed
pub no_entry : (ps : List Proof) → GoalsHold own_body (given yes) (table_of ty.Bool ps [] []) → ⊥
no_entry ps h =
    let a = found_as u8_term bool_term in
    elim (h.entries path_node a a (alias_needed yes ty.Bool bool_term term_bool ps [] []) out_known (bare_goal_reads h.system 8 a out_bare) about_out) [
      | inl found ↦ (let none = found.3.1 in cc)
      | inr other ↦ elim other [
        | inl clash ↦ no_gap ty.Bool ps [] path_node _ clash.4
        | inr said ↦ no_gap ty.Bool ps [] path_node _ said.1
      ]
    ]

-- where another type stands than `<u8 as Tr>::Out` is, without a complaint, whatever else is listed
pub other_type : (ps : List Proof) (js : List (Ty × Ty)) → GoalsHold own_body (given letter) (table_of ty.Char ps js []) → ⊥
other_type ps js h =
    elim (h.needs path_node (found_as u8_term char_term) (alias_needed letter ty.Char char_term term_char ps js [])) [
      | inl proved ↦ not_char h.system h.of_item (answers h.system 8).Alias hole ps proved.number proved.proof proved.listed proved.goal (h.proofs hole hole_filling)
      | inr other ↦ elim other [
        | inl said ↦ no_gap ty.Char ps js path_node _ said.1
        | inr unknown ↦ char_known unknown.0
      ]
    ]

-- ---- taken

abbrev right : InferenceResult
right = table_of ty.Bool proofs (entry ∷ []) []

is_proved : (a : Asked) → IsOneOf bool_term a → IsProved right a
is_proved a (inl is) = record { number = 0; proof = by_impl u8 0 [] []; listed = refl; goal = asks_u8 ∙ sym is }
is_proved a (inr is) = record { number = 1; proof = out_is_bool; listed = refl; goal = out_asks ∙ sym is }

has_entry : (a b : Asked) → GoalReads sources 8 a b → IsAboutAlias b → IsOneOf bool_term a → HasEntry right.projections b
has_entry a b reads about (inl is) = (let clash : implements tr ≡ projects about.alias = sym (ap (λ (y : Asked). y.kind) is) ∙ (sym reads.kind ∙ about.is) in absurd (cc))
has_entry a b reads about (inr is) =
    let itself : b ≡ found_as u8_term bool_term = goal_reads_bare sources 8 (found_as u8_term bool_term) b out_bare (subst (λ x. GoalReads sources 8 x b) is reads) in
    (out, type_args (u8 ∷ []), ty.Bool, (0, refl), out_asks ∙ sym itself)

pub with_entry : GoalsHold own_body (given yes) right
with_entry = record {
  system = sources;
  of_item = are_sources;
  proofs = λ s filling. are_proofs (answers sources 8).Alias s;
  needs = λ n a h. inl (is_proved a (needed yes ty.Bool bool_term term_bool proofs (entry ∷ []) [] n a h).1);
  gaps = λ n x h. absurd (no_gap ty.Bool proofs (entry ∷ []) n x h);
  once = λ n x y h k same. absurd (no_gap ty.Bool proofs (entry ∷ []) n x h);
  found = found_once right refl refl;
  entries = λ n a b h known reads about. inl (has_entry a b reads about (needed yes ty.Bool bool_term term_bool proofs (entry ∷ []) [] n a h).1);
}
