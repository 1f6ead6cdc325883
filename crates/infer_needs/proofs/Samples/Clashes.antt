-- Tables of `{ take; take; }` in the scope of `both`, over the facts of `Impls`: the first path takes `bool` and `u8`, the other `<u8 as Tr>::Out` and
-- `char`. What they need of it reads as that `<bool as Tr>::Out` is `u8`, and that it is `char`: that is to be said.
use Rattle.std.proofs.Common.{ℕ, zero, suc, ◌≡◌, ◌⊎◌, inl, inr, true, List, [], ◌∷◌, map, refl, sym, ap, subst, ◌∙◌, Some, None, slice_get}
use Rattle.hir_types.specs.declared.goal.Goal.TheVariants as goal
use Rattle.infer_needs.specs.Words.{DefWithBodyId, ExprId, ExprOrPatId, TypeAliasId, GenericArg, Ty, Same, erased_tells, Term, hole, pair, chain, term, arg_term, term_bool, term_char, term_uint, unit, RawBody, type_args, answers, Asked, System, implements, projects, only, alias_at, staying, Proof, asked_goal, IsSystemOf, Gap, InferenceResult, needs_at, scope_item, IsNeeded, HasGap, HoldsUnknown, HoldsNoHole, IsProved, IsUnproved, IsClash, IsTrueClash, IsTrueGap, GoalsHold, Given, GoalReads, IsAboutAlias, IsFound, AreFound, HasEntry, given as given_in}
use Rattle.hir_types.specs.declared.ids.DefWithBodyId.TheVariants as def
use Rattle.hir_types.specs.declared.ids.ExprOrPatId.TheVariants as node
use Rattle.hir_types.specs.declared.ty.Ty.TheVariants as ty
use Rattle.hir_types.specs.declared.ty.UintTy.TheVariants as uint
use Rattle.infer_needs.specs.Words.hir_raw.declared.raw.RawExpr.TheVariants as expr
use Rattle.infer_needs.specs.Words.hir_raw.declared.raw.RawPath.TheVariants as path
use Rattle.infer_needs.specs.Words.hir_raw.declared.raw.RawStmt.TheVariants as stmt
use Rattle.infer_needs.proofs.Words.{answers_sound, read_reads, reads_one, e, u8, body_of}
use Rattle.infer_result.specs.declared.gaps.Gap.TheVariants as gap
use Rattle.infer_needs.proofs.Samples.Impls.{tr, out, facts, u8_term, bool_term, char_term, implemented, found_as}
use Rattle.infer_needs.proofs.Samples.Sources.{IsBare, goal_reads_bare, bare_goal_reads, neither, nothing, asks_bool}
use Rattle.infer_needs.proofs.Samples.Left.{alias, alias_term}
use Rattle.infer_needs.proofs.Samples.Taking.{taking, item, path_needs}
use Rattle.infer_needs.proofs.Samples.Entries.{out_of, is_found}
use Rattle.infer_needs.proofs.Samples.BoolArgs.{bool_args}
use Rattle.infer_needs.proofs.Samples.Clashing.{both, clashing, are_clashing, args_read, trait_proof, u8_proof, char_proof, alias_proof, alias_char_proof, proofs, are_proofs, asks_alias, out_u8, out_char, alias_char}

abbrev body : RawBody
body =
    body_of (expr.Path (path.Function taking) ∷ expr.Path (path.Function taking) ∷ expr.Block None (stmt.Expr (e 0) true ∷ stmt.Expr (e 1) true ∷ []) None ∷ []) 2 [] []

abbrev both_body : DefWithBodyId
both_body = def.FunctionId both

abbrev given : Given
given = given_in facts both_body body

abbrev table_of : List Proof → List (Ty × Ty) → List (List Gap) → InferenceResult
table_of proofs found gaps = record {
  type_of_expr = Some (item (ty.Bool ∷ u8 ∷ [])) ∷ Some (item (alias ∷ ty.Char ∷ [])) ∷ Some unit ∷ [];
  type_of_pat = [];
  item_of_pat = [];
  type_of_binding = [];
  type_of_placeholder = [];
  binding_modes = [];
  expr_mismatches = None ∷ None ∷ None ∷ [];
  expr_diagnostics = None ∷ None ∷ None ∷ [];
  pat_mismatches = [];
  pat_diagnostics = [];
  expr_variants = None ∷ None ∷ None ∷ [];
  pat_variants = [];
  seen = [];
  proofs = proofs;
  projections = found;
  expr_gaps = gaps;
  pat_gaps = [];
  general = None;
}

abbrev first : ExprOrPatId
first = node.ExprId (e 0)

abbrev second : ExprOrPatId
second = node.ExprId (e 1)

-- ---- what nodes need

abbrev written : Term
written = alias_at out (only u8_term)

abbrev IsOneOf : Term → Term → Asked → Type 0
IsOneOf y x a = (a ≡ implemented y) ⊎ (a ≡ found_as y x)

abbrev AreNeeds : ExprOrPatId → Asked → Type 0
AreNeeds n a = ((first ≡ n) × IsOneOf bool_term u8_term a) ⊎ ((second ≡ n) × IsOneOf written char_term a)

one_of : (y x : Term) (j : ℕ) (a : Asked) → slice_get (implemented y ∷ found_as y x ∷ []) j ≡ Some a → IsOneOf y x a
one_of y x zero a h = inl cc
one_of y x (suc zero) a h = inr cc
one_of y x (suc (suc j)) a h = absurd (cc)

module _ (ps : List Proof) (js : List (Ty × Ty)) (gs : List (List Gap)) where
  abbrev r : InferenceResult
  r = table_of ps js gs

  first_needs : needs_at facts body r 0 ≡ implemented bool_term ∷ found_as bool_term u8_term ∷ []
  first_needs = path_needs ty.Bool u8 bool_term u8_term term_bool (term_uint uint.U8)

  second_needs : needs_at facts body r 1 ≡ implemented written ∷ found_as written char_term ∷ []
  second_needs = path_needs alias ty.Char written char_term alias_term term_char

  first_needed : IsNeeded given r first (found_as bool_term u8_term)
  first_needed = record { «at» = 1; among = ap (λ qs. slice_get qs 1) first_needs }

  second_needed : IsNeeded given r second (found_as written char_term)
  second_needed = record { «at» = 1; among = ap (λ qs. slice_get qs 1) second_needs }

  needed_at : (k : ExprId) (m j : ℕ) (a : Asked) → m ≡ k.0 → slice_get (needs_at facts body r m) j ≡ Some a → AreNeeds (node.ExprId k) a
  needed_at k zero j a is h = inl (ap (λ n. node.ExprId (e n)) is, one_of bool_term u8_term j a (subst (λ qs. slice_get qs j ≡ Some a) first_needs h))
  needed_at k (suc zero) j a is h = inr (ap (λ n. node.ExprId (e n)) is, one_of written char_term j a (subst (λ qs. slice_get qs j ≡ Some a) second_needs h))
  needed_at k (suc (suc zero)) j a is h = absurd (cc)
  needed_at k (suc (suc (suc m))) j a is h = absurd (cc)

  needed : (n : ExprOrPatId) (a : Asked) → IsNeeded given r n a → AreNeeds n a
  needed (node.ExprId k) a h = needed_at k k.0 h.at a refl h.among
  needed (node.PatId k) a h = (let none : slice_get [] h.at ≡ Some a = h.among in absurd (cc))

-- ---- as what they read

u8_bare : IsBare (found_as bool_term u8_term).parts
u8_bare = (((tt, (tt, tt)), tt), (tt, tt))

second_reads : (s : System) → IsSystemOf facts (scope_item facts both_body) s → GoalReads s 8 (found_as written char_term) (found_as bool_term char_term)
second_reads s of = record { kind = refl; parts = (only bool_term, char_term, refl, args_read s 7 of, read_reads (answers s 8).Alias char_term (tt, tt)) }

-- and as nothing else
second_read : (b : Asked) → GoalReads clashing 8 (found_as written char_term) b → b ≡ found_as bool_term char_term
second_read b r =
    let A = (answers clashing 8).Alias in
    let parts : b.parts ≡ pair (only bool_term) char_term =
    reads_one A (answers_sound clashing 8).one hole (pair (only written) char_term) b.parts (pair (only bool_term) char_term) r.parts (second_reads clashing are_clashing).parts in
    λ i. record { kind = r.kind i; parts = parts i }

-- `{unknown}` stands in none of them
bool_known : HoldsUnknown (only bool_term) → ⊥
bool_known = neither (neither nothing (neither nothing nothing)) nothing

written_known : HoldsUnknown (only written) → ⊥
written_known = neither (neither nothing (neither nothing (neither (neither nothing (neither nothing nothing)) nothing))) nothing

leaf_known : ⊥ ⊎ ⊥ → ⊥
leaf_known = neither nothing nothing

no_u8 : (y : Term) → u8_term ≡ staying out y → ⊥
no_u8 y h = cc

no_char : (y : Term) → char_term ≡ staying out y → ⊥
no_char y h = cc

about_u8 : IsAboutAlias (found_as bool_term u8_term)
about_u8 = record { alias = out; is = refl; known = neither bool_known leaf_known; other = λ h. no_u8 (only bool_term) h }

about_char : IsAboutAlias (found_as bool_term char_term)
about_char = record { alias = out; is = refl; known = neither bool_known leaf_known; other = λ h. no_char (only bool_term) h }

-- ---- refused

terms_differ : u8_term ≡ char_term → ⊥
terms_differ h = cc

-- the entry of such a goal has the associated type of `bool` on its left
left_is : (k : TypeAliasId) (xs : List GenericArg) (t : Ty) (x : Term) → asked_goal (goal.Projection k xs t) ≡ found_as bool_term x → (ty.Projection k xs ≡ out_of ty.Bool) × (term t ≡ x)
left_is k xs t x is =
    let kinds : projects k ≡ projects out = ap (λ (a : Asked). a.kind) is in
    let same : k ≡ out = cc in
    let parts : pair (chain (map arg_term xs)) (term t) ≡ pair (only bool_term) x = ap (λ (a : Asked). a.parts) is in
    let args : chain (map arg_term xs) ≡ only bool_term = cc in
    let args_same : xs ≡ type_args (ty.Bool ∷ []) = bool_args xs args in
    ((λ i. ty.Projection (same i) (args_same i)), cc)

only_one : (x y : Ty × Ty) → Some x ≡ Some y → x ≡ y
only_one x y h = cc

-- no table lists it as both
one_type : (r : InferenceResult) → AreFound r → HasEntry r.projections (found_as bool_term u8_term) → HasEntry r.projections (found_as bool_term char_term) → ⊥
one_type r found (k, xs, t, (i, here), is) (m, ys, u, (j, there), same) =
    let a = left_is k xs t u8_term is in
    let c = left_is m ys u char_term same in
    let places : i ≡ j = found.once i j (ty.Projection k xs, t) (ty.Projection m ys, u) here there (a.0 ∙ sym c.0) in
    let same_place : Some (ty.Projection k xs, t) ≡ Some (ty.Projection m ys, u) = sym here ∙ (ap (slice_get r.projections) places ∙ there) in
    let one : (ty.Projection k xs, t) ≡ (ty.Projection m ys, u) = only_one (ty.Projection k xs, t) (ty.Projection m ys, u) same_place in
    terms_differ (sym a.1 ∙ (ap (λ (z : Ty × Ty). term z.1) one ∙ c.1))

module _ (ps : List Proof) (js : List (Ty × Ty)) where
  abbrev silent : InferenceResult
  silent = table_of ps js []

  no_gap : (n : ExprOrPatId) (y : Gap) → HasGap silent n y → ⊥
  no_gap (node.ExprId k) y h = (let none : slice_get [] k.0 ≡ Some h.gaps = h.at in cc)
  no_gap (node.PatId k) y h = (let none : slice_get [] k.0 ≡ Some h.gaps = h.at in cc)

  listed : (n : ExprOrPatId) (a b : Asked) → HasEntry js b ⊎ (IsClash silent n b ⊎ IsUnproved silent n a) → HasEntry js b
  listed n a b (inl found) = found
  listed n a b (inr (inl clash)) = absurd (no_gap n _ clash.4)
  listed n a b (inr (inr said)) = absurd (no_gap n _ said.1)

  -- where nothing is said, whatever proofs and entries are listed
  pub nothing_said : GoalsHold both_body given silent → ⊥
  nothing_said h =
      let a = found_as bool_term u8_term in
      let c = found_as written char_term in
      let d = found_as bool_term char_term in
      one_type silent h.found
      (listed first a a (h.entries first a a (first_needed ps js []) (neither bool_known leaf_known) (bare_goal_reads h.system 8 a u8_bare) about_u8))
      (listed second c d (h.entries second c d (second_needed ps js []) (neither written_known leaf_known) (second_reads h.system h.of_item) about_char))

-- ---- taken: with the entry that it is `u8`, and said at the other path that it is `char` as well

abbrev entry : Ty × Ty
entry = (out_of ty.Bool, u8)

abbrev clash : Gap
clash = gap.Clash second (out_of ty.Bool) u8 ty.Char

abbrev right : InferenceResult
right = table_of proofs (entry ∷ []) ([] ∷ (clash ∷ []) ∷ [])

u8_proved : IsProved right (found_as bool_term u8_term)
u8_proved = record { number = 1; proof = u8_proof; listed = refl; goal = out_u8 }

types_differ : Same u8 ty.Char → ⊥
types_differ h = terms_differ (sym (term_uint uint.U8) ∙ (erased_tells u8 ty.Char h ∙ term_char))

pub true_clash : IsTrueClash given clashing right second (out_of ty.Bool) u8 ty.Char
true_clash = record {
  alias = out;
  args = type_args (ty.Bool ∷ []);
  is = refl;
  listed = (0, refl);
  need = found_as written char_term;
  needed = second_needed proofs (entry ∷ []) ([] ∷ (clash ∷ []) ∷ []);
  reads = subst (GoalReads clashing 8 (found_as written char_term)) (sym out_char) (second_reads clashing are_clashing);
  proved = record { number = 2; proof = char_proof; listed = refl; goal = refl };
  differ = types_differ;
  other = λ h. no_char (chain (map arg_term (type_args (ty.Bool ∷ [])))) (sym term_char ∙ h);
  whole = subst (λ (a : Asked). HoldsNoHole a.parts) (sym out_char) (((tt, (tt, tt)), tt), (tt, tt));
}

-- it is all that is said
one_gap : (j : ℕ) (x : Gap) → slice_get (clash ∷ []) j ≡ Some x → (clash ≡ x) × (j ≡ 0)
one_gap zero x h = (cc, refl)
one_gap (suc j) x h = absurd (cc)

gap_at : (k : ExprId) (m j : ℕ) (gs : List Gap) (x : Gap) → m ≡ k.0 → slice_get right.expr_gaps m ≡ Some gs → slice_get gs j ≡ Some x → (second ≡ node.ExprId k) × (clash ≡ x) × (j ≡ 0)
gap_at k zero j gs x is here among =
    (let empty : [] ≡ gs = cc in let none : slice_get [] j ≡ Some x = subst (λ ys. slice_get ys j ≡ Some x) (sym empty) among in absurd (cc))
gap_at k (suc zero) j gs x is here among =
    let one : clash ∷ [] ≡ gs = cc in
    let it = one_gap j x (subst (λ ys. slice_get ys j ≡ Some x) (sym one) among) in
    (ap (λ n. node.ExprId (e n)) is, it.0, it.1)
gap_at k (suc (suc m)) j gs x is here among = absurd (cc)

gap_is : (n : ExprOrPatId) (x : Gap) (h : HasGap right n x) → (second ≡ n) × (clash ≡ x) × (h.number ≡ 0)
gap_is (node.ExprId k) x h = gap_at k k.0 h.number h.gaps x refl h.at h.listed
gap_is (node.PatId k) x h = (let none : slice_get [] k.0 ≡ Some h.gaps = h.at in absurd (cc))

has_gap : HasGap right second clash
has_gap = record { gaps = clash ∷ []; «at» = refl; number = 0; listed = refl }

true_gap : (n : ExprOrPatId) (x : Gap) → HasGap right n x → IsTrueGap given clashing right n x
true_gap n x h =
    let is = gap_is n x h in
    subst (IsTrueGap given clashing right n) is.1 (subst (λ m. IsTrueGap given clashing right m clash) is.0 (refl, true_clash))

proved_by : (a : Asked) (k : ℕ) (x : Proof) → slice_get proofs k ≡ Some x → asked_goal x.goal ≡ a → IsProved right a
proved_by a k x at is = record { number = k; proof = x; listed = at; goal = is }

is_proved : (n : ExprOrPatId) (a : Asked) → AreNeeds n a → IsProved right a
is_proved n a (inl (at, inl is)) = proved_by a 0 trait_proof refl (asks_bool ∙ sym is)
is_proved n a (inl (at, inr is)) = proved_by a 1 u8_proof refl (out_u8 ∙ sym is)
is_proved n a (inr (at, inl is)) = proved_by a 3 alias_proof refl (asks_alias ∙ sym is)
is_proved n a (inr (at, inr is)) = proved_by a 4 alias_char_proof refl (alias_char ∙ sym is)

abbrev IsSaid : ExprOrPatId → Asked → Asked → Type 0
IsSaid n a b = HasEntry right.projections b ⊎ (IsClash right n b ⊎ IsUnproved right n a)

no_trait : (y : Term) (a b : Asked) → a ≡ implemented y → GoalReads clashing 8 a b → IsAboutAlias b → ⊥
no_trait y a b is reads about = (let clash : implements tr ≡ projects about.alias = sym (ap (λ (z : Asked). z.kind) is) ∙ (sym reads.kind ∙ about.is) in cc)

is_said : (n : ExprOrPatId) (a b : Asked) → AreNeeds n a → GoalReads clashing 8 a b → IsAboutAlias b → IsSaid n a b
is_said n a b (inl (at, inl is)) reads about = absurd (no_trait bool_term a b is reads about)
is_said n a b (inl (at, inr is)) reads about =
    let itself : b ≡ found_as bool_term u8_term = goal_reads_bare clashing 8 (found_as bool_term u8_term) b u8_bare (subst (λ x. GoalReads clashing 8 x b) is reads) in
    inl (out, type_args (ty.Bool ∷ []), u8, (0, refl), out_u8 ∙ sym itself)
is_said n a b (inr (at, inl is)) reads about = absurd (no_trait written a b is reads about)
is_said n a b (inr (at, inr is)) reads about =
    let read : b ≡ found_as bool_term char_term = second_read b (subst (λ x. GoalReads clashing 8 x b) is reads) in
    inr (inl (subst (λ m. IsClash right m b) at (out, type_args (ty.Bool ∷ []), u8, ty.Char, has_gap, out_char ∙ sym read)))

entry_found : (n : ℕ) (x : Ty × Ty) → slice_get (entry ∷ []) n ≡ Some x → IsFound right x
entry_found zero x is =
    (let one : entry ≡ x = cc in subst (IsFound right) one (is_found u8 u8_term (term_uint uint.U8) (tt, tt) leaf_known (tt, tt) no_u8 right u8_proved))
entry_found (suc n) x is = absurd (cc)

one_entry : (j k : ℕ) (x y : Ty × Ty) → slice_get (entry ∷ []) j ≡ Some x → slice_get (entry ∷ []) k ≡ Some y → x.0 ≡ y.0 → j ≡ k
one_entry zero zero x y is other same = refl
one_entry zero (suc k) x y is other same = absurd (cc)
one_entry (suc j) k x y is other same = absurd (cc)

pub clash_said : GoalsHold both_body given right
clash_said = record {
  system = clashing;
  of_item = are_clashing;
  proofs = λ s filling. are_proofs s;
  needs = λ n a h. inl (is_proved n a (needed proofs (entry ∷ []) ([] ∷ (clash ∷ []) ∷ []) n a h));
  gaps = true_gap;
  once = λ n x y h k same. (gap_is n x h).2 ∙ sym (gap_is n y k).2;
  found = record { each = entry_found; once = one_entry };
  entries = λ n a b h known reads about. is_said n a b (needed proofs (entry ∷ []) ([] ∷ (clash ∷ []) ∷ []) n a h) reads about;
}
