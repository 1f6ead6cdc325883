-- What is left of associated types in the types of tables, over the facts of `Impls`: `<u8 as Tr>::Out` may be left where the table says what it is.
use Rattle.std.proofs.Common.{ℕ, suc, ◌≡◌, inl, inr, List, [], ◌∷◌, map, refl, sym, ap, ap₂, subst, ◌∙◌, true≢false, Some}
use Rattle.hir_types.specs.declared.head.Head.TheVariants as head
use Rattle.infer_needs.specs.Words.{TypeAliasId, GenericArg, Ty, Term, hole, leaf, pair, chain, type_part, term, arg_term, term_bool, term_uint, term_projection, term_associated_type, arg_term_type, RawLiteral, type_args, Fill, alias_at, staying, Aliases, ReadsAs, MayRead, Asked, Rule, System, implements, projects, only, Each, OneOf, Verdicts, Gives, GivesNone, answers, asked_goal, TypeReads, IsSystemOf, InferenceResult, Column, entry_kind, col, HasEntry, IsPartOf, stays_at, NoneIsLeft, StaysOrIsListed, HoldsUnknown, HasNoneLeft, At}
use Rattle.hir_types.specs.declared.ty.Ty.TheVariants as ty
use Rattle.hir_types.specs.declared.ty.UintTy.TheVariants as uint
use Rattle.infer_needs.specs.Words.goal_answers.Reading.{Role}
use Rattle.infer_needs.proofs.Words.{MayReadBy, role_read, read_reads, u8, TypesHave, all_types_by}
use Rattle.hir_types.specs.declared.goal.Goal.TheVariants as goal
use Rattle.infer_needs.proofs.ReadsYes.{reads_one}
use Rattle.infer_needs.proofs.Samples.Impls.{tr, out, facts, own, own_body, u8_term, bool_term, char_term, w_term, param, implemented, found_as, all_said, no_clauses, rules_are}
use Rattle.infer_needs.proofs.Samples.Sources.{IsBare, bare_read}
use Rattle.infer_needs.proofs.Samples.AliasProofs.{out_asks}
use Rattle.infer_needs.proofs.Samples.Needed.{given, table_of, sources, are_sources}
use Rattle.infer_needs.proofs.Samples.Tables.{entry, out_known, no_bool}
use Rattle.infer_result.specs.Columns as column

-- ---- the associated type, as it is written and as it stays

abbrev pub alias : Ty
alias = ty.Projection out (type_args (u8 ∷ []))

abbrev pub stays : Ty
stays = ty.AssociatedType out (type_args (u8 ∷ []))

pub u8_args : chain (map arg_term (type_args (u8 ∷ []))) ≡ only u8_term
u8_args = λ i. pair ((arg_term_type u8 ∙ ap type_part (term_uint uint.U8)) i) (leaf head.End)

pub alias_term : term alias ≡ alias_at out (only u8_term)
alias_term = term_projection out (type_args (u8 ∷ [])) ∙ ap (alias_at out) u8_args

-- ---- it reads as `bool`

may_bare : (p : Fill) (t u : Term) → IsBare t → MayRead p t u → u ≡ t
may_bare p (hole k) u h r = absurd h
may_bare p (leaf x) u h r = r
may_bare p (pair a b) u h r =
    let P : Role → Type 0 = λ x. MayReadBy x p a b u in
    let q = subst P (role_read a (bare_read a h.0)) r in
    q.2 ∙ ap₂ pair (may_bare p a q.0 h.0 q.3) (may_bare p b q.1 h.1 q.4)

differ : only u8_term ≡ only bool_term → ⊥
differ h = cc

module _ (s : System) (n : ℕ) where
  abbrev v : Verdicts
  v = answers s n

  abbrev Here : Rule → Type 0
  Here = Gives v out (only u8_term) bool_term

  abbrev Other : Rule → Type 0
  Other = GivesNone v out (only u8_term)

  gives : Here (record { head = found_as u8_term bool_term; preds = [] })
  gives = record {
    kind = refl;
    told = record { head = λ k o. absurd (true≢false (sym o)); preds = tt };
    «at» = hole;
    args = read_reads v.Alias (only u8_term) ((tt, (tt, tt)), tt);
    type = read_reads v.Alias bool_term (tt, tt);
    preds = tt;
  }

  pub not_trait : (t : Term) (qs : List Asked) → Other (record { head = implemented t; preds = qs })
  not_trait t qs = inl (λ is. (let clash : implements tr ≡ projects out = is in cc))

  pub not_bool : (t : Term) (qs : List Asked) → Other (record { head = found_as bool_term t; preds = qs })
  not_bool t qs = inr (inl (λ q f filling r. differ (may_bare q (only bool_term) (only u8_term) ((tt, (tt, tt)), tt) r)))

  w_apart : (q : Fill) → MayRead q (only (w_term param)) (only u8_term) → ⊥
  w_apart q r =
      (let first : r.0 ≡ pair r.3.0 r.3.1 = r.3.2 in
      let whole : only u8_term ≡ pair r.0 r.1 = r.2 in
      let inner = r.3.4 in
      let type : r.3.1 ≡ pair inner.0 inner.1 = inner.2 in
      let outermost = inner.3 in
      cc)

  not_w : (qs : List Asked) → Other (record { head = found_as (w_term param) bool_term; preds = qs })
  not_w qs = inr (inl (λ q f filling r. w_apart q r))

  one_gives : OneOf Here Other all_said
  one_gives =
      let asks = implemented param ∷ [] in
      inr (not_trait u8_term [], inl (gives, (not_trait bool_term [], (not_bool char_term [], (not_trait (w_term param) asks, (not_w asks, tt))))))

  -- where no clause says what it is
  pub term_reads : s.rules ≡ all_said → Each Other s.clauses → ReadsAs (answers s (suc n)).Alias (alias_at out (only u8_term)) bool_term
  term_reads are none =
      let is : (answers s (suc n)).Alias out (only u8_term) bool_term = (tt, inr (none, inl (subst (OneOf Here Other) (sym are) one_gives))) in
      (only u8_term, read_reads (answers s (suc n)).Alias (only u8_term) ((tt, (tt, tt)), tt), is)

module _ (s : System) (of : IsSystemOf facts own s) (n : ℕ) where
  pub reads_bool : TypeReads s (suc n) alias ty.Bool
  reads_bool =
      let A : Aliases = (answers s (suc n)).Alias in
      let none : Each (GivesNone (answers s n) out (only u8_term)) s.clauses = subst (Each (GivesNone (answers s n) out (only u8_term))) (sym (no_clauses s of)) tt in
      subst (λ t. ReadsAs A t (term ty.Bool)) (sym alias_term) (subst (ReadsAs A (alias_at out (only u8_term))) (sym term_bool) (term_reads s n (rules_are s of) none))

-- ---- refused

-- where the table doesn't say that it is `bool`
pub not_listed : (s : System) → IsSystemOf facts own s → (js : List (Ty × Ty)) → (HasEntry js (found_as u8_term bool_term) → ⊥) → StaysOrIsListed s 8 js out (type_args (u8 ∷ [])) → ⊥
not_listed s of js none h =
    elim (h ty.Bool (reads_bool s of 7)) [
      | inl same ↦ no_bool (chain (map arg_term (type_args (u8 ∷ [])))) (sym term_bool ∙ same)
      | inr other ↦ elim other [
        | inl found ↦ none (subst (HasEntry js) out_asks found)
        | inr unknown ↦ out_known (subst (λ (a : Asked). HoldsUnknown a.parts) out_asks unknown)
      ]
    ]

-- so where it is left in the type of an expression
pub left_over : (l : RawLiteral) (r : InferenceResult) (n : ℕ) → At r.type_of_expr n stays → (HasEntry r.projections (found_as u8_term bool_term) → ⊥) → HasNoneLeft own_body (given l) r → ⊥
left_over l r n is none h =
    let xs = type_args (u8 ∷ []) in
    let part : IsPartOf (stays_at out xs) (term stays) = subst (IsPartOf (stays_at out xs)) (sym (term_associated_type out xs)) (inl refl) in
    not_listed h.system h.of_item r.projections none (h.left.each column.type_of_expr n stays is out xs part)

-- ---- taken

abbrev right : InferenceResult
right = record (table_of u8 [] (entry ∷ []) []) { type_of_expr = Some stays ∷ [] }

not_in_args : (k : TypeAliasId) (x : Term) → IsPartOf (staying k x) (only u8_term) → ⊥
not_in_args k x (inl is) = cc
not_in_args k x (inr (inl (inl is))) = cc
not_in_args k x (inr (inl (inr (inl none)))) = none
not_in_args k x (inr (inl (inr (inr (inl is))))) = cc
not_in_args k x (inr (inl (inr (inr (inr (inl none)))))) = none
not_in_args k x (inr (inl (inr (inr (inr (inr none)))))) = none
not_in_args k x (inr (inr none)) = none

parts_of : (k m : TypeAliasId) (x y : Term) → staying k x ≡ staying m y → (k ≡ m) × (x ≡ y)
parts_of k m x y h = (cc, cc)

-- it is read as what is listed
pub itself_listed : (k : TypeAliasId) (xs : List GenericArg) → k ≡ out → chain (map arg_term xs) ≡ only u8_term → StaysOrIsListed sources 8 (entry ∷ []) k xs
itself_listed k xs same args u reads =
    let here : term (ty.Projection k xs) ≡ term alias = term_projection k xs ∙ ((λ i. alias_at (same i) (args i)) ∙ sym alias_term) in
    let read : TypeReads sources 8 alias u = subst (λ t. ReadsAs (answers sources 8).Alias t (term u)) here reads in
    let bool : term ty.Bool ≡ term u = reads_one sources 8 out (type_args (u8 ∷ [])) ty.Bool u (reads_bool sources are_sources 7) read in
    let asked : asked_goal (goal.Projection out (type_args (u8 ∷ [])) ty.Bool) ≡ asked_goal (goal.Projection k xs u) =
    λ i. record { kind = projects (sym same i); parts = pair ((u8_args ∙ sym args) i) (bool i) } in
    inr (inl (out, type_args (u8 ∷ []), ty.Bool, (0, refl), asked))

none_left : NoneIsLeft sources 8 (entry ∷ []) stays
none_left k xs part =
    let is : term stays ≡ staying out (only u8_term) = term_associated_type out (type_args (u8 ∷ [])) ∙ ap (staying out) u8_args in
    elim (subst (IsPartOf (stays_at k xs)) is part) [
      | inl same ↦ (let (alias, args) = parts_of k out (chain (map arg_term xs)) (only u8_term) same in itself_listed k xs alias args)
      | inr other ↦ elim other [
        | inl none ↦ absurd none
        | inr deeper ↦ absurd (not_in_args k (chain (map arg_term xs)) deeper)
      ]
    ]

right_left : (c : Column) → TypesHave (NoneIsLeft sources 8 (entry ∷ [])) (entry_kind c) (col right c)
right_left column.type_of_expr = (none_left, tt)
right_left _ = tt

-- where the table says that it is `bool`
pub listed : (l : RawLiteral) → HasNoneLeft own_body (given l) right
listed l = record { system = sources; of_item = are_sources; left = all_types_by (NoneIsLeft sources 8 (entry ∷ [])) right right_left }
