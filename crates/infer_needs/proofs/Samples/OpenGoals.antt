-- Goals in which `{unknown}` stands, over the facts of `Impls`: `({unknown},): Tr` holds with no type in its place, so it is said to have no
-- proof; of `{unknown}: Tr` nothing is to be said.
use Rattle.std.proofs.Common.{ℕ, zero, suc, ◌≡◌, inl, inr, [], ◌∷◌, sym, ap, subst, ◌∙◌, true≢false, Some, slice_get}
use Rattle.hir_types.specs.declared.head.Head.TheVariants as head
use Rattle.hir_types.specs.declared.head.Hole.TheVariants as hole_of
use Rattle.infer_needs.specs.Words.{ExprOrPatId, Ty, Term, hole, leaf, pair, node, type_part, apply, term, term_error, term_tuple, RawLiteral, Fill, IsFilling, IsRead, Aliases, Reads, Asked, System, Verdicts, implements, projects, only, asked_at, IsKnown, Each, IsApart, RuleIsRefuted, HasNoSource, answers, asked_goal, InferenceResult, opened_goal, CannotHold, MayHold, HoldsUnknown, HoldsNoHole, IsTrueUnproved, Scope, HasCause}
use Rattle.hir_types.specs.declared.ty.Ty.TheVariants as ty
use Rattle.hir_types.specs.declared.ty.UintTy.TheVariants as uint
use Rattle.infer_needs.specs.Words.hir_raw.declared.raw.RawLiteral.TheVariants as literal
use Rattle.infer_needs.proofs.Words.{decided_answers_stay, answers_are_one, read_reads}
use Rattle.infer_result.specs.declared.gaps.Gap.TheVariants as gap
use Rattle.infer_needs.proofs.Samples.Impls.{tr, out, u8_term, bool_term, w_term, param, implemented, rules_are}
use Rattle.infer_needs.proofs.Samples.Sources.{asks, asks_is}
use Rattle.infer_needs.proofs.Samples.Needed.{given, table_of, path_node, needs_are, sources, are_sources}

-- what cannot hold holds with no types in the places of `{unknown}`
pub holds_nowhere : (f : System) (n : ℕ) (a : Asked) → CannotHold f n a → (s : Fill) → IsFilling s → (answers f n).Yes (asked_at s (opened_goal a)) → ⊥
holds_nowhere f n a h s filling yes_at = (answers_are_one f n n).0 (asked_at s (opened_goal a)) yes_at ((decided_answers_stay f n s filling).1 (opened_goal a) h)

abbrev unknown : Term
unknown = node head.Error []

-- a tuple of one type
abbrev alone : Term → Term
alone t = node head.Tuple (type_part t ∷ [])

-- ---- no impl is for tuples

not_alias : projects out ≡ implements tr → ⊥
not_alias is = cc

module _ (t : Term) (A : Aliases) (v : Verdicts) where
  abbrev w : Term
  w = only (alone t)

  apart_u8 : IsApart (only u8_term) w
  apart_u8 q s filling (x, y, whole, (m, z, first, m_is, (k, r, inner, k_is, r_is)), y_is) =
      (let clash : apply s w ≡ pair (pair m (pair (leaf (head.Uint uint.U8)) r)) y = whole ∙ ap (λ i. pair i y) (first ∙ ap (λ i. pair m i) (inner ∙ ap (λ i. pair i r) k_is)) in cc)

  apart_bool : IsApart (only bool_term) w
  apart_bool q s filling (x, y, whole, (m, z, first, m_is, (k, r, inner, k_is, r_is)), y_is) =
      (let clash : apply s w ≡ pair (pair m (pair (leaf head.Bool) r)) y = whole ∙ ap (λ i. pair i y) (first ∙ ap (λ i. pair m i) (inner ∙ ap (λ i. pair i r) k_is)) in cc)

  apart_w : IsApart (only (w_term param)) w
  apart_w q s filling (x, y, whole, (m, z, first, m_is, (k, r, inner, k_is, r_is)), y_is) =
      (let made = first ∙ ap (λ i. pair m i) (inner ∙ ap (λ i. pair i r) k_is) in
      let clash = whole ∙ ap (λ i. pair i y) made in
      cc)

  all_refuted : Each (RuleIsRefuted A v (implements tr) w) sources.rules
  all_refuted =
      subst (Each (RuleIsRefuted A v (implements tr) w)) (sym (rules_are sources are_sources))
      (inr (inl apart_u8), (inl not_alias, (inr (inl apart_bool), (inl not_alias, (inr (inl apart_w), (inl not_alias, tt))))))

  no_source : HasNoSource sources A v (implements tr) w
  no_source = (tt, inr (all_refuted, inl (λ is. true≢false (sym is))))

answer_is_no : (n : ℕ) (t : Term) → IsRead t → (answers sources (suc n)).No (implemented (alone t))
answer_is_no n t read =
    let v = answers sources n in
    let A = (answers sources (suc n)).Alias in
    (only (alone t), read_reads A (only (alone t)) ((tt, (tt, ((tt, read), tt))), tt), (tt, tt, no_source t A v))

pub cannot_hold : (n : ℕ) → CannotHold sources (suc n) (implemented (alone unknown))
cannot_hold n = answer_is_no n (hole (hole_of.Ty 0)) tt

-- so it isn't passed over, in whatever scope
pub may_not : (sc : Scope) (n : ℕ) → MayHold sc sources (suc n) (implemented (alone unknown)) → ⊥
may_not sc n h = h.1 (inl (cannot_hold n))

-- ---- the hole in the place of a type alone is not known

not_known : (A : Aliases) (u : Term) → Reads A hole (only (hole (hole_of.Ty 0))) u → IsKnown u → ⊥
not_known A u (x, y, whole, (m, z, first, m_is, z_is), y_is) known =
    subst IsKnown (whole ∙ ap (λ i. pair i y) (first ∙ ap (λ i. pair m i) z_is)) known

not_refuted : (n : ℕ) → CannotHold sources n (implemented unknown) → ⊥
not_refuted zero (x, reads, among, no_at) = not_known (answers sources 0).Alias x reads no_at.0
not_refuted (suc n) (x, reads, no_at) = not_known (answers sources (suc n)).Alias x reads no_at.0

-- and it is about no associated type
no_cause : (sc : Scope) (n : ℕ) → HasCause sc sources n (implemented unknown) → ⊥
no_cause sc n (inl h) = not_refuted n h
no_cause sc n (inr h) = (let clash : projects h.alias ≡ implements tr = ap (λ (x : Asked). x.kind) h.is in cc)

pub may_hold : (sc : Scope) (n : ℕ) → MayHold sc sources n (implemented unknown)
may_hold sc n = (inl (inr (inl tt)), no_cause sc n)

-- ---- what is said

abbrev letter : RawLiteral
letter = literal.Char 97

abbrev table : Ty → InferenceResult
table t = table_of t [] [] ((gap.Unproved path_node (asks t) ∷ []) ∷ [])

asks_unknown : asked_goal (asks ty.Error) ≡ implemented unknown
asks_unknown = asks_is ty.Error unknown term_error

alone_is : term (ty.Tuple (ty.Error ∷ [])) ≡ alone unknown
alone_is = term_tuple (ty.Error ∷ []) ∙ ap alone term_error

asks_alone : asked_goal (asks (ty.Tuple (ty.Error ∷ []))) ≡ implemented (alone unknown)
asks_alone = asks_is (ty.Tuple (ty.Error ∷ [])) (alone unknown) alone_is

-- of the tuple it is true that it has no proof
pub true_of_tuple : IsTrueUnproved (given letter) sources (table (ty.Tuple (ty.Error ∷ []))) path_node (asks (ty.Tuple (ty.Error ∷ [])))
true_of_tuple = record {
  needed = record {
    «at» = 0;
    among = ap (λ gs. slice_get gs 0) (needs_are letter (ty.Tuple (ty.Error ∷ [])) (alone unknown) alone_is [] [] ((gap.Unproved path_node (asks (ty.Tuple (ty.Error ∷ []))) ∷ []) ∷ []))
        ∙ ap Some (sym asks_alone);
  };
  whole = subst (λ (x : Asked). HoldsNoHole x.parts) (sym asks_alone) ((tt, (tt, ((tt, (tt, tt)), tt))), tt);
  known = λ h. inl (subst (CannotHold sources 8) (sym asks_alone) (cannot_hold 7));
  fails = λ h. (answers_are_one sources 8 8).0 (implemented (alone unknown)) (subst (answers sources 8).Yes asks_alone h) (answer_is_no 7 unknown (tt, tt));
}

-- of the type alone it isn't
pub untrue_alone : (r : InferenceResult) (n : ExprOrPatId) → IsTrueUnproved (given letter) sources r n (asks ty.Error) → ⊥
untrue_alone r n h =
    let sc = (given letter).scope in
    no_cause sc 8 (subst (HasCause sc sources 8) asks_unknown (h.known (subst (λ (x : Asked). HoldsUnknown x.parts) (sym asks_unknown) (inl (inr (inl tt))))))
