-- The table of `fn f() { need('a') }` over the facts of `Impls` that says at the path that `char: Tr` has no proof: that is so, and goals hold.
use Rattle.std.proofs.Common.{ℕ, zero, suc, ◌≡◌, inl, inr, List, [], ◌∷◌, refl, sym, ap, subst, ◌∙◌, true≢false, Some, slice_get}
use Rattle.infer_needs.specs.Words.{ExprId, ExprOrPatId, Term, hole, pair, term_char, RawLiteral, Aliases, Reads, Asked, Rule, implements, projects, only, SomeOf, answers, HasProof, asked_goal, Gap, InferenceResult, HasGap, HoldsUnknown, HoldsNoHole, IsUnproved, IsTrueUnproved, IsTrueGap, GoalsHold, NeedsHold}
use Rattle.hir_types.specs.declared.ids.ExprOrPatId.TheVariants as node
use Rattle.hir_types.specs.declared.ty.Ty.TheVariants as ty
use Rattle.infer_needs.specs.Words.hir_raw.declared.raw.RawLiteral.TheVariants as literal
use Rattle.infer_needs.specs.Words.goal_answers.Proofs.{IsSource, HasSource}
use Rattle.infer_needs.proofs.Words.{hole_filling, yes_has_proofs, e}
use Rattle.infer_result.specs.declared.gaps.Gap.TheVariants as gap
use Rattle.infer_needs.proofs.Samples.Impls.{tr, out, own_body, u8_term, bool_term, char_term, w_term, param, implemented, found_as, all_said, rules_are}
use Rattle.infer_needs.proofs.Samples.Sources.{reads_bare, neither, nothing, asks, asks_is}
use Rattle.infer_needs.proofs.Samples.Needed.{given, table_of, path_node, needs_are, needed, none_asked, sources, are_sources}

-- ---- nothing proves that `char` implements the trait

asks_char : asked_goal (asks ty.Char) ≡ implemented char_term
asks_char = asks_is ty.Char char_term term_char

module _ (A : Aliases) (Proved : Asked → Type 0) (w : Term) (is : w ≡ only char_term) where
  abbrev Source : Rule → Type 0
  Source r = IsSource A Proved (implements tr) w r

  not_u8 : (qs : List Asked) → Source (record { head = implemented u8_term; preds = qs }) → ⊥
  not_u8 qs h = (let clash : only char_term ≡ only u8_term = sym is ∙ reads_bare A h.at (only u8_term) w ((tt, (tt, tt)), tt) h.head in cc)

  not_bool : (qs : List Asked) → Source (record { head = implemented bool_term; preds = qs }) → ⊥
  not_bool qs h = (let clash : only char_term ≡ only bool_term = sym is ∙ reads_bare A h.at (only bool_term) w ((tt, (tt, tt)), tt) h.head in cc)

  not_w : (qs : List Asked) → Source (record { head = implemented (w_term param); preds = qs }) → ⊥
  not_w qs h =
      (let r : Reads A h.at (only (w_term param)) w = h.head in
      let whole : only char_term ≡ pair r.0 r.1 = sym is ∙ r.2 in
      let first : r.0 ≡ pair r.3.0 r.3.1 = r.3.2 in
      let inner = r.3.4 in
      let type : r.3.1 ≡ pair inner.0 inner.1 = inner.2 in
      let outermost = inner.3.1 in
      cc)

  not_alias : (t u : Term) (qs : List Asked) → Source (record { head = found_as t u; preds = qs }) → ⊥
  not_alias t u qs h = (let clash : projects out ≡ implements tr = h.kind in cc)

  none_listed : SomeOf Source all_said → ⊥
  none_listed =
      neither (not_u8 []) (neither (not_alias u8_term bool_term []) (neither (not_bool []) (neither (not_alias bool_term char_term [])
      (neither (not_w (implemented param ∷ [])) (neither (not_alias (w_term param) bool_term (implemented param ∷ [])) nothing)))))

  no_source : HasSource sources A Proved (implements tr) w → ⊥
  no_source (inl clause) = clause
  no_source (inr (none, inl rule)) = none_listed (subst (SomeOf Source) (rules_are sources are_sources) rule)
  no_source (inr (none, inr copied)) = true≢false (sym copied.0)

no_proof : (A : Aliases) (n : ℕ) → HasProof sources A n (implemented char_term) → ⊥
no_proof A zero h = h
no_proof A (suc n) (w, r, inl itself) = itself
no_proof A (suc n) (w, r, inr h) = no_source A (HasProof sources A n) w (reads_bare A hole (only char_term) w ((tt, (tt, tt)), tt) r) h

char_not_yes : (n : ℕ) → (answers sources n).Yes (implemented char_term) → ⊥
char_not_yes n h = no_proof (answers sources n).Alias (suc n) ((yes_has_proofs sources n).0 (implemented char_term) hole hole_filling h)

-- ---- the table

abbrev letter : RawLiteral
letter = literal.Char 97

abbrev said_here : Gap
said_here = gap.Unproved path_node (asks ty.Char)

abbrev right : InferenceResult
right = table_of ty.Char [] [] ((said_here ∷ []) ∷ [])

-- it lists the one gap
first_is : (j : ℕ) (x : Gap) → slice_get (said_here ∷ []) j ≡ Some x → (said_here ≡ x) × (j ≡ 0)
first_is zero x h = (cc, refl)
first_is (suc j) x h = absurd (cc)

at_expr : (k : ExprId) (m j : ℕ) (gs : List Gap) (x : Gap) → m ≡ k.0 → slice_get right.expr_gaps m ≡ Some gs → slice_get gs j ≡ Some x → (path_node ≡ node.ExprId k) × (said_here ≡ x) × (j ≡ 0)
at_expr k zero j gs x is here among =
    let one : said_here ∷ [] ≡ gs = cc in
    let first = first_is j x (subst (λ ys. slice_get ys j ≡ Some x) (sym one) among) in
    (ap (λ n. node.ExprId (e n)) is, first.0, first.1)
at_expr k (suc m) j gs x is here among = absurd (cc)

gap_is : (n : ExprOrPatId) (x : Gap) (h : HasGap right n x) → (path_node ≡ n) × (said_here ≡ x) × (h.number ≡ 0)
gap_is (node.ExprId k) x h = at_expr k k.0 h.number h.gaps x refl h.at h.listed
gap_is (node.PatId k) x h = (let none : slice_get [] k.0 ≡ Some h.gaps = h.at in absurd (cc))

has_gap : HasGap right path_node said_here
has_gap = record { gaps = said_here ∷ []; «at» = refl; number = 0; listed = refl }

char_known : HoldsUnknown (implemented char_term).parts → ⊥
char_known = neither (neither nothing (neither nothing nothing)) nothing

true_here : IsTrueUnproved (given letter) sources right path_node (asks ty.Char)
true_here = record {
  needed = record { «at» = 0; among = ap (λ gs. slice_get gs 0) (needs_are letter ty.Char char_term term_char [] [] ((said_here ∷ []) ∷ [])) ∙ ap Some (sym asks_char) };
  whole = subst (λ (x : Asked). HoldsNoHole x.parts) (sym asks_char) ((tt, (tt, tt)), tt);
  known = λ h. absurd (char_known (subst (λ (x : Asked). HoldsUnknown x.parts) asks_char h));
  fails = λ h. char_not_yes 8 (subst (answers sources 8).Yes asks_char h);
}

true_gap : (n : ExprOrPatId) (x : Gap) → HasGap right n x → IsTrueGap (given letter) sources right n x
true_gap n x h =
    let is = gap_is n x h in
    subst (IsTrueGap (given letter) sources right n) is.1 (subst (λ m. IsTrueGap (given letter) sources right m said_here) is.0 (refl, true_here))

unproved : (n : ExprOrPatId) (x : Asked) → (path_node ≡ n) × (x ≡ implemented char_term) → IsUnproved right n x
unproved n x is = subst (λ m. IsUnproved right m x) is.0 (asks ty.Char, has_gap, asks_char ∙ sym is.1)

pub goals_hold : GoalsHold own_body (given letter) right
goals_hold = record {
  system = sources;
  of_item = are_sources;
  proofs = λ s filling n x is. absurd (cc);
  needs = λ n x h. inr (inl (unproved n x (needed letter ty.Char char_term term_char [] [] ((said_here ∷ []) ∷ []) n x h)));
  gaps = true_gap;
  once = λ n x y h k same. (gap_is n x h).2 ∙ sym (gap_is n y k).2;
  found = record { each = λ n x is. absurd (cc); once = λ j k x y is other same. absurd (cc) };
  entries = λ n x y h known reads about. absurd (none_asked letter ty.Char char_term term_char [] [] ((said_here ∷ []) ∷ []) sources 8 n x y h reads about);
}

-- so what nodes need doesn't hold
pub needs_fail : NeedsHold own_body (given letter) right → ⊥
needs_fail h = char_not_yes 8 (subst (answers sources 8).Yes asks_char (h sources are_sources path_node (asked_goal (asks ty.Char)) true_here.needed))
