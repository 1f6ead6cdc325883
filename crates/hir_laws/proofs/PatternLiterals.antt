-- Literals that patterns are, or ends of ranges.
use Rattle.std.proofs.Common.{◌≡◌, ◌⊎◌, ◌<◌, ℕ, Bool, false, List, length, get_or, map, Option, Some, None, refl, sym, ◌∙◌, ap, inl, inr}
use Rattle.std.specs.Prelude.{slice_get, option_map, IsTrue, ◌↔◌}
use Rattle.std.proofs.lemmas.Option.{slice_get_within, slice_get-map}
use Rattle.hir_laws.specs.Words.{ExprId, RawExpr, RawPat, RawBody, Namers, AllHold, DotsFit, IsEnd, IsNamedAt, IsNamedBy, IsPatternOf, LiteralsFit, MayHaveMinus}
use Rattle.hir_laws.specs.Words.hir_raw.declared.raw.RawExpr.TheVariants as expr
use Rattle.hir_laws.specs.Words.hir_raw.declared.raw.RawPat.TheVariants as pat
use Rattle.hir_laws.specs.Words.hir_raw.declared.later.LaterPat.TheVariants as later_pat
use Rattle.hir_laws.specs.Words.hir_ids.declared.namers.Namers.TheVariants.{Nobody, One, Several}
use Rattle.hir_laws.specs.Own.{first_literal, last_literal, AreNamedAs, IsSomeones, ExprIsInBits, LiteralsHold, PatIsLiteral, PlacesFit}

expr_same : (e d : ExprId) → e.0 ≡ d.0 → e ≡ d
expr_same e d q = λ i. record { 0 = q i }

end_from : (o : Option ExprId) (e : ExprId) → option_map (λ d. d.0) o ≡ Some e.0 → o ≡ Some e
end_from None e h = cc
end_from (Some d) e h = let q : d.0 ≡ e.0 = cc in ap (λ (x : ExprId). Some x) (expr_same d e q)

-- the pattern is the expression, or a range of which it is an end
abbrev HasMinus : ExprId → Option RawPat → Type 0
HasMinus e o = (o ≡ Some (pat.Lit e)) ⊎ IsEnd e o

first_from : (o : Option RawPat) (e : ExprId) → option_map first_literal o ≡ Some (Some e.0) → HasMinus e o
first_from (Some (pat.Lit d)) e h = inl (let q : d.0 ≡ e.0 = cc in ap (λ (x : ExprId). Some (pat.Lit x)) (expr_same d e q))
first_from (Some (pat.Later (later_pat.Range first last))) e h = inr (inl (end_from first e (let q : option_map (λ d. d.0) first ≡ Some e.0 = cc in q)))
first_from _ e h = absurd (cc)

last_from : (o : Option RawPat) (e : ExprId) → option_map last_literal o ≡ Some (Some e.0) → HasMinus e o
last_from (Some (pat.Later (later_pat.Range first last))) e h = inr (inr (end_from last e (let q : option_map (λ d. d.0) last ≡ Some e.0 = cc in q)))
last_from _ e h = absurd (cc)

either_literal : (o : Option RawPat) (e : ExprId) → HasMinus e o → (option_map first_literal o ≡ Some (Some e.0)) ⊎ (option_map last_literal o ≡ Some (Some e.0))
either_literal (Some (pat.Later (later_pat.Range first last))) e (inr (inl h)) = inl (ap (λ (x : Option ExprId). Some (option_map (λ d. d.0) x)) h)
either_literal (Some (pat.Later (later_pat.Range first last))) e (inr (inr h)) = inr (ap (λ (x : Option ExprId). Some (option_map (λ d. d.0) x)) h)
either_literal o e (inl h) = inl (ap (λ (x : Option RawPat). option_map first_literal x) h)
either_literal _ e (inr h) = absurd h

-- ---- which patterns name an expression

module _ (b : RawBody) (literal : RawPat → Option ℕ) where
  someones_pattern : (e : ℕ) (x : Namers) → IsNamedBy (map literal b.pats) (length b.pats) e x → IsSomeones x → (p : ℕ) × (option_map literal (slice_get b.pats p) ≡ Some (Some e))
  someones_pattern e Nobody named h = absurd h
  someones_pattern e (One k) named h = (k, sym (slice_get-map literal b.pats k) ∙ named.1)
  someones_pattern e Several named h = (named.0, sym (slice_get-map literal b.pats named.0) ∙ named.2)

  pattern_someones : (e : ℕ) (x : Namers) → IsNamedBy (map literal b.pats) (length b.pats) e x → (p : ℕ) (y : RawPat) → slice_get b.pats p ≡ Some y → option_map literal (slice_get b.pats p) ≡ Some (Some e) → IsSomeones x
  pattern_someones e Nobody named p y found h = named p (slice_get_within b.pats p y found) (slice_get-map literal b.pats p ∙ h)
  pattern_someones e (One k) named p y found h = tt
  pattern_someones e Several named p y found h = tt

some_pattern : (o : Option RawPat) (e : ExprId) → HasMinus e o → (y : RawPat) × (o ≡ Some y)
some_pattern None e (inl h) = absurd (cc)
some_pattern None e (inr h) = absurd h
some_pattern (Some y) e h = (y, refl)

module _ (b : RawBody) (firsts lasts : List Namers) (begun : AreNamedAs first_literal b firsts) (ended : AreNamedAs last_literal b lasts) where
  minus_from : (e : ExprId) → e.0 < length b.exprs → IsSomeones (get_or firsts e.0 Nobody) ⊎ IsSomeones (get_or lasts e.0 Nobody) → MayHaveMinus b e
  minus_from e lt (inl h) = let p = someones_pattern b first_literal e.0 (get_or firsts e.0 Nobody) (begun.each e.0 lt) h in record { pattern = p.0; of = first_from (slice_get b.pats p.0) e p.1 }
  minus_from e lt (inr h) = let p = someones_pattern b last_literal e.0 (get_or lasts e.0 Nobody) (ended.each e.0 lt) h in record { pattern = p.0; of = last_from (slice_get b.pats p.0) e p.1 }

  from_minus : (e : ExprId) → e.0 < length b.exprs → MayHaveMinus b e → IsSomeones (get_or firsts e.0 Nobody) ⊎ IsSomeones (get_or lasts e.0 Nobody)
  from_minus e lt h =
      let some = some_pattern (slice_get b.pats h.pattern) e h.of in
      elim (either_literal (slice_get b.pats h.pattern) e h.of) [
        | inl first ↦ inl (pattern_someones b first_literal e.0 (get_or firsts e.0 Nobody) (begun.each e.0 lt) h.pattern some.0 some.1 first)
        | inr last ↦ inr (pattern_someones b last_literal e.0 (get_or lasts e.0 Nobody) (ended.each e.0 lt) h.pattern some.0 some.1 last)
      ]

  pub hold_from : AllHold (λ e x. ExprIsInBits (get_or firsts e Nobody) (get_or lasts e Nobody) x) b.exprs → ((p : ℕ) (x : RawPat) → slice_get b.pats p ≡ Some x → PatIsLiteral b x × DotsFit x) → LiteralsHold b
  hold_from bits fit = record {
    each = λ e l found.
        elim (bits e.0 (expr.Lit l) found) [
          | inl plain ↦ inl plain
          | inr h ↦ inr (minus_from e (slice_get_within b.exprs e.0 (expr.Lit l) found) h.0, h.1)
        ];
    under = λ p e is. (fit p (pat.Lit e) is).0;
    dots = λ p x found. (fit p x found).1;
  }

  pub bits_from : LiteralsHold b → (e : ℕ) (x : RawExpr) → slice_get b.exprs e ≡ Some x → ExprIsInBits (get_or firsts e Nobody) (get_or lasts e Nobody) x
  bits_from hold e (expr.Lit l) found =
      elim (hold.each (record { 0 = e }) l found) [
        | inl plain ↦ inl plain
        | inr h ↦ inr (from_minus (record { 0 = e }) (slice_get_within b.exprs e (expr.Lit l) found) h.0, h.1)
      ]
  bits_from hold e _ found = tt

literal_from : (b : RawBody) → LiteralsHold b → (p : ℕ) (x : RawPat) → slice_get b.pats p ≡ Some x → PatIsLiteral b x
literal_from b hold p (pat.Lit e) found = hold.under p e found
literal_from b hold p _ found = tt

pub pats_from : (b : RawBody) → LiteralsHold b → (p : ℕ) (x : RawPat) → slice_get b.pats p ≡ Some x → PatIsLiteral b x × DotsFit x
pats_from b hold p x found = (literal_from b hold p x found, hold.dots p x found)

-- ---- with what is assigned to

fit_from : (b : RawBody) → LiteralsHold b → PlacesFit b → LiteralsFit b
fit_from b hold places = record { each = hold.each; under = hold.under; dots = hold.dots; assigned = places }

pub held : (b : RawBody) → LiteralsFit b → LiteralsHold b
held b fit = record { each = fit.each; under = fit.under; dots = fit.dots }

pub fit_told : (b : RawBody) (told : Bool) → LiteralsHold b → IsTrue told ↔ PlacesFit b → IsTrue told ↔ LiteralsFit b
fit_told b told hold says = (λ t. fit_from b hold (says.0 t), λ fit. says.1 fit.assigned)
