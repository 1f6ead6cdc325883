-- Patterns of constructors: the complaint about the number of parts, the loop over the parts, and paths.
use Rattle.std.proofs.Common.{◌≡◌, Some, ◌<◌, ◌⊎◌, inl, inr, List, length, refl, sym, ap, subst, ◌∙◌, arith, Option, slice_get, ℕ, suc, [], ◌∷◌}
use Rattle.infer_pat.specs.Words.{PatId, VariantId, Ty, RawVariant, Schedule, InferenceDiagnostic, HasPatDiagnostic, Given, PatIsAtOrMismatch, IsCtorPath, IsTruePatDiagnostic, InferenceResult, PatsAtFields, Found, Extends, IsCarriedType}
use Rattle.infer_pat.specs.Words.infer_ctx.Found.{entered, with_pat_diagnostic}
use Rattle.infer_pat.proofs.Words.{columns_written, long_with, types_with, obeys_kept, pat_kept, diagnostic_kept, seen_as_kept, noted-keeps, noted-cases, noted-some, length-noted, pat_id, pat_ahead, pat_named}
use Rattle.infer_pat.specs.Own.{ComesToPat, IsCtorPatOf, PartsAreCounted, PatWalked, IsPathPatOf}
use Rattle.infer_pat.proofs.PatDemands.{IsOpening, entered_opening, Demands}
use Rattle.infer_pat.proofs.PatSteps.{enters_now, enters_done}
use Rattle.infer_pat.proofs.Pats.{pat_rule_of}
use Rattle.hir_types.specs.declared.ids.ExprOrPatId.TheVariants as node
use Rattle.infer_pat.specs.Words.hir_raw.declared.raw.RawPat.TheVariants as pat
use Rattle.infer_pat.specs.Words.hir_raw.declared.raw.RawPath.TheVariants as path
use Rattle.infer_pat.specs.Words.infer_result.declared.diagnostics.InferenceDiagnostic.TheVariants as diagnostic
use Rattle.infer_pat.specs.Words.infer_result.Columns as column

only_some : {A : Type 0} {y z : A} → Some y ≡ Some z → y ≡ z
only_some q = cc

-- ---- the number of parts
module _ (g : Given) (s : Schedule) (p : PatId) (v : VariantId) (ps : List PatId) (variant : RawVariant) (x : Option Ty) (old : Found) (h : ComesToPat g s p x old) (is : IsCtorPatOf g.body p v ps) (at_variant : slice_get g.scope.facts.variants v.0 ≡ Some variant) where
  abbrev pub complaint : InferenceDiagnostic
  complaint = diagnostic.MismatchedTupleStructPatArgCount (node.PatId p) (length variant.fields) (length ps)

  abbrev told : Found
  told = with_pat_diagnostic (entered old) p complaint

  told_extends : Extends old.result told.result
  told_extends = record {
    columns = columns_written old.result column.pat_diagnostics _ (λ n d i. noted-keeps old.result.pat_diagnostics p.0 n complaint d i);
    diagnostics = λ e d i. inl i;
    seen = λ e h. record { position = h.position; entry = h.entry; found = h.found; is_node = h.is_node };
  }

  -- what is said of the pattern is this
  same_complaint : (d : InferenceDiagnostic) → IsTruePatDiagnostic g p d → d ≡ complaint
  same_complaint (diagnostic.MismatchedArgCount m expected found) k = absurd k
  same_complaint (diagnostic.ExpectedFunction m t) k = absurd k
  same_complaint (diagnostic.MismatchedTupleStructPatArgCount m expected found) (same, w) =
      let one : pat.TupleStruct w.named w.parts ≡ pat.TupleStruct v ps = only_some (sym w.is_pat ∙ is) in
      let same_named : w.named ≡ v = cc in
      let same_parts : w.parts ≡ ps = cc in
      let same_variant : w.variant ≡ variant = only_some (sym w.is_variant ∙ (ap (λ u. slice_get g.scope.facts.variants u.0) same_named ∙ at_variant)) in
      let counts : expected ≡ length variant.fields = w.is_expected ∙ ap (λ (y : RawVariant). length y.fields) same_variant in
      let founds : found ≡ length ps = w.is_found ∙ ap (λ l. length l) same_parts in
      λ i. diagnostic.MismatchedTupleStructPatArgCount (same i) (counts i) (founds i)

  module _ (differ : length variant.fields ≡ length ps → ⊥) where
    true_complaint : IsTruePatDiagnostic g p complaint
    true_complaint = (
      refl,
      record { named = v; parts = ps; is_pat = is; variant = variant; is_variant = at_variant; is_expected = refl; is_found = refl; differ = differ },
    )

    told_opening : IsOpening g s p old told
    told_opening =
        let begun = enters_now g s p x old h in
        record {
          enters = record {
            clock = begun.clock;
            extends = told_extends;
            kept = λ e i lo. refl;
            kept_pats = λ q i lo. refl;
            state = record {
              of_body = long_with g.body old.result column.pat_diagnostics _ (length-noted old.result.pat_diagnostics p.0 complaint ∙ h.state.of_body.long column.pat_diagnostics) h.state.of_body;
              carried = types_with IsCarriedType old.result column.pat_diagnostics _ (λ n d i. tt) h.state.carried;
              modes = begun.state.modes;
              free_exprs = begun.state.free_exprs;
              free_pats = begun.state.free_pats;
              free_modes = begun.state.free_modes;
              free_bindings = begun.state.free_bindings;
              bound = begun.state.bound;
              diagnostics = λ e d i. diagnostic_kept g old.result told.result told_extends e d (h.state.diagnostics e d i);
              pat_diagnostics = λ q d i.
                  elim (noted-cases old.result.pat_diagnostics p.0 q.0 complaint d i) [
                    | inl k ↦ h.state.pat_diagnostics q d k
                    | inr k ↦
                        (let at : p ≡ q = pat_id p q (sym k.0) in
                        subst (λ z. IsTruePatDiagnostic g z d) at (subst (λ z. IsTruePatDiagnostic g p z) k.1 true_complaint))
                  ];
              variants = record { exprs = h.state.variants.exprs; pats = h.state.variants.pats };
              items = begun.state.items;
              free_items = begun.state.free_items;
              placeholders = h.state.placeholders;
              seen = λ i y there. seen_as_kept g old told told_extends (λ e d k. k) refl y (h.state.seen i y there);
            };
            made = λ e i lo hi. obeys_kept g old.result told.result told_extends e (begun.made e i lo hi);
            pats_made = λ q i other lo hi. pat_kept g old.result told.result told_extends q (slice_get g.body.pats q.0) (begun.pats_made q i other lo hi);
            truths = λ e m i. inl i;
            pat_truths = λ q m i. inl i;
          };
          clock = refl;
          free = h.state.free_pats p h.within (omega (arith, h.here));
        }

    told_has : HasPatDiagnostic told.result p complaint
    told_has =
        let within : p.0 < length old.result.pat_diagnostics = rw (h.state.of_body.long column.pat_diagnostics) h.within in
        let y = noted-some old.result.pat_diagnostics p.0 complaint within in
        elim (noted-cases old.result.pat_diagnostics p.0 p.0 complaint y.0 y.1) [
          | inl q ↦ subst (λ z. HasPatDiagnostic told.result p z) (same_complaint y.0 (h.state.pat_diagnostics p y.0 q)) y.1
          | inr q ↦ subst (λ z. HasPatDiagnostic told.result p z) (sym q.1) y.1
        ]

  -- the numbers are the same, or that they differ is said
  pub record Counted (mid : Found) : Type 0 where
    pub opening : IsOpening g s p old mid
    pub said : (length variant.fields ≡ length ps) ⊎ HasPatDiagnostic mid.result p complaint

  pub parts_counted : (mid : Found) → PartsAreCounted p (length variant.fields) (length ps) (entered old) mid → Counted mid
  parts_counted mid (inl k) = subst (λ c. Counted c) (sym k.1) (record { opening = entered_opening g s p x old h; said = inl k.0 })
  parts_counted mid (inr k) = subst (λ c. Counted c) (sym k.1) (record { opening = told_opening k.0; said = inr (told_has k.0) })

-- ---- the parts

-- each part that there is a field for is at its type
pub parts_at : (g : Given) (r : InferenceResult) (ps : List PatId) (fs : List Ty) → ((k : ℕ) (q : PatId) (t : Ty) → slice_get ps k ≡ Some q → slice_get fs k ≡ Some t → PatIsAtOrMismatch g r q t) → PatsAtFields g r ps fs
parts_at g r [] fs h = tt
parts_at g r (p ∷ ps) [] h = tt
parts_at g r (p ∷ ps) (t ∷ fs) h = (h 0 p t refl refl, parts_at g r ps fs (λ k q u a b. h (suc k) q u a b))

-- ---- paths
pub path_pat_done : (g : Given) (s : Schedule) (p : PatId) (v : VariantId) (t : Ty) (x : Option Ty) (old new : Found) → ComesToPat g s p x old → IsPathPatOf g.body p (path.Ctor v) → IsCtorPath g v t → Demands g s p t x old (entered old) new → PatWalked g s p x old new
path_pat_done g s p v t x old new h is k d =
    let a = pat_ahead g.body s p (pat.Path (path.Ctor v)) new.clock h.ready.law.schedule h.within is (omega (arith, h.here, d.clock)) in
    record {
      walks =
          enters_done g s p old new d.enters d.state (
          pat_rule_of g new.result p (pat.Path (path.Ctor v)) is (t, d.type_is, k, pat_named g.body new.result d.state.variants p v (inl is))
          );
      clock = a.1;
      placed = d.placed;
    }
