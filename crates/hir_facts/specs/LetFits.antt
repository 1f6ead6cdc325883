-- Written types that fit, layer by layer: as they are written, and as `let`s read them.
use Rattle.std.specs.Prelude.{◌≡◌, ◌<◌, ℕ, Bool, true, false, List, slice_get, Option, Some, None, refl, IsTrue}
use Rattle.std.specs.Option.{option_map}
use Rattle.std.proofs.Common.{ap, sym, subst, ◌∙◌}
use Rattle.hir_facts.specs.Words.{TypeRefId, RawFacts, RawType, is_alias, masked_type, masked, masked_at, alias_is_hole, other_is_itself, type_parts}
use Rattle.hir_raw.specs.declared.raw.RawType.TheVariants as type
use Rattle.hir_facts.specs.Carried.{is_carried_written_type}
use Rattle.hir_facts.specs.Entries.{AllHold}
use Rattle.hir_facts.specs.Ids.{ChildrenBefore}
use Rattle.hir_facts.specs.Lawful.{IsLawful}
use Rattle.hir_facts.specs.LawfulFacts.{types_carried, type_ids}
use Rattle.hir_facts.specs.NoHoles.{type_there}
use Rattle.hir_facts.specs.WrittenFits.{FitsThere, FitsUnder, OwnFits, own_there, own_fits, parts_there, parts_fit}

-- type i of the list fits by itself under so many parameters, and each part of it is before it and one of these types
pub record FitsHere (raw : RawFacts) (count : ℕ) (types : List RawType) (Fits : ℕ → Type 0) (i : ℕ) : Type 0 where
  pub written : RawType
  pub is : slice_get types i ≡ Some written
  pub own : OwnFits raw count written
  pub carried : IsTrue (is_carried_written_type written)
  pub before : (k : ℕ) (t : TypeRefId) → slice_get (type_parts written) k ≡ Some t → t.0 < i
  pub parts : (k : ℕ) (t : TypeRefId) → slice_get (type_parts written) k ≡ Some t → Fits t.0

-- so do all of these types of the list
abbrev pub AllFit : RawFacts → ℕ → List RawType → (ℕ → Type 0) → Type 0
AllFit raw count types Fits = (i : ℕ) → Fits i → FitsHere raw count types Fits i

-- ---- as they are written

-- types in which no projection stands
pub written_fit : (raw : RawFacts) → IsLawful raw → (count : ℕ) → AllFit raw count raw.types (FitsUnder raw count)
written_fit raw law count i h =
    let x = type_there raw.types i h.within in
    record {
      written = x.0;
      is = x.1;
      own = own_fits raw law count i x.0 x.1 h;
      carried = types_carried raw law i x.0 x.1;
      before = type_ids raw law i x.0 x.1;
      parts = parts_fit raw law count i x.0 x.1 h;
    }

-- ---- as `let`s read them

-- all types
pub masked_fit : (raw : RawFacts) → IsLawful raw → (count : ℕ) → AllFit raw count (masked raw.types) (FitsThere raw count)
masked_fit raw law count i h = (let x = type_there raw.types i h.within in by x.0 x.1 (is_alias x.0) refl)
  where
    by : (x : RawType) → slice_get raw.types i ≡ Some x → (b : Bool) → is_alias x ≡ b
        → FitsHere raw count (masked raw.types) (FitsThere raw count) i
    by x at true is = record {
      written = type.Hole;
      is = alias_is_hole raw.types i x at is;
      own = tt;
      carried = refl;
      before = λ k t part. absurd (cc);
      parts = λ k t part. absurd (cc);
    }
    by x at false is = record {
      written = x;
      is = other_is_itself raw.types i x at is;
      own = own_there raw law count i x at h is;
      carried = types_carried raw law i x at;
      before = type_ids raw law i x at;
      parts = parts_there raw law count i x at h;
    }

-- parts still come before the types that they are parts of
pub masked_before : (types : List RawType) → AllHold ChildrenBefore types → AllHold ChildrenBefore (masked types)
masked_before types all i y at = by (slice_get types i) refl
  where
    by_kind : (x : RawType) → slice_get types i ≡ Some x → (b : Bool) → is_alias x ≡ b → ChildrenBefore i y
    by_kind x found true is =
        let both : Some type.Hole ≡ Some y = sym (alias_is_hole types i x found is) ∙ at in
        let same : type.Hole ≡ y = cc in
        subst (ChildrenBefore i) same (λ k t part. absurd (cc))
    by_kind x found false is =
        let both : Some x ≡ Some y = sym (other_is_itself types i x found is) ∙ at in
        let same : x ≡ y = cc in
        subst (ChildrenBefore i) same (all i x found)

    by : (o : Option RawType) → slice_get types i ≡ o → ChildrenBefore i y
    by None found = (let clash : None ≡ Some y = sym (masked_at types i ∙ ap (option_map masked_type) found) ∙ at in absurd (cc))
    by (Some x) found = by_kind x found (is_alias x) refl
