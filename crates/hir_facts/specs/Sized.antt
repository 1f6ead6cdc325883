-- Predicates that say that a type parameter has a size, and structs whose size is seen without associated types.
use Rattle.std.specs.Prelude.{ℕ, ◌==◌, ◌&&◌, nat_lt, Bool, true, false, List, [], ◌∷◌, slice_get, Option, Some, None, if◌then◌else◌}
use Rattle.std.specs.List.{list_all, list_any}
use Rattle.hir_facts.specs.Words.{TraitId, TypeRefId, VariantId, RawAdt, RawAdtKind, RawVariant, RawType, RawGoal, RawLang, RawFacts, arg_types, is_sized_lang, variant_aliases}
use Rattle.hir_raw.specs.declared.raw.RawAdtKind.TheVariants as kind
use Rattle.hir_raw.specs.declared.raw.RawType.TheVariants as type
use Rattle.hir_raw.specs.declared.raw.RawGoal.TheVariants as goal
use Rattle.hir_raw.specs.declared.raw.RawLang.TheVariants as lang
use Rattle.hir_facts.specs.Carried.{is_empty}

-- no item but the trait has this name
abbrev pub is_one_sized_lang : TraitId → RawLang → Bool
is_one_sized_lang t (lang.Sized u) = u.0 == t.0
is_one_sized_lang t (lang.Copy u) = true
is_one_sized_lang t (lang.Clone u) = true
is_one_sized_lang t lang.Other = true

-- the trait is that of types whose size is known: there is no other
abbrev pub is_sized_trait : RawFacts → TraitId → Bool
is_sized_trait raw t = list_any (is_sized_lang t) raw.lang && list_all (is_one_sized_lang t) raw.lang

-- the number of the parameter that a written type is
abbrev pub param_number : Option RawType → Option ℕ
param_number (Some (type.Param n)) = Some n
param_number _ = None

-- the number of the parameter that a list's one type is
abbrev pub only_param : RawFacts → List TypeRefId → Option ℕ
only_param raw (t ∷ []) = param_number (slice_get raw.types t.0)
only_param raw _ = None

-- the number of the parameter of which a predicate says that it has a size
abbrev pub sized_param : RawFacts → RawGoal → Option ℕ
sized_param raw (goal.Trait r) = if is_sized_trait raw r.trait_ then only_param raw (arg_types r.args) else None
sized_param raw (goal.Projection a xs t) = None

abbrev pub is_number : ℕ → Option ℕ → Bool
is_number i None = false
is_number i (Some n) = n == i

abbrev pub is_below : ℕ → Option ℕ → Bool
is_below count None = false
is_below count (Some n) = nat_lt n count

-- the predicate says that type parameter i of its item has a size
abbrev pub is_sized_of : RawFacts → ℕ → RawGoal → Bool
is_sized_of raw i g = is_number i (sized_param raw g)

-- it says so of one of the item's type parameters, of which there are this many
abbrev pub is_sized_pred : RawFacts → ℕ → RawGoal → Bool
is_sized_pred raw count g = is_below count (sized_param raw g)

-- ---- structs

-- no associated type stands in a field of the variant, where it is there
abbrev pub is_direct_variant : RawFacts → Option RawVariant → Bool
is_direct_variant raw None = true
is_direct_variant raw (Some x) = is_empty (variant_aliases raw.types x)

-- nor in a field of these variants, where they are a struct's
abbrev pub is_direct_struct : RawFacts → RawAdtKind → List VariantId → Bool
is_direct_struct raw kind.Struct vs = list_all (λ (v : VariantId). is_direct_variant raw (slice_get raw.variants v.0)) vs
is_direct_struct raw kind.Enum vs = true
is_direct_struct raw kind.Union vs = true

-- no associated type stands in a field of a struct
abbrev pub are_direct_structs : RawFacts → Bool
are_direct_structs raw = list_all (λ (a : RawAdt). is_direct_struct raw a.kind a.variants) raw.adts
