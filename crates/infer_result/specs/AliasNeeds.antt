-- Goals that a path to a function or a constructor needs for the associated types in its signature: each is the argument of its own, after
-- those of the function or of the adt (the Rust Reference, "Associated types"; upstream `infer/unify.rs`, `normalize_associated_types_in`).
use Rattle.std.specs.Prelude.{◌≡◌, ℕ, suc, List, [], ◌∷◌, ◌++◌, length, slice_get, Option, Some, None, refl}
use Rattle.std.proofs.Common.{ap}
use Rattle.infer_result.specs.Words.{TypeAliasId, TypeRefId, GenericArg, with_params, pair, term, RawExpr, RawFacts, RawFn, RawPath, RawType, RawVariant, fn_aliases, variant_aliases, adt_params, count_or_none, Asked, projects, args_at}
use Rattle.infer_result.specs.Words.hir_raw.declared.raw.RawExpr.TheVariants as expr
use Rattle.infer_result.specs.Words.hir_raw.declared.raw.RawPath.TheVariants as path
use Rattle.infer_result.specs.Words.hir_raw.declared.raw.RawType.TheVariants as type

-- the associated type at these arguments of the function is the one at this place
abbrev pub alias_goal : RawFacts → List GenericArg → ℕ → TypeAliasId → List TypeRefId → Asked
alias_goal raw xs n a ws = record { kind = projects a; parts = pair (args_at raw xs ws) (term ((with_params xs).param n)) }

abbrev pub alias_goals_by : RawFacts → List GenericArg → ℕ → Option RawType → List Asked
alias_goals_by raw xs n (Some (type.Projection a ws)) = alias_goal raw xs n a ws ∷ []
alias_goals_by raw xs n _ = []

-- of these associated types, whose arguments have the numbers from n on
abbrev pub alias_goals_from : RawFacts → List GenericArg → ℕ → List ℕ → List Asked
alias_goals_from raw xs n [] = []
alias_goals_from raw xs n (k ∷ ks) = alias_goals_by raw xs n (slice_get raw.types k) ++ alias_goals_from raw xs (suc n) ks

abbrev pub fn_alias_goals : RawFacts → List GenericArg → Option RawFn → List Asked
fn_alias_goals raw xs None = []
fn_alias_goals raw xs (Some f) = alias_goals_from raw xs (length f.params) (fn_aliases raw.types f)

abbrev pub variant_alias_goals : RawFacts → List GenericArg → Option RawVariant → List Asked
variant_alias_goals raw xs None = []
variant_alias_goals raw xs (Some x) = alias_goals_from raw xs (count_or_none (adt_params raw x.adt)) (variant_aliases raw.types x)

-- what a path to a function or a constructor needs at these arguments beside its predicates
abbrev pub path_alias_goals : RawFacts → List GenericArg → RawPath → List Asked
path_alias_goals raw xs (path.Function f) = fn_alias_goals raw xs (slice_get raw.fns f.0)
path_alias_goals raw xs (path.Ctor v) = variant_alias_goals raw xs (slice_get raw.variants v.0)
path_alias_goals raw xs _ = []

abbrev pub alias_goals : RawFacts → List GenericArg → RawExpr → List Asked
alias_goals raw xs (expr.Path p) = path_alias_goals raw xs p
alias_goals raw xs _ = []

-- it needs none where no associated type stands in a signature
module _
    (raw : RawFacts) (none : (n : ℕ) (x : RawFn) → slice_get raw.fns n ≡ Some x → fn_aliases raw.types x ≡ [])
    (none_in_fields : (n : ℕ) (x : RawVariant) → slice_get raw.variants n ≡ Some x → variant_aliases raw.types x ≡ [])
    (xs : List GenericArg) where
  fn_none : (n : ℕ) (o : Option RawFn) → slice_get raw.fns n ≡ o → fn_alias_goals raw xs o ≡ []
  fn_none n None is = refl
  fn_none n (Some x) is = ap (alias_goals_from raw xs (length x.params)) (none n x is)

  variant_none : (n : ℕ) (o : Option RawVariant) → slice_get raw.variants n ≡ o → variant_alias_goals raw xs o ≡ []
  variant_none n None is = refl
  variant_none n (Some x) is = ap (alias_goals_from raw xs (count_or_none (adt_params raw x.adt))) (none_in_fields n x is)

  path_none : (p : RawPath) → path_alias_goals raw xs p ≡ []
  path_none (path.Function f) = fn_none f.0 (slice_get raw.fns f.0) refl
  path_none (path.Local v) = refl
  path_none (path.Ctor v) = variant_none v.0 (slice_get raw.variants v.0) refl

  pub none_for_aliases : (x : RawExpr) → alias_goals raw xs x ≡ []
  none_for_aliases (expr.Path p) = path_none p
  none_for_aliases _ = refl
