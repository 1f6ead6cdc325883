-- What a body knows of the types of what its definition takes and gives, and of the associated types in the types of its `let`s. Where no
-- associated type is written in what the definition takes and gives, these are the types that are written; else each is what it reads as in
-- the scope of the definition, if that can stand in the body (the Rust Reference, "Associated types"; upstream `infer.rs`, `collect_fn`,
-- by `process_user_written_ty`). So is each associated type that stands outermost in the type of a `let` (upstream `infer.rs`,
-- `make_body_ty`).
use Rattle.std.specs.Prelude.{ℕ, ◌≡◌, ◌⊎◌, List, [], ◌∷◌, map, slice_get, Option, Some, None}
use Rattle.hir_types.specs.declared.head.Head.TheVariants as head
use Rattle.infer_result.specs.Words.{DefWithBodyId, TypeRefId, Ty, Term, hole, leaf, pair, term, RawBody, RawFacts, RawFn, RawType, fn_aliases, let_aliases, Scope, scope_of, lowered, written_type, return_type, inputs_of, System, IsSystemOf}
use Rattle.hir_types.specs.declared.ids.DefWithBodyId.TheVariants as def
use Rattle.infer_result.specs.Needs.{scope_item}
use Rattle.infer_result.specs.Table.{recorded}
use Rattle.infer_result.specs.InHand.{CanStand, IsKnownAs}

-- each of these is what a body knows of the written type at its place
abbrev pub EachIsKnownAs : Scope → System → ℕ → List RawType → List TypeRefId → List (Option Ty) → Type 0
EachIsKnownAs sc f n types [] [] = Unit {0}
EachIsKnownAs sc f n types (w ∷ ws) (o ∷ os) = IsKnownAs sc f n (written_type types w) o × EachIsKnownAs sc f n types ws os
EachIsKnownAs sc f n types _ _ = ⊥

-- these are what the body of the definition knows of what the definition takes and gives, by the sources of its goals
pub record AreKnownAs (raw : RawFacts) (d : DefWithBodyId) (inputs : List (Option Ty)) (output : Option Ty) : Type 0 where
  pub sources : System
  pub of_item : IsSystemOf raw (scope_item raw d) sources
  pub takes : EachIsKnownAs (scope_of raw d) sources raw.limits.goal_depth raw.types (inputs_of raw d) inputs
  pub gives : IsKnownAs (scope_of raw d) sources raw.limits.goal_depth (return_type raw d) output

-- what it takes, as it is written
abbrev pub written_inputs : RawFacts → DefWithBodyId → List (Option Ty)
written_inputs raw d = map (λ w. Some (written_type raw.types w)) (inputs_of raw d)

abbrev pub fn_aliases_by : List RawType → Option RawFn → List ℕ
fn_aliases_by types None = []
fn_aliases_by types (Some x) = fn_aliases types x

-- the associated types that are written in what it takes and gives
abbrev pub aliases_of : RawFacts → DefWithBodyId → List ℕ
aliases_of raw (def.FunctionId f) = fn_aliases_by raw.types (slice_get raw.fns f.0)
aliases_of raw (def.ConstId c) = []
aliases_of raw (def.StaticId s) = []
aliases_of raw (def.VariantId v) = []

-- these are the types of what the definition takes, and of what it gives, as its body knows them
pub record AreOwnTypes (raw : RawFacts) (d : DefWithBodyId) (inputs : List (Option Ty)) (output : Option Ty) : Type 0 where
  pub as_written : aliases_of raw d ≡ [] → (inputs ≡ written_inputs raw d) × (output ≡ Some (return_type raw d))
  pub as_read : (aliases_of raw d ≡ [] → ⊥) → AreKnownAs raw d inputs output

-- ---- in the types of `let`s

-- a `_` stands in the term
abbrev pub HoldsPlaceholder : Term → Type 0
HoldsPlaceholder (hole k) = ⊥
HoldsPlaceholder (leaf head.Hole) = Unit {0}
HoldsPlaceholder (leaf _) = ⊥
HoldsPlaceholder (pair a b) = HoldsPlaceholder a ⊎ HoldsPlaceholder b

-- what is known of an associated type there: nothing where a `_` stands among its arguments, which may stand for anything
abbrev pub IsAliasKnownAs : Scope → System → ℕ → Ty → Option Ty → Type 0
IsAliasKnownAs sc f n t (Some u) = (HoldsPlaceholder (term t) → ⊥) × IsKnownAs sc f n t (Some u)
IsAliasKnownAs sc f n t None = HoldsPlaceholder (term t) ⊎ IsKnownAs sc f n t None

-- each associated type that the `let`s are written with is known in this scope by these sources, by its number
abbrev pub AliasesAreKnown : RawFacts → Scope → System → RawBody → List (Option Ty) → Type 0
AliasesAreKnown raw sc f b known =
    (i k : ℕ) → slice_get (let_aliases raw.types b) i ≡ Some k
    → IsAliasKnownAs sc f raw.limits.goal_depth (lowered raw.types k) (recorded known k)

-- this is what the body of the definition knows of them, by the sources of its goals
pub record AreKnownLets (raw : RawFacts) (d : DefWithBodyId) (b : RawBody) (known : List (Option Ty)) : Type 0 where
  pub sources : System
  pub of_item : IsSystemOf raw (scope_item raw d) sources
  pub each : AliasesAreKnown raw (scope_of raw d) sources b known

-- so it is where one is written, and else nothing is known; what is known can stand in the body
pub record AreLetTypes (raw : RawFacts) (d : DefWithBodyId) (b : RawBody) (known : List (Option Ty)) : Type 0 where
  pub none : let_aliases raw.types b ≡ [] → known ≡ []
  pub read : (let_aliases raw.types b ≡ [] → ⊥) → AreKnownLets raw d b known
  pub stand : (k : ℕ) (t : Ty) → recorded known k ≡ Some t → CanStand (scope_of raw d) t
