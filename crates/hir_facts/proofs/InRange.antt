-- The ids that a definition with a body leads to are in range, and written types are few.
use Rattle.std.specs.Prelude.{◌≡◌, ◌<◌, ◌^◌, ℕ, zero, suc, List, [], ◌∷◌, length, slice_get, Option, Some, None, IfSome}
use Rattle.std.specs.Option.{option_and_then}
use Rattle.std.proofs.Common.{refl, inl, inr, arith}
use Rattle.std.proofs.lemmas.Bool.{cases_lt}
use Rattle.hir_facts.specs.Words.{BodyId, FunctionId, DefWithBodyId, RawFn, RawFacts}
use Rattle.hir_types.specs.declared.ids.DefWithBodyId.TheVariants as def
use Rattle.hir_facts.specs.Own.{body_id_of, IsLawful, fn_ids, types_small}

body_of_fn : (raw : RawFacts) (law : IsLawful raw) (f : FunctionId) (o : Option RawFn) (i : BodyId) → slice_get raw.fns f.0 ≡ o → option_and_then (λ x. x.body) o ≡ Some i → i.0 < length raw.bodies
body_of_fn raw law f None i was e = cc
body_of_fn raw law f (Some x) i was e =
    let here : IfSome x.body (λ b. b.0 < length raw.bodies) = (fn_ids raw law f.0 x was).body in
    let here2 : IfSome (Some i) (λ b. b.0 < length raw.bodies) = rw e at here in
    here2

-- and so is its body
pub body_in_range : (raw : RawFacts) (d : DefWithBodyId) (i : BodyId) → IsLawful raw → body_id_of raw d ≡ Some i → i.0 < length raw.bodies
body_in_range raw (def.FunctionId f) i law e = body_of_fn raw law f (slice_get raw.fns f.0) i refl e
body_in_range raw (def.ConstId c) i law e = cc
body_in_range raw (def.StaticId s) i law e = cc
body_in_range raw (def.VariantId v) i law e = cc

-- ---- written types

there : {X : Type 0} (xs : List X) (i : ℕ) → i < length xs → (x : X) × (slice_get xs i ≡ Some x)
there [] i lt = absurd (omega arith)
there (y ∷ ys) zero lt = (y, refl)
there (y ∷ ys) (suc i) lt = there ys i (omega arith)

-- there are fewer than their ids can tell
pub few_types : (raw : RawFacts) → IsLawful raw → length raw.types < 2 ^ 32
few_types raw law = elim (cases_lt (length raw.types) (2 ^ 32)) [
  | inl lt ↦ lt
  | inr ge ↦ absurd (
      let x = there raw.types (2 ^ 20) (omega arith) in
      let early : 2 ^ 20 < 2 ^ 20 = (types_small raw law (2 ^ 20) x.0 x.1).early in
      omega arith)
]
