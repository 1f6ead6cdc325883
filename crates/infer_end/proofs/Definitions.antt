-- The body of a definition of lawful facts, and the types of what the definition takes and gives.
use Rattle.std.specs.Option.{option_and_then}
use Rattle.std.specs.Prelude.{IsTrue}
use Rattle.std.proofs.Common.{◌≡◌, ap, ◌∙◌, refl, Option, Some, None, slice_get, ◌<◌, length, ℕ, inl, inr, List}
use Rattle.infer_end.specs.Words.{BodyId, DefWithBodyId, VariantId, PatId, Ty, term, IsRead, RawBody, RawFacts, body_id_of, body_of, is_carried_body, IsWalkable, RawVariant, BodyIdsExist, function_exists, constructor_exists, constructor_pattern_exists, tuple_struct_exists, scope_of, lets_fit, body_ids, IsLawful, Schedule, IsVariantPat, AllTypes, InferenceResult, AreOwnTypes, AreLetTypes, IsMade, TypesFit, SeenFit, IsTableOf, given_by, WrittenExist, State, new_state, IsCarriedExpectation, IsFineExpectation}
use Rattle.infer_end.proofs.Words.{inputs_count, typed_by_schedule, found, named_function, named_variant, item_with, carried_fine}
use Rattle.infer_end.proofs.OwnIn.{alias_in, own_input_in, own_output_in, own_count}

pub found_body : (raw : RawFacts) (d : DefWithBodyId) (i : BodyId) (b : RawBody) → body_id_of raw d ≡ Some i → slice_get raw.bodies i.0 ≡ Some b → body_of raw d ≡ Some b
found_body raw d i b id at = ap (λ o. option_and_then (λ k. slice_get raw.bodies k.0) o) id ∙ at

-- a variant that is named is there
variant_there : (raw : RawFacts) (v : VariantId) → v.0 < length raw.variants → (x : RawVariant) × (slice_get raw.variants v.0 ≡ Some x)
variant_there raw v h = found raw.variants v.0 h

pattern_variant : (raw : RawFacts) (i : ℕ) (b : RawBody) → BodyIdsExist raw i b → (p : PatId) (v : VariantId) → IsVariantPat b p v → v.0 < length raw.variants
pattern_variant raw i b ids p v (inl is) = constructor_pattern_exists raw i b ids p v is
pattern_variant raw i b ids p v (inr is) = tuple_struct_exists raw i b ids p v is.0 is.1

module _ (raw : RawFacts) (d : DefWithBodyId) (i : BodyId) (b : RawBody) (inputs : List (Option Ty)) (output : Option Ty) (law : IsLawful raw) (id : body_id_of raw d ≡ Some i) (at : slice_get raw.bodies i.0 ≡ Some b) (own : AreOwnTypes raw d inputs output) where
  pub written_exist : (aliases : List (Option Ty)) → AreLetTypes raw d b aliases → WrittenExist (given_by raw d b inputs output aliases)
  written_exist aliases lets = record {
    lets = λ e k p w init other is. lets_fit raw law d b (found_body raw d i b id at) e k p w init other is;
    aliases = alias_in raw d b aliases lets;
    inputs = own_input_in raw law d i id inputs output own;
    functions = λ e f is. named_function raw law f (function_exists raw i.0 b (body_ids raw law i.0 b at) e f is);
    constructors = λ e v is. (let x = variant_there raw v (constructor_exists raw i.0 b (body_ids raw law i.0 b at) e v is) in named_variant raw law v x.0 x.1);
    patterns = λ p v is. (let x = variant_there raw v (pattern_variant raw i.0 b (body_ids raw law i.0 b at) p v is) in named_variant raw law v x.0 x.1);
    items = item_with raw law;
  }

  pub inputs_for_params : IsTrue (is_carried_body b) → length inputs ≡ length b.params
  inputs_for_params carried = own_count raw law d i id inputs output own ∙ inputs_count raw law d i b id at carried

  -- what is expected of the root, if anything
  output_by : (o : Option Ty) → output ≡ o → (state : State) → IsCarriedExpectation o × IsFineExpectation (scope_of raw d) state o
  output_by None is state = (tt, tt)
  output_by (Some t) is state = (let known = own_output_in raw law d i id inputs output own t is in (known.carried, carried_fine state (scope_of raw d) t known.carried known.heads))

  pub output_carried : IsCarriedExpectation output
  output_carried = (output_by output refl new_state).0

  pub output_fine : (state : State) → IsFineExpectation (scope_of raw d) state output
  output_fine state = (output_by output refl state).1

pub table_of : (raw : RawFacts) (d : DefWithBodyId) (i : BodyId) (b : RawBody) (s : Schedule) (inputs : List (Option Ty)) (output : Option Ty) (aliases : List (Option Ty)) (r : InferenceResult) → body_id_of raw d ≡ Some i → slice_get raw.bodies i.0 ≡ Some b → IsWalkable b s → AreOwnTypes raw d inputs output → AreLetTypes raw d b aliases → IsMade (given_by raw d b inputs output aliases) r → TypesFit raw d r → SeenFit raw d r → AllTypes (λ t. IsRead (term t)) r → IsTableOf raw d r
table_of raw d i b s inputs output aliases r id at law own lets made fit seen_fit read = record {
  body = b;
  is_body = found_body raw d i b id at;
  inputs = inputs;
  output = output;
  own = own;
  aliases = aliases;
  lets = lets;
  typed = typed_by_schedule (given_by raw d b inputs output aliases) r s law.schedule made;
  fit = fit;
  seen_fit = seen_fit;
  read = read;
}
