-- The bodies of lawful facts that are carried can be walked, and their functions have a written type for each parameter.
use Rattle.std.specs.Prelude.{◌≡◌, ◌+◌, ◌<◌, ℕ, List, length, slice_get, get_or, Option, Some, None, IsSome, IsSomeAnd, IsTrue, refl}
use Rattle.std.specs.Option.{option_and_then}
use Rattle.std.proofs.Common.{ap, subst, arith}
use Rattle.std.proofs.lemmas.Option.{slice_get_within, slice_get_read}
use Rattle.hir_facts.specs.Words.{BodyId, DefWithBodyId, RawFn, RawBody, RawFacts, Schedule, IsSchedule, AreDepths}
use Rattle.hir_types.specs.declared.ids.DefWithBodyId.TheVariants as def
use Rattle.hir_facts.specs.Own.{IsWalkable, HasBody, HasCarriedBody, body_id_of, body_of, inputs_by, inputs_of, is_carried_body, BodyIdsExist, count_of, IsWellFormed, IsLawful, AreSchedules, binder_exists, body_ids, counts_fit, bodies_well_formed, scopes_hold, bodies_small, literals_fit}
use Rattle.hir_facts.proofs.CarriedBodies.{carried_parts, bound_once, literal_once}
use Rattle.hir_facts.proofs.Binders.{typed_before}

-- a carried body has no `self`
pub no_self : (b : RawBody) → IsTrue (is_carried_body b) → b.self_ ≡ None
no_self b h = (carried_parts b h).no_self

-- each body of lawful facts that is carried can be walked in the order of its numbers
pub walkable : (raw : RawFacts) → IsLawful raw → (i : ℕ) (b : RawBody) (s : Schedule) → slice_get raw.bodies i ≡ Some b → IsSchedule b s → IsTrue (is_carried_body b) → IsWalkable b s
walkable raw law i b s found numbered carried =
    let ids : BodyIdsExist raw i b = body_ids raw law i b found in
    let well : IsWellFormed b = bodies_well_formed raw law i b found in
    record {
      schedule = numbered;
      carried = carried;
      fit = ids.parts;
      binders = binder_exists raw i b ids;
      bound = λ v lt. bound_once b carried v (well.bound v lt);
      scopes = typed_before b s carried (scopes_hold raw law i b found s numbered (bodies_small raw law i b found).low);
      literals = λ p e is. literal_once b carried e ((literals_fit raw law i b found).under p e is);
    }

-- ---- a definition whose body is carried

-- has a body
pub carried_has_body : (raw : RawFacts) (d : DefWithBodyId) → HasCarriedBody raw d → HasBody raw d
carried_has_body raw d h = by (body_id_of raw d) h
  where
    by : (o : Option BodyId) → IsSomeAnd (option_and_then (λ i. slice_get raw.bodies i.0) o) (λ b. IsTrue (is_carried_body b)) → IsSome o
    by None here = absurd here
    by (Some i) here = refl

-- which is carried
pub asked_is_carried : (raw : RawFacts) (d : DefWithBodyId) (b : RawBody) → HasCarriedBody raw d → body_of raw d ≡ Some b → IsTrue (is_carried_body b)
asked_is_carried raw d b h is = by (body_of raw d) is h
  where
    by : (o : Option RawBody) → o ≡ Some b → IsSomeAnd o (λ x. IsTrue (is_carried_body x)) → IsTrue (is_carried_body b)
    by None was here = absurd here
    by (Some x) was here = (let same : x ≡ b = cc in subst (λ y. IsTrue (is_carried_body y)) same here)

-- ---- inputs

count_at : (raw : RawFacts) → IsLawful raw → (f : ℕ) (o : Option RawFn) (i : BodyId) (b : RawBody) → slice_get raw.fns f ≡ o → option_and_then (λ x. x.body) o ≡ Some i → slice_get raw.bodies i.0 ≡ Some b → IsTrue (is_carried_body b) → length (inputs_by o) ≡ length b.params
count_at raw law f None i b found is here carried = absurd (cc)
count_at raw law f (Some x) i b found is here carried =
    let count : length x.inputs ≡ count_of b.self_ + length b.params = counts_fit raw law f x found i b is here in
    let none : count_of b.self_ ≡ 0 = ap count_of (no_self b carried) in
    omega (arith, count, none)

-- there is a written type for each parameter of a body that is carried
pub inputs_count : (raw : RawFacts) → IsLawful raw → (d : DefWithBodyId) (i : BodyId) (b : RawBody) → body_id_of raw d ≡ Some i → slice_get raw.bodies i.0 ≡ Some b → IsTrue (is_carried_body b) → length (inputs_of raw d) ≡ length b.params
inputs_count raw law (def.FunctionId f) i b is here carried = count_at raw law f.0 (slice_get raw.fns f.0) i b refl is here carried
inputs_count raw law (def.ConstId c) i b is here carried = absurd (cc)
inputs_count raw law (def.StaticId s) i b is here carried = absurd (cc)
inputs_count raw law (def.VariantId v) i b is here carried = absurd (cc)

-- ---- numbers

-- body i has its numbers
pub scheduled_at : (bodies : List RawBody) (schedules items : List Schedule) (i : ℕ) (b : RawBody) (s : Schedule) → AreSchedules bodies schedules → slice_get bodies i ≡ Some b → items ≡ schedules → s ≡ get_or items i s → IsSchedule b s × AreDepths b s
scheduled_at bodies schedules items i b s h found e is =
    let within : i < length bodies = slice_get_within bodies i b found in
    let size : length schedules ≡ length bodies = h.size in
    let is2 : s ≡ get_or schedules i s = rw e at is in
    h.each i b s found (slice_get_read schedules (length schedules) i s refl (omega arith) is2)
