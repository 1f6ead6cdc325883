use Rattle.std.proofs.Common.{arith, ◌<◌, ◌≡◌, ◌∙◌, inr, ap, refl, sym, subst, Some, slice_get, length}
use Rattle.std.proofs.lemmas.Option.{slice_get_read}
use Rattle.std.proofs.lemmas.List.{get_or_default}
use Rattle.hir_types.specs.declared.ids.ExprOrPatId.TheVariants as node
use Rattle.infer_pat.specs.Words.{inner, IsSound, IsFine, IsFineExpectation, given_of, scope_in, schedule_of, entered}
use Rattle.infer_pat.specs.Words.hir_raw.declared.raw.RawPat.TheVariants as pat
use Rattle.infer_pat.proofs.Words.{sound_entered, every_from, fine_expectation_grown, fine_tuple}
use Rattle.infer_pat.specs.Own.{PatDone, IsGivenOrNew}
use Rattle.infer_pat.proofs.PatWalk.{wild_walked, bind_walked, pat_within, mode_within, bind_within}
use Rattle.infer_pat.proofs.TuplePats.{tuple_pat_begun, begins_tuple_pat, comes_to_part, goes_past_part, ends_tuple_pat, hands_parts}
use Rattle.infer_pat.proofs.CtorPatWalk.{ctor_pat_begun, begun_clock, begins_ctor_pat, comes_to_ctor_part, goes_past_ctor_part, ends_ctor_pat}
use Rattle.infer_pat.proofs.pat.+pats.Goals as goal

pub infer_pat-given_or_new-requires-clause-sound : goal.infer_pat-given_or_new-requires-clause-sound
infer_pat-given_or_new-requires-clause-sound t c = subst (λ k. IsSound (scope_in c.args.given.now) k) (sym c.enter.ensures) (sound_entered _ c.requires.state.sound)

pub infer_pat-given_or_new-requires-in-Bind-clause-sound : goal.infer_pat-given_or_new-requires-in-Bind-clause-sound
infer_pat-given_or_new-requires-in-Bind-clause-sound t c = subst (λ k. IsSound (scope_in c.args.given.now) k) (sym c.enter-in-Bind.ensures) (sound_entered _ c.requires.state.sound)

pub infer_pat-write_pat_ty-requires : goal.infer_pat-write_pat_ty-requires
infer_pat-write_pat_ty-requires t c =
    let made : IsGivenOrNew (scope_in c.args.given.now) c.args.expected c.in_ok-ty-in-Wild.ty (entered c.args.context.now) c.given_or_new.new.context
    = subst (λ k. IsGivenOrNew (scope_in c.args.given.now) c.args.expected c.in_ok-ty-in-Wild.ty k c.given_or_new.new.context) c.enter.ensures c.in_ok-ty-in-Wild.ensures in
    pat_within (given_of c.args.given.now) (schedule_of c.args.given.now) c.args.pat c.args.expected c.in_ok-ty-in-Wild.ty c.args.context.now c.given_or_new.new.context c.requires made

pub infer_pat-infer_bind_pat-requires-clause-modes : goal.infer_pat-infer_bind_pat-requires-clause-modes
infer_pat-infer_bind_pat-requires-clause-modes t c =
    let made : IsGivenOrNew (scope_in c.args.given.now) c.args.expected c.in_ok-ty-in-Bind.ty (entered c.args.context.now) c.given_or_new-in-Bind.new.context
    = subst (λ k. IsGivenOrNew (scope_in c.args.given.now) c.args.expected c.in_ok-ty-in-Bind.ty k c.given_or_new-in-Bind.new.context) c.enter-in-Bind.ensures c.in_ok-ty-in-Bind.ensures in
    mode_within (given_of c.args.given.now) (schedule_of c.args.given.now) c.args.pat c.args.expected c.in_ok-ty-in-Bind.ty c.args.context.now c.given_or_new-in-Bind.new.context c.requires made

pub infer_pat-infer_bind_pat-requires-clause-pats : goal.infer_pat-infer_bind_pat-requires-clause-pats
infer_pat-infer_bind_pat-requires-clause-pats t c =
    let made : IsGivenOrNew (scope_in c.args.given.now) c.args.expected c.in_ok-ty-in-Bind.ty (entered c.args.context.now) c.given_or_new-in-Bind.new.context
    = subst (λ k. IsGivenOrNew (scope_in c.args.given.now) c.args.expected c.in_ok-ty-in-Bind.ty k c.given_or_new-in-Bind.new.context) c.enter-in-Bind.ensures c.in_ok-ty-in-Bind.ensures in
    pat_within (given_of c.args.given.now) (schedule_of c.args.given.now) c.args.pat c.args.expected c.in_ok-ty-in-Bind.ty c.args.context.now c.given_or_new-in-Bind.new.context c.requires made

pub infer_pat-infer_bind_pat-requires-clause-bindings : goal.infer_pat-infer_bind_pat-requires-clause-bindings
infer_pat-infer_bind_pat-requires-clause-bindings t c =
    let is : slice_get c.args.given.now.body.now.pats c.args.pat.0 ≡ Some (pat.Bind c.in-Bind.id c.in-Bind.subpat)
    = slice_get_read c.args.given.now.body.now.pats _ c.args.pat.0 _ refl c.requires.within (rw c.as_slice.ensures at c.index-as_slice-pat.is) ∙ ap (λ x. Some x) c.in-Bind.is in
    let made : IsGivenOrNew (scope_in c.args.given.now) c.args.expected c.in_ok-ty-in-Bind.ty (entered c.args.context.now) c.given_or_new-in-Bind.new.context
    = subst (λ k. IsGivenOrNew (scope_in c.args.given.now) c.args.expected c.in_ok-ty-in-Bind.ty k c.given_or_new-in-Bind.new.context) c.enter-in-Bind.ensures c.in_ok-ty-in-Bind.ensures in
    bind_within (given_of c.args.given.now) (schedule_of c.args.given.now) c.args.pat c.args.expected c.in_ok-ty-in-Bind.ty c.args.context.now c.given_or_new-in-Bind.new.context c.requires made c.in-Bind.id c.in-Bind.subpat is

pub infer_pat-returns-in_ok-ty-in-Wild : goal.infer_pat-returns-in_ok-ty-in-Wild
infer_pat-returns-in_ok-ty-in-Wild t c =
    let is : slice_get c.args.given.now.body.now.pats c.args.pat.0 ≡ Some pat.Wild
    = slice_get_read c.args.given.now.body.now.pats _ c.args.pat.0 _ refl c.requires.within (rw c.as_slice.ensures at c.index-as_slice-pat.is) ∙ ap (λ x. Some x) c.in-Wild.is in
    let made : IsGivenOrNew (scope_in c.args.given.now) c.args.expected c.in_ok-ty-in-Wild.ty (entered c.args.context.now) c.given_or_new.new.context
    = subst (λ k. IsGivenOrNew (scope_in c.args.given.now) c.args.expected c.in_ok-ty-in-Wild.ty k c.given_or_new.new.context) c.enter.ensures c.in_ok-ty-in-Wild.ensures in
    subst (λ k. PatDone (given_of c.args.given.now) (schedule_of c.args.given.now) c.args.pat c.args.expected c.args.context.now k) (sym c.write_pat_ty.ensures)
    (wild_walked (given_of c.args.given.now) (schedule_of c.args.given.now) c.args.pat c.args.expected c.in_ok-ty-in-Wild.ty c.args.context.now c.given_or_new.new.context c.requires made is)

pub infer_pat-returns-in_ok-infer_bind_pat-in-Bind : goal.infer_pat-returns-in_ok-infer_bind_pat-in-Bind
infer_pat-returns-in_ok-infer_bind_pat-in-Bind t c =
    let is : slice_get c.args.given.now.body.now.pats c.args.pat.0 ≡ Some (pat.Bind c.in-Bind.id c.in-Bind.subpat)
    = slice_get_read c.args.given.now.body.now.pats _ c.args.pat.0 _ refl c.requires.within (rw c.as_slice.ensures at c.index-as_slice-pat.is) ∙ ap (λ x. Some x) c.in-Bind.is in
    let made : IsGivenOrNew (scope_in c.args.given.now) c.args.expected c.in_ok-ty-in-Bind.ty (entered c.args.context.now) c.given_or_new-in-Bind.new.context
    = subst (λ k. IsGivenOrNew (scope_in c.args.given.now) c.args.expected c.in_ok-ty-in-Bind.ty k c.given_or_new-in-Bind.new.context) c.enter-in-Bind.ensures c.in_ok-ty-in-Bind.ensures in
    subst (λ k. PatDone (given_of c.args.given.now) (schedule_of c.args.given.now) c.args.pat c.args.expected c.args.context.now k) (sym c.in_ok-infer_bind_pat-in-Bind.ensures)
    (bind_walked (given_of c.args.given.now) (schedule_of c.args.given.now) c.args.pat c.args.expected c.in_ok-ty-in-Bind.ty c.args.context.now c.given_or_new-in-Bind.new.context c.requires made c.in-Bind.id c.in-Bind.subpat is)

pub infer_pat-infer_tuple_pat-requires : goal.infer_pat-infer_tuple_pat-requires
infer_pat-infer_tuple_pat-requires t c =
    let is : slice_get c.args.given.now.body.now.pats c.args.pat.0 ≡ Some (pat.Tuple c.in-Tuple.args)
    = slice_get_read c.args.given.now.body.now.pats _ c.args.pat.0 _ refl c.requires.within (rw c.as_slice.ensures at c.index-as_slice-pat.is) ∙ ap (λ x. Some x) c.in-Tuple.is in
    (omega (arith, c.decreases), (c.requires, is ∙ ap (λ l. Some (pat.Tuple l)) (sym c.as_slice-in-Tuple.ensures)))

pub infer_pat-infer_lit_pat-requires-clause-is : goal.infer_pat-infer_lit_pat-requires-clause-is
infer_pat-infer_lit_pat-requires-clause-is t c =
    slice_get_read c.args.given.now.body.now.pats _ c.args.pat.0 _ refl c.requires.within (rw c.as_slice.ensures at c.index-as_slice-pat.is) ∙ ap (λ x. Some x) c.in-Lit.is

pub infer_pat-infer_tuple_struct_pat-requires : goal.infer_pat-infer_tuple_struct_pat-requires
infer_pat-infer_tuple_struct_pat-requires t c =
    let is : slice_get c.args.given.now.body.now.pats c.args.pat.0 ≡ Some (pat.TupleStruct c.in-TupleStruct.variant c.in-TupleStruct.args)
    = slice_get_read c.args.given.now.body.now.pats _ c.args.pat.0 _ refl c.requires.within (rw c.as_slice.ensures at c.index-as_slice-pat.is) ∙ ap (λ x. Some x) c.in-TupleStruct.is in
    (omega (arith, c.decreases), (c.requires, is ∙ ap (λ l. Some (pat.TupleStruct c.in-TupleStruct.variant l)) (sym c.as_slice-in-TupleStruct.ensures)))

pub infer_pat-infer_path_pat-requires-clause-is : goal.infer_pat-infer_path_pat-requires-clause-is
infer_pat-infer_path_pat-requires-clause-is t c =
    slice_get_read c.args.given.now.body.now.pats _ c.args.pat.0 _ refl c.requires.within (rw c.as_slice.ensures at c.index-as_slice-pat.is) ∙ ap (λ x. Some x) c.in-Path.is

pub infer_tuple_pat-part_tys-requires-clause-sound : goal.infer_tuple_pat-part_tys-requires-clause-sound
infer_tuple_pat-part_tys-requires-clause-sound t c = subst (λ k. IsSound (scope_in c.args.given.now) k) (sym c.enter.ensures) (sound_entered _ c.requires.before.state.sound)

pub infer_tuple_pat-part_tys-requires-clause-fine : goal.infer_tuple_pat-part_tys-requires-clause-fine
infer_tuple_pat-part_tys-requires-clause-fine t c = subst (λ k. IsFineExpectation (scope_in c.args.given.now) k.goals.table c.args.expected) (sym c.enter.ensures) c.requires.before.fine

pub infer_tuple_pat-demand_pat_ty-requires-clause-ty : goal.infer_tuple_pat-demand_pat_ty-requires-clause-ty
infer_tuple_pat-demand_pat_ty-requires-clause-ty t c =
    subst (λ t. IsFine (scope_in c.args.given.now) c.part_tys.new.context.goals.table t) (sym c.in_ok-tuple.ensures)
    (fine_tuple (scope_in c.args.given.now) c.part_tys.new.context.goals.table c.as_slice-tys.result.now (every_from (IsFine (scope_in c.args.given.now) c.part_tys.new.context.goals.table) c.as_slice-tys.result.now (λ i u e. c.in_ok-parts.ensures.made.fine i u (subst (λ us. slice_get us i ≡ Some u) c.as_slice-tys.ensures e))))

pub infer_tuple_pat-demand_pat_ty-requires-clause-fine : goal.infer_tuple_pat-demand_pat_ty-requires-clause-fine
infer_tuple_pat-demand_pat_ty-requires-clause-fine t c =
    fine_expectation_grown (scope_in c.args.given.now) c.enter.new.self.goals.table c.part_tys.new.context.goals.table c.args.expected c.in_ok-parts.ensures.made.grew
    (subst (λ k. IsFineExpectation (scope_in c.args.given.now) k.goals.table c.args.expected) (sym c.enter.ensures) c.requires.before.fine)

pub infer_tuple_pat-loop-i-init : goal.infer_tuple_pat-loop-i-init
infer_tuple_pat-loop-i-init t c =
    let begun = tuple_pat_begun _ _ _ _ _ _ _ _ _ _ _ _ c.requires.before c.requires.is c.enter.ensures c.as_slice-tys.ensures c.in_ok-parts.ensures c.in_ok-tuple.ensures c.in_ok-demand_pat_ty.ensures in
    begins_tuple_pat _ _ _ _ _ _ _ _ begun

pub infer_tuple_pat-infer_pat-requires : goal.infer_tuple_pat-infer_pat-requires
infer_tuple_pat-infer_pat-requires t c =
    let begun = tuple_pat_begun _ _ _ _ _ _ _ _ _ _ _ _ c.requires.before c.requires.is c.enter.ensures c.as_slice-tys.ensures c.in_ok-parts.ensures c.in_ok-tuple.ensures c.in_ok-demand_pat_ty.ensures in
    let within : c.loop-i.i < length c.as_slice-tys.result.now = omega (arith, begun.parts.made.count_is, c.loop-i-test.true) in
    let type_at : slice_get c.as_slice-tys.result.now c.loop-i.i ≡ Some c.in_ok-ty.ty = slice_get_read c.as_slice-tys.result.now _ c.loop-i.i _ refl within c.index-tys-i.is ∙ ap (λ y. Some y) (sym c.in_ok-ty.ensures) in (
      omega (arith, c.decreases, c.loop-i.invariant.walk.follows.clock, begun.demanded.clock, begun.parts.made.clock, c.requires.before.here, c.requires.before.ready.room, c.requires.before.ready.law.schedule.reached (inner (node.PatId c.args.pat)) c.requires.before.within),
      comes_to_part _ _ _ _ _ _ _ _ begun _ _ c.loop-i.invariant _ _ (get_or_default _ _ _ _ c.loop-i-test.true) type_at c.loop-i-test.true,
    )

pub infer_tuple_pat-loop-i-preserved : goal.infer_tuple_pat-loop-i-preserved
infer_tuple_pat-loop-i-preserved t c =
    let begun = tuple_pat_begun _ _ _ _ _ _ _ _ _ _ _ _ c.requires.before c.requires.is c.enter.ensures c.as_slice-tys.ensures c.in_ok-parts.ensures c.in_ok-tuple.ensures c.in_ok-demand_pat_ty.ensures in
    let within : c.loop-i.i < length c.as_slice-tys.result.now = omega (arith, begun.parts.made.count_is, c.loop-i-test.true) in
    let type_at : slice_get c.as_slice-tys.result.now c.loop-i.i ≡ Some c.in_ok-ty.ty = slice_get_read c.as_slice-tys.result.now _ c.loop-i.i _ refl within c.index-tys-i.is ∙ ap (λ y. Some y) (sym c.in_ok-ty.ensures) in
    goes_past_part _ _ _ _ _ _ _ _ begun _ _ c.loop-i.invariant _ _ (get_or_default _ _ _ _ c.loop-i-test.true) type_at c.loop-i-test.true _ c.in_ok-infer_pat.ensures

pub infer_tuple_pat-returns-clause-done : goal.infer_tuple_pat-returns-clause-done
infer_tuple_pat-returns-clause-done t c =
    let begun = tuple_pat_begun _ _ _ _ _ _ _ _ _ _ _ _ c.requires.before c.requires.is c.enter.ensures c.as_slice-tys.ensures c.in_ok-parts.ensures c.in_ok-tuple.ensures c.in_ok-demand_pat_ty.ensures in
    ends_tuple_pat _ _ _ _ _ _ _ _ begun _ _ c.loop-i.invariant c.loop-i-test.false

pub infer_tuple_pat-returns-clause-hands : goal.infer_tuple_pat-returns-clause-hands
infer_tuple_pat-returns-clause-hands t c =
    let begun = tuple_pat_begun _ _ _ _ _ _ _ _ _ _ _ _ c.requires.before c.requires.is c.enter.ensures c.as_slice-tys.ensures c.in_ok-parts.ensures c.in_ok-tuple.ensures c.in_ok-demand_pat_ty.ensures in
    hands_parts _ _ _ _ _ _ _ _ begun _ _ c.loop-i.invariant

pub infer_tuple_struct_pat-demand_ctor-requires-clause-sound : goal.infer_tuple_struct_pat-demand_ctor-requires-clause-sound
infer_tuple_struct_pat-demand_ctor-requires-clause-sound t c = subst (λ k. IsSound (scope_in c.args.given.now) k) (sym c.enter.ensures) (sound_entered _ c.requires.before.state.sound)

pub infer_tuple_struct_pat-demand_ctor-requires-clause-named : goal.infer_tuple_struct_pat-demand_ctor-requires-clause-named
infer_tuple_struct_pat-demand_ctor-requires-clause-named t c = c.requires.before.ready.written.patterns c.args.pat c.args.variant (inr (c.args.args.now, c.requires.is))

pub infer_tuple_struct_pat-demand_ctor-requires-clause-fine : goal.infer_tuple_struct_pat-demand_ctor-requires-clause-fine
infer_tuple_struct_pat-demand_ctor-requires-clause-fine t c = subst (λ k. IsFineExpectation (scope_in c.args.given.now) k.goals.table c.args.expected) (sym c.enter.ensures) c.requires.before.fine

pub infer_tuple_struct_pat-loop-i-init : goal.infer_tuple_struct_pat-loop-i-init
infer_tuple_struct_pat-loop-i-init t c =
    let begun = ctor_pat_begun _ _ _ _ _ _ _ _ _ _ _ c.requires.before c.requires.is c.enter.ensures c.as_slice-tys.ensures c.in_ok-fields.ensures in
    begins_ctor_pat _ _ _ _ _ _ _ _ _ begun

pub infer_tuple_struct_pat-infer_pat-requires : goal.infer_tuple_struct_pat-infer_pat-requires
infer_tuple_struct_pat-infer_pat-requires t c =
    let begun = ctor_pat_begun _ _ _ _ _ _ _ _ _ _ _ c.requires.before c.requires.is c.enter.ensures c.as_slice-tys.ensures c.in_ok-fields.ensures in (
      omega (arith, c.decreases, c.loop-i.invariant.walk.follows.clock, begun_clock _ _ _ _ _ _ _ _ _ begun, c.requires.before.here, c.requires.before.ready.room, c.requires.before.ready.law.schedule.reached (inner (node.PatId c.args.pat)) c.requires.before.within),
      comes_to_ctor_part _ _ _ _ _ _ _ _ _ begun _ _ c.loop-i.invariant _ (get_or_default _ _ _ _ c.loop-i-test.true) c.loop-i-test.true _ c.in_ok-ty.ensures,
    )

pub infer_tuple_struct_pat-loop-i-preserved : goal.infer_tuple_struct_pat-loop-i-preserved
infer_tuple_struct_pat-loop-i-preserved t c =
    let begun = ctor_pat_begun _ _ _ _ _ _ _ _ _ _ _ c.requires.before c.requires.is c.enter.ensures c.as_slice-tys.ensures c.in_ok-fields.ensures in
    goes_past_ctor_part _ _ _ _ _ _ _ _ _ begun _ _ c.loop-i.invariant _ (get_or_default _ _ _ _ c.loop-i-test.true) c.loop-i-test.true _ c.in_ok-ty.ensures _ c.in_ok-infer_pat.ensures

pub infer_tuple_struct_pat-returns : goal.infer_tuple_struct_pat-returns
infer_tuple_struct_pat-returns t c =
    let begun = ctor_pat_begun _ _ _ _ _ _ _ _ _ _ _ c.requires.before c.requires.is c.enter.ensures c.as_slice-tys.ensures c.in_ok-fields.ensures in
    ends_ctor_pat _ _ _ _ _ _ _ _ _ begun _ _ c.loop-i.invariant c.loop-i-test.false
