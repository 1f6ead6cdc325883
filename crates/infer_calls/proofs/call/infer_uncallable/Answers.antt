use Rattle.std.proofs.Common.{arith, ◌≡◌, ◌∙◌, ap, sym, subst, None, []}
use Rattle.hir_types.specs.declared.ids.ExprOrPatId.TheVariants as node
use Rattle.hir_types.specs.declared.ty.Ty.TheVariants as ty
use Rattle.infer_calls.specs.Words.{hole_count, given_of, schedule_of, with_seen, with_table, KindDone}
use Rattle.infer_calls.specs.Own.{BeforeLoose, LooseDone}
use Rattle.infer_calls.proofs.Uncallable.{seen_entry, comes_to_seen, ends_uncallable}
use Rattle.infer_calls.proofs.Words.{later}
use Rattle.infer_calls.proofs.call.infer_uncallable.Goals as goal

pub infer_uncallable_arguments-requires-clause-infers : goal.infer_uncallable_arguments-requires-clause-infers
infer_uncallable_arguments-requires-clause-infers o c =
    let same : c.note_seen.new.self.clock ≡ c.args.context.now.clock = ap (λ k. k.clock) c.in_ok-note_seen.ensures in
    later _ _ _ _ _ _ (omega (arith, same)) c.requires.infers

pub infer_uncallable_arguments-requires-clause-before : goal.infer_uncallable_arguments-requires-clause-before
infer_uncallable_arguments-requires-clause-before o c =
    let g = given_of c.args.given.now in
    let s = schedule_of c.args.given.now in
    let noted : c.note_seen.new.self ≡ with_seen c.args.context.now (seen_entry g s _ _ _ _ c.requires.before) = c.in_ok-note_seen.ensures ∙ ap (λ v. with_seen c.args.context.now (record { node = node.ExprId c.args.call_expr; ty = v; other = None })) c.in_ok-seen_ty.ensures in
    subst (λ k. BeforeLoose g s c.args.call_expr c.args.args.now [] k) (sym noted) (comes_to_seen g s _ _ _ _ c.requires.before)

pub returns : goal.returns
returns o c =
    let g = given_of c.args.given.now in
    let s = schedule_of c.args.given.now in
    let noted : c.note_seen.new.self ≡ with_seen c.args.context.now (seen_entry g s _ _ _ _ c.requires.before) = c.in_ok-note_seen.ensures ∙ ap (λ v. with_seen c.args.context.now (record { node = node.ExprId c.args.call_expr; ty = v; other = None })) c.in_ok-seen_ty.ensures in
    let selected = c.infer_uncallable_arguments.new.context in
    let loose = subst (λ k. LooseDone g s c.args.call_expr c.args.args.now [] k selected) noted c.in_ok-infer_uncallable_arguments.ensures.done in
    subst (λ v. KindDone g s c.args.call_expr None v c.args.context.now (with_table selected c.next_ty_var.new.self)) (sym c.in_ok-ty.ensures.hole)
    (subst (λ k. KindDone g s c.args.call_expr None (ty.Var (hole_count selected.goals.table)) c.args.context.now (with_table selected k)) (sym c.in_ok-ty.ensures.made)
    (ends_uncallable g s _ _ _ _ c.requires.before selected loose))
