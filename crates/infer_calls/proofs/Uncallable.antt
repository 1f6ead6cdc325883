-- Calls of what is no function.
use Rattle.std.proofs.Common.{None, ◌≡◌, sym, subst, List, refl, arith, []}
use Rattle.infer_calls.specs.Words.{ExprId, Ty, folded, Assignment, CallableDefId, GenericArg, Schedule, Grew, bindings, resolved_type, hole_count, AllOf, stays_with, Given, HasTy, InferenceResult, Seen, IsTrueSeen, InferenceContext, found_under, Closes, IsFine, OwnDone, KindDone, Within, Follows, KindWalked, Extends, Nothing}
use Rattle.hir_types.specs.declared.ty.Ty.TheVariants as ty
use Rattle.hir_types.specs.declared.head.HoleKind.TheVariants as kind
use Rattle.hir_types.specs.declared.ids.ExprOrPatId.TheVariants as node
use Rattle.infer_calls.proofs.Words.{grew_by_hole, goes_past_own, told_same, told_beside, follows_twice, closes_before, walking_after, follows_itself, same_found, closes_earlier, seen_under, of_body_seen, sound_seen, fine_hole, fine_closed, other_call_tells, holed, holed_sound}
use Rattle.infer_calls.specs.Words.infer_ctx.Context as context
use Rattle.infer_calls.specs.Words.infer_ctx.Found as found
use Rattle.infer_calls.specs.Own.{BeforeUncallable, IsCallOf, BeforeLoose, LooseDone, ComesToLoose, LooseWalked}
use Rattle.infer_calls.proofs.Calls.{saw_loose, uncallable_done}
use Rattle.infer_calls.proofs.CallWalk.{call_parts}
use Rattle.infer_calls.proofs.Callees.{known_fine, known_same, known_tells, no_path, not_callable}
use Rattle.infer_calls.specs.Words.infer_result.Columns as column

-- ---- what is called is typed, and is no item
module _ (g : Given) (s : Schedule) (n called : ExprId) (args : List ExprId) (c : InferenceContext) (h : Within g s n None c) (is : IsCallOf g.body n called args) (t u : Ty) (mid : InferenceContext) (d : OwnDone g s called None t c mid) (known : u ≡ resolved_type mid.goals.table t) (made : AllOf mid.goals.table.substitution.kinds (bindings mid.goals.table)) (none : (id : CallableDefId) (xs : List GenericArg) → u ≡ ty.FnDef id xs → ⊥) where
  pub comes_to_uncallable : BeforeUncallable g s n args u mid
  comes_to_uncallable =
      let parts = call_parts g s n called args c h is in
      let w = goes_past_own _ _ _ _ _ _ _ _ _ parts (λ a. Nothing) None t mid d (λ a b m o. o) (λ a q b m o. absurd o) in
      record {
        ready = h.ready;
        state = walking_after g s c mid h.state.told d.follows (λ a q. (d.each a q).walks.state);
        called = called;
        is_call = is;
        fine = known_fine g s called t u c mid d known made;
        tells = known_tells g s called t u c mid d known made h.ready;
        no_item = none;
        no_path = no_path g s called t u c mid d known made none;
        each = λ a q.
            let p = w.each a q in
            record {
              loose = record { ready = h.ready; state = p.walks.state; is_call = is; within = h.within; ahead = p.ahead; ends = p.ends };
              has = subst (λ v. HasTy (found_under a mid).result called v) (sym (known_same g s called t u c mid d known made a q)) (d.each a q).type_is;
            };
      }

-- ---- that it is none is kept
module _ (g : Given) (s : Schedule) (n : ExprId) (args : List ExprId) (u : Ty) (c : InferenceContext) (h : BeforeUncallable g s n args u c) where
  abbrev pub seen_entry : Seen
  seen_entry = record { node = node.ExprId n; ty = u; other = None }

  abbrev pub saw : InferenceContext
  saw = context.with_seen c seen_entry

  saw_follows : Follows g c saw
  saw_follows = record {
    clock = omega arith;
    grew = (follows_itself g c h.state.of_body h.state.sound).grew;
    sources = refl;
    of_body = of_body_seen g.body c h.state.of_body seen_entry;
    sound = sound_seen c h.state.sound seen_entry h.fine refl;
    told = told_beside g c saw refl refl refl;
  }

  -- and is so under each assignment
  module _ (a : Assignment) (q : Closes a c) where
    so : (r : InferenceResult) → Extends (found_under a c).result r → IsTrueSeen g r seen_entry
    so r x = record {
      call = n;
      called = h.called;
      args = args;
      is_node = refl;
      is_call = h.is_call;
      alone = refl;
      type = folded a u;
      has = x.columns column.type_of_expr h.called.0 (folded a u) (h.each a q).has;
      instance = record { types = a; integers = q.closing.int_var; is = refl };
      not_callable = not_callable g.scope u h.fine.heads h.no_item;
      no_item = h.no_path;
      upward = h.tells.type;
      head = h.tells.head;
    }

    loose_at : ComesToLoose g s n h.called args (found_under a saw)
    loose_at =
        subst (λ f. ComesToLoose g s n h.called args f) (sym (seen_under a c seen_entry))
        (saw_loose g s n h.called args (folded a u) (found_under a c) (h.each a q) seen_entry refl refl (fine_closed g.scope a u q.closing h.fine.heads) so)

  pub comes_to_seen : BeforeLoose g s n args [] saw
  comes_to_seen = record {
    ready = h.ready;
    state = walking_after g s c saw h.state.told saw_follows (λ a q. (loose_at a (closes_before g a c saw saw_follows q)).state);
    called = h.called;
    fine = λ i v at. absurd (cc);
    asks = λ a q i e v at none. absurd (cc);
    each = λ a q. loose_at a (closes_before g a c saw saw_follows q);
  }

  -- the call has any type
  pub ends_uncallable : (new : InferenceContext) → LooseDone g s n args [] saw new → KindDone g s n None (ty.Var (hole_count new.goals.table)) c (holed new kind.Ty)
  ends_uncallable new d =
      let v : Ty = ty.Var (hole_count new.goals.table) in
      let last : InferenceContext = holed new kind.Ty in
      let grew : Grew new.goals.table last.goals.table = grew_by_hole new.goals.table last.goals.table kind.Ty refl in
      let fine : IsFine g.scope last.goals.table v = fine_hole g.scope new.goals.table in
      record {
        follows = follows_twice g c saw last saw_follows (follows_twice g saw new last d.follows (record {
          clock = omega arith;
          grew = grew;
          sources = refl;
          of_body = d.follows.of_body;
          sound = holed_sound new kind.Ty d.follows.sound;
          told = told_same g new last refl (stays_with new.goals last.goals.table) grew;
        }));
        fine = fine;
        tells = other_call_tells g n h.called args h.is_call h.no_path v;
        each = λ a q.
            let m : Closes a new = closes_earlier a new last grew q in
            let l : Closes a saw = closes_before g a saw new d.follows m in
            let k : Closes a c = closes_before g a c saw saw_follows l in
            let typed : LooseWalked g s n (found.with_seen (found_under a c) seen_entry) (found_under a new) = subst (λ f. LooseWalked g s n f (found_under a new)) (seen_under a c seen_entry) (d.each a m) in
            subst (λ f. KindWalked g s n None (folded a v) (found_under a c) f) (sym (same_found a new last refl refl refl))
            (uncallable_done g s n h.called args (folded a u) (found_under a c) (h.each a k) seen_entry refl refl (fine_closed g.scope a u k.closing h.fine.heads) (so a k) (folded a v) (found_under a new) typed (fine_closed g.scope a v q.closing fine.heads));
      }
