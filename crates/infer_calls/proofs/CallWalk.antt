-- A call: what it calls, and what that takes and gives.
use Rattle.std.proofs.Common.{List, map, None, ◌≡◌, ◌∷◌, sym, ap, subst, ◌∙◌, ℕ, [], refl, arith, length, Some, slice_get, Result, Ok, Err}
use Rattle.std.specs.Prelude.{IfOk}
use Rattle.std.proofs.lemmas.List.{length-map}
use Rattle.infer_calls.specs.Words.{ExprId, Ty, Assignment, folded, Schedule, IsCarriedType, inner, argument, callee, expr_part, exprs_from, at_args, Grew, Given, InferenceContext, Closes, found_under, Before, Within, KindDone, Follows, OnlyBinds, OwnDone, IsSigOf, IsSigOfItem, CallableSig, IsFine, AllFine, KindWalked, Extends, IsWalked, Nothing, Owed, PaidBy, types_scope}
use Rattle.hir_types.specs.declared.ids.ExprOrPatId.TheVariants as node
use Rattle.infer_calls.specs.Words.hir_raw.declared.raw.RawExpr.TheVariants as expr
use Rattle.infer_calls.proofs.Words.{arguments_in_order, grew_itself, told_beside, closes_before, walking_after, follows_itself, follows_twice, walks_paid, walks_trans, fine_grown, every_at, every_from, WalksParts, begins_parts, comes_to, goes_past, known_instance, fine_instance, instances_under, fine_instances, fine_closed, diagnostic_under, of_body_diagnostic, same_found, sound_diagnostic, extends_trans}
use Rattle.infer_calls.specs.Words.infer_result.declared.diagnostics.InferenceDiagnostic.TheVariants as diagnostic
use Rattle.infer_calls.specs.Words.infer_ctx.Context as context
use Rattle.infer_calls.specs.Words.infer_ctx.Found as found
use Rattle.infer_calls.specs.Own.{CalleeDone, BeforeArgs, ComesToArgs, IsCallOf, BeforeInputs, ArgsDone, ArgsWalked, inputs_at, BeforeLoose, LooseDone, ComesToLoose, LooseWalked, AsksInputs}
use Rattle.infer_calls.proofs.Calls.{call_done, told_loose, others_done, input_demand, complained_extends}

-- ---- what is called
module _ (g : Given) (s : Schedule) (n called : ExprId) (args : List ExprId) (c : InferenceContext) (h : Within g s n None c)
    (is : IsCallOf g.body n called args) where
  pub call_parts : WalksParts g s (inner (node.ExprId n)) (λ a. Nothing) (expr_part callee called ∷ exprs_from argument 0 args) c c
  call_parts =
      subst (λ ps. WalksParts g s (inner (node.ExprId n)) (λ a. Nothing) (expr_part callee called ∷ ps) c c) (arguments_in_order g.body h.ready.law.carried args)
      (begins_parts g s n (expr.Call called args) None c (λ a. Nothing) h is)

  pub comes_to_callee : Before g s called None c
  comes_to_callee = comes_to _ _ _ _ _ _ _ _ _ call_parts None h.ready h.state.told tt

  pub comes_to_args : (t : Ty) (mid : InferenceContext) → CalleeDone g s called t c mid → BeforeArgs g s n args t mid
  comes_to_args t mid d =
      let w = goes_past _ _ _ _ (λ a. Nothing) (λ a. Nothing) _ _ _ _ mid call_parts d.follows (λ a q. ((d.each a q).walks, (d.each a q).clock))
      (λ a b m o. o) (λ a q b m o. absurd o) in
      record {
        ready = h.ready;
        state = walking_after g s c mid h.state.told d.follows (λ a q. (d.each a q).walks.state);
        called = called;
        id = d.id;
        item = d.item;
        types = d.types;
        is = d.is;
        count = d.count;
        fine = d.fine;
        tells = d.tells n args is;
        each = λ a q.
            let p = w.each a q in
            record {
              ready = h.ready;
              state = p.walks.state;
              calling = record { is_call = is; within = h.within; found = d.item.found; has = (d.each a q).has };
              ahead = p.ahead;
              ends = p.ends;
            };
      }

-- the call once what is called is typed
pub call_then : (g : Given) (s : Schedule) (n called : ExprId) (t v : Ty) (c mid new : InferenceContext) → OwnDone g s called None t c mid →
    KindDone g s n None v mid new → KindDone g s n None v c new
call_then g s n called t v c mid new d k = record {
  follows = follows_twice g c mid new d.follows k.follows;
  fine = k.fine;
  tells = k.tells;
  each = λ a q.
      let w = k.each a q in
      let first = (d.each a (closes_before g a mid new k.follows q)).walks in
      record {
        walks = walks_trans g s (PaidBy g n None (folded a v)) (found_under a c) (found_under a mid) (found_under a new)
            (walks_paid g s (Owed called None) (PaidBy g n None (folded a v)) (found_under a c) (found_under a mid) (λ e m o. absurd o) first) w.walks;
        clock = w.clock;
        carried = w.carried;
        rule = w.rule;
      };
}

-- ---- what the item takes and gives
pub own_sig : (g : Given) (s : Schedule) (n : ExprId) (args : List ExprId) (t : Ty) (c : InferenceContext) (h : BeforeArgs g s n args t c) (sig : CallableSig) → IsSigOfItem g.scope.facts t sig → IsSigOf h.item.signature h.types sig
own_sig g s n args t c h sig k = k h.id h.types h.item.signature h.is h.item.found h.count

pub takes_inputs : (g : Given) (s : Schedule) (n : ExprId) (args : List ExprId) (t : Ty) (c : InferenceContext) (h : BeforeArgs g s n args t c) (sig : CallableSig) → IsSigOfItem g.scope.facts t sig → BeforeInputs g s n args sig.inputs c
takes_inputs g s n args t c h sig k = record {
  type = t;
  before = h;
  inputs = (own_sig g s n args t c h sig k).inputs;
}

module _ (g : Given) (s : Schedule) (n : ExprId) (args : List ExprId) (t : Ty) (mid : InferenceContext) (h : BeforeArgs g s n args t mid) where
  abbrev gives : Ty
  gives = at_args h.types h.item.signature.output

  types_fine : AllFine g.scope mid.goals.table h.types
  types_fine = every_from (IsFine g.scope mid.goals.table) h.types h.fine

  gives_fine : (new : InferenceContext) → Grew mid.goals.table new.goals.table → IsFine g.scope new.goals.table gives
  gives_fine new grew = fine_grown g.scope mid.goals.table new.goals.table gives grew (fine_instance g.scope mid.goals.table h.item.signature.params h.types h.count types_fine h.item.signature.output h.item.output)

  pub output_fine : (u : Ty) → u ≡ gives → IsFine g.scope mid.goals.table u
  output_fine u is = subst (λ v. IsFine g.scope mid.goals.table v) (sym is) (gives_fine mid (grew_itself mid.goals.table))

  pub ends_call : (ss : List Ty) (u : Ty) (new : InferenceContext) → ss ≡ inputs_at h.item.signature h.types → u ≡ gives → ArgsDone g s n args ss mid new → KindDone g s n None u mid new
  ends_call ss u new inputs output d =
      subst (λ v. KindDone g s n None v mid new) (sym output) (record {
        follows = d.follows;
        fine = gives_fine new d.follows.grew;
        tells = h.tells;
        each = λ a q.
            let m : Closes a mid = closes_before g a mid new d.follows q in
            let ts : List Ty = map (folded a) h.types in
            let same : folded a gives ≡ at_args ts h.item.signature.output = known_instance a (types_scope g.scope.facts h.item.signature.params) h.item.signature.output h.types h.item.output in
            let taken : map (folded a) ss ≡ inputs_at h.item.signature ts = ap (map (folded a)) inputs ∙ instances_under a (types_scope g.scope.facts h.item.signature.params) h.types h.item.signature.inputs h.item.inputs in
            let carried = fine_closed g.scope a gives q.closing (gives_fine new d.follows.grew).heads in
            subst (λ v. KindWalked g s n None v (found_under a mid) (found_under a new)) (sym same)
            (call_done g s n h.called args h.id h.item.signature ts (found_under a mid) (h.each a m) (found_under a new)
            (subst (λ us. ArgsWalked g s n args us (found_under a mid) (found_under a new)) taken (d.each a q))
            (subst (λ v. IsCarriedType v) same carried));
      })

-- ---- where only bindings were added
module _ (g : Given) (s : Schedule) (n : ExprId) (args : List ExprId) (c d : InferenceContext) (o : OnlyBinds g c d) where
  pub found_same : (a : Assignment) → found_under a c ≡ found_under a d
  found_same a = sym (same_found a c d o.result o.asked o.clock)

  args_bound : (t : Ty) → BeforeArgs g s n args t c → BeforeArgs g s n args t d
  args_bound t h = record {
    ready = h.ready;
    state = walking_after g s c d h.state.told o.follows (λ a q. subst (λ f. IsWalked g s f) (found_same a) (h.state.each a (closes_before g a c d o.follows q)));
    called = h.called;
    id = h.id;
    item = h.item;
    types = h.types;
    is = h.is;
    count = h.count;
    fine = λ i u at. fine_grown g.scope c.goals.table d.goals.table u o.follows.grew (h.fine i u at);
    tells = h.tells;
    each = λ a q. subst (λ f. ComesToArgs g s n h.called args h.id h.item.signature (map (folded a) h.types) f) (found_same a)
        (h.each a (closes_before g a c d o.follows q));
  }

  pub inputs_bound : (ss : List Ty) → BeforeInputs g s n args ss c → BeforeInputs g s n args ss d
  unfolding args_bound
  inputs_bound ss h = record { type = h.type; before = args_bound h.type h.before; inputs = h.inputs }

  pub args_since : (ss : List Ty) (new : InferenceContext) → ArgsDone g s n args ss d new → ArgsDone g s n args ss c new
  args_since ss new k = record {
    follows = follows_twice g c d new o.follows k.follows;
    each = λ a q. subst (λ f. ArgsWalked g s n args (map (folded a) ss) f (found_under a new)) (sym (found_same a)) (k.each a q);
  }

  pub args_then : (ss : List Ty) (mid : InferenceContext) → ArgsDone g s n args ss mid c → ArgsDone g s n args ss mid d
  args_then ss mid k = record {
    follows = follows_twice g mid c d k.follows o.follows;
    each = λ a q. subst (λ f. ArgsWalked g s n args (map (folded a) ss) (found_under a mid) f) (found_same a) (k.each a (closes_before g a c d o.follows q));
  }

  pub loose_then : (mid : InferenceContext) → LooseDone g s n args [] mid c → LooseDone g s n args [] mid d
  loose_then mid k = record {
    follows = follows_twice g mid c d k.follows o.follows;
    each = λ a q. subst (λ f. LooseWalked g s n (found_under a mid) f) (found_same a) (k.each a (closes_before g a c d o.follows q));
    met = λ i e u at none. absurd (cc);
  }

  pub answered_since : {A E : Type 0} (ss : List Ty) (new : InferenceContext) (r : Result A E) → IfOk r (λ x. ArgsDone g s n args ss d new) → IfOk r (λ x. ArgsDone g s n args ss c new)
  answered_since ss new (Ok x) h = args_since ss new h
  answered_since ss new (Err e) h = tt

-- ---- the arguments
module _ (g : Given) (s : Schedule) (n : ExprId) (args : List ExprId) (ss : List Ty) (mid : InferenceContext) (h : BeforeInputs g s n args ss mid) where
  -- what is taken under an assignment
  abbrev pub taken_at : Assignment → List Ty
  taken_at a = inputs_at h.before.item.signature (map (folded a) h.before.types)

  pub taken_under : (a : Assignment) → map (folded a) ss ≡ taken_at a
  taken_under a = ap (map (folded a)) h.inputs ∙ instances_under a (types_scope g.scope.facts h.before.item.signature.params) h.before.types h.before.item.signature.inputs h.before.item.inputs

  taken_count : (a : Assignment) → length (taken_at a) ≡ length ss
  taken_count a = sym (ap (λ us. length us) (taken_under a)) ∙ length-map ss (folded a)

  pub inputs_fine : AllFine g.scope mid.goals.table ss
  inputs_fine =
      subst (λ us. AllFine g.scope mid.goals.table us) (sym h.inputs)
      (fine_instances g.scope mid.goals.table h.before.item.signature.params h.before.types h.before.count (every_from (IsFine g.scope mid.goals.table) h.before.types h.before.fine) h.before.item.signature.inputs h.before.item.inputs)

  pub input_fine : (i : ℕ) (u : Ty) → slice_get ss i ≡ Some u → IsFine g.scope mid.goals.table u
  input_fine i u is = every_at (IsFine g.scope mid.goals.table) ss i u inputs_fine is

  -- the call asks of each argument that it be at its input
  pub asks_inputs : (a : Assignment) → Closes a mid → AsksInputs g args (map (folded a) ss) (found_under a mid).result
  asks_inputs a q i e u found input r x =
      let b = h.before in
      input_demand g n b.called args b.id b.item.signature (map (folded a) b.types) (found_under a mid) (b.each a q).calling b.ready.law.carried i e u r x found
      (subst (λ vs. slice_get vs i ≡ Some u) (taken_under a) input)

  -- ---- another number of them

  module _ (differ : length args ≡ length ss → ⊥) where
    differ_at : (a : Assignment) → length args ≡ length (taken_at a) → ⊥
    differ_at a e = differ (e ∙ taken_count a)

    abbrev pub told : InferenceContext
    told = context.with_diagnostic mid n (diagnostic.MismatchedArgCount n (length ss) (length args))

    told_follows : Follows g mid told
    told_follows = record {
      clock = omega arith;
      grew = (follows_itself g mid h.before.state.of_body h.before.state.sound).grew;
      sources = refl;
      of_body = of_body_diagnostic g.body mid h.before.state.of_body n (diagnostic.MismatchedArgCount n (length ss) (length args));
      sound = sound_diagnostic mid h.before.state.sound n (diagnostic.MismatchedArgCount n (length ss) (length args)) (λ m t e. absurd (cc));
      told = told_beside g mid told refl refl refl;
    }

    -- what is said of the number, under an assignment
    abbrev told_at : Assignment → found.Found
    told_at a = found.with_diagnostic (found_under a mid) n (diagnostic.MismatchedArgCount n (length (taken_at a)) (length args))

    told_is : (a : Assignment) → told_at a ≡ found_under a told
    told_is a = ap (λ k. found.with_diagnostic (found_under a mid) n (diagnostic.MismatchedArgCount n k (length args))) (taken_count a) ∙ sym (diagnostic_under a mid n (diagnostic.MismatchedArgCount n (length ss) (length args)))

    loose_at : (a : Assignment) → Closes a mid → ComesToLoose g s n h.before.called args (told_at a)
    loose_at a q = told_loose g s n h.before.called args h.before.id h.before.item.signature (map (folded a) h.before.types) (found_under a mid) (h.before.each a q) (differ_at a)

    told_extends_at : (a : Assignment) → Closes a mid → Extends (found_under a mid).result (told_at a).result
    told_extends_at a q = complained_extends g s n h.before.called args h.before.id h.before.item.signature (map (folded a) h.before.types) (found_under a mid) (h.before.each a q)

    pub comes_to_others : BeforeLoose g s n args ss told
    comes_to_others =
        let each : (a : Assignment) → Closes a told → ComesToLoose g s n h.before.called args (found_under a told)
        = λ a q. subst (λ k. ComesToLoose g s n h.before.called args k) (told_is a) (loose_at a (closes_before g a mid told told_follows q)) in
        record {
          ready = h.before.ready;
          state = walking_after g s mid told h.before.state.told told_follows (λ a q. (each a q).state);
          called = h.before.called;
          fine = input_fine;
          asks = λ a q i e u found input r x.
              let m : Closes a mid = closes_before g a mid told told_follows q in
              let y : Extends (told_at a).result r = subst (λ f. Extends f.result r) (sym (told_is a)) x in
              asks_inputs a m i e u found input r (extends_trans _ _ r (told_extends_at a m) y);
          each = each;
        }

    pub ends_others : (new : InferenceContext) → LooseDone g s n args ss told new → ArgsDone g s n args ss mid new
    ends_others new d = record {
      follows = follows_twice g mid told new told_follows d.follows;
      each = λ a q.
          let l : Closes a told = closes_before g a told new d.follows q in
          let m : Closes a mid = closes_before g a mid told told_follows l in
          let typed : LooseWalked g s n (told_at a) (found_under a new) = subst (λ k. LooseWalked g s n k (found_under a new)) (sym (told_is a)) (d.each a q) in
          subst (λ us. ArgsWalked g s n args us (found_under a mid) (found_under a new)) (sym (taken_under a))
          (others_done g s n h.before.called args h.before.id h.before.item.signature (map (folded a) h.before.types) (found_under a mid) (h.before.each a m) (differ_at a) (found_under a new) typed);
    }
