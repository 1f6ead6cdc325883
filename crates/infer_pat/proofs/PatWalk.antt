-- Patterns that bind a name or nothing, and literals.
use Rattle.std.specs.Option.{option_and_then}
use Rattle.std.proofs.Common.{Bool, ◌≡◌, refl, ap, ◌∙◌, Option, Some, None, ◌<◌, length, sym, subst, arith, slice_get, inr, inl}
use Rattle.infer_pat.specs.Words.{Ty, Assignment, folded, BindingId, PatId, ExprId, Schedule, IsCarriedType, Binds, binding_of, stays_itself, IsOfBody, Given, expected_under, Closes, found_under, InferenceContext, Found, TellsBound, TellsRecorded, TellsBinding, Follows, Before, OwnDone, IsTold, IsCoerced}
use Rattle.infer_pat.specs.Words.hir_raw.declared.raw.RawPat.TheVariants as pat
use Rattle.infer_pat.proofs.Words.{grew_twice, grew_itself, told_same, told_with, told_beside, told_entered, follows_itself, closes_before, same_found, closes_same, closes_earlier, pat_ty_under, bound_by_under, of_body_pat_ty, of_body_bound_by, sound_pat_ty, sound_bound_by, sound_entered, fine_closed, At-set_cases, binding_id, fine_grown}
use Rattle.infer_pat.specs.Words.infer_ctx.Context as context
use Rattle.infer_pat.specs.Words.infer_ctx.Found as found
use Rattle.infer_pat.specs.Own.{BeforePat, PatDone, IsGivenOrNew, ComesToPat, PatWalked, IsLitPatOf}
use Rattle.infer_pat.proofs.PatSteps.{before_pat_under}
use Rattle.infer_pat.proofs.Pats.{wild_done, bind_done, IsFitted, lit_before, lit_done}
use Rattle.infer_pat.specs.Words.infer_result.Columns as column

-- what comes in, under an assignment
pub given_under : (a : Assignment) (x : Option Ty) (t : Ty) → ((u : Ty) → x ≡ Some u → t ≡ u) → (u : Ty) → expected_under a x ≡ Some u → folded a t ≡ u
given_under a None t h u e = absurd (cc)
given_under a (Some v) t h u e = (let k : folded a v ≡ u = cc in ap (folded a) (h v refl) ∙ k)

-- ---- a name or nothing
module _ (g : Given) (s : Schedule) (p : PatId) (x : Option Ty) (t : Ty) (old mid : InferenceContext) (h : BeforePat g s p x old) (d : IsGivenOrNew g.scope x t (context.entered old) mid) where
  of_body : IsOfBody g.body mid.result
  of_body = subst (λ r. IsOfBody g.body r) (sym d.result) h.state.of_body

  -- nothing more is found out so far
  nothing_new : (a : Assignment) → found_under a mid ≡ found.entered (found_under a old)
  nothing_new a = same_found a (context.entered old) mid d.result d.asked d.clock

  module _ (a : Assignment) (q : Closes a mid) where
    earlier : Closes a old
    earlier = closes_earlier a old mid d.grew q

    before : ComesToPat g s p (expected_under a x) (found_under a old)
    before = before_pat_under g s a old earlier p x h

    carried : IsCarriedType (folded a t)
    carried = fine_closed g.scope a t q.closing d.fine.heads

  -- what is told stays so while its type comes to be known
  typed_told : IsTold g old → IsTold g mid
  typed_told told = told_same g (context.entered old) mid d.result d.stays d.grew (told_entered g old told)

  -- there is a place for its type, for its mode, and for the type of what it binds
  pub pat_within : p.0 < length mid.result.type_of_pat
  pat_within = rw (of_body.long column.type_of_pat) h.within

  pub mode_within : p.0 < length mid.result.binding_modes
  mode_within = rw (of_body.long column.binding_modes) h.within

  pub bind_within : (v : BindingId) (sub : Option PatId) → slice_get g.body.pats p.0 ≡ Some (pat.Bind v sub) → v.0 < length mid.result.type_of_binding
  bind_within v sub is =
      let own : Binds g.body p v = ap (λ o. option_and_then binding_of o) is in
      rw (of_body.long column.type_of_binding) (h.ready.law.binders p v own)

  pub wild_walked : slice_get g.body.pats p.0 ≡ Some pat.Wild → PatDone g s p x old (context.with_pat_ty mid p t)
  wild_walked is =
      let new : InferenceContext = context.with_pat_ty mid p t in
      record {
        follows = record {
          clock = omega (arith, d.clock);
          grew = d.grew;
          sources = d.stays.sources;
          of_body = of_body_pat_ty g.body mid of_body p t;
          sound = sound_pat_ty mid d.sound p t d.fine;
          told = λ told. told_beside g mid new refl refl refl (typed_told told);
        };
        each = λ a k.
            let q : Closes a mid = closes_same a new mid refl k in
            let there : found_under a new ≡ found.with_pat_ty (found.entered (found_under a old)) p (folded a t)
            = pat_ty_under a mid p t ∙ ap (λ (f : Found). found.with_pat_ty f p (folded a t)) (nothing_new a) in
            subst (λ f. PatWalked g s p (expected_under a x) (found_under a old) f) (sym there)
            (wild_done g s p (expected_under a x) (folded a t) (found_under a old) (before a q) (carried a q) (given_under a x t d.given) is);
      }

  -- what comes in, or a new hole, tells of what is bound
  bound_tells : TellsBound g p t
  bound_tells = by_given x refl
    where
      by_given : (y : Option Ty) → x ≡ y → TellsBound g p t
      by_given None e = h.tells t (inr e)
      by_given (Some u) e = (let same : t ≡ u = d.given u e in subst (λ w. TellsBound g p w) (sym same) (h.tells u (inl e)))

  bound_told : (v : BindingId) (sub : Option PatId) → slice_get g.body.pats p.0 ≡ Some (pat.Bind v sub) → TellsRecorded g mid.result → TellsRecorded g (context.bound_by mid p v t).result
  bound_told v sub is told w u i =
      let own : Binds g.body p v = ap (λ o. option_and_then binding_of o) is in
      elim (At-set_cases mid.result.type_of_binding v.0 w.0 t u (bind_within v sub is) i) [
        | inl k ↦ told w u k
        | inr k ↦ (let same : v ≡ w = sym (binding_id w v k.0) in subst (λ z. TellsBinding g z u) same (subst (λ z. TellsBinding g v z) k.1 (bound_tells v own)))
      ]

  pub bind_walked : (v : BindingId) (sub : Option PatId) → slice_get g.body.pats p.0 ≡ Some (pat.Bind v sub) → PatDone g s p x old (context.bound_by mid p v t)
  bind_walked v sub is =
      let new : InferenceContext = context.bound_by mid p v t in
      record {
        follows = record {
          clock = omega (arith, d.clock);
          grew = d.grew;
          sources = d.stays.sources;
          of_body = of_body_bound_by g.body mid p v t of_body;
          sound = sound_bound_by mid p v t d.sound d.fine;
          told = λ told. told_with g mid new refl (stays_itself mid.goals) (grew_itself mid.goals.table) (bound_told v sub is) (typed_told told);
        };
        each = λ a k.
            let q : Closes a mid = closes_same a new mid refl k in
            let there : found_under a new ≡ found.bound_by (found.entered (found_under a old)) p v (folded a t)
            = bound_by_under a mid p v t ∙ ap (λ (f : Found). found.bound_by f p v (folded a t)) (nothing_new a) in
            subst (λ f. PatWalked g s p (expected_under a x) (found_under a old) f) (sym there)
            (bind_done g s p (expected_under a x) (folded a t) (found_under a old) (before a q) (carried a q) (given_under a x t d.given) v sub is);
      }

-- ---- literals

-- the literal has what is expected of it, where something is, or that it has not is noted there
abbrev pub FitsExpected : Given → ExprId → Ty → Option Ty → InferenceContext → InferenceContext → Type 0
FitsExpected g e t None old new = new ≡ old
FitsExpected g e t (Some u) old new = (could : Bool) × IsCoerced could g e t u old new

module _ (g : Given) (s : Schedule) (p : PatId) (e : ExprId) (x : Option Ty) (old : InferenceContext) (h : BeforePat g s p x old) (is : IsLitPatOf g.body p e) where
  pub comes_to_lit : Before g s e x (context.entered old)
  comes_to_lit =
      let q = h.state.sound.some in
      let here = lit_before g s p e (expected_under q.0 x) (found_under q.0 old) (before_pat_under g s q.0 old q.1 p x h) is in
      record {
        ready = h.ready;
        state = record {
          of_body = h.state.of_body;
          sound = sound_entered old h.state.sound;
          told = told_entered g old h.state.told;
          each = λ a k.
              let o : Closes a old = closes_same a (context.entered old) old refl k in
              (lit_before g s p e (expected_under a x) (found_under a old) (before_pat_under g s a old o p x h) is).state;
        };
        within = here.within;
        here = here.here;
        expected = h.fine;
      }

  module _ (t : Ty) (mid : InferenceContext) (d : OwnDone g s e x t (context.entered old) mid) where
    fits_follows : (y : Option Ty) (last : InferenceContext) → FitsExpected g e t y mid last → Follows g mid last × (last.clock ≡ mid.clock)
    fits_follows None last f =
        subst (λ c. Follows g mid c × (c.clock ≡ mid.clock)) (sym f) (follows_itself g mid d.follows.of_body d.follows.sound, refl)
    fits_follows (Some u) last f = (f.1.follows, f.1.clock)

    fits_under : (y : Option Ty) (last : InferenceContext) → FitsExpected g e t y mid last → (a : Assignment) → Closes a last → IsFitted e (folded a t) (expected_under a y) (found_under a mid) (found_under a last)
    fits_under None last f a k = ap (λ c. found_under a c) f
    fits_under (Some u) last f a k = (let z = f.1.each a k in (z.0, z.2))

    pub lit_walked : (last : InferenceContext) → FitsExpected g e t x mid last → PatDone g s p x old (context.with_pat_ty last p t)
    lit_walked last f =
        let new : InferenceContext = context.with_pat_ty last p t in
        let k = fits_follows x last f in
        record {
          follows = record {
            clock = omega (arith, d.follows.clock, k.1);
            grew = grew_twice old.goals.table mid.goals.table last.goals.table d.follows.grew k.0.grew;
            sources = k.0.sources ∙ d.follows.sources;
            of_body = of_body_pat_ty g.body last k.0.of_body p t;
            sound = sound_pat_ty last k.0.sound p t (fine_grown g.scope mid.goals.table last.goals.table t k.0.grew d.fine);
            told = λ told. told_beside g last new refl refl refl (k.0.told (d.follows.told (told_entered g old told)));
          };
          each = λ a q.
              let l : Closes a last = closes_same a new last refl q in
              let m : Closes a mid = closes_before g a mid last k.0 l in
              let o : Closes a old = closes_earlier a old mid d.follows.grew m in
              subst (λ c. PatWalked g s p (expected_under a x) (found_under a old) c) (sym (pat_ty_under a last p t))
              (lit_done g s p e (expected_under a x) (found_under a old) (before_pat_under g s a old o p x h) is (folded a t) (found_under a mid) (d.each a m) (found_under a last) (fits_under x last f a l));
        }
