-- What a pattern that says its type asks of what comes into it.
use Rattle.std.specs.Option.{option_and_then}
use Rattle.std.proofs.Common.{◌≡◌, refl, Option, Some, None, ◌+◌, arith, inl, inr, sym, ap, subst, ◌∙◌, slice_get}
use Rattle.infer_pat.specs.Words.{PatId, Ty, RawPat, binding_of, Schedule, IsCarriedType, same_carried, SaysItsType, IsTruePatMismatch, InferenceResult, HasPatMismatch, PatTy, mismatch, MisfitsAs, Given, PatIsAtOrMismatch, TypeMismatch, Found, with_pat_ty, IsFree, IsWalked, Extends, IsCarriedExpectation}
use Rattle.infer_pat.specs.Words.hir_raw.declared.raw.RawPat.TheVariants as pat
use Rattle.infer_pat.specs.Words.infer_ctx.Found.{entered, with_pat_mismatch}
use Rattle.infer_pat.proofs.Words.{incoming_kept, extends_trans}
use Rattle.infer_pat.specs.Own.{ComesToPat, IsPatPlaced, IsDemanded, PatIsDemanded}
use Rattle.infer_pat.proofs.PatSteps.{Enters, enters_now, extends, IsBoundBy, IsRecordable, has_type, has_mismatch, recorded_walked, enters_recorded}

-- a pattern that says its type binds nothing itself
says_binds_nothing : (o : Option RawPat) → SaysItsType o → option_and_then binding_of o ≡ None
says_binds_nothing None h = absurd h
says_binds_nothing (Some pat.Wild) h = absurd h
says_binds_nothing (Some (pat.Bind v sub)) h = absurd h
says_binds_nothing (Some (pat.Tuple ps)) h = refl
says_binds_nothing (Some (pat.TupleStruct v ps)) h = refl
says_binds_nothing (Some (pat.Path q)) h = refl
says_binds_nothing (Some (pat.Lit e)) h = absurd h
says_binds_nothing (Some (pat.Later later)) h = absurd h

-- and a mismatch of it stands at it
says_misfits : (r : InferenceResult) (p : PatId) (o : Option RawPat) → SaysItsType o → HasPatMismatch r p → MisfitsAs r p o
says_misfits r p None h m = absurd h
says_misfits r p (Some pat.Wild) h m = absurd h
says_misfits r p (Some (pat.Bind v sub)) h m = absurd h
says_misfits r p (Some (pat.Tuple ps)) h m = m
says_misfits r p (Some (pat.TupleStruct v ps)) h m = m
says_misfits r p (Some (pat.Path q)) h m = m
says_misfits r p (Some (pat.Lit e)) h m = absurd h
says_misfits r p (Some (pat.Later later)) h m = absurd h

-- the walk has come to the pattern p alone, of which no type is there yet
pub record IsOpening (g : Given) (s : Schedule) (p : PatId) (old c : Found) : Type 0 where
  pub enters : Enters g s p old c
  pub clock : c.clock ≡ old.clock + 1
  pub free : IsFree c.result.type_of_pat p.0

pub entered_opening : (g : Given) (s : Schedule) (p : PatId) (x : Option Ty) (old : Found) → ComesToPat g s p x old → IsOpening g s p old (entered old)
entered_opening g s p x old h = record {
  enters = enters_now g s p x old h;
  clock = refl;
  free = h.state.free_pats p h.within (omega (arith, h.here));
}

-- the pattern has the type t, and nothing of its parts is done
pub record Demands (g : Given) (s : Schedule) (p : PatId) (t : Ty) (x : Option Ty) (old mid c : Found) : Type 0 where
  pub enters : Enters g s p old c
  pub state : IsWalked g s c
  pub extends : Extends mid.result c.result
  pub type_is : PatTy c.result p t
  pub clock : c.clock ≡ old.clock + 1
  pub placed : IsPatPlaced g c.result p x

module _ (g : Given) (s : Schedule) (p : PatId) (own : Ty) (x : Option Ty) (old mid : Found) (h : ComesToPat g s p x old) (opening : IsOpening g s p old mid) (says : SaysItsType (slice_get g.body.pats p.0)) (carried : IsCarriedType own) where
  recordable : (y : Option TypeMismatch) → ((m : TypeMismatch) → y ≡ Some m → IsCarriedType m.expected × IsCarriedType m.actual) → IsRecordable g s p own None y mid
  recordable y k = record {
    ready = h.ready;
    within = h.within;
    past = omega (arith, h.here, opening.clock);
    state = opening.enters.state;
    carried = carried;
    carried_mismatch = k;
    binds = says_binds_nothing (slice_get g.body.pats p.0) says;
    free_pat = opening.free;
    free_mode = λ v i. absurd (cc);
    free_binding = λ v i. absurd (cc);
  }

  -- what comes in has that type, or nothing does
  fits : ((u : Ty) → x ≡ Some u → own ≡ u) → (new : Found) → new ≡ with_pat_ty mid p own → Demands g s p own x old mid new
  fits same new e =
      let last : Found = with_pat_ty mid p own in
      let r : IsRecordable g s p own None None mid = recordable None (λ m i. absurd (cc)) in
      let w : IsBoundBy mid last p own None None = record { result = refl; holes = refl; clock = refl } in
      let has : PatTy last.result p own = has_type g s p own mid last None None r w in
      subst (λ c. Demands g s p own x old mid c) (sym e) (record {
        enters = enters_recorded g s p own mid last None None r w old h.here (λ m i. absurd (cc)) opening.enters;
        state = recorded_walked g s p own mid last None None r w;
        extends = extends g s p own mid last None None r w;
        type_is = has;
        clock = opening.clock;
        placed = placed x same has;
      })
    where
      placed : (y : Option Ty) → ((u : Ty) → y ≡ Some u → own ≡ u) → PatTy (with_pat_ty mid p own).result p own → IsPatPlaced g (with_pat_ty mid p own).result p y
      placed None same has = tt
      placed (Some u) same has = (own, has, inl (same u refl))

  -- what comes in differs, which is noted
  misfits : (u : Ty) → x ≡ Some u → IsCarriedType u → (u ≡ own → ⊥) → (next new : Found) → next ≡ with_pat_mismatch mid p (mismatch u own) → new ≡ with_pat_ty next p own → Demands g s p own x old mid new
  misfits u i k differ next new f e =
      let noted : Found = with_pat_mismatch mid p (mismatch u own) in
      let last : Found = with_pat_ty noted p own in
      let y : Option TypeMismatch = Some (mismatch u own) in
      let there : new ≡ last = e ∙ ap (λ c. with_pat_ty c p own) f in
      let r : IsRecordable g s p own None y mid = recordable y (λ m j. subst (λ (z : TypeMismatch). IsCarriedType z.expected × IsCarriedType z.actual) (one_mismatch (mismatch u own) m j) (k, carried)) in
      let w : IsBoundBy mid last p own None y = record { result = refl; holes = refl; clock = refl } in
      let has : PatTy last.result p own = has_type g s p own mid last None y r w in
      let later : Extends mid.result last.result = extends g s p own mid last None y r w in
      let true : IsTruePatMismatch g last.result p (mismatch u own) = record {
        says = says;
        differ = λ same. differ (same_carried u own k carried same);
        actual = has;
        incoming = incoming_kept g old.result last.result (extends_trans old.result mid.result last.result opening.enters.extends later) p u (h.incoming u i);
      } in
      let at : PatIsAtOrMismatch g last.result p u = (own, has, inr (says_misfits last.result p (slice_get g.body.pats p.0) says (has_mismatch g s p own mid last None y r w (mismatch u own) refl))) in
      subst (λ c. Demands g s p own x old mid c) (sym there) (record {
        enters =
            enters_recorded g s p own mid last None y r w old h.here
            (λ m j. subst (λ z. IsTruePatMismatch g last.result p z) (one_mismatch (mismatch u own) m j) true) opening.enters;
        state = recorded_walked g s p own mid last None y r w;
        extends = later;
        type_is = has;
        clock = opening.clock;
        placed = subst (λ o. IsPatPlaced g last.result p o) (sym i) at;
      })
    where
      one_mismatch : (m n : TypeMismatch) → Some m ≡ Some n → m ≡ n
      one_mismatch m n j = cc

  demanded : (y : Option Ty) → x ≡ y → IsCarriedExpectation y → (next new : Found) → IsDemanded p own y mid next → new ≡ with_pat_ty next p own → Demands g s p own x old mid new
  demanded None i k next new f e =
      fits (λ u j. absurd (cc)) new (e ∙ ap (λ c. with_pat_ty c p own) f)
  demanded (Some u) i k next new (inl f) e =
      fits (λ v j. (let same : u ≡ v = cc in sym f.0 ∙ same)) new (e ∙ ap (λ c. with_pat_ty c p own) f.1)
  demanded (Some u) i k next new (inr f) e = misfits u i k f.0 next new f.1 e

  pub pat_demanded : (new : Found) → PatIsDemanded p own x mid new → Demands g s p own x old mid new
  pat_demanded new d = demanded x refl h.carried d.mid new d.demanded d.recorded
