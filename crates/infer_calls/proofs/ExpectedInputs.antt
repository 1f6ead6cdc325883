-- What is expected of the arguments of a call: tried, undone, and made equal with what the call takes.
use Rattle.std.proofs.Common.{ℕ, ◌≡◌, sym, ap, subst, ◌∙◌, List, map, slice_get, Option, Some, None, Result, Ok, Err}
use Rattle.infer_calls.specs.Words.{Ty, term, replaced, AreOf, State, resolved_type, AreUnified, AreRefused, CanBeEqual, GoesBack, IsResolvedOr, NoUnifier, IsOfBody, Given, with_table, InferenceContext, IsSound, AllFine, IsFine, IsFineExpectation, SameOrDiffer, UnifiesAll, IsLawfulState}
use Rattle.std.specs.Prelude.{IfOk}
use Rattle.std.specs.declared.alloc.AllocError.{AllocError}
use Rattle.infer_calls.proofs.Words.{all_fine_grown, every_same, all_resolved_fine, binds_back, binds_twice, unified}
use Rattle.infer_calls.specs.Own.{AreFineInputs, ExpectsInputs, FindsInputs, IsTried}

-- ---- what was tried

module _ (g : Given) (c : InferenceContext) (h : IsOfBody g.body c.result) (s : IsSound g.scope c) (inputs : List Ty) (output e : Ty)
    (fi : AllFine g.scope c.goals.table inputs) (fo : IsFine g.scope c.goals.table output) (fe : IsFine g.scope c.goals.table e) where
  takes_fine : (during after : State) → AreUnified c.goals.table during output e → IsLawfulState during → GoesBack c.goals.table during after
      → AllFine g.scope after (map (resolved_type during) inputs)
  takes_fine during after u l back =
      let sound = (unified g output e c h s fo fe during u l.meets l.respects).binds.follows.sound in
      every_same (IsFine g.scope during) (IsFine g.scope after) (map (resolved_type during) inputs)
      (λ t fine. record { holes = subst (λ kinds. AreOf kinds (term t)) (sym back.kinds) fine.holes; heads = fine.heads })
      (all_resolved_fine g.scope during inputs l.made sound.bound (all_fine_grown g.scope c.goals.table during inputs u.grown fi))

  pub finds_inputs : (x : Option Ty) → x ≡ Some e → (during after : State) (ts ss : List Ty) → AreUnified c.goals.table during output e → ts ≡ inputs
      → IsLawfulState during → ss ≡ map (resolved_type during) ts → GoesBack c.goals.table during after
      → FindsInputs g x inputs output (Some ss) c (with_table c after)
  finds_inputs x is during after ts ss u same l resolved back =
      let takes : ss ≡ map (resolved_type during) inputs = resolved ∙ ap (map (resolved_type during)) same in
      record {
        binds = binds_back g c after back.back h s;
        are = (e, is, record { during = during; unified = u; takes = takes });
        fine = subst (λ us. AllFine g.scope after us) (sym takes) (takes_fine during after u l back);
      }

  pub finds_none : (x : Option Ty) → x ≡ Some e → (during after : State) → AreRefused c.goals.table during output e → GoesBack c.goals.table during after
      → FindsInputs g x inputs output None c (with_table c after)
  finds_none x is during after r back = record {
    binds = binds_back g c after back.back h s;
    are = λ d there can.
        let same : e ≡ d = (let q : Some e ≡ Some d = sym is ∙ there in cc) in
        r.impossible (subst (λ t. CanBeEqual c.goals.table output t) (sym same) can);
    fine = tt;
  }

-- what is found where this came of the trial
abbrev pub FindsTried : Given → Option Ty → List Ty → Ty → Result (List Ty) NoUnifier → InferenceContext → InferenceContext → Type 0
FindsTried g x inputs output (Ok ss) old new = FindsInputs g x inputs output (Some ss) old new
FindsTried g x inputs output (Err r) old new = FindsInputs g x inputs output None old new

pub found_tried : (g : Given) (c : InferenceContext) → IsOfBody g.body c.result → IsSound g.scope c → (inputs : List Ty) (output e : Ty) → AllFine g.scope c.goals.table inputs
    → IsFine g.scope c.goals.table output → (x : Option Ty) → x ≡ Some e → IsFineExpectation g.scope c.goals.table x → (during after : State)
    → (given : Result (Result (List Ty) NoUnifier) AllocError) (tried : Result (List Ty) NoUnifier) → IfOk given (λ answer. IsTried inputs output e c.goals.table during answer)
    → IsResolvedOr (λ s ts. map (replaced s) ts) during given (Ok tried) → GoesBack c.goals.table during after
    → FindsTried g x inputs output tried c (with_table c after)
found_tried g c h s inputs output e fi fo x is fx during after (Ok (Ok ts)) (Ok ss) (u, same, l) resolved back =
    finds_inputs g c h s inputs output e fi fo (subst (λ y. IsFineExpectation g.scope c.goals.table y) is fx) x is during after ts ss u same l resolved back
found_tried g c h s inputs output e fi fo x is fx during after (Ok (Ok ts)) (Err r) t resolved back = absurd resolved
found_tried g c h s inputs output e fi fo x is fx during after (Ok (Err r)) (Ok ss) t resolved back = absurd (cc)
found_tried g c h s inputs output e fi fo x is fx during after (Ok (Err r)) (Err q) t resolved back =
    finds_none g c h s inputs output e fi fo (subst (λ y. IsFineExpectation g.scope c.goals.table y) is fx) x is during after t back
found_tried g c h s inputs output e fi fo x is fx during after (Err r) tried t resolved back = absurd (cc)

-- ---- all of it

pub wanted_fine : (g : Given) (x : Option Ty) (inputs : List Ty) (output : Ty) (wanted : Option (List Ty)) (ss : List Ty) (old new : InferenceContext)
    → FindsInputs g x inputs output wanted old new → wanted ≡ Some ss → AllFine g.scope new.goals.table ss
wanted_fine g x inputs output wanted ss old new f is = subst (λ o. AreFineInputs g.scope new.goals.table o) is f.fine

pub expected_met : (g : Given) (x : Option Ty) (inputs : List Ty) (output : Ty) (ss : List Ty) (old mid new : InferenceContext)
    → FindsInputs g x inputs output (Some ss) old mid → UnifiesAll g inputs ss mid new → ExpectsInputs g x inputs output old new
expected_met g x inputs output ss old mid new f u = record {
  binds = binds_twice g old mid new f.binds u.binds;
  wanted = Some ss;
  are = f.are;
  each = λ us is. (let same : ss ≡ us = cc in subst (λ vs. (i : ℕ) (t v : Ty) → slice_get inputs i ≡ Some t → slice_get vs i ≡ Some v → SameOrDiffer new t v) same u.each);
}
