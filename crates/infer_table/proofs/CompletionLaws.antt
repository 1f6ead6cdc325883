-- Laws of completion: no hole is left, and it agrees with all that is known.
use Rattle.std.specs.Prelude.{◌≡◌, ℕ, List, [], ◌∷◌, IfOk}
use Rattle.std.proofs.Common.{refl, sym, ap, ◌∙◌, subst, Result, Ok, Err}
use Rattle.infer_table.specs.Words.{Hole, Const, Ty, Replacement, Assignment, with_holes, composed, folded, const_folded, same_assignments, replaced_error, replaced_int, replaced_var, replaced_int_var, folded_twice, const_folded_twice, term_int, Term, apply, terms_of, IsInt, fallback}
use Rattle.hir_types.specs.declared.head.Hole.TheVariants as hole_of
use Rattle.hir_types.specs.declared.ty.IntTy.TheVariants as int
use Rattle.hir_types.specs.declared.ty.Ty.TheVariants as ty
use Rattle.infer_table.specs.Own.{Binding, completion_of, completion, solution, solution_solves, solution_respects, resolution, IsOpenOrKnown, open_var, open_int_var, terms_composed, resolution_terms, Log, Solves, Respects, Triangular, log_of, State, bindings, Meets, apply_apply, is_int_apply}

-- what stands for holes next changes nothing
fallback_stays : (s : Assignment) → composed s fallback ≡ fallback
fallback_stays s = same_assignments (composed s fallback) fallback (record {
  var = λ n. replaced_error (with_holes s);
  int_var = λ n. replaced_int (with_holes s) int.I32;
  const_var = λ n. refl;
})

closed_type : (s : Assignment) (t : Ty) → folded s (folded fallback t) ≡ folded fallback t
closed_type s t = folded_twice s fallback t ∙ ap (λ (f : Assignment). folded f t) (fallback_stays s)

closed_const : (s : Assignment) (c : Const) → const_folded s (const_folded fallback c) ≡ const_folded fallback c
closed_const s c = const_folded_twice s fallback c ∙ ap (λ (f : Assignment). const_folded f c) (fallback_stays s)

pub completion_stays : (s : Assignment) (bs : List Binding) → composed s (completion_of bs) ≡ completion_of bs
completion_stays s bs = same_assignments (composed s (completion_of bs)) (completion_of bs) (record {
  var = λ n. closed_type s ((resolution bs).var n);
  int_var = λ n. closed_type s ((resolution bs).int_var n);
  const_var = λ n. closed_const s ((resolution bs).const_var n);
})

-- of any value that holes may be replaced in
pub completed_stays : {X : Type 0} (put_in : Replacement → X → X) → ((f g : Assignment) (x : X) → put_in (with_holes f) (put_in (with_holes g) x) ≡ put_in (with_holes (composed f g)) x) → (bs : List Binding) (x made : X) → made ≡ put_in (with_holes (completion_of bs)) x → (s : Assignment) → put_in (with_holes s) made ≡ made
completed_stays {X} put_in twice bs x made e s =
    ap (put_in (with_holes s)) e
    ∙ twice s (completion_of bs) x
    ∙ ap (λ (f : Assignment). put_in (with_holes f) x) (completion_stays s bs)
    ∙ sym e

-- types that come to the same are completed to the same
pub completed_same : (bs : List Binding) (t u : Ty) → folded (resolution bs) t ≡ folded (resolution bs) u → folded (completion_of bs) t ≡ folded (completion_of bs) u
completed_same bs t u e =
    sym (folded_twice fallback (resolution bs) t) ∙ ap (folded fallback) e ∙ folded_twice fallback (resolution bs) u

-- an open hole is completed to what it falls back to
pub completed_var : (bs : List Binding) (n : ℕ) → IsOpenOrKnown bs (ty.Var n) → (completion_of bs).var n ≡ ty.Error
completed_var bs n h = ap (folded fallback) (open_var bs n (h.var n refl)) ∙ replaced_var (with_holes fallback) n

pub completed_int_var : (bs : List Binding) (n : ℕ) → IsOpenOrKnown bs (ty.IntVar n) → (completion_of bs).int_var n ≡ ty.Int int.I32
completed_int_var bs n h = ap (folded fallback) (open_int_var bs n (h.int_var n refl)) ∙ replaced_int_var (with_holes fallback) n

pub completed_if_ok : {X E : Type 0} (put_in : Replacement → X → X) → ((f g : Assignment) (x : X) → put_in (with_holes f) (put_in (with_holes g) x) ≡ put_in (with_holes (composed f g)) x) → (bs : List Binding) (x : X) (r : Result X E) → IfOk r (λ made. made ≡ put_in (with_holes (completion_of bs)) x) → IfOk r (λ made. (s : Assignment) → put_in (with_holes s) made ≡ made)
completed_if_ok put_in twice bs x (Ok made) h = completed_stays put_in twice bs x made h
completed_if_ok put_in twice bs x (Err e) h = tt

-- ---- agreement with all bindings

-- a solution and then another assignment is a solution
solves_after : (f z : Hole → Term) (l : Log) → Solves z l → Solves (λ k. apply f (z k)) l
solves_after f z [] h = tt
solves_after f z (p ∷ l) h = (ap (apply f) h.0 ∙ apply_apply f z p.1, solves_after f z l h.1)

closing_terms : (a : Assignment) (bs : List Binding) (k : Hole) → terms_of (composed a (resolution bs)) k ≡ apply (terms_of a) (solution (log_of bs) k)
closing_terms a bs k = terms_composed a (resolution bs) k ∙ ap (apply (terms_of a)) (resolution_terms bs k)

-- what is known of each hole, with any types in the place of those that are open
pub closing_meets : (a : Assignment) (s : State) → Triangular (log_of (bindings s)) → Meets (terms_of (composed a (resolution (bindings s)))) s
closing_meets a s h =
    let P : (Hole → Term) → Type 0 = λ z. Solves z (log_of (bindings s)) in
    let same : (λ k. apply (terms_of a) (solution (log_of (bindings s)) k)) ≡ terms_of (composed a (resolution (bindings s))) = λ i k. sym (closing_terms a (bindings s) k) i in
    subst P same (solves_after (terms_of a) (solution (log_of (bindings s))) (log_of (bindings s)) (solution_solves (log_of (bindings s)) h))

pub closing_respects : (a : Assignment) (s : State) → Triangular (log_of (bindings s)) → Respects (terms_of a) → Respects (terms_of (composed a (resolution (bindings s))))
closing_respects a s h integers = λ k e.
    let P : Term → Type 0 = IsInt in
    subst P (sym (closing_terms a (bindings s) k)) (is_int_apply (terms_of a) (solution (log_of (bindings s)) k) integers (solution_respects (log_of (bindings s)) h k e))

pub completion_meets : (s : State) → Triangular (log_of (bindings s)) → Meets (terms_of (completion s)) s
completion_meets s h = closing_meets fallback s h

fallback_respects : Respects (terms_of fallback)
fallback_respects (hole_of.Ty n) h = absurd h
fallback_respects (hole_of.Int n) h = subst IsInt (sym (term_int int.I32)) tt
fallback_respects (hole_of.Const n) h = absurd h

pub completion_respects : (s : State) → Triangular (log_of (bindings s)) → Respects (terms_of (completion s))
completion_respects s h = closing_respects fallback s h fallback_respects
