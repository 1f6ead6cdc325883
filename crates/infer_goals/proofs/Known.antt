-- Goals of which no hole was bound since: what is known of them is what was known then.
use Rattle.std.proofs.Common.{◌≡◌, ℕ, suc, ◌≤◌, true, List, [], ◌∷◌, ◌++◌, length, refl, sym, ap, ◌∙◌, subst, arith}
use Rattle.std.specs.Prelude.{Some, slice_get}
use Rattle.std.proofs.lemmas.Bool.{false_from_ne_true}
use Rattle.std.proofs.lemmas.List.{map-append}
use Rattle.infer_goals.specs.Words.{Goal, Hole, TraitRef, out-TraitRef, goal_replaced, Assignment, with_holes, trait_replaced, trait_replaced_is, Term, pair, apply, occurs, terms_of, term_folded, Binding, bound_hole, solution, solution_apply, resolved_append, resolved_fixed, binds_found, found_place, resolution, resolution_terms, resolved, binds, entry, Free, State, bindings, Grew, apply_agree, Asked, implements, projects, asked_at, trait_goal, asked_goal, known_goal}
use Rattle.hir_types.specs.declared.goal.Goal.TheVariants as goal
use Rattle.infer_goals.specs.Words.infer_table.declared.binding.Binding.TheVariants as binding
use Rattle.infer_goals.specs.Words.infer_table.Solutions.{log_of}
use Rattle.infer_goals.proofs.Words.{args_folded, mapped_get}

-- ---- what is known put in

trait_folded : (a : Assignment) (r : TraitRef) → trait_goal (trait_replaced (with_holes a) r) ≡ asked_at (terms_of a) (trait_goal r)
trait_folded a r =
    ap trait_goal (trait_replaced_is (with_holes a) r)
    ∙ ap (λ (t : Term). let g : Asked = record { kind = implements (out-TraitRef r).id; parts = t } in g) (args_folded a (out-TraitRef r).args)

goal_folded : (a : Assignment) (g : Goal) → asked_goal (goal_replaced (with_holes a) g) ≡ asked_at (terms_of a) (asked_goal g)
goal_folded a (goal.Trait r) = trait_folded a r
goal_folded a (goal.Projection k xs t) = λ i. record { kind = projects k; parts = pair (args_folded a xs i) (term_folded a t i) }

resolution_applied : (bs : List Binding) (t : Term) → apply (terms_of (resolution bs)) t ≡ resolved (log_of bs) t
resolution_applied bs t = apply_agree (terms_of (resolution bs)) (solution (log_of bs)) t (λ k o. resolution_terms bs k) ∙ solution_apply (log_of bs) t

abbrev with_parts : Asked → Term → Asked
with_parts g t = record { kind = g.kind; parts = t }

known_asks : (s : State) (g : Goal) → asked_goal (known_goal s g) ≡ with_parts (asked_goal g) (resolved (log_of (bindings s)) (asked_goal g).parts)
known_asks s g = goal_folded (resolution (bindings s)) g ∙ ap (with_parts (asked_goal g)) (resolution_applied (bindings s) (asked_goal g).parts)

-- ---- where no hole was bound

entry_hole : (b : Binding) → (entry b).0 ≡ bound_hole b
entry_hole (binding.Ty n t) = refl
entry_hole (binding.Int n t) = refl
entry_hole (binding.Const n c) = refl

get_behind : {X : Type 0} (xs ys : List X) (k : ℕ) (x : X) → slice_get ys k ≡ Some x → (j : ℕ) × (length xs ≤ j) × (slice_get (xs ++ ys) j ≡ Some x)
get_behind [] ys k x e = (k, omega arith, e)
get_behind (z ∷ xs) ys k x e = (let r = get_behind xs ys k x e in let from = r.1 in (suc r.0, omega (arith, from), r.2))

-- a hole that some more bindings bind was bound behind the others
binds_behind : (bs more : List Binding) (k : Hole) → binds (log_of more) k ≡ true → (j : ℕ) × (b : Binding) × (length bs ≤ j) × (slice_get (bs ++ more) j ≡ Some b) × (bound_hole b ≡ k)
binds_behind bs more k e =
    let f = binds_found (log_of more) k e in
    let p = found_place (log_of more) k f.0 f.1 in
    let m = mapped_get entry more p.0 (k, f.0) p.1 in
    let r = get_behind bs more p.0 m.0 m.1 in
    (r.0, m.0, r.1, r.2, sym (entry_hole m.0) ∙ ap (λ (x : Hole × Term). x.0) m.2)

module _ (s s' : State) (g : Goal) (grew : Grew s s') where
  pub known_later : ((k : Hole) → occurs k (asked_goal (known_goal s g)).parts ≡ true → (i : ℕ) (b : Binding) → slice_get (bindings s') i ≡ Some b → length (bindings s) ≤ i → bound_hole b ≡ k → ⊥)
      → asked_goal (known_goal s' g) ≡ asked_goal (known_goal s g)
  known_later calm =
      let l = log_of (bindings s) in
      let m = log_of grew.log.0 in
      let parts = (asked_goal g).parts in
      let then_parts : (asked_goal (known_goal s g)).parts ≡ resolved l parts = ap (λ (q : Asked). q.parts) (known_asks s g) in
      let free : Free m (resolved l parts) = λ k e. false_from_ne_true (occurs k (resolved l parts)) (λ o.
      let b = binds_behind (bindings s) grew.log.0 k e in
      calm k (subst (λ t. occurs k t ≡ true) (sym then_parts) o) b.0 b.1 (subst (λ bs. slice_get bs b.0 ≡ Some b.1) (sym grew.log.1) b.3) b.2 b.4) in
      let logs : log_of (bindings s') ≡ l ++ m = ap log_of grew.log.1 ∙ map-append entry (bindings s) grew.log.0 in
      let same : resolved (log_of (bindings s')) parts ≡ resolved l parts = ap (λ ls. resolved ls parts) logs ∙ (resolved_append l m parts ∙ resolved_fixed m (resolved l parts) free) in
      known_asks s' g ∙ (ap (with_parts (asked_goal g)) same ∙ sym (known_asks s g))
