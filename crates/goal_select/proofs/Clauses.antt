-- The clauses of an item hold without more, and no hole stands in them.
use Rattle.std.proofs.Common.{◌≡◌, inl, inr, ℕ, zero, suc, true, List, [], map, slice_get, Some, refl, sym, ap, ◌∙◌, subst, true≢false}
use Rattle.std.specs.List.{range_with_len}
use Rattle.std.proofs.lemmas.Bool.{or_cases, or_left, or_right}
use Rattle.goal_select.specs.Words.{GenericDefId, Hole, Assignment, with_holes, arg_replaced, args_replaced, map_twice, replaced_param, arg_replaced_type, Term, hole, leaf, pair, apply, occurs, hole_number, chain, arg_term, terms_of, term_error, RawFacts, generic_params, hole_eq_true, hole_eq_same, pair_left, pair_right, Fill, Asked, Rule, IsNth, own_params, goal_at, own_clause, trait_holes, IsStated, IsSuper, fact, ClausesAre}
use Rattle.hir_types.specs.declared.head.Hole.TheVariants as hole_of
use Rattle.hir_types.specs.declared.ty.Const.TheVariants as const
use Rattle.hir_types.specs.declared.ty.Ty.TheVariants as ty
use Rattle.hir_types.specs.declared.ty.GenericArg.TheVariants as arg
use Rattle.goal_facts.specs.Environment.{Follows}
use Rattle.goal_select.proofs.Words.{get_in_map, goal_under}
use Rattle.goal_select.proofs.Known.{args_folded}

-- ---- terms without holes

abbrev pub HasNoHoles : Term → Type 0
HasNoHoles t = (k : Hole) → occurs k t ≡ true → ⊥

-- a term that stays has only holes that stay
stays_at : (s : Fill) (t : Term) → apply s t ≡ t → (k : Hole) → occurs k t ≡ true → s k ≡ hole k
stays_at s (hole j) e k o = ap s (hole_eq_true k j o) ∙ e ∙ ap hole (sym (hole_eq_true k j o))
stays_at s (leaf x) e k o = absurd (true≢false (sym o))
stays_at s (pair a b) e k o = elim (or_cases (occurs k a) (occurs k b) o) [
  | inl l ↦ stays_at s a (pair_left e) k l
  | inr r ↦ stays_at s b (pair_right e) k r
]

abbrev unknown : Assignment
unknown = record { var = λ k. ty.Error; int_var = λ k. ty.Error; const_var = λ k. const.Unknown }

none_unknown : (k : Hole) → terms_of unknown k ≡ hole k → ⊥
none_unknown (hole_of.Ty j) h = let clash = sym term_error ∙ h in cc
none_unknown (hole_of.Int j) h = let clash = sym term_error ∙ h in cc
none_unknown (hole_of.Const j) h = cc

has_none : (t : Term) → apply (terms_of unknown) t ≡ t → HasNoHoles t
has_none t e k o = none_unknown k (stays_at (terms_of unknown) t e k o)

-- one of the arguments, and a term at arguments
nth_none : (n : ℕ) (ts u : Term) → IsNth n ts u → HasNoHoles ts → HasNoHoles u
nth_none zero (pair (pair m t) b) u l h k o =
    let P : Term → Type 0 = λ x. occurs k x ≡ true in
    h k (or_left (occurs k (pair m t)) (occurs k b) (or_right (occurs k m) (occurs k t) (subst P l o)))
nth_none (suc n) (pair a b) u l h k o = nth_none n b u l (λ j p. h j (or_right (occurs j a) (occurs j b) p)) k o
nth_none zero (pair (hole j) b) u l h k o = absurd l
nth_none zero (pair (leaf x) b) u l h k o = absurd l
nth_none zero (hole j) u l h k o = absurd l
nth_none zero (leaf x) u l h k o = absurd l
nth_none (suc n) (hole j) u l h k o = absurd l
nth_none (suc n) (leaf x) u l h k o = absurd l

none_at : (p : Fill) (t : Term) → ((k : Hole) → occurs k t ≡ true → HasNoHoles (p k)) → HasNoHoles (apply p t)
none_at p (hole j) h k o = h j (hole_eq_same j) k o
none_at p (leaf x) h k o = absurd (true≢false (sym o))
none_at p (pair a b) h k o = elim (or_cases (occurs k (apply p a)) (occurs k (apply p b)) o) [
  | inl l ↦ none_at p a (λ j q. h j (or_left (occurs j a) (occurs j b) q)) k l
  | inr r ↦ none_at p b (λ j q. h j (or_right (occurs j a) (occurs j b) q)) k r
]

-- ---- what is stated

own_stay : (a : Assignment) (n : ℕ) → args_replaced (with_holes a) (own_params n) ≡ own_params n
own_stay a n =
    map_twice (arg_replaced (with_holes a)) (λ k. arg.Ty (ty.Param k)) (range_with_len 0 n)
    ∙ (λ i. map (λ k. (arg_replaced_type (with_holes a) (ty.Param k) ∙ ap arg.Ty (replaced_param (with_holes a) k)) i) (range_with_len 0 n))

stated_none : (raw : RawFacts) (item : GenericDefId) (d : Asked) → IsStated raw item d → HasNoHoles d.parts
stated_none raw item d (inl (t, at, e)) =
    let n = generic_params raw item in
    let P : Asked → Type 0 = λ x. HasNoHoles x.parts in
    subst P (sym e) (has_none (own_clause n t).parts (sym (args_folded unknown (own_params n)) ∙ ap (λ xs. chain (map arg_term xs)) (own_stay unknown n)))
stated_none raw item d (inr (i, g, at, e)) =
    let xs = own_params (generic_params raw item) in
    let P : Asked → Type 0 = λ x. HasNoHoles x.parts in
    subst P (sym e) (has_none (goal_at raw xs g).parts (ap (λ x. x.parts) (goal_under unknown raw xs g ∙ ap (λ ys. goal_at raw ys g) (own_stay unknown (generic_params raw item)))))

-- ---- what follows

super_none : (raw : RawFacts) (c d : Asked) → HasNoHoles c.parts → IsSuper raw c d → HasNoHoles d.parts
super_none raw c d h s =
    let says = s.says.3 in
    let g = s.says.1 in
    let P : Asked → Type 0 = λ x. HasNoHoles x.parts in
    subst P (sym says.3)
    (none_at says.1 (goal_at raw (trait_holes raw s.trait_) g).parts (λ k o. nth_none (hole_number k) c.parts (says.1 k) (says.2 k o) h))

follows_none : (raw : RawFacts) (item : GenericDefId) (n : ℕ) (d : Asked) → Follows raw (IsStated raw item) n d → HasNoHoles d.parts
follows_none raw item zero d f = stated_none raw item d f
follows_none raw item (suc n) d (inl f) = follows_none raw item n d f
follows_none raw item (suc n) d (inr (c, f, s)) = super_none raw c d (follows_none raw item n c f) s

pub record IsClosedFact (r : Rule) : Type 0 where
  pub head : HasNoHoles r.head.parts
  pub preds : r.preds ≡ []

pub clause_closed : (raw : RawFacts) (item : GenericDefId) (rs : List Rule) → ClausesAre raw item rs → (i : ℕ) (r : Rule) → slice_get rs i ≡ Some r → IsClosedFact r
clause_closed raw item rs are i r at =
    let d = get_in_map fact are.stated i r (subst (λ xs. slice_get xs i ≡ Some r) are.are at) in
    subst IsClosedFact d.2 (record { head = follows_none raw item raw.limits.goal_depth d.0 (are.closed.only i d.0 d.1); preds = refl })
