-- Written types and goals at holes for parameters, where the holes are filled.
use Rattle.std.specs.Prelude.{◌≡◌, ◌+◌, ◌<◌, ℕ, zero, suc, Bool, true, false, cond, nat_lt, List, [], ◌∷◌, length, map, slice_get, Some, option_map, refl}
use Rattle.std.specs.List.{range_with_len}
use Rattle.std.proofs.Common.{inl, inr, sym, ap, ap₂, ◌∙◌, subst, arith}
use Rattle.std.proofs.lemmas.Bool.{or_cases, ltb-true, ltb-false}
use Rattle.goal_facts.specs.Words.{TypeRefId, Hole, Ty-F, GenericArg, Assignment, with_holes, folded, arg_replaced, args_replaced, map_twice, at_ty, replaced_var, arg_replaced_type, instance_folded, Term, hole, leaf, pair, apply, occurs, type_part, term, arg_term, terms_of, term_folded, term_var, term_int_var, term_error, arg_term_type, RawType, RawGoal, RawTraitRef, RawImpl, RawFacts, arg_types, count_or_none, generic_params, filled_type, written_type, filled_folded, hole_eq_true, pair_left, pair_right, Fill, Each, asked_at}
use Rattle.hir_types.specs.declared.ids.GenericDefId.TheVariants as generic
use Rattle.hir_types.specs.declared.head.Hole.TheVariants as hole_of
use Rattle.hir_types.specs.declared.ty.Const.TheVariants as const
use Rattle.hir_types.specs.declared.ty.Ty.TheVariants as ty
use Rattle.hir_types.specs.declared.ty.GenericArg.TheVariants as arg
use Rattle.goal_facts.specs.Words.hir_raw.declared.raw.RawGoal.TheVariants as goal
use Rattle.goal_facts.specs.Own.{holes, instance, type_at, args_at, goal_at, RuleGoals, asked_goal, trait_rule, rules_for, said_trait, fresh, holes_from, HasHolesBelow, head_at, AreGoalsOf}

-- ---- a written type has no holes

hole_stays : (a : Assignment) → folded a ty.Hole ≡ ty.Hole
hole_stays a = ap (folded a) (sym ty.rolls-Hole) ∙ (at_ty (with_holes a) Ty-F.Hole ∙ ty.rolls-Hole)

written_stays : (types : List RawType) (w : TypeRefId) (a : Assignment) → folded a (written_type types w) ≡ written_type types w
written_stays types w a = filled_folded a (λ k. ty.Hole) types w ∙ (λ i. filled_type (λ k. hole_stays a i) types w)

-- ---- where holes are filled

instance_under : (a : Assignment) (raw : RawFacts) (xs : List GenericArg) (w : TypeRefId) → folded a (instance raw xs w) ≡ instance raw (args_replaced (with_holes a) xs) w
instance_under a raw xs w = instance_folded a xs (written_type raw.types w) (written_stays raw.types w)

pub type_under : (a : Assignment) (raw : RawFacts) (xs : List GenericArg) (w : TypeRefId) → apply (terms_of a) (type_at raw xs w) ≡ type_at raw (args_replaced (with_holes a) xs) w
type_under a raw xs w = sym (term_folded a (instance raw xs w)) ∙ ap term (instance_under a raw xs w)

part_under : (a : Assignment) (raw : RawFacts) (xs : List GenericArg) (w : TypeRefId)
    → apply (terms_of a) (arg_term (arg.Ty (instance raw xs w))) ≡ arg_term (arg.Ty (instance raw (args_replaced (with_holes a) xs) w))
part_under a raw xs w =
    ap (apply (terms_of a)) (arg_term_type (instance raw xs w))
    ∙ (ap type_part (type_under a raw xs w) ∙ sym (arg_term_type (instance raw (args_replaced (with_holes a) xs) w)))

pub args_under : (a : Assignment) (raw : RawFacts) (xs : List GenericArg) (ws : List TypeRefId) → apply (terms_of a) (args_at raw xs ws) ≡ args_at raw (args_replaced (with_holes a) xs) ws
args_under a raw xs [] = refl
args_under a raw xs (w ∷ ws) = ap₂ pair (part_under a raw xs w) (args_under a raw xs ws)

pub goal_under : (a : Assignment) (raw : RawFacts) (xs : List GenericArg) (g : RawGoal) → asked_at (terms_of a) (goal_at raw xs g) ≡ goal_at raw (args_replaced (with_holes a) xs) g
goal_under a raw xs (goal.Trait r) = ap (λ t. record (goal_at raw xs (goal.Trait r)) { parts = t }) (args_under a raw xs (arg_types r.args))
goal_under a raw xs (goal.Projection k ws w) =
    ap (λ t. record (goal_at raw xs (goal.Projection k ws w)) { parts = t }) (ap₂ pair (args_under a raw xs (arg_types ws)) (type_under a raw xs w))

pub head_under : (a : Assignment) (raw : RawFacts) (xs : List GenericArg) (p : RawImpl) (r : RawTraitRef) → asked_at (terms_of a) (head_at raw xs p r) ≡ head_at raw (args_replaced (with_holes a) xs) p r
head_under a raw xs p r = ap (λ t. record (head_at raw xs p r) { parts = t }) (args_under a raw xs (p.self_ ∷ arg_types r.args))

-- ---- holes for parameters

-- where what stands for each is the same
range_agrees : {X : Type 0} (f g : ℕ → X) (from n : ℕ) → ((k : ℕ) → k < from + n → f k ≡ g k) → map f (range_with_len from n) ≡ map g (range_with_len from n)
range_agrees f g from zero h = refl
range_agrees f g from (suc n) h = ap₂ (λ x xs. x ∷ xs) (h from (omega arith)) (range_agrees f g (from + 1) n (λ k less. h k (omega (arith, less))))

pub holes_under : (a : Assignment) (n : ℕ) → args_replaced (with_holes a) (holes n) ≡ map (λ k. arg.Ty (a.var k)) (range_with_len 0 n)
holes_under a n =
    map_twice (arg_replaced (with_holes a)) (λ k. arg.Ty (ty.Var k)) (range_with_len 0 n)
    ∙ (λ i. map (λ k. (arg_replaced_type (with_holes a) (ty.Var k) ∙ ap arg.Ty (replaced_var (with_holes a) k)) i) (range_with_len 0 n))

-- ---- fresh holes

abbrev with_fresh : ℕ → Assignment
with_fresh first = record { var = λ k. ty.Var (first + k); int_var = λ k. ty.IntVar (first + k); const_var = λ k. const.Var (first + k) }

fresh_at : (first : ℕ) (k : Hole) → terms_of (with_fresh first) k ≡ fresh first k
fresh_at first (hole_of.Ty k) = term_var (first + k)
fresh_at first (hole_of.Int k) = term_int_var (first + k)
fresh_at first (hole_of.Const k) = refl

is_fresh : (first : ℕ) → terms_of (with_fresh first) ≡ fresh first
is_fresh first = λ i k. fresh_at first k i

pub fresh_type : (raw : RawFacts) (first n : ℕ) (w : TypeRefId) → apply (fresh first) (type_at raw (holes n) w) ≡ type_at raw (holes_from first n) w
fresh_type raw first n w =
    ap (λ s. apply s (type_at raw (holes n) w)) (sym (is_fresh first))
    ∙ (type_under (with_fresh first) raw (holes n) w ∙ ap (λ xs. type_at raw xs w) (holes_under (with_fresh first) n))

pub fresh_args : (raw : RawFacts) (first n : ℕ) (ws : List TypeRefId) → apply (fresh first) (args_at raw (holes n) ws) ≡ args_at raw (holes_from first n) ws
fresh_args raw first n ws =
    ap (λ s. apply s (args_at raw (holes n) ws)) (sym (is_fresh first))
    ∙ (args_under (with_fresh first) raw (holes n) ws ∙ ap (λ xs. args_at raw xs ws) (holes_under (with_fresh first) n))

pub fresh_goal : (raw : RawFacts) (first n : ℕ) (g : RawGoal) → asked_at (fresh first) (goal_at raw (holes n) g) ≡ goal_at raw (holes_from first n) g
fresh_goal raw first n g =
    ap (λ s. asked_at s (goal_at raw (holes n) g)) (sym (is_fresh first))
    ∙ (goal_under (with_fresh first) raw (holes n) g ∙ ap (λ xs. goal_at raw xs g) (holes_under (with_fresh first) n))

pub fresh_goals : (raw : RawFacts) (first n : ℕ) (gs : List RawGoal) → map (asked_at (fresh first)) (map (goal_at raw (holes n)) gs) ≡ map (goal_at raw (holes_from first n)) gs
fresh_goals raw first n [] = refl
fresh_goals raw first n (g ∷ gs) = ap₂ (λ x xs. x ∷ xs) (fresh_goal raw first n g) (fresh_goals raw first n gs)

pub fresh_head : (raw : RawFacts) (first n : ℕ) (p : RawImpl) (r : RawTraitRef) → asked_at (fresh first) (head_at raw (holes n) p r) ≡ head_at raw (holes_from first n) p r
fresh_head raw first n p r =
    ap (λ s. asked_at s (head_at raw (holes n) p r)) (sym (is_fresh first))
    ∙ (head_under (with_fresh first) raw (holes n) p r ∙ ap (λ xs. head_at raw xs p r) (holes_under (with_fresh first) n))

-- ---- no other holes

-- only the holes for the parameters stay
abbrev staying_below : ℕ → Assignment
staying_below n = record { var = λ k. cond (nat_lt k n) (ty.Var k) ty.Error; int_var = λ k. ty.Error; const_var = λ k. const.Unknown }

stays_below : (n k : ℕ) → k < n → (b : Bool) → nat_lt k n ≡ b → cond b (ty.Var k) ty.Error ≡ ty.Var k
stays_below n k less true e = refl
stays_below n k less false e = let more = ltb-false k n e in absurd (omega (arith, less, more))

below_stay : (n : ℕ) → args_replaced (with_holes (staying_below n)) (holes n) ≡ holes n
below_stay n =
    holes_under (staying_below n) n
    ∙ range_agrees (λ k. arg.Ty (cond (nat_lt k n) (ty.Var k) ty.Error)) (λ k. arg.Ty (ty.Var k)) 0 n (λ k less. ap arg.Ty (stays_below n k (omega (arith, less)) (nat_lt k n) refl))

-- a term that stays has only holes that stay
stays_at : (s : Fill) (t : Term) → apply s t ≡ t → (k : Hole) → occurs k t ≡ true → s k ≡ hole k
stays_at s (hole j) e k o = ap s (hole_eq_true k j o) ∙ (e ∙ ap hole (sym (hole_eq_true k j o)))
stays_at s (leaf x) e k o = cc
stays_at s (pair a b) e k o = elim (or_cases (occurs k a) (occurs k b) o) [
  | inl l ↦ stays_at s a (pair_left e) k l
  | inr r ↦ stays_at s b (pair_right e) k r
]

below_at : (n j : ℕ) (b : Bool) → nat_lt j n ≡ b → term (cond b (ty.Var j) ty.Error) ≡ hole (hole_of.Ty j) → j < n
below_at n j true e h = ltb-true j n e
below_at n j false e h = let clash = sym term_error ∙ h in cc

is_below : (n : ℕ) (k : Hole) → terms_of (staying_below n) k ≡ hole k → (j : ℕ) × (j < n) × (k ≡ hole_of.Ty j)
is_below n (hole_of.Ty j) h = (j, below_at n j (nat_lt j n) refl h, refl)
is_below n (hole_of.Int j) h = let clash = sym term_error ∙ h in cc
is_below n (hole_of.Const j) h = cc

holes_below : (n : ℕ) (t : Term) → apply (terms_of (staying_below n)) t ≡ t → HasHolesBelow n t
holes_below n t e k o = is_below n k (stays_at (terms_of (staying_below n)) t e k o)

pub goal_holes : (raw : RawFacts) (n : ℕ) (g : RawGoal) → HasHolesBelow n (goal_at raw (holes n) g).parts
goal_holes raw n g =
    holes_below n (goal_at raw (holes n) g).parts
    (ap (λ d. d.parts) (goal_under (staying_below n) raw (holes n) g ∙ ap (λ xs. goal_at raw xs g) (below_stay n)))

pub goals_holes : (raw : RawFacts) (n : ℕ) (gs : List RawGoal) → Each (λ q. HasHolesBelow n q.parts) (map (goal_at raw (holes n)) gs)
goals_holes raw n [] = tt
goals_holes raw n (g ∷ gs) = (goal_holes raw n g, goals_holes raw n gs)

pub args_holes : (raw : RawFacts) (n : ℕ) (ws : List TypeRefId) → HasHolesBelow n (args_at raw (holes n) ws)
args_holes raw n ws =
    holes_below n (args_at raw (holes n) ws)
    (args_under (staying_below n) raw (holes n) ws ∙ ap (λ xs. args_at raw xs ws) (below_stay n))

-- ---- the goals of an impl

pub are_goals : (raw : RawFacts) (first : ℕ) (p : RawImpl) (r : RawTraitRef) (made : RuleGoals) → slice_get raw.impls made.source.0 ≡ Some p → said_trait raw p.trait_ ≡ Some r
    → made.args ≡ holes_from first (length p.params) → asked_goal made.head ≡ head_at raw made.args p r → map asked_goal made.preds.items ≡ map (goal_at raw made.args) p.preds
    → AreGoalsOf raw first (trait_rule raw p r) made
are_goals raw first p r made here said args head preds =
    let n : ℕ = length p.params in
    let count : n ≡ generic_params raw (generic.ImplId made.source) = ap (λ o. count_or_none (option_map (λ (x : RawImpl). length x.params) o)) (sym here) in
    record {
      source = (p, here, (0, ap (λ o. slice_get (rules_for raw p o) 0) said));
      args = args ∙ ap (holes_from first) count;
      head = head ∙ (ap (λ xs. head_at raw xs p r) args ∙ sym (fresh_head raw first n p r));
      preds = preds ∙ (ap (λ xs. map (goal_at raw xs) p.preds) args ∙ sym (fresh_goals raw first n p.preds));
      head_holes = subst (λ m. HasHolesBelow m (args_at raw (holes n) (p.self_ ∷ arg_types r.args))) count (args_holes raw n (p.self_ ∷ arg_types r.args));
      pred_holes = subst (λ m. Each (λ q. HasHolesBelow m q.parts) (map (goal_at raw (holes n)) p.preds)) count (goals_holes raw n p.preds);
    }
