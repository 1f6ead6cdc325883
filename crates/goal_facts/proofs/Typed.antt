-- Each clause of an item is a goal about types.
use Rattle.std.specs.Prelude.{◌≡◌, ℕ, zero, suc, true, List, [], ◌∷◌, map, slice_get, Some, refl}
use Rattle.std.specs.List.{range_with_len}
use Rattle.std.proofs.Common.{inl, inr, sym, ap, ◌∙◌, subst, true≢false, get_or, IfOk, Result}
use Rattle.std.proofs.lemmas.Bool.{or_cases}
use Rattle.std.proofs.lemmas.Option.{get_or_from_slice_get}
use Rattle.std.proofs.lemmas.Result.{IfOk-weaker}
use Rattle.goal_facts.specs.Words.{TraitId, GenericDefId, TypeAliasId, TypeRefId, Hole, Const, Ty, Ty-F, GenericArg, out-TraitRef, Goal, with_params, map_twice, instance_at_types, at_ty, replaced_var, Assignment, with_holes, folded, replaced, Term, hole, leaf, pair, apply, occurs, hole_number, chain, term, type_part, arg_term, terms_of, parts_of_types, arg_term_type, args_terms, term_folded, type_of_term, term_read, term_erased, const_term_tells, apply_agree, hole_eq_true, pair_left, pair_right, RawFacts, RawGoal, arg_types, count_or_none, params_in_trait, generic_params, written_type, filled_type, filled_folded, Fill, Kind, implements, projects, Asked, Rule, asked_at, IsNth, AreArgs}
use Rattle.hir_types.specs.declared.head.Hole.TheVariants as hole_of
use Rattle.hir_types.specs.declared.ty.Const.TheVariants as const
use Rattle.hir_types.specs.declared.ty.Ty.TheVariants as ty
use Rattle.hir_types.specs.declared.ty.GenericArg.TheVariants as arg
use Rattle.hir_types.specs.declared.goal.Goal.TheVariants as goal
use Rattle.goal_facts.specs.Words.hir_raw.declared.raw.RawGoal.TheVariants as raw_goal
use Rattle.goal_facts.specs.Own.{holes, own_params, instance, goal_at, own_clause, IsStated, trait_holes, IsSuper, Follows, asked_goal, fact, ClausesAre}
use Rattle.goal_facts.proofs.Adding.{get_in_map}

-- ---- goals about types

-- the parts of a goal of this kind, all of them types
abbrev AreTypes : Kind → Term → Type 0
AreTypes (implements t) u = (ts : List Ty) × (u ≡ chain (parts_of_types ts))
AreTypes (projects k) u = (ts : List Ty) × (t : Ty) × (u ≡ pair (chain (parts_of_types ts)) (term t))

abbrev pub IsTyped : Asked → Type 0
IsTyped d = AreTypes d.kind d.parts

goal_of_types : (k : Kind) (u : Term) → AreTypes k u → (g : Goal) × (asked_goal g ≡ record { kind = k; parts = u })
goal_of_types (implements t) u (ts, e) = (
  goal.Trait (record { id = t; args = map arg.Ty ts }),
  λ i. record { kind = implements t; parts = (ap chain (args_terms ts) ∙ sym e) i },
)
goal_of_types (projects k) u (ts, t, e) = (
  goal.Projection k (map arg.Ty ts) t,
  λ i. record { kind = projects k; parts = (ap (λ us. pair (chain us) (term t)) (args_terms ts) ∙ sym e) i },
)

-- such a goal is one of inference
pub typed_goal : (d : Asked) → IsTyped d → (g : Goal) × (asked_goal g ≡ d)
typed_goal d h = goal_of_types d.kind d.parts h

-- ---- written goals

chain_of_types : {X : Type 0} (f : X → Ty) (xs : List X) → chain (map arg_term (map (λ x. arg.Ty (f x)) xs)) ≡ chain (parts_of_types (map f xs))
chain_of_types f [] = refl
chain_of_types f (x ∷ xs) = λ i. pair (arg_term_type (f x) i) (chain_of_types f xs i)

-- the parts of a goal over what its types are
abbrev parts_by : (TypeRefId → Ty) → RawGoal → Term
parts_by f (raw_goal.Trait r) = chain (parts_of_types (map f (arg_types r.args)))
parts_by f (raw_goal.Projection k ws w) = pair (chain (parts_of_types (map f (arg_types ws)))) (term (f w))

parts_are : (raw : RawFacts) (xs : List GenericArg) (g : RawGoal) → (goal_at raw xs g).parts ≡ parts_by (instance raw xs) g
parts_are raw xs (raw_goal.Trait r) = chain_of_types (instance raw xs) (arg_types r.args)
parts_are raw xs (raw_goal.Projection k ws w) = ap (λ u. pair u (term (instance raw xs w))) (chain_of_types (instance raw xs) (arg_types ws))

-- at any types it is about types
parts_typed : (raw : RawFacts) (xs : List GenericArg) (f : TypeRefId → Ty) (g : RawGoal) (u : Term) → u ≡ parts_by f g → AreTypes (goal_at raw xs g).kind u
parts_typed raw xs f (raw_goal.Trait r) u e = (map f (arg_types r.args), e)
parts_typed raw xs f (raw_goal.Projection k ws w) u e = (map f (arg_types ws), f w, e)

chain_under : (a : Assignment) (f : TypeRefId → Ty) (ws : List TypeRefId) → apply (terms_of a) (chain (parts_of_types (map f ws))) ≡ chain (parts_of_types (map (λ w. folded a (f w)) ws))
chain_under a f [] = refl
chain_under a f (w ∷ ws) = λ i. pair (type_part (sym (term_folded a (f w)) i)) (chain_under a f ws i)

parts_under : (a : Assignment) (f : TypeRefId → Ty) (g : RawGoal) → apply (terms_of a) (parts_by f g) ≡ parts_by (λ w. folded a (f w)) g
parts_under a f (raw_goal.Trait r) = chain_under a f (arg_types r.args)
parts_under a f (raw_goal.Projection k ws w) = λ i. pair (chain_under a f (arg_types ws) i) (sym (term_folded a (f w)) i)

-- ---- the holes of a written goal are of types

hole_stays : (a : Assignment) → folded a ty.Hole ≡ ty.Hole
hole_stays a = ap (folded a) (sym ty.rolls-Hole) ∙ at_ty (with_holes a) Ty-F.Hole ∙ ty.rolls-Hole

written_stays : (raw : RawFacts) (w : TypeRefId) (a : Assignment) → folded a (written_type raw.types w) ≡ written_type raw.types w
written_stays raw w a =
    filled_folded a (λ k. ty.Hole) raw.types w ∙ ap (λ (h : ℕ → Ty). filled_type h raw.types w) (λ i k. hole_stays a i)

vars_folded : (a : Assignment) (ks : List ℕ) → map (folded a) (map ty.Var ks) ≡ map a.var ks
vars_folded a [] = refl
vars_folded a (k ∷ ks) = λ i. replaced_var (with_holes a) k i ∷ vars_folded a ks i

-- what the holes of types stand for counts alone
instance_is : (raw : RawFacts) (n : ℕ) (w : TypeRefId) (a : Assignment) → folded a (instance raw (holes n) w) ≡ replaced (with_params (map arg.Ty (map a.var (range_with_len 0 n)))) (written_type raw.types w)
instance_is raw n w a =
    let ks = range_with_len 0 n in
    let t = written_type raw.types w in
    ap (λ xs. folded a (replaced (with_params xs) t)) (sym (map_twice arg.Ty ty.Var ks))
    ∙ instance_at_types a (map ty.Var ks) t (written_stays raw w)
    ∙ ap (λ ts. replaced (with_params (map arg.Ty ts)) t) (vars_folded a ks)

-- what stands for each hole, read back as a type
abbrev read_back : Fill → Const → Assignment
read_back p c = record { var = λ m. type_of_term (p (hole_of.Ty m)); int_var = λ m. type_of_term (p (hole_of.Int m)); const_var = λ m. c }

module _ (raw : RawFacts) (n : ℕ) (g : RawGoal) where
  abbrev parts : Term
  parts = (goal_at raw (holes n) g).parts

  parts_folded : (a : Assignment) → apply (terms_of a) parts ≡ parts_by (λ w. folded a (instance raw (holes n) w)) g
  parts_folded a = ap (apply (terms_of a)) (parts_are raw (holes n) g) ∙ parts_under a (instance raw (holes n)) g

  same_folded : (p : Fill) (c d : Const) → apply (terms_of (read_back p c)) parts ≡ apply (terms_of (read_back p d)) parts
  same_folded p c d =
      let same : (w : TypeRefId) → folded (read_back p c) (instance raw (holes n) w) ≡ folded (read_back p d) (instance raw (holes n) w) = λ w. instance_is raw n w (read_back p c) ∙ sym (instance_is raw n w (read_back p d)) in
      parts_folded (read_back p c) ∙ (λ i. parts_by (λ w. same w i) g) ∙ sym (parts_folded (read_back p d))

-- terms that are the same show the same holes
applied_tells : (f g : Fill) (t : Term) → apply f t ≡ apply g t → (k : Hole) → occurs k t ≡ true → f k ≡ g k
applied_tells f g (hole j) e k o = ap f (hole_eq_true k j o) ∙ e ∙ ap g (sym (hole_eq_true k j o))
applied_tells f g (leaf h) e k o = absurd (true≢false (sym o))
applied_tells f g (pair a b) e k o = elim (or_cases (occurs k a) (occurs k b) o) [
  | inl i ↦ applied_tells f g a (pair_left e) k i
  | inr i ↦ applied_tells f g b (pair_right e) k i
]

abbrev pub IsTypeTerm : Term → Type 0
IsTypeTerm u = (t : Ty) × (u ≡ term t)

nth_type : (n : ℕ) (ts : List Ty) (u : Term) → IsNth n (chain (parts_of_types ts)) u → IsTypeTerm u
nth_type zero [] u h = absurd h
nth_type zero (t ∷ ts) u h = (t, h)
nth_type (suc n) [] u h = absurd h
nth_type (suc n) (t ∷ ts) u h = nth_type n ts u h

pub type_read_back : (u : Term) → IsTypeTerm u → u ≡ term (type_of_term u)
type_read_back u (t, e) = e ∙ sym (term_erased t) ∙ ap term (sym (term_read t)) ∙ ap (λ v. term (type_of_term v)) (sym e)

module _ (raw : RawFacts) (n : ℕ) (g : RawGoal) (p : Fill) (are : (k : Hole) → occurs k (parts raw n g) ≡ true → IsTypeTerm (p k)) where
  is_read_back : (k : Hole) → occurs k (parts raw n g) ≡ true → p k ≡ terms_of (read_back p const.Unknown) k
  is_read_back (hole_of.Ty m) o = type_read_back (p (hole_of.Ty m)) (are (hole_of.Ty m) o)
  is_read_back (hole_of.Int m) o = type_read_back (p (hole_of.Int m)) (are (hole_of.Int m) o)
  is_read_back (hole_of.Const m) o =
      let one = terms_of (read_back p const.Unknown) in
      let other = terms_of (read_back p const.Hole) in
      let same : const.Unknown ≡ const.Hole = const_term_tells const.Unknown const.Hole (applied_tells one other (parts raw n g) (same_folded raw n g p const.Unknown const.Hole) (hole_of.Const m) o) in
      cc

  at_types : IsTyped (asked_at p (goal_at raw (holes n) g))
  at_types =
      let a = read_back p const.Unknown in
      parts_typed raw (holes n) (λ w. folded a (instance raw (holes n) w)) g (apply p (parts raw n g))
      (apply_agree p (terms_of a) (parts raw n g) is_read_back ∙ parts_folded raw n g a)

-- ---- clauses

own_typed : (n : ℕ) (t : TraitId) → IsTyped (own_clause n t)
own_typed n t = (map ty.Param (range_with_len 0 n), chain_of_types ty.Param (range_with_len 0 n))

stated_typed : (raw : RawFacts) (item : GenericDefId) (d : Asked) → IsStated raw item d → IsTyped d
stated_typed raw item d (inl (t, at, e)) = subst IsTyped (sym e) (own_typed (generic_params raw item) t)
stated_typed raw item d (inr (i, g, at, e)) =
    let xs = own_params (generic_params raw item) in
    subst IsTyped (sym e) (parts_typed raw xs (instance raw xs) g (goal_at raw xs g).parts (parts_are raw xs g))

super_typed : (raw : RawFacts) (c d : Asked) → IsTyped c → IsSuper raw c d → IsTyped d
super_typed raw c d h s =
    let says = s.says.3 in
    let g = s.says.1 in
    let own = subst (λ k. AreTypes k c.parts) s.kind h in
    let p = says.1 in
    let args = subst (λ u. AreArgs u p (goal_at raw (trait_holes raw s.trait_) g).parts) own.1 says.2 in
    subst IsTyped (sym says.3)
    (at_types raw (count_or_none (params_in_trait raw s.trait_)) g p (λ k o. nth_type (hole_number k) own.0 (p k) (args k o)))

follows_typed : (raw : RawFacts) (S : Asked → Type 0) → ((d : Asked) → S d → IsTyped d) → (n : ℕ) (d : Asked) → Follows raw S n d → IsTyped d
follows_typed raw S h zero d f = h d f
follows_typed raw S h (suc n) d (inl f) = follows_typed raw S h n d f
follows_typed raw S h (suc n) d (inr (c, f, s)) = super_typed raw c d (follows_typed raw S h n c f) s

pub clause_typed : (raw : RawFacts) (item : GenericDefId) (rs : List Rule) → ClausesAre raw item rs → (i : ℕ) (r : Rule) → slice_get rs i ≡ Some r → IsTyped r.head
clause_typed raw item rs are i r at =
    let d = get_in_map fact are.stated i r (subst (λ xs. slice_get xs i ≡ Some r) are.are at) in
    subst (λ x. IsTyped x.head) d.2 (follows_typed raw (IsStated raw item) (stated_typed raw item) raw.limits.goal_depth d.0 (are.closed.only i d.0 d.1))

-- each is a goal of inference
pub clause_goal : (raw : RawFacts) (item : GenericDefId) (rs : List Rule) → ClausesAre raw item rs → (i : ℕ) (r : Rule) → slice_get rs i ≡ Some r → (g : Goal) × (asked_goal g ≡ r.head)
clause_goal raw item rs are i r at = typed_goal r.head (clause_typed raw item rs are i r at)

-- ---- what is asked, as a goal of inference

asked_trait : (g : Goal) (d : Asked) (t : TraitId) → d.kind ≡ implements t → asked_goal g ≡ d → (xs : List GenericArg) × (chain (map arg_term xs) ≡ d.parts)
asked_trait (goal.Trait r) d t is e = ((out-TraitRef r).args, ap (λ x. x.parts) e)
asked_trait (goal.Projection k xs u) d t is e = let clash : projects k ≡ implements t = ap (λ x. x.kind) e ∙ is in cc

asked_projection : (g : Goal) (d : Asked) (k : TypeAliasId) → d.kind ≡ projects k → asked_goal g ≡ d → (xs : List GenericArg) × (u : Ty) × (pair (chain (map arg_term xs)) (term u) ≡ d.parts)
asked_projection (goal.Trait r) d k is e = let clash : implements (out-TraitRef r).id ≡ projects k = ap (λ x. x.kind) e ∙ is in cc
asked_projection (goal.Projection m xs u) d k is e = (xs, u, ap (λ x. x.parts) e)

of_kind : (d : Asked) (k : Kind) → d.kind ≡ k → record { kind = k; parts = d.parts } ≡ d
of_kind d k is = λ i. record { kind = sym is i; parts = d.parts }

-- the goal asks this, if one does
abbrev AsksIf : Asked → Goal → Type 0
AsksIf d made = (g : Goal) → asked_goal g ≡ d → asked_goal made ≡ d

pub trait_asks : {E : Type 0} (r : Result Goal E) (d : Asked) (t : TraitId) → d.kind ≡ implements t
    → IfOk r (λ made. (xs : List GenericArg) → chain (map arg_term xs) ≡ d.parts → asked_goal made ≡ record { kind = implements t; parts = d.parts }) → IfOk r (AsksIf d)
trait_asks r d t is h =
    IfOk-weaker r (λ made. (xs : List GenericArg) → chain (map arg_term xs) ≡ d.parts → asked_goal made ≡ record { kind = implements t; parts = d.parts }) (AsksIf d)
    (λ made k g e. let q = asked_trait g d t is e in k q.0 q.1 ∙ of_kind d (implements t) is) h

pub projection_asks : {E : Type 0} (r : Result Goal E) (d : Asked) (k : TypeAliasId) → d.kind ≡ projects k
    → IfOk r (λ made. (xs : List GenericArg) (u : Ty) → pair (chain (map arg_term xs)) (term u) ≡ d.parts → asked_goal made ≡ record { kind = projects k; parts = d.parts }) → IfOk r (AsksIf d)
projection_asks r d k is h =
    IfOk-weaker r (λ made. (xs : List GenericArg) (u : Ty) → pair (chain (map arg_term xs)) (term u) ≡ d.parts → asked_goal made ≡ record { kind = projects k; parts = d.parts }) (AsksIf d)
    (λ made m g e. let q = asked_projection g d k is e in m q.0 q.1 q.2 ∙ of_kind d (projects k) is) h

-- the entry that was read
pub entry_is : {X Y : Type 0} (f : X → Y) (xs : List X) (i : ℕ) (x : X) (y : Y) → x ≡ get_or xs i x → slice_get (map f xs) i ≡ Some y → f x ≡ y
entry_is f xs i x y e at = let q = get_in_map f xs i y at in ap f (e ∙ get_or_from_slice_get xs i q.0 x q.1) ∙ q.2
