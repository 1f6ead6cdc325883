-- What an associated type reads as, where it doesn't stay, it is by a goal whose answer is Yes at that depth; and what is read of types
-- without holes is without.
use Rattle.std.specs.Prelude.{◌≡◌, ℕ, zero, suc, true, List, [], ◌∷◌, length, map, flat_map, slice_get, Option, Some, None, refl, option_map}
use Rattle.std.specs.List.{range_with_len}
use Rattle.std.proofs.Common.{inl, inr, sym, ap, ◌∙◌, subst, true≢false}
use Rattle.std.proofs.lemmas.Bool.{or_cases, or_left, or_right}
use Rattle.infer_needs.specs.Words.{GenericDefId, TypeAliasId, TypeRefId, Hole, GenericArg, Ty, arg_as_type, with_params, Term, hole, leaf, pair, chain, apply, occurs, hole_number, term, arg_term, term_param, term_projection, term_error, term_var, arg_term_type, hole_eq_true, hole_eq_same, RawAssocType, RawFacts, RawGoal, RawImpl, RawTraitRef, arg_types, count_or_none, params_in_trait, generic_params, HasNoHole, IsLawful, Fill, plain, alias, role, staying, stands, IsRead, Aliases, Reads, ReadsAs, MayRead, Kind, projects, Asked, Rule, System, args_of, type_of, key, IsKnown, Each, SomeOf, OneOf, Verdicts, IsNth, IsRefuted, Gives, GivesNone, alias_next, Proves, ShadowsNot, HasSource, answers, holes, own_params, type_at, args_at, goal_at, BoundSays, IsListed, IsStated, trait_holes, IsSuper, asked_goal, impl_args, assoc_rule, rules_for, impl_rules, TypeReads, fact, IsSystemOf, IsWrittenHead, IsWritten, stays_at, env_preds, preds_or_none}
use Rattle.hir_types.specs.declared.goal.Goal.TheVariants as goal
use Rattle.hir_types.specs.declared.ty.GenericArg.TheVariants as arg
use Rattle.hir_types.specs.declared.ty.Ty.TheVariants as ty
use Rattle.infer_needs.specs.Words.hir_raw.declared.raw.RawGoal.TheVariants as raw_goal
use Rattle.infer_needs.specs.Words.goal_answers.Reading.{Role}
use Rattle.goal_facts.specs.Own.{said_trait}
use Rattle.goal_facts.proofs.Saying.{said_is}
use Rattle.infer_needs.proofs.Words.{or_map, one_some, each_with, ReadsBy, MayReadBy, stands_by, AliasWithin, role_read, read_reads, reads_within, reads_may, reads_one as same_reading, within_itself, refuted_more, one_deeper, occurs_type, answers_sound, answers_read, reads_read as reading_is_read, each_append, top_type}
use Rattle.infer_needs.specs.Words.goal_facts.Environment.{Follows}
use Rattle.infer_needs.proofs.NoPlaceholders.{HaveNoHole, GoalHasNoHole, holds_at, args_hold_at, goal_holds_at, each_flat, trait_has_none, preds_have_none, bounds_have_none, impl_has_none, given_has_none}
use Rattle.hir_types.specs.declared.ids.GenericDefId.TheVariants as generic

-- ---- readings

-- an associated type reads as one type
pub reads_one : (f : System) (n : ℕ) (k : TypeAliasId) (xs : List GenericArg) (t u : Ty) → TypeReads f n (ty.Projection k xs) t → TypeReads f n (ty.Projection k xs) u → term t ≡ term u
reads_one f n k xs t u a b = same_reading (answers f n).Alias (answers_sound f n).one hole (term (ty.Projection k xs)) (term t) (term u) a b

-- none that could be read is left in what a type reads as
pub reads_read : (f : System) (n : ℕ) (t u : Ty) → TypeReads f n t u → IsRead (term u)
reads_read f n t u r = reading_is_read (answers f n).Alias (answers_read f n) hole (term t) (term u) (λ j o. tt) r

-- an associated type is read at what its arguments read as
pub reads_alias : (f : System) (n : ℕ) (k : TypeAliasId) (xs : List GenericArg) (u : Ty) → TypeReads f n (ty.Projection k xs) u
    → (x : Term) × ReadsAs (answers f n).Alias (chain (map arg_term xs)) x × (answers f n).Alias k x (term u)
reads_alias f n k xs u r = subst (λ t. ReadsAs (answers f n).Alias t (term u)) (term_projection k xs) r

-- where they are read, at themselves
pub reads_at : (f : System) (n : ℕ) (k : TypeAliasId) (xs : List GenericArg) (u : Ty) → IsRead (chain (map arg_term xs)) → TypeReads f n (ty.Projection k xs) u → (answers f n).Alias k (chain (map arg_term xs)) (term u)
reads_at f n k xs u read r =
    let A = (answers f n).Alias in
    let args = chain (map arg_term xs) in
    let q = reads_alias f n k xs u r in
    subst (λ x. A k x (term u)) (same_reading A (answers_sound f n).one hole args q.0 args q.1 (read_reads A args read)) q.2

-- ---- clauses have no predicates

facts_plain : (ds : List Asked) → Each (λ (r : Rule). r.preds ≡ []) (map fact ds)
facts_plain [] = tt
facts_plain (d ∷ ds) = (refl, facts_plain ds)

pub clauses_plain : (raw : RawFacts) (item : GenericDefId) (f : System) → IsSystemOf raw item f → Each (λ (r : Rule). r.preds ≡ []) f.clauses
clauses_plain raw item f of = subst (Each (λ (r : Rule). r.preds ≡ [])) (sym of.clauses.are) (facts_plain of.clauses.stated)

-- ---- what gives an alias its type proves the goal that it is that, one step deeper

module _ (f : System) (m : ℕ) where
  abbrev v : Verdicts
  v = answers f m

  abbrev A : Aliases
  A = alias_next f v

  within : AliasWithin v.Alias A
  within = (one_deeper f m).alias

  first_plain : (at : Fill) (x w : Term) → Reads v.Alias at x w → role x ≡ plain
  first_plain at (hole j) w r = refl
  first_plain at (leaf h) w r = role_read (leaf h) r.0
  first_plain at (pair x y) w r = refl

  -- a head whose arguments are known has two parts
  head_reads : (at : Fill) (t w u : Term) → IsKnown w → Reads v.Alias at (args_of t) w → Reads v.Alias at (type_of t) u → Reads A at t (pair w u)
  head_reads at (hole j) w u known a b = absurd (subst IsKnown a.1 known)
  head_reads at (leaf h) w u known a b = absurd (subst IsKnown a.1 known)
  head_reads at (pair x y) w u known a b =
      let P : Role → Type 0 = λ z. ReadsBy z A at x y (pair w u) in
      subst P (sym (first_plain at x w a)) (w, u, refl, reads_within v.Alias A within at x w a, reads_within v.Alias A within at y u b)

  gives_proves : (k : TypeAliasId) (w u : Term) → IsKnown w → (r : Rule) → Gives v k w u r → Proves A v.Yes (projects k) (pair w u) r
  gives_proves k w u known r g = record { kind = g.kind; told = g.told; at = g.at; head = head_reads g.at r.head.parts w u known g.args g.type; preds = g.preds }

  none_shadows : (k : TypeAliasId) (w u : Term) (r : Rule) → r.preds ≡ [] → GivesNone v k w r → ShadowsNot A v (projects k) (pair w u) r
  none_shadows k w u r e n =
      let t = args_of r.head.parts in
      or_map (λ x. x) (λ x. refuted_more v v (within_itself v) v.Alias A within r t [] w (subst (λ qs. IsRefuted v.Alias v r t qs w) e x)) n

  has_source : Each (λ (r : Rule). r.preds ≡ []) f.clauses → (k : TypeAliasId) (w u : Term) → (u ≡ staying k w → ⊥) → A k w u → HasSource f A v (projects k) (pair w u)
  has_source none k w u stays (known, inl a) = inl (one_some (Gives v k w u) (GivesNone v k w) (Proves A v.Yes (projects k) (pair w u)) (gives_proves k w u known) f.clauses a)
  has_source none k w u stays (known, inr (first, inl a)) =
      inr (each_with (none_shadows k w u) f.clauses none first, inl (one_some (Gives v k w u) (GivesNone v k w) (Proves A v.Yes (projects k) (pair w u)) (gives_proves k w u known) f.rules a))
  has_source none k w u stays (known, inr (first, inr (rest, e))) = absurd (stays e)

-- ---- so that goal is Yes

-- at depth 0 an associated type only stays
pub reads_yes : (raw : RawFacts) (item : GenericDefId) (f : System) → IsSystemOf raw item f → (n : ℕ) (k : TypeAliasId) (xs : List GenericArg) (u : Ty)
    → IsRead (chain (map arg_term xs)) → TypeReads f n (ty.Projection k xs) u → (term u ≡ stays_at k xs → ⊥) → (answers f n).Yes (asked_goal (goal.Projection k xs u))
reads_yes raw item f of zero k xs u read r stays = absurd (stays (reads_at f zero k xs u read r).3)
reads_yes raw item f of (suc m) k xs u read r stays =
    let args = chain (map arg_term xs) in
    let a = reads_at f (suc m) k xs u read r in
    let parts = pair args (term u) in
    (parts, read_reads (alias_next f (answers f m)) parts (read, reads_read f (suc m) (ty.Projection k xs) u r), (a.0, inr (has_source f m (clauses_plain raw item f of) k args (term u) stays a)))

-- ---- terms whose heads are written

-- holes may stand in it
abbrev HasWrittenHeads : Term → Type 0
HasWrittenHeads (hole k) = Unit {0}
HasWrittenHeads (leaf h) = IsWrittenHead h
HasWrittenHeads (pair a b) = HasWrittenHeads a × HasWrittenHeads b

written_heads : (t : Term) → IsWritten t → HasWrittenHeads t
written_heads (hole k) h = tt
written_heads (leaf x) h = h
written_heads (pair a b) h = (written_heads a h.0, written_heads b h.1)

no_hole : (t : Term) → IsWritten t → (k : Hole) → occurs k t ≡ true → ⊥
no_hole (hole j) h k o = h
no_hole (leaf x) h k o = true≢false (sym o)
no_hole (pair a b) h k o = elim (or_cases (occurs k a) (occurs k b) o) [
  | inl l ↦ no_hole a h.0 k l
  | inr r ↦ no_hole b h.1 k r
]

filled_heads : (p : Fill) (t : Term) → HasWrittenHeads t → ((k : Hole) → occurs k t ≡ true → HasWrittenHeads (p k)) → HasWrittenHeads (apply p t)
filled_heads p (hole j) h fills = fills j (hole_eq_same j)
filled_heads p (leaf x) h fills = h
filled_heads p (pair a b) h fills =
    (filled_heads p a h.0 (λ k o. fills k (or_left (occurs k a) (occurs k b) o)), filled_heads p b h.1 (λ k o. fills k (or_right (occurs k a) (occurs k b) o)))

filled_written : (p : Fill) (t : Term) → HasWrittenHeads t → ((k : Hole) → occurs k t ≡ true → IsWritten (p k)) → IsWritten (apply p t)
filled_written p (hole j) h fills = fills j (hole_eq_same j)
filled_written p (leaf x) h fills = h
filled_written p (pair a b) h fills =
    (filled_written p a h.0 (λ k o. fills k (or_left (occurs k a) (occurs k b) o)), filled_written p b h.1 (λ k o. fills k (or_right (occurs k a) (occurs k b) o)))

nth_heads : (n : ℕ) (ts u : Term) → IsNth n ts u → HasWrittenHeads ts → HasWrittenHeads u
nth_heads zero (pair (pair m t) b) u l h = subst HasWrittenHeads (sym l) h.0.1
nth_heads (suc n) (pair a b) u l h = nth_heads n b u l h.1
nth_heads zero (pair (hole j) b) u l h = absurd l
nth_heads zero (pair (leaf x) b) u l h = absurd l
nth_heads zero (hole j) u l h = absurd l
nth_heads zero (leaf x) u l h = absurd l
nth_heads (suc n) (hole j) u l h = absurd l
nth_heads (suc n) (leaf x) u l h = absurd l

type_heads : (t : Term) → HasWrittenHeads t → HasWrittenHeads (type_of t)
type_heads (hole j) h = tt
type_heads (leaf x) h = tt
type_heads (pair a b) h = h.1

-- ---- of goals that are written

module _ (raw : RawFacts) (xs : List GenericArg) (params : (m : ℕ) → HasWrittenHeads (term ((with_params xs).param m))) where
  pairs : (a b : Term) → HasWrittenHeads a → HasWrittenHeads b → HasWrittenHeads (pair a b)
  pairs a b h k = (h, k)

  type_at_heads : (w : TypeRefId) → HasNoHole raw.types w → HasWrittenHeads (type_at raw xs w)
  type_at_heads w none = holds_at raw xs HasWrittenHeads (λ h is. is) pairs params w none

  args_heads : (ws : List TypeRefId) → HaveNoHole raw ws → HasWrittenHeads (args_at raw xs ws)
  args_heads ws none = args_hold_at raw xs HasWrittenHeads (λ h is. is) pairs params ws none

  goal_heads : (g : RawGoal) → GoalHasNoHole raw g → HasWrittenHeads (goal_at raw xs g).parts
  goal_heads g none = goal_holds_at raw xs HasWrittenHeads (λ h is. is) pairs params g none

-- ---- at holes, or at parameters

module _ (f : ℕ → Ty) (heads : (k : ℕ) → HasWrittenHeads (term (f k))) where
  param_heads : (ks : List ℕ) (m : ℕ) → HasWrittenHeads (term ((with_params (map (λ k. arg.Ty (f k)) ks)).param m))
  param_heads [] m = subst HasWrittenHeads (sym term_error) (tt, tt)
  param_heads (k ∷ ks) zero = subst (λ x. HasWrittenHeads (term (arg_as_type x))) (sym (top_type (f k))) (heads k)
  param_heads (k ∷ ks) (suc m) = param_heads ks m

  list_heads : (ks : List ℕ) → HasWrittenHeads (chain (map arg_term (map (λ k. arg.Ty (f k)) ks)))
  list_heads [] = tt
  list_heads (k ∷ ks) = (subst HasWrittenHeads (sym (arg_term_type (f k))) (tt, heads k), list_heads ks)

var_heads : (k : ℕ) → HasWrittenHeads (term (ty.Var k))
var_heads k = subst HasWrittenHeads (sym (term_var k)) tt

own_heads : (k : ℕ) → HasWrittenHeads (term (ty.Param k))
own_heads k = subst HasWrittenHeads (sym (term_param k)) (tt, tt)

hole_params : (n m : ℕ) → HasWrittenHeads (term ((with_params (holes n)).param m))
hole_params n m = param_heads (λ k. ty.Var k) var_heads (range_with_len 0 n) m

-- ---- of sources

-- what stands behind the first of these
behind_first : (raw : RawFacts) (ws : List TypeRefId) (w : TypeRefId) (rest : List TypeRefId) → ws ≡ w ∷ rest → HaveNoHole raw ws → HaveNoHole raw rest
behind_first raw ws w rest is none k u at = none (suc k) u (subst (λ vs. slice_get vs (suc k) ≡ Some u) (sym is) at)

abbrev IsWrittenGoal : Asked → Type 0
IsWrittenGoal d = HasWrittenHeads d.parts

abbrev IsWrittenRule : Rule → Type 0
IsWrittenRule r = HasWrittenHeads r.head.parts

module _ (raw : RawFacts) (law : IsLawful raw) where
  super_heads : (c d : Asked) → IsWrittenGoal c → IsSuper raw c d → IsWrittenGoal d
  super_heads c d h s =
      let says = s.says.3 in
      let g = goal_at raw (trait_holes raw s.trait_) s.says.1 in
      subst IsWrittenGoal (sym says.3)
      (filled_heads says.1 g.parts (goal_heads raw (trait_holes raw s.trait_) (hole_params (count_or_none (params_in_trait raw s.trait_))) s.says.1 (trait_has_none raw law s.trait_ s.says.0 s.says.1 s.says.2))
      (λ k o. nth_heads (hole_number k) c.parts (says.1 k) (says.2 k o) h))

  follows_heads : (S : Asked → Type 0) → ((d : Asked) → S d → IsWrittenGoal d) → (n : ℕ) (d : Asked) → Follows raw S n d → IsWrittenGoal d
  follows_heads S h zero d f = h d f
  follows_heads S h (suc n) d (inl f) = follows_heads S h n d f
  follows_heads S h (suc n) d (inr (c, f, s)) = super_heads c d (follows_heads S h n c f) s

  stated_heads : (item : GenericDefId) (d : Asked) → IsStated raw item d → IsWrittenGoal d
  stated_heads item d (inl (t, at, e)) = subst IsWrittenGoal (sym e) (list_heads (λ k. ty.Param k) own_heads (range_with_len 0 (generic_params raw item)))
  stated_heads item d (inr (i, g, at, e)) =
      let n = generic_params raw item in
      subst IsWrittenGoal (sym e) (goal_heads raw (own_params n) (λ m. param_heads (λ k. ty.Param k) own_heads (range_with_len 0 n) m) g (preds_have_none raw law item i g at))

  bound_heads : (k : TypeAliasId) (n : ℕ) (g : RawGoal) (d : Asked) → GoalHasNoHole raw g → BoundSays raw k (holes n) g d → IsWrittenGoal d
  bound_heads k n (raw_goal.Trait r) d none h =
      subst IsWrittenGoal (sym h.4) ((tt, (tt, list_heads (λ j. ty.Var j) var_heads (range_with_len 0 n))), args_heads raw (holes n) (hole_params n) h.1 (behind_first raw (arg_types r.args) h.0 h.1 h.2 none))
  bound_heads k n (raw_goal.Projection m ws w) d none h =
      subst IsWrittenGoal (sym h.4)
      (((tt, (tt, list_heads (λ j. ty.Var j) var_heads (range_with_len 0 n))), args_heads raw (holes n) (hole_params n) h.1 (behind_first raw (arg_types ws) h.0 h.1 h.2 none.0)), type_at_heads raw (holes n) (hole_params n) w none.1)

  listed_heads : (d : Asked) → IsListed raw d → IsWrittenGoal d
  listed_heads d (i, a, at, (k, is, (j, g, here, says))) = bound_heads k (count_or_none (params_in_trait raw a.trait_)) g d (bounds_have_none raw law i a at j g here) says

  module _ (i : ℕ) (p : RawImpl) (here : slice_get raw.impls i ≡ Some p) (t : RawTraitRef) (is : p.trait_ ≡ Some t) where
    abbrev n : ℕ
    n = length p.params

    impl_args_heads : HasWrittenHeads (impl_args raw p t)
    impl_args_heads = args_heads raw (holes n) (hole_params n) (p.self_ ∷ arg_types t.args) (impl_has_none raw law i p t here is)

    assoc_heads : (xs : List RawAssocType) → ((k : ℕ) (x : RawAssocType) → slice_get xs k ≡ Some x → HasNoHole raw.types x.ty) → Each IsWrittenRule (map (assoc_rule raw p t) xs)
    assoc_heads [] none = tt
    assoc_heads (x ∷ xs) none = ((impl_args_heads, type_at_heads raw (holes n) (hole_params n) x.ty (none 0 x refl)), assoc_heads xs (λ k y at. none (suc k) y at))

  impl_heads : (i : ℕ) (p : RawImpl) → slice_get raw.impls i ≡ Some p → (o : Option RawTraitRef) → ((t : RawTraitRef) → o ≡ Some t → p.trait_ ≡ Some t) → Each IsWrittenRule (rules_for raw p o)
  impl_heads i p here None is = tt
  impl_heads i p here (Some t) is = (impl_args_heads i p here t (is t refl), assoc_heads i p here t (is t refl) p.types (given_has_none raw law i p t here (is t refl)))

  -- a predicate of an impl whose holes are filled
  pub impl_goal_written : (i : ℕ) (p : RawImpl) → slice_get raw.impls i ≡ Some p → (k : ℕ) (g : RawGoal) → slice_get p.preds k ≡ Some g → (s : Fill)
      → ((j : Hole) → occurs j (goal_at raw (holes (length p.params)) g).parts ≡ true → IsWritten (s j)) → IsWritten (apply s (goal_at raw (holes (length p.params)) g).parts)
  impl_goal_written i p here k g at s fills =
      let id = generic.ImplId (record { 0 = i }) in
      let are : env_preds raw id ≡ p.preds = ap (λ (o : Option RawImpl). preds_or_none (option_map (λ (x : RawImpl). x.preds) o)) here in
      let none = preds_have_none raw law id k g (subst (λ gs. slice_get gs k ≡ Some g) (sym are) at) in
      filled_written s (goal_at raw (holes (length p.params)) g).parts (goal_heads raw (holes (length p.params)) (hole_params (length p.params)) g none) fills

  impls_heads : Each IsWrittenRule (flat_map (impl_rules raw) raw.impls)
  impls_heads = each_flat IsWrittenRule (impl_rules raw) raw.impls (λ i p here. impl_heads i p here (said_trait raw p.trait_) (said_is raw p.trait_))

facts_heads : (ds : List Asked) → ((i : ℕ) (d : Asked) → slice_get ds i ≡ Some d → IsWrittenGoal d) → Each IsWrittenRule (map fact ds)
facts_heads [] h = tt
facts_heads (d ∷ ds) h = (h 0 d refl, facts_heads ds (λ i e at. h (suc i) e at))

-- ---- what is read of a written term

abbrev AliasIsWritten : Aliases → Type 0
AliasIsWritten A = (k : TypeAliasId) (w u : Term) → A k w u → IsWritten w → IsWritten u

reading_written : (A : Aliases) → AliasIsWritten A → (p : Fill) (t u : Term) → HasWrittenHeads t → ((k : Hole) → occurs k t ≡ true → IsWritten (p k)) → Reads A p t u → IsWritten u
reading_written A written p (hole j) u h fills r = subst IsWritten (sym r) (fills j (hole_eq_same j))
reading_written A written p (leaf x) u h fills r = subst IsWritten (sym r.1) h
reading_written A written p (pair a b) u h fills r =
    by_role (role a)
    (λ v. reading_written A written p a v h.0 (λ k o. fills k (or_left (occurs k a) (occurs k b) o)))
    (λ v. reading_written A written p b v h.1 (λ k o. fills k (or_right (occurs k a) (occurs k b) o))) r
  where
    Keeps : Term → Type 0
    Keeps t = (v : Term) → Reads A p t v → IsWritten v

    by_role : (x : Role) → Keeps a → Keeps b → ReadsBy x A p a b u → IsWritten u
    by_role plain left right r = subst IsWritten (sym r.2) (left r.0 r.3, right r.1 r.4)
    by_role (alias k) left right r = written k r.0 u r.2 (right r.0 r.1)

-- what a told hole stands for is a part of it
told_written : (p : Fill) (t w : Term) → MayRead p t w → IsWritten w → (k : Hole) → stands k t ≡ true → IsWritten (p k)
told_written p (hole j) w r h k s = subst IsWritten (r ∙ ap p (sym (hole_eq_true k j s))) h
told_written p (leaf x) w r h k s = absurd (true≢false (sym s))
told_written p (pair a b) w r h k s = by_role (role a) (λ v x y. told_written p a v x y k) (λ v x y. told_written p b v x y k) r s
  where
    Told : Term → Type 0
    Told t = (v : Term) → MayRead p t v → IsWritten v → stands k t ≡ true → IsWritten (p k)

    by_role : (x : Role) → Told a → Told b → MayReadBy x p a b w → stands_by x k a b ≡ true → IsWritten (p k)
    by_role plain left right r s =
        let both = subst IsWritten r.2 h in
        elim (or_cases (stands k a) (stands k b) s) [
          | inl e ↦ left r.0 r.3 both.0 e
          | inr e ↦ right r.1 r.4 both.1 e
        ]
    by_role (alias m) left right r s = absurd (true≢false (sym s))

gives_written : (v : Verdicts) → AliasIsWritten v.Alias → (k : TypeAliasId) (w u : Term) → IsWritten w → (r : Rule) → IsWrittenRule r → Gives v k w u r → IsWritten u
gives_written v written k w u h r heads g =
    reading_written v.Alias written g.at (type_of r.head.parts) u (type_heads r.head.parts heads)
    (λ j o. told_written g.at (args_of r.head.parts) w (reads_may v.Alias g.at (args_of r.head.parts) w g.args) h j
    (subst (λ (d : Kind). stands j (key d r.head.parts) ≡ true) g.kind (g.told.head j (occurs_type j r.head.parts o)))) g.type

pub some_give : {X : Type 0} {P T : X → Type 0} {Z : Type 0} → ((x : X) → T x → P x → Z) → (xs : List X) → Each T xs → SomeOf P xs → Z
some_give f [] t h = absurd h
some_give f (x ∷ xs) t (inl h) = f x t.0 h
some_give f (x ∷ xs) t (inr h) = some_give f xs t.1 h

-- ---- of sources that are an item's

module _ (raw : RawFacts) (law : IsLawful raw) (item : GenericDefId) (f : System) (of : IsSystemOf raw item f) where
  clauses_heads : Each IsWrittenRule f.clauses
  clauses_heads = subst (Each IsWrittenRule) (sym of.clauses.are)
      (facts_heads of.clauses.stated (λ i d at. follows_heads raw law (IsStated raw item) (stated_heads raw law item) raw.limits.goal_depth d (of.clauses.closed.only i d at)))

  rules_heads : Each IsWrittenRule f.rules
  rules_heads = subst (Each IsWrittenRule) (sym of.rules.are)
      (each_append IsWrittenRule (flat_map (impl_rules raw) raw.impls) (map fact of.rules.listed) (impls_heads raw law)
      (facts_heads of.rules.listed (λ i d at. follows_heads raw law (IsListed raw) (listed_heads raw law) raw.limits.goal_depth d (of.rules.closed.only i d at))))

  given_written : (v : Verdicts) → AliasIsWritten v.Alias → (k : TypeAliasId) (w u : Term) → IsWritten w → (rs : List Rule) → Each IsWrittenRule rs → OneOf (Gives v k w u) (GivesNone v k w) rs → IsWritten u
  given_written v written k w u h rs heads a =
      some_give (λ r t g. gives_written v written k w u h r t g) rs heads (one_some (Gives v k w u) (GivesNone v k w) (Gives v k w u) (λ r g. g) rs a)

  next_written : (v : Verdicts) → AliasIsWritten v.Alias → AliasIsWritten (alias_next f v)
  next_written v written k w u (known, inl a) h = given_written v written k w u h f.clauses clauses_heads a
  next_written v written k w u (known, inr (none, inl a)) h = given_written v written k w u h f.rules rules_heads a
  next_written v written k w u (known, inr (none, inr (rest, e))) h = subst IsWritten (sym e) (tt, h)

  aliases_written : (m : ℕ) → AliasIsWritten (answers f m).Alias
  aliases_written zero k w u a h = subst IsWritten (sym a.3) (tt, h)
  aliases_written (suc m) k w u a h = next_written (answers f m) (aliases_written m) k w u a h

  -- a term without holes reads as one without holes
  pub term_reads_written : (m : ℕ) (t u : Term) → ReadsAs (answers f m).Alias t u → IsWritten t → IsWritten u
  term_reads_written m t u r h = reading_written (answers f m).Alias (aliases_written m) hole t u (written_heads t h) (λ k o. absurd (no_hole t h k o)) r

  -- so does a type
  pub type_reads_written : (m : ℕ) (t u : Ty) → TypeReads f m t u → IsWritten (term t) → IsWritten (term u)
  type_reads_written m t u r h = term_reads_written m (term t) (term u) r h

  pub reads_written : (m : ℕ) (k : TypeAliasId) (xs : List GenericArg) (u : Ty) → TypeReads f m (ty.Projection k xs) u → IsWritten (chain (map arg_term xs)) → IsWritten (term u)
  reads_written m k xs u r h = type_reads_written m (ty.Projection k xs) u r (subst IsWritten (sym (term_projection k xs)) (tt, h))
