-- An impl at the types that stand for its holes, where the head of one of its rules reads as a goal.
use Rattle.std.specs.Prelude.{◌≡◌, ◌⊎◌, ◌+◌, ◌<◌, ℕ, zero, suc, true, List, [], ◌∷◌, length, map, slice_get, Option, Some, None, Bool, false, if◌then◌else◌, refl}
use Rattle.std.proofs.Common.{inl, inr, sym, ap, ◌∙◌, subst, arith, true≢false}
use Rattle.std.proofs.lemmas.Bool.{or_cases, or_left, or_right}
use Rattle.std.proofs.lemmas.Option.{same_Some, slice_get_within}
use Rattle.goal_prove.specs.Words.{TypeAliasId, TypeRefId, Hole, Term, hole, leaf, pair, apply, occurs, term, RawTraitRef, RawAssocType, RawGoal, RawImpl, RawFacts, arg_types, Log, found, pair_left, Fill, plain, alias, role, stands, Aliases, Reads, projects, Asked, Rule, key, Each, IsOne, fill_of, holes, type_at, args_at, goal_at, trait_rule, assoc_rule, rules_for, said_trait, impl_rules, arg_at, args_fill, IsToldBy, Kind, implements, MayRead, GenericArg, hole_eq_true}
use Rattle.hir_types.specs.declared.head.Head.TheVariants as head
use Rattle.hir_types.specs.declared.head.Hole.TheVariants as hole_of
use Rattle.hir_types.specs.declared.ty.GenericArg.TheVariants as arg
use Rattle.goal_prove.specs.Words.goal_answers.Reading.{Role}
use Rattle.goal_prove.proofs.Words.{ReadsBy, stands_by, get_in_map, args_holes, type_read_back, counted_at, counted_length, MayReadBy}
use Rattle.goal_prove.specs.Words.goal_terms.Bindings.{given}
use Rattle.goal_prove.specs.Own.{IsOfType, IsGood, AreGood, IsGoodGoal, AliasIsGood, type_or_unknown, fill_args, told_fill, IsIn, IsTaken}
use Rattle.goal_prove.proofs.Holes.{whole_stays}
use Rattle.goal_prove.proofs.TypeTerms.{no_leaf, args_role}
use Rattle.goal_prove.proofs.Sources.{told_good}
use Rattle.goal_prove.proofs.Aliases.{pred_good}

-- ---- what stands occurs

pub stands_occurs : (k : Hole) (t : Term) → stands k t ≡ true → occurs k t ≡ true
stands_occurs k (hole j) s = s
stands_occurs k (leaf x) s = s
stands_occurs k (pair a b) s = by_role (role a) (stands_occurs k a) (stands_occurs k b) s
  where
    by_role : (x : Role) → (stands k a ≡ true → occurs k a ≡ true) → (stands k b ≡ true → occurs k b ≡ true) → stands_by x k a b ≡ true → occurs k (pair a b) ≡ true
    by_role plain left right s = elim (or_cases (stands k a) (stands k b) s) [
      | inl o ↦ or_left (occurs k a) (occurs k b) (left o)
      | inr o ↦ or_right (occurs k a) (occurs k b) (right o)
    ]
    by_role (alias m) left right s = absurd (true≢false (sym s))

-- ---- the arguments of a projection

pub args_of_projection : (k : TypeAliasId) (w u : Term) → IsGoodGoal (projects k) (pair w u) → AreGood w
args_of_projection k w u h = record { args = (h.goal.0, pair_left h.goal.2); whole = h.whole.0 }

-- ---- rules of impls

rule_cases : (raw : RawFacts) (p : RawImpl) (o : Option RawTraitRef) (i : ℕ) (r : Rule) → slice_get (rules_for raw p o) i ≡ Some r → (t : RawTraitRef) × ((trait_rule raw p t ≡ r) ⊎ ((x : RawAssocType) × (assoc_rule raw p t x ≡ r)))
rule_cases raw p None i r at = cc
rule_cases raw p (Some t) zero r at = (t, inl (same_Some (trait_rule raw p t) r at))
rule_cases raw p (Some t) (suc i) r at = let q = get_in_map (assoc_rule raw p t) p.types i r at in (t, inr (q.0, q.2))

module _ (A : Aliases) (one : IsOne A) (alias_good : AliasIsGood A) (raw : RawFacts) (p : RawImpl) (at : Fill) where
  abbrev n : ℕ
  n = length p.params

  -- a hole that the key tells stands for a type, and is that of a parameter
  pub record IsFilled (k : Hole) : Type 0 where
    pub good : IsGood (at k)
    pub number : ℕ
    pub below : number < n
    pub is : k ≡ hole_of.Ty number

  args_filled : (ws : List TypeRefId) (w : Term) → Reads A at (args_at raw (holes n) ws) w → AreGood w → (k : Hole) → stands k (args_at raw (holes n) ws) ≡ true → IsFilled k
  args_filled ws w reads good k s =
      let q = args_holes raw n ws k (stands_occurs k (args_at raw (holes n) ws) s) in
      record { good = told_good A one alias_good raw n ws at w reads good k s; number = q.0; below = q.1; is = q.2 }

  abbrev Filled : Rule → Term → Type 0
  Filled r w = Reads A at r.head.parts w → IsGoodGoal r.head.kind w → (k : Hole) → stands k (key r.head.kind r.head.parts) ≡ true → IsFilled k

  trait_filled : (t : RawTraitRef) (w : Term) → Filled (trait_rule raw p t) w
  trait_filled t w reads good k s = args_filled (p.self_ ∷ arg_types t.args) w reads (record { args = good.goal; whole = good.whole }) k s

  assoc_filled : (t : RawTraitRef) (x : RawAssocType) (w : Term) → Filled (assoc_rule raw p t x) w
  assoc_filled t x w reads good k s =
      let ws = p.self_ ∷ arg_types t.args in
      let Q : Role → Type 0 = λ z. ReadsBy z A at (args_at raw (holes n) ws) (type_at raw (holes n) x.ty) w in
      let r = subst Q (args_role raw n ws) reads in
      args_filled ws r.0 r.3 (args_of_projection x.alias r.0 r.1 (subst (IsGoodGoal (projects x.alias)) r.2 good)) k s

  filled_by : (t : RawTraitRef) (r : Rule) (w : Term) → (trait_rule raw p t ≡ r) ⊎ ((x : RawAssocType) × (assoc_rule raw p t x ≡ r)) → Filled r w
  filled_by t r w (inl e) = subst (λ x. Filled x w) e (trait_filled t w)
  filled_by t r w (inr (x, e)) = subst (λ y. Filled y w) e (assoc_filled t x w)

  pub rule_filled : (i : ℕ) (r : Rule) → slice_get (impl_rules raw p) i ≡ Some r → (w : Term) → Filled r w
  rule_filled i r listed w = let q = rule_cases raw p (said_trait raw p.trait_) i r listed in filled_by q.0 r w q.1

  -- its predicates, of which each hole is told
  abbrev PredsGood : List Asked → Type 0
  PredsGood qs = Each (λ (q : Asked). ((k : Hole) → occurs k q.parts ≡ true → IsGood (at k)) → (u : Term) → Reads A at q.parts u → IsGoodGoal q.kind u) qs

  written_good : (gs : List RawGoal) → PredsGood (map (goal_at raw (holes n)) gs)
  written_good [] = tt
  written_good (g ∷ gs) = (λ h u r. pred_good A alias_good raw n at g h u r, written_good gs)

  preds_by : (t : RawTraitRef) (r : Rule) → (trait_rule raw p t ≡ r) ⊎ ((x : RawAssocType) × (assoc_rule raw p t x ≡ r)) → PredsGood r.preds
  preds_by t r (inl e) = subst (λ (x : Rule). PredsGood x.preds) e (written_good p.preds)
  preds_by t r (inr (x, e)) = subst (λ (y : Rule). PredsGood y.preds) e (written_good p.preds)

  pub preds_good : (i : ℕ) (r : Rule) → slice_get (impl_rules raw p) i ≡ Some r → PredsGood r.preds
  preds_good i r listed = let q = rule_cases raw p (said_trait raw p.trait_) i r listed in preds_by q.0 r q.1

-- ---- the arguments, as types

type_back : (o : Option Term) → IsOfType (given o) → term (type_or_unknown o) ≡ given o
type_back (Some t) is = sym (type_read_back t is)
type_back None is = absurd (no_leaf head.End is.0 is.1)

-- one for each parameter
pub fill_args_length : (l : Log) (h : Term) (n : ℕ) → length (fill_args l h n) ≡ n
fill_args_length l h n = counted_length (λ k. arg.Ty (type_or_unknown (told_fill l h (hole_of.Ty k)))) 0 n

-- what stands in the key stands in the head
key_occurs : (c : Kind) (t : Term) (k : Hole) → stands k (key c t) ≡ true → occurs k t ≡ true
key_occurs (implements i) t k s = stands_occurs k t s
key_occurs (projects i) (pair a b) k s = or_left (occurs k a) (occurs k b) (stands_occurs k a s)
key_occurs (projects i) (hole j) k s = absurd (true≢false (sym s))
key_occurs (projects i) (leaf x) k s = absurd (true≢false (sym s))

told_is : (l : Log) (h : Term) (k : Hole) → occurs k h ≡ true → told_fill l h k ≡ found l k
told_is l h k e = ap (λ (b : Bool). if b then found l k else None) e

module _ (l : Log) (c : Kind) (h : Term) (n : ℕ) (s : Fill) where
  -- for a parameter's hole that stands in the key stands its type
  pub fill_is : (k : Hole) (j : ℕ) → j < n → k ≡ hole_of.Ty j → stands k (key c h) ≡ true → IsGood (fill_of l k) → args_fill s (fill_args l h n) k ≡ fill_of l k
  fill_is k j less e st good =
      let e0 : 0 + j ≡ j = omega arith in
      let argument : ℕ → GenericArg = λ m. arg.Ty (type_or_unknown (told_fill l h (hole_of.Ty m))) in
      let P : Hole → Type 0 = λ x. stands x (key c h) ≡ true → IsGood (fill_of l x) → args_fill s (fill_args l h n) x ≡ fill_of l x in
      subst P (sym e) (λ here own.
      ap (λ o. arg_at s o (hole_of.Ty j))
      (counted_at argument 0 n j less ∙ (ap (λ m. Some (argument m)) e0 ∙ ap (λ (o : Option Term). Some (arg.Ty (type_or_unknown o))) (told_is l h (hole_of.Ty j) (key_occurs c h (hole_of.Ty j) here))))
      ∙ (ap (apply s) (type_back (found l (hole_of.Ty j)) own.type) ∙ whole_stays s (fill_of l (hole_of.Ty j)) own.whole)) st good

-- ---- what they are taken from

itself_in : (t : Term) → IsIn t t
itself_in (hole k) = refl
itself_in (leaf x) = refl
itself_in (pair a b) = inl refl

-- what a told hole stands for is part of what is read
told_in : (p : Fill) (t w : Term) → MayRead p t w → (k : Hole) → stands k t ≡ true → IsIn (p k) w
told_in p (hole j) w r k s = subst (λ x. IsIn x w) (r ∙ ap p (sym (hole_eq_true k j s))) (itself_in w)
told_in p (leaf x) w r k s = absurd (true≢false (sym s))
told_in p (pair a b) w r k s = by_role (role a) (λ v x. told_in p a v x k) (λ v x. told_in p b v x k) r s
  where
    Told : Term → Type 0
    Told t = (v : Term) → MayRead p t v → stands k t ≡ true → IsIn (p k) v

    by_role : (x : Role) → Told a → Told b → MayReadBy x p a b w → stands_by x k a b ≡ true → IsIn (p k) w
    by_role plain left right r s = elim (or_cases (stands k a) (stands k b) s) [
      | inl e ↦ subst (IsIn (p k)) (sym r.2) (inr (inl (left r.0 r.3 e)))
      | inr e ↦ subst (IsIn (p k)) (sym r.2) (inr (inr (right r.1 r.4 e)))
    ]
    by_role (alias m) left right r s = absurd (true≢false (sym s))

module _ (l : Log) (h w : Term) (reads : MayRead (fill_of l) h w) (told : IsToldBy h h) (types : (k : Hole) → stands k h ≡ true → IsOfType (fill_of l k)) where
  abbrev argument : ℕ → GenericArg
  argument j = arg.Ty (type_or_unknown (told_fill l h (hole_of.Ty j)))

  none_told : (k : Hole) → occurs k h ≡ false → told_fill l h k ≡ None
  none_told k e = ap (λ (b : Bool). if b then found l k else None) e

  taken_by : (j : ℕ) (b : Bool) → occurs (hole_of.Ty j) h ≡ b → IsTaken w (argument j)
  taken_by j false e = subst (λ (o : Option Term). IsTaken w (arg.Ty (type_or_unknown o))) (sym (none_told (hole_of.Ty j) e)) (inl refl)
  taken_by j true e =
      let k = hole_of.Ty j in
      let s = told k e in
      let is : term (type_or_unknown (found l k)) ≡ fill_of l k = type_back (found l k) (types k s) in
      subst (λ (o : Option Term). IsTaken w (arg.Ty (type_or_unknown o))) (sym (told_is l h k e)) (inr (subst (λ t. IsIn t w) (sym is) (told_in (fill_of l) h w reads k s)))

  -- each of these types is
  pub args_taken : (n j : ℕ) (x : GenericArg) → slice_get (fill_args l h n) j ≡ Some x → IsTaken w x
  args_taken n j x at =
      let less : j < n = subst (λ m. j < m) (fill_args_length l h n) (slice_get_within (fill_args l h n) j x at) in
      let e0 : 0 + j ≡ j = omega arith in
      let here : slice_get (fill_args l h n) j ≡ Some (argument j) = counted_at argument 0 n j less ∙ ap (λ m. Some (argument m)) e0 in
      subst (IsTaken w) (same_Some (argument j) x (sym here ∙ at)) (taken_by j (occurs (hole_of.Ty j) h) refl)
