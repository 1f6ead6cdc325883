-- What sources say of aliases is right, at arguments that are.
use Rattle.std.specs.Prelude.{◌≡◌, ◌+◌, ◌<◌, ℕ, zero, suc, true, List, [], ◌∷◌, length, map, slice_get, Option, Some, None, refl}
use Rattle.std.specs.List.{range_with_len}
use Rattle.std.proofs.Common.{inl, inr, sym, ap, ap₂, ◌∙◌, subst, arith}
use Rattle.std.proofs.lemmas.Bool.{or_left, or_right}
use Rattle.std.proofs.lemmas.Option.{same_Some}
use Rattle.goal_prove.specs.Words.{ImplId, TypeAliasId, TypeRefId, GenericDefId, Hole, GenericArg, with_params, Term, hole, leaf, pair, node, chain, apply, occurs, hole_number, type_part, term, arg_term, arg_term_type, term_error, term_var, hole_eq_same, pair_left, pair_right, RawGoal, RawTraitRef, RawAssocType, RawImpl, RawFacts, arg_types, count_or_none, params_in_trait, generic_params, Fill, staying, Aliases, Reads, stands, Kind, implements, projects, Asked, Rule, asked_at, args_of, type_of, key, self_type, IsOne, IsNth, holes, own_params, type_at, args_at, goal_at, own_clause, IsStated, trait_holes, IsSuper, BoundSays, IsListed, trait_rule, assoc_rule, rules_for, said_trait, HasHolesBelow, ImplHasRule, fact, ClausesAre}
use Rattle.hir_types.specs.declared.head.Head.TheVariants as head
use Rattle.hir_types.specs.declared.head.Hole.TheVariants as hole_of
use Rattle.hir_types.specs.declared.ty.GenericArg.TheVariants as arg
use Rattle.hir_types.specs.declared.ty.Ty.TheVariants as ty
use Rattle.goal_prove.specs.Words.hir_raw.declared.raw.RawGoal.TheVariants as goal
use Rattle.goal_prove.specs.Words.goal_answers.Goals.{IsTold}
use Rattle.goal_prove.proofs.Words.{apply_hole, reads_one, reads_may, reads_agree, occurs_type, get_in_map, args_holes, goal_holes, clause_closed, counted_at, args_are}
use Rattle.goal_prove.specs.Words.goal_facts.Environment.{Follows}
use Rattle.goal_prove.specs.Own.{IsOfType, AreOfArgs, IsGood, AreGood, AliasIsGood}
use Rattle.goal_prove.proofs.Holes.{may_whole}
use Rattle.goal_prove.proofs.TypeTerms.{arg_type, associated_args}
use Rattle.goal_prove.proofs.Told.{args_tell}
use Rattle.goal_prove.proofs.Shapes.{IsGoodIn, IsGoodAt, staying_good, type_good, holes_in, own_in, param_good, at_hole}

-- ---- the self type of a goal

self_occurs : (k : Hole) (t : Term) → self_type t ≡ hole k → occurs k t ≡ true
self_occurs k (pair (pair m x) b) e =
    let here : occurs k x ≡ true = ap (occurs k) e ∙ hole_eq_same k in
    or_left (occurs k (pair m x)) (occurs k b) (or_right (occurs k m) (occurs k x) here)
self_occurs k (pair (leaf x) b) e = cc
self_occurs k (pair (hole j) b) e = cc
self_occurs k (leaf x) e = cc
self_occurs k (hole j) e = cc

key_occurs : (c : Kind) (k : Hole) (t : Term) → self_type (key c t) ≡ hole k → occurs k t ≡ true
key_occurs (implements n) k t e = self_occurs k t e
key_occurs (projects m) k (pair a b) e = or_left (occurs k a) (occurs k b) (self_occurs k a e)
key_occurs (projects m) k (leaf x) e = cc
key_occurs (projects m) k (hole j) e = cc

-- the first of the arguments is this type
abbrev IsFirst : Term → Term → Type 0
IsFirst t w = (rest : Term) × (w ≡ pair (type_part t) rest)

nth_first : (t w u : Term) → IsFirst t w → IsNth 0 w u → u ≡ t
nth_first t w u (rest, e) h = let here : IsNth 0 (pair (type_part t) rest) u = subst (λ x. IsNth 0 x u) e h in here

chain_first : {X : Type 0} (p : Fill) (f : X → Term) (xs : List X) (k : Hole) (t : Term) → self_type (chain (map (λ x. type_part (f x)) xs)) ≡ hole k → p k ≡ t → IsFirst t (apply p (chain (map (λ x. type_part (f x)) xs)))
chain_first p f [] k t e q = cc
chain_first p f (x ∷ xs) k t e q = (apply p (chain (map (λ x. type_part (f x)) xs)), ap (λ z. pair (type_part z) (apply p (chain (map (λ x. type_part (f x)) xs)))) (ap (apply p) e ∙ q))

said_first : (raw : RawFacts) (xs : List GenericArg) (p : Fill) (ws : List TypeRefId) (t : Term) → self_type (args_at raw xs ws) ≡ hole (hole_of.Ty 0) → p (hole_of.Ty 0) ≡ t → IsFirst t (apply p (args_at raw xs ws))
said_first raw xs p ws t e q =
    let is = args_are raw xs ws in
    subst (λ y. IsFirst t (apply p y)) (sym is) (chain_first p (type_at raw xs) ws (hole_of.Ty 0) t (subst (λ y. self_type y ≡ hole (hole_of.Ty 0)) is e) q)

goal_first : (raw : RawFacts) (xs : List GenericArg) (p : Fill) (g : RawGoal) (t : Term) → self_type (key (goal_at raw xs g).kind (goal_at raw xs g).parts) ≡ hole (hole_of.Ty 0) → p (hole_of.Ty 0) ≡ t
    → IsFirst t (key (goal_at raw xs g).kind (apply p (goal_at raw xs g).parts))
goal_first raw xs p (goal.Trait r) t e q = said_first raw xs p (arg_types r.args) t e q
goal_first raw xs p (goal.Projection k ws w) t e q = said_first raw xs p (arg_types ws) t e q

-- what is said of `Self` is said of the first argument
super_first : (raw : RawFacts) (c d : Asked) (t : Term) → IsSuper raw c d → IsFirst t (key c.kind c.parts) → IsFirst t (key d.kind d.parts)
super_first raw c d t s h =
    let says = s.says.3 in
    let xs = trait_holes raw s.trait_ in
    let g = goal_at raw xs s.says.1 in
    let own : IsFirst t c.parts = subst (λ x. IsFirst t (key x c.parts)) s.kind h in
    let self = nth_first t c.parts (says.1 (hole_of.Ty 0)) own (says.2 (hole_of.Ty 0) (key_occurs g.kind (hole_of.Ty 0) g.parts says.0)) in
    subst (λ (x : Asked). IsFirst t (key x.kind x.parts)) (sym says.3) (goal_first raw xs says.1 s.says.1 t says.0 self)

follows_first : (raw : RawFacts) (b : Asked) (t : Term) → IsFirst t (key b.kind b.parts) → (n : ℕ) (d : Asked) → Follows raw (λ x. x ≡ b) n d → IsFirst t (key d.kind d.parts)
follows_first raw b t h zero d f = subst (λ (x : Asked). IsFirst t (key x.kind x.parts)) (sym f) h
follows_first raw b t h (suc n) d (inl f) = follows_first raw b t h n d f
follows_first raw b t h (suc n) d (inr (c, f, s)) = super_first raw c d t s (follows_first raw b t h n c f)

-- what follows does so from one
follows_from : (raw : RawFacts) (F : Asked → Type 0) (n : ℕ) (d : Asked) → Follows raw F n d → (b : Asked) × F b × Follows raw (λ x. x ≡ b) n d
follows_from raw F zero d f = (d, f, refl)
follows_from raw F (suc n) d (inl f) = let q = follows_from raw F n d f in (q.0, q.1, inl q.2)
follows_from raw F (suc n) d (inr (c, f, s)) = let q = follows_from raw F n c f in (q.0, q.1, inr (c, q.2, s))

-- ---- the parts of goals

-- the type at a place of written arguments
nth_written : {X : Type 0} (p : Fill) (f : X → Term) (xs : List X) (j : ℕ) (u : Term) → IsNth j (apply p (chain (map (λ x. type_part (f x)) xs))) u
    → (x : X) × (u ≡ apply p (f x)) × ((k : Hole) → occurs k (f x) ≡ true → occurs k (chain (map (λ x. type_part (f x)) xs)) ≡ true)
nth_written p f [] zero u h = absurd h
nth_written p f [] (suc j) u h = absurd h
nth_written p f (x ∷ xs) zero u h = (x, h, λ k o. or_left (occurs k (f x)) (occurs k (chain (map (λ x. type_part (f x)) xs))) o)
nth_written p f (x ∷ xs) (suc j) u h =
    let q = nth_written p f xs j u h in
    (q.0, q.1, λ k o. or_right (occurs k (f x)) (occurs k (chain (map (λ x. type_part (f x)) xs))) (q.2 k o))

module _ (A : Aliases) (alias_good : AliasIsGood A) (C : Fill → Type 0) where
  -- each argument of the goal, and the type of a projection, is a type where it is read
  pub record IsGoodFact (d : Asked) : Type 0 where
    pub args : (j : ℕ) (u : Term) → IsNth j (key d.kind d.parts) u → IsGoodIn A alias_good C hole u
    pub type : (k : TypeAliasId) → d.kind ≡ projects k → IsGoodIn A alias_good C hole (type_of d.parts)

  module _ (raw : RawFacts) (p : Fill) (xs : List GenericArg) (params : (m : ℕ) → IsGoodAt A alias_good C p (term ((with_params xs).param m))) where
    pub arg_good : (ws : List TypeRefId) → ((k : Hole) → occurs k (args_at raw xs ws) ≡ true → IsGoodIn A alias_good C p (p k)) → (j : ℕ) (u : Term) → IsNth j (apply p (args_at raw xs ws)) u → IsGoodIn A alias_good C hole u
    arg_good ws holes j u h =
        let is = args_are raw xs ws in
        let q = nth_written p (type_at raw xs) ws j u (subst (λ t. IsNth j (apply p t) u) is h) in
        subst (IsGoodIn A alias_good C hole) (sym q.1)
        (type_good A alias_good C p raw xs params q.0 (λ k o. holes k (subst (λ t. occurs k t ≡ true) (sym is) (q.2 k o))))

    pub goal_good : (g : RawGoal) → ((k : Hole) → occurs k (goal_at raw xs g).parts ≡ true → IsGoodIn A alias_good C p (p k)) → IsGoodFact (asked_at p (goal_at raw xs g))
    goal_good (goal.Trait r) holes = record { args = arg_good (arg_types r.args) holes; type = λ k e. cc }
    goal_good (goal.Projection k ws w) holes = record {
      args = arg_good (arg_types ws) (λ j o. holes j (or_left (occurs j (args_at raw xs (arg_types ws))) (occurs j (type_at raw xs w)) o));
      type = λ j e. type_good A alias_good C p raw xs params w (λ i o. holes i (or_right (occurs i (args_at raw xs (arg_types ws))) (occurs i (type_at raw xs w)) o));
    }

  -- what follows along supertraits
  super_good : (raw : RawFacts) (c d : Asked) → IsGoodFact c → IsSuper raw c d → IsGoodFact d
  super_good raw c d h s =
      let says = s.says.3 in
      let args : (j : ℕ) (u : Term) → IsNth j c.parts u → IsGoodIn A alias_good C hole u = subst (λ x. (j : ℕ) (u : Term) → IsNth j (key x c.parts) u → IsGoodIn A alias_good C hole u) s.kind h.args in
      subst IsGoodFact (sym says.3)
      (goal_good raw says.1 (trait_holes raw s.trait_) (holes_in A alias_good C says.1 (count_or_none (params_in_trait raw s.trait_))) s.says.1
      (λ k o. args (hole_number k) (says.1 k) (says.2 k o)))

  pub follows_good : (raw : RawFacts) (F : Asked → Type 0) → ((d : Asked) → F d → IsGoodFact d) → (n : ℕ) (d : Asked) → Follows raw F n d → IsGoodFact d
  follows_good raw F h zero d f = h d f
  follows_good raw F h (suc n) d (inl f) = follows_good raw F h n d f
  follows_good raw F h (suc n) d (inr (c, f, s)) = super_good raw c d (follows_good raw F h n c f) s

-- ---- arguments that are read

pub split_args : (v z : Term) → AreOfArgs (pair (type_part v) z) → IsOfType v × AreOfArgs z
split_args v z ([], e) = cc
split_args v z (a ∷ rest, e) = (arg_type v a (pair_left e), (rest, pair_right e))

holes_are : (ks : List ℕ) → chain (map arg_term (map (λ k. arg.Ty (ty.Var k)) ks)) ≡ chain (map type_part (map (λ k. hole (hole_of.Ty k)) ks))
holes_are [] = refl
holes_are (k ∷ ks) = ap₂ pair (arg_term_type (ty.Var k) ∙ ap type_part (term_var k)) (holes_are ks)

params_are : (ks : List ℕ) → chain (map arg_term (map (λ k. arg.Ty (ty.Param k)) ks)) ≡ chain (map (λ k. type_part (term (ty.Param k))) ks)
params_are [] = refl
params_are (k ∷ ks) = ap₂ pair (arg_term_type (ty.Param k)) (params_are ks)

module _ (A : Aliases) (one : IsOne A) (alias_good : AliasIsGood A) where
  nth_good : (ts : List Term) (p : Fill) (x : Term) → Reads A p (chain (map type_part ts)) x → AreGood x → (j : ℕ) (t : Term) → slice_get ts j ≡ Some t → (v : Term) × Reads A p t v × IsGood v
  nth_good [] p x r g j t e = cc
  nth_good (y ∷ ts) p x r g j t e =
      let part = r.3 in
      let is : x ≡ pair (type_part part.1) r.1 = r.2 ∙ ap (λ z. pair z r.1) (part.2 ∙ ap (λ z. pair z part.1) part.3.1) in
      let both = subst AreGood is g in
      let types = split_args part.1 r.1 both.args in
      by_place j t e part.1 part.4 (record { type = types.0; whole = both.whole.0.1 }) (nth_good ts p r.1 r.4 (record { args = types.1; whole = both.whole.1 }))
    where
      by_place : (j : ℕ) (t : Term) → slice_get (y ∷ ts) j ≡ Some t → (v : Term) → Reads A p y v → IsGood v → ((i : ℕ) (t : Term) → slice_get ts i ≡ Some t → (v : Term) × Reads A p t v × IsGood v) → (v : Term) × Reads A p t v × IsGood v
      by_place zero t e v r g more = (v, subst (λ z. Reads A p z v) (same_Some y t e) r, g)
      by_place (suc i) t e v r g more = more i t e

  -- ---- clauses

  abbrev Filled : Fill → Type 0
  Filled p = (k : Hole) → IsGood (p k)

  filled_hole : (k : Hole) → IsGoodIn A alias_good Filled hole (hole k)
  filled_hole k p c u r = subst IsGood (sym r) (c k)

  own_good : (n : ℕ) (t : _) → IsGoodFact A alias_good Filled (own_clause n t)
  own_good n t = record {
    args = λ j u h.
        let is = params_are (range_with_len 0 n) in
        let q = nth_written hole (λ k. term (ty.Param k)) (range_with_len 0 n) j u (subst (λ x. IsNth j x u) (is ∙ sym (apply_hole (chain (map (λ k. type_part (term (ty.Param k))) (range_with_len 0 n))))) h) in
        subst (IsGoodIn A alias_good Filled hole) (sym (q.1 ∙ apply_hole (term (ty.Param q.0)))) (param_good A alias_good Filled hole q.0);
    type = λ k e. cc;
  }

  stated_good : (raw : RawFacts) (item : GenericDefId) (d : Asked) → IsStated raw item d → IsGoodFact A alias_good Filled d
  stated_good raw item d (inl (t, at, e)) = subst (IsGoodFact A alias_good Filled) (sym e) (own_good (generic_params raw item) t)
  stated_good raw item d (inr (i, g, at, e)) =
      let xs = own_params (generic_params raw item) in
      let same : asked_at hole (goal_at raw xs g) ≡ goal_at raw xs g = λ i. record { kind = (goal_at raw xs g).kind; parts = apply_hole (goal_at raw xs g).parts i } in
      subst (IsGoodFact A alias_good Filled) (same ∙ sym e) (goal_good A alias_good Filled raw hole xs (own_in A alias_good Filled hole (generic_params raw item)) g (λ k o. filled_hole k))

  error_good : IsGood (node head.Error [])
  error_good = record { type = (ty.Error, sym term_error); whole = (tt, tt) }

  -- what a clause gives
  pub clause_gives : (raw : RawFacts) (item : GenericDefId) (rs : List Rule) → ClausesAre raw item rs → (i : ℕ) (r : Rule) → slice_get rs i ≡ Some r → (k : TypeAliasId) → r.head.kind ≡ projects k
      → (at : Fill) (u : Term) → Reads A at (type_of r.head.parts) u → IsGood u
  clause_gives raw item rs are i r here k kind at u reads =
      let d = get_in_map fact are.stated i r (subst (λ xs. slice_get xs i ≡ Some r) are.are here) in
      let good = follows_good A alias_good Filled raw (IsStated raw item) (stated_good raw item) raw.limits.goal_depth d.0 (are.closed.only i d.0 d.1) in
      let whole = subst (λ (x : Rule). IsGoodFact A alias_good Filled x.head) d.2 good in
      let none = (clause_closed raw item rs are i r here).head in
      whole.type k kind (λ j. node head.Error []) (λ j. error_good) u
      (reads_agree A at (λ j. node head.Error []) (type_of r.head.parts) u (λ j o. absurd (none j (occurs_type j r.head.parts o))) reads)

  -- ---- listed bounds

  -- the self type reads as an alias that stays
  record IsSelfAt (a : TypeAliasId) (b : Term) (p : Fill) : Type 0 where
    args : Term
    reads : Reads A p b args
    good : AreGood args

  module _ (raw : RawFacts) (a : TypeAliasId) (n : ℕ) where
    abbrev own : Term
    own = chain (map arg_term (holes n))

    abbrev At : Fill → Type 0
    At = IsSelfAt a own

    hole_good : (j : ℕ) → j < n → IsGoodIn A alias_good At hole (hole (hole_of.Ty j))
    hole_good j less p c u r =
        let e : 0 + j ≡ j = omega arith in
        let q = nth_good (map (λ k. hole (hole_of.Ty k)) (range_with_len 0 n)) p c.args (subst (λ t. Reads A p t c.args) (holes_are (range_with_len 0 n)) c.reads) c.good j (hole (hole_of.Ty j)) (counted_at (λ k. hole (hole_of.Ty k)) 0 n j less ∙ ap (λ k. Some (hole (hole_of.Ty k))) e) in
        subst IsGood (q.1 ∙ sym r) q.2

    below_good : (t : Term) → HasHolesBelow n t → (k : Hole) → occurs k t ≡ true → IsGoodIn A alias_good At hole (hole k)
    below_good t h k o = let q = h k o in subst (λ x. IsGoodIn A alias_good At hole (hole x)) (sym q.2) (hole_good q.0 q.1)

    self_good : IsGoodIn A alias_good At hole (staying a own)
    self_good p c u r =
        let same : r.1 ≡ c.args = reads_one A one p own r.1 c.args r.4 c.reads in
        let is : u ≡ staying a c.args = r.2 ∙ ap₂ pair r.3.1 same in
        subst IsGood (sym is) (staying_good a c.args c.good)

    listed_arg : (ws : List TypeRefId) (j : ℕ) (u : Term) → IsNth j (pair (type_part (staying a own)) (args_at raw (holes n) ws)) u → IsGoodIn A alias_good At hole u
    listed_arg ws zero u h = subst (IsGoodIn A alias_good At hole) (sym h) self_good
    listed_arg ws (suc j) u h =
        arg_good A alias_good At raw hole (holes n) (holes_in A alias_good At hole n) ws (below_good (args_at raw (holes n) ws) (args_holes raw n ws)) j u
        (subst (λ t. IsNth j t u) (sym (apply_hole (args_at raw (holes n) ws))) h)

    listed_type : (g : RawGoal) (w : TypeRefId) → HasHolesBelow n (type_at raw (holes n) w) → IsGoodIn A alias_good At hole (type_at raw (holes n) w)
    listed_type g w h = at_hole A alias_good At (type_at raw (holes n) w) (type_good A alias_good At hole raw (holes n) (holes_in A alias_good At hole n) w (below_good (type_at raw (holes n) w) h))

    bound_good : (g : RawGoal) (d : Asked) → BoundSays raw a (holes n) g d → IsGoodFact A alias_good At d
    bound_good (goal.Trait r) d h = subst (IsGoodFact A alias_good At) (sym h.4) (record { args = listed_arg h.1; type = λ k e. cc })
    bound_good (goal.Projection m ws w) d h = subst (IsGoodFact A alias_good At) (sym h.4) (record {
      args = listed_arg h.1;
      type = λ k e. listed_type (goal.Projection m ws w) w (λ j o. goal_holes raw n (goal.Projection m ws w) j (or_right (occurs j (args_at raw (holes n) (arg_types ws))) (occurs j (type_at raw (holes n) w)) o));
    })

    bound_first : (g : RawGoal) (d : Asked) → BoundSays raw a (holes n) g d → IsFirst (staying a own) (key d.kind d.parts)
    bound_first (goal.Trait r) d h = subst (λ (x : Asked). IsFirst (staying a own) (key x.kind x.parts)) (sym h.4) (args_at raw (holes n) h.1, refl)
    bound_first (goal.Projection m ws w) d h = subst (λ (x : Asked). IsFirst (staying a own) (key x.kind x.parts)) (sym h.4) (args_at raw (holes n) h.1, refl)

    -- where the arguments read as such that are right, the self type does
    self_is : (key_ w : Term) → IsFirst (staying a own) key_ → (p : Fill) → Reads A p key_ w → AreGood w → At p
    self_is key_ w (rest, e) p reads good =
        let r = subst (λ t. Reads A p t w) e reads in
        let part = r.3 in
        let alias = part.4 in
        let x = alias.1 in
        let self : part.1 ≡ staying a x = alias.2 ∙ ap (λ z. pair z x) alias.3.1 in
        let is : w ≡ pair (type_part (staying a x)) r.1 = r.2 ∙ ap (λ z. pair z r.1) (part.2 ∙ ap₂ pair part.3.1 self) in
        let both = subst AreGood is good in
        let type = (split_args (staying a x) r.1 both.args).0 in
        record {
          args = x;
          reads = alias.4;
          good = record { args = associated_args a type.0 x type.1; whole = both.whole.0.1.1 };
        }

  -- what a listed bound gives
  pub listed_gives : (raw : RawFacts) (n : ℕ) (d : Asked) → Follows raw (IsListed raw) n d → (k : TypeAliasId) → d.kind ≡ projects k → (at : Fill) (w u : Term) → AreGood w → Reads A at (args_of d.parts) w → Reads A at (type_of d.parts) u → IsGood u
  listed_gives raw n d f k kind at w u good args reads =
      let q = follows_from raw (IsListed raw) n d f in
      let a = q.1.1 in
      let says = q.1.3 in
      let m = count_or_none (params_in_trait raw a.trait_) in
      let g = says.2.1 in
      let bound = says.2.3 in
      let fact_ = follows_good A alias_good (At raw says.0 m) raw (λ x. x ≡ q.0) (λ c e. subst (IsGoodFact A alias_good (At raw says.0 m)) (sym e) (bound_good raw says.0 m g q.0 bound)) n d q.2 in
      let first = subst (λ c. IsFirst (staying says.0 (own raw says.0 m)) (key c d.parts)) kind (follows_first raw q.0 (staying says.0 (own raw says.0 m)) (bound_first raw says.0 m g q.0 bound) n d q.2) in
      fact_.type k kind at (self_is raw says.0 m (args_of d.parts) w first at args good) u reads

  -- ---- impls

  rule_of_alias : (raw : RawFacts) (p : RawImpl) (o : Option RawTraitRef) (i : ℕ) (r : Rule) → slice_get (rules_for raw p o) i ≡ Some r → (k : TypeAliasId) → r.head.kind ≡ projects k → (t : RawTraitRef) × (x : RawAssocType) × (assoc_rule raw p t x ≡ r)
  rule_of_alias raw p None i r at k e = cc
  rule_of_alias raw p (Some t) zero r at k e = let clash = ap (λ (x : Rule). x.head.kind) (same_Some (trait_rule raw p t) r at) ∙ e in cc
  rule_of_alias raw p (Some t) (suc i) r at k e = let q = get_in_map (assoc_rule raw p t) p.types i r at in (t, q.0, q.2)

  -- what the holes of an impl's rule stand for where its arguments read so
  pub told_good : (raw : RawFacts) (n : ℕ) (ws : List TypeRefId) (at : Fill) (w : Term) → Reads A at (args_at raw (holes n) ws) w → AreGood w → (k : Hole) → stands k (args_at raw (holes n) ws) ≡ true → IsGood (at k)
  told_good raw n ws at w reads good k s =
      let may = reads_may A at (args_at raw (holes n) ws) w reads in
      record {
        type = args_tell raw n at ws w may good.args k s;
        whole = may_whole at (args_at raw (holes n) ws) w may good.whole k s;
      }

  pub impl_gives : (raw : RawFacts) (id : ImplId) (r : Rule) → ImplHasRule raw id r → IsTold r → (k : TypeAliasId) → r.head.kind ≡ projects k → (at : Fill) (w u : Term) → AreGood w → Reads A at (args_of r.head.parts) w → Reads A at (type_of r.head.parts) u → IsGood u
  impl_gives raw id r (p, here, (i, listed)) told k kind at w u good args reads =
      let q = rule_of_alias raw p (said_trait raw p.trait_) i r listed k kind in
      let n = length p.params in
      let ws = p.self_ ∷ arg_types q.0.args in
      let own : IsTold (assoc_rule raw p q.0 q.1) = subst IsTold (sym q.2) told in
      let there = subst (λ (x : Rule). Reads A at (args_of x.head.parts) w) (sym q.2) args in
      let type = subst (λ (x : Rule). Reads A at (type_of x.head.parts) u) (sym q.2) reads in
      let t = type_at raw (holes n) q.1.ty in
      let C : Fill → Type 0 = λ z. (j : Hole) → occurs j t ≡ true → IsGood (z j) in
      let stand : C at = λ j o. told_good raw n ws at w there good j (own.head j (or_right (occurs j (args_at raw (holes n) ws)) (occurs j t) o)) in
      at_hole A alias_good C t (type_good A alias_good C hole raw (holes n) (holes_in A alias_good C hole n) q.1.ty (λ j o z c v r. subst IsGood (sym r) (c j o))) at stand u type
