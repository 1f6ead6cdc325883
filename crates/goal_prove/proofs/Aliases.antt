-- What aliases read as is right at each depth, and so are the predicates of impls.
use Rattle.std.specs.Prelude.{◌≡◌, ℕ, zero, suc, true, List, [], ◌∷◌, map, flat_map, slice_get, Some, refl}
use Rattle.std.proofs.Common.{inl, inr, sym, subst}
use Rattle.std.proofs.lemmas.Bool.{or_left, or_right}
use Rattle.goal_prove.specs.Words.{ImplId, TypeAliasId, GenericDefId, Hole, Term, hole, pair, occurs, RawGoal, RawFacts, arg_types, Fill, Aliases, Reads, projects, Rule, System, Each, OneOf, Verdicts, Gives, GivesNone, alias_next, answers, IsOne, holes, type_at, args_at, goal_at, impl_rules, ImplHasRule, fact, IsSystemOf}
use Rattle.goal_prove.specs.Words.hir_raw.declared.raw.RawGoal.TheVariants as goal
use Rattle.goal_prove.specs.Words.goal_answers.Reading.{Role}
use Rattle.goal_prove.proofs.Words.{apply_hole, ReadsBy, answers_sound, each_of_get, get_in_map, each_append, IsClosedFact, clause_closed}
use Rattle.goal_prove.specs.Own.{IsGood, AreGood, IsGoodGoal, AliasIsGood}
use Rattle.goal_prove.proofs.TypeTerms.{args_role}
use Rattle.goal_prove.proofs.Shapes.{are_args, staying_good, projection_good, type_good, args_good, holes_in, at_hole}
use Rattle.goal_prove.proofs.Sources.{clause_gives, listed_gives, impl_gives}

-- ---- lists

each_flat : {X Y : Type 0} (P : Y → Type 0) (f : X → List Y) (xs : List X) → ((i : ℕ) (x : X) → slice_get xs i ≡ Some x → Each P (f x)) → Each P (flat_map f xs)
each_flat P f [] h = tt
each_flat P f (x ∷ xs) h = each_append P (f x) (flat_map f xs) (h 0 x refl) (each_flat P f xs (λ i y at. h (suc i) y at))

-- what is so of the one is so
one_is : {X : Type 0} {Z : Type 0} (P Q T : X → Type 0) → ((x : X) → T x → P x → Z) → (xs : List X) → Each T xs → OneOf P Q xs → Z
one_is P Q T f [] t h = absurd h
one_is P Q T f (x ∷ xs) t (inl h) = f x t.0 h.0
one_is P Q T f (x ∷ xs) t (inr h) = one_is P Q T f xs t.1 h.1

module _ (raw : RawFacts) (item : GenericDefId) (f : System) (of : IsSystemOf raw item f) where
  pub clauses_closed : Each IsClosedFact f.clauses
  clauses_closed = each_of_get IsClosedFact f.clauses (λ i r at. clause_closed raw item f.clauses of.clauses i r at)

  -- ---- what sources give

  module _ (n : ℕ) (good : AliasIsGood (answers f n).Alias) where
    abbrev v : Verdicts
    v = answers f n

    one : IsOne v.Alias
    one = (answers_sound f n).one

    -- whatever the rule gives an alias is right
    abbrev GivesGood : Rule → Type 0
    GivesGood r = (k : TypeAliasId) (w u : Term) → AreGood w → Gives v k w u r → IsGood u

    clauses_give : Each GivesGood f.clauses
    clauses_give = each_of_get GivesGood f.clauses (λ i r at k w u g h. clause_gives v.Alias one good raw item f.clauses of.clauses i r at k h.kind h.at u h.type)

    impl_give : (id : ImplId) (r : Rule) → ImplHasRule raw id r → GivesGood r
    impl_give id r has k w u g h = impl_gives v.Alias one good raw id r has h.told k h.kind h.at w u g h.args h.type

    rules_give : Each GivesGood f.rules
    rules_give =
        subst (Each GivesGood) (sym of.rules.are) (each_append GivesGood (flat_map (impl_rules raw) raw.impls) (map fact of.rules.listed)
        (each_flat GivesGood (impl_rules raw) raw.impls (λ i p here. each_of_get GivesGood (impl_rules raw p) (λ j r at. impl_give (record { 0 = i }) r (p, here, (j, at)))))
        (each_of_get GivesGood (map fact of.rules.listed) (λ i r at.
        let d = get_in_map fact of.rules.listed i r at in
        subst GivesGood d.2 (λ k w u g h. listed_gives v.Alias one good raw raw.limits.goal_depth d.0 (of.rules.closed.only i d.0 d.1) k h.kind h.at w u g h.args h.type))))

    given_good : (rs : List Rule) → Each GivesGood rs → (k : TypeAliasId) (w u : Term) → AreGood w → OneOf (Gives v k w u) (GivesNone v k w) rs → IsGood u
    given_good rs h k w u g a = one_is (Gives v k w u) (GivesNone v k w) GivesGood (λ r x y. x k w u g y) rs h a

    next_good : AliasIsGood (alias_next f v)
    next_good k w u (known, inl a) g = given_good f.clauses clauses_give k w u g a
    next_good k w u (known, inr (none, inl a)) g = given_good f.rules rules_give k w u g a
    next_good k w u (known, inr (none, inr (rest, e))) g = subst IsGood (sym e) (staying_good k w g)

  pub aliases_good : (n : ℕ) → AliasIsGood (answers f n).Alias
  aliases_good zero k w u a g = subst IsGood (sym a.3) (staying_good k w g)
  aliases_good (suc n) k w u a g = next_good n (aliases_good n) k w u a g

-- ---- predicates of impls

module _ (A : Aliases) (alias_good : AliasIsGood A) (raw : RawFacts) (n : ℕ) (at : Fill) where
  abbrev Stand : Term → Fill → Type 0
  Stand t z = (j : Hole) → occurs j t ≡ true → IsGood (z j)

  at_types : (ws : List _) (t : Term) → ((j : Hole) → occurs j (args_at raw (holes n) ws) ≡ true → occurs j t ≡ true) → Stand t at → (u : Term) → Reads A at (args_at raw (holes n) ws) u → AreGood u
  at_types ws t more stand u r =
      are_args u (args_good A alias_good (Stand t) hole raw (holes n) (holes_in A alias_good (Stand t) hole n) ws (λ j o z c v e. subst IsGood (sym e) (c j (more j o))) at stand u
      (subst (λ x. Reads A at x u) (sym (apply_hole (args_at raw (holes n) ws))) r))

  -- a predicate of an impl reads as a goal about types where types stand for its holes
  pub pred_good : (g : RawGoal) → Stand (goal_at raw (holes n) g).parts at → (u : Term) → Reads A at (goal_at raw (holes n) g).parts u → IsGoodGoal (goal_at raw (holes n) g).kind u
  pred_good (goal.Trait r) stand u reads = let q = at_types (arg_types r.args) (args_at raw (holes n) (arg_types r.args)) (λ j o. o) stand u reads in record { goal = q.args; whole = q.whole }
  pred_good (goal.Projection k ws w) stand u reads =
      let xs = args_at raw (holes n) (arg_types ws) in
      let t = type_at raw (holes n) w in
      let Q : Role → Type 0 = λ z. ReadsBy z A at xs t u in
      let r = subst Q (args_role raw n (arg_types ws)) reads in
      let args = at_types (arg_types ws) (pair xs t) (λ j o. or_left (occurs j xs) (occurs j t) o) stand r.0 r.3 in
      let C = Stand (pair xs t) in
      let type = at_hole A alias_good C t (type_good A alias_good C hole raw (holes n) (holes_in A alias_good C hole n) w (λ j o z c v e. subst IsGood (sym e) (c j (or_right (occurs j xs) (occurs j t) o)))) at stand r.1 r.4 in
      subst (IsGoodGoal (projects k)) (sym r.2) (projection_good k r.0 r.1 args type)
