-- What the parts of a self type and the predicates of a rule are made of.
use Rattle.std.proofs.Common.{ℕ, sym, subst, List, [], ◌∷◌, map, slice_get}
use Rattle.goal_select.specs.Words.{TraitId, Hole, AliasBound, GenericArg, TraitRef, out-TraitRef, Ty, Ty-F, out-Ty, in_ty, Term, hole, leaf, pair, chain, apply, type_part, arg_term, ty_step, term, terms, arg_term_type, Shape, whole, part, rest, IsMadeOf, made_of_apply, Kind, implements, projects, Asked, asked_at, args_of, key, Each, trait_goal, asked_goal, fresh}
use Rattle.hir_types.specs.declared.head.Hole.TheVariants as hole_of
use Rattle.hir_types.specs.declared.ty.GenericArg.TheVariants as arg
use Rattle.goal_select.specs.Own.{only_goal, part_types, self_part_goals, HasHeadsOf, HasHeadsIfConcrete}
use Rattle.goal_select.proofs.Heads.{concrete_within}
use Rattle.goal_select.proofs.PartSteps.{first_types, type_is, goals_are}

module _ (P : Shape) where
  -- ---- parts

  abbrev AreTypesOf : List Ty → Type 0
  AreTypesOf = Each (λ t. IsMadeOf P whole (term t))

  chain_types : (ts : List Ty) → IsMadeOf P rest (chain (map type_part (map term ts))) → AreTypesOf ts
  chain_types [] made = tt
  chain_types (t ∷ ts) made = (made.0.1, chain_types ts made.1)

  step_types : (x : Ty-F GenericArg Ty AliasBound TraitRef) → IsMadeOf P whole (ty_step (in_ty terms x)) → AreTypesOf (part_types x)
  step_types (Ty-F.Tuple ts) made = chain_types ts made.1
  step_types (Ty-F.Array t c) made = (made.1.0.1, tt)
  step_types _ made = tt

  first_made : (xs : List GenericArg) → IsMadeOf P rest (chain (map arg_term xs)) → AreTypesOf (first_types (slice_get xs 0))
  first_made [] made = tt
  first_made (arg.Ty t ∷ xs) made = step_types (out-Ty t) (subst (IsMadeOf P whole) (type_is t) (subst (IsMadeOf P part) (arg_term_type t) made.0).1)
  first_made (arg.Const c ∷ xs) made = tt

  goals_made : (id : TraitId) (ts : List Ty) → AreTypesOf ts → Each (λ q. HasHeadsIfConcrete P (asked_goal q)) (map (only_goal id) ts)
  goals_made id [] made = tt
  goals_made id (t ∷ ts) made = (λ is concrete. (subst (IsMadeOf P part) (sym (arg_term_type t)) (tt, made.0), tt), goals_made id ts made.1)

  pub part_heads : (k : TraitRef) → HasHeadsOf P (trait_goal k) → Each (λ q. HasHeadsIfConcrete P (asked_goal q)) (self_part_goals k)
  part_heads k made =
      let id = (out-TraitRef k).id in
      let first = slice_get (out-TraitRef k).args 0 in
      subst (Each (λ q. HasHeadsIfConcrete P (asked_goal q))) (sym (goals_are id first)) (goals_made id (first_types first) (first_made (out-TraitRef k).args made))

  -- ---- at fresh holes

  fresh_made : (first : ℕ) (k : Hole) → IsMadeOf P whole (fresh first k)
  fresh_made first (hole_of.Ty n) = tt
  fresh_made first (hole_of.Int n) = tt
  fresh_made first (hole_of.Const n) = tt

  fresh_key : (first : ℕ) (k : Hole) → IsMadeOf P rest (args_of (fresh first k))
  fresh_key first (hole_of.Ty n) = tt
  fresh_key first (hole_of.Int n) = tt
  fresh_key first (hole_of.Const n) = tt

  key_made : (first : ℕ) (c : Kind) (t : Term) → IsMadeOf P rest (key c t) → IsMadeOf P rest (key c (apply (fresh first) t))
  key_made first (implements id) t made = made_of_apply P (fresh first) rest t (fresh_made first) made
  key_made first (projects id) (hole k) made = fresh_key first k
  key_made first (projects id) (leaf g) made = tt
  key_made first (projects id) (pair a b) made = made_of_apply P (fresh first) rest a (fresh_made first) made

  pub fresh_heads : (first : ℕ) (q : Asked) → HasHeadsOf P q → HasHeadsOf P (asked_at (fresh first) q)
  fresh_heads first q made = key_made first q.kind q.parts made

  pub fresh_if_concrete : (first : ℕ) (q : Asked) → HasHeadsIfConcrete P q → HasHeadsIfConcrete P (asked_at (fresh first) q)
  fresh_if_concrete first q made = λ is concrete. fresh_heads first q (made is (concrete_within (fresh first) q.parts concrete))
