-- Whether two types unify: what is found out of their holes, and what becomes of the associated types in them.
use Rattle.std.specs.Prelude.{◌≡◌, ◌⊎◌, ℕ, Bool, true, false, IsTrue, List, [], ◌∷◌, slice_get, Some}
use Rattle.infer_unify.specs.Words.{GenericDefId, Hole, Ty, Term, hole, pair, apply, term, RawFacts, Log, resolved, Respects, Solves, Triangular, Unified, NoneUnifies, Aliases, alias_at, ReadsAs, projects, Asked, System, Each, SomeOf, Verdicts, answers, IsSystemOf}
use Rattle.hir_types.specs.declared.head.Hole.TheVariants as hole_of
use Rattle.infer_unify.specs.declared.unification.Unification.{Unification}
use Rattle.infer_unify.specs.declared.unification.Unification.TheVariants as unification
use Rattle.infer_unify.specs.Opening.{Alias, AreOpened}

-- ---- what is found out

-- the associated type, with what is known of its holes
abbrev pub known_alias : Log → Alias → Term
known_alias l p = resolved l (alias_at p.alias p.args)

-- the goal that it is what its hole stands for, with what is known of holes
abbrev pub goal_of : Log → Alias → Asked
goal_of l p = record { kind = projects p.alias; parts = resolved l (pair p.args (hole (hole_of.Ty p.hole))) }

-- it reads as a type, with what is known of its holes, and its hole was made equal with that
pub record IsStepOf (A : Aliases) (p : Alias) (l l' : Log) : Type 0 where
  pub type : Term
  pub reads : ReadsAs A (known_alias l p) type
  pub unified : Unified l l' (hole (hole_of.Ty p.hole)) type

-- or nothing makes its hole equal with that
pub record IsNoStepOf (A : Aliases) (p : Alias) (l : Log) : Type 0 where
  pub type : Term
  pub reads : ReadsAs A (known_alias l p) type
  pub none : NoneUnifies l (hole (hole_of.Ty p.hole)) type

-- of one of these
abbrev pub IsStep : Aliases → List Alias → Log → Log → Type 0
IsStep A ps l l' = (i : ℕ) × (p : Alias) × (slice_get ps i ≡ Some p) × IsStepOf A p l l'

abbrev pub IsNoStep : Aliases → List Alias → Log → Type 0
IsNoStep A ps l = (i : ℕ) × (p : Alias) × (slice_get ps i ≡ Some p) × IsNoStepOf A p l

-- one step after another, each to its bindings, the last to these
abbrev pub AreSteps : Aliases → List Alias → List Log → Log → Log → Type 0
AreSteps A ps [] l l' = l' ≡ l
AreSteps A ps (m ∷ ms) l l' = IsStep A ps l m × AreSteps A ps ms m l'

-- the two terms were made equal, by as few bindings as do it, and then holes with what their associated types read as
pub record IsFound (A : Aliases) (ps : List Alias) (a b : Term) (l : Log) : Type 0 where
  pub first : Log
  pub unified : Unified [] first a b
  pub states : List Log
  pub steps : AreSteps A ps states first l

-- whatever it reads as, with what is known of its holes, is what its hole stands for
abbrev pub IsSettled : Aliases → Log → Alias → Type 0
IsSettled A l p = (type : Term) → ReadsAs A (known_alias l p) type → (s : Hole → Term) → Solves s l → s (hole_of.Ty p.hole) ≡ apply s type

-- without cycles, and no more can be found out so
pub record IsAll (A : Aliases) (ps : List Alias) (l : Log) : Type 0 where
  pub no_cycles : Triangular l
  pub settled : Each (IsSettled A l) ps

-- ---- what becomes of it

-- some assignment that respects kinds makes the two equal
abbrev pub HaveCommon : Term → Term → Type 0
HaveCommon a b = (s : Hole → Term) × Respects s × (apply s a ≡ apply s b)

-- one that agrees with all that was found out
abbrev pub HaveCommonIn : Log → Term → Term → Type 0
HaveCommonIn l a b = (s : Hole → Term) × Respects s × Solves s l × (apply s a ≡ apply s b)

-- what the goals are answered, all together
abbrev pub AreJudged : Verdicts → List Alias → Log → Unification → Type 0
AreJudged v ps l unification.No = SomeOf (λ p. v.No (goal_of l p)) ps
AreJudged v ps l unification.Undecided = Each (λ p. v.No (goal_of l p) → ⊥) ps × SomeOf (λ p. v.Yes (goal_of l p) → ⊥) ps
AreJudged v ps l unification.Yes = Each (λ p. v.Yes (goal_of l p)) ps

-- a hole cannot be what its associated type reads as; or once all is found out the goal that it is so is answered No
abbrev pub IsRefuted : Verdicts → List Alias → Log → Type 0
IsRefuted v ps l = IsNoStep v.Alias ps l ⊎ (IsAll v.Alias ps l × AreJudged v ps l unification.No)

-- the two terms and the associated types, which holes of the two stand for
abbrev pub Becomes : Verdicts → List Alias → Term → Term → Unification → Type 0
Becomes v ps a b unification.No = (HaveCommon a b → ⊥) ⊎ ((l : Log) × IsFound v.Alias ps a b l × IsRefuted v ps l)
Becomes v ps a b found = (l : Log) × IsFound v.Alias ps a b l × IsAll v.Alias ps l × HaveCommonIn l a b × AreJudged v ps l found

-- two terms, which are opened
pub record BecomesFrom (v : Verdicts) (a b : Term) (found : Unification) : Type 0 where
  pub aliases : List Alias
  pub left : Term
  pub right : Term
  pub opened : AreOpened a b aliases left right
  pub becomes : Becomes v aliases left right found

-- two types, in the scope of an item of the facts, at the depth to which they let goals be followed
pub record IsUnification (raw : RawFacts) (item : GenericDefId) (a b : Ty) (found : Unification) : Type 0 where
  pub sources : System
  pub given : IsSystemOf raw item sources
  pub becomes : BecomesFrom (answers sources raw.limits.goal_depth) (term a) (term b) found

-- ---- what is asked of it

abbrev pub could : Unification → Bool
could unification.No = false
could _ = true

abbrev pub deeply : Unification → Bool
deeply unification.Yes = true
deeply _ = false

-- the test of what the two become
abbrev pub IsTestOf : (Unification → Bool) → RawFacts → GenericDefId → Ty → Ty → Bool → Type 0
IsTestOf test raw item a b is = (found : Unification) × IsUnification raw item a b found × (is ≡ test found)

-- ---- of all calls

-- there is no other outcome
abbrev pub IsOnlyOutcome : RawFacts → GenericDefId → Ty → Ty → Unification → Type 0
IsOnlyOutcome raw item a b found = (other : Unification) → IsUnification raw item a b other → other ≡ found

-- nor another answer to the test
abbrev pub IsOnlyTestOf : (Unification → Bool) → RawFacts → GenericDefId → Ty → Ty → Bool → Type 0
IsOnlyTestOf test raw item a b is = (other : Bool) → IsTestOf test raw item a b other → other ≡ is

-- where this is true, so is every answer to the test
abbrev pub OnlyWhere : (Unification → Bool) → RawFacts → GenericDefId → Ty → Ty → Bool → Type 0
OnlyWhere test raw item a b is = IsTrue is → (other : Bool) → IsTestOf test raw item a b other → IsTrue other
