-- Lists of proofs: what a source asks for, and that each proof of a list holds.
use Rattle.std.specs.Prelude.{◌≡◌, ◌⊎◌, ◌<◌, ℕ, true, List, [], ◌∷◌, length, map, slice_get, Option, Some}
use Rattle.goal_facts.specs.Words.{ImplId, Goal, Hole, GenericArg, Term, hole, apply, term, hole_number, RawImpl, RawFacts, State, Meets, Fill, IsFilling, Aliases, Reads, ReadsAs, Asked, Rule, System, asked_at, only, is_among, Each, IsItself, Shadows, answers, CopiesParts}
use Rattle.hir_types.specs.declared.ty.GenericArg.TheVariants as arg
use Rattle.goal_facts.specs.declared.proof.Proof.{Proof}
use Rattle.goal_facts.specs.declared.proof.ProofSource.{ProofSource}
use Rattle.goal_facts.specs.declared.proof.ProofSource.TheVariants as source
use Rattle.goal_facts.specs.Bounds.{IsListed}
use Rattle.goal_facts.specs.Environment.{Follows}
use Rattle.goal_facts.specs.Impls.{impl_rules}
use Rattle.goal_facts.specs.Goals.{asked_goal}

-- ---- goals with holes filled

-- the goal as `s` fills its holes
abbrev pub filled_goal : Fill → Goal → Asked
filled_goal s g = asked_at s (asked_goal g)

abbrev pub arg_at : Fill → Option GenericArg → Hole → Term
arg_at s (Some (arg.Ty t)) k = apply s (term t)
arg_at s _ k = hole k

-- for each parameter the argument of its number
abbrev pub args_fill : Fill → List GenericArg → Fill
args_fill s xs k = arg_at s (slice_get xs (hole_number k)) k

-- the two are the same once their aliases are read
abbrev pub IsSame : Aliases → Asked → Asked → Type 0
IsSame P g h = (g.kind ≡ h.kind) × (w : Term) × ReadsAs P g.parts w × ReadsAs P h.parts w

-- ---- what a source asks for

-- the goal has the source, which asks for these

abbrev pub IsUnshadowed : System → Aliases → Asked → Type 0
IsUnshadowed f P g = (w : Term) × ReadsAs P g.parts w × Each (λ r. Shadows P g.kind w r → ⊥) f.clauses

pub record IsClause (f : System) (P : Aliases) (g : Asked) (c : Goal) (qs : List Asked) : Type 0 where
  pub at : ℕ
  pub clause : Rule
  pub listed : slice_get f.clauses at ≡ Some clause
  pub is : asked_goal c ≡ clause.head
  pub same : IsSame P clause.head g
  pub asks : qs ≡ clause.preds

-- one of the rules of an impl, at an argument for each of its parameters
pub record IsImplAt (raw : RawFacts) (P : Aliases) (s : Fill) (g : Asked) (id : ImplId) (xs : List GenericArg)
    (qs : List Asked) : Type 0 where
  pub item : RawImpl
  pub listed : slice_get raw.impls id.0 ≡ Some item
  pub as_many : length xs ≡ length item.params
  pub at : ℕ
  pub rule : Rule
  pub of : slice_get (impl_rules raw item) at ≡ Some rule
  pub same : IsSame P (asked_at (args_fill s xs) rule.head) g
  pub asks : qs ≡ map (asked_at (args_fill s xs)) rule.preds

-- a bound that is listed at an associated type, or what follows from it
abbrev pub IsListedBound : RawFacts → Aliases → Asked → Type 0
IsListedBound raw P g = (d : Asked) × (w : Term) × Follows raw (IsListed raw) raw.limits.goal_depth d × (d.kind ≡ g.kind)
    × ReadsAs P g.parts w × ((p : Fill) × Reads P p d.parts w)

-- both sides of a projection are the same
abbrev pub SaysItself : Aliases → Asked → Type 0
SaysItself P g = (w : Term) × ReadsAs P g.parts w × IsItself g.kind w

-- a type has a size; a listed bound says so; or it is copied since its parts are
abbrev pub IsBuiltIn : RawFacts → System → Aliases → Asked → List Asked → Type 0
IsBuiltIn raw f P g qs =
    ((qs ≡ []) × (is_among f.sized g.kind ≡ true) × (answers f raw.limits.goal_depth).Yes g)
    ⊎ (((qs ≡ []) × IsListedBound raw P g)
    ⊎ ((w : Term) × (ts : List Term) × ReadsAs P g.parts w × CopiesParts f g.kind w ts
    × (qs ≡ map (λ t. record { kind = g.kind; parts = only t }) ts)))

-- clauses come before the others, but that both sides are the same, as in `YesAt`
abbrev pub IsSource : RawFacts → System → Aliases → Fill → Asked → ProofSource → List Asked → Type 0
IsSource raw f P s g (source.Clause c) qs = IsClause f P g c qs
IsSource raw f P s g (source.Impl id xs) qs = IsUnshadowed f P g × IsImplAt raw P s g id xs qs
IsSource raw f P s g source.BuiltIn qs = ((qs ≡ []) × SaysItself P g) ⊎ (IsUnshadowed f P g × IsBuiltIn raw f P g qs)

-- what has no size has no source
abbrev pub MayHaveSource : RawFacts → System → Asked → Type 0
MayHaveSource raw f g = is_among f.sized g.kind ≡ true → (answers f raw.limits.goal_depth).No g → ⊥

-- ---- lists of proofs

-- the proof with this number is one of the first `n`, and of this goal
pub record IsProofOf (P : Aliases) (s : Fill) (ps : List Proof) (n : ℕ) (q : Asked) (i : ℕ) : Type 0 where
  pub proof : Proof
  pub before : i < n
  pub at : slice_get ps i ≡ Some proof
  pub same : IsSame P (filled_goal s proof.goal) q

-- one for each
abbrev pub AreProofsOf : Aliases → Fill → List Proof → ℕ → List Asked → List ℕ → Type 0
AreProofsOf P s ps n [] [] = Unit {0}
AreProofsOf P s ps n (q ∷ qs) (i ∷ is) = IsProofOf P s ps n q i × AreProofsOf P s ps n qs is
AreProofsOf P s ps n _ _ = ⊥

-- the proof with the number `n` holds: its goal has the source, and what this asks for is proved before it
pub record Holds (raw : RawFacts) (f : System) (P : Aliases) (s : Fill) (ps : List Proof) (n : ℕ) (x : Proof) : Type 0 where
  pub asks : List Asked
  pub source : IsSource raw f P s (filled_goal s x.goal) x.source asks
  pub sized : MayHaveSource raw f (filled_goal s x.goal)
  pub children : AreProofsOf P s ps n asks x.children

abbrev pub AreProofs : RawFacts → System → Aliases → Fill → List Proof → Type 0
AreProofs raw f P s ps = (n : ℕ) (x : Proof) → slice_get ps n ≡ Some x → Holds raw f P s ps n x

-- at each filling without aliases that agrees with what is known of the holes
abbrev pub AreProofsUnder : RawFacts → System → Aliases → State → List Proof → Type 0
AreProofsUnder raw f P state ps = (s : Fill) → IsFilling s → Meets s state → AreProofs raw f P s ps
