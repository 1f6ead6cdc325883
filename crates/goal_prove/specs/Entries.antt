-- Proofs that are listed, and added behind others.
use Rattle.std.specs.Prelude.{◌≡◌, ◌⊎◌, ◌<◌, ◌≤◌, ◌++◌, ℕ, List, [], ◌∷◌, length, slice_get, Option, Some, None}
use Rattle.goal_prove.specs.Words.{Goal, RawFacts, IsFront, Fill, IsFilling, System, answers, Proof, asked_goal, AreProofs, Aliases, IsRead, ReadsAs, ProofSource, Term, hole, leaf, pair, term, GenericArg}
use Rattle.goal_prove.specs.Words.goal_facts.declared.proof.ProofSource.TheVariants as source
use Rattle.hir_types.specs.declared.ty.GenericArg.TheVariants as arg
use Rattle.hir_types.specs.declared.ty.Ty.TheVariants as ty

-- ---- one proof

-- the goal's proof has this number
abbrev pub IsProofAt : List Proof → Goal → ℕ → Type 0
IsProofAt ps g k = (x : Proof) × (slice_get ps k ≡ Some x) × (x.goal ≡ g)

-- the same but for lifetimes
abbrev pub IsProofAs : List Proof → Goal → ℕ → Type 0
IsProofAs ps g k = (x : Proof) × (slice_get ps k ≡ Some x) × (asked_goal x.goal ≡ asked_goal g)

-- it has where there is one
abbrev pub IsProofIf : List Proof → Goal → Option ℕ → Type 0
IsProofIf ps g (Some k) = IsProofAs ps g k
IsProofIf ps g None = Unit {0}

-- the proof was put at the end, and this is its number
pub record IsPushed (ps qs : List Proof) (x : Proof) (found : ℕ) : Type 0 where
  pub pushed : qs ≡ ps ++ x ∷ []
  pub number : found ≡ length ps

-- ---- what was added

-- at each filling, though none of them says anything of it
abbrev pub AreRightProofs : RawFacts → System → List Proof → Type 0
AreRightProofs raw f ps = (s : Fill) → IsFilling s → AreProofs raw f (answers f raw.limits.goal_depth).Alias s ps

-- ---- what they are made of

abbrev pub IsNamed : List ℕ → ℕ → Type 0
IsNamed ks k = (i : ℕ) × (slice_get ks i ≡ Some k)

-- the first term is the other, or stands in it
abbrev pub IsIn : Term → Term → Type 0
IsIn x (hole k) = x ≡ hole k
IsIn x (leaf h) = x ≡ leaf h
IsIn x (pair a b) = (x ≡ pair a b) ⊎ (IsIn x a ⊎ IsIn x b)

-- the argument is a type in the term, or `{unknown}`
abbrev pub IsTaken : Term → GenericArg → Type 0
IsTaken w (arg.Ty t) = (t ≡ ty.Error) ⊎ IsIn (term t) w
IsTaken w _ = ⊥

-- what stands for the parameters of an impl is taken from the term: `{unknown}` where it tells nothing of one
abbrev pub TakesFrom : Term → ProofSource → Type 0
TakesFrom w (source.Impl id xs) = (k : ℕ) (x : GenericArg) → slice_get xs k ≡ Some x → IsTaken w x
TakesFrom w _ = Unit {0}

-- the goal of the proof with this number is read
pub record IsReadAt (ps : List Proof) (k : ℕ) : Type 0 where
  pub proof : Proof
  pub at : slice_get ps k ≡ Some proof
  pub read : IsRead (asked_goal proof.goal).parts

-- the source takes from what the goal reads as, and the goals of the proofs that are named are read
pub record IsDrawn (A : Aliases) (ps : List Proof) (x : Proof) : Type 0 where
  pub target : Term
  pub reads : ReadsAs A (asked_goal x.goal).parts target
  pub takes : TakesFrom target x.source
  pub children : (k : ℕ) → IsNamed x.children k → IsReadAt ps k

abbrev pub AreDrawn : RawFacts → System → List Proof → Type 0
AreDrawn raw f ps = (n : ℕ) (x : Proof) → slice_get ps n ≡ Some x → IsDrawn (answers f raw.limits.goal_depth).Alias ps x

-- these come behind; if the first are proofs all are, and so made
pub record AddsProofs (raw : RawFacts) (f : System) (ps qs : List Proof) : Type 0 where
  pub behind : IsFront ps qs
  pub right : AreRightProofs raw f ps → AreRightProofs raw f qs
  pub drawn : AreDrawn raw f ps → AreDrawn raw f qs

-- ---- which ask for which

-- a proof behind it asks for the proof with this number
pub record IsChild (ps : List Proof) (k : ℕ) : Type 0 where
  pub parent : ℕ
  pub behind : k < parent
  pub proof : Proof
  pub at : slice_get ps parent ≡ Some proof
  pub named : IsNamed proof.children k

-- each that is added is asked for by another, but those that are excepted
abbrev pub AddsChildrenBut : (ℕ → Type 0) → List Proof → List Proof → Type 0
AddsChildrenBut R ps qs = (k : ℕ) → length ps ≤ k → k < length qs → IsChild qs k ⊎ R k

-- but the one that was found, where there is one
abbrev pub AddsOneRoot : Option ℕ → List Proof → List Proof → Type 0
AddsOneRoot found ps qs = AddsChildrenBut (λ k. found ≡ Some k) ps qs

-- ---- what was found

-- where none was found they are as before
abbrev pub KeepsIfNone : {X : Type 0} → List Proof → List Proof → Option X → Type 0
KeepsIfNone ps qs (Some x) = Unit {0}
KeepsIfNone ps qs None = qs ≡ ps

-- it is proved, or its answer at the depth isn't Yes
abbrev pub IsProvedIf : System → ℕ → List Proof → Goal → Option ℕ → Type 0
IsProvedIf f n ps g (Some k) = IsProofAt ps g k
IsProvedIf f n ps g None = (answers f n).Yes (asked_goal g) → ⊥
