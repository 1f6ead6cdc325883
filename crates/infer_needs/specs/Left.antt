-- Associated types in the types of a table: each that could be read is listed with what it reads as.
use Rattle.std.specs.Prelude.{◌≡◌, ◌⊎◌, ℕ, List, [], slice_get, Option, Some, None}
use Rattle.infer_needs.specs.Words.{ExprId, GenericDefId, TypeAliasId, GenericArg, Ty, Term, leaf, pair, term, RawFacts, System, IsRead, Proof, TypeReads, AddsProofs, IsWritten, TypeMismatch, InferenceDiagnostic, IsPartOf, stays_at, StaysOrIsListed}
use Rattle.hir_types.specs.declared.ty.Ty.TheVariants as ty
use Rattle.hir_types.specs.declared.head.Head.TheVariants as head
use Rattle.infer_result.specs.declared.diagnostics.InferenceDiagnostic.TheVariants as diagnostic
use Rattle.infer_needs.specs.FitTerms.{FitsIn, EntriesFitIn}
use Rattle.infer_needs.specs.Judged.{AddsEntries}
use Rattle.infer_needs.specs.Told.{AddsRootsOf}

-- ---- what is listed

-- what stands in the entry is what its associated type reads as
pub record WasRead (f : System) (n : ℕ) (x : Ty × Ty) : Type 0 where
  pub alias : TypeAliasId
  pub args : List GenericArg
  pub is : x.0 ≡ ty.Projection alias args
  pub reads : TypeReads f n (ty.Projection alias args) x.1

abbrev pub WereRead : System → ℕ → List (Ty × Ty) → Type 0
WereRead f n js = (i : ℕ) (x : Ty × Ty) → slice_get js i ≡ Some x → WasRead f n x

-- proofs and entries come behind, of what was read if the first were, and that fit if the first do; each proof that is added is one that
-- another asks for, or of a goal about an associated type that fits
pub record AddsRead (raw : RawFacts) (item : GenericDefId) (f : System) (ps qs : List Proof) (js ks : List (Ty × Ty)) : Type 0 where
  pub adds : AddsProofs raw f ps qs
  pub roots : AddsRootsOf raw item f [] ps qs
  pub lists : AddsEntries ps qs js ks
  pub read : WereRead f raw.limits.goal_depth js → WereRead f raw.limits.goal_depth ks
  pub fit : EntriesFitIn raw item js → EntriesFitIn raw item ks

-- so many are added that this holds of all
pub record Lists (raw : RawFacts) (item : GenericDefId) (f : System) (P : List (Ty × Ty) → Type 0) (ps qs : List Proof)
    (js ks : List (Ty × Ty)) : Type 0 where
  pub adds : AddsRead raw item f ps qs js ks
  pub none : P ks

-- ---- of which nothing is left

-- nothing is left to be read in it, and no hole, and it fits
pub record IsFinal (raw : RawFacts) (item : GenericDefId) (t : Term) : Type 0 where
  pub read : IsRead t
  pub written : IsWritten t
  pub fits : FitsIn raw item t

-- the associated type that stays at the arguments that follow, if this is the head of one
abbrev pub staying_head : Term → Option TypeAliasId
staying_head (leaf (head.AssociatedType k)) = Some k
staying_head _ = None

-- of the associated type that the two make, if they do
abbrev pub NoneHere : System → ℕ → Term → Term → List (Ty × Ty) → Type 0
NoneHere f n a b js = (k : TypeAliasId) (xs : List GenericArg) → stays_at k xs ≡ pair a b → StaysOrIsListed f n js k xs

-- of each associated type in the term
abbrev pub NoneStands : System → ℕ → Term → List (Ty × Ty) → Type 0
NoneStands f n t js = (k : TypeAliasId) (xs : List GenericArg) → IsPartOf (stays_at k xs) t → StaysOrIsListed f n js k xs

-- ---- of the types of a list

-- which types stand in an entry: the type that is recorded, what was expected and what was found, what is called and is no function
abbrev pub StandsInType : Option Ty → Ty → Type 0
StandsInType o t = o ≡ Some t

abbrev pub StandsInMismatch : Option TypeMismatch → Ty → Type 0
StandsInMismatch o t = (m : TypeMismatch) × (o ≡ Some m) × ((m.expected ≡ t) ⊎ (m.actual ≡ t))

abbrev pub StandsInDiagnostic : Option InferenceDiagnostic → Ty → Type 0
StandsInDiagnostic o t = (e : ExprId) × (o ≡ Some (diagnostic.ExpectedFunction e t))

-- each type that stands in the entry has the property
abbrev pub EachIn : {X : Type 0} → (X → Ty → Type 0) → (Ty → Type 0) → X → Type 0
EachIn T P x = (t : Ty) → T x t → P t

-- so has each that stands in one of these
abbrev pub EachOf : {X : Type 0} → (X → Ty → Type 0) → (Ty → Type 0) → List X → Type 0
EachOf {X} T P xs = (i : ℕ) (x : X) → slice_get xs i ≡ Some x → EachIn T P x

-- it is final
abbrev pub IsFinalType : RawFacts → GenericDefId → Ty → Type 0
IsFinalType raw item t = IsFinal raw item (term t)
