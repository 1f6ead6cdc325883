-- What becomes of goals that nodes need.
use Rattle.std.specs.Prelude.{◌≡◌, ◌⊎◌, ◌++◌, ℕ, Bool, true, false, List, [], ◌∷◌, length, slice_get, Some}
use Rattle.infer_needs.specs.Words.{ExprOrPatId, GenericDefId, TypeAliasId, Goal, GenericArg, Ty, Same, term, RawBody, RawExpr, RawFacts, IsFront, Asked, System, Each, answers, IsRead, Proof, asked_goal, AddsProofs, IsWritten, Gap, InferenceResult, AllTypes, IsListedAs, GoalReads, HasEntry, IsAboutAlias, stays_at, NoneIsLeft, MayHold, HoldsUnknown, Saying, gap_says, needs_of, needs_at, pat_needs_at, recorded, Scope, HasCause}
use Rattle.hir_types.specs.declared.ids.ExprOrPatId.TheVariants as node
use Rattle.hir_types.specs.declared.goal.Goal.TheVariants as goal
use Rattle.hir_types.specs.declared.ty.Ty.TheVariants as ty
use Rattle.infer_result.specs.declared.gaps.Gap.TheVariants as gap
use Rattle.infer_needs.specs.Listed.{FindsIn}
use Rattle.infer_needs.specs.FitTerms.{EntryFitsIn}
use Rattle.infer_needs.specs.Told.{AddsRootsOf, first_pat_needs}

-- ---- goals that can be proved

-- it is without holes
abbrev pub IsProvable : Asked → Type 0
IsProvable a = IsWritten a.parts

abbrev pub AreProvable : List Asked → Type 0
AreProvable xs = Each IsProvable xs

-- so can all that the expressions of the body need
abbrev pub CanAllBeProved : RawFacts → RawBody → InferenceResult → Type 0
CanAllBeProved raw b r = (n : ℕ) (x : RawExpr) → slice_get b.exprs n ≡ Some x
    → AreProvable (needs_of raw (Some x) (recorded r.type_of_expr n))

-- and all that its patterns need
abbrev pub CanPatsBeProved : RawFacts → InferenceResult → Type 0
CanPatsBeProved raw r = (n : ℕ) → AreProvable (pat_needs_at raw r n)

-- ---- what is said

abbrev pub unproved : ExprOrPatId → Goal → Gap
unproved e q = gap.Unproved e q

abbrev pub clash : ExprOrPatId → Ty → Ty → Ty → Gap
clash e a t u = gap.Clash e a t u

-- one of these says so, at whatever node
abbrev pub IsAmong : List Gap → Saying → Type 0
IsAmong gs s = (k : ℕ) × (x : Gap) × (slice_get gs k ≡ Some x) × (gap_says x ≡ s)

-- it is said now, unless it was
abbrev pub IsSaidOnce : Gap → List Gap → List Gap → Type 0
IsSaidOnce x gs hs = ((hs ≡ gs) × IsAmong gs (gap_says x)) ⊎ ((hs ≡ gs ++ x ∷ []) × (IsAmong gs (gap_says x) → ⊥))

-- what there is to say of a goal whose answer isn't Yes: nothing, where it may hold with other types in the place of `{unknown}`, which
-- could not have been read
abbrev pub HasCauseAsIs : Scope → System → ℕ → Asked → Type 0
HasCauseAsIs sc f n a = HoldsUnknown a.parts → HasCause sc f n a

abbrev pub MayHoldIf : Scope → System → ℕ → Asked → Bool → Type 0
MayHoldIf sc f n a true = MayHold sc f n a
MayHoldIf sc f n a false = HasCauseAsIs sc f n a

-- it is said that it has no proof, unless it may hold so
abbrev pub IsSaidUnlessMay : Scope → System → ℕ → ExprOrPatId → Goal → List Gap → List Gap → Type 0
IsSaidUnlessMay sc f n e q gs hs =
    (MayHold sc f n (asked_goal q) × (hs ≡ gs)) ⊎ (HasCauseAsIs sc f n (asked_goal q) × IsSaidOnce (unproved e q) gs hs)

-- ---- what associated types were found to be

-- the associated type is listed as the type now; or it was before, or as another type, and this is said
abbrev pub IsListedNow : ExprOrPatId → Ty → Ty → List (Ty × Ty) → List (Ty × Ty) → List Gap → List Gap → Type 0
IsListedNow e a u js ks gs hs =
    ((ks ≡ js ++ (a, u) ∷ []) × (hs ≡ gs))
    ⊎ ((ks ≡ js) × (t : Ty) × FindsIn js a (Some t)
    × (((term t ≡ term u) × (hs ≡ gs)) ⊎ ((Same t u → ⊥) × IsSaidOnce (clash e a t u) gs hs)))

-- a proof is among these whose goal it is
abbrev pub HasProofOf : List Proof → Asked → Type 0
HasProofOf ps a = (k : ℕ) × (x : Proof) × (slice_get ps k ≡ Some x) × (asked_goal x.goal ≡ a)

-- the goal, in which `{unknown}` doesn't stand, reads as one that is about an associated type
pub record ReadsAbout (f : System) (n : ℕ) (a b : Asked) : Type 0 where
  pub known : HoldsUnknown a.parts → ⊥
  pub reads : GoalReads f n a b
  pub about : IsAboutAlias b

-- once it is read the goal says of an associated type what can be listed; and this has a proof
pub record SaysAlias (f : System) (n : ℕ) (a : Asked) (ps : List Proof) : Type 0 where
  pub alias : TypeAliasId
  pub args : List GenericArg
  pub type : Ty
  pub reads : GoalReads f n a (asked_goal (goal.Projection alias args type))
  pub proved : HasProofOf ps (asked_goal (goal.Projection alias args type))
  pub known : HoldsUnknown (asked_goal (goal.Projection alias args type)).parts → ⊥
  pub other : term type ≡ stays_at alias args → ⊥
  pub written : IsWritten (asked_goal (goal.Projection alias args type)).parts

-- what it says is listed, where it can be
abbrev pub IsNoted : System → ℕ → ExprOrPatId → Asked → List Proof → List (Ty × Ty) → List (Ty × Ty) → List Gap → List Gap → Type 0
IsNoted f n e a ps js ks gs hs =
    ((ks ≡ js) × (hs ≡ gs) × ((b : Asked) → ReadsAbout f n a b → ⊥))
    ⊎ ((s : SaysAlias f n a ps) × IsListedNow e (ty.Projection s.alias s.args) s.type js ks gs hs)

-- so it is once these proofs are added; each is one that another asks for, or of what the goal reads as
pub record Notes (raw : RawFacts) (item : GenericDefId) (f : System) (e : ExprOrPatId) (a : Asked) (ps qs : List Proof)
    (js ks : List (Ty × Ty)) (gs hs : List Gap) : Type 0 where
  pub adds : AddsProofs raw f ps qs
  pub roots : AddsRootsOf raw item f (a ∷ []) ps qs
  pub noted : IsNoted f raw.limits.goal_depth e a qs js ks gs hs

-- ---- one goal

-- among these it is said that it has none
abbrev pub IsSaid : ExprOrPatId → List Gap → Asked → Type 0
IsSaid e gs a = (k : ℕ) × (q : Goal) × (slice_get gs k ≡ Some (unproved e q)) × (asked_goal q ≡ a)

-- among these it is said that what it asks an associated type to be is another type than the one that is listed
abbrev pub IsSaidClash : ExprOrPatId → List Gap → Asked → Type 0
IsSaidClash e gs a = (n : ℕ) × (k : TypeAliasId) × (xs : List GenericArg) × (t : Ty) × (u : Ty)
    × (slice_get gs n ≡ Some (clash e (ty.Projection k xs) t u)) × (asked_goal (goal.Projection k xs u) ≡ a)

-- it has a proof; and what it asks an associated type to be, once it is read, is listed, or another type, and this is said
abbrev pub IsProvedAndListed : System → ℕ → ExprOrPatId → List Proof → List (Ty × Ty) → List Gap → Asked → Type 0
IsProvedAndListed f n e ps js gs a = HasProofOf ps a × ((b : Asked) → ReadsAbout f n a b → HasEntry js b ⊎ IsSaidClash e gs b)

abbrev pub IsDone : Scope → System → ℕ → ExprOrPatId → List Proof → List (Ty × Ty) → List Gap → Asked → Type 0
IsDone sc f n e ps js gs a = IsProvedAndListed f n e ps js gs a ⊎ (IsSaid e gs a ⊎ MayHold sc f n a)

-- its answer at the depth isn't Yes, and it is said unless it may hold with other types in the place of `{unknown}`
pub record IsRefused (sc : Scope) (f : System) (n : ℕ) (e : ExprOrPatId) (q : Goal) (ps qs : List Proof) (js ks : List (Ty × Ty))
    (gs hs : List Gap) : Type 0 where
  pub proofs : qs ≡ ps
  pub listed : ks ≡ js
  pub fails : (answers f n).Yes (asked_goal q) → ⊥
  pub said : IsSaidUnlessMay sc f n e q gs hs

-- it is proved
pub record IsShown (raw : RawFacts) (f : System) (e : ExprOrPatId) (q : Goal) (ps qs : List Proof) (js ks : List (Ty × Ty))
    (gs hs : List Gap) : Type 0 where
  pub adds : AddsProofs raw f ps qs
  pub has : HasProofOf qs (asked_goal q)
  pub noted : IsNoted f raw.limits.goal_depth e (asked_goal q) qs js ks gs hs

abbrev pub IsJudged : RawFacts → Scope → System → ExprOrPatId → Goal → List Proof → List Proof → List (Ty × Ty) → List (Ty × Ty) → List Gap
    → List Gap → Type 0
IsJudged raw sc f e q ps qs js ks gs hs = IsShown raw f e q ps qs js ks gs hs ⊎ IsRefused sc f raw.limits.goal_depth e q ps qs js ks gs hs

-- ---- what is listed

-- an associated type, with another type that it has a proof to be, as can be listed
pub record IsEntry (ps : List Proof) (x : Ty × Ty) : Type 0 where
  pub alias : TypeAliasId
  pub args : List GenericArg
  pub is : x.0 ≡ ty.Projection alias args
  pub proved : HasProofOf ps (asked_goal (goal.Projection alias args x.1))
  pub read : IsRead (asked_goal (goal.Projection alias args x.1)).parts
  pub known : HoldsUnknown (asked_goal (goal.Projection alias args x.1)).parts → ⊥
  pub other : term x.1 ≡ stays_at alias args → ⊥
  pub written : IsWritten (asked_goal (goal.Projection alias args x.1)).parts

abbrev pub AreEntries : List Proof → List (Ty × Ty) → Type 0
AreEntries ps js = (n : ℕ) (x : Ty × Ty) → slice_get js n ≡ Some x → IsEntry ps x

-- these come behind, and if the first are entries all are
pub record AddsEntries (ps qs : List Proof) (js ks : List (Ty × Ty)) : Type 0 where
  pub behind : IsFront js ks
  pub right : AreEntries ps js → AreEntries qs ks

-- ---- where entries come from

-- one of these goals reads as what the entry says
pub record IsSaidBy (f : System) (n : ℕ) (xs : List Asked) (x : Ty × Ty) : Type 0 where
  pub alias : TypeAliasId
  pub args : List GenericArg
  pub is : x.0 ≡ ty.Projection alias args
  pub need : Asked
  pub at : ℕ
  pub among : slice_get xs at ≡ Some need
  pub reads : GoalReads f n need (asked_goal (goal.Projection alias args x.1))

-- each is one of the first, or is said by one of these goals
abbrev pub ComeFrom : System → ℕ → List Asked → List (Ty × Ty) → List (Ty × Ty) → Type 0
ComeFrom f n xs js ks = (k : ℕ) (x : Ty × Ty) → slice_get ks k ≡ Some x → (slice_get js k ≡ Some x) ⊎ IsSaidBy f n xs x

-- each fits under the parameters of the item, or is said by one of these goals
abbrev pub FitOrAreSaid : RawFacts → GenericDefId → System → List Asked → List (Ty × Ty) → Type 0
FitOrAreSaid raw item f xs js =
    (k : ℕ) (x : Ty × Ty) → slice_get js k ≡ Some x → EntryFitsIn raw item x ⊎ IsSaidBy f raw.limits.goal_depth xs x

-- ---- the goals of an expression

-- it is of one of these goals, whose answer isn't Yes; where `{unknown}` stands in it, no types there make it hold, or what stands there
-- could have been read
pub record IsOfFailing (sc : Scope) (f : System) (n : ℕ) (e : ExprOrPatId) (xs : List Asked) (x : Gap) : Type 0 where
  pub goal : Goal
  pub is : x ≡ unproved e goal
  pub at : ℕ
  pub among : slice_get xs at ≡ Some (asked_goal goal)
  pub known : HasCauseAsIs sc f n (asked_goal goal)
  pub fails : (answers f n).Yes (asked_goal goal) → ⊥

-- it is of what one of these goals reads as, which has a proof, and asks an associated type to be another type than the one that is listed,
-- and than itself
pub record IsOfClash (f : System) (n : ℕ) (e : ExprOrPatId) (xs : List Asked) (ps : List Proof) (js : List (Ty × Ty))
    (x : Gap) : Type 0 where
  pub alias : TypeAliasId
  pub args : List GenericArg
  pub first : Ty
  pub second : Ty
  pub is : x ≡ clash e (ty.Projection alias args) first second
  pub listed : IsListedAs js alias args first
  pub need : Asked
  pub at : ℕ
  pub among : slice_get xs at ≡ Some need
  pub reads : GoalReads f n need (asked_goal (goal.Projection alias args second))
  pub proved : HasProofOf ps (asked_goal (goal.Projection alias args second))
  pub differ : Same first second → ⊥
  pub other : term second ≡ stays_at alias args → ⊥
  pub written : IsWritten (asked_goal (goal.Projection alias args second)).parts

-- each goal is proved, or said to have no proof, or may hold with other types in the place of `{unknown}`; and what is said is so, and said
-- once
pub record AreDone (sc : Scope) (f : System) (n : ℕ) (e : ExprOrPatId) (xs : List Asked) (ps : List Proof) (js : List (Ty × Ty))
    (gs : List Gap) : Type 0 where
  pub each : (k : ℕ) (a : Asked) → slice_get xs k ≡ Some a → IsDone sc f n e ps js gs a
  pub gaps : (k : ℕ) (x : Gap) → slice_get gs k ≡ Some x → IsOfFailing sc f n e xs x ⊎ IsOfClash f n e xs ps js x
  pub once : (j k : ℕ) (x y : Gap) → slice_get gs j ≡ Some x → slice_get gs k ≡ Some y → gap_says x ≡ gap_says y → j ≡ k

-- so it is once these proofs are added, and these entries
pub record AreJudged (raw : RawFacts) (sc : Scope) (f : System) (e : ExprOrPatId) (xs : List Asked) (ps qs : List Proof)
    (js ks : List (Ty × Ty)) (gs : List Gap) : Type 0 where
  pub adds : AddsProofs raw f ps qs
  pub lists : AddsEntries ps qs js ks
  pub from : ComeFrom f raw.limits.goal_depth xs js ks
  pub done : AreDone sc f raw.limits.goal_depth e xs qs ks gs

-- ---- the expressions of a body

-- so it is of each of the first expressions, of which each has its gaps; and in no type of the table is one left that could be read
pub record AreAllJudged (raw : RawFacts) (sc : Scope) (f : System) (b : RawBody) (r : InferenceResult) (n : ℕ) (ps : List Proof)
    (js : List (Ty × Ty)) (gss : List (List Gap)) : Type 0 where
  pub adds : AddsProofs raw f [] ps
  pub entries : AreEntries ps js
  pub left : AllTypes (NoneIsLeft f raw.limits.goal_depth js) r
  pub long : length gss ≡ n
  pub each : (k : ℕ) (gs : List Gap) → slice_get gss k ≡ Some gs
      → AreDone sc f raw.limits.goal_depth (node.ExprId (record { 0 = k })) (needs_at raw b r k) ps js gs

-- ---- the patterns of a body

-- so it is of each of the first patterns, once more proofs and entries are added
pub record ArePatsJudged (raw : RawFacts) (sc : Scope) (f : System) (r : InferenceResult) (n : ℕ) (ps qs : List Proof)
    (js ks : List (Ty × Ty)) (gss : List (List Gap)) : Type 0 where
  pub adds : AddsProofs raw f ps qs
  pub lists : AddsEntries ps qs js ks
  pub from : ComeFrom f raw.limits.goal_depth (first_pat_needs raw r n) js ks
  pub long : length gss ≡ n
  pub each : (k : ℕ) (gs : List Gap) → slice_get gss k ≡ Some gs
      → AreDone sc f raw.limits.goal_depth (node.PatId (record { 0 = k })) (pat_needs_at raw r k) qs ks gs
