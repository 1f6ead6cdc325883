-- What the walk over a pattern is given, and what it does.
use Rattle.std.specs.Prelude.{◌<◌, ◌≡◌, length, Option, Some, None, ◌⊎◌, ℕ, List, [], ◌∷◌, ◌++◌, slice_get, map}
use Rattle.infer_pat.specs.Words.{PatId, Ty, VariantId, ExprId, Assignment, folded, Schedule, RawBody, RawPath, Scope, variant_arity, type_args, at_args, ctor_item, taken_types, IsOpenOrKnown, State, Grew, bindings, hole_count, resolved_type, with_new_hole, StaysButHoles, Given, PatIsAtOrMismatch, Incoming, InferenceResult, PatTy, mismatch, Found, with_pat_ty, IsCarriedExpectation, element_type, entered, with_pat_diagnostic, IsWalked, pat_start, Walks, Nothing, pat_end, IsReady, IsVariant, InferenceContext, IsFineExpectation, IsFine, TellsBound, Closes, closed_table, expected_under, found_under, IsSound, IsWalking, Follows, ArePartTypes, Does, ReadsPat}
use Rattle.hir_types.specs.declared.ids.ExprOrPatId.TheVariants as node
use Rattle.hir_types.specs.declared.head.HoleKind.TheVariants as kind
use Rattle.hir_types.specs.declared.ty.Ty.TheVariants as ty
use Rattle.infer_pat.specs.Words.hir_raw.declared.raw.RawPat.TheVariants as pat
use Rattle.infer_pat.specs.Words.infer_result.declared.diagnostics.InferenceDiagnostic.TheVariants as diagnostic
use Rattle.infer_pat.specs.Words.infer_ctx.Found.{with_pat_mismatch}
use Rattle.infer_pat.specs.Words.infer_ctx.Context.{with_pat_item}
use Rattle.infer_pat.specs.Words.infer_ctx.Found as findings

-- ---- patterns

-- the walk comes to the pattern p, into which x comes
pub record ComesToPat (g : Given) (s : Schedule) (p : PatId) (x : Option Ty) (c : Found) : Type 0 where
  pub ready : IsReady g s
  pub state : IsWalked g s c
  pub within : p.0 < length g.body.pats
  pub here : pat_start g.body s p ≡ c.clock
  pub carried : IsCarriedExpectation x
  pub incoming : (t : Ty) → x ≡ Some t → Incoming g c.result p t

-- the pattern has the type that comes in, where one does, or a mismatch
abbrev pub IsPatPlaced : Given → InferenceResult → PatId → Option Ty → Type 0
IsPatPlaced g r p None = Unit {0}
IsPatPlaced g r p (Some t) = PatIsAtOrMismatch g r p t

pub record PatWalked (g : Given) (s : Schedule) (p : PatId) (x : Option Ty) (old new : Found) : Type 0 where
  pub walks : Walks g s Nothing old new
  pub clock : new.clock ≡ pat_end g.body s p
  pub placed : IsPatPlaced g new.result p x

-- what comes in is the type t, or that it is not is noted
abbrev pub IsDemanded : PatId → Ty → Option Ty → Found → Found → Type 0
IsDemanded p t None old new = new ≡ old
IsDemanded p t (Some u) old new = ((u ≡ t) × (new ≡ old)) ⊎ ((u ≡ t → ⊥) × (new ≡ with_pat_mismatch old p (mismatch u t)))

-- and it is recorded as the type of the pattern
pub record PatIsDemanded (p : PatId) (t : Ty) (x : Option Ty) (old new : Found) : Type 0 where
  pub mid : Found
  pub demanded : IsDemanded p t x old mid
  pub recorded : new ≡ with_pat_ty mid p t

-- there are as many parts as fields, or that there are not is said
abbrev pub PartsAreCounted : PatId → ℕ → ℕ → Found → Found → Type 0
PartsAreCounted p expected found old new =
    ((expected ≡ found) × (new ≡ old))
    ⊎ ((expected ≡ found → ⊥) × (new
    ≡ findings.with_pat_diagnostic old p (diagnostic.MismatchedTupleStructPatArgCount (node.PatId p) expected found)))

abbrev pub IsTuplePatOf : RawBody → PatId → List PatId → Type 0
IsTuplePatOf b p ps = slice_get b.pats p.0 ≡ Some (pat.Tuple ps)

abbrev pub IsCtorPatOf : RawBody → PatId → VariantId → List PatId → Type 0
IsCtorPatOf b p v ps = slice_get b.pats p.0 ≡ Some (pat.TupleStruct v ps)

abbrev pub IsPathPatOf : RawBody → PatId → RawPath → Type 0
IsPathPatOf b p q = slice_get b.pats p.0 ≡ Some (pat.Path q)

abbrev pub IsLitPatOf : RawBody → PatId → ExprId → Type 0
IsLitPatOf b p e = slice_get b.pats p.0 ≡ Some (pat.Lit e)

-- ---- patterns

-- the walk comes to the pattern p, into which x comes
pub record BeforePat (g : Given) (s : Schedule) (p : PatId) (x : Option Ty) (c : InferenceContext) : Type 0 where
  pub ready : IsReady g s
  pub state : IsWalking g s c
  pub within : p.0 < length g.body.pats
  pub here : pat_start g.body s p ≡ c.clock
  pub fine : IsFineExpectation g.scope c.goals.table x
  pub tells : (t : Ty) → (x ≡ Some t) ⊎ (x ≡ None) → TellsBound g p t
  pub incoming : (a : Assignment) → Closes a c → (t : Ty) → expected_under a x ≡ Some t → Incoming g (closed_table a c.asked c.result) p t

abbrev pub PatDone : Given → Schedule → PatId → Option Ty → InferenceContext → InferenceContext → Type 0
PatDone g s p x old new = Does g (λ a. PatWalked g s p (expected_under a x)) old new

-- the table has a new hole more where no type is given
abbrev pub after_given : State → Option Ty → State
after_given s None = with_new_hole s kind.Ty
after_given s (Some t) = s

-- the type is the given one, or a hole that is new
pub record IsGivenOrNew (sc : Scope) (x : Option Ty) (t : Ty) (old new : InferenceContext) : Type 0 where
  pub result : new.result ≡ old.result
  pub asked : new.asked ≡ old.asked
  pub clock : new.clock ≡ old.clock
  pub grew : Grew old.goals.table new.goals.table
  pub stays : StaysButHoles old.goals new.goals
  pub sound : IsSound sc new
  pub fine : IsFine sc new.goals.table t
  pub given : (u : Ty) → x ≡ Some u → t ≡ u
  pub new_hole : x ≡ None → t ≡ ty.Var (hole_count old.goals.table)
  pub table : new.goals.table ≡ after_given old.goals.table x

-- ---- tuple patterns

-- r is what the type t is resolved to at the top
pub record IsTopOf (s : State) (t r : Ty) : Type 0 where
  pub same : resolved_type s r ≡ resolved_type s t
  pub top : IsOpenOrKnown (bindings s) r

-- what is known of the part i: the component of what comes in, where that is resolved to a tuple which has it, or else nothing
abbrev pub IsComponentOf : State → Option Ty → ℕ → Option Ty → Type 0
IsComponentOf s None i known = known ≡ None
IsComponentOf s (Some t) i known = (r : Ty) × IsTopOf s t r × (known ≡ element_type (Some r) i)

-- each of these types, with the next new hole in the place of each that is not given
abbrev pub given_types : State → List (Option Ty) → List Ty
given_types s [] = []
given_types s (None ∷ xs) = ty.Var (hole_count s) ∷ given_types (with_new_hole s kind.Ty) xs
given_types s (Some t ∷ xs) = t ∷ given_types s xs

-- the table has these holes more
abbrev pub after_all_given : State → List (Option Ty) → State
after_all_given s [] = s
after_all_given s (x ∷ xs) = after_all_given (after_given s x) xs

-- the types of so many parts of a tuple pattern, into which x comes: each is the component of what comes in, where that is
-- known, or a new hole of its own
pub record AreTupleParts (sc : Scope) (x : Option Ty) (count : ℕ) (ts : List Ty) (old new : InferenceContext) : Type 0 where
  pub made : ArePartTypes sc count ts old new
  pub known : List (Option Ty)
  pub count_is : length known ≡ count
  pub each : (i : ℕ) (k : Option Ty) → slice_get known i ≡ Some k → IsComponentOf old.goals.table x i k
  pub types : ts ≡ given_types old.goals.table known
  pub table : new.goals.table ≡ after_all_given old.goals.table known

-- the pattern p is of the tuple of these types, which its parts get
pub record HandsParts (g : Given) (p : PatId) (x : Option Ty) (count : ℕ) (old new : InferenceContext) : Type 0 where
  pub types : List Ty
  pub holed : InferenceContext
  pub parts : AreTupleParts g.scope x count types (entered old) holed
  pub each : (a : Assignment) → Closes a new → PatTy (found_under a new).result p (ty.Tuple (map (folded a) types))

-- ---- what is asked of what comes in

-- The type t is recorded as that of the pattern, and it is what comes in, or they differ, and that is
-- noted.
pub record PatDemanded (g : Given) (p : PatId) (t : Ty) (x : Option Ty) (old new : InferenceContext) : Type 0 where
  pub follows : Follows g old new
  pub clock : new.clock ≡ old.clock
  pub each : (a : Assignment) → Closes a new → PatIsDemanded p (folded a t) (expected_under a x) (found_under a old) (found_under a new)

-- there are as many parts as fields, or that there are not is said
abbrev pub PartsCounted : PatId → ℕ → ℕ → InferenceContext → InferenceContext → Type 0
PartsCounted p expected found old new =
    ((expected ≡ found) × (new ≡ old))
    ⊎ ((expected ≡ found → ⊥) × (new
    ≡ with_pat_diagnostic old p (diagnostic.MismatchedTupleStructPatArgCount (node.PatId p) expected found)))

-- The constructor is recorded as the item of the pattern, where it has types beside the adt's, and what these are is read.
abbrev pub ItemRead : Given → PatId → VariantId → List Ty → List Ty → InferenceContext → InferenceContext → Type 0
ItemRead g p v ts [] old new = new ≡ old
ItemRead g p v ts (h ∷ hs) old new = ReadsPat g p.0 (with_pat_item old p (ctor_item v (ts ++ h ∷ hs))) new

-- The adt of the variant at new holes is recorded as the type of the pattern, which has so many parts, and
-- is asked of what comes in. The constructor is recorded, at these and at a new hole for each associated type in the fields, and what these
-- are is read. The types ss are those of the fields.
pub record CtorDemanded (g : Given) (p : PatId) (v : VariantId) (parts : ℕ) (ss : List Ty) (x : Option Ty)
    (old new : InferenceContext) : Type 0 where
  pub item : IsVariant g.scope.facts v
  pub types : List Ty
  pub hidden : List Ty
  pub own : length types ≡ item.params
  pub fields : ss ≡ map (at_args (types ++ hidden)) (taken_types g.scope.facts.types item.params item.variant)
  pub holed : InferenceContext
  pub holes : ArePartTypes g.scope (variant_arity g.scope.facts.types item.variant item.params) (types ++ hidden) old holed
  pub told : InferenceContext
  pub counted : PartsCounted p (length item.variant.fields) parts holed told
  pub typed : InferenceContext
  pub demanded : PatDemanded g p (ty.Adt item.variant.adt (type_args types)) x told typed
  pub read : ItemRead g p v types hidden typed new
