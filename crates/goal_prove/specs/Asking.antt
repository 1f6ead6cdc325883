-- What a step to a proof is asked, of goals that are read, and what it finds.
use Rattle.std.specs.Prelude.{◌≡◌, ◌⊎◌, ℕ, suc, true, false, List, [], ◌∷◌, map, slice_get, Option, Some, None, if◌then◌else◌}
use Rattle.std.specs.List.{range_with_len}
use Rattle.goal_prove.specs.Words.{Goal, GenericArg, Ty, type_of_term, Term, apply, RawFacts, Log, found, Fill, IsFilling, Aliases, Reads, ReadsAs, Kind, Asked, Rule, System, is_among, Each, SomeOf, Verdicts, Shadows, Proves, YesAt, answers, CopyYes, IsDeep, known_below, HoldsAt, log_of, fill_of, IsDone, PredIsDone, Proof, asked_goal, filled_goal, IsRead, occurs, Hole}
use Rattle.hir_types.specs.declared.head.Hole.TheVariants as hole_of
use Rattle.hir_types.specs.declared.ty.GenericArg.TheVariants as arg
use Rattle.hir_types.specs.declared.ty.Ty.TheVariants as ty
use Rattle.goal_prove.specs.declared.fits.Found.{Found}
use Rattle.goal_prove.specs.Entries.{AddsProofs, IsProofAt, IsProofAs, IsNamed, AddsChildrenBut, AddsOneRoot}
use Rattle.goal_prove.specs.Written.{IsGoodGoal}

-- at the depth to which the facts let goals be followed
abbrev pub deep_alias : RawFacts → System → Aliases
deep_alias raw f = (answers f raw.limits.goal_depth).Alias

-- ---- goals that are read

-- the goal reads so there, however its holes are filled
pub record ReadsTo (raw : RawFacts) (f : System) (g : Goal) (c : Kind) (w : Term) : Type 0 where
  pub kind : (asked_goal g).kind ≡ c
  pub reads : (s : Fill) → IsFilling s → ReadsAs (deep_alias raw f) (filled_goal s g).parts w

-- the answer at the depth is Yes, and what is read is right
pub record IsAsked (raw : RawFacts) (f : System) (n : ℕ) (c : Kind) (w : Term) : Type 0 where
  pub done : IsDone w
  pub good : IsGoodGoal c w
  pub yes : YesAt f (answers f n).Alias (known_below f n) c w
  pub deep : IsDeep n ⊎ (is_among f.sized c ≡ true)

-- no clause is about it
abbrev pub IsFree : RawFacts → System → Kind → Term → Type 0
IsFree raw f c w = Each (λ r. Shadows (deep_alias raw f) c w r → ⊥) f.clauses

-- ---- rules that fit

-- the rule at the place holds with these for its holes
pub record IsFit (A : Aliases) (v : Verdicts) (rs : List Rule) (c : Kind) (w : Term) (x : Found) : Type 0 where
  pub rule : Rule
  pub at : slice_get rs x.place ≡ Some rule
  pub kind : rule.head.kind ≡ c
  pub holds : HoldsAt A v rule rule.head.parts rule.preds w (fill_of (log_of x.fills.items))

abbrev pub FitsNot : Aliases → Verdicts → Kind → Term → Rule → Type 0
FitsNot A v c w r = r.head.kind ≡ c → (p : Fill) → HoldsAt A v r r.head.parts r.preds w p → ⊥

abbrev pub FitIs : Aliases → Verdicts → List Rule → Kind → Term → Option Found → Type 0
FitIs A v rs c w (Some x) = IsFit A v rs c w x
FitIs A v rs c w None = Each (FitsNot A v c w) rs

-- what stands for a parameter's hole as a type
abbrev pub type_or_unknown : Option Term → Ty
type_or_unknown (Some t) = type_of_term t
type_or_unknown None = ty.Error

-- of a hole of the head
abbrev pub told_fill : Log → Term → Hole → Option Term
told_fill l h k = if occurs k h then found l k else None

abbrev pub fill_args : Log → Term → ℕ → List GenericArg
fill_args l h n = map (λ k. arg.Ty (type_or_unknown (told_fill l h (hole_of.Ty k)))) (range_with_len 0 n)

-- ---- what a step comes to

pub record IsProved (raw : RawFacts) (f : System) (ps qs : List Proof) (g : Goal) (number : ℕ) : Type 0 where
  pub adds : AddsProofs raw f ps qs
  pub roots : AddsOneRoot (Some number) ps qs
  pub found : IsProofAt qs g number

-- the same but for lifetimes
pub record IsProvedAs (raw : RawFacts) (f : System) (ps qs : List Proof) (g : Goal) (number : ℕ) : Type 0 where
  pub adds : AddsProofs raw f ps qs
  pub roots : AddsOneRoot (Some number) ps qs
  pub found : IsProofAs qs g number

-- of a predicate, with what stands for its holes
pub record IsProofFor (raw : RawFacts) (f : System) (p : Fill) (ps : List Proof) (q : Asked) (number : ℕ) : Type 0 where
  pub target : Term
  pub reads : Reads (deep_alias raw f) p q.parts target
  pub proof : Proof
  pub at : slice_get ps number ≡ Some proof
  pub read : IsRead (asked_goal proof.goal).parts
  pub same : ReadsTo raw f proof.goal q.kind target

abbrev pub AreProofsFor : RawFacts → System → Fill → List Proof → List Asked → List ℕ → Type 0
AreProofsFor raw f p ps [] [] = Unit {0}
AreProofsFor raw f p ps (q ∷ qs) (k ∷ ks) = IsProofFor raw f p ps q k × AreProofsFor raw f p ps qs ks
AreProofsFor raw f p ps _ _ = ⊥

pub record ArePredsProved (raw : RawFacts) (f : System) (p : Fill) (ps zs : List Proof) (qs : List Asked) (ks : List ℕ) : Type 0 where
  pub adds : AddsProofs raw f ps zs
  pub roots : AddsChildrenBut (IsNamed ks) ps zs
  pub found : AreProofsFor raw f p zs qs ks

-- a predicate may be proved below the depth: it is Yes there, and what it reads as is right
pub record PredIsAsked (raw : RawFacts) (f : System) (n : ℕ) (p : Fill) (q : Asked) : Type 0 where
  pub done : PredIsDone p q
  pub yes : (known_below f n).Yes (record { kind = q.kind; parts = apply p q.parts })
  pub good : (m : ℕ) (u : Term) → n ≡ suc m → Reads (answers f m).Alias p q.parts u → IsGoodGoal q.kind u

pub record IsPredProved (raw : RawFacts) (f : System) (p : Fill) (ps zs : List Proof) (q : Asked) (number : ℕ) : Type 0 where
  pub adds : AddsProofs raw f ps zs
  pub roots : AddsOneRoot (Some number) ps zs
  pub found : IsProofFor raw f p zs q number

-- it has a source at the depth, and no clause is about it
pub record IsSourced (raw : RawFacts) (f : System) (n : ℕ) (c : Kind) (w : Term) : Type 0 where
  pub free : IsFree raw f c w
  pub unsized : is_among f.sized c ≡ false
  pub source : SomeOf (Proves (answers f n).Alias (known_below f n).Yes c w) f.rules ⊎ CopyYes f (known_below f n).Yes c w
