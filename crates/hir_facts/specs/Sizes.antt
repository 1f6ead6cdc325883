-- How long lists may be, and how deep trees and types.
use Rattle.std.specs.Prelude.{ℕ, ◌<◌, ◌≤◌, ◌^◌, ◌≡◌, List, length, slice_get, Some, IfSome}
use Rattle.hir_facts.specs.Words.{RawType, Mention, RawGoal, RawTrait, RawAlias, RawImpl, RawAdt, RawVariant, RawFn, RawBody, RawFacts, arg_types, AllMentioned, IsLow, depth, size, type_parts, lowered}
use Rattle.hir_raw.specs.declared.mention.Mention.TheVariants as it
use Rattle.hir_raw.specs.declared.raw.RawGoal.TheVariants as goal

-- a list of at most 2 ^ 20 entries
abbrev pub IsShort : {A : Type 0} → List A → Type 0
IsShort xs = length xs ≤ 2 ^ 20

-- an entry with this index may stand in a list
abbrev pub IsEarly : ℕ → Type 0
IsEarly i = i < 2 ^ 20

-- a type, written out
pub record TypeIsSmall (raw : RawFacts) (i : ℕ) (t : RawType) : Type 0 where
  pub early : IsEarly i
  pub parts : IsShort (type_parts t)
  pub low : depth (lowered raw.types i) ≤ 64
  pub small : size (lowered raw.types i) ≤ 4096

-- the arguments of a goal are few
abbrev pub GoalIsShort : RawGoal → Type 0
GoalIsShort (goal.Trait r) = IsShort (arg_types r.args)
GoalIsShort (goal.Projection a xs t) = IsShort (arg_types xs)

pub record GoalsAreShort (gs : List RawGoal) : Type 0 where
  pub all : IsShort gs
  pub each : (k : ℕ) (g : RawGoal) → slice_get gs k ≡ Some g → GoalIsShort g

pub record TraitIsSmall (i : ℕ) (t : RawTrait) : Type 0 where
  pub early : IsEarly i
  pub params : IsShort t.params
  pub preds : GoalsAreShort t.preds
  pub fns : IsShort t.fns
  pub consts : IsShort t.consts
  pub types : IsShort t.types

pub record AliasIsSmall (i : ℕ) (a : RawAlias) : Type 0 where
  pub early : IsEarly i
  pub bounds : GoalsAreShort a.bounds

pub record ImplIsSmall (i : ℕ) (p : RawImpl) : Type 0 where
  pub early : IsEarly i
  pub trait_ : IfSome p.trait_ (λ r. IsShort (arg_types r.args))
  pub params : IsShort p.params
  pub preds : GoalsAreShort p.preds
  pub fns : IsShort p.fns
  pub consts : IsShort p.consts
  pub types : IsShort p.types

pub record AdtIsSmall (i : ℕ) (a : RawAdt) : Type 0 where
  pub early : IsEarly i
  pub params : IsShort a.params
  pub preds : GoalsAreShort a.preds
  pub variants : IsShort a.variants

pub record VariantIsSmall (i : ℕ) (v : RawVariant) : Type 0 where
  pub early : IsEarly i
  pub fields : IsShort v.fields

pub record FnIsSmall (i : ℕ) (f : RawFn) : Type 0 where
  pub early : IsEarly i
  pub params : IsShort f.params
  pub preds : GoalsAreShort f.preds
  pub inputs : IsShort f.inputs

-- a list that is mentioned is short
abbrev pub ListIsShort : Mention → Type 0
ListIsShort (it.List n) = n ≤ 2 ^ 20
ListIsShort _ = Unit {0}

pub record BodyIsSmall (i : ℕ) (b : RawBody) : Type 0 where
  pub early : IsEarly i
  pub traits : IsShort b.traits
  pub exprs : IsShort b.exprs
  pub pats : IsShort b.pats
  pub bindings : IsShort b.bindings
  pub labels : b.labels ≤ 2 ^ 20
  pub lists : AllMentioned (λ n m. ListIsShort m) b
  pub low : IsLow 256 b
