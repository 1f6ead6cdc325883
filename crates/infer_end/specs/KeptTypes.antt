-- What is kept of the types of a plain body before open holes fall back.
use Rattle.std.specs.Prelude.{ℕ, ◌<◌, List, length, Option, ◌≡◌, map, Some, option_map, ◌⊎◌, None}
use Rattle.infer_end.specs.Words.{Ty, DefWithBodyId, RawFacts, IsPlainBodyOf, State, resolved_type, At, InferenceResult, General, InferenceContext, with_general}

-- a type is recorded at each place
abbrev pub IsFull : List (Option Ty) → Type 0
IsFull ts = (n : ℕ) → n < length ts → (t : Ty) × At ts n t

pub record HasAllTypes (r : InferenceResult) : Type 0 where
  pub exprs : IsFull r.type_of_expr
  pub pats : IsFull r.type_of_pat
  pub bindings : IsFull r.type_of_binding

-- the second types are the first, recorded ones, with what is known of their holes, and those that are open left as they are
abbrev pub AreResolved : State → List (Option Ty) → List Ty → Type 0
AreResolved state ts us = map Some us ≡ map (option_map (resolved_type state)) ts

pub record HoldsResolved (state : State) (r : InferenceResult) (x : General) : Type 0 where
  pub exprs : AreResolved state r.type_of_expr x.exprs
  pub pats : AreResolved state r.type_of_pat x.pats
  pub bindings : AreResolved state r.type_of_binding x.bindings

-- these types are kept exactly where the body is plain, and nothing else is done
abbrev pub KeepsGeneral : RawFacts → DefWithBodyId → InferenceContext → InferenceContext → Type 0
KeepsGeneral raw d old new =
    (IsPlainBodyOf raw d × ((x : General) × HoldsResolved old.goals.table old.result x × (new ≡ with_general old (Some x))))
    ⊎ ((IsPlainBodyOf raw d → ⊥) × (new ≡ with_general old None))
