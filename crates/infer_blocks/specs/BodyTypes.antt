-- What the reading of the written type of a `let` is given, and what it does.
use Rattle.std.specs.Prelude.{◌≡◌, ℕ, Option, Some, None, ◌⊎◌, length, ◌<◌, List, slice_get}
use Rattle.hir_types.specs.declared.ids.TypeRefId.{TypeRefId}
use Rattle.hir_types.specs.declared.head.HoleKind.TheVariants as kind
use Rattle.hir_types.specs.declared.ty.Ty.{Ty}
use Rattle.hir_types.specs.declared.ty.Ty.TheVariants as ty
use Rattle.hir_types.specs.declared.ids.ExprId.{ExprId}
use Rattle.hir_types.specs.declared.ids.PatId.{PatId}
use Rattle.hir_types.specs.Subst.{Assignment, folded}
use Rattle.hir_raw.specs.declared.schedule.Schedule.{Schedule}
use Rattle.hir_raw.specs.Order.{stmt_at}
use Rattle.hir_raw.specs.WrittenTypes.{filled_type, StandsIn}
use Rattle.hir_raw.specs.declared.raw.RawStmt.TheVariants as stmt
use Rattle.infer_table.specs.Table.{Grew, hole_count, with_new_hole}
use Rattle.infer_ctx.specs.Words.{StaysButHoles}
use Rattle.infer_result.specs.Places.{Given, let_types, declared, AreRecorded, IsPlaceholder, IsAsKnown}
use Rattle.infer_result.specs.Table.{PlaceholderTy, recorded}
use Rattle.infer_ctx.specs.Context.{with_table}
use Rattle.infer_ctx.specs.Found.{Found}
use Rattle.infer_ctx.specs.Walks.{Walks, Nothing}
use Rattle.infer_ctx.specs.declared.context.InferenceContext.{InferenceContext}
use Rattle.infer_ctx.specs.Under.{IsReady}
use Rattle.infer_ctx.specs.Steps.{IsWalking, Follows}
use Rattle.infer_ctx.specs.Fine.{IsFine, IsCarriedIn}
use Rattle.infer_ctx.specs.Closings.{Closes, found_under, IsSound}

-- the written type of a `let` stands for t, and for each `_` in it the type is recorded that it stands for
pub record BodyTyWalked (g : Given) (s : Schedule) (w : TypeRefId) (t : Ty) (old new : Found) : Type 0 where
  pub walks : Walks g s Nothing old new
  pub clock : new.clock ≡ old.clock
  pub is : t ≡ declared g new.result w
  pub recorded : AreRecorded g new.result w

-- the written type of a `let` is to be read
pub record BeforeBodyTy (g : Given) (s : Schedule) (w : TypeRefId) (c : InferenceContext) : Type 0 where
  pub ready : IsReady g s
  pub state : IsWalking g s c
  pub block : ExprId
  pub at_stmt : ℕ
  pub pattern : PatId
  pub init : Option ExprId
  pub other : Option ExprId
  pub is_let : stmt_at g.body block at_stmt ≡ Some (stmt.Let pattern (Some w) init other)

-- it stands for t, where each `_` in it stands for the type that is recorded
pub record BodyTyDone (g : Given) (s : Schedule) (w : TypeRefId) (t : Ty) (old new : InferenceContext) : Type 0 where
  pub follows : Follows g old new
  pub clock : new.clock ≡ old.clock
  pub fine : IsFine g.scope new.goals.table t
  pub filled : (h : ℕ → Ty) × (t ≡ filled_type h (let_types g) w)
  pub each : (a : Assignment) → Closes a new → BodyTyWalked g s w (folded a t) (found_under a old) (found_under a new)

-- Types are recorded for `_`s that had none, what is known or holes that are made for them. Nothing else is done.
pub record AddsPlaceholders (g : Given) (old new : InferenceContext) : Type 0 where
  pub result : new.result ≡ record old.result { type_of_placeholder = new.result.type_of_placeholder }
  pub asked : new.asked ≡ old.asked
  pub clock : new.clock ≡ old.clock
  pub grew : Grew old.goals.table new.goals.table
  pub stays : StaysButHoles old.goals new.goals
  pub sound : IsSound g.scope new
  pub kept : (k : ℕ) (t : Ty) → PlaceholderTy old.result k t → PlaceholderTy new.result k t
  pub only : (k : ℕ) (t : Ty) → PlaceholderTy new.result k t → PlaceholderTy old.result k t ⊎ (IsPlaceholder g k × IsAsKnown g k t)

-- a written type, part of that of a `let`, is to be read
pub record BeforePartTy (g : Given) (w : TypeRefId) (c : InferenceContext) : Type 0 where
  pub sound : IsSound g.scope c
  pub within : w.0 < length g.scope.facts.types
  pub placeholders : (k : ℕ) → StandsIn (let_types g) k w.0 → IsPlaceholder g k
  pub known : (k : ℕ) (t : Ty) → recorded g.aliases k ≡ Some t → IsCarriedIn g.scope t

-- it stands for t, where each `_` in it stands for the type that is recorded
pub record PartTyDone (g : Given) (w : TypeRefId) (t : Ty) (old new : InferenceContext) : Type 0 where
  pub adds : AddsPlaceholders g old new
  pub is : t ≡ declared g new.result w
  pub recorded : AreRecorded g new.result w

-- written types, parts of that of a `let`, are to be read
pub record BeforePartTys (g : Given) (ws : List TypeRefId) (c : InferenceContext) : Type 0 where
  pub sound : IsSound g.scope c
  pub each : (i : ℕ) (w : TypeRefId) → slice_get ws i ≡ Some w → BeforePartTy g w c

-- of each `_` in them a type is recorded
pub record PartTysDone (g : Given) (ws : List TypeRefId) (old new : InferenceContext) : Type 0 where
  pub adds : AddsPlaceholders g old new
  pub recorded : (i : ℕ) (w : TypeRefId) → slice_get ws i ≡ Some w → AreRecorded g new.result w

-- the type t is recorded for the `_`
pub record PlaceholderTyDone (g : Given) (w : TypeRefId) (t : Ty) (old new : InferenceContext) : Type 0 where
  pub adds : AddsPlaceholders g old new
  pub recorded : PlaceholderTy new.result w.0 t

-- a `_` stands for t at first: for what is known of it, and nothing is done, or for a new hole
abbrev pub IsFirstTy : Given → TypeRefId → Ty → InferenceContext → InferenceContext → Type 0
IsFirstTy g w t old new =
    ((recorded g.aliases w.0 ≡ Some t) × (new ≡ old))
    ⊎ ((recorded g.aliases w.0 ≡ None) × (t ≡ ty.Var (hole_count old.goals.table))
    × (new ≡ with_table old (with_new_hole old.goals.table kind.Ty)))
