-- The types of a plain body with holes for what nothing decides, and the tables that types for these holes
-- make.
use Rattle.std.specs.Prelude.{◌≡◌, ◌<◌, ℕ, List, length, map, slice_get, Option, Some, None, IsTrue}
use Rattle.infer_result.specs.Words.{AdtId, CallableDefId, DefWithBodyId, IntegerTy, Ty, integer_type, Assignment, folded, RawBody, RawFacts, body_of, IsPlainBodyOf, IsPlainIn, are_direct_structs, Scope, scope_of, adt_params, callable_params, has_params, type_args, fallback}
use Rattle.hir_types.specs.declared.ty.Ty.TheVariants as ty
use Rattle.infer_result.specs.declared.result.General.{General}
use Rattle.infer_result.specs.declared.result.InferenceResult.{InferenceResult}
use Rattle.infer_result.specs.Derivation.{HasNoComplaint, IsDerivation}

-- ---- types with holes

-- A hole for any type or for integer types, or a type of the kinds that are carried, each part of it of
-- these. So `{unknown}` does not stand in it.
pub data IsGeneralType (sc : Scope) : Ty → Type 0 where
  general_hole : (n : ℕ) → IsGeneralType sc (ty.Var n)
  general_integer_hole : (n : ℕ) → IsGeneralType sc (ty.IntVar n)
  general_bool : IsGeneralType sc ty.Bool
  general_char : IsGeneralType sc ty.Char
  general_integer : (i : IntegerTy) → IsGeneralType sc (integer_type i)
  general_tuple : (ts : List Ty) → ((k : ℕ) (u : Ty) → slice_get ts k ≡ Some u → IsGeneralType sc u)
      → IsGeneralType sc (ty.Tuple ts)
  general_adt : (a : AdtId) (ts : List Ty) → IsTrue (has_params (adt_params sc.facts a) (length ts))
      → ((k : ℕ) (u : Ty) → slice_get ts k ≡ Some u → IsGeneralType sc u)
      → IsGeneralType sc (ty.Adt a (type_args ts))
  general_item : (i : CallableDefId) (ts : List Ty)
      → IsTrue (has_params (callable_params sc.facts i) (length ts))
      → ((k : ℕ) (u : Ty) → slice_get ts k ≡ Some u → IsGeneralType sc u)
      → IsGeneralType sc (ty.FnDef i (type_args ts))
  general_param : (n : ℕ) → n < sc.params → IsGeneralType sc (ty.Param n)

abbrev pub AreGeneralTypes : Scope → List Ty → Type 0
AreGeneralTypes sc ts = (k : ℕ) (u : Ty) → slice_get ts k ≡ Some u → IsGeneralType sc u

-- a type for each node and each binding of the body, of these kinds
pub record IsGeneralFor (sc : Scope) (b : RawBody) (x : General) : Type 0 where
  pub exprs_count : length x.exprs ≡ length b.exprs
  pub pats_count : length x.pats ≡ length b.pats
  pub bindings_count : length x.bindings ≡ length b.bindings
  pub exprs : AreGeneralTypes sc x.exprs
  pub pats : AreGeneralTypes sc x.pats
  pub bindings : AreGeneralTypes sc x.bindings

-- ---- types for the holes

-- recorded types: each of these under the assignment
abbrev pub types_under : Assignment → List Ty → List (Option Ty)
types_under a ts = map (λ t. Some (folded a t)) ts

-- the types of the table are these under the assignment
pub record HasTypesOf (x : General) (a : Assignment) (r : InferenceResult) : Type 0 where
  pub exprs : r.type_of_expr ≡ types_under a x.exprs
  pub pats : r.type_of_pat ≡ types_under a x.pats
  pub bindings : r.type_of_binding ≡ types_under a x.bindings

-- plain types stand for holes, integer types for holes of integer types
pub record GivesPlain (sc : Scope) (a : Assignment) : Type 0 where
  pub var : (n : ℕ) → IsPlainIn sc (a.var n)
  pub int_var : (n : ℕ) → (i : IntegerTy) × (a.int_var n ≡ integer_type i)

-- The types of the table are these with plain types in the place of holes, integer types in that of integer
-- holes. Of what else is in the table nothing is said.
pub record IsPlainClosing (sc : Scope) (x : General) (r : InferenceResult) : Type 0 where
  pub types : Assignment
  pub are_plain : GivesPlain sc types
  pub has : HasTypesOf x types r

-- the table with these types under the assignment in the place of its own
abbrev pub closed_by : Assignment → General → InferenceResult → InferenceResult
closed_by a x r =
    record r {
      type_of_expr = types_under a x.exprs;
      type_of_pat = types_under a x.pats;
      type_of_binding = types_under a x.bindings;
    }

-- ---- of a table

-- These are types for the definition's body, with holes. Where open holes fall back to `i32` or `{unknown}`
-- they are the table's, and where no complaint stands in that, each choice of plain types for the holes, of
-- integer types for integer holes, makes a derivation of it, in facts where no associated type stands in a
-- field of a struct.
pub record IsGeneralOf (raw : RawFacts) (d : DefWithBodyId) (r : InferenceResult) (x : General) : Type 0 where
  pub body : RawBody
  pub is_body : body_of raw d ≡ Some body
  pub types : IsGeneralFor (scope_of raw d) body x
  pub falls_back : HasTypesOf x fallback r
  pub closings : IsTrue (are_direct_structs raw) → HasNoComplaint r → (a : Assignment) → GivesPlain (scope_of raw d) a
      → IsDerivation raw d (closed_by a x r)

-- the table has such types exactly where the body is plain
pub record HasGeneral (raw : RawFacts) (d : DefWithBodyId) (r : InferenceResult) : Type 0 where
  pub plain : IsPlainBodyOf raw d → (x : General) × (r.general ≡ Some x) × IsGeneralOf raw d r x
  pub other : (IsPlainBodyOf raw d → ⊥) → r.general ≡ None
