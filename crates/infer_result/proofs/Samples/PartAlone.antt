-- A body with the parameter `(_,)`: while that has a hole for its type, its part obeys its rule at any type, and with a tuple in the
-- place of the hole it no longer does. So the law of a part asks that the whole obey too.
use Rattle.std.proofs.Common.{◌+◌, ◌<◌, ◌≡◌, inl, inr, refl, sym, ap, ◌∙◌, arith, List, [], ◌∷◌, Some, None}
use Rattle.hir_types.specs.declared.ids.ExprOrPatId.TheVariants as node
use Rattle.hir_types.specs.declared.ty.Const.TheVariants as const
use Rattle.infer_result.specs.Words.{Ty, Ty-F, out-Ty, out-roll-Ty, replaced_bool, replaced_var, Assignment, with_holes, folded, unit, RawBody, Schedule, subpattern, the_body, inner, IsSchedule, start, end, after, Fits, parts}
use Rattle.hir_types.specs.declared.ty.Ty.TheVariants as ty
use Rattle.infer_result.specs.Words.hir_raw.declared.raw.RawExpr.TheVariants as expr
use Rattle.infer_result.specs.Words.hir_raw.declared.raw.RawPat.TheVariants as pat
use Rattle.infer_result.specs.Own.{empty_table, InferenceResult, Given, StandsAt, PatIsAtOrMismatch, Incoming, ObeysPattern, table_under}
use Rattle.infer_result.proofs.Under.{At-before, pat_type_under}
use Rattle.infer_result.proofs.Samples.Small.{scope_with, e, p, body_with, each_node, apart_by, comes, only, top_bool, top_tuple}

abbrev body : RawBody
body = body_with (p 0 ∷ []) (expr.Tuple [] ∷ []) 0 (pat.Tuple (p 1 ∷ []) ∷ pat.Wild ∷ []) []

abbrev given : Given
given = record { scope = scope_with []; body = body; inputs = []; output = Some unit; aliases = [] }

abbrev schedule : Schedule
schedule = record { starts = 3 ∷ 1 ∷ 2 ∷ 0 ∷ []; ends = 4 ∷ 3 ∷ 3 ∷ 4 ∷ []; depths = 1 ∷ 1 ∷ 2 ∷ 0 ∷ [] }

is_schedule : IsSchedule body schedule
is_schedule = record {
  starts_size = refl;
  ends_size = refl;
  first = refl;
  fits = each_node body (λ n. Fits body schedule (start body schedule n + 1) (parts body n)) ((omega arith, refl, (omega arith, refl, tt)), (tt, tt), ((tt, (omega arith, refl, tt)), tt));
  ends = each_node body (λ n. after body schedule (start body schedule n + 1) (parts body n) ≡ end body schedule n) (refl, (tt, refl), ((tt, refl), refl));
  order = each_node body (λ n. start body schedule n < end body schedule n) (omega arith, (tt, omega arith), ((tt, omega arith), omega arith));
  reached = each_node body (λ n. start body schedule n < end body schedule the_body) (omega arith, (tt, omega arith), ((tt, omega arith), omega arith));
  apart = apart_by body schedule (the_body ∷ inner (node.PatId (p 0)) ∷ inner (node.PatId (p 1)) ∷ inner (node.ExprId (e 0)) ∷ []) (refl, (tt, refl), ((tt, refl), refl));
}

-- a hole for the type of the whole, and a part at `bool`
abbrev table : InferenceResult
table = record (empty_table given.body) {
  type_of_expr = Some unit ∷ [];
  type_of_pat = Some (ty.Var 0) ∷ Some ty.Bool ∷ [];
}

abbrev single : Ty
single = ty.Tuple (ty.Char ∷ [])

-- the tuple for the hole
abbrev filled : Assignment
filled = record { var = λ n. single; int_var = ty.IntVar; const_var = const.Var }

part_stands : StandsAt body (node.PatId (p 1)) (inner (node.PatId (p 0))) 0 (subpattern 0)
part_stands = record { node_is = omega arith; part = refl }

top_var : out-Ty (ty.Var 0) ≡ Ty-F.Var 0
top_var = ap out-Ty (sym (ty.rolls-Var 0)) ∙ out-roll-Ty (Ty-F.Var 0)

top_char : out-Ty ty.Char ≡ Ty-F.Char
top_char = ap out-Ty (sym ty.rolls-Char) ∙ out-roll-Ty Ty-F.Char

hole_is_no_tuple : (ts : List Ty) → ty.Var 0 ≡ ty.Tuple ts → ⊥
hole_is_no_tuple ts h = (let k : Ty-F.Var 0 ≡ Ty-F.Tuple ts = sym top_var ∙ (ap out-Ty h ∙ top_tuple ts) in cc)

bool_is_no_char : ty.Bool ≡ ty.Char → ⊥
bool_is_no_char h = (let k : Ty-F.Bool ≡ Ty-F.Char = sym top_bool ∙ (ap out-Ty h ∙ top_char) in cc)

nothing_comes : (s : Ty) → Incoming given table (p 1) s → ⊥
nothing_comes s c = elim (comes given schedule is_schedule table (p 1) (inner (node.PatId (p 0))) 0 (subpattern 0) s part_stands c) [
  | inl h ↦ hole_is_no_tuple h.types (only (ty.Var 0) (ty.Tuple h.types) h.has)
  | inr f ↦ (let is = f.is_pat in cc)
]

pub part_obeys : ObeysPattern given table (p 1)
part_obeys = record { incoming = λ s c. absurd (nothing_comes s c); kind = (ty.Bool, refl) }

char_comes : Incoming given (table_under filled table) (p 1) ty.Char
char_comes = record {
  parent = inner (node.PatId (p 0));
  at_part = 0;
  role = subpattern 0;
  stands = part_stands;
  gives = inl (record { types = ty.Char ∷ []; has = pat_type_under filled table (p 0) (ty.Var 0) single refl (replaced_var (with_holes filled) 0); component = refl });
}

no_char : PatIsAtOrMismatch given (table_under filled table) (p 1) ty.Char → ⊥
no_char (s, has, inl is) =
    let x = At-before (folded filled) table.type_of_pat 1 s has in
    bool_is_no_char (sym (replaced_bool (with_holes filled)) ∙ (ap (folded filled) (only ty.Bool x.0 x.1) ∙ (x.2 ∙ is)))
no_char (s, has, inr misfits) = misfits

pub part_fails : ObeysPattern given (table_under filled table) (p 1) → ⊥
part_fails h = no_char (h.incoming ty.Char char_comes)
