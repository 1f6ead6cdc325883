-- The table by its columns: what is said of each of them is said once. A column has an entry, where one is recorded, for each
-- expression, pattern, binding or written type.
use Rattle.std.specs.Prelude.{ℕ, ◌≡◌, List, [], length, map, replicate, Option, None}
use Rattle.std.specs.Option.{option_map}
use Rattle.infer_result.specs.Words.{VariantId, Ty, Assignment, folded, RawBody}
use Rattle.infer_result.specs.declared.result.InferenceResult.{InferenceResult}
use Rattle.infer_result.specs.declared.result.TypeMismatch.{TypeMismatch}
use Rattle.infer_result.specs.declared.diagnostics.InferenceDiagnostic.{InferenceDiagnostic}
use Rattle.infer_result.specs.declared.diagnostics.InferenceDiagnostic.TheVariants as diagnostic
use Rattle.infer_result.specs.declared.modes.BindingMode.{BindingMode}
use Rattle.infer_result.specs.Table.{At, mismatch}

-- ---- the columns, by the names of their lists

pub data Column : Type 0 where
  type_of_expr : Column
  type_of_pat : Column
  type_of_binding : Column
  item_of_pat : Column
  type_of_placeholder : Column
  binding_modes : Column
  expr_mismatches : Column
  expr_diagnostics : Column
  pat_mismatches : Column
  pat_diagnostics : Column
  expr_variants : Column
  pat_variants : Column

-- what an entry is; in a complaint at a pattern no type stands
pub data EntryKind : Type 0 where
  a_type : EntryKind
  a_mismatch : EntryKind
  a_diagnostic : EntryKind
  a_pat_diagnostic : EntryKind
  a_mode : EntryKind
  a_variant : EntryKind

abbrev pub entry_kind : Column → EntryKind
entry_kind type_of_expr = a_type
entry_kind type_of_pat = a_type
entry_kind type_of_binding = a_type
entry_kind item_of_pat = a_type
entry_kind type_of_placeholder = a_type
entry_kind binding_modes = a_mode
entry_kind expr_mismatches = a_mismatch
entry_kind expr_diagnostics = a_diagnostic
entry_kind pat_mismatches = a_mismatch
entry_kind pat_diagnostics = a_pat_diagnostic
entry_kind expr_variants = a_variant
entry_kind pat_variants = a_variant

abbrev pub EntryOf : EntryKind → Type 0
EntryOf a_type = Ty
EntryOf a_mismatch = TypeMismatch
EntryOf a_diagnostic = InferenceDiagnostic
EntryOf a_pat_diagnostic = InferenceDiagnostic
EntryOf a_mode = BindingMode
EntryOf a_variant = VariantId

abbrev pub Entry : Column → Type 0
Entry c = EntryOf (entry_kind c)

-- by which ids the entries stand
pub data Index : Type 0 where
  by_expr : Index
  by_pat : Index
  by_binding : Index
  by_written_type : Index

abbrev pub index : Column → Index
index type_of_expr = by_expr
index type_of_pat = by_pat
index type_of_binding = by_binding
index item_of_pat = by_pat
index type_of_placeholder = by_written_type
index binding_modes = by_pat
index expr_mismatches = by_expr
index expr_diagnostics = by_expr
index pat_mismatches = by_pat
index pat_diagnostics = by_pat
index expr_variants = by_expr
index pat_variants = by_pat

-- the entries of a column
abbrev pub Entries : Column → Type 0
Entries c = List (Option (Entry c))

abbrev pub col : InferenceResult → (c : Column) → Entries c
col r type_of_expr = r.type_of_expr
col r type_of_pat = r.type_of_pat
col r type_of_binding = r.type_of_binding
col r item_of_pat = r.item_of_pat
col r type_of_placeholder = r.type_of_placeholder
col r binding_modes = r.binding_modes
col r expr_mismatches = r.expr_mismatches
col r expr_diagnostics = r.expr_diagnostics
col r pat_mismatches = r.pat_mismatches
col r pat_diagnostics = r.pat_diagnostics
col r expr_variants = r.expr_variants
col r pat_variants = r.pat_variants

-- how many entries there are, where nothing is recorded yet
abbrev pub count_of : RawBody → Index → ℕ
count_of b by_expr = length b.exprs
count_of b by_pat = length b.pats
count_of b by_binding = length b.bindings
count_of b by_written_type = 0

-- nothing is recorded
abbrev pub no_entries : RawBody → (c : Column) → Entries c
no_entries b c = replicate (count_of b (index c)) None

-- the table of these columns, and nothing beside them
abbrev pub table_of : ((c : Column) → Entries c) → InferenceResult
table_of xs = record {
  type_of_expr = xs type_of_expr;
  type_of_pat = xs type_of_pat;
  type_of_binding = xs type_of_binding;
  item_of_pat = xs item_of_pat;
  type_of_placeholder = xs type_of_placeholder;
  binding_modes = xs binding_modes;
  expr_mismatches = xs expr_mismatches;
  expr_diagnostics = xs expr_diagnostics;
  pat_mismatches = xs pat_mismatches;
  pat_diagnostics = xs pat_diagnostics;
  expr_variants = xs expr_variants;
  pat_variants = xs pat_variants;
  seen = [];
  proofs = [];
  projections = [];
  expr_gaps = [];
  pat_gaps = [];
  general = None;
}

-- nothing is recorded in a table of the body
abbrev pub empty_table : RawBody → InferenceResult
empty_table b = table_of (no_entries b)

-- the table with these columns in the place of its own
abbrev pub with_columns : InferenceResult → ((c : Column) → Entries c) → InferenceResult
with_columns r xs = record (table_of xs) {
  seen = r.seen;
  proofs = r.proofs;
  projections = r.projections;
  expr_gaps = r.expr_gaps;
  pat_gaps = r.pat_gaps;
  general = r.general;
}

-- this entry is recorded in the column at n
abbrev pub IsIn : InferenceResult → (c : Column) → ℕ → Entry c → Type 0
IsIn r c n x = At (col r c) n x

-- ---- lengths

-- there are so many entries by these ids, of written types any number
abbrev pub IsLong : RawBody → Index → ℕ → Type 0
IsLong b by_expr n = n ≡ length b.exprs
IsLong b by_pat n = n ≡ length b.pats
IsLong b by_binding n = n ≡ length b.bindings
IsLong b by_written_type n = Unit {0}

-- ---- the types in an entry

-- the type that the complaint is about
abbrev pub AllInDiagnostic : (Ty → Type 0) → InferenceDiagnostic → Type 0
AllInDiagnostic P (diagnostic.MismatchedArgCount n expected found) = Unit {0}
AllInDiagnostic P (diagnostic.MismatchedTupleStructPatArgCount n expected found) = Unit {0}
AllInDiagnostic P (diagnostic.ExpectedFunction n found) = P found

-- each type in the entry has the property
abbrev pub AllIn : (Ty → Type 0) → (k : EntryKind) → EntryOf k → Type 0
AllIn P a_type t = P t
AllIn P a_mismatch m = P m.expected × P m.actual
AllIn P a_diagnostic d = AllInDiagnostic P d
AllIn P a_pat_diagnostic d = Unit {0}
AllIn P a_mode m = Unit {0}
AllIn P a_variant v = Unit {0}

-- ---- under an assignment

-- the same list of what is recorded, each entry under the function
abbrev pub each_under : {A : Type 0} → (A → A) → List (Option A) → List (Option A)
each_under f xs = map (option_map f) xs

-- both types under the assignment
abbrev pub mismatch_under : Assignment → TypeMismatch → TypeMismatch
mismatch_under a m = mismatch (folded a m.expected) (folded a m.actual)

-- of a complaint that what is called is no function, the type of that
abbrev pub diagnostic_under : Assignment → InferenceDiagnostic → InferenceDiagnostic
diagnostic_under a (diagnostic.MismatchedArgCount n expected found) = diagnostic.MismatchedArgCount n expected found
diagnostic_under a (diagnostic.MismatchedTupleStructPatArgCount n expected found) =
    diagnostic.MismatchedTupleStructPatArgCount n expected found
diagnostic_under a (diagnostic.ExpectedFunction n found) = diagnostic.ExpectedFunction n (folded a found)

-- each type in the entry under the assignment
abbrev pub entry_under : Assignment → (k : EntryKind) → EntryOf k → EntryOf k
entry_under a a_type t = folded a t
entry_under a a_mismatch m = mismatch_under a m
entry_under a a_diagnostic d = diagnostic_under a d
entry_under a a_pat_diagnostic d = d
entry_under a a_mode m = m
entry_under a a_variant v = v

-- so each of the list; where entries have no types it stays
abbrev pub entries_under : Assignment → (k : EntryKind) → List (Option (EntryOf k)) → List (Option (EntryOf k))
entries_under a a_type xs = each_under (folded a) xs
entries_under a a_mismatch xs = each_under (mismatch_under a) xs
entries_under a a_diagnostic xs = each_under (diagnostic_under a) xs
entries_under a a_pat_diagnostic xs = xs
entries_under a a_mode xs = xs
entries_under a a_variant xs = xs

abbrev pub column_under : Assignment → InferenceResult → (c : Column) → Entries c
column_under a r c = entries_under a (entry_kind c) (col r c)

-- ---- complaints

-- the entries are complaints
abbrev pub AreComplaints : EntryKind → Type 0
AreComplaints a_mismatch = Unit {0}
AreComplaints a_diagnostic = Unit {0}
AreComplaints a_pat_diagnostic = Unit {0}
AreComplaints _ = ⊥
