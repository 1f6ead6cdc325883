-- What holds of each type of a table, and what assignments do to it, column by column.
use Rattle.std.proofs.Common.{ℕ, ◌≡◌, refl, ap, ◌∙◌, subst, List, length, Option, option_map}
use Rattle.std.proofs.lemmas.List.{length-map}
use Rattle.infer_result.specs.Words.{RawBody, Ty, Assignment, folded}
use Rattle.infer_result.specs.Own.{InferenceResult, InferenceDiagnostic, At, Column, Entry, EntryKind, EntryOf, Entries, entry_kind, index, col, with_columns, IsIn, IsLong, IsOfBody, AllInDiagnostic, AllIn, AllTypes, mismatch_under, diagnostic_under, entry_under, entries_under, table_under}
use Rattle.infer_result.specs.Columns as column
use Rattle.infer_result.specs.declared.diagnostics.InferenceDiagnostic.TheVariants as diagnostic
use Rattle.infer_result.proofs.Under.{At-under, At-before}

-- ---- what holds of each type

-- gives what follows
diagnostic_every : (P Q : Ty → Type 0) → ((t : Ty) → P t → Q t) → (d : InferenceDiagnostic) → AllInDiagnostic P d → AllInDiagnostic Q d
diagnostic_every P Q f (diagnostic.MismatchedArgCount n expected found) h = h
diagnostic_every P Q f (diagnostic.MismatchedTupleStructPatArgCount n expected found) h = h
diagnostic_every P Q f (diagnostic.ExpectedFunction n found) h = f found h

entry_every : (P Q : Ty → Type 0) → ((t : Ty) → P t → Q t) → (k : EntryKind) (x : EntryOf k) → AllIn P k x → AllIn Q k x
entry_every P Q f column.a_type x h = f x h
entry_every P Q f column.a_mismatch x h = (f x.expected h.0, f x.actual h.1)
entry_every P Q f column.a_diagnostic x h = diagnostic_every P Q f x h
entry_every P Q f _ x h = h

pub every_type : (P Q : Ty → Type 0) (t : InferenceResult) → ((s : Ty) → P s → Q s) → AllTypes P t → AllTypes Q t
every_type P Q t f h = record { each = λ c n x at. entry_every P Q f (entry_kind c) x (h.each c n x at) }

-- two properties are one
diagnostic_both : (P Q : Ty → Type 0) (d : InferenceDiagnostic) → AllInDiagnostic P d → AllInDiagnostic Q d → AllInDiagnostic (λ t. P t × Q t) d
diagnostic_both P Q (diagnostic.MismatchedArgCount n expected found) h k = h
diagnostic_both P Q (diagnostic.MismatchedTupleStructPatArgCount n expected found) h k = h
diagnostic_both P Q (diagnostic.ExpectedFunction n found) h k = (h, k)

entry_both : (P Q : Ty → Type 0) (e : EntryKind) (x : EntryOf e) → AllIn P e x → AllIn Q e x → AllIn (λ t. P t × Q t) e x
entry_both P Q column.a_type x h k = (h, k)
entry_both P Q column.a_mismatch x h k = ((h.0, k.0), (h.1, k.1))
entry_both P Q column.a_diagnostic x h k = diagnostic_both P Q x h k
entry_both P Q _ x h k = h

pub types_both : (P Q : Ty → Type 0) (t : InferenceResult) → AllTypes P t → AllTypes Q t → AllTypes (λ s. P s × Q s) t
types_both P Q t h k = record { each = λ c n x at. entry_both P Q (entry_kind c) x (h.each c n x at) (k.each c n x at) }

-- ---- under an assignment

diagnostic_all_under : (a : Assignment) (P : Ty → Type 0) (d : InferenceDiagnostic) → AllInDiagnostic (λ t. P (folded a t)) d → AllInDiagnostic P (diagnostic_under a d)
diagnostic_all_under a P (diagnostic.MismatchedArgCount n expected found) h = h
diagnostic_all_under a P (diagnostic.MismatchedTupleStructPatArgCount n expected found) h = h
diagnostic_all_under a P (diagnostic.ExpectedFunction n found) h = h

entry_all_under : (a : Assignment) (P : Ty → Type 0) (k : EntryKind) (x : EntryOf k) → AllIn (λ t. P (folded a t)) k x → AllIn P k (entry_under a k x)
entry_all_under a P column.a_type x h = h
entry_all_under a P column.a_mismatch x h = h
entry_all_under a P column.a_diagnostic x h = diagnostic_all_under a P x h
entry_all_under a P _ x h = h

-- an entry is where it was
pub entry_after : (a : Assignment) (k : EntryKind) (xs : List (Option (EntryOf k))) (n : ℕ) (x : EntryOf k) → At xs n x → At (entries_under a k xs) n (entry_under a k x)
entry_after a column.a_type xs n x h = At-under (folded a) xs n x h
entry_after a column.a_mismatch xs n x h = At-under (mismatch_under a) xs n x h
entry_after a column.a_diagnostic xs n x h = At-under (diagnostic_under a) xs n x h
entry_after a _ xs n x h = h

-- and comes from the one that was there
entry_was : (a : Assignment) (k : EntryKind) (xs : List (Option (EntryOf k))) (n : ℕ) (y : EntryOf k) → At (entries_under a k xs) n y → (x : EntryOf k) × At xs n x × (entry_under a k x ≡ y)
entry_was a column.a_type xs n y h = At-before (folded a) xs n y h
entry_was a column.a_mismatch xs n y h = At-before (mismatch_under a) xs n y h
entry_was a column.a_diagnostic xs n y h = At-before (diagnostic_under a) xs n y h
entry_was a column.a_pat_diagnostic xs n y h = (y, h, refl)
entry_was a column.a_mode xs n y h = (y, h, refl)
entry_was a column.a_variant xs n y h = (y, h, refl)

-- columns are as long as they were
pub entries_long : (a : Assignment) (k : EntryKind) (xs : List (Option (EntryOf k))) → length (entries_under a k xs) ≡ length xs
entries_long a column.a_type xs = length-map xs (option_map (folded a))
entries_long a column.a_mismatch xs = length-map xs (option_map (mismatch_under a))
entries_long a column.a_diagnostic xs = length-map xs (option_map (diagnostic_under a))
entries_long a _ xs = refl

-- ---- another list in the place of one column

abbrev pub with_column : InferenceResult → (c : Column) → Entries c → InferenceResult
with_column r column.type_of_expr xs = record r { type_of_expr = xs }
with_column r column.type_of_pat xs = record r { type_of_pat = xs }
with_column r column.type_of_binding xs = record r { type_of_binding = xs }
with_column r column.item_of_pat xs = record r { item_of_pat = xs }
with_column r column.type_of_placeholder xs = record r { type_of_placeholder = xs }
with_column r column.binding_modes xs = record r { binding_modes = xs }
with_column r column.expr_mismatches xs = record r { expr_mismatches = xs }
with_column r column.expr_diagnostics xs = record r { expr_diagnostics = xs }
with_column r column.pat_mismatches xs = record r { pat_mismatches = xs }
with_column r column.pat_diagnostics xs = record r { pat_diagnostics = xs }
with_column r column.expr_variants xs = record r { expr_variants = xs }
with_column r column.pat_variants xs = record r { pat_variants = xs }

-- what holds of that list, and of the columns as they were, holds of each column
pub each_with : (P : (k : Column) → Entries k → Type 0) (r : InferenceResult) (c : Column) (xs : Entries c) → P c xs → ((k : Column) → P k (col r k)) → (k : Column) → P k (col (with_column r c xs) k)
each_with P r column.type_of_expr xs h all column.type_of_expr = h
each_with P r column.type_of_expr xs h all k = all k
each_with P r column.type_of_pat xs h all column.type_of_pat = h
each_with P r column.type_of_pat xs h all k = all k
each_with P r column.type_of_binding xs h all column.type_of_binding = h
each_with P r column.type_of_binding xs h all k = all k
each_with P r column.item_of_pat xs h all column.item_of_pat = h
each_with P r column.item_of_pat xs h all k = all k
each_with P r column.type_of_placeholder xs h all column.type_of_placeholder = h
each_with P r column.type_of_placeholder xs h all k = all k
each_with P r column.binding_modes xs h all column.binding_modes = h
each_with P r column.binding_modes xs h all k = all k
each_with P r column.expr_mismatches xs h all column.expr_mismatches = h
each_with P r column.expr_mismatches xs h all k = all k
each_with P r column.expr_diagnostics xs h all column.expr_diagnostics = h
each_with P r column.expr_diagnostics xs h all k = all k
each_with P r column.pat_mismatches xs h all column.pat_mismatches = h
each_with P r column.pat_mismatches xs h all k = all k
each_with P r column.pat_diagnostics xs h all column.pat_diagnostics = h
each_with P r column.pat_diagnostics xs h all k = all k
each_with P r column.expr_variants xs h all column.expr_variants = h
each_with P r column.expr_variants xs h all k = all k
each_with P r column.pat_variants xs h all column.pat_variants = h
each_with P r column.pat_variants xs h all k = all k

pub long_with : (b : RawBody) (r : InferenceResult) (c : Column) (xs : Entries c) → IsLong b (index c) (length xs) → IsOfBody b r → IsOfBody b (with_column r c xs)
long_with b r c xs h all = record { long = each_with (λ k ys. IsLong b (index k) (length ys)) r c xs h all.long }

pub types_with : (P : Ty → Type 0) (r : InferenceResult) (c : Column) (xs : Entries c) → ((n : ℕ) (x : Entry c) → At xs n x → AllIn P (entry_kind c) x) → AllTypes P r → AllTypes P (with_column r c xs)
types_with P r c xs h all = record { each = each_with (λ k ys. (n : ℕ) (x : Entry k) → At ys n x → AllIn P (entry_kind k) x) r c xs h all.each }

-- ---- other things beside the columns

pub long_beside : (b : RawBody) (r s : InferenceResult) → IsOfBody b r → IsOfBody b (with_columns s (col r))
long_beside b r s h = record { long = long }
  where
    long : (c : Column) → IsLong b (index c) (length (col (with_columns s (col r)) c))
    long column.type_of_expr = h.long column.type_of_expr
    long c = h.long c

pub types_beside : (P : Ty → Type 0) (r s : InferenceResult) → AllTypes P r → AllTypes P (with_columns s (col r))
types_beside P r s h = record { each = each }
  where
    each : (c : Column) (n : ℕ) (x : Entry c) → IsIn (with_columns s (col r)) c n x → AllIn P (entry_kind c) x
    each column.type_of_expr = h.each column.type_of_expr
    each c = h.each c

-- the columns of a table are those that it is made of
pub columns_are : (r : InferenceResult) (xs : (c : Column) → Entries c) (c : Column) → col (with_columns r xs) c ≡ xs c
columns_are r xs column.type_of_expr = refl
columns_are r xs c = refl

-- what holds of each type of a list, and so of the type under the assignment, holds of each type of the list under it
pub entries_all_under : (F P : Ty → Type 0) (a : Assignment) → ((t : Ty) → F t → P (folded a t)) → (k : EntryKind) (xs : List (Option (EntryOf k))) → ((n : ℕ) (x : EntryOf k) → At xs n x → AllIn F k x) → (n : ℕ) (y : EntryOf k) → At (entries_under a k xs) n y → AllIn P k y
entries_all_under F P a f k xs all n y at =
    let q = entry_was a k xs n y at in
    subst (AllIn P k) q.2 (entry_all_under a P k q.0 (entry_every F (λ t. P (folded a t)) f k q.0 (all n q.0 q.1)))
