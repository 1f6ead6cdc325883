-- Tables and contexts under closed types for holes, and what writes do to them.
use Rattle.std.proofs.Common.{ℕ, zero, suc, ◌≡◌, refl, sym, ap, ◌∙◌, List, [], ◌∷◌, map, length, Option, Some, None, option_map, slice_get, slice_set, ◌⊎◌, inl, inr, Bool, true, false, ◌++◌, ◌+◌, take, subst}
use Rattle.std.proofs.lemmas.List.{length-map, map-set, length-set, map-append}
use Rattle.std.proofs.lemmas.Option.{slice_get-map}
use Rattle.infer_ctx.specs.Words.{Assignment, folded, BindingId, ExprId, PatId, Ty, terms_of, Term, Hole, RawBody, Scope, bindings, State, Meets, Grew, solves_left, Log, Solves, entry, Waiting, waiting, At, TypeMismatch, InferenceResult, Column, entry_kind, index, col, IsLong, AllInDiagnostic, IsOfBody, AllTypes, AllSeen, BindingMode, Seen, InferenceDiagnostic}
use Rattle.infer_ctx.proofs.Words.{ty_decides, entries_long, long_beside, long_with, types_beside, types_with}
use Rattle.infer_ctx.specs.Words.infer_table.Solutions.{log_of}
use Rattle.infer_result.specs.declared.modes.BindingMode.TheVariants as mode
use Rattle.infer_result.specs.declared.diagnostics.InferenceDiagnostic.TheVariants as diagnostic
use Rattle.infer_ctx.specs.Own.{IsFree, closed_mismatch, closed_mismatches, same_types, unless_same, asked_or_noted, entry_of, first_asked, others_asked, closed_table, found_under, Closes, IsDecided, AskedIsKept, IsSound, InferenceContext, IsFine}
use Rattle.infer_ctx.specs.Found as found
use Rattle.infer_ctx.specs.Context as context
use Rattle.infer_ctx.proofs.Lists.{take_next, length-noted, noted-cases, put-cases}
use Rattle.infer_ctx.proofs.Said.{noted-cons, length-said, said-noted, said-push}
use Rattle.infer_result.specs.Columns as column

-- ---- lists of what is recorded, each under a function
module _ {A B : Type 0} (f : A → B) where
  pub At-closed : (xs : List (Option A)) (n : ℕ) (x : A) → At xs n x → At (map (option_map f) xs) n (f x)
  At-closed xs n x h = slice_get-map (option_map f) xs n ∙ ap (option_map (option_map f)) h

  pub At-unclosed : (xs : List (Option A)) (n : ℕ) (y : B) → At (map (option_map f) xs) n y → (x : A) × At xs n x × (f x ≡ y)
  At-unclosed [] n y h = absurd (cc)
  At-unclosed (None ∷ xs) zero y h = absurd (cc)
  At-unclosed (Some x ∷ xs) zero y h = (x, refl, cc)
  At-unclosed (o ∷ xs) (suc n) y h = At-unclosed xs n y h

  pub length-closed : (xs : List (Option A)) → length (map (option_map f) xs) ≡ length xs
  length-closed xs = length-map xs (option_map f)

  pub set-closed : (xs : List (Option A)) (n : ℕ) (x : A) → map (option_map f) (slice_set xs n (Some x)) ≡ slice_set (map (option_map f) xs) n (Some (f x))
  set-closed xs n x = map-set (option_map f) xs n (Some x)

-- what is noted, under a function
module _ (f : TypeMismatch → TypeMismatch) where
  noted-closed_where : (xs : List (Option TypeMismatch)) (n : ℕ) (m : TypeMismatch) (o : Option (Option TypeMismatch)) → map (option_map f) (found.noted_where o xs n m) ≡ found.noted_where (option_map (option_map f) o) (map (option_map f) xs) n (f m)
  noted-closed_where xs n m None = refl
  noted-closed_where xs n m (Some None) = set-closed f xs n m
  noted-closed_where xs n m (Some (Some x)) = refl

  pub noted-closed : (xs : List (Option TypeMismatch)) (n : ℕ) (m : TypeMismatch) → map (option_map f) (found.noted xs n m) ≡ found.noted (map (option_map f) xs) n (f m)
  noted-closed xs n m =
      noted-closed_where xs n m (slice_get xs n) ∙ ap (λ o. found.noted_where o (map (option_map f) xs) n (f m)) (sym (slice_get-map (option_map f) xs n))

-- ---- mismatches, asked or noted
module _ (a : Assignment) where
  abbrev closing : TypeMismatch → TypeMismatch
  closing = closed_mismatch a

  abbrev closed : List (Option TypeMismatch) → List (Option TypeMismatch) → List (Option TypeMismatch)
  closed = closed_mismatches a

  abbrev are_same : TypeMismatch → Bool
  are_same m = same_types (folded a m.expected) (folded a m.actual)

  pub length-closed_mismatches : (qs xs : List (Option TypeMismatch)) → length (closed qs xs) ≡ length xs
  length-closed_mismatches qs [] = refl
  length-closed_mismatches qs (x ∷ xs) = ap suc (length-closed_mismatches (others_asked qs) xs)

  -- the first that is noted stays, also where something was asked
  abbrev first_of : Option TypeMismatch → TypeMismatch → Option TypeMismatch
  first_of None m = Some m
  first_of (Some y) m = Some y

  noted_zero : (x : Option TypeMismatch) (xs : List (Option TypeMismatch)) (m : TypeMismatch) → found.noted (x ∷ xs) zero m ≡ first_of x m ∷ xs
  noted_zero None xs m = refl
  noted_zero (Some y) xs m = refl

  noted_first : (q x : Option TypeMismatch) (m : TypeMismatch) (rest : List (Option TypeMismatch)) → asked_or_noted a q (first_of x m) ∷ rest ≡ found.noted (asked_or_noted a q x ∷ rest) zero (closing m)
  noted_first None None m rest = refl
  noted_first None (Some y) m rest = refl
  noted_first (Some k) None m rest = by_same (are_same k)
    where
      by_same : (b : Bool) → unless_same a b k (Some m) ∷ rest ≡ found.noted (unless_same a b k None ∷ rest) zero (closing m)
      by_same true = refl
      by_same false = refl
  noted_first (Some k) (Some y) m rest = by_same (are_same k)
    where
      by_same : (b : Bool) → unless_same a b k (Some y) ∷ rest ≡ found.noted (unless_same a b k (Some y) ∷ rest) zero (closing m)
      by_same true = refl
      by_same false = refl

  -- what is noted, beside what was asked
  pub noted-beside : (qs xs : List (Option TypeMismatch)) (n : ℕ) (m : TypeMismatch) → closed qs (found.noted xs n m) ≡ found.noted (closed qs xs) n (closing m)
  noted-beside qs [] n m = refl
  noted-beside qs (x ∷ xs) zero m = ap (closed qs) (noted_zero x xs m) ∙ noted_first (first_asked qs) x m (closed (others_asked qs) xs)
  noted-beside qs (x ∷ xs) (suc n) m =
      ap (closed qs) (noted-cons x xs n m)
      ∙ (ap (λ l. asked_or_noted a (first_asked qs) x ∷ l) (noted-beside (others_asked qs) xs n m)
      ∙ sym (noted-cons (asked_or_noted a (first_asked qs) x) (closed (others_asked qs) xs) n (closing m)))

  -- what is asked of an expression is no mismatch where its types are the same
  pub asked-same : (qs xs : List (Option TypeMismatch)) (n : ℕ) (m : TypeMismatch) → IsFree qs n → are_same m ≡ true → closed (found.noted qs n m) xs ≡ closed qs xs
  asked-same [] xs n m free same = absurd (cc)
  asked-same (q ∷ qs) [] n m free same = refl
  asked-same (None ∷ qs) (x ∷ xs) zero m free same = ap (λ b. unless_same a b m x ∷ closed qs xs) same
  asked-same (Some k ∷ qs) (x ∷ xs) zero m free same = absurd (cc)
  asked-same (q ∷ qs) (x ∷ xs) (suc n) m free same =
      ap (λ l. closed l (x ∷ xs)) (noted-cons q qs n m) ∙ ap (λ l. asked_or_noted a q x ∷ l) (asked-same qs xs n m free same)

  -- and one where they differ
  pub asked-apart : (qs xs : List (Option TypeMismatch)) (n : ℕ) (m : TypeMismatch) → IsFree qs n → IsFree xs n → are_same m ≡ false → closed (found.noted qs n m) xs ≡ found.noted (closed qs xs) n (closing m)
  asked-apart [] xs n m free clear apart = absurd (cc)
  asked-apart (q ∷ qs) [] n m free clear apart = absurd (cc)
  asked-apart (None ∷ qs) (None ∷ xs) zero m free clear apart = ap (λ b. unless_same a b m None ∷ closed qs xs) apart
  asked-apart (None ∷ qs) (Some y ∷ xs) zero m free clear apart = absurd (cc)
  asked-apart (Some k ∷ qs) (x ∷ xs) zero m free clear apart = absurd (cc)
  asked-apart (q ∷ qs) (x ∷ xs) (suc n) m free clear apart =
      ap (λ l. closed l (x ∷ xs)) (noted-cons q qs n m)
      ∙ (ap (λ l. asked_or_noted a q x ∷ l) (asked-apart qs xs n m free clear apart)
      ∙ sym (noted-cons (asked_or_noted a q x) (closed qs xs) n (closing m)))

  -- what is noted at an expression of which nothing was asked
  pub At-unasked : (qs xs : List (Option TypeMismatch)) (n : ℕ) (m : TypeMismatch) → IsFree qs n → At xs n m → At (closed qs xs) n (closing m)
  At-unasked [] xs n m free h = absurd (cc)
  At-unasked (q ∷ qs) [] n m free h = absurd (cc)
  At-unasked (None ∷ qs) (x ∷ xs) zero m free h = At-closed closing (x ∷ []) zero m h
  At-unasked (Some k ∷ qs) (x ∷ xs) zero m free h = absurd (cc)
  At-unasked (q ∷ qs) (x ∷ xs) (suc n) m free h = At-unasked qs xs n m free h

  -- what stands at a place of the two lists
  pub closed_at : (qs xs : List (Option TypeMismatch)) (i : ℕ) (x : Option TypeMismatch) → slice_get xs i ≡ Some x → slice_get (closed qs xs) i ≡ Some (asked_or_noted a (entry_of (slice_get qs i)) x)
  closed_at qs [] i x h = absurd (cc)
  closed_at [] (y ∷ xs) zero x h = (let e : y ≡ x = cc in ap (λ z. Some (asked_or_noted a None z)) e)
  closed_at (q ∷ qs) (y ∷ xs) zero x h = (let e : y ≡ x = cc in ap (λ z. Some (asked_or_noted a q z)) e)
  closed_at [] (y ∷ xs) (suc i) x h = closed_at [] xs i x h
  closed_at (q ∷ qs) (y ∷ xs) (suc i) x h = closed_at qs xs i x h

  -- entry by entry
  pub closed_next : (qs xs : List (Option TypeMismatch)) (i : ℕ) (x made : Option TypeMismatch) (rs : List (Option TypeMismatch)) → rs ≡ take i (closed qs xs) → slice_get xs i ≡ Some x → made ≡ asked_or_noted a (entry_of (slice_get qs i)) x → rs ++ made ∷ [] ≡ take (i + 1) (closed qs xs)
  closed_next qs xs i x made rs before at is =
      let here : Option TypeMismatch = asked_or_noted a (entry_of (slice_get qs i)) x in
      ap (λ l. l ++ made ∷ []) before
      ∙ (ap (λ y. take i (closed qs xs) ++ y ∷ []) is
      ∙ sym (take_next (closed qs xs) i here (closed_at qs xs i x at)))

  pub asked_alike : (m : TypeMismatch) (x : Option TypeMismatch) → folded a m.expected ≡ folded a m.actual → asked_or_noted a (Some m) x ≡ option_map closing x
  asked_alike m x same = ap (λ b. unless_same a b m x) ((ty_decides (folded a m.expected) (folded a m.actual)).1 same)

  pub asked_unlike : (m : TypeMismatch) (x : Option TypeMismatch) → (folded a m.expected ≡ folded a m.actual → ⊥) → asked_or_noted a (Some m) x ≡ Some (closing m)
  asked_unlike m x apart = by_same (are_same m) refl
    where
      by_same : (b : Bool) → are_same m ≡ b → asked_or_noted a (Some m) x ≡ Some (closing m)
      by_same true e = absurd (apart ((ty_decides (folded a m.expected) (folded a m.actual)).0 e))
      by_same false e = ap (λ b. unless_same a b m x) e

  -- what stands in the end was asked or noted
  abbrev Stems : List (Option TypeMismatch) → List (Option TypeMismatch) → ℕ → TypeMismatch → Type 0
  Stems qs xs n y = (m : TypeMismatch) × (At qs n m ⊎ At xs n m) × (closing m ≡ y)

  noted_stems : (x : Option TypeMismatch) (y : TypeMismatch) → option_map closing x ≡ Some y → (m : TypeMismatch) × (x ≡ Some m) × (closing m ≡ y)
  noted_stems None y h = absurd (cc)
  noted_stems (Some m) y h = (m, refl, cc)

  pub At-stems : (qs xs : List (Option TypeMismatch)) (n : ℕ) (y : TypeMismatch) → At (closed qs xs) n y → Stems qs xs n y
  At-stems qs [] n y h = absurd (cc)
  At-stems [] (x ∷ xs) zero y h = (let e : option_map closing x ≡ Some y = cc in let q = noted_stems x y e in (q.0, inr (ap (λ o. Some o) q.1), q.2))
  At-stems (None ∷ qs) (x ∷ xs) zero y h = (let e : option_map closing x ≡ Some y = cc in let q = noted_stems x y e in (q.0, inr (ap (λ o. Some o) q.1), q.2))
  At-stems (Some k ∷ qs) (x ∷ xs) zero y h = by_same (are_same k) h
    where
      by_same : (b : Bool) → Some (unless_same a b k x) ≡ Some (Some y) → Stems (Some k ∷ qs) (x ∷ xs) zero y
      by_same true g = (let e : option_map closing x ≡ Some y = cc in let q = noted_stems x y e in (q.0, inr (ap (λ o. Some o) q.1), q.2))
      by_same false g = (let e : closing k ≡ y = cc in (k, inl refl, e))
  At-stems [] (x ∷ xs) (suc n) y h = (let q = At-stems [] xs n y h in (q.0, elim q.1 [ inl z ↦ absurd (cc) | inr z ↦ inr z ], q.2))
  At-stems (q ∷ qs) (x ∷ xs) (suc n) y h = At-stems qs xs n y h

-- ---- tables of a body

pub of_body_unclosed : (a : Assignment) (b : RawBody) (asked : List (Option TypeMismatch)) (r : InferenceResult) → IsOfBody b (closed_table a asked r) → IsOfBody b r
of_body_unclosed a b asked r h = record { long = long }
  where
    long : (c : Column) → IsLong b (index c) (length (col r c))
    long column.type_of_placeholder = tt
    long column.expr_mismatches = sym (length-closed_mismatches a asked r.expr_mismatches) ∙ h.long column.expr_mismatches
    long column.expr_diagnostics = sym (length-said a r.seen r.expr_diagnostics) ∙ h.long column.expr_diagnostics
    long c = sym (entries_long a (entry_kind c) (col r c)) ∙ h.long c

-- a write leaves the lists as long as they are
module _ (b : RawBody) (c : InferenceContext) (h : IsOfBody b c.result) where
  pub of_body_expr_ty : (e : ExprId) (t : Ty) → IsOfBody b (context.with_expr_ty c e t).result
  of_body_expr_ty e t = long_with b c.result column.type_of_expr _ (length-set c.result.type_of_expr e.0 (Some t) ∙ h.long column.type_of_expr) h

  pub of_body_mismatch : (e : ExprId) (m : TypeMismatch) → IsOfBody b (context.with_mismatch c e m).result
  of_body_mismatch e m = long_with b c.result column.expr_mismatches _ (length-noted c.result.expr_mismatches e.0 m ∙ h.long column.expr_mismatches) h

  pub of_body_diagnostic : (e : ExprId) (d : InferenceDiagnostic) → IsOfBody b (context.with_diagnostic c e d).result
  of_body_diagnostic e d = long_with b c.result column.expr_diagnostics _ (length-noted c.result.expr_diagnostics e.0 d ∙ h.long column.expr_diagnostics) h

  pub of_body_pat_diagnostic : (p : PatId) (d : InferenceDiagnostic) → IsOfBody b (context.with_pat_diagnostic c p d).result
  of_body_pat_diagnostic p d = long_with b c.result column.pat_diagnostics _ (length-noted c.result.pat_diagnostics p.0 d ∙ h.long column.pat_diagnostics) h

  pub of_body_pat_mismatch : (p : PatId) (m : TypeMismatch) → IsOfBody b (context.with_pat_mismatch c p m).result
  of_body_pat_mismatch p m = long_with b c.result column.pat_mismatches _ (length-noted c.result.pat_mismatches p.0 m ∙ h.long column.pat_mismatches) h

  pub of_body_pat_ty : (p : PatId) (t : Ty) → IsOfBody b (context.with_pat_ty c p t).result
  of_body_pat_ty p t = long_with b c.result column.type_of_pat _ (length-set c.result.type_of_pat p.0 (Some t) ∙ h.long column.type_of_pat) h

  pub of_body_pat_item : (p : PatId) (t : Ty) → IsOfBody b (context.with_pat_item c p t).result
  of_body_pat_item p t = long_with b c.result column.item_of_pat _ (length-set c.result.item_of_pat p.0 (Some t) ∙ h.long column.item_of_pat) h

  pub of_body_mode : (p : PatId) (m : BindingMode) → IsOfBody b (context.with_mode c p m).result
  of_body_mode p m = long_with b c.result column.binding_modes _ (length-set c.result.binding_modes p.0 (Some m) ∙ h.long column.binding_modes) h

  pub of_body_binding_ty : (v : BindingId) (t : Ty) → IsOfBody b (context.with_binding_ty c v t).result
  of_body_binding_ty v t = long_with b c.result column.type_of_binding _ (length-set c.result.type_of_binding v.0 (Some t) ∙ h.long column.type_of_binding) h

  pub of_body_seen : (x : Seen) → IsOfBody b (context.with_seen c x).result
  of_body_seen x = long_beside b c.result (context.with_seen c x).result h

pub of_body_bound_by : (b : RawBody) (c : InferenceContext) (p : PatId) (v : BindingId) (t : Ty) → IsOfBody b c.result → IsOfBody b (context.bound_by c p v t).result
of_body_bound_by b c p v t h =
    let d = context.with_mode c p mode.Move in
    let e = context.with_pat_ty d p t in
    of_body_binding_ty b e (of_body_pat_ty b d (of_body_mode b c h p mode.Move) p t) v t

-- ---- writes, under an assignment
module _ (a : Assignment) (c : InferenceContext) where
  pub expr_ty_under : (e : ExprId) (t : Ty) → found_under a (context.with_expr_ty c e t) ≡ found.with_expr_ty (found_under a c) e (folded a t)
  expr_ty_under e t = ap (λ xs. record { result = record (closed_table a c.asked c.result) { type_of_expr = xs }; clock = c.clock; holes = a }) (set-closed (folded a) c.result.type_of_expr e.0 t)

  pub mismatch_under : (e : ExprId) (m : TypeMismatch) → found_under a (context.with_mismatch c e m) ≡ found.with_mismatch (found_under a c) e (closed_mismatch a m)
  mismatch_under e m = ap (λ xs. record { result = record (closed_table a c.asked c.result) { expr_mismatches = xs }; clock = c.clock; holes = a }) (noted-beside a c.asked c.result.expr_mismatches e.0 m)

  pub pat_mismatch_under : (p : PatId) (m : TypeMismatch) → found_under a (context.with_pat_mismatch c p m) ≡ found.with_pat_mismatch (found_under a c) p (closed_mismatch a m)
  pat_mismatch_under p m = ap (λ xs. record { result = record (closed_table a c.asked c.result) { pat_mismatches = xs }; clock = c.clock; holes = a }) (noted-closed (closed_mismatch a) c.result.pat_mismatches p.0 m)

  pub pat_ty_under : (p : PatId) (t : Ty) → found_under a (context.with_pat_ty c p t) ≡ found.with_pat_ty (found_under a c) p (folded a t)
  pat_ty_under p t = ap (λ xs. record { result = record (closed_table a c.asked c.result) { type_of_pat = xs }; clock = c.clock; holes = a }) (set-closed (folded a) c.result.type_of_pat p.0 t)

  pub pat_item_under : (p : PatId) (t : Ty) → found_under a (context.with_pat_item c p t) ≡ found.with_pat_item (found_under a c) p (folded a t)
  pat_item_under p t = ap (λ xs. record { result = record (closed_table a c.asked c.result) { item_of_pat = xs }; clock = c.clock; holes = a }) (set-closed (folded a) c.result.item_of_pat p.0 t)

  pub binding_ty_under : (v : BindingId) (t : Ty) → found_under a (context.with_binding_ty c v t) ≡ found.with_binding_ty (found_under a c) v (folded a t)
  binding_ty_under v t = ap (λ xs. record { result = record (closed_table a c.asked c.result) { type_of_binding = xs }; clock = c.clock; holes = a }) (set-closed (folded a) c.result.type_of_binding v.0 t)

  pub diagnostic_under : (e : ExprId) (d : InferenceDiagnostic) → found_under a (context.with_diagnostic c e d) ≡ found.with_diagnostic (found_under a c) e d
  diagnostic_under e d = ap (λ xs. record { result = record (closed_table a c.asked c.result) { expr_diagnostics = xs }; clock = c.clock; holes = a }) (said-noted a c.result.seen c.result.expr_diagnostics e.0 d)

  pub seen_under : (x : Seen) → found_under a (context.with_seen c x) ≡ found.with_seen (found_under a c) x
  seen_under x = ap (λ xs. record { result = record (closed_table a c.asked c.result) { expr_diagnostics = xs; seen = c.result.seen ++ x ∷ [] }; clock = c.clock; holes = a }) (said-push a c.result.seen x c.result.expr_diagnostics)

pub bound_by_under : (a : Assignment) (c : InferenceContext) (p : PatId) (v : BindingId) (t : Ty) → found_under a (context.bound_by c p v t) ≡ found.bound_by (found_under a c) p v (folded a t)
bound_by_under a c p v t =
    let d = context.with_mode c p mode.Move in
    binding_ty_under a (context.with_pat_ty d p t) v t ∙ ap (λ x. found.with_binding_ty x v (folded a t)) (pat_ty_under a d p t)

-- what is found is the same where nothing is recorded
pub same_found : (a : Assignment) (c d : InferenceContext) → d.result ≡ c.result → d.asked ≡ c.asked → d.clock ≡ c.clock → found_under a d ≡ found_under a c
same_found a c d h j k = λ i. record { result = closed_table a (j i) (h i); clock = k i; holes = a }

-- ---- assignments that close a context

-- the table is all that counts
pub closes_same : (a : Assignment) (c d : InferenceContext) → c.goals.table ≡ d.goals.table → Closes a c → Closes a d
closes_same a c d e h = record {
  closing = h.closing;
  meets = (let P : State → Type 0 = Meets (terms_of a) in subst P e h.meets);
}

pub meets_earlier : (s : Hole → Term) (old new : State) → Grew old new → Meets s new → Meets s old
meets_earlier s old new g h =
    let P : Log → Type 0 = Solves s in
    solves_left s (log_of (bindings old)) (log_of g.log.0) (subst P (ap log_of g.log.1 ∙ map-append entry (bindings old) g.log.0) h)

-- what is found out later leaves fewer assignments
pub closes_earlier : (a : Assignment) (old new : InferenceContext) → Grew old.goals.table new.goals.table → Closes a new → Closes a old
closes_earlier a old new g h = record {
  closing = h.closing;
  meets = meets_earlier (terms_of a) old.goals.table new.goals.table g h.meets;
}

-- ---- what is asked

-- what is decided stays so
pub decided_later : (old new : State) (m : TypeMismatch) → Grew old new → IsDecided old m → IsDecided new m
decided_later old new m g (inl h) = inl (λ a k l. h a k (meets_earlier (terms_of a) old new g l))
decided_later old new m g (inr h) = inr (λ a k l. h a k (meets_earlier (terms_of a) old new g l))

-- a pair that waits goes on to, where none is taken
pub kept_later : (old new : State) (asked : List (Option TypeMismatch)) → Grew old new → new.pairs ≡ old.pairs → AskedIsKept old asked → AskedIsKept new asked
kept_later old new asked g same h n m i = elim (h n m i) [
  | inl w ↦ inl (record { position = w.position; pair = w.pair; waits = ap (λ (ps : Waiting). slice_get (waiting ps) w.position) same ∙ w.waits; is = w.is })
  | inr d ↦ inr (decided_later old new m g d)
]

-- ---- soundness
set_keeps : {A : Type 0} (P : A → Type 0) (xs : List (Option A)) (n : ℕ) (x : A) → ((m : ℕ) (y : A) → At xs m y → P y) → P x → (m : ℕ) (y : A) → At (slice_set xs n (Some x)) m y → P y
set_keeps P [] n x all h m y k = all m y k
set_keeps P (o ∷ xs) zero x all h zero y k = (let e : x ≡ y = cc in subst P e h)
set_keeps P (o ∷ xs) zero x all h (suc m) y k = all (suc m) y k
set_keeps P (o ∷ xs) (suc n) x all h zero y k = all zero y k
set_keeps P (o ∷ xs) (suc n) x all h (suc m) y k = set_keeps P xs n x (λ i z l. all (suc i) z l) h m y k

put_keeps : {A : Type 0} (P : A → Type 0) (xs : List (Option A)) (n : ℕ) (x : A) → ((m : ℕ) (y : A) → At xs m y → P y) → P x → (m : ℕ) (y : A) → At (found.put xs n x) m y → P y
put_keeps P xs n x all h m y k = elim (put-cases xs n m x y k) [ inl q ↦ all m y q | inr q ↦ subst P q.1 h ]

noted_keeps : {A : Type 0} (P : A → Type 0) (xs : List (Option A)) (n : ℕ) (x : A) → ((m : ℕ) (y : A) → At xs m y → P y) → P x → (m : ℕ) (y : A) → At (found.noted xs n x) m y → P y
noted_keeps P xs n x all h m y k = elim (noted-cases xs n m x y k) [ inl q ↦ all m y q | inr q ↦ subst P q.1 h ]

-- what stands in a list with one more
pub push_cases : {A : Type 0} (xs : List A) (x : A) (i : ℕ) (y : A) → slice_get (xs ++ x ∷ []) i ≡ Some y → (slice_get xs i ≡ Some y) ⊎ (x ≡ y)
push_cases [] x zero y h = inr (cc)
push_cases [] x (suc i) y h = absurd (cc)
push_cases (z ∷ xs) x zero y h = inl h
push_cases (z ∷ xs) x (suc i) y h = push_cases xs x i y h

-- another table of fine types, and another clock
pub sound_with : {sc : Scope} (c : InferenceContext) (r : InferenceResult) (n : ℕ) → IsSound sc c → AllTypes (IsFine sc c.goals.table) r → AllSeen (IsFine sc c.goals.table) r → IsSound sc (record c { result = r; clock = n })
sound_with {sc} c r n s h k =
    let some : (a : Assignment) × Closes a (record c { result = r; clock = n }) = (s.some.0, closes_same s.some.0 c (record c { result = r; clock = n }) refl s.some.1) in
    assumption (h, k, some, s)

-- what a complaint is about has a property
about : (P : Ty → Type 0) (d : InferenceDiagnostic) → ((n : ExprId) (t : Ty) → d ≡ diagnostic.ExpectedFunction n t → P t) → AllInDiagnostic P d
about P (diagnostic.MismatchedArgCount n expected found) h = tt
about P (diagnostic.MismatchedTupleStructPatArgCount n expected found) h = tt
about P (diagnostic.ExpectedFunction n t) h = h n t refl

module _ {sc : Scope} (c : InferenceContext) (s : IsSound sc c) where
  abbrev Fine : Ty → Type 0
  Fine = IsFine sc c.goals.table

  pub sound_entered : IsSound sc (context.entered c)
  sound_entered = sound_with c c.result (context.entered c).clock s s.fine s.seen

  pub sound_expr_ty : (e : ExprId) (t : Ty) → Fine t → IsSound sc (context.with_expr_ty c e t)
  sound_expr_ty e t h = sound_with c (context.with_expr_ty c e t).result c.clock s
      (types_with Fine c.result column.type_of_expr _ (set_keeps Fine c.result.type_of_expr e.0 t (s.fine.each column.type_of_expr) h) s.fine)
      (assumption s.seen)

  pub sound_mismatch : (e : ExprId) (m : TypeMismatch) → Fine m.expected → Fine m.actual → IsSound sc (context.with_mismatch c e m)
  sound_mismatch e m h k = sound_with c (context.with_mismatch c e m).result c.clock s
      (types_with Fine c.result column.expr_mismatches _ (noted_keeps (λ x. Fine x.expected × Fine x.actual) c.result.expr_mismatches e.0 m (s.fine.each column.expr_mismatches) (h, k)) s.fine)
      (assumption s.seen)

  pub sound_diagnostic : (e : ExprId) (d : InferenceDiagnostic) → ((n : ExprId) (t : Ty) → d ≡ diagnostic.ExpectedFunction n t → Fine t) → IsSound sc (context.with_diagnostic c e d)
  sound_diagnostic e d fine = sound_with c (context.with_diagnostic c e d).result c.clock s
      (types_with Fine c.result column.expr_diagnostics _ (noted_keeps (AllInDiagnostic Fine) c.result.expr_diagnostics e.0 d (s.fine.each column.expr_diagnostics) (about Fine d fine)) s.fine)
      (assumption s.seen)

  pub sound_pat_diagnostic : (p : PatId) (d : InferenceDiagnostic) → IsSound sc (context.with_pat_diagnostic c p d)
  sound_pat_diagnostic p d = sound_with c (context.with_pat_diagnostic c p d).result c.clock s
      (types_with Fine c.result column.pat_diagnostics _ (λ n x at. tt) s.fine)
      (assumption s.seen)

  pub sound_pat_mismatch : (p : PatId) (m : TypeMismatch) → Fine m.expected → Fine m.actual → IsSound sc (context.with_pat_mismatch c p m)
  sound_pat_mismatch p m h k = sound_with c (context.with_pat_mismatch c p m).result c.clock s
      (types_with Fine c.result column.pat_mismatches _ (noted_keeps (λ x. Fine x.expected × Fine x.actual) c.result.pat_mismatches p.0 m (s.fine.each column.pat_mismatches) (h, k)) s.fine)
      (assumption s.seen)

  pub sound_pat_ty : (p : PatId) (t : Ty) → Fine t → IsSound sc (context.with_pat_ty c p t)
  sound_pat_ty p t h = sound_with c (context.with_pat_ty c p t).result c.clock s
      (types_with Fine c.result column.type_of_pat _ (set_keeps Fine c.result.type_of_pat p.0 t (s.fine.each column.type_of_pat) h) s.fine)
      (assumption s.seen)

  pub sound_pat_item : (p : PatId) (t : Ty) → Fine t → IsSound sc (context.with_pat_item c p t)
  sound_pat_item p t h = sound_with c (context.with_pat_item c p t).result c.clock s
      (types_with Fine c.result column.item_of_pat _ (set_keeps Fine c.result.item_of_pat p.0 t (s.fine.each column.item_of_pat) h) s.fine)
      (assumption s.seen)

  pub sound_mode : (p : PatId) (m : BindingMode) → IsSound sc (context.with_mode c p m)
  sound_mode p m = sound_with c (context.with_mode c p m).result c.clock s
      (types_with Fine c.result column.binding_modes _ (λ n x at. tt) s.fine)
      (assumption s.seen)

  pub sound_binding_ty : (v : BindingId) (t : Ty) → Fine t → IsSound sc (context.with_binding_ty c v t)
  sound_binding_ty v t h = sound_with c (context.with_binding_ty c v t).result c.clock s
      (types_with Fine c.result column.type_of_binding _ (set_keeps Fine c.result.type_of_binding v.0 t (s.fine.each column.type_of_binding) h) s.fine)
      (assumption s.seen)

  pub sound_placeholder : (k : ℕ) (t : Ty) → Fine t → IsSound sc (context.with_placeholder_ty c k t)
  sound_placeholder k t h = sound_with c (context.with_placeholder_ty c k t).result c.clock s
      (types_with Fine c.result column.type_of_placeholder _ (put_keeps Fine c.result.type_of_placeholder k t (s.fine.each column.type_of_placeholder) h) s.fine)
      (assumption s.seen)

  pub sound_seen : (x : Seen) → Fine x.ty → x.other ≡ None → IsSound sc (context.with_seen c x)
  sound_seen x h alone = sound_with c (context.with_seen c x).result c.clock s (types_beside Fine c.result (context.with_seen c x).result s.fine) (record {
    types = λ i y at. elim (push_cases c.result.seen x i y at) [ inl q ↦ s.seen.types i y q | inr q ↦ subst (λ (z : Seen). Fine z.ty) q h ];
    others = λ i y t at is. elim (push_cases c.result.seen x i y at) [ inl q ↦ s.seen.others i y t q is | inr q ↦ absurd (let none : y.other ≡ None = subst (λ (z : Seen). z.other ≡ None) q alone in cc) ];
  })

pub sound_bound_by : {sc : Scope} (c : InferenceContext) (p : PatId) (v : BindingId) (t : Ty) → IsSound sc c → IsFine sc c.goals.table t → IsSound sc (context.bound_by c p v t)
sound_bound_by {sc} c p v t s h =
    let d = context.with_mode c p mode.Move in
    let e = context.with_pat_ty d p t in
    sound_binding_ty e (sound_pat_ty d (sound_mode c s p mode.Move) p t h) v t h
