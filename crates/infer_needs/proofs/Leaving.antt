-- What is left of associated types in types, as proofs and entries are added.
use Rattle.std.specs.Prelude.{◌≡◌, ◌++◌, ◌+◌, ◌<◌, ℕ, List, [], ◌∷◌, length, map, slice_get, Option, Some, None}
use Rattle.std.proofs.Common.{inl, inr, refl, sym, ap, ◌∙◌, subst, arith}
use Rattle.std.proofs.Math.Nat.{eq-or-lt_of_le}
use Rattle.std.proofs.lemmas.Option.{same_Some, slice_get_within}
use Rattle.hir_types.specs.declared.goal.Goal.TheVariants as goal
use Rattle.hir_types.specs.declared.head.Head.TheVariants as head
use Rattle.infer_needs.specs.Words.{ExprId, GenericDefId, TypeAliasId, GenericArg, Ty, Term, leaf, pair, chain, term, arg_term, term_projection, RawFacts, IsFront, Asked, System, projects, answers, IsRead, ReadsAs, staying, Proof, asked_goal, TypeReads, IsTypeRead, AddsProofs, IsProofAt, IsWritten, InferenceResult, TypeMismatch, InferenceDiagnostic, At, Column, Entry, entry_kind, AllInDiagnostic, AllIn, AllTypes, HoldsUnknown, IsPartOf, stays_at, StaysOrIsListed, NoneIsLeft}
use Rattle.hir_types.specs.declared.ty.Ty.TheVariants as ty
use Rattle.infer_needs.proofs.Words.{every_type, get_last, get_more, front_itself}
use Rattle.infer_result.specs.declared.diagnostics.InferenceDiagnostic.TheVariants as diagnostic
use Rattle.infer_needs.specs.Own.{EntryFitsIn, EntriesFitIn, HasProofOf, IsEntry, AreEntries, WasRead, WereRead, AddsRead, Lists, staying_head, NoneHere, NoneStands, StandsInType, StandsInMismatch, StandsInDiagnostic, EachIn, EachOf, FindsIn, AddsRootsOf}
use Rattle.infer_needs.proofs.Adding.{adds_none, adds_then, entry_later, entries_later, lists_none, lists_then}
use Rattle.infer_needs.proofs.Rooted.{roots_none, roots_more}
use Rattle.infer_needs.proofs.ReadsYes.{reads_one, reads_read}
use Rattle.infer_result.specs.Columns.{IsIn}
use Rattle.infer_result.specs.Columns as column

-- ---- what stays so

module _ (f : System) (n : ℕ) (js ks : List (Ty × Ty)) (l : IsFront js ks) where
  pub stays_later : (k : TypeAliasId) (xs : List GenericArg) → StaysOrIsListed f n js k xs → StaysOrIsListed f n ks k xs
  stays_later k xs h u r = elim (h u r) [
    | inl same ↦ inl same
    | inr o ↦ elim o [
      | inl e ↦ inr (inl (entry_later js ks (asked_goal (goal.Projection k xs u)) l e))
      | inr q ↦ inr (inr q)
    ]
  ]

  pub stands_later : (t : Term) → NoneStands f n t js → NoneStands f n t ks
  stands_later t h k xs at = stays_later k xs (h k xs at)

  pub none_later : (t : Ty) → NoneIsLeft f n js t → NoneIsLeft f n ks t
  none_later t h = stands_later (term t) h

  pub each_later : {X : Type 0} (T : X → Ty → Type 0) (x : X) → EachIn T (NoneIsLeft f n js) x → EachIn T (NoneIsLeft f n ks) x
  each_later T x h t in_x = none_later t (h t in_x)

  pub all_later : {X : Type 0} (T : X → Ty → Type 0) (xs : List X) → EachOf T (NoneIsLeft f n js) xs → EachOf T (NoneIsLeft f n ks) xs
  all_later T xs h i x at = each_later T x (h i x at)

  pub table_later : (r : InferenceResult) → AllTypes (NoneIsLeft f n js) r → AllTypes (NoneIsLeft f n ks) r
  table_later r h = every_type (NoneIsLeft f n js) (NoneIsLeft f n ks) r none_later h

-- ---- what is added

module _ (raw : RawFacts) (item : GenericDefId) (f : System) where
  pub read_none : (ps : List Proof) (js : List (Ty × Ty)) → AddsRead raw item f ps ps js js
  read_none ps js = record { adds = adds_none raw f ps; roots = roots_none [] ps; lists = lists_none ps ps js (front_itself ps); read = λ h. h; fit = λ h. h }

  pub read_then : (ps qs rs : List Proof) (js ks ls : List (Ty × Ty)) → AddsRead raw item f ps qs js ks → AddsRead raw item f qs rs ks ls → AddsRead raw item f ps rs js ls
  read_then ps qs rs js ks ls a b = record {
    adds = adds_then raw f ps qs rs a.adds b.adds;
    roots = roots_more [] ps qs rs a.roots b.roots;
    lists = lists_then ps qs rs js ks ls a.lists b.lists;
    read = λ h. b.read (a.read h);
    fit = λ h. b.fit (a.fit h);
  }

  -- where nothing has to be listed
  pub lists_nothing : (P : List (Ty × Ty) → Type 0) (ps : List Proof) (js : List (Ty × Ty)) → P js → Lists raw item f P ps ps js js
  lists_nothing P ps js h = record { adds = read_none ps js; none = h }

  -- of one and then of another
  pub lists_both : (P Q R : List (Ty × Ty) → Type 0) (ps qs rs : List Proof) (js ks ls : List (Ty × Ty)) → (IsFront ks ls → P ks → P ls) → (P ls → Q ls → R ls)
      → Lists raw item f P ps qs js ks → Lists raw item f Q qs rs ks ls → Lists raw item f R ps rs js ls
  lists_both P Q R ps qs rs js ks ls later both a b = record {
    adds = read_then ps qs rs js ks ls a.adds b.adds;
    none = both (later b.adds.lists.behind a.none) b.none;
  }

-- ---- an associated type that was read

abbrev asks : TypeAliasId → Term → Term → Asked
asks k c t = record { kind = projects k; parts = pair c t }

-- at these arguments
module _ (raw : RawFacts) (f : System) (k : TypeAliasId) (w : Term) (zs : List GenericArg) (is : chain (map arg_term zs) ≡ w) where
  abbrev n : ℕ
  n = raw.limits.goal_depth

  abbrev pub Settled : List (Ty × Ty) → Type 0
  Settled js = (xs : List GenericArg) → chain (map arg_term xs) ≡ w → StaysOrIsListed f n js k xs

  same_args : (xs : List GenericArg) → chain (map arg_term xs) ≡ w → chain (map arg_term zs) ≡ chain (map arg_term xs)
  same_args xs e = is ∙ sym e

  same_term : (xs : List GenericArg) → chain (map arg_term xs) ≡ w → term (ty.Projection k xs) ≡ term (ty.Projection k zs)
  same_term xs e = term_projection k xs ∙ ap (λ c. pair (leaf (head.Projection k)) c) (sym (same_args xs e)) ∙ sym (term_projection k zs)

  read_here : (xs : List GenericArg) (u : Ty) → chain (map arg_term xs) ≡ w → TypeReads f n (ty.Projection k xs) u → TypeReads f n (ty.Projection k zs) u
  read_here xs u e r = subst (λ t. ReadsAs (answers f n).Alias t (term u)) (same_term xs e) r

  pub reads_none : (js : List (Ty × Ty)) → IsTypeRead f n (ty.Projection k zs) None → Settled js
  reads_none js h xs e u r = absurd (h u (read_here xs u e r))

  module _ (v : Ty) (reads : TypeReads f n (ty.Projection k zs) v) where
    same_type : (xs : List GenericArg) (u : Ty) → chain (map arg_term xs) ≡ w → TypeReads f n (ty.Projection k xs) u → term u ≡ term v
    same_type xs u e r = reads_one f n k zs u v (read_here xs u e r) reads

    same_goal : (xs : List GenericArg) (u : Ty) → chain (map arg_term xs) ≡ w → TypeReads f n (ty.Projection k xs) u → asked_goal (goal.Projection k zs v) ≡ asked_goal (goal.Projection k xs u)
    same_goal xs u e r = ap (λ c. asks k c (term v)) (same_args xs e) ∙ ap (λ t. asks k (chain (map arg_term xs)) t) (sym (same_type xs u e r))

    pub reads_staying : (js : List (Ty × Ty)) → term v ≡ staying k w → Settled js
    reads_staying js s xs e u r = inl (same_type xs u e r ∙ s ∙ ap (staying k) (sym e))

    pub reads_listed : (js : List (Ty × Ty)) (j : ℕ) → slice_get js j ≡ Some (ty.Projection k zs, v) → Settled js
    reads_listed js j at xs e u r = inr (inl (k, zs, v, (j, at), same_goal xs u e r))

    pub reads_unknown : (js : List (Ty × Ty)) → HoldsUnknown (asked_goal (goal.Projection k zs v)).parts → Settled js
    reads_unknown js h xs e u r = inr (inr (subst (λ (a : Asked). HoldsUnknown a.parts) (same_goal xs u e r) h))

    -- its entry is added
    module _ (item : GenericDefId) (fits : EntryFitsIn raw item (ty.Projection k zs, v)) (ps qs : List Proof) (js : List (Ty × Ty)) (adds : AddsProofs raw f ps qs) (roots : AddsRootsOf raw item f [] ps qs) (args_read : IsRead (chain (map arg_term zs))) (proved : HasProofOf qs (asked_goal (goal.Projection k zs v))) (known : HoldsUnknown (asked_goal (goal.Projection k zs v)).parts → ⊥) (other : term v ≡ stays_at k zs → ⊥) (written : IsWritten (asked_goal (goal.Projection k zs v)).parts) (here : WereRead f n js) where
      abbrev more : List (Ty × Ty)
      more = js ++ (ty.Projection k zs, v) ∷ []

      entries : AreEntries ps js → AreEntries qs more
      entries are i x at = elim (get_more js (ty.Projection k zs, v) i x at) [
        | inl h ↦ entries_later ps qs js adds.behind are i x h
        | inr h ↦ subst (IsEntry qs) h.1 (record { alias = k; args = zs; is = refl; proved = proved; read = (args_read, reads_read f n (ty.Projection k zs) v reads); known = known; other = other; written = written })
      ]

      were : WereRead f n js → WereRead f n more
      were h i x at = elim (get_more js (ty.Projection k zs, v) i x at) [
        | inl g ↦ h i x g
        | inr g ↦ subst (WasRead f n) g.1 (record { alias = k; args = zs; is = refl; reads = reads })
      ]

      more_fit : EntriesFitIn raw item js → EntriesFitIn raw item more
      more_fit h i x at = elim (get_more js (ty.Projection k zs, v) i x at) [
        | inl g ↦ h i x g
        | inr g ↦ subst (EntryFitsIn raw item) g.1 fits
      ]

      pub lists_reading : Lists raw item f Settled ps qs js more
      lists_reading = record {
        adds = record { adds = adds; roots = roots; lists = record { behind = ((ty.Projection k zs, v) ∷ [], refl); right = entries }; read = were; fit = more_fit };
        none = reads_listed more (length js) (get_last js (ty.Projection k zs, v));
      }

  -- one that is listed was read
  pub found_settles : (js : List (Ty × Ty)) (v : Ty) → WereRead f n js → FindsIn js (ty.Projection k zs) (Some v) → Settled js
  found_settles js v were h =
      let x = were h.0 (ty.Projection k zs, v) h.1 in
      reads_listed v (subst (λ a. ReadsAs (answers f n).Alias (term a) (term v)) (sym x.is) x.reads) js h.0 h.1

-- the proof that was found, at equal arguments and of an equal type
pub proof_here : (qs : List Proof) (k : TypeAliasId) (ys zs : List GenericArg) (v u : Ty) (j : ℕ) → ys ≡ zs → v ≡ u → IsProofAt qs (goal.Projection k ys v) j → HasProofOf qs (asked_goal (goal.Projection k zs u))
proof_here qs k ys zs v u j args same h =
    (j, h.0, h.1, ap asked_goal h.2 ∙ ap (λ (xs : List GenericArg). asked_goal (goal.Projection k xs v)) args ∙ ap (λ (t : Ty). asked_goal (goal.Projection k zs t)) same)

-- where these are no arguments nothing has to be listed
pub no_args : (raw : RawFacts) (f : System) (k : TypeAliasId) (w : Term) (zs : List GenericArg) → ((xs : List GenericArg) → chain (map arg_term xs) ≡ w → chain (map arg_term zs) ≡ w) → (chain (map arg_term zs) ≡ w → ⊥) → (js : List (Ty × Ty))
    → (xs : List GenericArg) → chain (map arg_term xs) ≡ w → StaysOrIsListed f raw.limits.goal_depth js k xs
no_args raw f k w zs is differ js xs e = absurd (differ (is xs e))

-- ---- the parts of a term

module _ (raw : RawFacts) (item : GenericDefId) (f : System) where
  abbrev depth : ℕ
  depth = raw.limits.goal_depth

  here_by : (a b : Term) (js : List (Ty × Ty)) → ((k : TypeAliasId) (xs : List GenericArg) → staying_head a ≡ Some k → chain (map arg_term xs) ≡ b → StaysOrIsListed f depth js k xs) → NoneHere f depth a b js
  here_by a b js h k xs e =
      let first : leaf (head.AssociatedType k) ≡ a = cc in
      let rest : chain (map arg_term xs) ≡ b = cc in
      h k xs (ap staying_head (sym first)) rest

  -- of the associated type at these arguments
  pub lists_here : (a b : Term) (k : TypeAliasId) (ps qs : List Proof) (js ks : List (Ty × Ty)) → staying_head a ≡ Some k
      → Lists raw item f (λ os. (xs : List GenericArg) → chain (map arg_term xs) ≡ b → StaysOrIsListed f depth os k xs) ps qs js ks → Lists raw item f (NoneHere f depth a b) ps qs js ks
  lists_here a b k ps qs js ks is h = record {
    adds = h.adds;
    none = here_by a b ks (λ j xs e same. (let k_is : k ≡ j = (let both : Some k ≡ Some j = sym is ∙ e in cc) in subst (λ i. StaysOrIsListed f depth ks i xs) k_is (h.none xs same)));
  }

  pub lists_not_here : (a b : Term) (ps : List Proof) (js : List (Ty × Ty)) → staying_head a ≡ None → Lists raw item f (NoneHere f depth a b) ps ps js js
  lists_not_here a b ps js none = lists_nothing raw item f (NoneHere f depth a b) ps js (here_by a b js (λ k xs e same. absurd (cc)))

  pub lists_pair : (a b : Term) (ps qs rs ts : List Proof) (js ks ls ms : List (Ty × Ty)) → Lists raw item f (NoneHere f depth a b) ps qs js ks → Lists raw item f (NoneStands f depth a) qs rs ks ls → Lists raw item f (NoneStands f depth b) rs ts ls ms
      → Lists raw item f (NoneStands f depth (pair a b)) ps ts js ms
  lists_pair a b ps qs rs ts js ks ls ms here first rest =
      let l = first.adds.lists.behind in
      let m = rest.adds.lists.behind in
      record {
        adds = read_then raw item f ps rs ts js ls ms (read_then raw item f ps qs rs js ks ls here.adds first.adds) rest.adds;
        none = λ k xs at. elim at [
          | inl e ↦ stays_later f depth ls ms m k xs (stays_later f depth ks ls l k xs (here.none k xs e))
          | inr o ↦ elim o [
            | inl x ↦ stays_later f depth ls ms m k xs (first.none k xs x)
            | inr x ↦ rest.none k xs x
          ]
        ];
      }

  pub lists_no_parts : (t : Term) (ps : List Proof) (js : List (Ty × Ty)) → ((x : Term) → IsPartOf x t → ⊥) → Lists raw item f (NoneStands f depth t) ps ps js js
  lists_no_parts t ps js none = lists_nothing raw item f (NoneStands f depth t) ps js (λ k xs at. absurd (none (stays_at k xs) at))

-- ---- a list, one entry after another

module _ (raw : RawFacts) (item : GenericDefId) (f : System) {X : Type 0} (T : X → Ty → Type 0) (xs : List X) where
  abbrev N : List (Ty × Ty) → Ty → Type 0
  N js = NoneIsLeft f raw.limits.goal_depth js

  -- of the first of them
  abbrev pub FirstOf : ℕ → List (Ty × Ty) → Type 0
  FirstOf m js = (i : ℕ) (x : X) → i < m → slice_get xs i ≡ Some x → EachIn T (N js) x

  pub first_none : (ps : List Proof) (js : List (Ty × Ty)) → Lists raw item f (FirstOf 0) ps ps js js
  first_none ps js = lists_nothing raw item f (FirstOf 0) ps js (λ i x lt. absurd (omega (arith, lt)))

  first_both : (m : ℕ) (y : X) (js : List (Ty × Ty)) → slice_get xs m ≡ Some y → FirstOf m js → EachIn T (N js) y → FirstOf (m + 1) js
  first_both m y js here first at_y i x lt at = elim (eq-or-lt_of_le {n = i} {m = m} (omega (arith, lt))) [
    | inl e ↦ subst (EachIn T (N js)) (same_Some y x (sym here ∙ ap (slice_get xs) (sym e) ∙ at)) at_y
    | inr below ↦ first i x below at
  ]

  pub first_next : (m : ℕ) (y : X) (ps qs rs : List Proof) (js ks ls : List (Ty × Ty)) → slice_get xs m ≡ Some y → Lists raw item f (FirstOf m) ps qs js ks → Lists raw item f (λ os. EachIn T (N os) y) qs rs ks ls → Lists raw item f (FirstOf (m + 1)) ps rs js ls
  first_next m y ps qs rs js ks ls here a b =
      lists_both raw item f (FirstOf m) (λ os. EachIn T (N os) y) (FirstOf (m + 1)) ps qs rs js ks ls
      (λ l h i x lt at. each_later f raw.limits.goal_depth ks ls l T x (h i x lt at)) (first_both m y ls here) a b

  pub first_all : (m : ℕ) (ps qs : List Proof) (js ks : List (Ty × Ty)) → m ≡ length xs → Lists raw item f (FirstOf m) ps qs js ks → Lists raw item f (λ os. EachOf T (N os) xs) ps qs js ks
  first_all m ps qs js ks end h = record { adds = h.adds; none = λ i x at. (let lt = slice_get_within xs i x at in h.none i x (omega (arith, end, lt)) at) }

-- ---- an entry, and a table

-- what holds of each type of a column holds of those that stand in its entries
module _ (P : Ty → Type 0) where
  pub types_whole : (xs : List (Option Ty)) → ((n : ℕ) (t : Ty) → At xs n t → P t) → EachOf StandsInType P xs
  types_whole xs h n o at t is = h n t (at ∙ ap (λ y. Some y) is)

  pub mismatches_whole : (xs : List (Option TypeMismatch)) → ((n : ℕ) (m : TypeMismatch) → At xs n m → P m.expected × P m.actual) → EachOf StandsInMismatch P xs
  mismatches_whole xs h n o at t (m, is, stands) =
      let both = h n m (at ∙ ap (λ y. Some y) is) in
      elim stands [ inl e ↦ subst P e both.0 | inr e ↦ subst P e both.1 ]

  pub diagnostics_whole : (xs : List (Option InferenceDiagnostic)) → ((n : ℕ) (d : InferenceDiagnostic) → At xs n d → AllInDiagnostic P d) → EachOf StandsInDiagnostic P xs
  diagnostics_whole xs h n o at t (e, is) = h n (diagnostic.ExpectedFunction e t) (at ∙ ap (λ y. Some y) is)

module _ (raw : RawFacts) (item : GenericDefId) (f : System) where
  abbrev Left : List (Ty × Ty) → Ty → Type 0
  Left js = NoneIsLeft f raw.limits.goal_depth js

  -- where no other type stands in it
  pub lists_each : {X : Type 0} (T : X → Ty → Type 0) (x : X) (v : Ty) (ps qs : List Proof) (js ks : List (Ty × Ty)) → ((t : Ty) → T x t → v ≡ t) → Lists raw item f (λ os. Left os v) ps qs js ks → Lists raw item f (λ os. EachIn T (Left os) x) ps qs js ks
  lists_each T x v ps qs js ks only h = record { adds = h.adds; none = λ t in_x. subst (Left ks) (only t in_x) h.none }

  pub only_called : (o : Option InferenceDiagnostic) (e : ExprId) (v t : Ty) → o ≡ Some (diagnostic.ExpectedFunction e v) → StandsInDiagnostic o t → v ≡ t
  only_called o e v t is (d, at) = (let both : Some (diagnostic.ExpectedFunction e v) ≡ Some (diagnostic.ExpectedFunction d t) = sym is ∙ at in cc)

  in_mismatch : (o : Option TypeMismatch) (m : TypeMismatch) (js : List (Ty × Ty)) → o ≡ Some m → Left js m.expected → Left js m.actual → EachIn StandsInMismatch (Left js) o
  in_mismatch o m js is expected actual t (x, at, stands) =
      let same : m ≡ x = same_Some m x (sym is ∙ at) in
      elim stands [
        | inl e ↦ subst (Left js) (ap (λ (y : TypeMismatch). y.expected) same ∙ e) expected
        | inr e ↦ subst (Left js) (ap (λ (y : TypeMismatch). y.actual) same ∙ e) actual
      ]

  pub lists_mismatch : (o : Option TypeMismatch) (m : TypeMismatch) (ps qs rs : List Proof) (js ks ls : List (Ty × Ty)) → o ≡ Some m → Lists raw item f (λ os. Left os m.expected) ps qs js ks → Lists raw item f (λ os. Left os m.actual) qs rs ks ls
      → Lists raw item f (λ os. EachIn StandsInMismatch (Left os) o) ps rs js ls
  lists_mismatch o m ps qs rs js ks ls is a b =
      lists_both raw item f (λ os. Left os m.expected) (λ os. Left os m.actual) (λ os. EachIn StandsInMismatch (Left os) o) ps qs rs js ks ls
      (λ l h. none_later f raw.limits.goal_depth ks ls l m.expected h) (in_mismatch o m ls is) a b

  abbrev Of : {X : Type 0} → (X → Ty → Type 0) → List X → List (Ty × Ty) → Type 0
  Of T xs js = EachOf T (Left js) xs

  later : {X : Type 0} (T : X → Ty → Type 0) (xs : List X) (ps qs : List Proof) (js ks : List (Ty × Ty)) → AddsRead raw item f ps qs js ks → Of T xs js → Of T xs ks
  later T xs ps qs js ks a h = all_later f raw.limits.goal_depth js ks a.lists.behind T xs h

  in_diagnostic : (js : List (Ty × Ty)) (d : InferenceDiagnostic) → EachIn StandsInDiagnostic (Left js) (Some d) → AllInDiagnostic (Left js) d
  in_diagnostic js (diagnostic.MismatchedArgCount e expected found) h = tt
  in_diagnostic js (diagnostic.MismatchedTupleStructPatArgCount e expected found) h = tt
  in_diagnostic js (diagnostic.ExpectedFunction e t) h = h t (e, refl)

  -- what is left in each column
  module _ (r : InferenceResult) (js : List (Ty × Ty))
      (exprs : Of StandsInType r.type_of_expr js) (pats : Of StandsInType r.type_of_pat js) (bindings : Of StandsInType r.type_of_binding js)
      (placeholders : Of StandsInType r.type_of_placeholder js) (items : Of StandsInType r.item_of_pat js)
      (mismatches : Of StandsInMismatch r.expr_mismatches js) (pat_mismatches : Of StandsInMismatch r.pat_mismatches js)
      (diagnostics : Of StandsInDiagnostic r.expr_diagnostics js) where
    left_in : (c : Column) (n : ℕ) (x : Entry c) → IsIn r c n x → AllIn (Left js) (entry_kind c) x
    left_in column.type_of_expr n t at = exprs n (Some t) at t refl
    left_in column.type_of_pat n t at = pats n (Some t) at t refl
    left_in column.type_of_binding n t at = bindings n (Some t) at t refl
    left_in column.type_of_placeholder n t at = placeholders n (Some t) at t refl
    left_in column.item_of_pat n t at = items n (Some t) at t refl
    left_in column.expr_mismatches n x at = (mismatches n (Some x) at x.expected (x, refl, inl refl), mismatches n (Some x) at x.actual (x, refl, inr refl))
    left_in column.pat_mismatches n x at = (pat_mismatches n (Some x) at x.expected (x, refl, inl refl), pat_mismatches n (Some x) at x.actual (x, refl, inr refl))
    left_in column.expr_diagnostics n d at = in_diagnostic js d (diagnostics n (Some d) at)
    left_in _ n x at = tt

  pub lists_table : (r : InferenceResult) (p0 p1 p2 p3 p4 p5 p6 p7 p8 : List Proof) (j0 j1 j2 j3 j4 j5 j6 j7 j8 : List (Ty × Ty))
      → Lists raw item f (Of StandsInType r.type_of_expr) p0 p1 j0 j1 → Lists raw item f (Of StandsInType r.type_of_pat) p1 p2 j1 j2
      → Lists raw item f (Of StandsInType r.type_of_binding) p2 p3 j2 j3 → Lists raw item f (Of StandsInType r.type_of_placeholder) p3 p4 j3 j4
      → Lists raw item f (Of StandsInType r.item_of_pat) p4 p5 j4 j5
      → Lists raw item f (Of StandsInMismatch r.expr_mismatches) p5 p6 j5 j6 → Lists raw item f (Of StandsInMismatch r.pat_mismatches) p6 p7 j6 j7
      → Lists raw item f (Of StandsInDiagnostic r.expr_diagnostics) p7 p8 j7 j8 → Lists raw item f (λ js. AllTypes (Left js) r) p0 p8 j0 j8
  lists_table r p0 p1 p2 p3 p4 p5 p6 p7 p8 j0 j1 j2 j3 j4 j5 j6 j7 j8 a b c d i e g h =
      let from7 = h.adds in
      let from6 = read_then raw item f p6 p7 p8 j6 j7 j8 g.adds from7 in
      let from5 = read_then raw item f p5 p6 p8 j5 j6 j8 e.adds from6 in
      let from4 = read_then raw item f p4 p5 p8 j4 j5 j8 i.adds from5 in
      let from3 = read_then raw item f p3 p4 p8 j3 j4 j8 d.adds from4 in
      let from2 = read_then raw item f p2 p3 p8 j2 j3 j8 c.adds from3 in
      let from1 = read_then raw item f p1 p2 p8 j1 j2 j8 b.adds from2 in
      let exprs = later StandsInType r.type_of_expr p1 p8 j1 j8 from1 a.none in
      let pats = later StandsInType r.type_of_pat p2 p8 j2 j8 from2 b.none in
      let bindings = later StandsInType r.type_of_binding p3 p8 j3 j8 from3 c.none in
      let placeholders = later StandsInType r.type_of_placeholder p4 p8 j4 j8 from4 d.none in
      let items = later StandsInType r.item_of_pat p5 p8 j5 j8 from5 i.none in
      let mismatches = later StandsInMismatch r.expr_mismatches p6 p8 j6 j8 from6 e.none in
      let pat_mismatches = later StandsInMismatch r.pat_mismatches p7 p8 j7 j8 from7 g.none in
      record {
        adds = read_then raw item f p0 p1 p8 j0 j1 j8 a.adds from1;
        none = record { each = left_in r j8 exprs pats bindings placeholders items mismatches pat_mismatches h.none };
      }
