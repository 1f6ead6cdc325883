-- What is said of look-ups that failed, beside what else is said.
use Rattle.std.proofs.Common.{ℕ, suc, ◌≡◌, refl, List, ◌∷◌, Option, Some, None, slice_get, zero, sym, ap, ◌∙◌, [], slice_set, Bool, true, false, length, ◌⊎◌, inl, inr, ◌<◌, subst, ◌++◌}
use Rattle.std.proofs.Math.ListN.{length-set}
use Rattle.infer_ctx.specs.Words.{ExprId, Ty, ExprOrPatId, Assignment, folded, InferenceDiagnostic, has_unknown, Seen, At}
use Rattle.hir_types.specs.declared.ids.ExprOrPatId.TheVariants as node
use Rattle.infer_result.specs.declared.diagnostics.InferenceDiagnostic.TheVariants as diagnostic
use Rattle.infer_ctx.specs.Own.{noted_where, noted, said_unless, said_at, said_of, said}
use Rattle.infer_ctx.proofs.Lists.{same_or_not, slice_get-set_other, slice_get-set_same}

-- ---- what is noted past the first
noted_where-cons : {A : Type 0} (x : Option A) (xs : List (Option A)) (n : ℕ) (m : A) (o : Option (Option A)) → noted_where o (x ∷ xs) (suc n) m ≡ x ∷ noted_where o xs n m
noted_where-cons x xs n m None = refl
noted_where-cons x xs n m (Some None) = refl
noted_where-cons x xs n m (Some (Some y)) = refl

pub noted-cons : {A : Type 0} (x : Option A) (xs : List (Option A)) (n : ℕ) (m : A) → noted (x ∷ xs) (suc n) m ≡ x ∷ noted xs n m
noted-cons x xs n m = noted_where-cons x xs n m (slice_get xs n)

-- a write somewhere, and the first that is noted elsewhere or there
set-noted : {A : Type 0} (xs : List (Option A)) (n m : ℕ) (d y : A) → slice_set (noted xs n d) m (Some y) ≡ noted (slice_set xs m (Some y)) n d
set-noted [] n m d y = refl
set-noted (None ∷ xs) zero zero d y = refl
set-noted (Some x ∷ xs) zero zero d y = refl
set-noted (None ∷ xs) zero (suc m) d y = refl
set-noted (Some x ∷ xs) zero (suc m) d y = refl
set-noted (x ∷ xs) (suc n) zero d y = ap (λ l. slice_set l zero (Some y)) (noted-cons x xs n d) ∙ sym (noted-cons (Some y) xs n d)
set-noted (x ∷ xs) (suc n) (suc m) d y =
    ap (λ l. slice_set l (suc m) (Some y)) (noted-cons x xs n d) ∙ (ap (λ l. x ∷ l) (set-noted xs n m d y) ∙ sym (noted-cons x (slice_set xs m (Some y)) n d))

-- ---- one look-up
unless-noted : (b : Bool) (ds : List (Option InferenceDiagnostic)) (e : ExprId) (t : Ty) (n : ℕ) (d : InferenceDiagnostic) → said_unless b (noted ds n d) e t ≡ noted (said_unless b ds e t) n d
unless-noted true ds e t n d = refl
unless-noted false ds e t n d = set-noted ds n e.0 d (diagnostic.ExpectedFunction e t)

at-noted : (ds : List (Option InferenceDiagnostic)) (x : ExprOrPatId) (t : Ty) (n : ℕ) (d : InferenceDiagnostic) → said_at (noted ds n d) x t ≡ noted (said_at ds x t) n d
at-noted ds (node.ExprId e) t n d = unless-noted (has_unknown t) ds e t n d
at-noted ds (node.PatId p) t n d = refl

length-unless : (b : Bool) (ds : List (Option InferenceDiagnostic)) (e : ExprId) (t : Ty) → length (said_unless b ds e t) ≡ length ds
length-unless true ds e t = refl
length-unless false ds e t = length-set ds e.0 (Some (diagnostic.ExpectedFunction e t))

length-at : (ds : List (Option InferenceDiagnostic)) (x : ExprOrPatId) (t : Ty) → length (said_at ds x t) ≡ length ds
length-at ds (node.ExprId e) t = length-unless (has_unknown t) ds e t
length-at ds (node.PatId p) t = refl

pub length-said_of : (a : Assignment) (ds : List (Option InferenceDiagnostic)) (x : Seen) → length (said_of a ds x) ≡ length ds
length-said_of a ds x = length-at ds x.node (folded a x.ty)

-- the complaint d is that what the call at n calls, of the type t, is no function
pub record IsSaidOf (x : ExprOrPatId) (t : Ty) (n : ℕ) (d : InferenceDiagnostic) : Type 0 where
  pub call : ExprId
  pub is_node : x ≡ node.ExprId call
  pub is_here : n ≡ call.0
  pub is : d ≡ diagnostic.ExpectedFunction call t
  pub known : has_unknown t ≡ false

set_cases : {A : Type 0} (xs : List (Option A)) (m n : ℕ) (y d : A) → At (slice_set xs m (Some y)) n d → At xs n d ⊎ ((n ≡ m) × (d ≡ y))
set_cases [] m n y d h = inl h
set_cases (x ∷ xs) zero zero y d h = inr (refl, (let e : y ≡ d = cc in sym e))
set_cases (x ∷ xs) zero (suc n) y d h = inl h
set_cases (x ∷ xs) (suc m) zero y d h = inl h
set_cases (x ∷ xs) (suc m) (suc n) y d h = elim (set_cases xs m n y d h) [ inl k ↦ inl k | inr k ↦ inr (ap suc k.0, k.1) ]

unless_cases : (b : Bool) (ds : List (Option InferenceDiagnostic)) (e : ExprId) (t : Ty) (n : ℕ) (d : InferenceDiagnostic) → has_unknown t ≡ b → At (said_unless b ds e t) n d → At ds n d ⊎ IsSaidOf (node.ExprId e) t n d
unless_cases true ds e t n d is h = inl h
unless_cases false ds e t n d is h = elim (set_cases ds e.0 n (diagnostic.ExpectedFunction e t) d h) [
  | inl k ↦ inl k
  | inr k ↦ inr (record { call = e; is_node = refl; is_here = k.0; is = k.1; known = is })
]

at_cases : (ds : List (Option InferenceDiagnostic)) (x : ExprOrPatId) (t : Ty) (n : ℕ) (d : InferenceDiagnostic) → At (said_at ds x t) n d → At ds n d ⊎ IsSaidOf x t n d
at_cases ds (node.ExprId e) t n d h = unless_cases (has_unknown t) ds e t n d refl h
at_cases ds (node.PatId p) t n d h = inl h

-- what is said was said before, or is this
pub said_of-cases : (a : Assignment) (ds : List (Option InferenceDiagnostic)) (x : Seen) (n : ℕ) (d : InferenceDiagnostic) → At (said_of a ds x) n d → At ds n d ⊎ IsSaidOf x.node (folded a x.ty) n d
said_of-cases a ds x n d h = at_cases ds x.node (folded a x.ty) n d h

unless_keeps : (b : Bool) (ds : List (Option InferenceDiagnostic)) (e : ExprId) (t : Ty) (n : ℕ) (d : InferenceDiagnostic) → At ds n d → At (said_unless b ds e t) n d ⊎ (n ≡ e.0)
unless_keeps true ds e t n d h = inl h
unless_keeps false ds e t n d h = elim (same_or_not n e.0) [
  | inl k ↦ inr k
  | inr k ↦ inl (slice_get-set_other ds e.0 n (Some (diagnostic.ExpectedFunction e t)) k ∙ h)
]

at_keeps : (ds : List (Option InferenceDiagnostic)) (x : ExprOrPatId) (t : Ty) (n : ℕ) (d : InferenceDiagnostic) → At ds n d → At (said_at ds x t) n d ⊎ (x ≡ node.ExprId (record { 0 = n }))
at_keeps ds (node.ExprId e) t n d h = elim (unless_keeps (has_unknown t) ds e t n d h) [
  | inl k ↦ inl k
  | inr k ↦ inr (ap (λ m. node.ExprId (record { 0 = m })) (sym k))
]
at_keeps ds (node.PatId p) t n d h = inl h

-- what was said before stays, but at the call itself
pub said_of-keeps : (a : Assignment) (ds : List (Option InferenceDiagnostic)) (x : Seen) (n : ℕ) (d : InferenceDiagnostic) → At ds n d → At (said_of a ds x) n d ⊎ (x.node ≡ node.ExprId (record { 0 = n }))
said_of-keeps a ds x n d h = at_keeps ds x.node (folded a x.ty) n d h

unless_own : (b : Bool) (ds : List (Option InferenceDiagnostic)) (e : ExprId) (t : Ty) → b ≡ false → e.0 < length ds → At (said_unless b ds e t) e.0 (diagnostic.ExpectedFunction e t)
unless_own true ds e t is h = absurd (cc)
unless_own false ds e t is h = slice_get-set_same ds e.0 (Some (diagnostic.ExpectedFunction e t)) h

-- this is said, unless `{unknown}` stands in the type
pub said_of-own : (a : Assignment) (ds : List (Option InferenceDiagnostic)) (x : Seen) (e : ExprId) → x.node ≡ node.ExprId e → has_unknown (folded a x.ty) ≡ false → e.0 < length ds → At (said_of a ds x) e.0 (diagnostic.ExpectedFunction e (folded a x.ty))
said_of-own a ds x e is known h =
    subst (λ n. At (said_at ds n (folded a x.ty)) e.0 (diagnostic.ExpectedFunction e (folded a x.ty))) (sym is) (unless_own (has_unknown (folded a x.ty)) ds e (folded a x.ty) known h)

-- ---- all of them
pub said-push : (a : Assignment) (xs : List Seen) (x : Seen) (ds : List (Option InferenceDiagnostic)) → said a (xs ++ x ∷ []) ds ≡ said_of a (said a xs ds) x
said-push a [] x ds = refl
said-push a (y ∷ xs) x ds = said-push a xs x (said_of a ds y)

pub said-noted : (a : Assignment) (xs : List Seen) (ds : List (Option InferenceDiagnostic)) (n : ℕ) (d : InferenceDiagnostic) → said a xs (noted ds n d) ≡ noted (said a xs ds) n d
said-noted a [] ds n d = refl
said-noted a (x ∷ xs) ds n d = ap (said a xs) (at-noted ds x.node (folded a x.ty) n d) ∙ said-noted a xs (said_of a ds x) n d

pub length-said : (a : Assignment) (xs : List Seen) (ds : List (Option InferenceDiagnostic)) → length (said a xs ds) ≡ length ds
length-said a [] ds = refl
length-said a (x ∷ xs) ds = length-said a xs (said_of a ds x) ∙ length-said_of a ds x

-- what is said in the end was noted, or is said of one of them
pub said-cases : (a : Assignment) (xs : List Seen) (ds : List (Option InferenceDiagnostic)) (n : ℕ) (d : InferenceDiagnostic) → At (said a xs ds) n d
    → At ds n d ⊎ ((i : ℕ) × (x : Seen) × (slice_get xs i ≡ Some x) × IsSaidOf x.node (folded a x.ty) n d)
said-cases a [] ds n d h = inl h
said-cases a (x ∷ xs) ds n d h = elim (said-cases a xs (said_of a ds x) n d h) [
  | inl k ↦ elim (said_of-cases a ds x n d k) [ inl q ↦ inl q | inr q ↦ inr (0, x, refl, q) ]
  | inr k ↦ inr (suc k.0, k.1, k.2, k.3)
]
