-- Laws of the bindings of a table: where each stands, whose holes are in them, and what a hole's place says.
use Rattle.std.specs.Prelude.{◌≡◌, ℕ, zero, suc, ◌<◌, Bool, true, false, cond, List, [], ◌∷◌, ◌++◌, Option, Some, None, slice_get, take, length, set, ◌≢◌}
use Rattle.std.specs.Option.{option_map}
use Rattle.std.proofs.Common.{◌⊎◌, inl, inr, refl, sym, ap, ◌∙◌, subst, arith, true≢false}
use Rattle.std.proofs.lemmas.Option.{same_Some}
use Rattle.infer_table.specs.Words.{Hole, HoleKind, Term, occurs, hole_eq, hole_number}
use Rattle.hir_types.specs.declared.head.Hole.TheVariants as hole_of
use Rattle.infer_table.specs.Own.{Binding, Log, found, resolved, Triangular, Free, Kept, entry, log_of, hole_kind, IsOf, AreOf, hole_eq_true, hole_eq_from, BindsOf, resolved_are_of, triangular_last, bound_hole, bound_term, found_binding, AllOf}
use Rattle.infer_table.specs.declared.binding.Binding.TheVariants as binding

-- ---- elements of lists by their places

pub get_left : {X : Type 0} (xs ys : List X) (i : ℕ) (x : X) → slice_get xs i ≡ Some x → slice_get (xs ++ ys) i ≡ Some x
get_left [] ys i x e = cc
get_left (z ∷ xs) ys zero x e = e
get_left (z ∷ xs) ys (suc i) x e = get_left xs ys i x e

pub get_last : {X : Type 0} (xs : List X) (y : X) → slice_get (xs ++ y ∷ []) (length xs) ≡ Some y
get_last [] y = refl
get_last (z ∷ xs) y = get_last xs y

pub get_more : {X : Type 0} (xs : List X) (y : X) (i : ℕ) (x : X) → slice_get (xs ++ y ∷ []) i ≡ Some x → (slice_get xs i ≡ Some x) ⊎ ((i ≡ length xs) × (y ≡ x))
get_more [] y zero x e = inr (refl, same_Some y x e)
get_more [] y (suc i) x e = cc
get_more (z ∷ xs) y zero x e = inl e
get_more (z ∷ xs) y (suc i) x e = elim (get_more xs y i x e) [
  | inl q ↦ inl q
  | inr q ↦ inr (ap suc q.0, q.1)
]

pub get_set_same : {X : Type 0} (xs : List X) (i : ℕ) (y : X) → i < length xs → slice_get (set xs i y) i ≡ Some y
get_set_same [] i y h = absurd (omega arith)
get_set_same (z ∷ xs) zero y h = refl
get_set_same (z ∷ xs) (suc i) y h = get_set_same xs i y (omega arith)

pub get_set_other : {X : Type 0} (xs : List X) (n : ℕ) (y : X) (i : ℕ) (o : Option X) → i ≢ n → slice_get xs i ≡ o → slice_get (set xs n y) i ≡ o
get_set_other [] n y i o h e = e
get_set_other (z ∷ xs) zero y zero o h e = absurd (h refl)
get_set_other (z ∷ xs) zero y (suc i) o h e = e
get_set_other (z ∷ xs) (suc n) y zero o h e = e
get_set_other (z ∷ xs) (suc n) y (suc i) o h e = get_set_other xs n y i o (λ q. h (ap suc q)) e

pub get_set : {X : Type 0} (xs : List X) (n : ℕ) (y : X) (i : ℕ) (x : X) → slice_get (set xs n y) i ≡ Some x → ((i ≡ n) × (y ≡ x)) ⊎ ((i ≢ n) × (slice_get xs i ≡ Some x))
get_set [] n y i x e = cc
get_set (z ∷ xs) zero y zero x e = inl (refl, same_Some y x e)
get_set (z ∷ xs) zero y (suc i) x e = inr (omega arith, e)
get_set (z ∷ xs) (suc n) y zero x e = inr (omega arith, e)
get_set (z ∷ xs) (suc n) y (suc i) x e = elim (get_set xs n y i x e) [
  | inl q ↦ inl (ap suc q.0, q.1)
  | inr q ↦ inr (omega (arith, q.0), q.1)
]

pub get_take : {X : Type 0} (xs : List X) (n i : ℕ) → i < n → slice_get (take n xs) i ≡ slice_get xs i
get_take [] zero i h = refl
get_take [] (suc n) i h = refl
get_take (z ∷ xs) zero i h = absurd (omega arith)
get_take (z ∷ xs) (suc n) zero h = refl
get_take (z ∷ xs) (suc n) (suc i) h = get_take xs n i (omega arith)

pub get_from_take : {X : Type 0} (xs : List X) (n i : ℕ) (x : X) → slice_get (take n xs) i ≡ Some x → (i < n) × (slice_get xs i ≡ Some x)
get_from_take [] zero i x e = cc
get_from_take [] (suc n) i x e = cc
get_from_take (z ∷ xs) zero i x e = cc
get_from_take (z ∷ xs) (suc n) zero x e = (omega arith, e)
get_from_take (z ∷ xs) (suc n) (suc i) x e = let q = get_from_take xs n i x e in (omega (arith, q.0), q.1)

-- ---- holes

-- a hole is its kind and its number
pub hole_same_parts : (x y : Hole) → hole_kind x ≡ hole_kind y → hole_number x ≡ hole_number y → x ≡ y
hole_same_parts (hole_of.Ty m) (hole_of.Ty n) e f = ap hole_of.Ty f
hole_same_parts (hole_of.Int m) (hole_of.Int n) e f = ap hole_of.Int f
hole_same_parts (hole_of.Const m) (hole_of.Const n) e f = ap hole_of.Const f
hole_same_parts (hole_of.Ty m) (hole_of.Int n) e f = cc
hole_same_parts (hole_of.Ty m) (hole_of.Const n) e f = cc
hole_same_parts (hole_of.Int m) (hole_of.Ty n) e f = cc
hole_same_parts (hole_of.Int m) (hole_of.Const n) e f = cc
hole_same_parts (hole_of.Const m) (hole_of.Ty n) e f = cc
hole_same_parts (hole_of.Const m) (hole_of.Int n) e f = cc

-- holes that were made are one where their numbers are
pub is_of_same : (kinds : List HoleKind) (x y : Hole) → IsOf kinds x → IsOf kinds y → hole_number x ≡ hole_number y → x ≡ y
is_of_same kinds x y h g e =
    hole_same_parts x y (same_Some (hole_kind x) (hole_kind y) (sym h ∙ ap (slice_get kinds) e ∙ g)) e

-- ---- what a hole is bound to

found_step : (f : Binding → Term) (b : Binding) (c : Bool) (m : Option Term) (o : Option Binding) → m ≡ option_map f o → cond c (Some (f b)) m ≡ option_map f (cond c (Some b) o)
found_step f b true m o e = refl
found_step f b false m o e = e

pub found_term : (bs : List Binding) (k : Hole) → found (log_of bs) k ≡ option_map bound_term (found_binding bs k)
found_term [] k = refl
found_term (binding.Ty n t ∷ bs) k = found_step bound_term (binding.Ty n t) (hole_eq k (hole_of.Ty n)) (found (log_of bs) k) (found_binding bs k) (found_term bs k)
found_term (binding.Int n t ∷ bs) k = found_step bound_term (binding.Int n t) (hole_eq k (hole_of.Int n)) (found (log_of bs) k) (found_binding bs k) (found_term bs k)
found_term (binding.Const n c ∷ bs) k = found_step bound_term (binding.Const n c) (hole_eq k (hole_of.Const n)) (found (log_of bs) k) (found_binding bs k) (found_term bs k)

binding_case : (b c : Binding) (o : Option Binding) (t : Bool) → cond t (Some b) o ≡ Some c → ((t ≡ true) × (b ≡ c)) ⊎ (o ≡ Some c)
binding_case b c o true e = inl (refl, same_Some b c e)
binding_case b c o false e = inr e

none_case : (b : Binding) (o : Option Binding) (t : Bool) → cond t (Some b) o ≡ None → (t ≡ false) × (o ≡ None)
none_case b o true e = cc
none_case b o false e = (refl, e)

-- a binding that is found stands at a place
pub found_binding_place : (bs : List Binding) (k : Hole) (b : Binding) → found_binding bs k ≡ Some b → (i : ℕ) × (slice_get bs i ≡ Some b) × (bound_hole b ≡ k)
found_binding_place [] k b e = cc
found_binding_place (a ∷ bs) k b e = elim (binding_case a b (found_binding bs k) (hole_eq k (bound_hole a)) e) [
  | inl q ↦ (zero, ap Some q.1, ap bound_hole (sym q.1) ∙ sym (hole_eq_true k (bound_hole a) q.0))
  | inr q ↦ let r = found_binding_place bs k b q in (suc r.0, r.1, r.2)
]

-- where none is found, none stands
pub found_binding_none : (bs : List Binding) (k : Hole) (i : ℕ) (b : Binding) → found_binding bs k ≡ None → slice_get bs i ≡ Some b → bound_hole b ≡ k → ⊥
found_binding_none [] k i b e g f = cc
found_binding_none (a ∷ bs) k zero b e g f =
    let q = none_case a (found_binding bs k) (hole_eq k (bound_hole a)) e in
    true≢false (sym (hole_eq_from k (bound_hole a) (sym f ∙ ap bound_hole (sym (same_Some a b g)))) ∙ q.0)
found_binding_none (a ∷ bs) k (suc i) b e g f =
    found_binding_none bs k i b (none_case a (found_binding bs k) (hole_eq k (bound_hole a)) e).1 g f

-- ---- whose holes were made

pub all_of_last : (kinds : List HoleKind) (bs : List Binding) (b : Binding) → AllOf kinds bs → IsOf kinds (bound_hole b) → AreOf kinds (bound_term b) → AllOf kinds (bs ++ b ∷ [])
all_of_last kinds [] b h i j = (i, j, tt)
all_of_last kinds (a ∷ bs) b h i j = (h.0, h.1, all_of_last kinds bs b h.2 i j)

pub all_of_left : (kinds : List HoleKind) (bs cs : List Binding) → AllOf kinds (bs ++ cs) → AllOf kinds bs
all_of_left kinds [] cs h = tt
all_of_left kinds (b ∷ bs) cs h = (h.0, h.1, all_of_left kinds bs cs h.2)

pub all_of_at : (kinds : List HoleKind) (bs : List Binding) (i : ℕ) (b : Binding) → AllOf kinds bs → slice_get bs i ≡ Some b → IsOf kinds (bound_hole b) × AreOf kinds (bound_term b)
all_of_at kinds [] i b h e = cc
all_of_at kinds (a ∷ bs) zero b h e =
    let P : Binding → Type 0 = λ z. IsOf kinds (bound_hole z) × AreOf kinds (bound_term z) in
    subst P (same_Some a b e) (h.0, h.1)
all_of_at kinds (a ∷ bs) (suc i) b h e = all_of_at kinds bs i b h.2 e

-- holes that are made later take nothing away
pub is_of_last : (kinds : List HoleKind) (c : HoleKind) (k : Hole) → IsOf kinds k → IsOf (kinds ++ c ∷ []) k
is_of_last kinds c k h = get_left kinds (c ∷ []) (hole_number k) (hole_kind k) h

pub are_of_last : (kinds : List HoleKind) (c : HoleKind) (t : Term) → AreOf kinds t → AreOf (kinds ++ c ∷ []) t
are_of_last kinds c t h k e = is_of_last kinds c k (h k e)

pub all_of_more : (kinds : List HoleKind) (c : HoleKind) (bs : List Binding) → AllOf kinds bs → AllOf (kinds ++ c ∷ []) bs
all_of_more kinds c [] h = tt
all_of_more kinds c (b ∷ bs) h = (is_of_last kinds c (bound_hole b) h.0, are_of_last kinds c (bound_term b) h.1, all_of_more kinds c bs h.2)

-- ---- bindings, as a log of terms

pub entry_parts : (b : Binding) → entry b ≡ (bound_hole b, bound_term b)
entry_parts (binding.Ty n t) = refl
entry_parts (binding.Int n t) = refl
entry_parts (binding.Const n c) = refl

pub log_of_last : (bs : List Binding) (b : Binding) → log_of (bs ++ b ∷ []) ≡ log_of bs ++ (bound_hole b, bound_term b) ∷ []
log_of_last [] b = ap (λ (p : Hole × Term). p ∷ []) (entry_parts b)
log_of_last (a ∷ bs) b = ap (λ (l : Log). entry a ∷ l) (log_of_last bs b)

pub log_of_append : (bs cs : List Binding) → log_of (bs ++ cs) ≡ log_of bs ++ log_of cs
log_of_append [] cs = refl
log_of_append (b ∷ bs) cs = ap (λ (l : Log). entry b ∷ l) (log_of_append bs cs)

-- nothing is bound by the log where nothing is by the bindings
pub found_log_none : (bs : List Binding) (k : Hole) → found_binding bs k ≡ None → found (log_of bs) k ≡ None
found_log_none bs k e = found_term bs k ∙ ap (option_map bound_term) e

pub found_log_some : (bs : List Binding) (k : Hole) (b : Binding) → found_binding bs k ≡ Some b → found (log_of bs) k ≡ Some (bound_term b)
found_log_some bs k b e = found_term bs k ∙ ap (option_map bound_term) e

-- one binding more
pub triangular_bind : (bs : List Binding) (b : Binding) → Triangular (log_of bs) → found_binding bs (bound_hole b) ≡ None → Free (log_of bs) (bound_term b) → occurs (bound_hole b) (bound_term b) ≡ false → Kept (bound_hole b) (bound_term b) → Triangular (log_of (bs ++ b ∷ []))
triangular_bind bs b h e f o k =
    let P : Log → Type 0 = Triangular in
    subst P (sym (log_of_last bs b)) (triangular_last (log_of bs) (bound_hole b) (bound_term b) h (found_log_none bs (bound_hole b) e) f o k)

pub binds_of_all : (kinds : List HoleKind) (bs : List Binding) → AllOf kinds bs → BindsOf kinds (log_of bs)
binds_of_all kinds [] h = tt
binds_of_all kinds (binding.Ty n t ∷ bs) h = (h.0, h.1, binds_of_all kinds bs h.2)
binds_of_all kinds (binding.Int n t ∷ bs) h = (h.0, h.1, binds_of_all kinds bs h.2)
binds_of_all kinds (binding.Const n c ∷ bs) h = (h.0, h.1, binds_of_all kinds bs h.2)

-- putting the bindings in brings in no hole that was not made
pub resolved_made : (kinds : List HoleKind) (bs : List Binding) (t : Term) → AllOf kinds bs → AreOf kinds t → AreOf kinds (resolved (log_of bs) t)
resolved_made kinds bs t h g = resolved_are_of kinds (log_of bs) t (binds_of_all kinds bs h) g
