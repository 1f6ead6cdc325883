-- What a table's invariant says of each hole, and that each change keeps it.
use Rattle.std.specs.Prelude.{◌≡◌, ℕ, zero, suc, ◌+◌, List, [], ◌∷◌, ◌++◌, Option, Some, None, slice_get, take, length, set, get_or}
use Rattle.std.specs.Option.{option_map}
use Rattle.std.proofs.Common.{inl, inr, refl, sym, ap, ap₂, ◌∙◌, subst, arith}
use Rattle.std.proofs.lemmas.Option.{same_Some, none-some, slice_get-map, slice_get_within, get_or_from_slice_get}
use Rattle.std.proofs.lemmas.List.{map_push, take_more, take_all}
use Rattle.std.proofs.lemmas.Bool.{cases_eq}
use Rattle.std.proofs.Math.Seq.{map-set_same}
use Rattle.infer_table.specs.Words.{Hole, HoleKind, hole_number}
use Rattle.infer_table.specs.Own.{Binding, Variable, Log, log_of, Triangular, hole_kind, IsOf, Substitution, kinds_of, bound_hole, found_binding, AllOf, IsKept, MayBind, triangular_left}
use Rattle.infer_table.proofs.BindingLaws.{get_left, get_last, get_more, get_set_same, get_set_other, get_set, get_take, get_from_take, is_of_same, found_binding_place, found_binding_none, all_of_last, all_of_left, all_of_at, all_of_more, triangular_bind, log_of_append}

-- ---- the variable of a hole

-- a hole that was made has a variable of its kind
pub variable_of : (vs : List Variable) (k : Hole) → IsOf (kinds_of vs) k → (v : Variable) × (slice_get vs (hole_number k) ≡ Some v) × (v.kind ≡ hole_kind k)
variable_of vs k h = go (slice_get vs (hole_number k)) refl
  where
    e : option_map (λ (v : Variable). v.kind) (slice_get vs (hole_number k)) ≡ Some (hole_kind k)
    e = sym (slice_get-map (λ (v : Variable). v.kind) vs (hole_number k)) ∙ h

    go : (o : Option Variable) → slice_get vs (hole_number k) ≡ o → (v : Variable) × (slice_get vs (hole_number k) ≡ Some v) × (v.kind ≡ hole_kind k)
    go None f = absurd (none-some (hole_kind k) (ap (option_map (λ (v : Variable). v.kind)) (sym f) ∙ e))
    go (Some v) f = (v, f, same_Some v.kind (hole_kind k) (ap (option_map (λ (v : Variable). v.kind)) (sym f) ∙ e))

pub kind_from : (vs : List Variable) (k : Hole) (v : Variable) → slice_get vs (hole_number k) ≡ Some v → v.kind ≡ hole_kind k → IsOf (kinds_of vs) k
kind_from vs k v e f = slice_get-map (λ (v : Variable). v.kind) vs (hole_number k) ∙ ap (option_map (λ (v : Variable). v.kind)) e ∙ ap Some f

kind_of_variable : (vs : List Variable) (k : Hole) (v : Variable) → IsOf (kinds_of vs) k → slice_get vs (hole_number k) ≡ Some v → v.kind ≡ hole_kind k
kind_of_variable vs k v h e =
    let p = variable_of vs k h in
    ap (λ (w : Variable). w.kind) (same_Some v p.0 (sym e ∙ p.1)) ∙ p.2

-- ---- looking a hole up

-- where a binding is found, the hole's variable knows its place
pub found_means : (vs : List Variable) (log : List Binding) (k : Hole) (b : Binding) → IsKept vs log → found_binding log k ≡ Some b → (i : ℕ) × (v : Variable) × (slice_get log i ≡ Some b) × (slice_get vs (hole_number k) ≡ Some v) × (v.place ≡ Some i) × (v.kind ≡ hole_kind k)
found_means vs log k b h e =
    let p = found_binding_place log k b e in
    let q = h.placed.bound p.0 b p.1 in
    let P : Hole → Type 0 = λ z. slice_get vs (hole_number z) ≡ Some q.0 in
    let r : slice_get vs (hole_number k) ≡ Some q.0 = subst P p.2 q.1 in
    let Q : Hole → Type 0 = IsOf (kinds_of vs) in
    let s : IsOf (kinds_of vs) k = subst Q p.2 (all_of_at (kinds_of vs) log p.0 b h.made p.1).0 in
    (p.0, q.0, p.1, r, q.2, kind_of_variable vs k q.0 s r)

-- no binding is found of a hole that was not made
pub found_missing : (vs : List Variable) (log : List Binding) (k : Hole) → IsKept vs log → slice_get vs (hole_number k) ≡ None → found_binding log k ≡ None
found_missing vs log k h e = go (found_binding log k) refl
  where
    go : (o : Option Binding) → found_binding log k ≡ o → o ≡ None
    go None f = refl
    go (Some b) f = let m = found_means vs log k b h f in absurd (none-some m.1 (sym e ∙ m.3))

-- nor of one of another kind
pub found_other : (vs : List Variable) (log : List Binding) (k : Hole) (v : Variable) → IsKept vs log → slice_get vs (hole_number k) ≡ Some v → (v.kind ≡ hole_kind k → ⊥) → found_binding log k ≡ None
found_other vs log k v h e n = go (found_binding log k) refl
  where
    go : (o : Option Binding) → found_binding log k ≡ o → o ≡ None
    go None f = refl
    go (Some b) f = let m = found_means vs log k b h f in
        absurd (n (ap (λ (w : Variable). w.kind) (same_Some v m.1 (sym e ∙ m.3)) ∙ m.5))

-- nor of an open one
pub found_open : (vs : List Variable) (log : List Binding) (k : Hole) (v : Variable) → IsKept vs log → slice_get vs (hole_number k) ≡ Some v → v.place ≡ None → found_binding log k ≡ None
found_open vs log k v h e n = go (found_binding log k) refl
  where
    go : (o : Option Binding) → found_binding log k ≡ o → o ≡ None
    go None f = refl
    go (Some b) f = let m = found_means vs log k b h f in
        absurd (none-some m.0 (sym n ∙ ap (λ (w : Variable). w.place) (same_Some v m.1 (sym e ∙ m.3)) ∙ m.4))

-- the place of a hole's binding
pub found_placed : (vs : List Variable) (log : List Binding) (k : Hole) (v : Variable) (i : ℕ) → IsKept vs log → slice_get vs (hole_number k) ≡ Some v → v.kind ≡ hole_kind k → v.place ≡ Some i → slice_get log i ≡ found_binding log k
found_placed vs log k v i h e f g = go (found_binding log k) refl
  where
    p : (b : Binding) × (slice_get log i ≡ Some b) × (hole_number (bound_hole b) ≡ hole_number k)
    p = h.placed.placed (hole_number k) v i e g

    s : bound_hole p.0 ≡ k
    s = is_of_same (kinds_of vs) (bound_hole p.0) k (all_of_at (kinds_of vs) log i p.0 h.made p.1).0 (kind_from vs k v e f) p.2

    go : (o : Option Binding) → found_binding log k ≡ o → slice_get log i ≡ o
    go None q = absurd (found_binding_none log k i p.0 q p.1 s)
    go (Some b) q =
        let m = found_means vs log k b h q in
        let r : m.0 ≡ i = same_Some m.0 i (sym m.4 ∙ ap (λ (w : Variable). w.place) (same_Some m.1 v (sym m.3 ∙ e)) ∙ g) in
        ap (slice_get log) (sym r) ∙ m.2

-- ---- one hole more

pub kinds_of_last : (vs : List Variable) (v : Variable) → kinds_of (vs ++ v ∷ []) ≡ kinds_of vs ++ v.kind ∷ []
kinds_of_last vs v = map_push (λ (w : Variable). w.kind) vs v

pub kept_new : (vs : List Variable) (log : List Binding) (v : Variable) → IsKept vs log → v.place ≡ None → IsKept (vs ++ v ∷ []) log
kept_new vs log v h n = record {
  acyclic = h.acyclic;
  made = (let P : List HoleKind → Type 0 = λ ks. AllOf ks log in subst P (sym (kinds_of_last vs v)) (all_of_more (kinds_of vs) v.kind log h.made));
  placed = record {
    bound = λ i b e. let p = h.placed.bound i b e in (p.0, get_left vs (v ∷ []) (hole_number (bound_hole b)) p.0 p.1, p.2);
    placed = λ m w i e f. elim (get_more vs v m w e) [
      | inl q ↦ h.placed.placed m w i q f
      | inr q ↦ absurd (none-some i (sym n ∙ ap (λ (u : Variable). u.place) q.1 ∙ f))
    ];
  };
}

-- ---- a variable written

pub kinds_of_set : (vs : List Variable) (n : ℕ) (v w : Variable) → slice_get vs n ≡ Some v → w.kind ≡ v.kind → kinds_of (set vs n w) ≡ kinds_of vs
kinds_of_set vs n v w e f =
    map-set_same (λ (u : Variable). u.kind) vs n w w (f ∙ ap (λ (u : Variable). u.kind) (sym (get_or_from_slice_get vs n v w e)))

-- with the kind and the place that it had
pub kept_same : (vs : List Variable) (log : List Binding) (n : ℕ) (v w : Variable) → IsKept vs log → slice_get vs n ≡ Some v → w.kind ≡ v.kind → w.place ≡ v.place → IsKept (set vs n w) log
kept_same vs log n v w h e f g = record {
  acyclic = h.acyclic;
  made = (let P : List HoleKind → Type 0 = λ ks. AllOf ks log in subst P (sym (kinds_of_set vs n v w e f)) h.made);
  placed = record {
    bound = λ i b q.
        let p = h.placed.bound i b q in
        elim (cases_eq (hole_number (bound_hole b)) n) [
          | inl r ↦ (
            w,
            ap (slice_get (set vs n w)) r ∙ get_set_same vs n w (slice_get_within vs n v e),
            g ∙ ap (λ (u : Variable). u.place) (same_Some v p.0 (sym e ∙ ap (slice_get vs) (sym r) ∙ p.1)) ∙ p.2,
          )
          | inr r ↦ (p.0, get_set_other vs n w (hole_number (bound_hole b)) (Some p.0) r p.1, p.2)
        ];
    placed = λ m u i q r. elim (get_set vs n w m u q) [
      | inl s ↦ h.placed.placed m v i (ap (slice_get vs) s.0 ∙ e) (sym g ∙ ap (λ (z : Variable). z.place) s.1 ∙ r)
      | inr s ↦ h.placed.placed m u i s.1 r
    ];
  };
}

-- ---- one binding more

pub kept_bind : (vs : List Variable) (log : List Binding) (b : Binding) (v w : Variable) → IsKept vs log → MayBind (record { kinds = kinds_of vs; log = log }) b → slice_get vs (hole_number (bound_hole b)) ≡ Some v → w.kind ≡ v.kind → w.place ≡ Some (length log) → IsKept (set vs (hole_number (bound_hole b)) w) (log ++ b ∷ [])
kept_bind vs log b v w h m e f g = record {
  acyclic = triangular_bind log b h.acyclic m.is_open m.none_bound m.no_cycle m.kind_kept;
  made = (let P : List HoleKind → Type 0 = λ ks. AllOf ks (log ++ b ∷ []) in
      subst P (sym (kinds_of_set vs n v w e f)) (all_of_last (kinds_of vs) log b h.made m.made m.holes_made));
  placed = record {
    bound = λ i c q. elim (get_more log b i c q) [
      | inl r ↦
          let p = h.placed.bound i c r in
          elim (cases_eq (hole_number (bound_hole c)) n) [
            | inl s ↦ absurd (found_binding_none log (bound_hole b) i c m.is_open r
                (is_of_same (kinds_of vs) (bound_hole c) (bound_hole b) (all_of_at (kinds_of vs) log i c h.made r).0 m.made s))
            | inr s ↦ (p.0, get_set_other vs n w (hole_number (bound_hole c)) (Some p.0) s p.1, p.2)
          ]
      | inr r ↦ (w, ap (λ (z : Binding). slice_get (set vs n w) (hole_number (bound_hole z))) (sym r.1) ∙ get_set_same vs n w (slice_get_within vs n v e), g ∙ ap Some (sym r.0))
    ];
    placed = λ k u i q r. elim (get_set vs n w k u q) [
      | inl s ↦
          let t : length log ≡ i = same_Some (length log) i (sym g ∙ ap (λ (z : Variable). z.place) s.1 ∙ r) in
          (b, ap (slice_get (log ++ b ∷ [])) (sym t) ∙ get_last log b, sym s.0)
      | inr s ↦ let p = h.placed.placed k u i s.1 r in (p.0, get_left log (b ∷ []) i p.0 p.1, p.2)
    ];
  };
}
  where
    n : ℕ
    n = hole_number (bound_hole b)

-- ---- the last binding undone

pub kept_undo : (vs : List Variable) (log : List Binding) (b : Binding) (v w : Variable) → IsKept vs (log ++ b ∷ []) → slice_get vs (hole_number (bound_hole b)) ≡ Some v → w.kind ≡ v.kind → w.place ≡ None → IsKept (set vs (hole_number (bound_hole b)) w) log
kept_undo vs log b v w h e f g = record {
  acyclic = (let P : Log → Type 0 = Triangular in triangular_left (log_of log) (log_of (b ∷ [])) (subst P (log_of_append log (b ∷ [])) h.acyclic));
  made = (let P : List HoleKind → Type 0 = λ ks. AllOf ks log in
      subst P (sym (kinds_of_set vs n v w e f)) (all_of_left (kinds_of vs) log (b ∷ []) h.made));
  placed = record {
    bound = λ i c q.
        let p = h.placed.bound i c (get_left log (b ∷ []) i c q) in
        elim (cases_eq (hole_number (bound_hole c)) n) [
          | inl s ↦
              let o = h.placed.bound (length log) b (get_last log b) in
              let t : i ≡ length log = same_Some i (length log) (sym p.2 ∙ ap (λ (z : Variable). z.place) (same_Some p.0 o.0 (sym p.1 ∙ ap (slice_get vs) s ∙ o.1)) ∙ o.2) in
              let u = slice_get_within log i c q in
              absurd (omega arith)
          | inr s ↦ (p.0, get_set_other vs n w (hole_number (bound_hole c)) (Some p.0) s p.1, p.2)
        ];
    placed = λ k u i q r. elim (get_set vs n w k u q) [
      | inl s ↦ absurd (none-some i (sym g ∙ ap (λ (z : Variable). z.place) s.1 ∙ r))
      | inr s ↦
          let p = h.placed.placed k u i s.1 r in
          elim (get_more log b i p.0 p.1) [
            | inl t ↦ (p.0, t, p.2)
            | inr t ↦ absurd (s.0 (sym p.2 ∙ ap (λ (z : Binding). hole_number (bound_hole z)) (sym t.1)))
          ]
    ];
  };
}
  where
    n : ℕ
    n = hole_number (bound_hole b)

-- ---- holes that no binding needs

pub kinds_of_take : (vs : List Variable) (n : ℕ) → kinds_of (take n vs) ≡ take n (kinds_of vs)
kinds_of_take [] zero = refl
kinds_of_take [] (suc n) = refl
kinds_of_take (v ∷ vs) zero = refl
kinds_of_take (v ∷ vs) (suc n) = ap (λ (ks : List HoleKind). v.kind ∷ ks) (kinds_of_take vs n)

pub kept_forget : (vs : List Variable) (log : List Binding) (n : ℕ) → IsKept vs log → AllOf (take n (kinds_of vs)) log → IsKept (take n vs) log
kept_forget vs log n h a = record {
  acyclic = h.acyclic;
  made = (let P : List HoleKind → Type 0 = λ ks. AllOf ks log in subst P (sym (kinds_of_take vs n)) a);
  placed = record {
    bound = λ i b e.
        let p = h.placed.bound i b e in
        let q = get_from_take (kinds_of vs) n (hole_number (bound_hole b)) (hole_kind (bound_hole b)) (all_of_at (take n (kinds_of vs)) log i b a e).0 in
        (p.0, get_take vs n (hole_number (bound_hole b)) q.0 ∙ p.1, p.2);
    placed = λ m v i e f. h.placed.placed m v i (get_from_take vs n m v e).1 f;
  };
}

-- ---- what contracts see

pub views_same : (vs ws : List Variable) (log log' : List Binding) → kinds_of vs ≡ kinds_of ws → log ≡ log' → ◌≡◌ {A = Substitution} (record { kinds = kinds_of vs; log = log }) (record { kinds = kinds_of ws; log = log' })
views_same vs ws log log' e f = ap₂ (λ (ks : List HoleKind) (l : List Binding). record { kinds = ks; log = l }) e f

-- the variable that was read at a hole's number, of a binding that was made
pub read_at : {X : Type 0} (xs : List X) (n m : ℕ) (x y : X) → n ≡ m → slice_get xs m ≡ Some x → y ≡ get_or xs n y → y ≡ x
read_at xs n m x y e f g = g ∙ ap (λ (i : ℕ). get_or xs i y) e ∙ get_or_from_slice_get xs m x y f

-- the same of the last binding of a log
pub kept_cut : (vs : List Variable) (log : List Binding) (b : Binding) (v w : Variable) (i n : ℕ) → IsKept vs log → slice_get log i ≡ Some b → i + 1 ≡ length log → n ≡ hole_number (bound_hole b) → v ≡ get_or vs n v → w.kind ≡ v.kind → w.place ≡ None → IsKept (set vs n w) (take i log) × (kinds_of (set vs n w) ≡ kinds_of vs)
kept_cut vs log b v w i n h e f g k l m =
    let a = variable_of vs (bound_hole b) (all_of_at (kinds_of vs) log i b h.made e).0 in
    let q : v ≡ a.0 = read_at vs n (hole_number (bound_hole b)) a.0 v g a.1 k in
    let j : w.kind ≡ a.0.kind = l ∙ ap (λ (z : Variable). z.kind) q in
    let s : take (i + 1) log ≡ take i log ++ b ∷ [] = take_more log i b (slice_get_within log i b e) ∙ ap (λ (z : Binding). take i log ++ z ∷ []) (get_or_from_slice_get log i b b e) in
    let t : log ≡ take i log ++ b ∷ [] = sym (take_all (i + 1) log (omega arith)) ∙ s in
    let P : List Binding → Type 0 = IsKept vs in
    let Q : ℕ → Type 0 = λ z. IsKept (set vs z w) (take i log) × (kinds_of (set vs z w) ≡ kinds_of vs) in
    subst Q (sym g) (kept_undo vs (take i log) b a.0 w (subst P t h) a.1 j m, kinds_of_set vs (hole_number (bound_hole b)) a.0 w a.1 j)

-- one binding more, as the code has it
pub kept_add : (vs : List Variable) (log new : List Binding) (b : Binding) (v w : Variable) (n : ℕ) → IsKept vs log → MayBind (record { kinds = kinds_of vs; log = log }) b → new ≡ log ++ b ∷ [] → n ≡ hole_number (bound_hole b) → v ≡ get_or vs n v → w.kind ≡ v.kind → w.place ≡ Some (length log) → IsKept (set vs n w) new × (kinds_of (set vs n w) ≡ kinds_of vs)
kept_add vs log new b v w n h m e g k l p =
    let a = variable_of vs (bound_hole b) m.made in
    let q : v ≡ a.0 = read_at vs n (hole_number (bound_hole b)) a.0 v g a.1 k in
    let j : w.kind ≡ a.0.kind = l ∙ ap (λ (z : Variable). z.kind) q in
    let P : List Binding → Type 0 = IsKept (set vs (hole_number (bound_hole b)) w) in
    let Q : ℕ → Type 0 = λ z. IsKept (set vs z w) new × (kinds_of (set vs z w) ≡ kinds_of vs) in
    subst Q (sym g) (subst P (sym e) (kept_bind vs log b a.0 w h m a.1 j p), kinds_of_set vs (hole_number (bound_hole b)) a.0 w a.1 j)
