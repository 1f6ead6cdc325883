-- Laws of going back.
use Rattle.std.proofs.Common.{◌≡◌, ℕ, zero, suc, ◌<◌, ◌≤◌, Bool, true, false, List, [], ◌∷◌, ◌++◌, length, take, Some, refl, sym, ap, subst, ◌∙◌, arith}
use Rattle.std.specs.Prelude.{slice_get}
use Rattle.std.proofs.lemmas.Option.{slice_get_within}
use Rattle.std.proofs.Math.Seq.{take-append_seam}
use Rattle.infer_table.specs.Own.{Snapshot, WaitingPair, Waiting, cut_back, is_taken, Binding, IsOf, hole_kind, AllOf, bound_hole, bound_term, AreUnusedFrom, PairsAreOf, hole_count, State, IsFront, Grew, GrewFrom, Undoes, bindings}
use Rattle.infer_table.specs.Words.{Hole, HoleKind, hole_number, occurs}
use Rattle.infer_table.proofs.BindingLaws.{all_of_at}

pub front_itself : {X : Type 0} (xs : List X) → IsFront xs xs
front_itself xs = ([], sym (append-nil xs))
  where
    append-nil : {X : Type 0} (ys : List X) → ys ++ [] ≡ ys
    append-nil [] = refl
    append-nil (y ∷ ys) = ap (◌∷◌ y) (append-nil ys)

pub take_front : {X : Type 0} (n : ℕ) (xs ys : List X) → n ≡ length xs → IsFront xs ys → take n ys ≡ xs
take_front n xs ys e f = ap (take n) f.1 ∙ ap (λ m. take m (xs ++ f.0)) e ∙ take-append_seam xs f.0

pub grew_itself : (s : State) → Grew s s
grew_itself s = record {
  kinds = front_itself s.substitution.kinds;
  log = front_itself (bindings s);
  made = front_itself s.pairs.made;
  taken = front_itself s.pairs.taken;
  diverging = front_itself s.diverging;
}

pairs_cut : (before now : Waiting) (made taken : ℕ) → made ≡ length before.made → taken ≡ length before.taken → IsFront before.made now.made → IsFront before.taken now.taken → cut_back now made taken ≡ before
pairs_cut before now made taken e f p q =
    let m = take_front made before.made now.made e p in
    let t = take_front taken before.taken now.taken f q in
    λ i. record { made = m i; taken = t i }

pub undone : (snapshot : Snapshot) (old new : State) → new.substitution.kinds ≡ old.substitution.kinds → bindings new ≡ take snapshot.bindings (bindings old) → new.pairs ≡ cut_back old.pairs snapshot.made snapshot.taken → new.diverging ≡ take snapshot.diverging old.diverging → Undoes snapshot old new
undone snapshot old new kinds log pairs diverging then at grew = record {
  kinds = (grew.kinds.0, kinds ∙ grew.kinds.1);
  log = log ∙ take_front snapshot.bindings (bindings then) (bindings old) at.log grew.log;
  pairs = pairs ∙ pairs_cut then.pairs old.pairs snapshot.made snapshot.taken at.made at.taken grew.made grew.taken;
  diverging = diverging ∙ take_front snapshot.diverging then.diverging old.diverging at.diverging grew.diverging;
}

pub may_cut : (snapshot : Snapshot) (old : State) → GrewFrom snapshot old → (i : ℕ) → is_taken (take snapshot.taken old.pairs.taken) i ≡ true → i < snapshot.made
may_cut snapshot old g i h =
    let before = g.0 in
    let at = g.1 in
    let e = take_front snapshot.taken before.pairs.taken old.pairs.taken at.taken g.2.taken in
    let P : List ℕ → Type 0 = λ ts. is_taken ts i ≡ true in
    let Q : ℕ → Type 0 = λ n. i < n in
    subst Q (sym at.made) (at.all_made i (subst P e h))

pub pairs_kept : (kinds kinds' : List HoleKind) (made made' : List WaitingPair) (n : ℕ) → kinds' ≡ kinds → made' ≡ take n made → PairsAreOf kinds made → PairsAreOf kinds' made'
pairs_kept kinds kinds' made made' n e f h =
    let P : List HoleKind → Type 0 = λ k. PairsAreOf k made' in
    let Q : List WaitingPair → Type 0 = λ m. PairsAreOf kinds m in
    subst P (sym e) (subst Q (sym f) (cut kinds n made h))
  where
    cut : (kinds : List HoleKind) (n : ℕ) (ps : List WaitingPair) → PairsAreOf kinds ps → PairsAreOf kinds (take n ps)
    cut kinds zero ps h = tt
    cut kinds (suc n) [] h = tt
    cut kinds (suc n) (p ∷ ps) h = (h.0, cut kinds n ps h.1)

false-or-true : (b : Bool) → (b ≡ true → ⊥) → b ≡ false
false-or-true true h = absurd (h refl)
false-or-true false h = refl

-- holes that were not made are in no binding
pub unused : (kinds : List HoleKind) (bs : List Binding) (k : Hole) → AllOf kinds bs → length kinds ≤ hole_number k → (b : Binding) (i : ℕ) → slice_get bs i ≡ Some b → (bound_hole b ≡ k → ⊥) × (occurs k (bound_term b) ≡ false)
unused kinds bs k all le b i at =
    let h = all_of_at kinds bs i b all at in
    let not_made : IsOf kinds k → ⊥ = λ is. omega (arith, slice_get_within kinds (hole_number k) (hole_kind k) is, le) in
    let P : Hole → Type 0 = λ x. IsOf kinds x in
    ((λ e. not_made (subst P e h.0)), false-or-true (occurs k (bound_term b)) (λ o. not_made (h.1 k o)))

pub fresh : (before after : State) → AllOf before.substitution.kinds (bindings before) → bindings after ≡ bindings before → AreUnusedFrom (hole_count before) after
fresh before after all e k le b i at =
    let P : List Binding → Type 0 = λ bs. slice_get bs i ≡ Some b in
    unused before.substitution.kinds (bindings before) k all le b i (subst P e at)
