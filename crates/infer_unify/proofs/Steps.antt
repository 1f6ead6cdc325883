-- What is found out of holes, step after step, and what the goals are answered.
use Rattle.std.specs.Prelude.{◌≡◌, ◌<◌, ◌≤◌, ◌+◌, ℕ, zero, suc, Bool, true, false, List, [], ◌∷◌, ◌++◌, length, map, slice_get, Some}
use Rattle.std.proofs.Common.{inl, inr, refl, sym, ap, ◌∙◌, subst, arith, get_or, take}
use Rattle.std.proofs.lemmas.List.{map_more, take_all}
use Rattle.hir_types.specs.declared.head.Hole.TheVariants as hole_of
use Rattle.infer_unify.specs.Words.{Term, hole, pair, Log, resolved, Solves, Triangular, Unified, NoneUnifies, UnifiedIf, solution, solution_solves, solution_respects, Aliases, alias_at, ReadsAs, System, Each, SomeOf, Verdicts, answers, IsHead, HasHeads, HaveHeads as LogHasHeads, SystemHasHeads}
use Rattle.infer_unify.proofs.Words.{each_map, answers_are_one, heads_resolved, reading_done, each_append}
use Rattle.infer_unify.specs.Own.{Unification, Alias, alias_of, aliases_of, known_alias, goal_of, IsStep, AreSteps, IsFound, HaveCommonIn, AreJudged, IsFollowed, AreFollowed, IsRound, AreRounds}
use Rattle.infer_unify.specs.declared.unification.Unification.TheVariants as unification
use Rattle.infer_unify.specs.declared.opening.Alias.{Alias as Owned}

-- ---- the entry at a place

pub at_index : {X Y : Type 0} (f : X → Y) (xs : List X) (i : ℕ) (x : X) → i < length xs → x ≡ get_or xs i x → slice_get (map f xs) i ≡ Some (f x)
at_index f [] i x h e = absurd (omega arith)
at_index f (y ∷ xs) zero x h e = ap (λ z. Some (f z)) (sym e)
at_index f (y ∷ xs) (suc i) x h e = at_index f xs i x (omega arith) e

-- ---- what stands first in pairs

pub known_heads : (l : Log) (p : Alias) → LogHasHeads l → HasHeads p.args → HasHeads (known_alias l p)
known_heads l p h i = heads_resolved l (alias_at p.alias p.args) h (tt, tt, i)

pub goal_heads : (l : Log) (p : Alias) → LogHasHeads l → HasHeads p.args → IsHead p.args → HasHeads (goal_of l p).parts
goal_heads l p h i j = heads_resolved l (pair p.args (hole (hole_of.Ty p.hole))) h (j, i, tt)

pub goal_is : (l : Log) (p : Alias) (a u h : Term) → a ≡ p.args → h ≡ hole (hole_of.Ty p.hole) → u ≡ resolved l (pair a h) → u ≡ (goal_of l p).parts
goal_is l p a u h e f g = g ∙ (λ i. resolved l (pair (e i) (f i)))

pub read_heads : (f : System) → SystemHasHeads f → (n : ℕ) (t u : Term) → HasHeads t → ReadsAs (answers f n).Alias t u → HasHeads u
read_heads f h n t u i r = (reading_done f h n hole t u i (λ k o. record { read = tt; heads = tt }) r).heads

-- ---- one that is followed

pub followed_by : (A : Aliases) (p : Alias) (l l' : Log) (u v : Term) (done : Bool) → v ≡ hole (hole_of.Ty p.hole) → ReadsAs A (known_alias l p) u → UnifiedIf done l l' v u → IsFollowed A p l l' done
followed_by A p l l' u v true e r h = let P : Term → Type 0 = λ z. Unified l l' z u in inr (record { type = u; reads = r; unified = subst P e h })
followed_by A p l l' u v false e r h = let P : Term → Type 0 = λ z. NoneUnifies l z u in record { type = u; reads = r; none = subst P e h }

-- ---- one step more

steps_then : (A : Aliases) (ps : List Alias) (ms : List Log) (l m l' : Log) → AreSteps A ps ms l m → IsStep A ps m l' → (ns : List Log) × AreSteps A ps ns l l'
steps_then A ps [] l m l' e s = let P : Log → Type 0 = λ z. IsStep A ps z l' in (l' ∷ [], (subst P e s, refl))
steps_then A ps (x ∷ ms) l m l' e s = let q = steps_then A ps ms x m l' e.1 s in (x ∷ q.0, (e.0, q.1))

stays : (A : Aliases) (ps : List Alias) (l m l' : Log) → AreFollowed A ps l m true → l' ≡ m → AreFollowed A ps l l' true
stays A ps l m l' h e = (h.0, subst (AreSteps A ps h.0 l) (sym e) h.1)

pub followed_then : (A : Aliases) (ps : List Alias) (i : ℕ) (p : Alias) (l m l' : Log) → slice_get ps i ≡ Some p → AreFollowed A ps l m true → IsFollowed A p m l' true → AreFollowed A ps l l' true
followed_then A ps i p l m l' at h (inl e) = stays A ps l m l' h e.0
followed_then A ps i p l m l' at h (inr s) = steps_then A ps h.0 l m l' h.1 (i, p, at, s)

pub followed_none : (A : Aliases) (ps : List Alias) (i : ℕ) (p : Alias) (l m l' : Log) → slice_get ps i ≡ Some p → AreFollowed A ps l m true → IsFollowed A p m l' false → AreFollowed A ps l l' false
followed_none A ps i p l m l' at h s = (m, h.0, h.1, (i, p, at, s))

-- ---- one more in a round

round_then : (A : Aliases) (ps : List Alias) (p : Alias) (l m l' : Log) → IsRound A ps l m → IsFollowed A p m l' true → IsRound A (ps ++ p ∷ []) l l'
round_then A [] p l m l' e s = let P : Log → Type 0 = λ z. IsFollowed A p z l' true in (l', subst P e s, refl)
round_then A (q ∷ ps) p l m l' r s = (r.0, r.1, round_then A ps p r.0 m l' r.2 s)

pub round_more : (A : Aliases) (xs : List Owned) (i : ℕ) (x : Owned) (l m l' : Log) → i < length xs → x ≡ get_or xs i x
    → IsRound A (aliases_of (take i xs)) l m → IsFollowed A (alias_of x) m l' true → IsRound A (aliases_of (take (i + 1) xs)) l l'
round_more A xs i x l m l' lt e r s =
    let same : aliases_of (take (i + 1) xs) ≡ aliases_of (take i xs) ++ alias_of x ∷ [] = map_more alias_of xs i x lt ∙ ap (λ z. aliases_of (take i xs) ++ alias_of z ∷ []) (sym e) in
    let P : List Alias → Type 0 = λ ps. IsRound A ps l l' in subst P (sym same) (round_then A (aliases_of (take i xs)) (alias_of x) l m l' r s)

-- all were followed once more
pub rounds_more : (A : Aliases) (ps : List Alias) (xs : List Owned) (i n : ℕ) (k l l' : Log) → length xs ≤ i → AreRounds A ps n k l → ps ≡ aliases_of xs → IsRound A (aliases_of (take i xs)) l l' → AreRounds A ps (n + 1) k l'
rounds_more A ps xs i n k l l' over h is r =
    let P : List Owned → Type 0 = λ z. IsRound A (aliases_of z) l l' in
    let Q : List Alias → Type 0 = λ z. IsRound A z l l' in
    let next : suc n ≡ n + 1 = omega arith in
    subst (λ (z : ℕ). AreRounds A ps z k l') next (l, h, subst Q (sym is) (subst P (take_all i xs over) r))

-- what solves the bindings in the end solved the first
pub steps_keep : (A : Aliases) (ps : List Alias) (ms : List Log) (l l' : Log) → AreSteps A ps ms l l' → (s : _) → Solves s l' → Solves s l
steps_keep A ps [] l l' e s h = subst (Solves s) e h
steps_keep A ps (m ∷ ms) l l' e s h = e.0.3.unified.keeps s (steps_keep A ps ms m l' e.1 s h)

pub common_in : (A : Aliases) (ps : List Alias) (a b : Term) (l : Log) → Triangular l → IsFound A ps a b l → HaveCommonIn l a b
common_in A ps a b l t h =
    let s = solution l in
    let solves = solution_solves l t in
    (s, solution_respects l t, solves, h.unified.unifies s (steps_keep A ps h.states h.first l h.steps s solves))

-- ---- what goals are answered

-- so it is of those before
abbrev pub AreJudgedSoFar : Verdicts → List Alias → Log → Unification → Type 0
AreJudgedSoFar v ps l found = AreJudged v ps l found × (found ≡ unification.No → ⊥)

module _ (f : System) (n : ℕ) (l : Log) where
  abbrev v : Verdicts
  v = answers f n

  abbrev Yes : Alias → Type 0
  Yes p = v.Yes (goal_of l p)

  abbrev Open : Alias → Type 0
  Open p = v.No (goal_of l p) → ⊥

  yes_open : (p : Alias) → Yes p → Open p
  yes_open p y = (answers_are_one f n n).0 (goal_of l p) y

  none_no : (ps : List Alias) (found : Unification) → AreJudgedSoFar v ps l found → Each Open ps
  none_no ps unification.No h = absurd (h.1 refl)
  none_no ps unification.Undecided h = h.0.0
  none_no ps unification.Yes h = each_map yes_open ps h.0

  some_before : (P : Alias → Type 0) (ps : List Alias) (p : Alias) → SomeOf P ps → SomeOf P (ps ++ p ∷ [])
  some_before P [] p h = absurd h
  some_before P (q ∷ ps) p (inl h) = inl h
  some_before P (q ∷ ps) p (inr h) = inr (some_before P ps p h)

  some_last : (P : Alias → Type 0) (ps : List Alias) (p : Alias) → P p → SomeOf P (ps ++ p ∷ [])
  some_last P [] p h = inl h
  some_last P (q ∷ ps) p h = inr (some_last P ps p h)

  open_more : (ps : List Alias) (p : Alias) (found : Unification) → AreJudgedSoFar v ps l found → Open p → Each Open (ps ++ p ∷ [])
  open_more ps p found h o = each_append Open ps (p ∷ []) (none_no ps found h) (o, tt)

  pub judged_yes : (ps : List Alias) (p : Alias) (found : Unification) → AreJudgedSoFar v ps l found → Yes p → AreJudgedSoFar v (ps ++ p ∷ []) l found
  judged_yes ps p unification.No h y = absurd (h.1 refl)
  judged_yes ps p unification.Undecided h y = ((open_more ps p unification.Undecided h (yes_open p y), some_before (λ q. Yes q → ⊥) ps p h.0.1), h.1)
  judged_yes ps p unification.Yes h y = (each_append Yes ps (p ∷ []) h.0 (y, tt), h.1)

  pub judged_undecided : (ps : List Alias) (p : Alias) (found : Unification) → AreJudgedSoFar v ps l found → (Yes p → ⊥) × Open p → AreJudgedSoFar v (ps ++ p ∷ []) l unification.Undecided
  judged_undecided ps p found h u = ((open_more ps p found h u.1, some_last (λ q. Yes q → ⊥) ps p u.0), λ e. cc)

-- one more was judged
pub judged_more : (v : Verdicts) (l : Log) (xs : List Owned) (i : ℕ) (x : Owned) (found : Unification) → i < length xs → x ≡ get_or xs i x
    → AreJudgedSoFar v (aliases_of (take i xs) ++ alias_of x ∷ []) l found → AreJudgedSoFar v (aliases_of (take (i + 1) xs)) l found
judged_more v l xs i x found lt e h =
    let same : aliases_of (take (i + 1) xs) ≡ aliases_of (take i xs) ++ alias_of x ∷ [] = map_more alias_of xs i x lt ∙ ap (λ z. aliases_of (take i xs) ++ alias_of z ∷ []) (sym e) in
    let P : List Alias → Type 0 = λ ps. AreJudgedSoFar v ps l found in subst P (sym same) h

pub some_at : {X : Type 0} (P : X → Type 0) (xs : List X) (i : ℕ) (x : X) → slice_get xs i ≡ Some x → P x → SomeOf P xs
some_at P [] i x e h = cc
some_at P (y ∷ xs) zero x e h = let same : y ≡ x = cc in inl (subst P (sym same) h)
some_at P (y ∷ xs) (suc i) x e h = inr (some_at P xs i x e h)
