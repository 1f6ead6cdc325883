-- Laws of a table: whose holes are in its pairs, and which of them are known.
use Rattle.std.specs.Prelude.{◌≡◌, ℕ, zero, suc, ◌+◌, ◌<◌, ◌++◌, Bool, true, false, cond, if◌then◌else◌, List, [], ◌∷◌, length, take, Option, Some, None, slice_get}
use Rattle.std.proofs.Common.{refl, sym, ap, ◌∙◌, subst, get_or, arith, true≢false, IsTrue, not}
use Rattle.std.proofs.lemmas.Bool.{false≢true}
use Rattle.std.proofs.lemmas.List.{append-nil, length-take, take_more}
use Rattle.std.proofs.lemmas.Option.{same_Some, slice_get_within, slice_get-get_or}
use Rattle.infer_table.specs.Words.{HoleKind, Ty, Ty-F, roll-Ty, out-Ty, out-roll-Ty, roll-out-Ty, GenericArg, AliasBound, TraitRef, in_ty, replaced_var, replaced_int_var, with_holes, folded, terms, term_at, term_var, term_int_var, term_folded, apply, term, terms_of, ty_step}
use Rattle.hir_types.specs.declared.ty.Ty.TheVariants as ty
use Rattle.infer_table.specs.Own.{Binding, WaitingPair, resolution, IsOpenOrKnown, open_var, open_int_var, State, bindings, resolved_type, resolved_term, PairIsOf, PairsAreOf, is_type_hole, IsNoOpenHole, IsUnknownPair, AllUnknown, IsFirstKnown, TakesFirstKnown, Waiting, is_taken, left_from, left_at, left_before, left_past, with_taken}
use Rattle.infer_table.proofs.BindingLaws.{are_of_last}
use Rattle.infer_table.proofs.WaitingLaws.{left_from-push, IsLeft-from_some, waiting-at, waiting-with_taken}

-- ---- whose holes are in the pairs

pub pair_is_of_hole : (kinds : List HoleKind) (k : HoleKind) (p : WaitingPair) → PairIsOf kinds p → PairIsOf (kinds ++ k ∷ []) p
pair_is_of_hole kinds k p h = (are_of_last kinds k (term p.source) h.0, are_of_last kinds k (term p.target) h.1)

-- a hole that is made later takes nothing away
pub pairs_are_of_hole : (kinds : List HoleKind) (k : HoleKind) (ps : List WaitingPair) → PairsAreOf kinds ps → PairsAreOf (kinds ++ k ∷ []) ps
pairs_are_of_hole kinds k [] h = tt
pairs_are_of_hole kinds k (p ∷ ps) h = (pair_is_of_hole kinds k p h.0, pairs_are_of_hole kinds k ps h.1)

pub pairs_are_of_last : (kinds : List HoleKind) (ps : List WaitingPair) (p : WaitingPair) → PairsAreOf kinds ps → PairIsOf kinds p → PairsAreOf kinds (ps ++ p ∷ [])
pairs_are_of_last kinds [] p h g = (g, tt)
pairs_are_of_last kinds (q ∷ ps) p h g = (h.0, pairs_are_of_last kinds ps p h.1 g)

pub pairs_are_of_at : (kinds : List HoleKind) (ps : List WaitingPair) (i : ℕ) (p : WaitingPair) → PairsAreOf kinds ps → slice_get ps i ≡ Some p → PairIsOf kinds p
pairs_are_of_at kinds [] i p h e = cc
pairs_are_of_at kinds (q ∷ ps) zero p h e =
    let P : WaitingPair → Type 0 = PairIsOf kinds in
    let f : q ≡ p = cc in
    subst P f h.0
pairs_are_of_at kinds (q ∷ ps) (suc i) p h e = pairs_are_of_at kinds ps i p h.1 e

-- ---- what is known

-- the layer of a hole for any type
abbrev pub is_var : Ty-F GenericArg Ty AliasBound TraitRef → Bool
is_var (Ty-F.Var n) = true
is_var _ = false

-- what is no hole stays none
node_is_no_hole : (bs : List Binding) (t : Ty) (x : Ty-F GenericArg Ty AliasBound TraitRef) → t ≡ roll-Ty x → is_type_hole (apply (terms_of (resolution bs)) (ty_step (in_ty terms x))) ≡ false → is_type_hole (term (folded (resolution bs) t)) ≡ false
node_is_no_hole bs t x e h =
    ap is_type_hole (term_folded (resolution bs) t ∙ ap (apply (terms_of (resolution bs))) (ap term e ∙ term_at x)) ∙ h

hole_by_layer : (bs : List Binding) (t : Ty) (x : Ty-F GenericArg Ty AliasBound TraitRef) → t ≡ roll-Ty x → IsOpenOrKnown bs t → is_type_hole (term (folded (resolution bs) t)) ≡ is_var x
hole_by_layer bs t (Ty-F.Var n) e h =
    let f = e ∙ ty.rolls-Var n in
    ap (λ (u : Ty). is_type_hole (term (folded (resolution bs) u))) f
    ∙ ap (λ (u : Ty). is_type_hole (term u)) (replaced_var (with_holes (resolution bs)) n ∙ open_var bs n (h.var n f))
    ∙ ap is_type_hole (term_var n)
hole_by_layer bs t (Ty-F.IntVar n) e h =
    let f = e ∙ ty.rolls-IntVar n in
    ap (λ (u : Ty). is_type_hole (term (folded (resolution bs) u))) f
    ∙ ap (λ (u : Ty). is_type_hole (term u)) (replaced_int_var (with_holes (resolution bs)) n ∙ open_int_var bs n (h.int_var n f))
    ∙ ap is_type_hole (term_int_var n)
hole_by_layer bs t (Ty-F.Dynamic None xs ids) e h = node_is_no_hole bs t (Ty-F.Dynamic None xs ids) e refl
hole_by_layer bs t (Ty-F.Dynamic (Some r) xs ids) e h = node_is_no_hole bs t (Ty-F.Dynamic (Some r) xs ids) e refl
hole_by_layer bs t x e h = node_is_no_hole bs t x e refl

-- a type that is no bound hole comes to a hole for any type just where it is one
pub hole_where_open : (bs : List Binding) (t : Ty) → IsOpenOrKnown bs t → is_type_hole (term (folded (resolution bs) t)) ≡ is_var (out-Ty t)
hole_where_open bs t h = hole_by_layer bs t (out-Ty t) (sym (roll-out-Ty t)) h

pub unknown_from_not : (s : State) (t : Ty) → (IsNoOpenHole s t → ⊥) → is_type_hole (resolved_term s t) ≡ true
unknown_from_not s t h = by_cases (is_type_hole (resolved_term s t)) h
  where
    by_cases : (b : Bool) → (b ≡ false → ⊥) → b ≡ true
    by_cases true g = refl
    by_cases false g = absurd (g refl)

pub all_unknown_append : (s : State) (ps qs : List WaitingPair) → AllUnknown s ps → AllUnknown s qs → AllUnknown s (ps ++ qs)
all_unknown_append s [] qs h g = g
all_unknown_append s (p ∷ ps) qs h g = (h.0, all_unknown_append s ps qs h.1 g)

-- ---- the pairs that wait, by their positions

at_some : {X : Type 0} (xs : List X) (i : ℕ) → i < length xs → (x : X) × (slice_get xs i ≡ Some x)
at_some [] i h = absurd (omega arith)
at_some (x ∷ xs) zero h = (x, refl)
at_some (x ∷ xs) (suc i) h = at_some xs i (omega arith)

left_before-more : (w : Waiting) (i : ℕ) (p : WaitingPair) → slice_get w.made i ≡ Some p → left_before w (i + 1) ≡ left_before w i ++ (if is_taken w.taken i then [] else p ∷ [])
left_before-more w i p at =
    let l = slice_get_within w.made i p at in
    let g : get_or w.made i p ≡ p = grind (arith, at, slice_get-get_or w.made i p l) in
    let n : 0 + length (take i w.made) ≡ i = omega (arith, length-take i w.made) in
    ap (left_from w.taken 0) (take_more w.made i p l ∙ ap (λ (q : WaitingPair). take i w.made ++ q ∷ []) g)
    ∙ left_from-push w.taken 0 (take i w.made) p
    ∙ ap (λ (k : ℕ). left_before w i ++ (if is_taken w.taken k then [] else p ∷ [])) n

-- where none is left, the position is taken
taken_if_none : (b : Bool) (o : Option WaitingPair) (p : WaitingPair) → o ≡ Some p → cond b None o ≡ None → b ≡ true
taken_if_none true o p e h = refl
taken_if_none false o p e h = let f = sym e ∙ h in cc

-- no pair is left at the position
pub all_unknown_none : (s : State) (i : ℕ) → i < length s.pairs.made → left_at s.pairs i ≡ None → AllUnknown s (left_before s.pairs i) → AllUnknown s (left_before s.pairs (i + 1))
all_unknown_none s i l e h =
    let at = at_some s.pairs.made i l in
    let P : List WaitingPair → Type 0 = AllUnknown s in
    let f = taken_if_none (is_taken s.pairs.taken i) (slice_get s.pairs.made i) at.0 at.1 e in
    let m = left_before-more s.pairs i at.0 at.1 ∙ ap (λ (b : Bool). left_before s.pairs i ++ (if b then [] else at.0 ∷ [])) f in
    subst P (sym m) (all_unknown_append s (left_before s.pairs i) [] h tt)

-- both sides of the pair that is left there are unknown
pub all_unknown_more : (s : State) (i : ℕ) (p : WaitingPair) → left_at s.pairs i ≡ Some p → IsUnknownPair s p → AllUnknown s (left_before s.pairs i) → AllUnknown s (left_before s.pairs (i + 1))
all_unknown_more s i p e u h =
    let left = IsLeft-from_some s.pairs i p e in
    let P : List WaitingPair → Type 0 = AllUnknown s in
    let m = left_before-more s.pairs i p left.at ∙ ap (λ (b : Bool). left_before s.pairs i ++ (if b then [] else p ∷ [])) left.is_left in
    subst P (sym m) (all_unknown_append s (left_before s.pairs i) (p ∷ []) h (u, tt))

-- ---- whether a type is known

known_by_bool : (b h : Bool) → h ≡ b → (IsTrue (not b) → h ≡ false) × (h ≡ false → IsTrue (not b))
known_by_bool true h e = ((λ q. absurd (false≢true q)), (λ q. absurd (true≢false (sym e ∙ q))))
known_by_bool false h e = ((λ _. e), (λ _. refl))

-- the type is known just where what it resolves to is no hole for any type
pub known_where : (s : State) (t r : Ty) (b : Bool) → resolved_type s r ≡ resolved_type s t → IsOpenOrKnown (bindings s) r → b ≡ is_var (out-Ty r) → (IsTrue (not b) → IsNoOpenHole s t) × (IsNoOpenHole s t → IsTrue (not b))
known_where s t r b same open_or_known e =
    known_by_bool b (is_type_hole (resolved_term s t)) (ap (λ (u : Ty). is_type_hole (term u)) (sym same) ∙ hole_where_open (bindings s) r open_or_known ∙ sym e)

pub is_var_at : (t : Ty) (n : ℕ) → t ≡ ty.Var n → is_var (out-Ty t) ≡ true
is_var_at t n e = ap (λ (u : Ty). is_var (out-Ty u)) (e ∙ sym (ty.rolls-Var n)) ∙ ap is_var (out-roll-Ty (Ty-F.Var n))

no_var_by_layer : (t : Ty) (x : Ty-F GenericArg Ty AliasBound TraitRef) → t ≡ roll-Ty x → ((n : ℕ) → t ≡ ty.Var n → ⊥) → is_var x ≡ false
no_var_by_layer t (Ty-F.Var n) e h = absurd (h n (e ∙ ty.rolls-Var n))
no_var_by_layer t x e h = refl

pub no_var_at : (t : Ty) → ((n : ℕ) → t ≡ ty.Var n → ⊥) → is_var (out-Ty t) ≡ false
no_var_at t h = no_var_by_layer t (out-Ty t) (sym (roll-out-Ty t)) h

-- ---- the first pair of which a side is known

takes_first : (s : State) (at : ℕ) → PairsAreOf s.substitution.kinds s.pairs.made → (f : IsFirstKnown s at) → TakesFirstKnown s (record s { pairs = with_taken s.pairs at }) f.pair
takes_first s at h f =
    let left = IsLeft-from_some s.pairs at f.pair f.left in
    record {
      ahead = left_before s.pairs at;
      rest = left_past s.pairs (at + 1);
      was = waiting-at s.pairs at f.pair left;
      is = waiting-with_taken s.pairs at f.pair left;
      none_before = f.none_before;
      known = f.known;
      substitution = refl;
      diverging = refl;
      grown = record {
        kinds = ([], sym (append-nil s.substitution.kinds));
        log = ([], sym (append-nil s.substitution.log));
        made = ([], sym (append-nil s.pairs.made));
        taken = (at ∷ [], refl);
        diverging = ([], sym (append-nil s.diverging));
      };
      holes = pairs_are_of_at s.substitution.kinds s.pairs.made at f.pair h left.at;
    }

-- it is taken off the list
pub takes_first_known : (s : State) (at : ℕ) (p q : WaitingPair) (w : Waiting) → PairsAreOf s.substitution.kinds s.pairs.made → IsFirstKnown s at → left_at s.pairs at ≡ Some p → q ≡ p → w ≡ with_taken s.pairs at → TakesFirstKnown s (record s { pairs = w }) q
takes_first_known s at p q w h f e same is =
    let P : WaitingPair → Type 0 = λ x. TakesFirstKnown s (record s { pairs = with_taken s.pairs at }) x in
    let Q : Waiting → Type 0 = λ v. TakesFirstKnown s (record s { pairs = v }) q in
    let g : f.pair ≡ q = same_Some f.pair p (sym f.left ∙ e) ∙ sym same in
    subst Q (sym is) (subst P g (takes_first s at h f))
