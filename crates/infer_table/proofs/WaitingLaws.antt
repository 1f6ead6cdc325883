-- What is left of waiting pairs as they are added, taken and cut back.
use Rattle.std.proofs.Common.{◌≡◌, ℕ, zero, suc, ◌+◌, ◌<◌, ◌≤◌, ◌⊎◌, inl, inr, ⊎_elim, Bool, true, false, cond, List, [], ◌∷◌, ◌++◌, Option, Some, None, length, take, drop, set, get_or, refl, sym, ap, subst, ◌∙◌, arith, nat_eq, slice_get, if◌then◌else◌}
use Rattle.std.specs.Option.{IsSome}
use Rattle.std.proofs.lemmas.Bool.{false≢true, true≢false, ne_eqb, eq-eqb, eqb-false, cases_eq, cond-true, cond-false, false_from_ne_true}
use Rattle.std.proofs.lemmas.List.{drop_more, take_more, take_all, length-map, length-set, length-take, get_or-map}
use Rattle.std.proofs.lemmas.Option.{slice_get_within, slice_get-get_or, none-some}
use Rattle.infer_table.specs.Own.{WaitingPair, Entry, Waiting, pairs_of, is_taken, left_from, waiting, AllApart, AreMarked, with_pair, with_taken, AllMade, left_at, left_before, left_past, StillWaits}

or_more : (b x y : Bool) → (x ≡ true → y ≡ true) → cond b true x ≡ true → cond b true y ≡ true
or_more true x y f h = refl
or_more false x y f h = f h

or_right : (b x : Bool) → x ≡ true → cond b true x ≡ true
or_right true x h = refl
or_right false x h = h

or_parts : (b x : Bool) → cond b true x ≡ false → (b ≡ false) × (x ≡ false)
or_parts true x h = absurd (true≢false h)
or_parts false x h = (refl, h)

head_false : (ts : List ℕ) (h i : ℕ) → is_taken (h ∷ ts) i ≡ false → (h ≡ i → ⊥) × (is_taken ts i ≡ false)
head_false ts h i f = let p = or_parts (nat_eq h i) (is_taken ts i) f in (eqb-false h i p.0, p.1)

cons_false : (ts : List ℕ) (h i : ℕ) → (h ≡ i → ⊥) → is_taken ts i ≡ false → is_taken (h ∷ ts) i ≡ false
cons_false ts h i n f = cond-false (nat_eq h i) true (is_taken ts i) (ne_eqb h i n) ∙ f

-- a position more is taken, and no other
pub taken_other : (ts : List ℕ) (t i : ℕ) → (t ≡ i → ⊥) → is_taken (ts ++ t ∷ []) i ≡ is_taken ts i
taken_other [] t i n = cond-false (nat_eq t i) true false (ne_eqb t i n)
taken_other (h ∷ ts) t i n = ap (λ (b : Bool). cond (nat_eq h i) true b) (taken_other ts t i n)

pub taken_same : (ts : List ℕ) (t : ℕ) → is_taken (ts ++ t ∷ []) t ≡ true
taken_same [] t = cond-true (nat_eq t t) true false (eq-eqb t t refl)
taken_same (h ∷ ts) t = or_right (nat_eq h t) _ (taken_same ts t)

pub taken_still : (ts : List ℕ) (t i : ℕ) → is_taken ts i ≡ true → is_taken (ts ++ t ∷ []) i ≡ true
taken_still [] t i h = absurd (false≢true h)
taken_still (x ∷ ts) t i h = or_more (nat_eq x i) _ _ (taken_still ts t i) h

not_taken_before : (ts : List ℕ) (t i : ℕ) → is_taken (ts ++ t ∷ []) i ≡ false → (is_taken ts i ≡ false) × (t ≡ i → ⊥)
not_taken_before [] t i f = (refl, (head_false [] t i f).0)
not_taken_before (h ∷ ts) t i f =
    let p = head_false (ts ++ t ∷ []) h i f in
    let q = not_taken_before ts t i p.1 in
    (cons_false ts h i p.0 q.0, q.1)

pub AllApart-push : (ts : List ℕ) (t : ℕ) → AllApart ts → is_taken ts t ≡ false → AllApart (ts ++ t ∷ [])
AllApart-push [] t a f = (refl, tt)
AllApart-push (h ∷ ts) t a f =
    let p = head_false ts h t f in
    (taken_other ts t h (λ e. p.0 (sym e)) ∙ a.0, AllApart-push ts t a.1 p.1)

pub AllApart-pop : (ts : List ℕ) (t : ℕ) → AllApart (ts ++ t ∷ []) → AllApart ts × (is_taken ts t ≡ false)
AllApart-pop [] t a = (tt, refl)
AllApart-pop (h ∷ ts) t a =
    let p = not_taken_before ts t h a.0 in
    let q = AllApart-pop ts t a.1 in
    ((p.0, q.0), cons_false ts h t (λ e. p.1 (sym e)) q.1)

-- a mark changes no pair
pub pairs_of-mark : (es : List Entry) (i : ℕ) (e : Entry) (b : Bool) → slice_get es i ≡ Some e → pairs_of (set es i (record e { is_taken = b })) ≡ pairs_of es
pairs_of-mark [] i e b h = refl
pairs_of-mark (x ∷ es) zero e b h = let q : x ≡ e = grind arith in ap (λ (y : Entry). y.pair ∷ pairs_of es) (sym q)
pairs_of-mark (x ∷ es) (suc i) e b h = ap (λ (ps : List WaitingPair). x.pair ∷ ps) (pairs_of-mark es i e b h)

slice_get-set : {A : Type 0} (xs : List A) (n i : ℕ) (y x : A) → n < length xs → slice_get (set xs n y) i ≡ Some x → ((n ≡ i) × (y ≡ x)) ⊎ ((n ≡ i → ⊥) × (slice_get xs i ≡ Some x))
slice_get-set [] n i y x l h = absurd (omega arith)
slice_get-set (z ∷ xs) zero zero y x l h = inl (refl, grind arith)
slice_get-set (z ∷ xs) zero (suc i) y x l h = inr (λ e. omega arith, h)
slice_get-set (z ∷ xs) (suc n) zero y x l h = inr (λ e. omega arith, h)
slice_get-set (z ∷ xs) (suc n) (suc i) y x l h =
    ⊎_elim (λ (p : (n ≡ i) × (y ≡ x)). inl (ap suc p.0, p.1)) (λ (p : (n ≡ i → ⊥) × (slice_get xs i ≡ Some x)). inr (λ e. p.0 (omega arith), p.1)) (slice_get-set xs n i y x (omega arith) h)

-- an entry is marked as its position is taken
pub AreMarked-take : (es : List Entry) (ts : List ℕ) (n : ℕ) (e : Entry) → AreMarked es ts → slice_get es n ≡ Some e → is_taken ts n ≡ false → AreMarked (set es n (record e { is_taken = true })) (ts ++ n ∷ [])
AreMarked-take es ts n e m at f = record { marks = marks_at; within = within_at; once = AllApart-push ts n m.once f }
  where
    inside : n < length es
    inside = slice_get_within es n e at

    marks_at : (i : ℕ) (x : Entry) → slice_get (set es n (record e { is_taken = true })) i ≡ Some x → x.is_taken ≡ is_taken (ts ++ n ∷ []) i
    marks_at i x h =
        ⊎_elim (λ (p : (n ≡ i) × (record e { is_taken = true } ≡ x)). ap (λ (y : Entry). y.is_taken) (sym p.1) ∙ sym (subst (λ (j : ℕ). is_taken (ts ++ n ∷ []) j ≡ true) p.0 (taken_same ts n))) (λ (p : (n ≡ i → ⊥) × (slice_get es i ≡ Some x)). m.marks i x p.1 ∙ sym (taken_other ts n i p.0)) (slice_get-set es n i (record e { is_taken = true }) x inside h)

    within_at : (i : ℕ) → is_taken (ts ++ n ∷ []) i ≡ true → i < length (set es n (record e { is_taken = true }))
    within_at i h =
        rw length-set (⊎_elim (λ (q : n ≡ i). subst (λ (j : ℕ). j < length es) q inside) (λ (q : n ≡ i → ⊥). m.within i (sym (taken_other ts n i q) ∙ h)) (cases_eq n i))

-- and its mark goes as the position comes off the trail
pub AreMarked-pop : (es : List Entry) (ts : List ℕ) (n : ℕ) (e : Entry) → AreMarked es (ts ++ n ∷ []) → slice_get es n ≡ Some e → AreMarked (set es n (record e { is_taken = false })) ts
AreMarked-pop es ts n e m at = record { marks = marks_at; within = within_at; once = apart.0 }
  where
    inside : n < length es
    inside = slice_get_within es n e at

    apart : AllApart ts × (is_taken ts n ≡ false)
    apart = AllApart-pop ts n m.once

    marks_at : (i : ℕ) (x : Entry) → slice_get (set es n (record e { is_taken = false })) i ≡ Some x → x.is_taken ≡ is_taken ts i
    marks_at i x h =
        ⊎_elim (λ (p : (n ≡ i) × (record e { is_taken = false } ≡ x)). ap (λ (y : Entry). y.is_taken) (sym p.1) ∙ sym (subst (λ (j : ℕ). is_taken ts j ≡ false) p.0 apart.1)) (λ (p : (n ≡ i → ⊥) × (slice_get es i ≡ Some x)). m.marks i x p.1 ∙ taken_other ts n i p.0) (slice_get-set es n i (record e { is_taken = false }) x inside h)

    within_at : (i : ℕ) → is_taken ts i ≡ true → i < length (set es n (record e { is_taken = false }))
    within_at i h = rw length-set (m.within i (taken_still ts n i h))

join : {A : Type 0} (b : Bool) (p : A) (xs ys : List A) → cond b (xs ++ ys) (p ∷ (xs ++ ys)) ≡ cond b xs (p ∷ xs) ++ ys
join true p xs ys = refl
join false p xs ys = refl

-- what is left does not depend on what is taken elsewhere
pub left_from-agree : (ts us : List ℕ) (n : ℕ) (ps : List WaitingPair) → ((i : ℕ) → n ≤ i → i < n + length ps → is_taken ts i ≡ is_taken us i) → left_from ts n ps ≡ left_from us n ps
left_from-agree ts us n [] f = refl
left_from-agree ts us n (p ∷ ps) f =
    let e = f n (omega arith) (omega arith) in
    let r = left_from-agree ts us (n + 1) ps (λ i a b. f i (omega arith) (omega arith)) in
    cc

-- what is left splits at each position
pub left_from-split : (ts : List ℕ) (k n : ℕ) (ps : List WaitingPair) → left_from ts k ps ≡ left_from ts k (take n ps) ++ left_from ts (k + n) (drop n ps)
left_from-split ts k zero ps = ap (λ (i : ℕ). left_from ts i ps) (omega arith)
left_from-split ts k (suc n) [] = refl
left_from-split ts k (suc n) (p ∷ ps) =
    let q : (k + 1) + n ≡ k + suc n = omega arith in
    let r = subst (λ (i : ℕ). left_from ts (k + 1) ps ≡ left_from ts (k + 1) (take n ps) ++ left_from ts i (drop n ps)) q (left_from-split ts (k + 1) n ps) in
    ap (λ (xs : List WaitingPair). cond (is_taken ts k) xs (p ∷ xs)) r ∙ join (is_taken ts k) p (left_from ts (k + 1) (take n ps)) (left_from ts (k + suc n) (drop n ps))

-- a pair more at the end, which is left if its position is not taken
pub left_from-push : (ts : List ℕ) (k : ℕ) (ps : List WaitingPair) (p : WaitingPair) → left_from ts k (ps ++ p ∷ []) ≡ left_from ts k ps ++ (if is_taken ts (k + length ps) then [] else p ∷ [])
left_from-push ts k [] p = ap (λ (i : ℕ). if is_taken ts i then [] else p ∷ []) (omega arith)
left_from-push ts k (x ∷ ps) p =
    let q : (k + 1) + length ps ≡ k + suc (length ps) = omega arith in
    let r = subst (λ (i : ℕ). left_from ts (k + 1) (ps ++ p ∷ []) ≡ left_from ts (k + 1) ps ++ (if is_taken ts i then [] else p ∷ [])) q (left_from-push ts (k + 1) ps p) in
    ap (λ (xs : List WaitingPair). cond (is_taken ts k) xs (x ∷ xs)) r ∙ join (is_taken ts k) x (left_from ts (k + 1) ps) (if is_taken ts (k + suc (length ps)) then [] else p ∷ [])

-- a position of a pair that is left
pub IsLeft-from_some : (w : Waiting) (i : ℕ) (p : WaitingPair) → left_at w i ≡ Some p → StillWaits w i p
IsLeft-from_some w i p h = by_mark (is_taken w.taken i) refl h
  where
    by_mark : (b : Bool) → is_taken w.taken i ≡ b → cond b None (slice_get w.made i) ≡ Some p → StillWaits w i p
    by_mark true q e = absurd (none-some p e)
    by_mark false q e = record { at = e; is_left = q }

pub IsLeft-exists : (w : Waiting) (i : ℕ) → IsSome (left_at w i) → (p : WaitingPair) × StillWaits w i p
IsLeft-exists w i h = by_cases (left_at w i) refl h
  where
    by_cases : (o : Option WaitingPair) → left_at w i ≡ o → IsSome o → (p : WaitingPair) × StillWaits w i p
    by_cases None q e = absurd (false≢true e)
    by_cases (Some p) q e = (p, IsLeft-from_some w i p q)

-- the pairs that wait are those before a position, and those from it on
pub waiting-split : (w : Waiting) (n : ℕ) → waiting w ≡ left_before w n ++ left_past w n
waiting-split w n = left_from-split w.taken 0 n w.made ∙ ap (λ (i : ℕ). left_before w n ++ left_from w.taken i (drop n w.made)) (omega arith)

drop_at : {A : Type 0} (xs : List A) (n : ℕ) (y : A) → slice_get xs n ≡ Some y → drop n xs ≡ y ∷ drop (n + 1) xs
drop_at xs n y h =
    let e = slice_get-get_or xs n y (slice_get_within xs n y h) in
    let q : get_or xs n y ≡ y = grind arith in
    drop_more xs n y (slice_get_within xs n y h) ∙ ap (λ (z : _). z ∷ drop (n + 1) xs) q

-- the pair that is left at a position stands between those before it and those past it
pub waiting-at : (w : Waiting) (n : ℕ) (p : WaitingPair) → StillWaits w n p → waiting w ≡ left_before w n ++ p ∷ left_past w (n + 1)
waiting-at w n p h =
    waiting-split w n
    ∙ ap (λ (xs : List WaitingPair). left_before w n ++ left_from w.taken n xs) (drop_at w.made n p h.at)
    ∙ ap (λ (xs : List WaitingPair). left_before w n ++ xs) (cond-false (is_taken w.taken n) (left_past w (n + 1)) (p ∷ left_past w (n + 1)) h.is_left)

-- and goes from there when it is taken
pub waiting-with_taken : (w : Waiting) (n : ℕ) (p : WaitingPair) → StillWaits w n p → waiting (with_taken w n) ≡ left_before w n ++ left_past w (n + 1)
waiting-with_taken w n p h = waiting-split (with_taken w n) n ∙ cc (before, past)
  where
    before : left_before (with_taken w n) n ≡ left_before w n
    before = left_from-agree (w.taken ++ n ∷ []) w.taken 0 (take n w.made) (λ i a b. taken_other w.taken n i (λ e. omega (arith, length-take n w.made)))

    past : left_past (with_taken w n) n ≡ left_past w (n + 1)
    past =
        ap (λ (xs : List WaitingPair). left_from (w.taken ++ n ∷ []) n xs) (drop_at w.made n p h.at)
        ∙ cond-true (is_taken (w.taken ++ n ∷ []) n) (left_from (w.taken ++ n ∷ []) (n + 1) (drop (n + 1) w.made)) (p ∷ left_from (w.taken ++ n ∷ []) (n + 1) (drop (n + 1) w.made)) (taken_same w.taken n)
        ∙ left_from-agree (w.taken ++ n ∷ []) w.taken (n + 1) (drop (n + 1) w.made) (λ i a b. taken_other w.taken n i (λ e. omega arith))

-- a pair more waits behind the others
pub waiting-with_pair : (w : Waiting) (p : WaitingPair) → AllMade w → waiting (with_pair w p) ≡ waiting w ++ p ∷ []
waiting-with_pair w p made =
    let q : 0 + length w.made ≡ length w.made = omega arith in
    let f : is_taken w.taken (0 + length w.made) ≡ false = false_from_ne_true _ (λ e. let l = made (0 + length w.made) e in omega arith) in
    left_from-push w.taken 0 w.made p ∙ ap (λ (xs : List WaitingPair). waiting w ++ xs) (cond-false (is_taken w.taken (0 + length w.made)) [] (p ∷ []) f)

-- each position that is taken is one of an entry
pub AllMade-from_marks : (es : List Entry) (ts : List ℕ) → AreMarked es ts → AllMade (record { made = pairs_of es; taken = ts })
AllMade-from_marks es ts m = λ i h. let l = m.within i h in rw length-map l

-- the position taken last, and those before it
last_taken : (ts : List ℕ) (m n d : ℕ) → m + 1 ≡ length ts → n ≡ get_or ts m d → ts ≡ take m ts ++ n ∷ []
last_taken ts m n d q e =
    sym (take_all (m + 1) ts (omega arith))
    ∙ take_more ts m d (omega arith)
    ∙ ap (λ (x : ℕ). take m ts ++ x ∷ []) (sym e)

pub last_taken-made : (es : List Entry) (ts : List ℕ) (m n d : ℕ) → AreMarked es ts → m + 1 ≡ length ts → n ≡ get_or ts m d → n < length es
last_taken-made es ts m n d h q e =
    h.within n (subst (λ (us : List ℕ). is_taken us n ≡ true) (sym (last_taken ts m n d q e)) (taken_same (take m ts) n))

pub AreMarked-last : (es : List Entry) (ts : List ℕ) (m n d : ℕ) (x : Entry) → AreMarked es ts → m + 1 ≡ length ts → n ≡ get_or ts m d → AreMarked (set es n (record { pair = (get_or es n x).pair; is_taken = false })) (take m ts)
AreMarked-last es ts m n d x h q e =
    let at = slice_get-get_or es n x (last_taken-made es ts m n d h q e) in
    AreMarked-pop es (take m ts) n (get_or es n x) (subst (λ (us : List ℕ). AreMarked es us) (last_taken ts m n d q e) h) at

pub pairs_of-read : (es : List Entry) (n : ℕ) (x : Entry) (b : Bool) → n < length es → pairs_of (set es n (record { pair = (get_or es n x).pair; is_taken = b })) ≡ pairs_of es
pairs_of-read es n x b l = pairs_of-mark es n (get_or es n x) b (slice_get-get_or es n x l)

-- one entry more: its pair is left if it has no mark
pub left_from-entry : (es : List Entry) (ts : List ℕ) (i : ℕ) (e : Entry) → AreMarked es ts → slice_get es i ≡ Some e → left_from ts 0 (take (i + 1) (pairs_of es)) ≡ left_from ts 0 (take i (pairs_of es)) ++ (if e.is_taken then [] else e.pair ∷ [])
left_from-entry es ts i e m at =
    let l = slice_get_within es i e at in
    let lp : i < length (pairs_of es) = omega (arith, length-map es (λ (x : Entry). x.pair)) in
    let g : get_or es i e ≡ e = grind (arith, at, slice_get-get_or es i e l) in
    let gp : get_or (pairs_of es) i e.pair ≡ e.pair = get_or-map (λ (x : Entry). x.pair) es i e e.pair l ∙ ap (λ (x : Entry). x.pair) g in
    let n : 0 + length (take i (pairs_of es)) ≡ i = omega (arith, length-take i (pairs_of es)) in
    ap (left_from ts 0) (take_more (pairs_of es) i e.pair lp ∙ ap (λ (p : WaitingPair). take i (pairs_of es) ++ p ∷ []) gp)
    ∙ left_from-push ts 0 (take i (pairs_of es)) e.pair
    ∙ ap (λ (k : ℕ). left_from ts 0 (take i (pairs_of es)) ++ (if is_taken ts k then [] else e.pair ∷ [])) n
    ∙ ap (λ (b : Bool). left_from ts 0 (take i (pairs_of es)) ++ (if b then [] else e.pair ∷ [])) (sym (m.marks i e at))
