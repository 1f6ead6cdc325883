-- Reading lists, and lists of what is recorded, after a write.
use Rattle.std.proofs.Common.{ℕ, ◌<◌, ◌≤◌, ◌⊎◌, arith, ◌≡◌, ◌≢◌, zero, suc, ◌+◌, inl, inr, List, [], ◌∷◌, ◌++◌, length, get_or, drop, refl, sym, ap, ◌∙◌, add-one, drop-cons, Some, slice_get, take, Option, None, replicate, ◌-◌, append-nil, append_assoc}
use Rattle.std.proofs.Math.ListN.{set, length-set}
use Rattle.std.proofs.lemmas.List.{get_or-set_same, get_or-set_other, take_more, length-append, length-replicate, replicate_more}
use Rattle.std.proofs.lemmas.Option.{slice_get-get_or, slice_get_past, slice_get_within}
use Rattle.infer_ctx.specs.Words.{At, recorded}
use Rattle.infer_ctx.specs.Own.{IsFree, noted_where, noted, put}

pub lt_or_ge : (a b : ℕ) → (a < b) ⊎ (b ≤ a)
lt_or_ge a b = grind arith

pub same_or_not : (m n : ℕ) → (m ≡ n) ⊎ (m ≢ n)
same_or_not m n = grind arith

module _ {X : Type 0} where
  pub slice_get-set_same : (xs : List X) (n : ℕ) (x : X) → n < length xs → slice_get (set xs n x) n ≡ Some x
  slice_get-set_same xs n x h =
      let k : n < length (set xs n x) = simp length-set h in
      slice_get-get_or (set xs n x) n x k ∙ ap (λ y. Some y) (get_or-set_same xs n x x h)

  pub slice_get-set_other : (xs : List X) (n m : ℕ) (x : X) → m ≢ n → slice_get (set xs n x) m ≡ slice_get xs m
  slice_get-set_other xs n m x ne =
      elim (lt_or_ge m (length xs)) [
        | inl h ↦
            (let k : m < length (set xs n x) = simp length-set h in
            slice_get-get_or (set xs n x) m x k
            ∙ (ap (λ y. Some y) (get_or-set_other xs n m x x ne) ∙ sym (slice_get-get_or xs m x h)))
        | inr h ↦
            (let k : length (set xs n x) ≤ m = simp length-set h in
            slice_get_past (set xs n x) m k ∙ sym (slice_get_past xs m h))
      ]

  pub slice_get-append_left : (xs ys : List X) (i : ℕ) (x : X) → slice_get xs i ≡ Some x → slice_get (xs ++ ys) i ≡ Some x
  slice_get-append_left [] ys i x h = cc
  slice_get-append_left (y ∷ xs) ys zero x h = h
  slice_get-append_left (y ∷ xs) ys (suc i) x h = slice_get-append_left xs ys i x h

  pub slice_get-push : (xs : List X) (x : X) → slice_get (xs ++ x ∷ []) (length xs) ≡ Some x
  slice_get-push [] x = refl
  slice_get-push (y ∷ xs) x = slice_get-push xs x

  pub drop-step : (xs : List X) (i : ℕ) (x : X) → i < length xs → drop i xs ≡ get_or xs i x ∷ drop (i + 1) xs
  drop-step xs i x h = rw (add-one, drop-cons xs i x)

  pub found : (xs : List X) (n : ℕ) → n < length xs → (x : X) × (slice_get xs n ≡ Some x)
  found [] n h = absurd (omega arith)
  found (x ∷ xs) zero h = (x, refl)
  found (x ∷ xs) (suc n) h = (let k : n < length xs = omega arith in found xs n k)

-- one entry more
pub take_next : {X : Type 0} (xs : List X) (i : ℕ) (x : X) → slice_get xs i ≡ Some x → take (i + 1) xs ≡ take i xs ++ x ∷ []
take_next xs i x h =
    let k : i < length xs = slice_get_within xs i x h in
    let e : get_or xs i x ≡ x = (let q = sym (slice_get-get_or xs i x k) ∙ h in cc) in
    take_more xs i x k ∙ ap (λ y. take i xs ++ y ∷ []) e

module _ {A : Type 0} where
  -- a write where nothing is recorded keeps what is
  pub At-set : (xs : List (Option A)) (n m : ℕ) (a b : A) → IsFree xs n → At xs m b → At (set xs n (Some a)) m b
  At-set xs n m a b free h =
      elim (same_or_not m n) [
        | inl e ↦ (let f : slice_get xs m ≡ Some None = rw e free in cc)
        | inr ne ↦ slice_get-set_other xs n m (Some a) ne ∙ h
      ]

  -- what is recorded after a write was so before, or is what was written
  pub At-set_cases : (xs : List (Option A)) (n m : ℕ) (a b : A) → n < length xs → At (set xs n (Some a)) m b → At xs m b ⊎ ((m ≡ n) × (a ≡ b))
  At-set_cases xs n m a b h k =
      elim (same_or_not m n) [
        | inl e ↦
            (let f : slice_get (set xs n (Some a)) m ≡ Some (Some a) = rw e (slice_get-set_same xs n (Some a) h) in
            let g : a ≡ b = cc in
            inr (e, g))
        | inr ne ↦ inl (sym (slice_get-set_other xs n m (Some a) ne) ∙ k)
      ]

  -- a write where the list grows
  pub put-here : (xs : List (Option A)) (n : ℕ) (a : A) → At (put xs n a) n a
  put-here [] zero a = refl
  put-here [] (suc n) a = put-here [] n a
  put-here (o ∷ xs) zero a = refl
  put-here (o ∷ xs) (suc n) a = put-here xs n a

  pub put-cases : (xs : List (Option A)) (n m : ℕ) (a b : A) → At (put xs n a) m b → At xs m b ⊎ ((m ≡ n) × (a ≡ b))
  put-cases [] zero zero a b h = (let e : a ≡ b = cc in inr (refl, e))
  put-cases [] zero (suc m) a b h = absurd (cc)
  put-cases [] (suc n) zero a b h = absurd (cc)
  put-cases [] (suc n) (suc m) a b h = elim (put-cases [] n m a b h) [ inl k ↦ absurd (cc) | inr k ↦ inr (ap suc k.0, k.1) ]
  put-cases (o ∷ xs) zero zero a b h = (let e : a ≡ b = cc in inr (refl, e))
  put-cases (o ∷ xs) zero (suc m) a b h = inl h
  put-cases (o ∷ xs) (suc n) zero a b h = inl h
  put-cases (o ∷ xs) (suc n) (suc m) a b h = elim (put-cases xs n m a b h) [ inl k ↦ inl k | inr k ↦ inr (ap suc k.0, k.1) ]

  -- it keeps what is recorded where nothing was there
  pub At-put : (xs : List (Option A)) (n m : ℕ) (a b : A) → recorded xs n ≡ None → At xs m b → At (put xs n a) m b
  At-put [] n m a b free h = absurd (cc)
  At-put (None ∷ xs) zero zero a b free h = absurd (cc)
  At-put (Some x ∷ xs) zero zero a b free h = absurd (cc)
  At-put (o ∷ xs) zero (suc m) a b free h = h
  At-put (o ∷ xs) (suc n) zero a b free h = h
  At-put (o ∷ xs) (suc n) (suc m) a b free h = At-put xs n m a b free h

  -- as the code does it: the list is made long enough, and written
  pub put_made : (xs : List (Option A)) (n : ℕ) (a : A) → set (xs ++ replicate (n + 1 - length xs) None) n (Some a) ≡ put xs n a
  put_made [] zero a = refl
  put_made [] (suc n) a = (let more : suc n + 1 - 0 ≡ suc (n + 1 - 0) = omega arith in rw more (ap (λ ys. None ∷ ys) (put_made [] n a)))
  put_made (o ∷ xs) zero a = (let none : 0 + 1 - length (o ∷ xs) ≡ 0 = omega arith in rw none (ap (λ ys. Some a ∷ ys) (append-nil xs)))
  put_made (o ∷ xs) (suc n) a =
      (let less : suc n + 1 - length (o ∷ xs) ≡ n + 1 - length xs = omega arith in
      rw less (ap (λ ys. o ∷ ys) (put_made xs n a)))

  pub put_grown : (xs ys : List (Option A)) (n k : ℕ) (a : A) → ys ≡ xs ++ replicate k None → k ≡ n + 1 - length xs → set ys n (Some a) ≡ put xs n a
  put_grown xs ys n k a grown enough = rw (grown, enough) (put_made xs n a)

  pub grown_within : (xs ys : List (Option A)) (n k : ℕ) → ys ≡ xs ++ replicate k None → n + 1 - length xs ≤ k → n < length ys
  grown_within xs ys n k grown enough =
      (let long : length ys ≡ length xs + k = ap length grown ∙ (length-append xs (replicate k None) ∙ ap (λ m. length xs + m) (length-replicate k None)) in
      omega (arith, long, enough))

  pub grown_more : (xs ys : List (Option A)) (k : ℕ) → ys ≡ xs ++ replicate k None → ys ++ None ∷ [] ≡ xs ++ replicate (k + 1) None
  grown_more xs ys k grown =
      ap (λ zs. zs ++ None ∷ []) grown ∙ (append_assoc xs (replicate k None) (None ∷ []) ∙ ap (λ zs. xs ++ zs) (replicate_more k None))

  -- a write of nothing, or of a value
  abbrev pub own_set : List (Option A) → ℕ → Option A → List (Option A)
  own_set xs n None = xs
  own_set xs n (Some a) = set xs n (Some a)

  pub length-own_set : (xs : List (Option A)) (n : ℕ) (o : Option A) → length (own_set xs n o) ≡ length xs
  length-own_set xs n None = refl
  length-own_set xs n (Some a) = length-set xs n (Some a)

  pub own_set-at : (xs : List (Option A)) (n : ℕ) (o : Option A) (a : A) → n < length xs → o ≡ Some a → At (own_set xs n o) n a
  own_set-at xs n None a h e = cc
  own_set-at xs n (Some b) a h e = (let k : b ≡ a = cc in rw k (slice_get-set_same xs n (Some a) h))

  pub own_set-other : (xs : List (Option A)) (n m : ℕ) (o : Option A) → m ≢ n → slice_get (own_set xs n o) m ≡ slice_get xs m
  own_set-other xs n m None ne = refl
  own_set-other xs n m (Some a) ne = slice_get-set_other xs n m (Some a) ne

  pub own_set-cases : (xs : List (Option A)) (n m : ℕ) (o : Option A) (b : A) → n < length xs → At (own_set xs n o) m b → At xs m b ⊎ ((m ≡ n) × (o ≡ Some b))
  own_set-cases xs n m None b h k = inl k
  own_set-cases xs n m (Some a) b h k =
      elim (At-set_cases xs n m a b h k) [ inl q ↦ inl q | inr q ↦ inr (q.0, ap (λ x. Some x) q.1) ]

-- ---- mismatches, of which the first one stays
noted-keeps_where : {A : Type 0} (xs : List (Option A)) (n k : ℕ) (m y : A) (o : Option (Option A)) → slice_get xs n ≡ o → At xs k y → At (noted_where o xs n m) k y
noted-keeps_where xs n k m y None is h = h
noted-keeps_where xs n k m y (Some None) is h = At-set xs n k m y is h
noted-keeps_where xs n k m y (Some (Some x)) is h = h

pub noted-keeps : {A : Type 0} (xs : List (Option A)) (n k : ℕ) (m y : A) → At xs k y → At (noted xs n m) k y
noted-keeps xs n k m y h = noted-keeps_where xs n k m y (slice_get xs n) refl h

noted-cases_where : {A : Type 0} (xs : List (Option A)) (n k : ℕ) (m y : A) (o : Option (Option A)) → slice_get xs n ≡ o → At (noted_where o xs n m) k y → At xs k y ⊎ ((k ≡ n) × (m ≡ y))
noted-cases_where xs n k m y None is h = inl h
noted-cases_where xs n k m y (Some None) is h = At-set_cases xs n k m y (slice_get_within xs n None is) h
noted-cases_where xs n k m y (Some (Some x)) is h = inl h

pub noted-cases : {A : Type 0} (xs : List (Option A)) (n k : ℕ) (m y : A) → At (noted xs n m) k y → At xs k y ⊎ ((k ≡ n) × (m ≡ y))
noted-cases xs n k m y h = noted-cases_where xs n k m y (slice_get xs n) refl h

noted-some_where : {A : Type 0} (xs : List (Option A)) (n : ℕ) (m : A) (o : Option (Option A)) → slice_get xs n ≡ o → n < length xs → (y : A) × At (noted_where o xs n m) n y
noted-some_where xs n m None is h = (let q = found xs n h in let k = sym is ∙ q.1 in absurd (cc))
noted-some_where xs n m (Some None) is h = (m, slice_get-set_same xs n (Some m) h)
noted-some_where xs n m (Some (Some x)) is h = (x, is)

pub noted-some : {A : Type 0} (xs : List (Option A)) (n : ℕ) (m : A) → n < length xs → (y : A) × At (noted xs n m) n y
noted-some xs n m h = noted-some_where xs n m (slice_get xs n) refl h

length-noted_where : {A : Type 0} (xs : List (Option A)) (n : ℕ) (m : A) (o : Option (Option A)) → length (noted_where o xs n m) ≡ length xs
length-noted_where xs n m None = refl
length-noted_where xs n m (Some None) = length-set xs n (Some m)
length-noted_where xs n m (Some (Some x)) = refl

pub length-noted : {A : Type 0} (xs : List (Option A)) (n : ℕ) (m : A) → length (noted xs n m) ≡ length xs
length-noted xs n m = length-noted_where xs n m (slice_get xs n)
