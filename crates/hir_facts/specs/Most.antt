-- The greatest number in a written type, part by part.
use Rattle.std.specs.Prelude.{◌≡◌, ◌<◌, ◌≤◌, ℕ, zero, suc, max, List, [], ◌∷◌, map, slice_get, Option, Some, None, refl}
use Rattle.std.proofs.Common.{◌∙◌, ap, arith}
use Rattle.hir_facts.specs.Words.{TypeRefId, most, RawType, type_parts}
use Rattle.hir_facts.specs.Entries.{AllHold}
use Rattle.hir_facts.specs.Ids.{ChildrenBefore}
use Rattle.hir_facts.specs.Standing.{most_by, most_within, most_in}

nums_same : (f g : ℕ → ℕ) (ts : List TypeRefId) → ((k : ℕ) (t : TypeRefId) → slice_get ts k ≡ Some t → f t.0 ≡ g t.0)
    → map (λ t. f t.0) ts ≡ map (λ t. g t.0) ts
nums_same f g [] same = refl
nums_same f g (t ∷ ts) same = let here : f t.0 ≡ g t.0 = same zero t refl in let rest : map (λ t. f t.0) ts ≡ map (λ t. g t.0) ts =
    nums_same f g ts (λ k u found. same (suc k) u found) in λ i. here i ∷ rest i

-- two ways to read the parts that agree on them
pub most_by_same : (own : RawType → ℕ) (f g : ℕ → ℕ) (n : ℕ) (x : RawType) → ChildrenBefore n x → ((j : ℕ) → j < n → f j ≡ g j)
    → most_by own f (Some x) ≡ most_by own g (Some x)
most_by_same own f g n x before same =
    ap (λ (ns : List ℕ). max (own x) (most ns)) (nums_same f g (type_parts x) (λ k t found. same t.0 (before k t found)))

of_same : (own : RawType → ℕ) (f g : ℕ → ℕ) (i : ℕ) (o : Option RawType) → ((x : RawType) → o ≡ Some x → ChildrenBefore i x)
    → ((j : ℕ) → j < i → f j ≡ g j) → most_by own f o ≡ most_by own g o
of_same own f g i None before same = refl
of_same own f g i (Some x) before same = most_by_same own f g i x (before x refl) same

-- how far a type is followed does not matter, as long as it is far enough
most_far : (own : RawType → ℕ) (types : List RawType) → AllHold ChildrenBefore types → (n m i : ℕ) → i < n → i < m
    → most_within own n types i ≡ most_within own m types i
unfolding most_within
most_far own types all zero m i a b = absurd (omega arith)
most_far own types all (suc n) zero i a b = absurd (omega arith)
most_far own types all (suc n) (suc m) i a b =
    of_same own (most_within own n types) (most_within own m types) i (slice_get types i) (λ x found. all i x found)
    (λ j lt. most_far own types all n m j (omega arith) (omega arith))

pub most_within_step : (own : RawType → ℕ) (types : List RawType) (n i : ℕ)
    → most_within own (suc n) types i ≡ most_by own (most_within own n types) (slice_get types i)
unfolding most_within
most_within_step own types n i = refl

-- the number of a type is the greatest of its own and those of its parts
pub most_parts : (own : RawType → ℕ) (types : List RawType) → AllHold ChildrenBefore types → (i : ℕ) (x : RawType)
    → slice_get types i ≡ Some x → most_in own types i ≡ most_by own (most_in own types) (Some x)
most_parts own types all i x found =
    most_within_step own types i i ∙ (ap (most_by own (most_within own i types)) found
    ∙ most_by_same own (most_within own i types) (most_in own types) i x (all i x found)
    (λ j lt. most_far own types all i (suc j) j lt (omega arith)))

-- the number of a part is no greater than that of the type
pub most_above : (f : ℕ → ℕ) (ts : List TypeRefId) (k : ℕ) (t : TypeRefId) → slice_get ts k ≡ Some t → f t.0 ≤ most (map (λ t. f t.0) ts)
most_above f [] k t found = absurd (cc)
most_above f (u ∷ us) zero t found = let same : f t.0 ≡ f u.0 = cc in omega arith
most_above f (u ∷ us) (suc k) t found = let rest : f t.0 ≤ most (map (λ t. f t.0) us) = most_above f us k t found in omega arith

pub part_most : (own : RawType → ℕ) (types : List RawType) → AllHold ChildrenBefore types → (i : ℕ) (x : RawType)
    → slice_get types i ≡ Some x
    → (k : ℕ) (t : TypeRefId) → slice_get (type_parts x) k ≡ Some t → most_in own types t.0 ≤ most_in own types i
part_most own types all i x found k t here =
    let whole : most_in own types i ≡ max (own x) (most (map (λ t. most_in own types t.0) (type_parts x))) =
    most_parts own types all i x found in
    let below : most_in own types t.0 ≤ most (map (λ t. most_in own types t.0) (type_parts x)) =
    most_above (most_in own types) (type_parts x) k t here in
    bounded (most_in own types t.0) (most (map (λ t. most_in own types t.0) (type_parts x))) (own x) (most_in own types i) below whole
  where
    bounded : (a b c d : ℕ) → a ≤ b → d ≡ max c b → a ≤ d
    bounded a b c d le is = omega arith

-- nor is what the type itself has
pub own_most : (own : RawType → ℕ) (types : List RawType) → AllHold ChildrenBefore types → (i : ℕ) (x : RawType)
    → slice_get types i ≡ Some x → own x ≤ most_in own types i
own_most own types all i x found =
    let whole : most_in own types i ≡ max (own x) (most (map (λ t. most_in own types t.0) (type_parts x))) =
    most_parts own types all i x found in
    bounded (most (map (λ t. most_in own types t.0) (type_parts x))) (own x) (most_in own types i) whole
  where
    bounded : (b c d : ℕ) → d ≡ max c b → c ≤ d
    bounded b c d is = omega arith
