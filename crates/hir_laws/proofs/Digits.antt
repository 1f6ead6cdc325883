-- What decimal digits stand for, digit by digit.
use Rattle.std.proofs.Common.{◌≡◌, ◌<◌, ◌≤◌, ◌+◌, ◌-◌, ◌*◌, ◌^◌, ℕ, List, [], ◌∷◌, length, get_or, drop, Bool, true, false, ◌&&◌, cond, Option, Some, None, refl, sym, ◌∙◌, arith, lit<}
use Rattle.std.specs.Prelude.{nat_le, IsSomeAnd, fold}
use Rattle.std.proofs.Math.ListN.{drop_of_length-le}
use Rattle.hir_laws.specs.Words.{and_digit, value_of}
use Rattle.hir_laws.specs.Own.{IsSmall}
use Rattle.hir_laws.proofs.Words.{drop_at}

-- the digits before i make this value
pub record Valued (cs : List ℕ) (i value : ℕ) : Type 0 where
  pub whole : fold and_digit (Some value) (drop i cs) ≡ fold and_digit (Some 0) cs
  pub small : value < 2 ^ 128

pub valued_none : (cs : List ℕ) → Valued cs 0 0
valued_none cs = record { whole = refl; small = lit< tt }

pub valued_more : (cs : List ℕ) (i v w : ℕ) → Valued cs i v → i < length cs → and_digit (Some v) (get_or cs i 0) ≡ Some w → w < 2 ^ 128 → Valued cs (i + 1) w
valued_more cs i v w h lt e small =
    let q : fold and_digit (and_digit (Some v) (get_or cs i 0)) (drop (i + 1) cs) ≡ fold and_digit (Some 0) cs = rw (drop_at cs i 0 lt) at h.whole in
    record { whole = rw e at q; small = small }

value_of_some : (cs : List ℕ) → 0 < length cs → value_of cs ≡ fold and_digit (Some 0) cs
value_of_some [] some = absurd (omega arith)
value_of_some (c ∷ cs) some = refl

pub valued_all : (cs : List ℕ) (i v : ℕ) → Valued cs i v → length cs ≤ i → 0 < length cs → value_of cs ≡ Some v
valued_all cs i v h le some = value_of_some cs some ∙ (let q : Some v ≡ fold and_digit (Some 0) cs = rw (drop_of_length-le cs le) at h.whole in sym q)

large_stays : (b : Bool) (n c bound : ℕ) → IsSomeAnd (cond b (Some (n * 10 + (c - 48))) None) (λ m. m < bound) → n < bound
large_stays true n c bound small = let lt : n * 10 + (c - 48) < bound = small in omega arith
large_stays false n c bound small = absurd small

before_digit : (o : Option ℕ) (c : ℕ) → IsSmall (and_digit o c) → IsSmall o
before_digit None c small = small
before_digit (Some n) c small = large_stays (nat_le 48 c && nat_le c 57) n c (2 ^ 128) small

before_digits : (o : Option ℕ) (cs : List ℕ) → IsSmall (fold and_digit o cs) → IsSmall o
before_digits o [] small = small
before_digits o (c ∷ cs) small = before_digit o c (before_digits (and_digit o c) cs small)

pub valued_large : (cs : List ℕ) (i v : ℕ) → Valued cs i v → i < length cs → 0 < length cs → (IsSmall (and_digit (Some v) (get_or cs i 0)) → ⊥) → IsSmall (value_of cs) → ⊥
valued_large cs i v h lt some large small =
    let q : fold and_digit (and_digit (Some v) (get_or cs i 0)) (drop (i + 1) cs) ≡ fold and_digit (Some 0) cs = rw (drop_at cs i 0 lt) at h.whole in
    let s : IsSmall (fold and_digit (Some 0) cs) = rw (value_of_some cs some) at small in
    let t : IsSmall (fold and_digit (and_digit (Some v) (get_or cs i 0)) (drop (i + 1) cs)) = rw (← q) at s in
    large (before_digits (and_digit (Some v) (get_or cs i 0)) (drop (i + 1) cs) t)
