-- The arguments of a function or of a constructor that are its own, written.
use Rattle.std.proofs.Common.{◌≡◌, ◌∙◌, ◌++◌, ◌<◌, ◌≤◌, List, [], ◌∷◌, map, length, take, ℕ, zero, suc, refl, ap, sym, subst, arith, codes, append_assoc, Option, Some, None, slice_get}
use Rattle.std.proofs.lemmas.List.{length-map}
use Rattle.infer_report.specs.Words.{CallableDefId, GenericArg, RawFacts, RawFn, RawVariant, adt_params, arg_text, joined, args_text, fn_own_count, adt_own_count, variant_own_count, own_count, own_args}
use Rattle.hir_types.specs.declared.ids.CallableDefId.TheVariants as callable

take_mapped : {A B : Type 0} (f : A → B) (n : ℕ) (xs : List A) → take n (map f xs) ≡ map f (take n xs)
take_mapped f zero xs = refl
take_mapped f (suc n) [] = refl
take_mapped f (suc n) (x ∷ xs) = ap (λ ys. f x ∷ ys) (take_mapped f n xs)

-- they are the first
own_are : (raw : RawFacts) (i : CallableDefId) (xs : List GenericArg) → own_args raw i (map (arg_text raw) xs) ≡ map (arg_text raw) (take (own_count raw i (length xs)) xs)
own_are raw i xs =
    ap (λ n. take (own_count raw i n) (map (arg_text raw) xs)) (length-map xs (arg_text raw)) ∙ take_mapped (arg_text raw) (own_count raw i (length xs)) xs

fn_own_within : (o : Option RawFn) (n : ℕ) → fn_own_count o n ≤ n
fn_own_within None n = omega arith
fn_own_within (Some f) n = omega arith

adt_own_within : (o : Option ℕ) (n : ℕ) → adt_own_count o n ≤ n
adt_own_within None n = omega arith
adt_own_within (Some m) n = omega arith

variant_own_within : (raw : RawFacts) (o : Option RawVariant) (n : ℕ) → variant_own_count raw o n ≤ n
variant_own_within raw None n = omega arith
variant_own_within raw (Some x) n = adt_own_within (adt_params raw x.adt) n

-- no more than there are
pub own_within : (raw : RawFacts) (i : CallableDefId) (n : ℕ) → own_count raw i n ≤ n
own_within raw (callable.FunctionId f) n = fn_own_within (slice_get raw.fns f.0) n
own_within raw (callable.VariantId v) n = variant_own_within raw (slice_get raw.variants v.0) n

none_of : (f : GenericArg → List ℕ) (n : ℕ) (xs : List GenericArg) → n ≡ 0 → args_text (map f (take n xs)) ≡ []
none_of f n xs is = ap (λ k. args_text (map f (take k xs))) is

-- where there are none nothing is written
pub none_written : (raw : RawFacts) (i : CallableDefId) (xs : List GenericArg) → own_count raw i (length xs) ≡ 0 → args_text (own_args raw i (map (arg_text raw) xs)) ≡ []
none_written raw i xs none = ap args_text (own_are raw i xs) ∙ none_of (arg_text raw) (own_count raw i (length xs)) xs none

between : (f : GenericArg → List ℕ) (n : ℕ) (xs : List GenericArg) → 0 < n → n ≤ length xs → args_text (map f (take n xs)) ≡ codes "<" ++ joined (map f (take n xs)) ++ codes ">"
between f zero xs some le = absurd (omega arith)
between f (suc n) [] some le = absurd (omega arith)
between f (suc n) (x ∷ xs) some le = refl

-- else they stand between `<` and `>`
pub some_written : (raw : RawFacts) (i : CallableDefId) (xs : List GenericArg) → 0 < own_count raw i (length xs)
    → args_text (own_args raw i (map (arg_text raw) xs)) ≡ codes "<" ++ joined (map (arg_text raw) (take (own_count raw i (length xs)) xs)) ++ codes ">"
some_written raw i xs some = ap args_text (own_are raw i xs) ∙ between (arg_text raw) (own_count raw i (length xs)) xs some (own_within raw i (length xs))

pub own_written : (raw : RawFacts) (i : CallableDefId) (xs : List GenericArg) (n : ℕ) (start opened listed : List ℕ) → n ≡ own_count raw i (length xs) → 0 < n → opened ≡ start ++ codes "<" → listed ≡ opened ++ joined (map (arg_text raw) (take n xs))
    → listed ++ codes ">" ≡ start ++ args_text (own_args raw i (map (arg_text raw) xs))
own_written raw i xs n start opened listed is some first rest =
    let text : List ℕ = joined (map (arg_text raw) (take n xs)) in
    let whole : args_text (own_args raw i (map (arg_text raw) xs)) ≡ codes "<" ++ text ++ codes ">" =
    some_written raw i xs (subst (λ k. 0 < k) is some) ∙ ap (λ k. codes "<" ++ joined (map (arg_text raw) (take k xs)) ++ codes ">") (sym is) in
    rw (rest, first, whole) (simp append_assoc)
