-- Bytes that move piece by piece.
use Rattle.std.proofs.Common.{◌≡◌, ℕ, ◌+◌, ◌-◌, ◌≤◌, ◌<◌, List, [], ◌++◌, length, take, drop, Option, Some, None, arith, ap, sym, ◌∙◌, append_assoc, refl, length-drop, length-append}
use Rattle.std.proofs.Math.Seq.{take-add}
use Rattle.std.proofs.lemmas.List.{take_all, take_at, length-take-le, take-append-drop, drop_all, drop-drop}
use Rattle.std.specs.Io.KnownBytes.{Appends, Consumes}

-- n bytes of the text were written
pub record Written (old new : Option (List ℕ)) (before now : ℕ) (text : List ℕ) (n : ℕ) : Type 0 where
  pub within : n ≤ length text
  pub bytes : Appends old new (take n text)
  pub later : before ≤ now

-- the text was read
pub record Taken (old new : Option (List ℕ)) (before now : ℕ) (text buf : List ℕ) : Type 0 where
  pub within : length text ≤ 16777217
  pub bytes : Consumes old new text
  pub later : before ≤ now

appends_twice : (old mid new : Option (List ℕ)) (bs cs : List ℕ) → Appends old mid bs → Appends mid new cs → Appends old new (bs ++ cs)
appends_twice None mid new bs cs p q = tt
appends_twice (Some xs) None new bs cs p q = absurd p
appends_twice (Some xs) (Some ys) None bs cs p q = absurd q
appends_twice (Some xs) (Some ys) (Some zs) bs cs p q = q ∙ (ap (λ (w : List ℕ). w ++ cs) p ∙ simp append_assoc)

-- a piece more was written
pub goes_on : (old mid new : Option (List ℕ)) (before between now : ℕ) (text : List ℕ) (a n : ℕ)
    → Written old mid before between text a → n ≤ length (take (length text - a) (drop a text)) → Appends mid new (take n (take (length text - a) (drop a text))) → between ≤ now
    → Written old new before now text (a + n)
goes_on old mid new before between now text a n so_far bound bytes later =
    let rest : take (length text - a) (drop a text) ≡ drop a text = take_all (length text - a) (drop a text) (omega (arith, length-drop a text)) in
    let bound2 : n ≤ length (drop a text) = rw rest at bound in
    let bytes2 : Appends mid new (take n (drop a text)) = rw rest at bytes in
    let both : Appends old new (take a text ++ take n (drop a text)) = appends_twice old mid new (take a text) (take n (drop a text)) so_far.bytes bytes2 in
    record { within = omega (arith, length-drop a text); bytes = rw (take-add a n text) both; later = omega arith }

-- a piece is copied to the front of a buffer
pub moved : (bytes buf copied source : List ℕ) (at n : ℕ) → at ≤ length bytes → n ≤ length bytes - at → (n ≡ 0 → 0 < length buf → length bytes ≤ at)
    → source ≡ bytes → copied ≡ take (at + n - at) (drop at source)
    → (drop at bytes ≡ take n (copied ++ drop n buf) ++ drop (at + n) bytes) × (n ≡ 0 → 0 < length (copied ++ drop n buf) → drop (at + n) bytes ≡ [])
moved bytes buf copied source at n within count none_left is copy =
    let size : at + n - at ≡ n = omega arith in
    let piece : copied ≡ take n (drop at bytes) = copy ∙ rw (size, is) refl in
    let room : n ≤ length (drop at bytes) = omega (arith, length-drop at bytes) in
    let long : length copied ≡ n = rw piece (length-take-le n (drop at bytes) room) in
    let front : take n (copied ++ drop n buf) ≡ copied = take_at copied (drop n buf) n long in
    let rest : drop n (drop at bytes) ≡ drop (at + n) bytes = drop-drop n at bytes in
    let whole : drop at bytes ≡ copied ++ drop (at + n) bytes = sym (take-append-drop n (drop at bytes)) ∙ (ap (λ (w : List ℕ). w ++ drop n (drop at bytes)) (sym piece) ∙ ap (λ (w : List ℕ). copied ++ w) rest) in (
      whole ∙ ap (λ (w : List ℕ). w ++ drop (at + n) bytes) (sym front),
      λ none some. drop_all (at + n) bytes (let l : length (copied ++ drop n buf) ≡ length copied + length (drop n buf) = length-append copied (drop n buf) in let le : length bytes ≤ at = none_left none (omega (arith, length-drop n buf)) in omega arith),
    )
