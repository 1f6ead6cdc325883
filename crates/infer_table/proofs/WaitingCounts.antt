-- How many pairs wait.
use Rattle.std.proofs.Common.{ℕ, ◌≤◌, ◌+◌, arith, Bool, true, false, cond, List, [], ◌∷◌, length}
use Rattle.infer_table.specs.Own.{WaitingPair, Waiting, is_taken, left_from, waiting}

one_maybe : (b : Bool) (p : WaitingPair) (xs : List WaitingPair) (n : ℕ) → length xs ≤ n → length (cond b xs (p ∷ xs)) ≤ n + 1
one_maybe true p xs n h = omega arith
one_maybe false p xs n h = omega arith

left_count : (taken : List ℕ) (i : ℕ) (ps : List WaitingPair) → length (left_from taken i ps) ≤ length ps
left_count taken i [] = omega arith
left_count taken i (p ∷ ps) = omega (arith, one_maybe (is_taken taken i) p (left_from taken (i + 1) ps) (length ps) (left_count taken (i + 1) ps))

-- no more than were ever made to wait
pub waiting_count : (w : Waiting) → length (waiting w) ≤ length w.made
waiting_count w = left_count w.taken 0 w.made
