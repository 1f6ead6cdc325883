-- Generic arguments but the first, written one after another.
use Rattle.std.proofs.Common.{◌≡◌, ◌∙◌, ◌++◌, ◌+◌, ◌<◌, List, [], ◌∷◌, map, length, ℕ, suc, ap, append_assoc, append-nil, arith, codes}
use Rattle.infer_report.specs.Words.{GenericArg, RawFacts, arg_text, joined, lines_from}
use Rattle.infer_report.specs.Own.{later_arg_text, later_args_text}

module _ (raw : RawFacts) where
  abbrev pub later_of : ℕ → GenericArg → List ℕ
  later_of i x = later_arg_text i (arg_text raw x)

  joins : (n : ℕ) (x : GenericArg) (xs : List GenericArg) → arg_text raw x ++ lines_from later_of (suc (suc n)) xs ≡ joined (map (arg_text raw) (x ∷ xs))
  joins n x [] = append-nil (arg_text raw x)
  joins n x (y ∷ ys) =
      let next : suc (suc n) + 1 ≡ suc (suc (suc n)) = omega arith in
      let others : arg_text raw y ++ lines_from later_of (suc (suc n) + 1) ys ≡ joined (map (arg_text raw) (y ∷ ys)) = ap (λ k. arg_text raw y ++ lines_from later_of k ys) next ∙ joins (suc n) y ys in
      ap (λ (w : List ℕ). arg_text raw x ++ w) (append_assoc (codes ", ") (arg_text raw y) (lines_from later_of (suc (suc n) + 1) ys) ∙ ap (λ (w : List ℕ). codes ", " ++ w) others) ∙ simp append_assoc

  -- there are others
  pub closes_later : (xs : List GenericArg) → 1 < length xs → lines_from later_of 0 xs ++ codes ">" ≡ later_args_text (map (arg_text raw) xs)
  closes_later [] more = absurd (omega arith)
  closes_later (x ∷ []) more = absurd (omega arith)
  closes_later (x ∷ y ∷ ys) more =
      ap (λ (w : List ℕ). w ++ codes ">") (append_assoc (codes "<") (arg_text raw y) (lines_from later_of 2 ys) ∙ ap (λ (w : List ℕ). codes "<" ++ w) (joins 0 y ys))
      ∙ append_assoc (codes "<") (joined (map (arg_text raw) (y ∷ ys))) (codes ">")
