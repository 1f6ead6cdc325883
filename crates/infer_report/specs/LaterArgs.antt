-- Generic arguments but the first, as they are written.
use Rattle.std.specs.Prelude.{ℕ, zero, suc, List, [], ◌∷◌, ◌++◌, codes}
use Rattle.infer_report.specs.Words.{args_text}

-- those but the first; each with what stands before it
abbrev pub later_args_text : List (List ℕ) → List ℕ
later_args_text [] = []
later_args_text (x ∷ xs) = args_text xs

abbrev pub later_arg_text : ℕ → List ℕ → List ℕ
later_arg_text zero x = []
later_arg_text (suc zero) x = codes "<" ++ x
later_arg_text (suc (suc n)) x = codes ", " ++ x
