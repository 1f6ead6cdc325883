-- Six lists that are put behind another one after another.
use Rattle.std.proofs.Common.{◌≡◌, List, ◌++◌, append_assoc}

pub six_behind : {A : Type 0} (o a b c d e f o1 o2 o3 o4 o5 o6 : List A) → o1 ≡ o ++ a → o2 ≡ o1 ++ b → o3 ≡ o2 ++ c → o4 ≡ o3 ++ d → o5 ≡ o4 ++ e → o6 ≡ o5 ++ f
    → o6 ≡ o ++ (a ++ (b ++ (c ++ (d ++ (e ++ f)))))
six_behind o a b c d e f o1 o2 o3 o4 o5 o6 h1 h2 h3 h4 h5 h6 = rw (h6, h5, h4, h3, h2, h1) (simp append_assoc)
