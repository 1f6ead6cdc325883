-- What a test of all that is said tells is told of all that is mentioned.
use Rattle.std.proofs.Common.{◌≡◌, ℕ, Bool, List, Some, subst}
use Rattle.std.specs.Prelude.{slice_get, IsTrue, ◌↔◌}
use Rattle.hir_ids.specs.Words.{Mention, Said, RawBody, position, AllMentioned, body_said}
use Rattle.hir_ids.proofs.Mentioned.{all_mentioned, all_said}

-- it tells whether this holds of each entry
abbrev pub TellsAll : Bool → List Said → (ℕ → Mention → Type 0) → Type 0
TellsAll told ss P = IsTrue told ↔ ((k : ℕ) (s : Said) → slice_get ss k ≡ Some s → P s.node s.mention)

pub mentions_tell : (P : ℕ → Mention → Type 0) (b : RawBody) (ss : List Said) (told : Bool) → ss ≡ body_said b → TellsAll told ss P → IsTrue told ↔ AllMentioned (λ n m. P (position b n) m) b
mentions_tell P b ss told is says =
    let here : TellsAll told (body_said b) P = subst (λ xs. TellsAll told xs P) is says in
    (λ t. all_mentioned P b (here.0 t), λ h. here.1 (all_said P b h))
