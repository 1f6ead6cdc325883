-- What words ask for.
use Rattle.std.proofs.Common.{◌≡◌, ℕ, ◌<◌, ◌≤◌, List, [], ◌∷◌, length, map, get_or, codes, arith, refl, sym, ap, ◌∙◌, Bool}
use Rattle.std.specs.Prelude.{◌↔◌, IsTrue}
use Rattle.std.specs.Str.{bytes_eq}
use Rattle.std.proofs.lemmas.Slice.Eq.{bytes_eq-Decides}
use Rattle.hir_types.specs.declared.ids.DefWithBodyId.{DefWithBodyId}
use Rattle.infer_run.specs.Command.{IsCommand}
use Rattle.infer_run.specs.Request.{IsAsked}
use Rattle.infer_run.specs.declared.words.Request.{Request}
use Rattle.infer_run.specs.declared.words.Request.TheVariants as request

-- a list of one
pub all_one : {A B : Type 0} (f : A → B) (xs : List A) (x : A) → 1 ≤ length xs → length xs < 2 → x ≡ get_or xs 0 x → map f xs ≡ f x ∷ []
all_one f [] x low high p = absurd (omega arith)
all_one f (a ∷ []) x low high p = rw p refl
all_one f (a ∷ b ∷ more) x low high p = absurd (omega arith)

pub none_asked : (words : List (List ℕ)) → ((d : DefWithBodyId) → IsCommand words d → ⊥) → (words ≡ codes "session" ∷ [] → ⊥) → (r : Request) → IsAsked words r → ⊥
none_asked words no_table no_session (request.Table d) asked = no_table d asked
none_asked words no_table no_session request.Session asked = no_session asked

heads_agree : (x y : List ℕ) → x ∷ [] ≡ y ∷ [] → x ≡ y
heads_agree x y h = cc

-- one word, which is this or another
pub is_one : (words : List (List ℕ)) (w wanted : List ℕ) (b : Bool) → words ≡ w ∷ [] → b ≡ bytes_eq w wanted → IsTrue b ↔ (words ≡ wanted ∷ [])
is_one words w wanted b one is =
    (λ t. one ∙ ap (λ (x : List ℕ). x ∷ []) ((bytes_eq-Decides w wanted).0 (sym is ∙ t)), λ h. is ∙ (bytes_eq-Decides w wanted).1 (heads_agree w wanted (sym one ∙ h)))
