-- Whose holes are in a type, as the table grows, and in a type over parts.
use Rattle.std.specs.Prelude.{List, [], ◌∷◌, ◌≡◌, slice_get, Some}
use Rattle.std.proofs.Common.{sym, subst, inl, inr}
use Rattle.std.proofs.lemmas.Bool.{or_cases}
use Rattle.infer_ctx.specs.Words.{Ty, HoleKind, hole_number, chain, occurs, term, Term, node, parts_of_types, Head, State, HolesAreOf, Grew, hole_kind, AreOf, are_of_leaf}
use Rattle.hir_types.specs.declared.head.Head.TheVariants as head
use Rattle.infer_ctx.proofs.Words.{get_left}

-- each hole of each of the types is one that the table made
abbrev pub AllHolesAreOf : State → List Ty → Type 0
AllHolesAreOf s [] = Unit {0}
AllHolesAreOf s (t ∷ ts) = HolesAreOf s t × AllHolesAreOf s ts

-- they are still its own when it has grown
pub holes_are_of_grown : (s t : State) (x : Ty) → Grew s t → HolesAreOf s x → HolesAreOf t x
holes_are_of_grown s t x g h k e =
    let P : List HoleKind → Type 0 = λ kinds. slice_get kinds (hole_number k) ≡ Some (hole_kind k) in
    subst P (sym g.kinds.1) (get_left s.substitution.kinds g.kinds.0 (hole_number k) (hole_kind k) (h k e))

parts_are_of : (s : State) (ts : List Ty) → AllHolesAreOf s ts → AreOf s.substitution.kinds (chain (parts_of_types ts))
parts_are_of s [] h = are_of_leaf s.substitution.kinds head.End
parts_are_of s (t ∷ ts) h = λ k e. elim (or_cases (occurs k (term t)) (occurs k (chain (parts_of_types ts))) e) [
  | inl q ↦ h.0 k q
  | inr q ↦ parts_are_of s ts h.1 k q
]

-- of a head over these types
pub node_holes_are_of : (s : State) (t : Ty) (h : Head) (ts : List Ty) → term t ≡ node h (parts_of_types ts) → AllHolesAreOf s ts → HolesAreOf s t
node_holes_are_of s t h ts is made =
    let P : Term → Type 0 = AreOf s.substitution.kinds in
    subst P (sym is) (parts_are_of s ts made)
