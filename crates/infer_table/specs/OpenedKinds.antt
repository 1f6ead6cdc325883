-- The kinds of the holes that stand for aliases and unknowns.
use Rattle.std.specs.Prelude.{◌≡◌, ℕ, ◌+◌, List, [], ◌∷◌, ◌++◌, Some, slice_get, length}
use Rattle.std.proofs.Common.{refl, ap, ◌∙◌, subst, arith}
use Rattle.std.proofs.lemmas.List.{length-append}
use Rattle.std.proofs.lemmas.Option.{slice_get_within}
use Rattle.hir_types.specs.declared.head.Hole.TheVariants as hole_of
use Rattle.infer_table.specs.Words.{HoleKind, Term, hole, leaf, pair, hole_number}
use Rattle.hir_types.specs.declared.head.HoleKind.TheVariants as kind
use Rattle.infer_table.specs.Solutions.{Log, IsOf, AreOf, hole_kind}
use Rattle.infer_table.specs.Opened.{Place, plain, alias, unknown_type, unknown_const, place, opened, origins}
use Rattle.infer_table.specs.LogLemmas.{BindsOf, is_of_more, are_of_more, are_of_hole, are_of_pair, are_of_parts}
use Rattle.infer_table.specs.OpenedLaws.{opened_at, origins_at, IsBelow, LogIsBelow}

-- ---- holes that were made

pub below_of : (kinds : List HoleKind) (t : Term) → AreOf kinds t → IsBelow (length kinds) t
below_of kinds t h k o = slice_get_within kinds (hole_number k) (hole_kind k) (h k o)

pub log_below_of : (kinds : List HoleKind) (l : Log) → BindsOf kinds l → LogIsBelow (length kinds) l
log_below_of kinds [] h = tt
log_below_of kinds (p ∷ l) h =
    (slice_get_within kinds (hole_number p.0) (hole_kind p.0) h.0, below_of kinds p.1 h.1, log_below_of kinds l h.2)

-- ---- the new holes

-- their kinds, in the order of their numbers
abbrev pub new_kinds : Term → List HoleKind
new_kinds (hole k) = []
new_kinds (leaf h) = []
new_kinds (pair a b) = elim (place (pair a b)) [
  | plain ↦ new_kinds a ++ new_kinds b
  | alias ↦ kind.Ty ∷ []
  | unknown_type ↦ kind.Ty ∷ []
  | unknown_const ↦ kind.Const ∷ []
]

abbrev new_kinds_at : Place → Term → Term → List HoleKind
new_kinds_at p a b = elim p [
  | plain ↦ new_kinds a ++ new_kinds b
  | alias ↦ kind.Ty ∷ []
  | unknown_type ↦ kind.Ty ∷ []
  | unknown_const ↦ kind.Const ∷ []
]

-- each hole is a type hole that was made, and so are those of its alias
abbrev pub OriginsOf : List HoleKind → List (ℕ × Term) → Type 0
OriginsOf kinds [] = Unit {0}
OriginsOf kinds (p ∷ ps) = IsOf kinds (hole_of.Ty p.0) × AreOf kinds p.1 × OriginsOf kinds ps

pub origins_of_more : (kinds more : List HoleKind) (ps : List (ℕ × Term)) → OriginsOf kinds ps → OriginsOf (kinds ++ more) ps
origins_of_more kinds more [] h = tt
origins_of_more kinds more (p ∷ ps) h =
    (is_of_more kinds more (hole_of.Ty p.0) h.0, are_of_more kinds more p.1 h.1, origins_of_more kinds more ps h.2)

pub origins_of_append : (kinds : List HoleKind) (ps qs : List (ℕ × Term)) → OriginsOf kinds ps → OriginsOf kinds qs
    → OriginsOf kinds (ps ++ qs)
origins_of_append kinds [] qs h g = g
origins_of_append kinds (p ∷ ps) qs h g = (h.0, h.1, origins_of_append kinds ps qs h.2 g)

-- the opened term `u`, where `m` is the number after its holes and `ps` its origins
pub record OpenedOf (kinds : List HoleKind) (u : Term) (m : ℕ) (ps : List (ℕ × Term)) : Type 0 where
  pub number : m ≡ length kinds
  pub term : AreOf kinds u
  pub origins : OriginsOf kinds ps

get_last : (kinds : List HoleKind) (c : HoleKind) → slice_get (kinds ++ c ∷ []) (length kinds) ≡ Some c
get_last [] c = refl
get_last (d ∷ kinds) c = get_last kinds c

last_of : (kinds : List HoleKind) (n : ℕ) (c : HoleKind) → n ≡ length kinds → slice_get (kinds ++ c ∷ []) n ≡ Some c
last_of kinds n c e = rw e (get_last kinds c)

last_number : (kinds : List HoleKind) (n : ℕ) (c : HoleKind) → n ≡ length kinds → n + 1 ≡ length (kinds ++ c ∷ [])
last_number kinds n c e = omega (arith, e, length-append kinds (c ∷ []))

append_assoc : (a b c : List HoleKind) → (a ++ b) ++ c ≡ a ++ (b ++ c)
append_assoc [] b c = refl
append_assoc (x ∷ a) b c = ap (λ (z : List HoleKind). x ∷ z) (append_assoc a b c)

append_none : (a : List HoleKind) → a ≡ a ++ []
append_none [] = refl
append_none (x ∷ a) = ap (λ (z : List HoleKind). x ∷ z) (append_none a)

abbrev OpensOf : Term → Type 0
OpensOf t = (kinds : List HoleKind) (n : ℕ) → n ≡ length kinds → AreOf kinds t
    → OpenedOf (kinds ++ new_kinds t) (opened n t).0 (opened n t).1 (origins n t)

opened_of_at : (p : Place) (a b : Term) → OpensOf a → OpensOf b → (kinds : List HoleKind) (n : ℕ) → n ≡ length kinds
    → AreOf kinds (pair a b) → OpenedOf (kinds ++ new_kinds_at p a b) (opened_at p n a b).0 (opened_at p n a b).1 (origins_at p n a b)
opened_of_at plain a b f g kinds n e h =
    let parts = are_of_parts kinds a b h in
    let x = f kinds n e parts.0 in
    let y = g (kinds ++ new_kinds a) (opened n a).1 x.number (are_of_more kinds (new_kinds a) b parts.1) in
    let P : List HoleKind → Type 0 = λ z. OpenedOf z (opened_at plain n a b).0 (opened_at plain n a b).1 (origins_at plain n a b) in
    subst P (append_assoc kinds (new_kinds a) (new_kinds b)) (record {
      number = y.number;
      term = are_of_pair ((kinds ++ new_kinds a) ++ new_kinds b) (opened n a).0 (opened (opened n a).1 b).0
          (are_of_more (kinds ++ new_kinds a) (new_kinds b) (opened n a).0 x.term) y.term;
      origins = origins_of_append ((kinds ++ new_kinds a) ++ new_kinds b) (origins n a) (origins (opened n a).1 b)
          (origins_of_more (kinds ++ new_kinds a) (new_kinds b) (origins n a) x.origins) y.origins;
    })
opened_of_at alias a b f g kinds n e h = record {
  number = last_number kinds n kind.Ty e;
  term = are_of_hole (kinds ++ kind.Ty ∷ []) (hole_of.Ty n) (last_of kinds n kind.Ty e);
  origins = (last_of kinds n kind.Ty e, are_of_more kinds (kind.Ty ∷ []) (pair a b) h, tt);
}
opened_of_at unknown_type a b f g kinds n e h = record {
  number = last_number kinds n kind.Ty e;
  term = are_of_hole (kinds ++ kind.Ty ∷ []) (hole_of.Ty n) (last_of kinds n kind.Ty e);
  origins = tt;
}
opened_of_at unknown_const a b f g kinds n e h = record {
  number = last_number kinds n kind.Const e;
  term = are_of_hole (kinds ++ kind.Const ∷ []) (hole_of.Const n) (last_of kinds n kind.Const e);
  origins = tt;
}

-- with the new holes made, each hole of the opened term is one that was made
pub opened_of : (t : Term) (kinds : List HoleKind) (n : ℕ) → n ≡ length kinds → AreOf kinds t
    → OpenedOf (kinds ++ new_kinds t) (opened n t).0 (opened n t).1 (origins n t)
opened_of (hole k) kinds n e h = record { number = e ∙ ap length (append_none kinds); term = are_of_more kinds [] (hole k) h; origins = tt }
opened_of (leaf a) kinds n e h = record { number = e ∙ ap length (append_none kinds); term = are_of_more kinds [] (leaf a) h; origins = tt }
opened_of (pair a b) kinds n e h = opened_of_at (place (pair a b)) a b (opened_of a) (opened_of b) kinds n e h
