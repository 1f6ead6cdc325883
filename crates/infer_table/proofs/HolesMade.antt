-- Whether the holes of a term were made, part by part.
use Rattle.std.proofs.Common.{◌≡◌, ℕ, suc, ◌+◌, Bool, true, false, List, [], ◌∷◌, ◌++◌, take, drop, Some, refl, sym, subst, IsTrue, ◌↔◌}
use Rattle.std.specs.Prelude.{slice_get}
use Rattle.hir_types.specs.declared.head.Head.TheVariants as head
use Rattle.infer_table.specs.Words.{Hole, HoleKind, OutlinePart, Ty, Term, hole, leaf, chain, term, part_term, part_terms}
use Rattle.infer_table.specs.Own.{Binding, log_of, IsOf, AreOf, AllOf, found_for, found_for_in_log, binds_of_found, are_of_hole, are_of_leaf, are_of_pair, are_of_parts, hole_eq_same, MadeIf}
use Rattle.infer_table.proofs.BindingLaws.{binds_of_all}
use Rattle.infer_table.proofs.Unifying.{parts_until, parts_around}

pub hole_made : (z : Bool) (kinds : List HoleKind) (k : Hole) → (IsTrue z ↔ IsOf kinds k) → MadeIf z kinds (hole k)
hole_made true kinds k h = are_of_hole kinds k (h.0 refl)
hole_made false kinds k h = λ all. cc-false (h.1 (all k (hole_eq_same k)))
  where
    cc-false : IsTrue false → ⊥
    cc-false e = cc

chain_last : (kinds : List HoleKind) (xs : List Term) (x : Term) → AreOf kinds (chain xs) → AreOf kinds x → AreOf kinds (chain (xs ++ x ∷ []))
chain_last kinds [] x h k = are_of_pair kinds x (leaf head.End) k (are_of_leaf kinds head.End)
chain_last kinds (y ∷ xs) x h k =
    let p = are_of_parts kinds y (chain xs) h in are_of_pair kinds y (chain (xs ++ x ∷ [])) p.0 (chain_last kinds xs x p.1 k)

chain_part : (kinds : List HoleKind) (xs : List Term) (x : Term) (ys : List Term) → AreOf kinds (chain (xs ++ x ∷ ys)) → AreOf kinds x
chain_part kinds [] x ys h = (are_of_parts kinds x (chain ys) h).0
chain_part kinds (y ∷ xs) x ys h = chain_part kinds xs x ys (are_of_parts kinds y (chain (xs ++ x ∷ ys)) h).1

pub made_more : (kinds : List HoleKind) (xs : List OutlinePart) (i : ℕ) (x : OutlinePart) → slice_get xs i ≡ Some x → AreOf kinds (chain (part_terms (take i xs))) → AreOf kinds (part_term x) → AreOf kinds (chain (part_terms (take (i + 1) xs)))
made_more kinds xs i x e h k =
    subst (λ (z : List Term). AreOf kinds (chain z)) (sym (parts_until xs i x e)) (chain_last kinds (part_terms (take i xs)) (part_term x) h k)

pub not_made : (kinds : List HoleKind) (xs : List OutlinePart) (i : ℕ) (x : OutlinePart) → slice_get xs i ≡ Some x → (AreOf kinds (part_term x) → ⊥) → AreOf kinds (chain (part_terms xs)) → ⊥
not_made kinds xs i x e h all =
    h (chain_part kinds (part_terms (take i xs)) (part_term x) (part_terms (drop (suc i) xs)) (subst (λ (z : List Term). AreOf kinds (chain z)) (parts_around xs i x e) all))

-- what a type is bound to holds such alone
pub made_found : (kinds : List HoleKind) (bs : List Binding) (t u : Ty) → AllOf kinds bs → found_for bs t ≡ Some u → AreOf kinds (term u)
made_found kinds bs t u h e =
    let p = found_for_in_log bs t u e in
    (binds_of_found kinds (log_of bs) p.0 (term u) (binds_of_all kinds bs h) p.2).1
