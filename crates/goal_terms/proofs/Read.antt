-- Terms without aliases, where holes are filled.
use Rattle.std.specs.Prelude.{◌≡◌, []}
use Rattle.std.proofs.Common.{refl, sym, ap, ap₂, ◌∙◌, subst}
use Rattle.goal_terms.specs.Words.{Head, Term, hole, leaf, pair, apply, IsInt, Log, Triangular, Unified, solution, solution_solves, solution_respects, resolved_apply, Fill, plain, alias, role, IsReadLeaf, IsRead, IsFilling}
use Rattle.hir_types.specs.declared.head.Head.TheVariants as head
use Rattle.hir_types.specs.declared.head.Hole.TheVariants as hole_of
use Rattle.goal_answers.specs.Reading.{Role}

pub read_before : (s : Fill) (t : Term) → IsRead (apply s t) → IsRead t
read_before s (hole k) r = tt
read_before s (leaf h) r = r
read_before s (pair a b) r = (read_before s a r.0, read_before s b r.1)

-- ---- with the end of a list in the place of what makes aliases

abbrev clean_leaf : Role → Head → Term
clean_leaf plain h = leaf h
clean_leaf (alias k) h = leaf head.End

abbrev cleaned : Term → Term
cleaned (hole k) = hole k
cleaned (leaf h) = clean_leaf (role (leaf h)) h
cleaned (pair a b) = pair (cleaned a) (cleaned b)

leaf_read : (h : Head) (r : Role) → role (leaf h) ≡ r → IsRead (clean_leaf r h)
leaf_read h plain e = subst IsReadLeaf (sym e) tt
leaf_read h (alias k) e = tt

cleaned_read : (t : Term) → IsRead (cleaned t)
cleaned_read (hole k) = tt
cleaned_read (leaf h) = leaf_read h (role (leaf h)) refl
cleaned_read (pair a b) = (cleaned_read a, cleaned_read b)

leaf_stays : (h : Head) (r : Role) → IsReadLeaf r → leaf h ≡ clean_leaf r h
leaf_stays h plain e = refl
leaf_stays h (alias k) e = absurd e

cleaned_apply : (s : Fill) (t : Term) → IsRead t → apply (λ k. cleaned (s k)) t ≡ cleaned (apply s t)
cleaned_apply s (hole k) r = refl
cleaned_apply s (leaf h) r = leaf_stays h (role (leaf h)) r
cleaned_apply s (pair a b) r = ap₂ pair (cleaned_apply s a r.0) (cleaned_apply s b r.1)

cleaned_int : (t : Term) → IsInt t → IsInt (cleaned t)
cleaned_int (hole (hole_of.Int n)) e = tt
cleaned_int (pair (leaf (head.Int i)) t) e = tt
cleaned_int (pair (leaf (head.Uint i)) t) e = tt
cleaned_int _ e = absurd e

-- the solution of bindings that make two read terms equal is read
pub solution_filling : (l : Log) (u w : Term) → Triangular l → Unified [] l u w → IsRead u → IsRead w → IsFilling (solution l)
solution_filling l u w h g i j =
    let s = solution l in
    let z : Fill = λ k. cleaned (s k) in
    let equal : apply z u ≡ apply z w = cleaned_apply s u i ∙ ap cleaned (g.unifies s (solution_solves l h)) ∙ sym (cleaned_apply s w j) in
    let solves = g.general z tt equal in
    record {
      read = λ k. read_before z (s k) (subst IsRead (sym (resolved_apply z l (hole k) solves)) (cleaned_read (s k)));
      respects = solution_respects l h;
    }
