-- What becomes of two terms, by what was opened, made equal, followed and judged.
use Rattle.std.specs.Prelude.{◌≡◌, ℕ, true, false, List, [], ◌++◌, length}
use Rattle.std.proofs.Common.{inl, inr, sym, ap, ◌∙◌, subst}
use Rattle.infer_unify.specs.Words.{Ty, Term, term, Log, Triangular, UnifiedIf, IsRead, System, Verdicts, answers, IsHead, HasHeads}
use Rattle.infer_unify.proofs.Words.{each_append}
use Rattle.infer_unify.specs.Own.{Unification, Alias, opened, second_opened, IsOpened, above_both, AreOpened, HaveHeads, IsFound, IsAll, AreJudged, Becomes, AreFollowed, AreRounds}
use Rattle.infer_unify.specs.declared.unification.Unification.TheVariants as unification
use Rattle.infer_unify.proofs.Lists.{HasLists, type_lists}
use Rattle.infer_unify.proofs.Openings.{opened_heads, aliases_heads, opened_read}
use Rattle.infer_unify.proofs.Steps.{common_in}
use Rattle.infer_unify.proofs.Settling.{all_found}

-- ---- two terms that were opened

pub both_opened : (n i m : ℕ) (os qs ps : List Alias) (a b u v : Term) → n ≡ above_both a b → os ≡ [] → IsOpened n i os qs a u → IsOpened i m qs ps b v → AreOpened a b ps u v
both_opened n i m os qs ps a b u v is none x y =
    let P : ℕ → Type 0 = λ z. IsOpened z m qs ps b v in
    let w : IsOpened (opened n a).next m qs ps b v = subst P x.next y in
    let all : ps ≡ (opened n a).aliases ++ (second_opened n a b).aliases = w.aliases ∙ ap (λ z. z ++ (second_opened n a b).aliases) (x.aliases ∙ ap (λ z. z ++ (opened n a).aliases) none) in
    let X : ℕ → Type 0 = λ z. u ≡ (opened z a).term in
    let Y : ℕ → Type 0 = λ z. v ≡ (second_opened z a b).term in
    let Z : ℕ → Type 0 = λ z. ps ≡ (opened z a).aliases ++ (second_opened z a b).aliases in
    record { left = subst X is x.term; right = subst Y is w.term; aliases = subst Z is all }

both_heads : (a b : Term) (ps : List Alias) (u v : Term) → AreOpened a b ps u v → HasHeads a → HasLists a → HasHeads b → HasLists b → HasHeads u × HasHeads v × HaveHeads ps
both_heads a b ps u v h heads_a lists_a heads_b lists_b =
    let n = above_both a b in (
      subst HasHeads (sym h.left) (opened_heads n a heads_a lists_a),
      subst HasHeads (sym h.right) (opened_heads (opened n a).next b heads_b lists_b),
      subst HaveHeads (sym h.aliases)
          (each_append (λ p. IsHead p.args × HasHeads p.args) (opened n a).aliases (second_opened n a b).aliases (aliases_heads n a heads_a lists_a) (aliases_heads (opened n a).next b heads_b lists_b)),
    )

-- the terms of two types
pub types_heads : (a b : Ty) (x y : Term) (ps : List Alias) (u v : Term) → x ≡ term a → y ≡ term b → HasHeads x → HasHeads y → AreOpened x y ps u v → HasHeads u × HasHeads v × HaveHeads ps
types_heads a b x y ps u v e f heads_x heads_y h = both_heads x y ps u v h heads_x (subst HasLists (sym e) (type_lists a)) heads_y (subst HasLists (sym f) (type_lists b))

-- no associated type is left to be read in what was opened
pub types_read : (a b : Ty) (x y : Term) (ps : List Alias) (u v : Term) → x ≡ term a → y ≡ term b → AreOpened x y ps u v → IsRead u × IsRead v
types_read a b x y ps u v e f h =
    let n = above_both x y in (
      subst IsRead (sym h.left) (opened_read n x (subst HasLists (sym e) (type_lists a))),
      subst IsRead (sym h.right) (opened_read (opened n x).next y (subst HasLists (sym f) (type_lists b))),
    )

-- ---- what becomes of them

pub becomes_none : (v : Verdicts) (ps : List Alias) (u w : Term) (l : Log) → UnifiedIf false [] l u w → Becomes v ps u w unification.No
becomes_none v ps u w l none = inl (λ h. none h.0 h.1 tt h.2)

pub becomes_no : (v : Verdicts) (ps : List Alias) (u w : Term) (l l' : Log) → UnifiedIf true [] l u w → AreFollowed v.Alias ps l l' false → Becomes v ps u w unification.No
becomes_no v ps u w l l' unified h = inr (h.0, record { first = l; unified = unified; states = h.1; steps = h.2 }, inl h.3)

becomes_found : (v : Verdicts) (ps : List Alias) (u w : Term) (l' : Log) (found : Unification) → IsFound v.Alias ps u w l' → IsAll v.Alias ps l' → AreJudged v ps l' found → Becomes v ps u w found
becomes_found v ps u w l' unification.No is all h = inr (l', is, inr (all, h))
becomes_found v ps u w l' unification.Undecided is all h = (l', is, all, common_in v.Alias ps u w l' all.no_cycles is, h)
becomes_found v ps u w l' unification.Yes is all h = (l', is, all, common_in v.Alias ps u w l' all.no_cycles is, h)

pub becomes_judged : (f : System) (n : ℕ) (ps : List Alias) (u w : Term) (l l' : Log) (found : Unification) → IsRead u × IsRead w → UnifiedIf true [] l u w
    → AreFollowed (answers f n).Alias ps l l' true → AreRounds (answers f n).Alias ps (length ps) l l' → Triangular l' → AreJudged (answers f n) ps l' found → Becomes (answers f n) ps u w found
becomes_judged f n ps u w l l' found read unified h rounds t g =
    becomes_found (answers f n) ps u w l' found (record { first = l; unified = unified; states = h.0; steps = h.1 }) (all_found f n ps u w l l' read.0 read.1 unified t rounds) g
