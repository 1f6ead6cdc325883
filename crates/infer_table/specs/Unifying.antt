-- What unifying two types through their opened terms comes to.
use Rattle.std.proofs.Common.{◌≡◌, ℕ, List, ◌++◌, refl, sym, ap, subst, ◌∙◌}
use Rattle.infer_table.specs.Words.{Hole, Term, apply}
use Rattle.infer_table.specs.Solutions.{Log, Solves, Respects, resolved, Triangular, Unified, NoneUnifies}
use Rattle.infer_table.specs.LogLemmas.{solves_left, solution, solution_apply, solution_solves, solution_respects, resolved_apply, resolved_append, resolved_twice}
use Rattle.infer_table.specs.Opened.{IsPlain, IsReadAs, Agree, opened, origins}
use Rattle.infer_table.specs.OpenedLaws.{opened_plain, reads_apply, IsBelow, LogIsBelow, none_reads}
use Rattle.infer_table.specs.OpenedAgree.{AreSettled, settled_left, settled_right, opened_agree}

abbrev pub GrownFrom : Log → Log → Type 0
GrownFrom before after = (l : Log) × (after ≡ before ++ l)

pub solves_grown : (s : Hole → Term) (before after : Log) → GrownFrom before after → Solves s after → Solves s before
solves_grown s before after g h = let P : Log → Type 0 = λ l. Solves s l in
    solves_left s before g.0 (subst P g.1 h)

resolved_front : (l m : Log) (t : Term) → Triangular l → resolved (l ++ m) (resolved l t) ≡ resolved (l ++ m) t
resolved_front l m t h = resolved_append l m (resolved l t) ∙ ap (resolved m) (resolved_twice l t h) ∙ sym (resolved_append l m t)

-- what was put in before changes nothing of what is put in after
pub resolved_grown : (before after : Log) (t : Term) → Triangular before → GrownFrom before after
    → resolved after (resolved before t) ≡ resolved after t
resolved_grown before after t h g = let P : Log → Type 0 = λ l. resolved l (resolved before t) ≡ resolved l t in
    subst P (sym g.1) (resolved_front before g.0 t h)

-- some reading makes the two equal under the bindings
abbrev pub CanBeSame : Log → Term → Term → Type 0
CanBeSame l a b = (s : Hole → Term) × (u : Term) × Respects s × Solves s l × IsReadAs s (resolved l a) u × IsReadAs s (resolved l b) u

-- the opened terms of the two, with holes from number n on
abbrev pub left_opened : ℕ → Log → Term → Term
left_opened n l a = (opened n (resolved l a)).0

abbrev pub next_number : ℕ → Log → Term → ℕ
next_number n l a = (opened n (resolved l a)).1

abbrev pub right_opened : ℕ → Log → Term → Term → Term
right_opened n l a b = (opened (next_number n l a) (resolved l b)).0

abbrev pub both_origins : ℕ → Log → Term → Term → List (ℕ × Term)
both_origins n l a b = origins n (resolved l a) ++ origins (next_number n l a) (resolved l b)

module _ (n : ℕ) (before unified after : Log) (a b : Term) where
  abbrev AreUnified : Type 0
  AreUnified = Unified before unified (left_opened n before a) (right_opened n before a b)

  pub can_be_same : GrownFrom unified after → Triangular after → AreUnified → CanBeSame before a b
  can_be_same g h u =
      let s = solution after in
      let m = solves_grown s unified after g (solution_solves after h) in (
        s,
        apply s (left_opened n before a),
        solution_respects after h,
        u.keeps s m,
        reads_apply s n (resolved before a) _ refl,
        reads_apply
            s (next_number n before a) (resolved before b) _ (sym (u.unifies s m)),
      )

  pub both_agree : GrownFrom unified after → GrownFrom before after → Triangular before → Triangular after → AreUnified
      → AreSettled after (both_origins n before a b) → Agree (resolved after a) (resolved after b)
  both_agree g f p h u settled =
      let s = solution after in
      let m = solves_grown s unified after g (solution_solves after h) in
      let e = sym (solution_apply after (left_opened n before a)) ∙ u.unifies s m ∙ solution_apply after (right_opened n before a b) in
      let r = opened_agree after n (next_number n before a) (resolved before a) (resolved before b) e
      (settled_left after (origins n (resolved before a)) (origins (next_number n before a) (resolved before b)) settled)
      (settled_right after (origins n (resolved before a)) (origins (next_number n before a) (resolved before b)) settled) in
      let P : Term → Type 0 = λ x. Agree x (resolved after (resolved before b)) in
      let Q : Term → Type 0 = λ x. Agree (resolved after a) x in
      subst Q (resolved_grown before after b p f) (subst P (resolved_grown before after a p f) r)

-- of plain types the opened terms are the types
plain_unified : (n : ℕ) (before unified : Log) (a b : Term) → IsPlain (resolved before a) → IsPlain (resolved before b)
    → Unified before unified (left_opened n before a) (right_opened n before a b)
    → Unified before unified (resolved before a) (resolved before b)
plain_unified n before unified a b p q u =
    let e = ap (λ (x : Term × ℕ). x.0) (opened_plain n (resolved before a) p) in
    let f = ap (λ (x : Term × ℕ). x.0) (opened_plain (next_number n before a) (resolved before b) q) in
    let P : Term → Type 0 = λ x. Unified before unified x (right_opened n before a b) in
    let Q : Term → Type 0 = λ x. Unified before unified (resolved before a) x in
    subst Q f (subst P e u)

pub plain_unifies : (n : ℕ) (before unified : Log) (a b : Term) → IsPlain (resolved before a) → IsPlain (resolved before b)
    → Unified before unified (left_opened n before a) (right_opened n before a b) → (s : Hole → Term) → Solves s unified
    → apply s a ≡ apply s b
plain_unifies n before unified a b p q u s h =
    let v = plain_unified n before unified a b p q u in
    let k = v.keeps s h in
    sym (resolved_apply s before a k) ∙ v.unifies s h ∙ resolved_apply s before b k

pub plain_general : (n : ℕ) (before unified : Log) (a b : Term) → IsPlain (resolved before a) → IsPlain (resolved before b)
    → Unified before unified (left_opened n before a) (right_opened n before a b) → (s : Hole → Term) → Solves s before
    → apply s a ≡ apply s b → Solves s unified
plain_general n before unified a b p q u s h e =
    (plain_unified n before unified a b p q u).general s h (resolved_apply s before a h ∙ e ∙ sym (resolved_apply s before b h))

pub plain_next : (n : ℕ) (before : Log) (a b : Term) → IsPlain (resolved before a) → IsPlain (resolved before b)
    → (opened (next_number n before a) (resolved before b)).1 ≡ n
plain_next n before a b p q =
    ap (λ (x : Term × ℕ). x.1) (opened_plain (next_number n before a) (resolved before b) q) ∙ ap (λ (x : Term × ℕ). x.1)
    (opened_plain n (resolved before a) p)

pub cannot_be_same : (n : ℕ) (before : Log) (a b : Term) → IsBelow n (resolved before a) → IsBelow n (resolved before b)
    → LogIsBelow n before → NoneUnifies before (left_opened n before a) (right_opened n before a b) → CanBeSame before a b → ⊥
cannot_be_same n before a b p q r none c = none_reads n before (resolved before a) (resolved before b) p q r none c.0 c.1 c.2 c.3 c.4 c.5
