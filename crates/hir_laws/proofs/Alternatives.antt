-- Alternatives are what an or-pattern parts.
use Rattle.std.proofs.Common.{◌≡◌, ◌⊎◌, ◌<◌, ◌≤◌, ◌+◌, ℕ, zero, suc, List, [], ◌∷◌, map, length, Option, Some, None, refl, sym, ◌∙◌, ap, subst, arith, inl, inr}
use Rattle.std.specs.Prelude.{slice_get}
use Rattle.std.proofs.lemmas.Bool.{cases_order}
use Rattle.std.proofs.lemmas.Option.{slice_get_within}
use Rattle.hir_types.specs.declared.ids.ExprOrPatId.TheVariants as node
use Rattle.hir_laws.specs.Words.{BindingId, PatId, ExprOrPatId, RawBody, Schedule, AreAlternatives, Binds, IsNode, IsSchedule, IsWithin, Node, Part, inner, part_at, parts, start, end}
use Rattle.hir_laws.specs.Words.hir_raw.Order.{later_parts, of_pat, parts_of_pat}
use Rattle.hir_laws.specs.Words.hir_raw.declared.raw.RawPat.TheVariants as pat
use Rattle.hir_laws.specs.Words.hir_raw.declared.later.LaterPat.TheVariants as later_pat
use Rattle.hir_laws.specs.Parted.{number, AreParted, AllParted}
use Rattle.hir_laws.proofs.Words.{part_inside, parts_apart, under}
use Rattle.hir_laws.proofs.Within.{within_numbers, numbers_within}

-- ---- the parts of an or-pattern

part_from : (ps : List PatId) (from i : ℕ) (p : PatId) → slice_get ps i ≡ Some p → (x : Part) × (slice_get (later_parts from (map of_pat ps)) i ≡ Some x) × (x.node ≡ node.PatId p)
part_from [] from i p e = absurd (cc)
part_from (q ∷ ps) from zero p e = let same : q ≡ p = cc in (_, refl, ap node.PatId same)
part_from (q ∷ ps) from (suc i) p e = part_from ps (suc from) i p e

pattern_from : (ps : List PatId) (from i : ℕ) (x : Part) → slice_get (later_parts from (map of_pat ps)) i ≡ Some x → (p : PatId) × (slice_get ps i ≡ Some p) × (x.node ≡ node.PatId p)
pattern_from [] from i x e = absurd (cc)
pattern_from (q ∷ ps) from zero x e = (q, refl, cc)
pattern_from (q ∷ ps) from (suc i) x e = pattern_from ps (suc from) i x e

module _ (b : RawBody) (whole : PatId) (parts : List PatId) (is_or : slice_get b.pats whole.0 ≡ Some (pat.Later (later_pat.Or parts))) where
  or_part : (i : ℕ) (p : PatId) → slice_get parts i ≡ Some p → (x : Part) × (part_at b (inner (node.PatId whole)) i ≡ Some x) × (x.node ≡ node.PatId p)
  or_part i p e = let part = part_from parts 0 i p e in (part.0, ap (λ o. slice_get (parts_of_pat o) i) is_or ∙ part.1, part.2)

  or_pattern : (i : ℕ) (x : Part) → part_at b (inner (node.PatId whole)) i ≡ Some x → (p : PatId) × (slice_get parts i ≡ Some p) × (x.node ≡ node.PatId p)
  or_pattern i x e = pattern_from parts 0 i x (sym (ap (λ o. slice_get (parts_of_pat o) i) is_or) ∙ e)

-- ---- alternatives

pub either_order : (b : RawBody) (p q : PatId) → AreAlternatives b p q → AreAlternatives b q p
either_order b p q h = record {
  whole = h.whole;
  parts = h.parts;
  is_or = h.is_or;
  i = h.j;
  j = h.i;
  apart = λ e. h.apart (sym e);
  first = h.second;
  second = h.first;
  is_first = h.is_second;
  is_second = h.is_first;
  in_first = h.in_second;
  in_second = h.in_first;
}

module _ (b : RawBody) (s : Schedule) (law : IsSchedule b s) where
  -- the parts of a node i and j hold the number k
  same_place : (n : Node) (i j k : ℕ) (x y : Part) → IsNode b n → part_at b n i ≡ Some x → part_at b n j ≡ Some y
      → start b s (inner x.node) ≤ k → k < end b s (inner x.node) → start b s (inner y.node) ≤ k → k < end b s (inner y.node) → i ≡ j
  same_place n i j k x y is at_i at_j = parts_apart b s law (start b s n + 1) (parts b n) i j k x y (law.fits n is) at_i at_j

  pub parted_from : (p q : PatId) → number b s p < number b s q → AreAlternatives b p q → AreParted b s (number b s p) (number b s q)
  parted_from p q lt h =
      let whole : Node = inner (node.PatId h.whole) in
      let is : IsNode b whole = slice_get_within b.pats h.whole.0 _ h.is_or in
      let one = or_part b h.whole h.parts h.is_or h.i h.first h.is_first in
      let two = or_part b h.whole h.parts h.is_or h.j h.second h.is_second in
      let first = part_inside b s law whole h.i one.0 is one.1 in
      let second = part_inside b s law whole h.j two.0 is two.1 in
      let same_one : inner one.0.node ≡ inner (node.PatId h.first) = ap inner one.2 in
      let same_two : inner two.0.node ≡ inner (node.PatId h.second) = ap inner two.2 in
      let p_in = within_numbers b s law (inner one.0.node) (inner (node.PatId p)) first.0 (rw same_one h.in_first) in
      let q_in = within_numbers b s law (inner two.0.node) (inner (node.PatId q)) second.0 (rw same_two h.in_second) in
      let p_some = law.order (inner (node.PatId p)) p_in.0 in
      let q_some = law.order (inner (node.PatId q)) q_in.0 in
      record {
        whole = h.whole;
        parts = h.parts;
        is_or = h.is_or;
        from = (let from = first.1 in let then = p_in.1 in omega (arith, from, then));
        to = (let to = second.2 in let then = q_in.2 in omega (arith, to, then, q_some));
        apart = λ k x there before after.
            (let i_is_k = same_place whole h.i k (number b s p) one.0 x is one.1 there (let at = p_in.1 in omega (arith, at)) (let at = p_in.2 in omega (arith, at, p_some)) before (omega (arith, lt, after)) in
            let j_is_k = same_place whole h.j k (number b s q) two.0 x is two.1 there (let at = q_in.1 in omega (arith, at)) (let at = q_in.2 in omega (arith, at, q_some)) (omega (arith, lt, before)) after in
            h.apart (i_is_k ∙ sym j_is_k));
      }

  pub alternatives_from : (p q : PatId) → IsNode b (inner (node.PatId p)) → IsNode b (inner (node.PatId q)) → number b s p < number b s q → AreParted b s (number b s p) (number b s q) → AreAlternatives b p q
  alternatives_from p q p_is q_is lt h =
      let whole : Node = inner (node.PatId h.whole) in
      let is : IsNode b whole = slice_get_within b.pats h.whole.0 _ h.is_or in
      let one = under b s law whole (number b s p) is h.from (let to = h.to in omega (arith, lt, to)) in
      let two = under b s law whole (number b s q) is (let from = h.from in omega (arith, lt, from)) h.to in
      let first = or_pattern b h.whole h.parts h.is_or one.place one.part one.there in
      let second = or_pattern b h.whole h.parts h.is_or two.place two.part two.there in
      let one_is = (part_inside b s law whole one.place one.part is one.there).0 in
      let two_is = (part_inside b s law whole two.place two.part is two.there).0 in
      record {
        whole = h.whole;
        parts = h.parts;
        is_or = h.is_or;
        i = one.place;
        j = two.place;
        apart = λ e.
            (let there : part_at b whole two.place ≡ Some one.part = rw e at one.there in
            let same : one.part ≡ two.part = cc in
            let to : end b s (inner one.part.node) ≡ end b s (inner two.part.node) = ap (λ (x : Part). end b s (inner x.node)) same in
            h.apart one.place one.part one.there one.from (let below = two.below in omega (arith, to, below)));
        first = first.0;
        second = second.0;
        is_first = first.1;
        is_second = second.1;
        in_first = subst (λ x. IsWithin b (inner x) (inner (node.PatId p))) first.2 (numbers_within b s law (inner one.part.node) (inner (node.PatId p)) one_is p_is one.from one.below);
        in_second = subst (λ x. IsWithin b (inner x) (inner (node.PatId q))) second.2 (numbers_within b s law (inner two.part.node) (inner (node.PatId q)) two_is q_is two.from two.below);
      }
