-- Or-patterns by the numbers of the walk.
use Rattle.std.proofs.Common.{◌≡◌, ◌<◌, ◌≤◌, ◌+◌, ℕ, Bool, true, List, length, Option, Some, None, refl, sym, ◌∙◌, ap, subst, arith, inl, inr}
use Rattle.std.specs.Prelude.{slice_get, IsTrue, ◌↔◌}
use Rattle.std.proofs.lemmas.Bool.{cases_lt}
use Rattle.std.proofs.lemmas.Option.{slice_get_within}
use Rattle.hir_types.specs.declared.ids.ExprOrPatId.TheVariants as node
use Rattle.hir_laws.specs.Words.{BindingId, PatId, RawBody, Schedule, Binds, IsNode, IsSchedule, Node, Part, inner, part_at, position, start, end, IsAround, IsAroundFrom, IsInnermost}
use Rattle.hir_laws.specs.Words.hir_raw.declared.raw.RawPat.TheVariants as pat
use Rattle.hir_laws.specs.Words.hir_raw.declared.later.LaterPat.TheVariants as later_pat
use Rattle.hir_laws.specs.Own.{AreParted, IsBinder, is_or, number, pattern_at}
use Rattle.hir_laws.proofs.Nodes.{at_or, binder_inside, or_at, or_binds_none}
use Rattle.hir_laws.proofs.Words.{nested, part_inside, under}

module _ (b : RawBody) (s : Schedule) (law : IsSchedule b s) where
  -- an or-pattern that parts numbers is a node of the body
  whole_inside : (m n : ℕ) (h : AreParted b s m n) → IsNode b (inner (node.PatId h.whole))
  whole_inside m n h = slice_get_within b.pats h.whole.0 _ h.is_or

  -- what is parted from a number that comes before one that is parted from a third, is parted from the third
  pub parted_further : (l m n : ℕ) → l < m → m < n → AreParted b s l m → AreParted b s m n → AreParted b s l n
  parted_further l m n lm mn one two =
      elim (cases_lt n (end b s (inner (node.PatId one.whole)))) [
        | inl inside ↦ record {
          whole = one.whole;
          parts = one.parts;
          is_or = one.is_or;
          from = one.from;
          to = inside;
          apart = λ k p there before after. one.apart k p there before (omega (arith, mn, after));
        }
        | inr ended ↦ record {
          whole = two.whole;
          parts = two.parts;
          is_or = two.is_or;
          to = two.to;
          from = elim (cases_lt (number b s one.whole) (number b s two.whole)) [
            | inl lt ↦
                (let held = nested b s law (end b s (inner (node.PatId one.whole))) (inner (node.PatId one.whole)) (inner (node.PatId two.whole)) (whole_inside l m one) (whole_inside m n two) (omega arith) (omega (arith, lt)) (let to = one.to in let from = two.from in omega (arith, to, from)) in
                let to = two.to in absurd (omega (arith, held, to, ended)))
            | inr ge ↦ (let from = one.from in omega (arith, from, ge))
          ];
          apart = λ k p there before after. two.apart k p there (omega (arith, lm, before)) after;
        }
      ]

  -- the innermost node around two numbers parts them, if it is an or-pattern
  pub innermost_parts : (m k : ℕ) (p : PatId) (parts : List PatId) → IsAroundFrom b s k m (inner (node.PatId p)) → slice_get b.pats p.0 ≡ Some (pat.Later (later_pat.Or parts))
      → (number b s p ≡ m → ⊥) → m < k → ((o : Node) → IsAroundFrom b s k m o → start b s o ≤ number b s p) → AreParted b s m k
  innermost_parts m k p parts around is_or other lt last = record {
    whole = p;
    parts = parts;
    is_or = is_or;
    from = (let from = around.2 in elim (cases_lt (number b s p) m) [ inl l ↦ l | inr ge ↦ absurd (other (omega (arith, from, ge))) ]);
    to = around.1.1;
    apart = λ i x there before after.
        (let inside = part_inside b s law (inner (node.PatId p)) i x around.0 there in
        let no_later = last (inner x.node) (inside.0, (omega (arith, before, lt), after), before) in
        let later = inside.1 in
        omega (arith, no_later, later));
  }

  -- where an or-pattern parts two numbers, it is the innermost node around them
  pub parts_innermost : (m k : ℕ) (n : Node) → m < k → IsAroundFrom b s k m n → ((o : Node) → IsAroundFrom b s k m o → start b s o ≤ start b s n) → (h : AreParted b s m k) → n ≡ inner (node.PatId h.whole)
  parts_innermost m k n lt around last h =
      let whole : Node = inner (node.PatId h.whole) in
      let inside : IsNode b whole = whole_inside m k h in
      let from = h.from in
      let to = h.to in
      let no_later = last whole (inside, (omega (arith, from, lt), to), omega (arith, from)) in
      elim (cases_lt (start b s whole) (start b s n)) [
        | inl below ↦
            (let before = around.2 in
            let after = around.1.1 in
            let c = under b s law whole (start b s n) inside below (omega (arith, before, lt, to)) in
            let part = part_inside b s law whole c.place c.part inside c.there in
            let held = nested b s law (end b s (inner c.part.node)) (inner c.part.node) n part.0 around.0 (omega arith) c.from c.below in
            absurd (h.apart c.place c.part c.there (let at = c.from in omega (arith, at, before)) (omega (arith, held, after))))
        | inr ge ↦ law.apart n whole around.0 inside (omega (arith, ge, no_later))
      ]

  -- what the innermost node around two numbers tells, where a pattern that binds has the first
  pub none_parts : (m k : ℕ) → IsInnermost b s k m None → m < k → AreParted b s m k → ⊥
  none_parts m k none lt h = none (inner (node.PatId h.whole)) (whole_inside m k h, ((let from = h.from in omega (arith, from, lt)), h.to), (let from = h.from in omega (arith, from)))

  pub innermost_tells : (m k i : ℕ) (told : Bool) → IsInnermost b s k m (Some i) → IsBinder b s k (Some m) → told ≡ is_or (pattern_at b i) → IsTrue told ↔ AreParted b s m k
  innermost_tells m k i told n binder is = (
    λ t.
        (let found = or_at b n.0 n.1.0 (subst (λ j. is_or (pattern_at b j) ≡ true) (sym n.2) (sym is ∙ t)) in
        innermost_parts m k found.0 found.1 (subst (IsAroundFrom b s k m) found.2 n.1) found.3
        (λ e.
        (let same : inner (node.PatId found.0) ≡ inner (node.PatId binder.0.0) =
        law.apart (inner (node.PatId found.0)) (inner (node.PatId binder.0.0)) (slice_get_within b.pats found.0.0 _ found.3) (binder_inside b binder.0.0 binder.0.1 binder.0.2) (e ∙ sym binder.0.3) in
        let pattern : found.0 ≡ binder.0.0 = cc in
        or_binds_none b found.0 found.1 binder.0.1 found.3 (subst (λ p. Binds b p binder.0.1) (sym pattern) binder.0.2)))
        binder.1 (λ o around. (let le = n.3 o around in let at : start b s n.0 ≡ number b s found.0 = ap (start b s) found.2 in omega (arith, le, at)))),
    λ h.
        (let whole : n.0 ≡ inner (node.PatId h.whole) = parts_innermost m k n.0 binder.1 n.1 n.3 h in
        let there : position b (inner (node.PatId h.whole)) ≡ i = sym (ap (position b) whole) ∙ n.2 in
        is ∙ subst (λ j. is_or (pattern_at b j) ≡ true) there (at_or b h.whole h.parts (whole_inside m k h) h.is_or)),
  )
