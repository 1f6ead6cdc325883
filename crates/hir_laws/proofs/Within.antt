-- What stands below a node has numbers that are among the node's.
use Rattle.std.proofs.Common.{◌≡◌, ◌<◌, ◌≤◌, ◌+◌, ℕ, zero, suc, List, [], ◌∷◌, ◌++◌, Option, Some, None, refl, sym, ◌∙◌, ap, subst, arith, inl, inr}
use Rattle.std.specs.Prelude.{option_map}
use Rattle.std.specs.Option.{option_and_then}
use Rattle.std.proofs.lemmas.Bool.{cases_lt}
use Rattle.std.proofs.lemmas.Option.{option_and_then_some}
use Rattle.hir_laws.specs.Words.{RawBody, Schedule, IsNode, IsSchedule, IsWithin, Node, Part, follow_from, inner, part_at, start, end}
use Rattle.hir_laws.proofs.Words.{part_inside, under}

-- the last step of a way
step_from : (b : RawBody) (n m : Node) (k : ℕ) (way : List ℕ) → follow_from b n (k ∷ way) ≡ Some m → (o : Node) × (p : Part) × (follow_from b n way ≡ Some o) × (part_at b o k ≡ Some p) × (inner p.node ≡ m)
step_from b n m k way e = option_and_then_some (λ o. option_map (λ p. inner p.node) (part_at b o k)) (follow_from b n way) m e (λ o there step. by o (part_at b o k) refl there step)
  where
    by : (o : Node) (x : Option Part) → part_at b o k ≡ x → follow_from b n way ≡ Some o → option_map (λ p. inner p.node) x ≡ Some m
        → (o : Node) × (p : Part) × (follow_from b n way ≡ Some o) × (part_at b o k ≡ Some p) × (inner p.node ≡ m)
    by o None at there step = absurd (cc)
    by o (Some p) at there step = (o, p, there, at, cc)

-- a way that begins with a part
follow_below : (b : RawBody) (n : Node) (k : ℕ) (p : Part) → part_at b n k ≡ Some p → (way : List ℕ) → follow_from b n (way ++ k ∷ []) ≡ follow_from b (inner p.node) way
follow_below b n k p at [] = ap (λ o. option_map (λ (x : Part). inner x.node) o) at
follow_below b n k p at (j ∷ way) = ap (λ o. option_and_then (λ m. option_map (λ x. inner x.node) (part_at b m j)) o) (follow_below b n k p at way)

module _ (b : RawBody) (s : Schedule) (law : IsSchedule b s) where
  follow_numbers : (n m : Node) (way : List ℕ) → IsNode b n → follow_from b n way ≡ Some m → IsNode b m × (start b s n ≤ start b s m) × (end b s m ≤ end b s n)
  follow_numbers n m [] is e = let same : n ≡ m = cc in subst (λ o. IsNode b o × (start b s n ≤ start b s o) × (end b s o ≤ end b s n)) same (is, omega arith, omega arith)
  follow_numbers n m (k ∷ way) is e =
      let back = step_from b n m k way e in
      let above = follow_numbers n back.0 way is back.2 in
      let inside = part_inside b s law back.0 k back.1 above.0 back.3 in
      subst (λ o. IsNode b o × (start b s n ≤ start b s o) × (end b s o ≤ end b s n)) back.4
      (inside.0, (let from = inside.1 in omega (arith, from, above.1)), (let to = inside.2 in omega (arith, to, above.2)))

  -- its numbers are among the node's
  pub within_numbers : (n m : Node) → IsNode b n → IsWithin b n m → IsNode b m × (start b s n ≤ start b s m) × (end b s m ≤ end b s n)
  within_numbers n m is h = follow_numbers n m h.way is h.there

  find_way : (fuel : ℕ) (n m : Node) → IsNode b n → IsNode b m → end b s n ≤ start b s n + fuel → start b s n ≤ start b s m → start b s m < end b s n → IsWithin b n m
  find_way zero n m is other f from to = absurd (omega arith)
  find_way (suc fuel) n m is other f from to = elim (cases_lt (start b s n) (start b s m)) [
    | inl lt ↦
        (let q = under b s law n (start b s m) is lt to in
        let c = part_inside b s law n q.place q.part is q.there in
        let below = find_way fuel (inner q.part.node) m c.0 other (omega (arith, c.1, c.2)) q.from q.below in
        record { way = below.way ++ q.place ∷ []; there = follow_below b n q.place q.part q.there below.way ∙ below.there })
    | inr ge ↦ record { way = []; there = ap (λ (o : Node). Some o) (law.apart n m is other (omega (arith, from, ge))) }
  ]

  -- a node whose number is among another's stands below it
  pub numbers_within : (n m : Node) → IsNode b n → IsNode b m → start b s n ≤ start b s m → start b s m < end b s n → IsWithin b n m
  numbers_within n m is other from to = find_way (end b s n) n m is other (omega arith) from to
