-- What the numbers in the order of the walk tell about the parts of a body and the ways to them.
use Rattle.std.proofs.Common.{length, ℕ, zero, suc, ◌+◌, ◌<◌, ◌≤◌, ◌≡◌, inl, inr, List, [], ◌∷◌, refl, sym, ap, subst, ◌∙◌, arith, Option, Some, None}
use Rattle.std.specs.Prelude.{slice_get, slice_index, option_map}
use Rattle.std.specs.Option.{option_and_then}
use Rattle.std.proofs.lemmas.Bool.{cases_lt, cases_order}
use Rattle.std.proofs.lemmas.Option.{option_and_then_some}
use Rattle.hir_raw.specs.Words.{ExprOrPatId}
use Rattle.hir_raw.specs.Own.{RawBody, Schedule, AreDepths, position, Part, Node, the_body, inner, IsInBody, IsNode, parts, part_at, follow, IsTree, PartsFit, start, end, after, Fits, IsSchedule}

-- a part of a node with this number among the numbers below it
pub record Under (b : RawBody) (s : Schedule) (n : Node) (number : ℕ) : Type 0 where
  pub place : ℕ
  pub part : Part
  pub there : part_at b n place ≡ Some part
  pub from : start b s (inner part.node) ≤ number
  pub below : number < end b s (inner part.node)

-- as which part of which node something stands
pub record Reached (b : RawBody) (s : Schedule) (x : ExprOrPatId) : Type 0 where
  pub parent : Node
  pub place : ℕ
  pub part : Part
  pub is_node : IsNode b parent
  pub there : part_at b parent place ≡ Some part
  pub same : part.node ≡ x
  pub later : start b s parent < start b s (inner x)

module _ (b : RawBody) (s : Schedule) (law : IsSchedule b s) where
  fits_grow : (from : ℕ) (ps : List Part) → Fits b s from ps → from ≤ after b s from ps
  fits_grow from [] h = omega arith
  fits_grow from (p ∷ ps) h =
      let rest = fits_grow (end b s (inner p.node)) ps h.2 in
      let grown = law.order (inner p.node) h.0 in
      omega (arith, h.1, rest, grown)

  part_within : (from : ℕ) (ps : List Part) (i : ℕ) (p : Part) → Fits b s from ps → slice_get ps i ≡ Some p
      → IsInBody b p.node × (from ≤ start b s (inner p.node)) × (end b s (inner p.node) ≤ after b s from ps)
  part_within from [] i p h e = absurd (cc)
  part_within from (d ∷ ps) zero p h e =
      let k : d ≡ p = cc in
      let rest = fits_grow (end b s (inner d.node)) ps h.2 in
      subst (λ (x : Part). IsInBody b x.node × (from ≤ start b s (inner x.node)) × (end b s (inner x.node) ≤ after b s from (d ∷ ps))) k (h.0, omega (arith, h.1), rest)
  part_within from (d ∷ ps) (suc i) p h e =
      let q = part_within (end b s (inner d.node)) ps i p h.2 e in
      let grown = law.order (inner d.node) h.0 in
      (q.0, omega (arith, q.1, h.1, grown), q.2)

  pub parts_apart : (from : ℕ) (ps : List Part) (i j k : ℕ) (p q : Part) → Fits b s from ps → slice_get ps i ≡ Some p → slice_get ps j ≡ Some q
      → start b s (inner p.node) ≤ k → k < end b s (inner p.node) → start b s (inner q.node) ≤ k → k < end b s (inner q.node) → i ≡ j
  parts_apart from [] i j k p q h e g l m n o = absurd (cc)
  parts_apart from (x ∷ ps) zero zero k p q h e g l m n o = refl
  parts_apart from (x ∷ ps) zero (suc j) k p q h e g l m n o =
      let y : x ≡ p = cc in
      let w = part_within (end b s (inner x.node)) ps j q h.2 g in
      let z : end b s (inner x.node) ≡ end b s (inner p.node) = ap (λ (x : Part). end b s (inner x.node)) y in
      absurd (omega (arith, w.1, z))
  parts_apart from (x ∷ ps) (suc i) zero k p q h e g l m n o =
      let y : x ≡ q = cc in
      let w = part_within (end b s (inner x.node)) ps i p h.2 e in
      let z : end b s (inner x.node) ≡ end b s (inner q.node) = ap (λ (x : Part). end b s (inner x.node)) y in
      absurd (omega (arith, w.1, z))
  parts_apart from (x ∷ ps) (suc i) (suc j) k p q h e g l m n o =
      ap (λ p. suc p) (parts_apart (end b s (inner x.node)) ps i j k p q h.2 e g l m n o)

  part_find : (from : ℕ) (ps : List Part) (k : ℕ) → Fits b s from ps → from ≤ k → k < after b s from ps
      → (i : ℕ) × (p : Part) × (slice_get ps i ≡ Some p) × (start b s (inner p.node) ≤ k) × (k < end b s (inner p.node))
  part_find from [] k h l m = absurd (omega arith)
  part_find from (p ∷ ps) k h l m =
      elim (cases_lt k (end b s (inner p.node))) [
        | inl n ↦ (zero, p, refl, omega (arith, h.1), n)
        | inr n ↦ (let q = part_find (end b s (inner p.node)) ps k h.2 n m in (suc q.0, q.1, q.2, q.3, q.4))
      ]

  -- each part of a node is in the body, and its numbers are among the node's
  pub part_inside : (n : Node) (i : ℕ) (p : Part) → IsNode b n → part_at b n i ≡ Some p
      → IsInBody b p.node × (start b s n < start b s (inner p.node)) × (end b s (inner p.node) ≤ end b s n)
  part_inside n i p h e =
      let q = part_within (start b s n + 1) (parts b n) i p (law.fits n h) e in
      (q.0, omega (arith, q.1), omega (arith, q.2, law.ends n h))

  pub parts_fit : PartsFit b
  parts_fit n k p h e = (part_inside n k p h e).0

  pub under : (n : Node) (k : ℕ) → IsNode b n → start b s n < k → k < end b s n → Under b s n k
  under n k h l m =
      let q = part_find (start b s n + 1) (parts b n) k (law.fits n h) (omega arith) (omega (arith, law.ends n h)) in
      record { place = q.0; part = q.1; there = q.2; from = q.3; below = q.4 }

  -- the numbers of a node that starts among another's are among the other's
  pub nested : (fuel : ℕ) (n m : Node) → IsNode b n → IsNode b m → end b s n ≤ start b s n + fuel → start b s n ≤ start b s m → start b s m < end b s n → end b s m ≤ end b s n
  nested zero n m h k f l u = absurd (omega arith)
  nested (suc fuel) n m h k f l u =
      elim (cases_lt (start b s n) (start b s m)) [
        | inl lt ↦
            (let q = under n (start b s m) h lt u in
            let c = part_inside n q.place q.part h q.there in
            let r = nested fuel (inner q.part.node) m c.0 k (omega (arith, c.1, c.2)) q.from q.below in
            omega (arith, r, c.2))
        | inr ge ↦ (let e : start b s n ≡ start b s m = omega arith in
            let same : n ≡ m = law.apart n m h k e in
            subst (λ (x : Node). end b s x ≤ end b s n) same (omega arith))
      ]

  -- a node that starts below another and holds a part of it among its numbers has the other below one of its parts
  not_lower : (n m : Node) (i j : ℕ) (p q : Part) → IsNode b n → IsNode b m → part_at b n i ≡ Some p → part_at b m j ≡ Some q
      → p.node ≡ q.node → start b s n < start b s m → ⊥
  not_lower n m i j p q h k e g same lt =
      let c = part_inside n i p h e in
      let d = part_inside m j q k g in
      let sc : start b s (inner p.node) ≡ start b s (inner q.node) = ap (λ (x : ExprOrPatId). start b s (inner x)) same in
      let grown = law.order (inner p.node) c.0 in
      let u = under n (start b s m) h lt (omega (arith, c.1, c.2, d.1, d.2)) in
      let a = part_inside n u.place u.part h u.there in
      let held = nested (end b s (inner u.part.node)) (inner u.part.node) m a.0 k (omega arith) u.from u.below in
      let dgrown = law.order (inner q.node) d.0 in
      let at : i ≡ u.place =
      parts_apart (start b s n + 1) (parts b n) i u.place (start b s (inner p.node)) p u.part (law.fits n h) e u.there (omega arith) grown
      (omega (arith, u.from, sc, d.1)) (omega (arith, held, sc, d.2, dgrown)) in
      let e2 : part_at b n u.place ≡ Some p = subst (λ (x : ℕ). part_at b n x ≡ Some p) at e in
      let the : u.part ≡ p = cc in
      let su : start b s (inner u.part.node) ≡ start b s (inner p.node) = ap (λ (x : Part). start b s (inner x.node)) the in
      omega (arith, u.from, su, sc, d.1)

  -- each expression or pattern stands as one part of one node
  pub one_place : (n m : Node) (i j : ℕ) (p q : Part) → IsNode b n → IsNode b m → part_at b n i ≡ Some p → part_at b m j ≡ Some q
      → p.node ≡ q.node → (n ≡ m) × (i ≡ j)
  one_place n m i j p q h k e g same =
      elim (cases_order (start b s n) (start b s m)) [
        | inl eq ↦
            (let nm : n ≡ m = law.apart n m h k eq in
            let g2 : part_at b n j ≡ Some q = subst (λ (x : Node). part_at b x j ≡ Some q) (sym nm) g in
            let c = part_inside n i p h e in
            let sc : start b s (inner p.node) ≡ start b s (inner q.node) = ap (λ (x : ExprOrPatId). start b s (inner x)) same in
            let ec : end b s (inner p.node) ≡ end b s (inner q.node) = ap (λ (x : ExprOrPatId). end b s (inner x)) same in
            let grown = law.order (inner p.node) c.0 in
            (nm, parts_apart (start b s n + 1) (parts b n) i j (start b s (inner p.node)) p q (law.fits n h) e g2 (omega arith) grown (omega (arith, sc)) (omega (arith, ec, grown))))
        | inr (inl lt) ↦ absurd (not_lower n m i j p q h k e g same lt)
        | inr (inr gt) ↦ absurd (not_lower m n j i q p k h g e (sym same) gt)
      ]

  find_parent : (fuel : ℕ) (n : Node) (x : ExprOrPatId) → IsNode b n → IsInBody b x → end b s n ≤ start b s n + fuel → start b s n < start b s (inner x) → start b s (inner x) < end b s n → Reached b s x
  find_parent zero n x h k f l u = absurd (omega arith)
  find_parent (suc fuel) n x h k f l u =
      let q = under n (start b s (inner x)) h l u in
      let c = part_inside n q.place q.part h q.there in
      elim (cases_lt (start b s (inner q.part.node)) (start b s (inner x))) [
        | inl lt ↦ find_parent fuel (inner q.part.node) x c.0 k (omega (arith, c.1, c.2)) lt q.below
        | inr ge ↦
            (let e : start b s (inner q.part.node) ≡ start b s (inner x) = omega (arith, q.from) in
            let same : inner q.part.node ≡ inner x = law.apart (inner q.part.node) (inner x) c.0 k e in
            record { parent = n; place = q.place; part = q.part; is_node = h; there = q.there; same = cc; later = l })
      ]

  -- each expression or pattern of the body is a part of some node, which starts before it
  pub reached_by : (x : ExprOrPatId) → IsInBody b x → Reached b s x
  reached_by x k =
      elim (cases_lt 0 (start b s (inner x))) [
        | inl lt ↦ find_parent (end b s the_body) the_body x tt k (omega arith) (omega (arith, law.first)) (law.reached (inner x) k)
        | inr ge ↦
            (let e : start b s the_body ≡ start b s (inner x) = omega (arith, law.first) in
            let same : the_body ≡ inner x = law.apart the_body (inner x) tt k e in
            absurd (cc))
      ]

  step_back : (k : ℕ) (way : List ℕ) (n : Node) → follow b (k ∷ way) ≡ Some n
      → (m : Node) × (p : Part) × (follow b way ≡ Some m) × (part_at b m k ≡ Some p) × (inner p.node ≡ n)
  step_back k way n e =
      option_and_then_some (λ m. option_map (λ p. inner p.node) (part_at b m k)) (follow b way) n e (λ m there step. from_map m (part_at b m k) refl there step)
    where
      from_map : (m : Node) (o : Option Part) → part_at b m k ≡ o → follow b way ≡ Some m → option_map (λ p. inner p.node) o ≡ Some n
          → (m : Node) × (p : Part) × (follow b way ≡ Some m) × (part_at b m k ≡ Some p) × (inner p.node ≡ n)
      from_map m None at there step = absurd (cc)
      from_map m (Some p) at there step = (m, p, there, at, cc)

  -- a way leads to a node of the body
  pub way_to_node : (way : List ℕ) (n : Node) → follow b way ≡ Some n → IsNode b n
  way_to_node [] n e = let same : the_body ≡ n = cc in subst (λ (x : Node). IsNode b x) same tt
  way_to_node (k ∷ way) n e =
      let back = step_back k way n e in
      subst (λ (x : Node). IsNode b x) back.4 (parts_fit back.0 k back.1 (way_to_node way back.0 back.2) back.3)

  only_way : (way other : List ℕ) (n : Node) → follow b way ≡ Some n → follow b other ≡ Some n → other ≡ way
  only_way [] [] n e g = refl
  only_way [] (l ∷ other) n e g = let back = step_back l other n g in absurd (cc)
  only_way (k ∷ way) [] n e g = let back = step_back k way n e in absurd (cc)
  only_way (k ∷ way) (l ∷ other) n e g =
      let x = step_back k way n e in
      let y = step_back l other n g in
      let xy : inner x.1.node ≡ inner y.1.node = x.4 ∙ sym y.4 in
      let same : x.1.node ≡ y.1.node = cc in
      let one = one_place x.0 y.0 k l x.1 y.1 (way_to_node way x.0 x.2) (way_to_node other y.0 y.2) x.3 y.3 same in
      let g2 : follow b other ≡ Some x.0 = y.2 ∙ ap (λ (z : Node). Some z) (sym one.0) in
      let rest : other ≡ way = only_way way other x.0 x.2 g2 in
      let place : l ≡ k = sym one.1 in
      λ i. place i ∷ rest i

  one_step : (x : ExprOrPatId) (n : Node) (k : ℕ) (p : Part) → part_at b n k ≡ Some p → p.node ≡ x → (way : List ℕ) → follow b way ≡ Some n → follow b (k ∷ way) ≡ Some (inner x)
  one_step x n k p at same way there =
      ap (λ (o : Option Node). option_and_then (λ m. option_map (λ p. inner p.node) (part_at b m k)) o) there
      ∙ (ap (λ (o : Option Part). option_map (λ p. inner p.node) o) at ∙ ap (λ (y : ExprOrPatId). Some (inner y)) same)

  way_above : (x : ExprOrPatId) → ((y : ExprOrPatId) → IsInBody b y → start b s (inner y) < start b s (inner x) → (way : List ℕ) × (follow b way ≡ Some (inner y)))
      → (n : Node) → IsNode b n → start b s n < start b s (inner x) → (way : List ℕ) × (follow b way ≡ Some n)
  way_above x earlier the_body k l = ([], refl)
  way_above x earlier (inner y) k l = earlier y k l

  way_from : (fuel : ℕ) (x : ExprOrPatId) → IsInBody b x → start b s (inner x) < fuel → (way : List ℕ) × (follow b way ≡ Some (inner x))
  way_from zero x h f = absurd (omega arith)
  way_from (suc fuel) x h f =
      let r = reached_by x h in
      let w = way_above x (λ y k l. way_from fuel y k (omega arith)) r.parent r.is_node r.later in
      (r.place ∷ w.0, one_step x r.parent r.place r.part r.there r.same w.0 w.1)

  -- with numbers in the order of the walk a body is a tree
  pub tree_of_schedule : IsTree b
  tree_of_schedule = record {
    each = λ x h.
        let w : (way : List ℕ) × (follow b way ≡ Some (inner x)) = way_from (start b s (inner x) + 1) x h (omega arith) in
        record { way = w.0; there = w.1; only = λ other e. only_way w.0 other (inner x) w.1 e };
  }

  -- the depth of a node is the number of steps to it
  pub depth_is_steps : AreDepths b s → (way : List ℕ) (n : Node) → follow b way ≡ Some n → slice_index s.depths (position b n) ≡ length way
  depth_is_steps depths [] n e =
      let same : the_body ≡ n = cc in
      subst (λ (x : Node). slice_index s.depths (position b x) ≡ 0) same depths.top
  depth_is_steps depths (k ∷ way) n e =
      let back = step_back k way n e in
      let above = depth_is_steps depths way back.0 back.2 in
      let step = depths.below back.0 k back.1 (way_to_node way back.0 back.2) back.3 in
      subst (λ (x : Node). slice_index s.depths (position b x) ≡ suc (length way)) back.4 (omega arith)

  -- some way leads to each node
  pub way_to : (n : Node) → IsNode b n → (way : List ℕ) × (follow b way ≡ Some n)
  way_to the_body h = ([], refl)
  way_to (inner x) h = way_from (start b s (inner x) + 1) x h (omega arith)

-- ---- one numbering

-- as many numbers are of a node and below it in the one as in the other
abbrev SameSize : RawBody → Schedule → Schedule → Node → Type 0
SameSize b s t n = end b s n + start b t n ≡ end b t n + start b s n

module _ (b : RawBody) (s t : Schedule) (law : IsSchedule b s) (other : IsSchedule b t) where
  same_after : (from at : ℕ) (ps : List Part) → Fits b s from ps → Fits b t at ps
      → ((p : Part) → IsInBody b p.node → from ≤ start b s (inner p.node) → end b s (inner p.node) ≤ after b s from ps → SameSize b s t (inner p.node))
      → after b s from ps + at ≡ after b t at ps + from
  same_after from at [] h k same = omega arith
  same_after from at (p ∷ ps) h k same =
      let grown = law.order (inner p.node) h.0 in
      let rest_grow = fits_grow b s law (end b s (inner p.node)) ps h.2 in
      let rest = same_after (end b s (inner p.node)) (end b t (inner p.node)) ps h.2 k.2 (λ q inside from_there to_there. same q inside (omega (arith, h.1, grown)) to_there) in
      let here = same p h.0 (omega (arith, h.1)) rest_grow in
      omega (arith, rest, here, h.1, k.1)

  same_size : (fuel : ℕ) (n : Node) → IsNode b n → end b s n < start b s n + fuel → SameSize b s t n
  same_size zero n h f = let grown = law.order n h in absurd (omega arith)
  same_size (suc fuel) n h f =
      let below = same_after (start b s n + 1) (start b t n + 1) (parts b n) (law.fits n h) (other.fits n h)
      (λ p inside from_there to_there. same_size fuel (inner p.node) inside (omega (arith, law.ends n h))) in
      omega (arith, below, law.ends n h, other.ends n h)

  same_size_at : (n : Node) → IsNode b n → SameSize b s t n
  same_size_at n h = same_size (end b s n + 1) n h (omega arith)

  same_start_at : (from at : ℕ) (ps : List Part) (i : ℕ) (p : Part) → Fits b s from ps → Fits b t at ps → slice_get ps i ≡ Some p
      → start b s (inner p.node) + at ≡ start b t (inner p.node) + from
  same_start_at from at [] i p h k e = absurd (cc)
  same_start_at from at (d ∷ ps) zero p h k e =
      let same : d ≡ p = cc in
      subst (λ (x : Part). start b s (inner x.node) + at ≡ start b t (inner x.node) + from) same (omega (arith, h.1, k.1))
  same_start_at from at (d ∷ ps) (suc i) p h k e =
      let rest = same_start_at (end b s (inner d.node)) (end b t (inner d.node)) ps i p h.2 k.2 e in
      let size = same_size_at (inner d.node) h.0 in
      omega (arith, rest, size, h.1, k.1)

  same_above : (x : ExprOrPatId) → ((y : ExprOrPatId) → IsInBody b y → start b s (inner y) < start b s (inner x) → start b s (inner y) ≡ start b t (inner y))
      → (n : Node) → IsNode b n → start b s n < start b s (inner x) → start b s n ≡ start b t n
  same_above x earlier the_body k l = law.first ∙ sym other.first
  same_above x earlier (inner y) k l = earlier y k l

  same_inner : (fuel : ℕ) (x : ExprOrPatId) → IsInBody b x → start b s (inner x) < fuel → start b s (inner x) ≡ start b t (inner x)
  same_inner zero x h f = absurd (omega arith)
  same_inner (suc fuel) x h f =
      let r = reached_by b s law x h in
      let above = same_above x (λ y k l. same_inner fuel y k (omega arith)) r.parent r.is_node r.later in
      let e = same_start_at (start b s r.parent + 1) (start b t r.parent + 1) (parts b r.parent) r.place r.part (law.fits r.parent r.is_node) (other.fits r.parent r.is_node) r.there in
      let here : start b s (inner r.part.node) ≡ start b t (inner r.part.node) = omega (arith, e, above) in
      subst (λ (y : ExprOrPatId). start b s (inner y) ≡ start b t (inner y)) r.same here

  -- the numbers in the order of the walk are determined by the body
  pub schedule_unique : (n : Node) → IsNode b n → start b s n ≡ start b t n
  schedule_unique the_body h = law.first ∙ sym other.first
  schedule_unique (inner x) h = same_inner (start b s (inner x) + 1) x h (omega arith)
