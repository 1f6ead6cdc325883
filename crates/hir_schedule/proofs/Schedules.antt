-- A body is a tree where its graph is, and numbered as its graph is.
use Rattle.std.proofs.Common.{◌≡◌, inl, inr, ℕ, zero, suc, ◌+◌, ◌<◌, ◌≤◌, List, [], ◌∷◌, length, get_or, Option, Some, None, refl, sym, ap, subst, ◌∙◌, arith}
use Rattle.std.specs.Prelude.{slice_get, slice_index, IsTrue, Bool, ◌↔◌, option_map, EachIndex, MatchOption}
use Rattle.std.specs.Option.{option_and_then}
use Rattle.std.proofs.lemmas.Bool.{cases_lt}
use Rattle.std.proofs.lemmas.List.{get_or_past}
use Rattle.std.proofs.lemmas.Option.{slice_get-map, get_or_from_slice_get, option_and_then_some}
use Rattle.hir_schedule.specs.Words.{ExprOrPatId, RawBody, Schedule, IsLow, Part, Node, the_body, inner, IsInBody, IsNode, parts, part_at, follow, HasOneWay, PartsFit, position, node_count, start, end, after, Fits, IsSchedule, AreDepths, nodes}
use Rattle.hir_raw.specs.Order.{IsTree}
use Rattle.hir_schedule.specs.Own.{kids_of, Edge, KidsFit, leads, OneWay, IsTreeGraph, number_after, Follow, IsNumbering}
use Rattle.hir_schedule.specs.Own.{node_lists, positions, graph_of}
use Rattle.hir_schedule.proofs.Words.{depth_is_steps, way_to, way_to_node}
use Rattle.hir_schedule.proofs.Bodies.{lists_size, graph_size, list_at, position_inside, NodeAt, node_at, one_position}

-- where a part stands
abbrev place_of : RawBody → Part → ℕ
place_of b p = position b (inner p.node)

pub kids_at : (b : RawBody) (n : Node) → IsNode b n → kids_of (graph_of b) (position b n) ≡ positions b (nodes (parts b n))
kids_at b n h =
    let lists : slice_get (graph_of b) (position b n) ≡ Some (positions b (nodes (parts b n))) =
    slice_get-map (positions b) (node_lists b) (position b n) ∙ ap (λ (o : Option (List ExprOrPatId)). option_map (positions b) o) (list_at b n h) in
    get_or_from_slice_get (graph_of b) (position b n) (positions b (nodes (parts b n))) [] lists

read_place : (b : RawBody) (ps : List Part) (k : ℕ) → slice_get (positions b (nodes ps)) k ≡ option_map (place_of b) (slice_get ps k)
read_place b [] k = refl
read_place b (p ∷ ps) zero = refl
read_place b (p ∷ ps) (suc k) = read_place b ps k

-- child k of a node is the part k of it
pub edge_is : (b : RawBody) (n : Node) (k : ℕ) → IsNode b n → slice_get (kids_of (graph_of b) (position b n)) k ≡ option_map (place_of b) (part_at b n k)
edge_is b n k h = ap (λ (cs : List ℕ). slice_get cs k) (kids_at b n h) ∙ read_place b (parts b n) k

from_map : (b : RawBody) (o : Option Part) (c : ℕ) → option_map (place_of b) o ≡ Some c → (p : Part) × (o ≡ Some p) × (place_of b p ≡ c)
from_map b None c e = absurd (cc)
from_map b (Some p) c e = (p, refl, cc)

pub kids_fit : (b : RawBody) → PartsFit b → KidsFit (graph_of b)
kids_fit b fit n k c edge =
    elim (cases_lt n (length (graph_of b))) [
      | inl lt ↦
          (let at : NodeAt b n = node_at b n (let z = graph_size b in omega arith) in
          let edge2 : Edge (graph_of b) (position b at.here) k c = subst (λ (x : ℕ). Edge (graph_of b) x k c) (sym at.place) edge in
          let part = from_map b (part_at b at.here k) c (sym (edge_is b at.here k at.is_node) ∙ edge2) in
          let inside = position_inside b (inner part.0.node) (fit at.here k part.0 at.is_node part.1) in
          let z = graph_size b in
          let e = part.2 in
          omega arith)
      | inr ge ↦
          (let none : kids_of (graph_of b) n ≡ [] = get_or_past (graph_of b) n [] ge in
          let edge2 : slice_get [] k ≡ Some c = subst (λ (cs : List ℕ). slice_get cs k ≡ Some c) none edge in
          absurd (cc))
    ]

-- ---- ways

module _ (b : RawBody) (fit : PartsFit b) where
  to_node : (way : List ℕ) (n : Node) → follow b way ≡ Some n → IsNode b n
  to_node [] n e = let same : the_body ≡ n = cc in subst (λ (x : Node). IsNode b x) same tt
  to_node (k ∷ way) n e =
      option_and_then_some (λ m. option_map (λ p. inner p.node) (part_at b m k)) (follow b way) n e (λ m there step. part_is m (part_at b m k) (to_node way m there) refl step)
    where
      part_is : (m : Node) (o : Option Part) → IsNode b m → part_at b m k ≡ o → option_map (λ p. inner p.node) o ≡ Some n → IsNode b n
      part_is m None h at step = absurd (cc)
      part_is m (Some p) h at step = let same : inner p.node ≡ n = cc in subst (λ (x : Node). IsNode b x) same (fit m k p h at)

  places_same : (o : Option Part) → option_map (place_of b) o ≡ option_map (position b) (option_map (λ p. inner p.node) o)
  places_same None = refl
  places_same (Some p) = refl

  step_same : (k : ℕ) (o : Option Node) → ((n : Node) → o ≡ Some n → IsNode b n)
      → option_and_then (λ n. slice_get (kids_of (graph_of b) n) k) (option_map (position b) o) ≡ option_map (position b) (option_and_then (λ m. option_map (λ p. inner p.node) (part_at b m k)) o)
  step_same k None h = refl
  step_same k (Some n) h = edge_is b n k (h n refl) ∙ places_same (part_at b n k)

  -- a way leads to the position of what it leads to
  leads_same : (way : List ℕ) → leads (graph_of b) (position b the_body) way ≡ option_map (position b) (follow b way)
  leads_same [] = refl
  leads_same (k ∷ way) =
      ap (λ (o : Option ℕ). option_and_then (λ n. slice_get (kids_of (graph_of b) n) k) o) (leads_same way) ∙ step_same k (follow b way) (to_node way)

  not_body : (k : ℕ) (way : List ℕ) → follow b (k ∷ way) ≡ Some the_body → ⊥
  not_body k way e =
      option_and_then_some (λ m. option_map (λ p. inner p.node) (part_at b m k)) (follow b way) the_body e (λ m there step. no_part (part_at b m k) step)
    where
      no_part : (o : Option Part) → option_map (λ p. inner p.node) o ≡ Some the_body → ⊥
      no_part None step = absurd (cc)
      no_part (Some p) step = absurd (cc)

  to_body : (other : List ℕ) → follow b other ≡ Some the_body → other ≡ []
  to_body [] e = refl
  to_body (k ∷ way) e = absurd (not_body k way e)

  one_way : IsTree b → (n : Node) → IsNode b n → HasOneWay b n
  one_way tree the_body h = record { way = []; there = refl; only = to_body }
  one_way tree (inner x) h = tree.each x h

  node_from : (o : Option Node) (k : ℕ) → option_map (position b) o ≡ Some k → (n : Node) × (o ≡ Some n) × (position b n ≡ k)
  node_from None k e = absurd (cc)
  node_from (Some n) k e = (n, refl, cc)

  way_in_graph : (k : ℕ) → (at : NodeAt b k) → HasOneWay b at.here → OneWay (graph_of b) (position b the_body) k
  way_in_graph k at one = record {
    way = one.way;
    there = leads_same one.way ∙ (ap (λ (o : Option Node). option_map (position b) o) one.there ∙ ap (λ (x : ℕ). Some x) at.place);
    only = λ other e.
        let m = node_from (follow b other) k (sym (leads_same other) ∙ e) in
        let same : m.0 ≡ at.here = one_position b m.0 at.here (to_node other m.0 m.1) at.is_node (m.2 ∙ sym at.place) in
        one.only other (m.1 ∙ ap (λ (x : Node). Some x) same);
  }

  pub tree_in_graph : IsTree b → IsTreeGraph (graph_of b) (position b the_body)
  tree_in_graph tree = record {
    each = λ k lt.
        let at : NodeAt b k = node_at b k (let z = graph_size b in omega arith) in
        way_in_graph k at (one_way tree at.here at.is_node);
  }

-- ---- numbers

fits_from : (b : RawBody) (s : Schedule) (from : ℕ) (ps : List Part) → ((k : ℕ) (p : Part) → slice_get ps k ≡ Some p → IsInBody b p.node)
    → Follow s from (positions b (nodes ps)) → Fits b s from ps
fits_from b s from [] inside f = tt
fits_from b s from (p ∷ ps) inside f = (inside 0 p refl, f.0, fits_from b s (end b s (inner p.node)) ps (λ k q at. inside (suc k) q at) f.1)

after_same : (b : RawBody) (s : Schedule) (from : ℕ) (ps : List Part) → number_after s from (positions b (nodes ps)) ≡ after b s from ps
after_same b s from [] = refl
after_same b s from (p ∷ ps) = after_same b s (end b s (inner p.node)) ps

module _ (b : RawBody) (s : Schedule) (fit : PartsFit b) (numbers : IsNumbering (graph_of b) (position b the_body) s) where
  inside : (n : Node) → IsNode b n → position b n < length (graph_of b)
  inside n h = let a = position_inside b n h in let z = graph_size b in omega arith

  pub schedule_from_graph : IsSchedule b s
  schedule_from_graph = record {
    starts_size = numbers.starts_size ∙ graph_size b;
    ends_size = numbers.ends_size ∙ graph_size b;
    first = numbers.first;
    fits = λ n h. fits_from b s (start b s n + 1) (parts b n) (λ k p at. fit n k p h at)
        (subst (λ (cs : List ℕ). Follow s (start b s n + 1) cs) (kids_at b n h) (numbers.fits (position b n) (inside n h)));
    ends = λ n h. sym (after_same b s (start b s n + 1) (parts b n))
        ∙ (ap (λ (cs : List ℕ). number_after s (start b s n + 1) cs) (sym (kids_at b n h)) ∙ numbers.ends (position b n) (inside n h));
    order = λ n h. numbers.order (position b n) (inside n h);
    reached = λ n h. numbers.reached (position b n) (inside n h);
    apart = λ n m h k e. one_position b n m h k (numbers.apart (position b n) (position b m) (inside n h) (inside m k) e);
  }

  pub depths_from_graph : AreDepths b s
  depths_from_graph = record {
    size = numbers.depths_size ∙ graph_size b;
    top = numbers.top;
    below = λ n k p h at.
        let edge : Edge (graph_of b) (position b n) k (place_of b p) = edge_is b n k h ∙ ap (λ (o : Option Part). option_map (place_of b) o) at in
        numbers.below (position b n) k (place_of b p) (inside n h) edge;
  }

-- ---- what the functions need

node_of : (ps : List Part) (k : ℕ) (x : ExprOrPatId) → slice_get (nodes ps) k ≡ Some x → (p : Part) × (slice_get ps k ≡ Some p) × (p.node ≡ x)
node_of [] k x e = absurd (cc)
node_of (p ∷ ps) zero x e = (p, refl, cc)
node_of (p ∷ ps) (suc k) x e = node_of ps k x e

pub listed_inside : (b : RawBody) → PartsFit b → (lists : List (List ExprOrPatId)) (xs : List ExprOrPatId) (i k : ℕ) (x : ExprOrPatId)
    → lists ≡ node_lists b → i < length lists → xs ≡ get_or lists i xs → slice_get xs k ≡ Some x → IsInBody b x
listed_inside b fit lists xs i k x same lt is at =
    let size : length lists ≡ node_count b = ap length same ∙ lists_size b in
    let here : NodeAt b i = node_at b i (omega arith) in
    let there : slice_get (node_lists b) i ≡ Some (nodes (parts b here.here)) =
    subst (λ (j : ℕ). slice_get (node_lists b) j ≡ Some (nodes (parts b here.here))) here.place (list_at b here.here here.is_node) in
    let xs_is : xs ≡ nodes (parts b here.here) =
    is ∙ (ap (λ (ls : List (List ExprOrPatId)). get_or ls i xs) same ∙ get_or_from_slice_get (node_lists b) i (nodes (parts b here.here)) xs there) in
    let found = node_of (parts b here.here) k x (ap (λ (ys : List ExprOrPatId). slice_get ys k) (sym xs_is) ∙ at) in
    subst (λ (y : ExprOrPatId). IsInBody b y) found.2 (fit here.here k found.0 here.is_node found.1)

pub answer_from_graph : (b : RawBody) → PartsFit b → (kids : List (List ℕ)) (root : ℕ) → kids ≡ graph_of b → root ≡ position b the_body → (o : Option Schedule)
    → MatchOption o (IsTreeGraph kids root → ⊥) (λ s. IsNumbering kids root s) → MatchOption o (IsTree b → ⊥) (λ s. IsSchedule b s × AreDepths b s)
answer_from_graph b fit kids root same top None no_tree =
    λ tree. no_tree (subst (λ (r : ℕ). IsTreeGraph kids r) (sym top) (subst (λ (g : List (List ℕ)). IsTreeGraph g (position b the_body)) (sym same) (tree_in_graph b fit tree)))
answer_from_graph b fit kids root same top (Some s) numbers =
    let n : IsNumbering (graph_of b) (position b the_body) s =
    subst (λ (r : ℕ). IsNumbering (graph_of b) r s) top (subst (λ (g : List (List ℕ)). IsNumbering g root s) same numbers) in
    (schedule_from_graph b s fit n, depths_from_graph b s fit n)

pub low_exact : (b : RawBody) (s : Schedule) (limit : ℕ) → IsSchedule b s → AreDepths b s
    → (EachIndex s.depths (λ k. slice_index s.depths k ≤ limit) → IsLow limit b) × (IsLow limit b → EachIndex s.depths (λ k. slice_index s.depths k ≤ limit))
low_exact b s limit law depths = (
  (λ all. record {
    each = λ n way e.
        let steps = depth_is_steps b s law depths way n e in
        let in_list = position_inside b n (way_to_node b s law way n e) in
        let size = depths.size in
        let low = all (position b n) (omega arith) in
        omega arith;
  }),
  (λ low k lt.
      let at : NodeAt b k = node_at b k (let size = depths.size in omega arith) in
      let way = way_to b s law at.here at.is_node in
      let steps = depth_is_steps b s law depths way.0 at.here way.1 in
      let short = low.each at.here way.0 way.1 in
      subst (λ (j : ℕ). slice_index s.depths j ≤ limit) at.place (omega arith)),
)

pub low_answer : (b : RawBody) (s : Schedule) (limit : ℕ) (xs : List ℕ) (r : Bool) → IsSchedule b s → AreDepths b s → xs ≡ s.depths
    → (IsTrue r ↔ EachIndex xs (λ k. slice_index xs k ≤ limit)) → (IsTrue r ↔ IsLow limit b)
low_answer b s limit xs r law depths same tells =
    let exact = low_exact b s limit law depths in
    let tells2 : IsTrue r ↔ EachIndex s.depths (λ k. slice_index s.depths k ≤ limit) =
    subst (λ (ys : List ℕ). IsTrue r ↔ EachIndex ys (λ k. slice_index ys k ≤ limit)) same tells in
    ((λ yes. exact.0 (tells2.0 yes)), (λ low. tells2.1 (exact.1 low)))
