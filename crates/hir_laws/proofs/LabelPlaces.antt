-- Labels at nodes, one after another and in the order of the labels.
use Rattle.std.proofs.Common.{◌≡◌, ◌⊎◌, ◌<◌, ◌≤◌, ◌+◌, ◌-◌, ℕ, zero, suc, Bool, true, List, [], ◌∷◌, ◌++◌, length, get_or, Option, Some, None, refl, sym, ◌∙◌, ap, subst, arith, inl, inr}
use Rattle.std.specs.Prelude.{slice_get, IsTrue, ◌↔◌}
use Rattle.std.specs.List.{Contains}
use Rattle.std.specs.List.Sorted.{IsNonDecreasingBy, IsPermutation}
use Rattle.std.proofs.lemmas.Bool.{cases_lt}
use Rattle.std.proofs.lemmas.Option.{slice_get_within, slice_get-get_or, get_or_from_slice_get}
use Rattle.std.proofs.lemmas.List.Sorted.{Contains-permutation, IsPermutation-sym}
use Rattle.std.proofs.Math.Nat.{eq-or-lt_of_le}
use Rattle.hir_types.specs.declared.ids.ExprOrPatId.TheVariants as node
use Rattle.hir_laws.specs.Words.{AllHold, LabelId, Mention, Node, RawBody, Said, IsNode, Mentions, StandOnce, body_said, inner, position, the_body}
use Rattle.hir_laws.specs.Words.hir_raw.declared.mention.Mention.TheVariants as it
use Rattle.hir_laws.specs.Words.hir_raw.declared.mention.LabelRole.TheVariants as labelled
use Rattle.hir_laws.specs.declared.labels.Place.{Place}
use Rattle.hir_laws.specs.Places.{place_by}
use Rattle.hir_laws.specs.Own.{Agree, ArePlaces, FollowsAt, PlacesOnce, place_of}
use Rattle.hir_laws.proofs.Words.{entry_last, entry_left, entry_of_push, mention_said, mentions_within, said_mention}

-- ---- in the order of the labels

-- of d + 1 places one after another the first and the last
far_agree : (places : List Place) → IsNonDecreasingBy (λ p. p.label) places → AllHold (FollowsAt places) places → (d i : ℕ) (p q : Place)
    → slice_get places i ≡ Some p → slice_get places (i + d) ≡ Some q → p.label ≡ q.label → p.node ≡ q.node
far_agree places rise follow zero i p q at_p at_q same =
    let there : slice_get places i ≡ Some q = subst (λ (n : ℕ). slice_get places n ≡ Some q) (omega arith) at_q in
    let equal : p ≡ q = cc in ap (λ (r : Place). r.node) equal
far_agree places rise follow (suc d) i p q at_p at_q same =
    let below : i + suc d < length places = slice_get_within places (i + suc d) q at_q in
    let z : Place = get_or places (i + d) p in
    let at_z : slice_get places (i + d) ≡ Some z = slice_get-get_or places (i + d) p (omega (arith, below)) in
    let first : p.label ≤ z.label = subst (λ (r : Place). r.label ≤ z.label) (get_or_from_slice_get places i p p at_p) (rise i (i + d) p (omega arith) (omega (arith, below))) in
    let second : z.label ≤ q.label = subst (λ (r : Place). z.label ≤ r.label) (get_or_from_slice_get places (i + suc d) q p at_q) (rise (i + d) (i + suc d) p (omega arith) below) in
    let near : p.node ≡ z.node = far_agree places rise follow d i p z at_p at_z (omega (arith, first, second, same)) in
    near ∙ follow (i + suc d) q at_q (i + d) z (omega arith) at_z (omega (arith, first, second, same))

pub sorted_agree : (places : List Place) → IsNonDecreasingBy (λ p. p.label) places → AllHold (FollowsAt places) places → Agree places
sorted_agree places rise follow i j p q at_p at_q same = elim (cases_lt i j) [
  | inl lt ↦ far_agree places rise follow (j - i) i p q at_p (subst (λ (n : ℕ). slice_get places n ≡ Some q) (omega (arith, lt)) at_q) same
  | inr ge ↦ sym (far_agree places rise follow (i - j) j q p at_q (subst (λ (n : ℕ). slice_get places n ≡ Some p) (omega (arith, ge)) at_p) (sym same))
]

pub agree_follow : (places : List Place) → Agree places → AllHold (FollowsAt places) places
agree_follow places agree i p at_p j q next at_q same = agree j i q p at_q at_p same

-- ---- in another order

agree_moved : (xs ys : List Place) → IsPermutation ys xs → Agree xs → Agree ys
agree_moved xs ys moved agree i j p q at_p at_q same =
    let first : Contains xs p = Contains-permutation ys xs p moved (i, slice_get_within ys i p at_p, get_or_from_slice_get ys i p p at_p) in
    let second : Contains xs q = Contains-permutation ys xs q moved (j, slice_get_within ys j q at_q, get_or_from_slice_get ys j q q at_q) in
    agree first.0 second.0 p q (slice_get-get_or xs first.0 p first.1 ∙ ap (λ (r : Place). Some r) first.2) (slice_get-get_or xs second.0 q second.1 ∙ ap (λ (r : Place). Some r) second.2) same

pub agree_told : (xs ys : List Place) (told : Bool) → IsPermutation xs ys → IsNonDecreasingBy (λ p. p.label) ys → IsTrue told ↔ AllHold (FollowsAt ys) ys → IsTrue told ↔ Agree xs
agree_told xs ys told moved rise says = (
  λ t. agree_moved ys xs moved (sorted_agree ys rise (says.0 t)),
  λ h. says.1 (agree_follow ys (agree_moved xs ys (IsPermutation-sym xs ys moved) h)),
)

-- ---- one after another

pub places_none : (said : List Said) (places : List Place) → places ≡ [] → ArePlaces said 0 places
places_none said places is = rw is (record { each = λ i p at. absurd (cc); all = λ k s p lt at found. absurd (omega (arith, lt)) })

-- entry n of what is said
module _ (said : List Said) (n : ℕ) (s : Said) (here : slice_get said n ≡ Some s) (places : List Place) (h : ArePlaces said n places) where
  pub places_kept : place_of s ≡ None → ArePlaces said (n + 1) places
  places_kept none = record {
    each = h.each;
    all = λ k t p lt at found. elim (eq-or-lt_of_le {n = k} {m = n} (omega (arith, lt))) [
      | inl e ↦
          (let there : slice_get said n ≡ Some t = subst (λ (j : ℕ). slice_get said j ≡ Some t) e at in
          let same : s ≡ t = cc in
          let no : place_of t ≡ None = subst (λ (x : Said). place_of x ≡ None) same none in
          absurd (cc))
      | inr l ↦ h.all k t p l at found
    ];
  }

  pub places_more : (p : Place) → place_of s ≡ Some p → ArePlaces said (n + 1) (places ++ p ∷ [])
  places_more p is = record {
    each = λ i q at. elim (entry_of_push places p i q at) [
      | inl before ↦ h.each i q before
      | inr same ↦ (n, s, here, is ∙ ap (λ (r : Place). Some r) same)
    ];
    all = λ k t q lt at found. elim (eq-or-lt_of_le {n = k} {m = n} (omega (arith, lt))) [
      | inl e ↦
          (let there : slice_get said n ≡ Some t = subst (λ (j : ℕ). slice_get said j ≡ Some t) e at in
          let same : s ≡ t = cc in
          let own : place_of t ≡ Some p = subst (λ (x : Said). place_of x ≡ Some p) same is in
          let one : p ≡ q = cc in
          (length places, entry_last places p ∙ ap (λ (r : Place). Some r) one))
      | inr l ↦ (let e = h.all k t q l at found in (e.0, entry_left places (p ∷ []) e.0 q e.1))
    ];
  }

pub once_told : (said : List Said) (places : List Place) (told : Bool) → ArePlaces said (length said) places → IsTrue told ↔ Agree places → IsTrue told ↔ PlacesOnce said
once_told said places told h says = (
  λ t i j s u p q at_s at_u here there same.
      (let first = h.all i s p (slice_get_within said i s at_s) at_s here in
      let second = h.all j u q (slice_get_within said j u at_u) at_u there in
      says.0 t first.0 second.0 p q first.1 second.1 same),
  λ once. says.1 (λ i j p q at_p at_q same.
      (let first = h.each i p at_p in
      let second = h.each j q at_q in
      once first.0 second.0 first.1 second.1 p q first.2 second.2 first.3 second.3 same)),
)

-- ---- of nodes

place_from : (n : ℕ) (m : Mention) (p : Place) → place_by n m ≡ Some p → (l : LabelId) × (m ≡ it.Label labelled.Here l) × (l.0 ≡ p.label) × (n ≡ p.node)
place_from n (it.Label labelled.Here l) p e = (l, refl, cc, cc)
place_from n _ p e = absurd (cc)

label_same : (l m : LabelId) → l.0 ≡ m.0 → l ≡ m
label_same l m e = λ i. record { 0 = e i }

-- the position of a node is no other's
position_same : (b : RawBody) (n m : Node) → IsNode b n → IsNode b m → position b n ≡ position b m → n ≡ m
position_same b the_body the_body one two e = refl
position_same b the_body (inner (node.ExprId d)) one two e = absurd (omega (arith, two, e))
position_same b the_body (inner (node.PatId q)) one two e = absurd (omega (arith, two, e))
position_same b (inner (node.ExprId c)) the_body one two e = absurd (omega (arith, one, e))
position_same b (inner (node.ExprId c)) (inner (node.ExprId d)) one two e = λ i. inner (node.ExprId (record { 0 = e i }))
position_same b (inner (node.ExprId c)) (inner (node.PatId q)) one two e = absurd (omega (arith, one, e))
position_same b (inner (node.PatId p)) the_body one two e = absurd (omega (arith, one, e))
position_same b (inner (node.PatId p)) (inner (node.ExprId d)) one two e = absurd (omega (arith, two, e))
position_same b (inner (node.PatId p)) (inner (node.PatId q)) one two e = let same : p.0 ≡ q.0 = omega (arith, e) in λ i. inner (node.PatId (record { 0 = same i }))

module _ (b : RawBody) where
  stand_from : PlacesOnce (body_said b) → StandOnce b
  stand_from once l n m here there =
      let first = mention_said b n (it.Label labelled.Here l) here in
      let second = mention_said b m (it.Label labelled.Here l) there in
      position_same b n m (mentions_within b n (it.Label labelled.Here l) here) (mentions_within b m (it.Label labelled.Here l) there)
      (once first.0 second.0 _ _ (record { label = l.0; node = position b n }) (record { label = l.0; node = position b m }) first.1 second.1 refl refl refl)

  once_from : StandOnce b → PlacesOnce (body_said b)
  once_from stand i j x y p q at_x at_y here there same =
      let first = said_mention b i x at_x in
      let second = said_mention b j y at_y in
      let one = place_from x.node x.mention p here in
      let two = place_from y.node y.mention q there in
      let label : two.0 ≡ one.0 = label_same two.0 one.0 (two.2 ∙ (sym same ∙ sym one.2)) in
      let at_one : Mentions b first.0 (it.Label labelled.Here one.0) = subst (Mentions b first.0) one.1 first.1 in
      let at_two : Mentions b second.0 (it.Label labelled.Here one.0) = subst (λ l. Mentions b second.0 (it.Label labelled.Here l)) label (subst (Mentions b second.0) two.1 second.1) in
      let nodes : first.0 ≡ second.0 = stand one.0 first.0 second.0 at_one at_two in
      sym one.3 ∙ (sym first.2 ∙ (ap (position b) nodes ∙ (second.2 ∙ two.3)))

  pub stand_told : (said : List Said) (told : Bool) → said ≡ body_said b → IsTrue told ↔ PlacesOnce said → IsTrue told ↔ StandOnce b
  stand_told said told is says =
      let own : IsTrue told ↔ PlacesOnce (body_said b) = subst (λ xs. IsTrue told ↔ PlacesOnce xs) is says in
      (λ t. stand_from (own.0 t), λ h. own.1 (once_from h))
