-- A table whose nodes' goals were judged: what it says holds.
use Rattle.std.specs.Prelude.{◌≡◌, ◌⊎◌, ◌<◌, ℕ, zero, suc, List, [], ◌∷◌, length, slice_get, Option, Some, None}
use Rattle.std.specs.Option.{option_and_then}
use Rattle.std.proofs.Common.{inl, inr, refl, sym, ap, ◌∙◌, subst, arith}
use Rattle.std.proofs.lemmas.Option.{same_Some, slice_get_within}
use Rattle.infer_needs.specs.Words.{BodyId, ExprOrPatId, DefWithBodyId, Head, Ty, RawBody, RawExpr, RawFacts, body_of, body_id_of, Asked, System, Proof, asked_goal, IsWrittenHead, IsWritten, Term, hole, leaf, pair, IsSystemOf, Gap, InferenceResult, NoneIsLeft, GoalReads, HasEntry, IsAboutAlias, IsFound, AreFound, MayHold, IsNeeded, HoldsUnknown, HoldsNoHole, IsProved, gap_says, HasGap, IsUnproved, IsClash, IsTrueGap, with_goals, scope_item, GoalsHold, HasNoneLeft, needs_of, pat_needs_of, node_needs, Given, listed_gaps, recorded, given, Scope, scope_of}
use Rattle.hir_types.specs.declared.ids.ExprOrPatId.TheVariants as node
use Rattle.hir_types.specs.declared.goal.Goal.TheVariants as goal
use Rattle.hir_types.specs.declared.head.Head.TheVariants as head
use Rattle.infer_needs.specs.Own.{AreDistinct, IsProvable, AreProvable, ReadsAbout, HasProofOf, IsDone, IsEntry, IsOfFailing, IsOfClash, AreDone, AreAllJudged, ArePatsJudged}
use Rattle.infer_needs.proofs.Adding.{adds_then}
use Rattle.infer_needs.proofs.Judging.{done_still}
use Rattle.infer_needs.proofs.Leaving.{table_later}
use Rattle.infer_needs.proofs.Words.{types_beside}

-- ---- the body of a definition

body_at : (raw : RawFacts) (d : DefWithBodyId) (i : BodyId) (b : RawBody) → body_id_of raw d ≡ Some i → body_of raw d ≡ Some b → slice_get raw.bodies i.0 ≡ Some b
body_at raw d i b e is = sym (ap (λ (o : Option BodyId). option_and_then (λ i. slice_get raw.bodies i.0) o) e) ∙ is

pub same_body : (raw : RawFacts) (d : DefWithBodyId) (i : BodyId) (x b : RawBody) → body_id_of raw d ≡ Some i → slice_get raw.bodies i.0 ≡ Some x → body_of raw d ≡ Some b → x ≡ b
same_body raw d i x b e at is = same_Some x b (sym at ∙ body_at raw d i b e is)

-- ---- what stands at a place

-- what needs a goal is an expression, or a pattern that is listed
expr_there : (raw : RawFacts) (x : Option RawExpr) (t : Option Ty) (k : ℕ) (a : Asked) → slice_get (needs_of raw x t) k ≡ Some a → (y : RawExpr) × (x ≡ Some y)
expr_there raw None t k a at = cc
expr_there raw (Some x) t k a at = (x, refl)

item_there : (raw : RawFacts) (ts : List (Option Ty)) (n k : ℕ) (a : Asked) (o : Option (Option Ty)) → slice_get ts n ≡ o → slice_get (pat_needs_of raw (option_and_then (λ x. x) o)) k ≡ Some a → n < length ts
item_there raw ts n k a None is at = cc
item_there raw ts n k a (Some t) is at = slice_get_within ts n t is

get_there : {X : Type 0} (xs : List X) (k : ℕ) → k < length xs → (x : X) × (slice_get xs k ≡ Some x)
get_there [] k h = absurd (omega (arith, h))
get_there (x ∷ xs) zero h = (x, refl)
get_there (x ∷ xs) (suc k) h = get_there xs k (omega (arith, h))

-- ---- what can be proved has no holes, and no `_`

no_hole_at : (x : Head) → IsWrittenHead x → HoldsNoHole (leaf x)
no_hole_at head.Hole h = h
no_hole_at head.ConstHole h = h
no_hole_at _ h = tt

no_hole : (t : Term) → IsWritten t → HoldsNoHole t
no_hole (hole k) h = h
no_hole (leaf x) h = no_hole_at x h
no_hole (pair a b) h = (no_hole a h.0, no_hole b h.1)

each_provable : (xs : List Asked) (k : ℕ) (a : Asked) → AreProvable xs → slice_get xs k ≡ Some a → HoldsNoHole a.parts
each_provable [] k a h at = cc
each_provable (x ∷ xs) zero a h at = no_hole a.parts (subst IsProvable (same_Some x a at) h.0)
each_provable (x ∷ xs) (suc k) a h at = each_provable xs k a h.1 at

-- ---- the table

module _ (raw : RawFacts) (d : DefWithBodyId) (b : RawBody) (f : System) (r : InferenceResult) (ps qs : List Proof) (js ks : List (Ty × Ty)) (gss hss : List (List Gap))
    (of_item : IsSystemOf raw (scope_item raw d) f) (items : length r.item_of_pat ≡ length b.pats)
    (exprs : AreAllJudged raw (scope_of raw d) f b r (length b.exprs) ps js gss) (pats : ArePatsJudged raw (scope_of raw d) f r (length b.pats) ps qs js ks hss) (distinct : AreDistinct ks)
    (provable : (n : ExprOrPatId) → AreProvable (node_needs raw b r n)) where
  abbrev sc : Scope
  sc = scope_of raw d

  abbrev g : Given
  g = given raw d b

  abbrev z : InferenceResult
  z = with_goals qs ks gss hss r

  abbrev Done : ExprOrPatId → List Gap → Type 0
  Done n gs = AreDone sc f raw.limits.goal_depth n (node_needs raw b r n) qs ks gs

  -- at each node
  done_at : (n : ExprOrPatId) (gs : List Gap) → listed_gaps z n ≡ Some gs → Done n gs
  done_at (node.ExprId e) gs at = done_still sc f raw.limits.goal_depth (node.ExprId e) (node_needs raw b r (node.ExprId e)) ps qs js ks gs pats.adds.behind pats.lists.behind (exprs.each e.0 gs at)
  done_at (node.PatId p) gs at = pats.each p.0 gs at

  needs_same : (n : ExprOrPatId) → node_needs raw b z n ≡ node_needs raw b r n
  needs_same (node.ExprId e) = refl
  needs_same (node.PatId p) = refl

  is_needed : (n : ExprOrPatId) (k : ℕ) (a : Asked) → slice_get (node_needs raw b r n) k ≡ Some a → IsNeeded g z n a
  is_needed n k a at = record { at = k; among = subst (λ xs. slice_get xs k ≡ Some a) (sym (needs_same n)) at }

  -- where a node needs something, what could not be shown there is listed
  gaps_there : (n : ExprOrPatId) (k : ℕ) (a : Asked) → slice_get (node_needs raw b r n) k ≡ Some a → (gs : List Gap) × (listed_gaps z n ≡ Some gs)
  gaps_there (node.ExprId e) k a at =
      let x = expr_there raw (slice_get b.exprs e.0) (recorded r.type_of_expr e.0) k a at in
      let within = slice_get_within b.exprs e.0 x.0 x.1 in
      let long = exprs.long in
      get_there gss e.0 (omega (arith, within, long))
  gaps_there (node.PatId p) k a at =
      let within = item_there raw r.item_of_pat p.0 k a (slice_get r.item_of_pat p.0) refl at in
      let long = pats.long in
      get_there hss p.0 (omega (arith, within, long, items))

  is_proved : (a : Asked) → HasProofOf qs a → IsProved z a
  is_proved a h = record { number = h.0; proof = h.1; listed = h.2; goal = h.3 }

  done_is : (n : ExprOrPatId) (a : Asked) (gs : List Gap) → listed_gaps z n ≡ Some gs → IsDone sc f raw.limits.goal_depth n qs ks gs a → IsProved z a ⊎ (IsUnproved z n a ⊎ MayHold sc f raw.limits.goal_depth a)
  done_is n a gs at (inl h) = inl (is_proved a h.0)
  done_is n a gs at (inr (inl h)) = inr (inl (h.1, record { gaps = gs; at = at; number = h.0; listed = h.2 }, h.3))
  done_is n a gs at (inr (inr h)) = inr (inr h)

  -- where it asks for an associated type, once it is read
  listed_is : (n : ExprOrPatId) (a b : Asked) (gs : List Gap) → listed_gaps z n ≡ Some gs → ReadsAbout f raw.limits.goal_depth a b → IsDone sc f raw.limits.goal_depth n qs ks gs a → HasEntry ks b ⊎ (IsClash z n b ⊎ IsUnproved z n a)
  listed_is n a b gs at about (inl h) = elim (h.1 b about) [
    | inl k ↦ inl k
    | inr k ↦ inr (inl (k.1, k.2, k.3, k.4, record { gaps = gs; at = at; number = k.0; listed = k.5 }, k.6))
  ]
  listed_is n a b gs at about (inr (inl h)) = inr (inr (h.1, record { gaps = gs; at = at; number = h.0; listed = h.2 }, h.3))
  listed_is n a b gs at about (inr (inr h)) = absurd (about.known h.0)

  -- what became of it, among the gaps of its node
  record Became (n : ExprOrPatId) (a : Asked) : Type 0 where
    gaps : List Gap
    at : listed_gaps z n ≡ Some gaps
    done : IsDone sc f raw.limits.goal_depth n qs ks gaps a

  became : (n : ExprOrPatId) (a : Asked) → IsNeeded g z n a → Became n a
  became n a is =
      let among = subst (λ xs. slice_get xs is.at ≡ Some a) (needs_same n) is.among in
      let there = gaps_there n is.at a among in
      record { gaps = there.0; at = there.1; done = (done_at n there.0 there.1).each is.at a among }

  need_holds : (n : ExprOrPatId) (a : Asked) → IsNeeded g z n a → IsProved z a ⊎ (IsUnproved z n a ⊎ MayHold sc f raw.limits.goal_depth a)
  need_holds n a is = (let h = became n a is in done_is n a h.gaps h.at h.done)

  entry_holds : (n : ExprOrPatId) (a b : Asked) → IsNeeded g z n a → (HoldsUnknown a.parts → ⊥) → GoalReads f raw.limits.goal_depth a b → IsAboutAlias b → HasEntry ks b ⊎ (IsClash z n b ⊎ IsUnproved z n a)
  entry_holds n a b is known reads about = (let h = became n a is in listed_is n a b h.gaps h.at (record { known = known; reads = reads; about = about }) h.done)

  entry_is : (x : Ty × Ty) → IsEntry qs x → IsFound z x
  entry_is x h = record {
    alias = h.alias;
    args = h.args;
    is = h.is;
    proved = is_proved (asked_goal (goal.Projection h.alias h.args x.1)) h.proved;
    read = h.read;
    known = h.known;
    other = h.other;
    whole = no_hole (asked_goal (goal.Projection h.alias h.args x.1)).parts h.written;
  }

  are_found : AreFound z
  are_found = record { each = λ k x at. entry_is x (pats.lists.right exprs.entries k x at); once = distinct }

  gap_is : (n : ExprOrPatId) (x : Gap) → IsOfFailing sc f raw.limits.goal_depth n (node_needs raw b r n) x ⊎ IsOfClash f raw.limits.goal_depth n (node_needs raw b r n) qs ks x → IsTrueGap g f z n x
  gap_is n x (inl h) = subst (IsTrueGap g f z n) (sym h.is) (
    refl,
    record {
      needed = is_needed n h.at (asked_goal h.goal) h.among;
      whole = each_provable (node_needs raw b r n) h.at (asked_goal h.goal) (provable n) h.among;
      known = h.known;
      fails = h.fails;
    },
  )
  gap_is n x (inr h) =
      let asks : Asked = asked_goal (goal.Projection h.alias h.args h.second) in
      subst (IsTrueGap g f z n) (sym h.is) (
        refl,
        record {
          alias = h.alias;
          args = h.args;
          is = refl;
          listed = h.listed;
          need = h.need;
          needed = is_needed n h.at h.need h.among;
          reads = h.reads;
          proved = is_proved asks h.proved;
          differ = h.differ;
          other = h.other;
          whole = no_hole asks.parts h.written;
        },
      )

  gap_holds : (n : ExprOrPatId) (x : Gap) → HasGap z n x → IsTrueGap g f z n x
  gap_holds n x h = gap_is n x ((done_at n h.gaps h.at).gaps h.number x h.listed)

  gap_once : (n : ExprOrPatId) (x y : Gap) (j : HasGap z n x) (k : HasGap z n y) → gap_says x ≡ gap_says y → j.number ≡ k.number
  gap_once n x y j k same =
      let alike : k.gaps ≡ j.gaps = same_Some k.gaps j.gaps (sym k.at ∙ j.at) in
      (done_at n j.gaps j.at).once j.number k.number x y j.listed (subst (λ gs. slice_get gs k.number ≡ Some y) alike k.listed) same

  -- what is left in types, where what is listed is what was found
  pub has_none_left : HasNoneLeft d g z
  has_none_left = record {
    system = f;
    of_item = of_item;
    left = types_beside (NoneIsLeft f raw.limits.goal_depth ks) r z (table_later f raw.limits.goal_depth js ks pats.lists.behind r exprs.left);
  }

  pub goals_hold : GoalsHold d g z
  goals_hold = record {
    system = f;
    of_item = of_item;
    proofs = λ s filling. (adds_then raw f [] ps qs exprs.adds pats.adds).right (λ s filling n x at. cc) s filling;
    needs = need_holds;
    gaps = gap_holds;
    once = gap_once;
    found = are_found;
    entries = entry_holds;
  }
