-- Goals that are registered one after another.
use Rattle.std.specs.Prelude.{◌≡◌, ◌++◌, ◌==◌, ℕ, zero, suc, Bool, true, false, List, [], ◌∷◌, flat_map, map, slice_get, Option, Some, None, if◌then◌else◌, refl}
use Rattle.std.specs.Option.{option_and_then}
use Rattle.std.proofs.Common.{inl, inr, sym, ap, ◌∙◌, subst, append_assoc, append-nil, eq-eqb, eqb-true, true≢false}
use Rattle.std.proofs.lemmas.Grind.{flat_map-append}
use Rattle.std.proofs.lemmas.Option.{same_Some, slice_get_within}
use Rattle.std.proofs.lemmas.List.{map-append}
use Rattle.infer_obligations.specs.Words.{ExprId, ExprOrPatId, Goal, Ty, RawExpr, RawFacts, Shape, Asked, Each, asked_goal, ItemSources, system, HasHeadsIfConcrete, Obligation, IsAsked, registered, opens, Obligations, GoalTable, AreKept, HasAllOpen, sourced, AreCounted, needed_goals, needs_of, needs_at, Given, recorded, asked_where, asked_by_node, AllAreAsked, AreSourcesIn, AreGoalsOf, IsTold, with_expr_ty, with_goal_table, is_fine_head, IsFree, InferenceContext}
use Rattle.hir_types.specs.declared.ids.ExprOrPatId.TheVariants as node
use Rattle.infer_obligations.specs.Words.goal_tree.declared.obligation.Standing.TheVariants as standing
use Rattle.infer_obligations.proofs.Words.{asked_counted, append_get, slice_get-set_same, slice_get-set_other}
use Rattle.infer_obligations.specs.Words.infer_ctx.Asked.{asked_at}
use Rattle.infer_obligations.specs.Own.{asked_for, node_asks, IsRegistered, Registers}

-- ---- trees that are asked more

asked_none : (o : Obligations) → IsAsked o.tree o.tree []
asked_none o = record {
  obligations = sym (append-nil o.tree.obligations.items);
  standings = sym (append-nil o.tree.standings.items);
  proofs = refl;
}

asked_both : (o o' o'' : Obligations) (xs bs : List Obligation) → IsAsked o.tree o'.tree xs → IsAsked o'.tree o''.tree bs → IsAsked o.tree o''.tree (xs ++ bs)
asked_both o o' o'' xs bs h k = record {
  obligations = k.obligations ∙ ap (λ os. os ++ bs) h.obligations ∙ append_assoc o.tree.obligations.items xs bs;
  standings =
      k.standings ∙ ap (λ ss. ss ++ opens bs) h.standings ∙ append_assoc o.tree.standings.items (opens xs) (opens bs)
      ∙ ap (λ ss. o.tree.standings.items ++ ss) (sym (map-append (λ (o : Obligation). standing.Open) xs bs));
  proofs = k.proofs ∙ h.proofs;
}

module _ (raw : RawFacts) where
  pub registers_none : (o : Obligations) → Registers raw [] o o
  registers_none o = record { added = []; asked = asked_none o; asks = refl; each = λ i x at. cc; selected = refl }

  -- one more, for a node
  registers_one : (g : Goal) (n : ExprOrPatId) (o o' : Obligations) → IsAsked o.tree o'.tree (registered g n raw.limits.goal_depth ∷ []) → o'.selected ≡ o.selected → Registers raw ((n, asked_goal g) ∷ []) o o'
  registers_one g n o o' asked same = record {
    added = registered g n raw.limits.goal_depth ∷ [];
    asked = asked;
    asks = refl;
    each = one;
    selected = same;
  }
    where
      one : (i : ℕ) (x : Obligation) → slice_get (registered g n raw.limits.goal_depth ∷ []) i ≡ Some x → IsRegistered raw.limits.goal_depth x
      one zero x at = subst (IsRegistered raw.limits.goal_depth) (same_Some (registered g n raw.limits.goal_depth) x at) (record { by_node = refl; depth = refl })
      one (suc i) x at = cc

  registers_both : (xs bs : List (ExprOrPatId × Asked)) (o o' o'' : Obligations) → Registers raw xs o o' → Registers raw bs o' o'' → Registers raw (xs ++ bs) o o''
  registers_both xs bs o o' o'' h k = record {
    added = h.added ++ k.added;
    asked = asked_both o o' o'' h.added k.added h.asked k.asked;
    asks = map-append node_asks h.added k.added ∙ (ap (λ zs. zs ++ map node_asks k.added) h.asks ∙ ap (λ zs. xs ++ zs) k.asks);
    each = λ i x at. elim (append_get h.added k.added i x at) [
      | inl q ↦ h.each i x q
      | inr q ↦ k.each q.0 x q.1
    ];
    selected = k.selected ∙ h.selected;
  }

-- ---- the goals of an expression

asked_for_more : (n : ℕ) (ys : List Goal) (x : Goal) → asked_for n (map asked_goal ys) ++ (node.ExprId (record { 0 = n }), asked_goal x) ∷ [] ≡ asked_for n (map asked_goal (ys ++ x ∷ []))
asked_for_more n [] x = refl
asked_for_more n (y ∷ ys) x = (let a : ExprOrPatId × Asked = (node.ExprId (record { 0 = n }), asked_goal y) in ap (λ zs. a ∷ zs) (asked_for_more n ys x))

pub registers_next : (raw : RawFacts) (n : ℕ) (ys : List Goal) (x : Goal) (o o' o'' : Obligations) → Registers raw (asked_for n (map asked_goal ys)) o o' → IsAsked o'.tree o''.tree (registered x (node.ExprId (record { 0 = n })) raw.limits.goal_depth ∷ []) → o''.selected ≡ o'.selected
    → Registers raw (asked_for n (map asked_goal (ys ++ x ∷ []))) o o''
registers_next raw n ys x o o' o'' h asked same =
    subst (λ zs. Registers raw zs o o'') (asked_for_more n ys x)
    (registers_both raw (asked_for n (map asked_goal ys)) ((node.ExprId (record { 0 = n }), asked_goal x) ∷ []) o o' o'' h (registers_one raw x (node.ExprId (record { 0 = n })) o' o'' asked same))

each_next : (P : Goal → Type 0) (ys more : List Goal) (x : Goal) → Each P (ys ++ x ∷ more) → P x
each_next P [] more x h = h.0
each_next P (y ∷ ys) more x h = each_next P ys more x h.1

-- the next of a list has what each has
pub next_is : (P : Goal → Type 0) (ys rest more gs : List Goal) (x : Goal) → Each P gs → ys ++ rest ≡ gs → rest ≡ x ∷ more → P x
next_is P ys rest more gs x h whole next = each_next P ys more x (subst (Each P) (sym whole ∙ ap (λ zs. ys ++ zs) next) h)

-- where none is left these were all
pub all_were : (ys rest gs : List Goal) → ys ++ rest ≡ gs → rest ≡ [] → map asked_goal ys ≡ map asked_goal gs
all_were ys rest gs whole none = ap (λ zs. map asked_goal zs) (sym (append-nil ys) ∙ (ap (λ zs. ys ++ zs) (sym none) ∙ whole))

-- ---- what is asked for each expression

at_own : (n : ℕ) (a : Asked) → (if n == n then a ∷ [] else []) ≡ a ∷ []
at_own n a = ap (λ (b : Bool). if b then a ∷ [] else []) (eq-eqb n n refl)

at_other : (m n : ℕ) (a : Asked) (b : Bool) → (m == n) ≡ b → (m ≡ n → ⊥) → (if b then a ∷ [] else []) ≡ []
at_other m n a true is apart = absurd (apart (eqb-true m n is))
at_other m n a false is apart = refl

-- one that a node asks for
own_asks : (n : ℕ) (o : Obligation) (a : Asked) (m : ℕ) → o.parent ≡ None → node_asks o ≡ (node.ExprId (record { 0 = m }), a) → asked_by_node n o ≡ (if m == n then a ∷ [] else [])
own_asks n o a m by_node asks =
    ap (λ p. asked_where n p o.node (asked_goal o.goal)) by_node ∙ ap (λ (x : ExprOrPatId × Asked). asked_where n None x.0 x.1) asks

-- those that are registered for an expression are asked for it, and for no other
module _ (limit : ℕ) (e : ℕ) where
  pub added_here : (os : List Obligation) (xs : List Asked) → map node_asks os ≡ asked_for e xs → ((i : ℕ) (x : Obligation) → slice_get os i ≡ Some x → IsRegistered limit x) → flat_map (asked_by_node e) os ≡ xs
  added_here [] [] is each = refl
  added_here [] (a ∷ xs) is each = absurd (cc)
  added_here (o ∷ os) [] is each = absurd (cc)
  added_here (o ∷ os) (a ∷ xs) is each =
      let first : node_asks o ≡ (node.ExprId (record { 0 = e }), a) = cc in
      let others : map node_asks os ≡ asked_for e xs = cc in
      ap (λ (ys : List Asked). ys ++ flat_map (asked_by_node e) os) (own_asks e o a e (each 0 o refl).by_node first ∙ at_own e a)
      ∙ ap (λ ys. a ∷ ys) (added_here os xs others (λ i x at. each (suc i) x at))

  pub added_elsewhere : (n : ℕ) → (e ≡ n → ⊥) → (os : List Obligation) (xs : List Asked) → map node_asks os ≡ asked_for e xs → ((i : ℕ) (x : Obligation) → slice_get os i ≡ Some x → IsRegistered limit x) → flat_map (asked_by_node n) os ≡ []
  added_elsewhere n apart [] xs is each = refl
  added_elsewhere n apart (o ∷ os) [] is each = absurd (cc)
  added_elsewhere n apart (o ∷ os) (a ∷ xs) is each =
      let first : node_asks o ≡ (node.ExprId (record { 0 = e }), a) = cc in
      let others : map node_asks os ≡ asked_for e xs = cc in
      ap (λ (ys : List Asked). ys ++ flat_map (asked_by_node n) os) (own_asks n o a e (each 0 o refl).by_node first ∙ at_other e n a (e == n) refl apart)
      ∙ added_elsewhere n apart os xs others (λ i x at. each (suc i) x at)

-- ---- the expression's own type is recorded, and what it needs registered

heads_of_asked : (P : Shape) (e : ℕ) (os : List Obligation) (xs : List Asked) → map node_asks os ≡ asked_for e xs → Each (HasHeadsIfConcrete P) xs → (i : ℕ) (x : Obligation) → slice_get os i ≡ Some x → HasHeadsIfConcrete P (asked_goal x.goal)
heads_of_asked P e [] xs is each i x at = absurd (cc)
heads_of_asked P e (o ∷ os) [] is each i x at = absurd (cc)
heads_of_asked P e (o ∷ os) (a ∷ xs) is each zero x at =
    let pair : node_asks o ≡ (node.ExprId (record { 0 = e }), a) = cc in
    let first : asked_goal o.goal ≡ a = ap (λ (z : ExprOrPatId × Asked). z.1) pair in
    let same : o ≡ x = cc in
    subst (λ (z : Obligation). HasHeadsIfConcrete P (asked_goal z.goal)) same (subst (HasHeadsIfConcrete P) (sym first) each.0)
heads_of_asked P e (o ∷ os) (a ∷ xs) is each (suc i) x at =
    let others : map node_asks os ≡ asked_for e xs = cc in
    heads_of_asked P e os xs others each.1 i x at

-- what an expression needs
module _ (g : Given) (e : ExprId) (x : RawExpr) (t : Ty) (c : InferenceContext) (goals : GoalTable)
    (is : slice_get g.body.exprs e.0 ≡ Some x) (free : IsFree c.result.type_of_expr e.0) (fine : Each (HasHeadsIfConcrete (is_fine_head g.scope)) (needed_goals g.scope.facts x t))
    (registers : Registers c.goals.sources.facts (asked_for e.0 (needed_goals g.scope.facts x t)) c.goals.obligations goals.obligations)
    (sources : goals.sources ≡ c.goals.sources) (bounded : goals.bounded ≡ c.goals.bounded)
    (kept : AreKept goals.sources.facts (system goals.sources.sources) goals.table goals.obligations) (all : HasAllOpen (system goals.sources.sources) goals.table goals.obligations) where
  abbrev raw : RawFacts
  raw = g.scope.facts

  abbrev last : InferenceContext
  last = with_goal_table (with_expr_ty c e t) goals

  asked_of : (n : ℕ) → asked_at goals.obligations.tree n ≡ asked_at c.goals.obligations.tree n ++ flat_map (asked_by_node n) registers.added
  asked_of n = ap (flat_map (asked_by_node n)) registers.asked.obligations ∙ flat_map-append (asked_by_node n) c.goals.obligations.tree.obligations.items registers.added

  needs_here : needs_at raw g.body last.result e.0 ≡ needed_goals raw x t
  needs_here =
      ap (λ (o : Option RawExpr). needs_of raw o (recorded last.result.type_of_expr e.0)) is
      ∙ ap (λ (o : Option (Option Ty)). needs_of raw (Some x) (option_and_then (λ y. y) o)) (slice_get-set_same c.result.type_of_expr e.0 (Some t) (slice_get_within c.result.type_of_expr e.0 None free))

  needed_before : needs_at raw g.body c.result e.0 ≡ []
  needed_before =
      ap (λ (o : Option RawExpr). needs_of raw o (recorded c.result.type_of_expr e.0)) is
      ∙ ap (λ (o : Option (Option Ty)). needs_of raw (Some x) (option_and_then (λ y. y) o)) free

  needs_elsewhere : (n : ℕ) → (e.0 ≡ n → ⊥) → needs_at raw g.body last.result n ≡ needs_at raw g.body c.result n
  needs_elsewhere n apart = ap (λ (o : Option (Option Ty)). needs_of raw (slice_get g.body.exprs n) (option_and_then (λ y. y) o)) (slice_get-set_other c.result.type_of_expr e.0 n (Some t) (λ same. apart (sym same)))

  all_asked : AllAreAsked raw g.body c → AllAreAsked raw g.body last
  all_asked before n = by (e.0 == n) refl
    where
      by : (b : Bool) → (e.0 == n) ≡ b → asked_at goals.obligations.tree n ≡ needs_at raw g.body last.result n
      by true same =
          (let here : e.0 ≡ n = eqb-true e.0 n same in
          subst (λ m. asked_at goals.obligations.tree m ≡ needs_at raw g.body last.result m) here
          (asked_of e.0
          ∙ (ap (λ ys. ys ++ flat_map (asked_by_node e.0) registers.added) (before e.0 ∙ needed_before)
          ∙ (added_here c.goals.sources.facts.limits.goal_depth e.0 registers.added (needed_goals raw x t) registers.asks registers.each ∙ sym needs_here))))
      by false differ =
          (let apart : e.0 ≡ n → ⊥ = λ same. true≢false (sym (eq-eqb e.0 n same) ∙ differ) in
          asked_of n
          ∙ (ap (λ ys. asked_at c.goals.obligations.tree n ++ ys) (added_elsewhere c.goals.sources.facts.limits.goal_depth e.0 n apart registers.added (needed_goals raw x t) registers.asks registers.each)
          ∙ (append-nil (asked_at c.goals.obligations.tree n) ∙ (before n ∙ sym (needs_elsewhere n apart)))))

  heads_of_added : (i : ℕ) (y : Obligation) → slice_get registers.added i ≡ Some y → HasHeadsIfConcrete (is_fine_head g.scope) (asked_goal y.goal)
  heads_of_added i y at = heads_of_asked (is_fine_head g.scope) e.0 registers.added (needed_goals raw x t) registers.asks fine i y at

  -- what comes has no source yet
  counted_still : AreCounted c.goals.obligations → AreCounted goals.obligations
  counted_still before =
      registers.selected
      ∙ (before ∙ (sym (asked_counted c.goals.obligations.tree.standings.items registers.added) ∙ ap sourced (sym registers.asked.standings)))

  goals_registered : AreGoalsOf g c → AreGoalsOf g last
  goals_registered h = record {
    sources = subst (λ (z : ItemSources). AreSourcesIn g.scope z) (sym sources) h.sources;
    bounded = bounded ∙ h.bounded;
    kept = kept;
    all = all;
    heads = λ i y at. elim (append_get c.goals.obligations.tree.obligations.items registers.added i y (subst (λ os. slice_get os i ≡ Some y) registers.asked.obligations at)) [
      | inl q ↦ h.heads i y q
      | inr q ↦ heads_of_added q.0 y q.1
    ];
    counted = counted_still h.counted;
    asked = all_asked h.asked;
  }

  pub told_registered : IsTold g c → IsTold g last
  told_registered h = record { bindings = λ v u at. h.bindings v u at; goals = goals_registered h.goals }
