-- Two types have one outcome: what is found out in one way is so in each, as far as it can be.
use Rattle.std.specs.Prelude.{◌≡◌, ℕ, Bool, IsTrue, List, [], ◌∷◌, slice_get, Some}
use Rattle.std.proofs.Common.{inl, inr, refl, sym, ap, ◌∙◌, subst}
use Rattle.infer_unify.specs.Words.{GenericDefId, Ty, Term, hole, pair, term, RawFacts, Log, Solves, Triangular, solution, solution_solves, solution_respects, solution_apply, resolved_apply, IsRead, Aliases, Asked, System, Each, SomeOf, Verdicts, asked_at, answers, Sources, system, IsSystemOf}
use Rattle.hir_types.specs.declared.head.Hole.TheVariants as hole_of
use Rattle.infer_unify.proofs.Words.{IsWithin, answers_stay, each_map, some_map, some_each, answers_are_one, reads_within, each_get}
use Rattle.infer_unify.specs.Own.{Unification, Alias, AreOpened, known_alias, goal_of, IsStep, IsNoStep, AreSteps, IsFound, IsSettled, IsAll, HaveCommon, AreJudged, IsRefuted, Becomes, IsUnification, could, deeply, IsTestOf, IsOnlyOutcome, IsOnlyTestOf, OnlyWhere}
use Rattle.infer_unify.specs.declared.unification.Unification.TheVariants as unification
use Rattle.infer_unify.proofs.Becoming.{types_read}
use Rattle.infer_unify.proofs.SameAnswers.{same_answers}
use Rattle.infer_unify.proofs.Settling.{Tells, IsOfRead, IsGood, good_fills, told_equal, step_of_read}
use Rattle.infer_unify.proofs.Steps.{steps_keep}

-- ---- by the same answers

module _ (f : System) (n : ℕ) where
  abbrev v : Verdicts
  v = answers f n

  abbrev A : Aliases
  A = v.Alias

  steps_of_read : (ps : List Alias) (ms : List Log) (l l' : Log) → IsOfRead l → AreSteps A ps ms l l' → IsOfRead l'
  steps_of_read ps [] l l' g e = subst IsOfRead (sym e) g
  steps_of_read ps (m ∷ ms) l l' g h = steps_of_read ps ms m l' (step_of_read f n l m h.0.1 g h.0.3) h.1

  found_good : (ps : List Alias) (a b : Term) (l : Log) → IsRead a × IsRead b → IsFound A ps a b l → Triangular l → IsGood l
  found_good ps a b l read h t =
      let first : IsOfRead h.first = record { left = a; right = b; left_read = read.0; right_read = read.1; unified = h.unified } in
      record { triangular = t; of_read = steps_of_read ps h.states h.first l first h.steps }

  -- ---- what is all that can be found out

  module _ (ps : List Alias) (l : Log) (good : IsGood l) (all : IsAll A ps l) where
    settled_at : (i : ℕ) (p : Alias) → slice_get ps i ≡ Some p → IsSettled A l p
    settled_at i p at = each_get (IsSettled A l) ps i p all.settled at

    steps_told : (ms : List Log) (k m : Log) → Tells l k → AreSteps A ps ms k m → Tells l m
    steps_told [] k m tells e = λ s h. subst (Solves s) (sym e) (tells s h)
    steps_told (x ∷ ms) k m tells ((i, p, at, st), h) = steps_told ms x m on h
      where
        on : Tells l x
        on s solves = st.unified.general s (tells s solves) (told_equal f n k l p st.type good tells (settled_at i p at) st.reads s solves)

    -- is no less than what else was
    found_told : (a b : Term) (m : Log) → IsFound A ps a b l → IsFound A ps a b m → Tells l m
    found_told a b m h g = steps_told g.states g.first m first g.steps
      where
        first : Tells l g.first
        first s solves = g.unified.general s tt (h.unified.unifies s (steps_keep A ps h.states h.first l h.steps s solves))

    no_step_none : (m : Log) → Tells l m → IsNoStep A ps m → ⊥
    no_step_none m tells (i, p, at, st) =
        let s = solution l in
        let solves = solution_solves l good.triangular in
        st.none s (solution_respects l good.triangular) (tells s solves) (told_equal f n m l p st.type good tells (settled_at i p at) st.reads s solves)

    goal_same : (m : Log) → Tells l m → (p : Alias) → asked_at (solution l) (goal_of m p) ≡ goal_of l p
    goal_same m tells p =
        let w = pair p.args (hole (hole_of.Ty p.hole)) in
        ap (λ (t : Term). let g : Asked = record { kind = (goal_of l p).kind; parts = t } in g) (resolved_apply (solution l) m w (tells (solution l) (solution_solves l good.triangular)) ∙ solution_apply l w)

    no_stays : (m : Log) → Tells l m → (p : Alias) → v.No (goal_of m p) → v.No (goal_of l p)
    no_stays m tells p h = subst v.No (goal_same m tells p) ((answers_stay f n (solution l) (good_fills l good)).no (goal_of m p) h)

    yes_stays : (m : Log) → Tells l m → (p : Alias) → v.Yes (goal_of m p) → v.Yes (goal_of l p)
    yes_stays m tells p h = subst v.Yes (goal_same m tells p) ((answers_stay f n (solution l) (good_fills l good)).yes (goal_of m p) h)

    -- so nothing refutes it in another way, where it has no goal that is No
    none_refutes : (a b : Term) (m : Log) → IsFound A ps a b l → IsFound A ps a b m → Each (λ p. v.No (goal_of l p) → ⊥) ps → IsRefuted v ps m → ⊥
    none_refutes a b m h g undecided (inl st) = no_step_none m (found_told a b m h g) st
    none_refutes a b m h g undecided (inr refuted) = some_each (λ p x y. y (no_stays m (found_told a b m h g) p x)) ps refuted.1 undecided

    -- nor is it open where all are Yes
    none_open : (a b : Term) (m : Log) → IsFound A ps a b l → IsFound A ps a b m → Each (λ p. v.Yes (goal_of m p)) ps → SomeOf (λ p. v.Yes (goal_of l p) → ⊥) ps → ⊥
    none_open a b m h g proved undecided = some_each (λ p x y. x (yes_stays m (found_told a b m h g) p y)) ps undecided proved

  -- ---- outcomes

  yes_not_no : (ps : List Alias) (l : Log) → Each (λ p. v.Yes (goal_of l p)) ps → Each (λ p. v.No (goal_of l p) → ⊥) ps
  yes_not_no ps l h = each_map (λ p y. (answers_are_one f n n).0 (goal_of l p) y) ps h

  module _ (ps : List Alias) (a b : Term) (read : IsRead a × IsRead b) where
    never_no : (l : Log) → IsFound A ps a b l → IsAll A ps l → HaveCommon a b → Each (λ p. v.No (goal_of l p) → ⊥) ps → Becomes v ps a b unification.No → ⊥
    never_no l h all common undecided (inl none) = none common
    never_no l h all common undecided (inr (m, g, refuted)) = none_refutes ps l (found_good ps a b l read h all.no_cycles) all a b m h g undecided refuted

    never_open : Becomes v ps a b unification.Yes → Becomes v ps a b unification.Undecided → ⊥
    never_open (m, g, rest, common, proved) (l, h, all, other, undecided) = none_open ps l (found_good ps a b l read h all.no_cycles) all a b m h g proved undecided.1

    yes_never_no : Becomes v ps a b unification.Yes → Becomes v ps a b unification.No → ⊥
    yes_never_no (l, h, all, common, proved) other = never_no l h all (common.0, common.1, common.3) (yes_not_no ps l proved) other

    open_never_no : Becomes v ps a b unification.Undecided → Becomes v ps a b unification.No → ⊥
    open_never_no (l, h, all, common, undecided) other = never_no l h all (common.0, common.1, common.3) undecided.0 other

    one_becomes : (found other : Unification) → Becomes v ps a b found → Becomes v ps a b other → other ≡ found
    one_becomes unification.No unification.No x y = refl
    one_becomes unification.No unification.Undecided x y = absurd (open_never_no y x)
    one_becomes unification.No unification.Yes x y = absurd (yes_never_no y x)
    one_becomes unification.Undecided unification.No x y = absurd (open_never_no x y)
    one_becomes unification.Undecided unification.Undecided x y = refl
    one_becomes unification.Undecided unification.Yes x y = absurd (never_open y x)
    one_becomes unification.Yes unification.No x y = absurd (yes_never_no x y)
    one_becomes unification.Yes unification.Undecided x y = absurd (never_open x y)
    one_becomes unification.Yes unification.Yes x y = refl

-- ---- by answers that are the same

module _ (v w : Verdicts) (i : IsWithin v w) (j : IsWithin w v) (ps : List Alias) where
  step_across : (l l' : Log) → IsStep w.Alias ps l l' → IsStep v.Alias ps l l'
  step_across l l' (k, p, at, st) =
      (k, p, at, record { type = st.type; reads = reads_within w.Alias v.Alias j.alias hole (known_alias l p) st.type st.reads; unified = st.unified })

  steps_across : (ms : List Log) (l l' : Log) → AreSteps w.Alias ps ms l l' → AreSteps v.Alias ps ms l l'
  steps_across [] l l' e = e
  steps_across (m ∷ ms) l l' h = (step_across l m h.0, steps_across ms m l' h.1)

  no_step_across : (l : Log) → IsNoStep w.Alias ps l → IsNoStep v.Alias ps l
  no_step_across l (k, p, at, st) =
      (k, p, at, record { type = st.type; reads = reads_within w.Alias v.Alias j.alias hole (known_alias l p) st.type st.reads; none = st.none })

  found_across : (a b : Term) (l : Log) → IsFound w.Alias ps a b l → IsFound v.Alias ps a b l
  found_across a b l h = record { first = h.first; unified = h.unified; states = h.states; steps = steps_across h.states h.first l h.steps }

  all_across : (l : Log) → IsAll w.Alias ps l → IsAll v.Alias ps l
  all_across l h = record {
    no_cycles = h.no_cycles;
    settled = each_map {P = IsSettled w.Alias l} {Q = IsSettled v.Alias l} (λ p k u r. k u (reads_within v.Alias w.Alias i.alias hole (known_alias l p) u r)) ps h.settled;
  }

  judged_across : (l : Log) (found : Unification) → AreJudged w ps l found → AreJudged v ps l found
  judged_across l unification.No h = some_map (λ p x. j.no (goal_of l p) x) ps h
  judged_across l unification.Undecided h = (
    each_map {P = λ p. w.No (goal_of l p) → ⊥} {Q = λ p. v.No (goal_of l p) → ⊥} (λ p k x. k (i.no (goal_of l p) x)) ps h.0,
    some_map {P = λ p. w.Yes (goal_of l p) → ⊥} {Q = λ p. v.Yes (goal_of l p) → ⊥} (λ p k x. k (i.yes (goal_of l p) x)) ps h.1,
  )
  judged_across l unification.Yes h = each_map (λ p x. j.yes (goal_of l p) x) ps h

  refuted_across : (l : Log) → IsRefuted w ps l → IsRefuted v ps l
  refuted_across l (inl h) = inl (no_step_across l h)
  refuted_across l (inr h) = inr (all_across l h.0, judged_across l unification.No h.1)

  becomes_across : (a b : Term) (found : Unification) → Becomes w ps a b found → Becomes v ps a b found
  becomes_across a b unification.No (inl h) = inl h
  becomes_across a b unification.No (inr (l, h, refuted)) = inr (l, found_across a b l h, refuted_across l refuted)
  becomes_across a b unification.Undecided (l, h, all, common, judged) = (l, found_across a b l h, all_across l all, common, judged_across l unification.Undecided judged)
  becomes_across a b unification.Yes (l, h, all, common, judged) = (l, found_across a b l h, all_across l all, common, judged_across l unification.Yes judged)

-- ---- of two types

-- they are opened in one way
same_opened : (v : Verdicts) (a b : Term) (ps qs : List Alias) (t u x y : Term) (found : Unification) → AreOpened a b ps t u → AreOpened a b qs x y → Becomes v qs x y found → Becomes v ps t u found
same_opened v a b ps qs t u x y found h g z =
    let P : List Alias → Type 0 = λ k. Becomes v k x y found in
    let Q : Term → Type 0 = λ k. Becomes v ps k y found in
    let R : Term → Type 0 = λ k. Becomes v ps t k found in
    subst R (g.right ∙ sym h.right) (subst Q (g.left ∙ sym h.left) (subst P (g.aliases ∙ sym h.aliases) z))

pub one_outcome : (raw : RawFacts) (item : GenericDefId) (a b : Ty) (found : Unification) → IsUnification raw item a b found → IsOnlyOutcome raw item a b found
one_outcome raw item a b found h other g =
    let n = raw.limits.goal_depth in
    let x = h.becomes in
    let y = g.becomes in
    let there = becomes_across (answers h.sources n) (answers g.sources n) (same_answers raw item h.sources g.sources h.given g.given n) (same_answers raw item g.sources h.sources g.given h.given n) y.aliases y.left y.right other y.becomes in
    let here = same_opened (answers h.sources n) (term a) (term b) x.aliases y.aliases x.left x.right y.left y.right other x.opened y.opened there in
    one_becomes h.sources n x.aliases x.left x.right (types_read a b (term a) (term b) x.aliases x.left x.right refl refl x.opened) found other x.becomes here

-- with what was found of the item
pub only_by : (raw r q : RawFacts) (item j : GenericDefId) (s t : Sources) (a b : Ty) (x y : Term) (ps : List Alias) (u w : Term) (found : Unification) → r ≡ raw → q ≡ raw → j ≡ item → t ≡ s
    → IsSystemOf r j (system s) → x ≡ term a → y ≡ term b → AreOpened x y ps u w → Becomes (answers (system t) q.limits.goal_depth) ps u w found → IsOnlyOutcome raw item a b found
only_by raw r q item j s t a b x y ps u w found facts same the by of left right opened h =
    let given : IsSystemOf raw item (system s) = subst (λ (z : GenericDefId). IsSystemOf raw z (system s)) the (subst (λ (z : RawFacts). IsSystemOf z j (system s)) facts of) in
    let becomes = subst (λ (z : Sources). Becomes (answers (system z) raw.limits.goal_depth) ps u w found) by (subst (λ (z : RawFacts). Becomes (answers (system t) z.limits.goal_depth) ps u w found) same h) in
    let open_left : AreOpened (term a) y ps u w = subst (λ (z : Term). AreOpened z y ps u w) left opened in
    one_outcome raw item a b found (record {
      sources = system s;
      given = given;
      becomes = record { aliases = ps; left = u; right = w; opened = subst (λ (z : Term). AreOpened (term a) z ps u w) right open_left; becomes = becomes };
    })

-- ---- tests

pub only_test : (test : Unification → Bool) (raw : RawFacts) (item : GenericDefId) (a b : Ty) (is : Bool) → IsTestOf test raw item a b is → IsOnlyTestOf test raw item a b is
only_test test raw item a b is h other g = g.2 ∙ ap test (one_outcome raw item a b h.0 h.1 g.0 g.1) ∙ sym h.2

deeply_could : (found : Unification) → IsTrue (deeply found) → IsTrue (could found)
deeply_could unification.No t = t
deeply_could unification.Undecided t = refl
deeply_could unification.Yes t = refl

pub only_where_could : (raw : RawFacts) (item : GenericDefId) (a b : Ty) (is : Bool) → IsTestOf deeply raw item a b is → OnlyWhere could raw item a b is
only_where_could raw item a b is h t other g = g.2 ∙ ap could (one_outcome raw item a b h.0 h.1 g.0 g.1) ∙ deeply_could h.0 (sym h.2 ∙ t)
