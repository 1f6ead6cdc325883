-- What becomes of goals, one after another.
use Rattle.std.specs.Prelude.{◌≡◌, ◌⊎◌, ◌+◌, ◌++◌, ℕ, List, [], ◌∷◌, length, map, slice_get, Option, Some}
use Rattle.std.proofs.Common.{inl, inr, refl, sym, ap, ◌∙◌, subst, arith, append-nil, length-append}
use Rattle.std.proofs.lemmas.List.{map-append}
use Rattle.infer_needs.specs.Words.{ExprOrPatId, GenericDefId, TypeAliasId, Goal, GenericArg, Ty, Same, Term, pair, chain, arg_term, term, RawBody, RawExpr, RawFacts, IsFront, Asked, System, projects, answers, Proof, Answer, asked_goal, IsAnswer, AddsProofs, IsWritten, Gap, InferenceResult, IsListedAs, GoalReads, HasEntry, stays_at, NoneIsLeft, Saying, clashes, gap_says, needs_of, needs_at, pat_needs_at, recorded, AllTypes, Scope}
use Rattle.hir_types.specs.declared.ids.ExprOrPatId.TheVariants as node
use Rattle.hir_types.specs.declared.goal.Goal.TheVariants as goal
use Rattle.hir_types.specs.declared.ty.Ty.TheVariants as ty
use Rattle.infer_needs.proofs.Words.{get_left, get_last, get_more, front_itself, answers_are_one}
use Rattle.infer_needs.specs.Words.goal_search.declared.answer.Answer.TheVariants as answer
use Rattle.infer_needs.specs.Own.{FindsIn, Lists, IsProvable, AreProvable, unproved, clash, IsAmong, IsSaidOnce, IsSaidUnlessMay, ReadsAbout, SaysAlias, IsNoted, HasProofOf, IsSaid, IsSaidClash, IsDone, IsJudged, IsEntry, AddsEntries, IsSaidBy, ComeFrom, IsOfFailing, IsOfClash, AreDone, AreJudged, AreAllJudged, ArePatsJudged, first_pat_needs, HasCauseAsIs}
use Rattle.infer_needs.proofs.Adding.{adds_none, adds_then, front_get, has_later, listed_later, entry_later, entries_later, lists_none, lists_then}
use Rattle.infer_needs.proofs.ReadGoals.{goal_is_read, reads_same}
use Rattle.infer_needs.proofs.Leaving.{table_later}
use Rattle.infer_needs.proofs.Coming.{from_then}
use Rattle.infer_needs.proofs.Telling.{first_pat_more}

-- ---- what stays so

clash_later : (e : ExprOrPatId) (gs hs : List Gap) (a : Asked) → IsFront gs hs → IsSaidClash e gs a → IsSaidClash e hs a
clash_later e gs hs a p h = (h.0, h.1, h.2, h.3, h.4, front_get gs hs p h.0 (clash e (ty.Projection h.1 h.2) h.3 h.4) h.5, h.6)

-- what became of a goal
done_later : (sc : Scope) (f : System) (n : ℕ) (e : ExprOrPatId) (ps qs : List Proof) (js ks : List (Ty × Ty)) (gs hs : List Gap) (a : Asked) → IsFront ps qs → IsFront js ks → IsFront gs hs → IsDone sc f n e ps js gs a → IsDone sc f n e qs ks hs a
done_later sc f n e ps qs js ks gs hs a p l g (inl h) =
    inl (has_later ps qs a p h.0, λ b about. elim (h.1 b about) [ inl k ↦ inl (entry_later js ks b l k) | inr k ↦ inr (clash_later e gs hs b g k) ])
done_later sc f n e ps qs js ks gs hs a p l g (inr (inl h)) = inr (inl (h.0, h.1, front_get gs hs g h.0 (unproved e h.1) h.2, h.3))
done_later sc f n e ps qs js ks gs hs a p l g (inr (inr h)) = inr (inr h)

-- ---- one goal

-- of this goal, which fails
abbrev FailsNow : Scope → System → ℕ → ExprOrPatId → Goal → Gap → Type 0
FailsNow sc f n e q x = (x ≡ unproved e q) × HasCauseAsIs sc f n (asked_goal q) × ((answers f n).Yes (asked_goal q) → ⊥)

-- of what this goal reads as, which has a proof, and asks an associated type to be another type than is listed
record ClashesNow (f : System) (n : ℕ) (e : ExprOrPatId) (q : Goal) (qs : List Proof) (ks : List (Ty × Ty)) (x : Gap) : Type 0 where
  alias : TypeAliasId
  args : List GenericArg
  first : Ty
  second : Ty
  is : x ≡ clash e (ty.Projection alias args) first second
  listed : IsListedAs ks alias args first
  reads : GoalReads f n (asked_goal q) (asked_goal (goal.Projection alias args second))
  proved : HasProofOf qs (asked_goal (goal.Projection alias args second))
  differ : Same first second → ⊥
  other : term second ≡ stays_at alias args → ⊥
  written : IsWritten (asked_goal (goal.Projection alias args second)).parts

abbrev IsTrueNow : Scope → System → ℕ → ExprOrPatId → Goal → List Proof → List (Ty × Ty) → Gap → Type 0
IsTrueNow sc f n e q qs ks x = FailsNow sc f n e q x ⊎ ClashesNow f n e q qs ks x

-- no more is said, or what is so, and of which nothing was said
abbrev Says : Scope → System → ℕ → ExprOrPatId → Goal → List Proof → List (Ty × Ty) → List Gap → List Gap → Type 0
Says sc f n e q qs ks gs hs = (hs ≡ gs) ⊎ ((x : Gap) × (hs ≡ gs ++ x ∷ []) × IsTrueNow sc f n e q qs ks x × (IsAmong gs (gap_says x) → ⊥))

-- what is said at the node
abbrev IsAt : ExprOrPatId → Gap → Type 0
IsAt e x = ((q : Goal) × (x ≡ unproved e q)) ⊎ ((a : Ty) × (t : Ty) × (u : Ty) × (x ≡ clash e a t u))

abbrev AreAt : ExprOrPatId → List Gap → Type 0
AreAt e gs = (k : ℕ) (x : Gap) → slice_get gs k ≡ Some x → IsAt e x

said_by : (e : ExprOrPatId) (gs : List Gap) (q : Goal) (k : ℕ) (x : Gap) → slice_get gs k ≡ Some x → gap_says x ≡ gap_says (unproved e q) → IsAt e x → IsSaid e gs (asked_goal q)
said_by e gs q k x at says (inl h) =
    let same : gap_says (unproved e h.0) ≡ gap_says (unproved e q) = ap gap_says (sym h.1) ∙ says in
    (k, h.0, at ∙ ap Some h.1, cc)
said_by e gs q k x at says (inr h) = (let other : gap_says (clash e h.0 h.1 h.2) ≡ gap_says (unproved e q) = ap gap_says (sym h.3) ∙ says in cc)

among_said : (e : ExprOrPatId) (gs : List Gap) (q : Goal) → AreAt e gs → IsAmong gs (gap_says (unproved e q)) → IsSaid e gs (asked_goal q)
among_said e gs q here h = said_by e gs q h.0 h.1 h.2 h.3 (here h.0 h.1 h.2)

-- the same of an associated type
module _ (e : ExprOrPatId) (gs : List Gap) (k : TypeAliasId) (xs : List GenericArg) (t u : Ty) where
  abbrev said : Saying
  said = gap_says (clash e (ty.Projection k xs) t u)

  clash_by : (n : ℕ) (x : Gap) → slice_get gs n ≡ Some x → gap_says x ≡ said → IsAt e x → IsSaidClash e gs (asked_goal (goal.Projection k xs u))
  clash_by n x at says (inl h) = (let other : gap_says (unproved e h.0) ≡ said = ap gap_says (sym h.1) ∙ says in cc)
  clash_by n x at says (inr h) =
      let same : clashes h.0 h.2 ≡ clashes (ty.Projection k xs) u = ap gap_says (sym h.3) ∙ says in
      let left : h.0 ≡ ty.Projection k xs = cc in
      let right : h.2 ≡ u = cc in
      (n, k, xs, h.1, h.2, at ∙ ap Some (h.3 ∙ ap (λ z. clash e z h.1 h.2) left), ap (λ z. asked_goal (goal.Projection k xs z)) right)

  clash_said : (hs : List Gap) → AreAt e gs → IsSaidOnce (clash e (ty.Projection k xs) t u) gs hs → IsSaidClash e hs (asked_goal (goal.Projection k xs u))
  clash_said hs here (inl h) = (let m = h.1 in subst (λ zs. IsSaidClash e zs (asked_goal (goal.Projection k xs u))) (sym h.0) (clash_by m.0 m.1 m.2 m.3 (here m.0 m.1 m.2)))
  clash_said hs here (inr h) =
      (length gs, k, xs, t, u, subst (λ zs. slice_get zs (length gs) ≡ Some (clash e (ty.Projection k xs) t u)) (sym h.0) (get_last gs (clash e (ty.Projection k xs) t u)), refl)

module _ (raw : RawFacts) (sc : Scope) (f : System) (e : ExprOrPatId) (q : Goal) (ps qs : List Proof) (js ks : List (Ty × Ty)) (gs hs : List Gap) where
  abbrev deep : ℕ
  deep = raw.limits.goal_depth

  judged_adds : IsJudged raw sc f e q ps qs js ks gs hs → AddsProofs raw f ps qs
  judged_adds (inl h) = h.adds
  judged_adds (inr h) = subst (AddsProofs raw f ps) (sym h.proofs) (adds_none raw f ps)

  -- ---- what is listed

  new_entry : (s : SaysAlias f deep (asked_goal q) qs) → IsEntry qs (ty.Projection s.alias s.args, s.type)
  new_entry s = record {
    alias = s.alias;
    args = s.args;
    is = refl;
    proved = s.proved;
    read = goal_is_read f deep (asked_goal q) (asked_goal (goal.Projection s.alias s.args s.type)) s.reads;
    known = s.known;
    other = s.other;
    written = s.written;
  }

  one_entry : AddsProofs raw f ps qs → (s : SaysAlias f deep (asked_goal q) qs) → ks ≡ js ++ (ty.Projection s.alias s.args, s.type) ∷ [] → AddsEntries ps qs js ks
  one_entry adds s is =
      let y : Ty × Ty = (ty.Projection s.alias s.args, s.type) in
      record {
        behind = (y ∷ [], is);
        right = λ h k x at. elim (get_more js y k x (subst (λ zs. slice_get zs k ≡ Some x) is at)) [
          | inl l ↦ entries_later ps qs js adds.behind h k x l
          | inr l ↦ subst (IsEntry qs) l.1 (new_entry s)
        ];
      }

  same_entries : AddsProofs raw f ps qs → ks ≡ js → AddsEntries ps qs js ks
  same_entries adds is = subst (AddsEntries ps qs js) (sym is) (lists_none ps qs js adds.behind)

  noted_lists : AddsProofs raw f ps qs → IsNoted f deep e (asked_goal q) qs js ks gs hs → AddsEntries ps qs js ks
  noted_lists adds (inl h) = same_entries adds h.0
  noted_lists adds (inr (s, inl h)) = one_entry adds s h.0
  noted_lists adds (inr (s, inr h)) = same_entries adds h.0

  judged_lists : IsJudged raw sc f e q ps qs js ks gs hs → AddsEntries ps qs js ks
  judged_lists (inl h) = noted_lists h.adds h.noted
  judged_lists (inr h) = same_entries (subst (AddsProofs raw f ps) (sym h.proofs) (adds_none raw f ps)) h.listed

  -- what is said is what the goal reads as
  new_from : (s : SaysAlias f deep (asked_goal q) qs) → ks ≡ js ++ (ty.Projection s.alias s.args, s.type) ∷ [] → ComeFrom f deep (asked_goal q ∷ []) js ks
  new_from s is k x at =
      let y : Ty × Ty = (ty.Projection s.alias s.args, s.type) in
      elim (get_more js y k x (subst (λ zs. slice_get zs k ≡ Some x) is at)) [
        | inl l ↦ inl l
        | inr l ↦ inr (subst (IsSaidBy f deep (asked_goal q ∷ [])) l.1 (record { alias = s.alias; args = s.args; is = refl; need = asked_goal q; at = 0; among = refl; reads = s.reads }))
      ]

  same_from : ks ≡ js → ComeFrom f deep (asked_goal q ∷ []) js ks
  same_from is k x at = inl (subst (λ zs. slice_get zs k ≡ Some x) is at)

  noted_from : IsNoted f deep e (asked_goal q) qs js ks gs hs → ComeFrom f deep (asked_goal q ∷ []) js ks
  noted_from (inl h) = same_from h.0
  noted_from (inr (s, inl h)) = new_from s h.0
  noted_from (inr (s, inr h)) = same_from h.0

  judged_from : IsJudged raw sc f e q ps qs js ks gs hs → ComeFrom f deep (asked_goal q ∷ []) js ks
  judged_from (inl h) = noted_from h.noted
  judged_from (inr h) = same_from h.listed

  -- ---- what is said

  once_says : (x : Gap) → IsTrueNow sc f deep e q qs ks x → IsSaidOnce x gs hs → Says sc f deep e q qs ks gs hs
  once_says x is (inl h) = inl h.0
  once_says x is (inr h) = inr (x, h.0, is, h.1)

  said_says : ((answers f deep).Yes (asked_goal q) → ⊥) → IsSaidUnlessMay sc f deep e q gs hs → Says sc f deep e q qs ks gs hs
  said_says fails (inl h) = inl h.1
  said_says fails (inr h) = once_says (unproved e q) (inl (refl, h.0, fails)) h.1

  clash_now : (s : SaysAlias f deep (asked_goal q) qs) (t : Ty) → ks ≡ js → FindsIn js (ty.Projection s.alias s.args) (Some t) → (Same t s.type → ⊥)
      → IsTrueNow sc f deep e q qs ks (clash e (ty.Projection s.alias s.args) t s.type)
  clash_now s t is finds differ = inr (record {
    alias = s.alias;
    args = s.args;
    first = t;
    second = s.type;
    is = refl;
    listed = subst (λ zs. IsListedAs zs s.alias s.args t) (sym is) finds;
    reads = s.reads;
    proved = s.proved;
    differ = differ;
    other = s.other;
    written = s.written;
  })

  noted_says : IsNoted f deep e (asked_goal q) qs js ks gs hs → Says sc f deep e q qs ks gs hs
  noted_says (inl h) = inl h.1
  noted_says (inr (s, inl h)) = inl h.1
  noted_says (inr (s, inr h)) = elim h.3 [
    | inl k ↦ inl k.1
    | inr k ↦ once_says (clash e (ty.Projection s.alias s.args) h.1 s.type) (clash_now s h.1 h.0 h.2 k.0) k.1
  ]

  judged_says : IsJudged raw sc f e q ps qs js ks gs hs → Says sc f deep e q qs ks gs hs
  judged_says (inl h) = noted_says h.noted
  judged_says (inr h) = said_says h.fails h.said

  -- ---- what becomes of it

  abbrev alias_asks : SaysAlias f deep (asked_goal q) qs → Term → Asked
  alias_asks s w = record { kind = projects s.alias; parts = pair (chain (map arg_term s.args)) w }

  noted_done : AreAt e gs → IsNoted f deep e (asked_goal q) qs js ks gs hs → (b : Asked) → ReadsAbout f deep (asked_goal q) b → HasEntry ks b ⊎ IsSaidClash e hs b
  noted_done here (inl h) b about = absurd (h.2 b about)
  noted_done here (inr (s, inl h)) b about =
      let y : Ty × Ty = (ty.Projection s.alias s.args, s.type) in
      let same = reads_same f deep (asked_goal q) b about.reads (alias_asks s (term s.type)) s.reads in
      inl (s.alias, s.args, s.type, (length js, subst (λ zs. slice_get zs (length js) ≡ Some y) (sym h.0) (get_last js y)), same)
  noted_done here (inr (s, inr h)) b about =
      let same = reads_same f deep (asked_goal q) b about.reads (alias_asks s (term s.type)) s.reads in
      elim h.3 [
        | inl k ↦ inl (s.alias, s.args, h.1, subst (λ zs. IsListedAs zs s.alias s.args h.1) (sym h.0) h.2, ap (alias_asks s) k.0 ∙ same)
        | inr k ↦ inr (subst (IsSaidClash e hs) same (clash_said e gs s.alias s.args h.1 s.type hs here k.1))
      ]

  said_done : AreAt e gs → IsSaidUnlessMay sc f deep e q gs hs → IsDone sc f deep e qs ks hs (asked_goal q)
  said_done here (inl h) = inr (inr h.0)
  said_done here (inr h) = elim h.1 [
    | inl k ↦ inr (inl (subst (λ zs. IsSaid e zs (asked_goal q)) (sym k.0) (among_said e gs q here k.1)))
    | inr k ↦ inr (inl (length gs, q, subst (λ zs. slice_get zs (length gs) ≡ Some (unproved e q)) (sym k.0) (get_last gs (unproved e q)), refl))
  ]

  judged_done : AreAt e gs → IsJudged raw sc f e q ps qs js ks gs hs → IsDone sc f deep e qs ks hs (asked_goal q)
  judged_done here (inl h) = inl (h.has, noted_done here h.noted)
  judged_done here (inr h) = said_done here h.said

says_front : (sc : Scope) (f : System) (n : ℕ) (e : ExprOrPatId) (q : Goal) (qs : List Proof) (ks : List (Ty × Ty)) (gs hs : List Gap) → Says sc f n e q qs ks gs hs → IsFront gs hs
says_front sc f n e q qs ks gs hs (inl h) = subst (IsFront gs) (sym h) (front_itself gs)
says_front sc f n e q qs ks gs hs (inr h) = (h.0 ∷ [], h.1)

-- where its answer isn't Yes
pub refused : (raw : RawFacts) (sc : Scope) (f : System) (e : ExprOrPatId) (q : Goal) (ps : List Proof) (js : List (Ty × Ty)) (gs hs : List Gap) → ((answers f raw.limits.goal_depth).Yes (asked_goal q) → ⊥) → IsSaidUnlessMay sc f raw.limits.goal_depth e q gs hs
    → IsJudged raw sc f e q ps ps js js gs hs
refused raw sc f e q ps js gs hs fails said = inr (record { proofs = refl; listed = refl; fails = fails; said = said })

pub not_yes : (f : System) (n : ℕ) (a : Asked) (x : Answer) → (x ≡ answer.No) ⊎ (x ≡ answer.Undecided) → IsAnswer f n a x → (answers f n).Yes a → ⊥
not_yes f n a x (inl e) is holds = (answers_are_one f n n).0 a holds (subst (IsAnswer f n a) e is)
not_yes f n a x (inr e) is holds = (subst (IsAnswer f n a) e is).0 holds

-- ---- the goals of a node

pub judged_none : (raw : RawFacts) (sc : Scope) (f : System) (e : ExprOrPatId) (ps : List Proof) (js : List (Ty × Ty)) → AreJudged raw sc f e [] ps ps js js []
judged_none raw sc f e ps js = record {
  adds = adds_none raw f ps;
  lists = lists_none ps ps js (front_itself ps);
  from = λ k x at. inl at;
  done = record { each = λ k a at. cc; gaps = λ k x at. cc; once = λ j k x y at there e. cc };
}

module _ (raw : RawFacts) (sc : Scope) (f : System) (e : ExprOrPatId) (xs : List Asked) (q : Goal) (ps qs rs : List Proof) (js ks ls : List (Ty × Ty)) (gs hs : List Gap)
    (before : AreJudged raw sc f e xs ps qs js ks gs) (now : IsJudged raw sc f e q qs rs ks ls gs hs) where
  abbrev n : ℕ
  n = raw.limits.goal_depth

  abbrev bs : List Asked
  bs = xs ++ asked_goal q ∷ []

  says : Says sc f n e q rs ls gs hs
  says = judged_says raw sc f e q qs rs ks ls gs hs now

  adds : AddsProofs raw f qs rs
  adds = judged_adds raw sc f e q qs rs ks ls gs hs now

  lists : AddsEntries qs rs ks ls
  lists = judged_lists raw sc f e q qs rs ks ls gs hs now

  here : AreAt e gs
  here k x at = elim (before.done.gaps k x at) [
    | inl h ↦ inl (h.goal, h.is)
    | inr h ↦ inr (ty.Projection h.alias h.args, h.first, h.second, h.is)
  ]

  each : (k : ℕ) (a : Asked) → slice_get bs k ≡ Some a → IsDone sc f n e rs ls hs a
  each k a at = elim (get_more xs (asked_goal q) k a at) [
    | inl h ↦ done_later sc f n e qs rs ks ls gs hs a adds.behind lists.behind (says_front sc f n e q rs ls gs hs says) (before.done.each k a h)
    | inr h ↦ subst (IsDone sc f n e rs ls hs) h.1 (judged_done raw sc f e q qs rs ks ls gs hs here now)
  ]

  more : (x : Gap) → IsOfFailing sc f n e xs x ⊎ IsOfClash f n e xs qs ks x → IsOfFailing sc f n e bs x ⊎ IsOfClash f n e bs rs ls x
  more x (inl h) = inl (record {
    goal = h.goal;
    is = h.is;
    at = h.at;
    among = get_left xs (asked_goal q ∷ []) h.at (asked_goal h.goal) h.among;
    known = h.known;
    fails = h.fails;
  })
  more x (inr h) = inr (record {
    alias = h.alias;
    args = h.args;
    first = h.first;
    second = h.second;
    is = h.is;
    listed = listed_later ks ls h.alias h.args h.first lists.behind h.listed;
    need = h.need;
    at = h.at;
    among = get_left xs (asked_goal q ∷ []) h.at h.need h.among;
    reads = h.reads;
    proved = has_later qs rs (asked_goal (goal.Projection h.alias h.args h.second)) adds.behind h.proved;
    differ = h.differ;
    other = h.other;
    written = h.written;
  })

  gap_now : (y x : Gap) → y ≡ x → IsTrueNow sc f n e q rs ls y → IsOfFailing sc f n e bs x ⊎ IsOfClash f n e bs rs ls x
  gap_now y x is (inl h) = inl (record { goal = q; is = sym is ∙ h.0; at = length xs; among = get_last xs (asked_goal q); known = h.1; fails = h.2 })
  gap_now y x is (inr h) = inr (record {
    alias = h.alias;
    args = h.args;
    first = h.first;
    second = h.second;
    is = sym is ∙ h.is;
    listed = h.listed;
    need = asked_goal q;
    at = length xs;
    among = get_last xs (asked_goal q);
    reads = h.reads;
    proved = h.proved;
    differ = h.differ;
    other = h.other;
    written = h.written;
  })

  gap_by : Says sc f n e q rs ls gs hs → (k : ℕ) (x : Gap) → slice_get hs k ≡ Some x → IsOfFailing sc f n e bs x ⊎ IsOfClash f n e bs rs ls x
  gap_by (inl h) k x at = more x (before.done.gaps k x (subst (λ zs. slice_get zs k ≡ Some x) h at))
  gap_by (inr h) k x at = elim (get_more gs h.0 k x (subst (λ zs. slice_get zs k ≡ Some x) h.1 at)) [
    | inl l ↦ more x (before.done.gaps k x l)
    | inr l ↦ gap_now h.0 x l.1 h.2
  ]

  -- of what was said nothing is said again
  once_by : Says sc f n e q rs ls gs hs → (j k : ℕ) (x y : Gap) → slice_get hs j ≡ Some x → slice_get hs k ≡ Some y → gap_says x ≡ gap_says y → j ≡ k
  once_by (inl h) j k x y at there same =
      before.done.once j k x y (subst (λ zs. slice_get zs j ≡ Some x) h at) (subst (λ zs. slice_get zs k ≡ Some y) h there) same
  once_by (inr h) j k x y at there same =
      elim (get_more gs h.0 j x (subst (λ zs. slice_get zs j ≡ Some x) h.1 at)) [
        | inl l ↦ elim (get_more gs h.0 k y (subst (λ zs. slice_get zs k ≡ Some y) h.1 there)) [
          | inl m ↦ before.done.once j k x y l m same
          | inr m ↦ absurd (h.3 (j, x, l, same ∙ ap gap_says (sym m.1)))
        ]
        | inr l ↦ elim (get_more gs h.0 k y (subst (λ zs. slice_get zs k ≡ Some y) h.1 there)) [
          | inl m ↦ absurd (h.3 (k, y, m, sym same ∙ ap gap_says (sym l.1)))
          | inr m ↦ l.0 ∙ sym m.0
        ]
      ]

  pub judged_more : AreJudged raw sc f e bs ps rs js ls hs
  judged_more = record {
    adds = adds_then raw f ps qs rs before.adds adds;
    lists = lists_then ps qs rs js ks ls before.lists lists;
    from = from_then f n xs (asked_goal q ∷ []) js ks ls before.from (judged_from raw sc f e q qs rs ks ls gs hs now);
    done = record { each = each; gaps = gap_by says; once = once_by says };
  }

-- ---- at a place

pub judged_here : (raw : RawFacts) (sc : Scope) (f : System) (b : RawBody) (r : InferenceResult) (n : ℕ) (x : RawExpr) (ps qs : List Proof) (js ks : List (Ty × Ty)) (gs : List Gap) → slice_get b.exprs n ≡ Some x
    → AreJudged raw sc f (node.ExprId (record { 0 = n })) (needs_of raw (Some x) (recorded r.type_of_expr n)) ps qs js ks gs → AreJudged raw sc f (node.ExprId (record { 0 = n })) (needs_at raw b r n) ps qs js ks gs
judged_here raw sc f b r n x ps qs js ks gs at h = subst (λ (o : Option RawExpr). AreJudged raw sc f (node.ExprId (record { 0 = n })) (needs_of raw o (recorded r.type_of_expr n)) ps qs js ks gs) (sym at) h

-- at this node, whose goals these are
pub judged_at : (raw : RawFacts) (sc : Scope) (f : System) (d e : ExprOrPatId) (xs bs : List Asked) (ps qs : List Proof) (js ks : List (Ty × Ty)) (gs : List Gap) → d ≡ e → xs ≡ bs → AreJudged raw sc f d xs ps qs js ks gs → AreJudged raw sc f e bs ps qs js ks gs
judged_at raw sc f d e xs bs ps qs js ks gs here are h = subst (λ n. AreJudged raw sc f n bs ps qs js ks gs) here (subst (λ zs. AreJudged raw sc f d zs ps qs js ks gs) are h)

-- ---- goals of an iterator

each_next : (ys : List Goal) (x : Goal) (more : List Goal) → AreProvable (map asked_goal (ys ++ x ∷ more)) → IsProvable (asked_goal x)
each_next [] x more h = h.0
each_next (y ∷ ys) x more h = each_next ys x more h.1

-- the next one can be proved, as all can
pub next_provable : (xs : List Asked) (ys rest more gs : List Goal) (x : Goal) → AreProvable xs → map asked_goal gs ≡ xs → ys ++ rest ≡ gs → rest ≡ x ∷ more → IsProvable (asked_goal x)
next_provable xs ys rest more gs x h is whole next = each_next ys x more (subst AreProvable (sym is ∙ ap (λ zs. map asked_goal zs) (sym whole ∙ ap (λ zs. ys ++ zs) next)) h)

-- where none is left these were all
pub all_asked : (xs : List Asked) (ys rest gs : List Goal) → map asked_goal gs ≡ xs → ys ++ rest ≡ gs → rest ≡ [] → map asked_goal ys ≡ xs
all_asked xs ys rest gs is whole none = ap (λ zs. map asked_goal zs) (sym (append-nil ys) ∙ (ap (λ zs. ys ++ zs) (sym none) ∙ whole)) ∙ is

pub asked_more : (ys : List Goal) (x : Goal) → map asked_goal ys ++ asked_goal x ∷ [] ≡ map asked_goal (ys ++ x ∷ [])
asked_more ys x = sym (map-append asked_goal ys (x ∷ []))

-- ---- the nodes of a body

pub done_still : (sc : Scope) (f : System) (n : ℕ) (e : ExprOrPatId) (xs : List Asked) (ps qs : List Proof) (js ks : List (Ty × Ty)) (gs : List Gap) → IsFront ps qs → IsFront js ks → AreDone sc f n e xs ps js gs → AreDone sc f n e xs qs ks gs
done_still sc f n e xs ps qs js ks gs p l h = record {
  each = λ k a at. done_later sc f n e ps qs js ks gs gs a p l (front_itself gs) (h.each k a at);
  gaps = λ k x at. elim (h.gaps k x at) [
    | inl g ↦ inl g
    | inr g ↦ inr (record {
      alias = g.alias;
      args = g.args;
      first = g.first;
      second = g.second;
      is = g.is;
      listed = listed_later js ks g.alias g.args g.first l g.listed;
      need = g.need;
      at = g.at;
      among = g.among;
      reads = g.reads;
      proved = has_later ps qs (asked_goal (goal.Projection g.alias g.args g.second)) p g.proved;
      differ = g.differ;
      other = g.other;
      written = g.written;
    })
  ];
  once = h.once;
}

-- the gaps of each of the first nodes, and those of one more
module _ (sc : Scope) (f : System) (depth : ℕ) (at_place : ℕ → ExprOrPatId) (needs : ℕ → List Asked) (ps qs : List Proof) (js ks : List (Ty × Ty)) (gss : List (List Gap)) (gs : List Gap) (n : ℕ) (long : length gss ≡ n) where
  abbrev AllDone : List Proof → List (Ty × Ty) → List (List Gap) → Type 0
  AllDone ds es hss = (k : ℕ) (hs : List Gap) → slice_get hss k ≡ Some hs → AreDone sc f depth (at_place k) (needs k) ds es hs

  each_more : IsFront ps qs → IsFront js ks → AllDone ps js gss → AreDone sc f depth (at_place n) (needs n) qs ks gs → AllDone qs ks (gss ++ gs ∷ [])
  each_more proofs entries before now k hs at = elim (get_more gss gs k hs at) [
    | inl h ↦ done_still sc f depth (at_place k) (needs k) ps qs js ks hs proofs entries (before k hs h)
    | inr h ↦ subst (AreDone sc f depth (at_place k) (needs k) qs ks) h.1 (subst (λ j. AreDone sc f depth (at_place j) (needs j) qs ks gs) (sym (h.0 ∙ long)) now)
  ]

  one_longer : length (gss ++ gs ∷ []) ≡ n + 1
  one_longer = let l : length (gss ++ gs ∷ []) ≡ length gss + 1 = length-append gss (gs ∷ []) in omega (arith, l, long)

pub all_none : (raw : RawFacts) (item : GenericDefId) (sc : Scope) (f : System) (b : RawBody) (r : InferenceResult) (ps : List Proof) (js : List (Ty × Ty)) → Lists raw item f (λ ks. AllTypes (NoneIsLeft f raw.limits.goal_depth ks) r) [] ps [] js → AreAllJudged raw sc f b r 0 ps js []
all_none raw item sc f b r ps js h = record {
  adds = h.adds.adds;
  entries = h.adds.lists.right (λ n x at. cc);
  left = h.none;
  long = refl;
  each = λ k gs at. cc;
}

module _ (raw : RawFacts) (sc : Scope) (f : System) (b : RawBody) (r : InferenceResult) (n : ℕ) (ps qs : List Proof) (js ks : List (Ty × Ty)) (gss : List (List Gap)) (gs : List Gap)
    (before : AreAllJudged raw sc f b r n ps js gss) (now : AreJudged raw sc f (node.ExprId (record { 0 = n })) (needs_at raw b r n) ps qs js ks gs) where
  pub all_more : AreAllJudged raw sc f b r (n + 1) qs ks (gss ++ gs ∷ [])
  all_more =
      let at_place : ℕ → ExprOrPatId = λ k. node.ExprId (record { 0 = k }) in
      record {
        adds = adds_then raw f [] ps qs before.adds now.adds;
        entries = now.lists.right before.entries;
        left = table_later f raw.limits.goal_depth js ks now.lists.behind r before.left;
        long = one_longer sc f raw.limits.goal_depth at_place (needs_at raw b r) ps qs js ks gss gs n before.long;
        each = each_more sc f raw.limits.goal_depth at_place (needs_at raw b r) ps qs js ks gss gs n before.long now.adds.behind now.lists.behind before.each now.done;
      }

-- the patterns come behind

pub pats_none : (raw : RawFacts) (sc : Scope) (f : System) (r : InferenceResult) (ps : List Proof) (js : List (Ty × Ty)) → ArePatsJudged raw sc f r 0 ps ps js js []
pats_none raw sc f r ps js = record { adds = adds_none raw f ps; lists = lists_none ps ps js (front_itself ps); from = λ k x at. inl at; long = refl; each = λ k gs at. cc }

module _ (raw : RawFacts) (sc : Scope) (f : System) (r : InferenceResult) (n : ℕ) (ps qs rs : List Proof) (js ks ls : List (Ty × Ty)) (gss : List (List Gap)) (gs : List Gap)
    (before : ArePatsJudged raw sc f r n ps qs js ks gss) (now : AreJudged raw sc f (node.PatId (record { 0 = n })) (pat_needs_at raw r n) qs rs ks ls gs) where
  pub pats_more : ArePatsJudged raw sc f r (n + 1) ps rs js ls (gss ++ gs ∷ [])
  pats_more =
      let at_place : ℕ → ExprOrPatId = λ k. node.PatId (record { 0 = k }) in
      record {
        adds = adds_then raw f ps qs rs before.adds now.adds;
        lists = lists_then ps qs rs js ks ls before.lists now.lists;
        from = subst (λ xs. ComeFrom f raw.limits.goal_depth xs js ls) (first_pat_more raw r n) (from_then f raw.limits.goal_depth (first_pat_needs raw r n) (pat_needs_at raw r n) js ks ls before.from now.from);
        long = one_longer sc f raw.limits.goal_depth at_place (pat_needs_at raw r) qs rs ks ls gss gs n before.long;
        each = each_more sc f raw.limits.goal_depth at_place (pat_needs_at raw r) qs rs ks ls gss gs n before.long now.adds.behind now.lists.behind before.each now.done;
      }
