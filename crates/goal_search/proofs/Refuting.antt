-- What a rule says of a goal, by what its side is found to be.
use Rattle.std.specs.Prelude.{not, IsTrue, MatchBool}
use Rattle.std.proofs.Common.{◌≡◌, inl, inr, ℕ, Bool, true, false, true≢false, refl, sym, ◌∙◌, subst, List}
use Rattle.goal_search.specs.Words.{Hole, Term, Fill, stands, Aliases, Reads, MayRead, Kind, Asked, Rule, System, asked_at, Each, SomeOf, Verdicts, NeverSame, IsRefuted, answers, known_below, HoldsAt, HasHeads, IsCommon, CanBeSame}
use Rattle.goal_search.specs.Words.goal_answers.Goals.{IsTold}
use Rattle.goal_search.specs.Words.goal_answers.Steps.{Tells}
use Rattle.goal_search.proofs.Words.{each_with, some_each, reads_may, reads_one, head_tells, key_tells, occurs_key, level, part_here, preds_here, reading_here, not_refuted_here}
use Rattle.goal_search.specs.Own.{Answer, Side, IsDone, FillsAreDone, PredIsDone, RuleHasHeads, SystemHasHeads, Decides, side_part, side_preds, HoldsNot}
use Rattle.goal_search.specs.declared.answer.Answer.TheVariants as answer
use Rattle.goal_search.specs.declared.rules.Side.TheVariants as side
use Rattle.goal_search.proofs.Heads.{key_heads}

-- ---- sides

pub side_tells : (s : Side) (r : Rule) → IsTold r → Tells r (side_part s r) (side_preds s r)
side_tells side.Whole r t = head_tells r t
side_tells side.Args r t = record { itself = λ k h. t.head k (occurs_key r.head.kind k r.head.parts h); preds = t.preds }
side_tells side.Key r t = key_tells r.head.kind r refl t

pub side_heads : (s : Side) (r : Rule) → RuleHasHeads r → HasHeads (side_part s r)
side_heads side.Whole r h = h.head
side_heads side.Args r h = key_heads r.head.kind r.head.parts h.head
side_heads side.Key r h = key_heads r.head.kind r.head.parts h.head

preds_heads : (s : Side) (r : Rule) → RuleHasHeads r → Each (λ q. HasHeads q.parts) (side_preds s r)
preds_heads side.Whole r h = h.preds
preds_heads side.Args r h = h.preds
preds_heads side.Key r h = tt

module _ (f : System) (heads : SystemHasHeads f) (n m : ℕ) (r : Rule) (rule_heads : RuleHasHeads r) (s : Side) (w : Term) where
  abbrev A : Aliases
  A = (answers f n).Alias

  abbrev v : Verdicts
  v = known_below f m

  abbrev t : Term
  t = side_part s r

  abbrev qs : List Asked
  qs = side_preds s r

  abbrev HoldsHere : Fill → Type 0
  HoldsHere p = HoldsAt A v r t qs w p

  abbrev Refuted : Type 0
  Refuted = IsRefuted A v r t qs w

  -- ---- what stands for the holes of a told rule

  module _ (q : Fill) (read : (k : Hole) → stands k t ≡ true → IsDone (q k)) (told : IsTold r) where
    pub fills_done : FillsAreDone q t
    fills_done k o = read k ((side_tells s r told).itself k o)

    pub preds_done : Each (PredIsDone q) qs
    preds_done = each_with (λ g tells h. record { heads = h; fills = λ k o. read k (tells k o) }) qs (side_tells s r told).preds (preds_heads s r rule_heads)

  -- ---- where it holds

  pub none_holds : ((p : Fill) → MayRead p t w → ⊥) → (p : Fill) → HoldsHere p → ⊥
  none_holds never_so p h = never_so p (reads_may A p t w h.part)

  pub untold_holds_not : (IsTold r → ⊥) → (p : Fill) → HoldsHere p → ⊥
  untold_holds_not never_so p h = never_so h.told

  module _ (q : Fill) (may : MayRead q t w) where
    pub open_holds_not : ((u : Term) → Reads A q t u → ⊥) → (p : Fill) → HoldsHere p → ⊥
    open_holds_not never_so p h = never_so w (part_here A v (level f n m) r t qs (side_tells s r) w q may p h)

    pub other_holds_not : (u : Term) → Reads A q t u → (u ≡ w → ⊥) → (p : Fill) → HoldsHere p → ⊥
    other_holds_not u i never_so p h = never_so (reading_here A v (level f n m) r t qs (side_tells s r) w q may p u i h)

    pub preds_hold_not : (a : Answer) → Decides (Each (λ g. v.Yes (asked_at q g)) qs) (SomeOf (λ g. v.No (asked_at q g)) qs) a → (a ≡ answer.Yes → ⊥) → (p : Fill) → HoldsHere p → ⊥
    preds_hold_not answer.Yes d never_so p h = never_so refl
    preds_hold_not answer.No d never_so p h = some_each (λ g x y. (level f n m).never (asked_at q g) y x) qs d (preds_here A v (level f n m) r t qs (side_tells s r) w q may p h)
    preds_hold_not answer.Undecided d never_so p h = d.0 (preds_here A v (level f n m) r t qs (side_tells s r) w q may p h)

  pub holds_here : (q : Fill) → IsTold r → (u : Term) → Reads A q t u → u ≡ w → (a : Answer) → Decides (Each (λ g. v.Yes (asked_at q g)) qs) (SomeOf (λ g. v.No (asked_at q g)) qs) a → a ≡ answer.Yes → HoldsHere q
  holds_here q told u i e answer.Yes d y = record { told = told; part = subst (Reads A q t) e i; preds = d }
  holds_here q told u i e answer.No d y = cc
  holds_here q told u i e answer.Undecided d y = cc

  -- ---- where it is refuted

  pub untold_not_refuted : (q : Fill) → IsCommon t w q → (IsTold r → ⊥) → Refuted → ⊥
  untold_not_refuted q c never_so (inl a) = a q c.at c.filling c.reads
  untold_not_refuted q c never_so (inr x) = never_so x.0

  module _ (q : Fill) (common : IsCommon t w q) (told : IsTold r) (a : Answer) (asked : Decides (Each (λ g. v.Yes (asked_at q g)) qs) (SomeOf (λ g. v.No (asked_at q g)) qs) a) where
    pub no_refutes : a ≡ answer.No → Refuted
    no_refutes e = by_answer a asked e
      where
        by_answer : (a : Answer) → Decides (Each (λ g. v.Yes (asked_at q g)) qs) (SomeOf (λ g. v.No (asked_at q g)) qs) a → a ≡ answer.No → Refuted
        by_answer answer.No d e = inr (told, record { at = q; general = common.general; fails = inr d })
        by_answer answer.Yes d e = cc
        by_answer answer.Undecided d e = cc

    some_no : (a ≡ answer.No → ⊥) → SomeOf (λ g. v.No (asked_at q g)) qs → ⊥
    some_no never_so x = by_answer a asked never_so x
      where
        by_answer : (a : Answer) → Decides (Each (λ g. v.Yes (asked_at q g)) qs) (SomeOf (λ g. v.No (asked_at q g)) qs) a → (a ≡ answer.No → ⊥) → SomeOf (λ g. v.No (asked_at q g)) qs → ⊥
        by_answer answer.No d never_so x = never_so refl
        by_answer answer.Yes d never_so x = some_each (λ g x y. (level f n m).never (asked_at q g) y x) qs x d
        by_answer answer.Undecided d never_so x = d.1 x

    pub same_refutes : (u : Term) → Reads A q t u → NeverSame u w → Refuted
    same_refutes u i never = inr (told, record { at = q; general = common.general; fails = inl (u, i, never) })

    pub same_refutes_not : (a ≡ answer.No → ⊥) → (u : Term) → Reads A q t u → (NeverSame u w → ⊥) → Refuted → ⊥
    same_refutes_not never_so u i can =
        not_refuted_here A v (level f n m) r t qs (side_tells s r) w q common.at common.filling common.reads (some_no never_so)
        (λ u' j never. can (subst (λ (x : Term). NeverSame x w) (reads_one A (level f n m).one q t u' u j i) never))

    pub open_refutes_not : (a ≡ answer.No → ⊥) → ((u : Term) → Reads A q t u → ⊥) → Refuted → ⊥
    open_refutes_not never_so none =
        not_refuted_here A v (level f n m) r t qs (side_tells s r) w q common.at common.filling common.reads (some_no never_so) (λ u j never. none u j)

    pub same_refutes_if : (a ≡ answer.No → ⊥) → (u : Term) → Reads A q t u → (b : Bool) → MatchBool b (CanBeSame u w) (NeverSame u w) → (IsTrue (not b) → Refuted) × (Refuted → IsTrue (not b))
    same_refutes_if never_no u i true can = (λ e. absurd (true≢false (sym e)), λ r. absurd (same_refutes_not never_no u i (λ n. n can.left can.right can.left_respects can.right_respects can.same) r))
    same_refutes_if never_no u i false never = (λ e. same_refutes u i never, λ r. refl)

pub common_done : (t w : Term) (q : Fill) → IsCommon t w q → (k : Hole) → stands k t ≡ true → IsDone (q k)
common_done t w q c k h = record { read = c.read k; heads = c.heads k }

-- what is of the kind and not refuted doesn't say nothing
pub not_refuted_now : (A : Aliases) (v : Verdicts) (s : Side) (c : Kind) (w : Term) (r : Rule) → r.head.kind ≡ c → (b : Bool) → (IsTrue b → IsRefuted A v r (side_part s r) (side_preds s r) w) × (IsRefuted A v r (side_part s r) (side_preds s r) w → IsTrue b) → b ≡ false → HoldsNot A v s c w r → ⊥
not_refuted_now A v s c w r e b refuted is (inl x) = x e
not_refuted_now A v s c w r e b refuted is (inr x) = true≢false (sym (refuted.1 x) ∙ is)
