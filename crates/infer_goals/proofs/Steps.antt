-- Steps of selection, one list of them after another.
use Rattle.std.proofs.Common.{◌≡◌, ℕ, ◌+◌, Bool, true, false, List, [], ◌∷◌, ◌++◌, length, refl, sym, ap, ◌∙◌, subst, arith, length-append}
use Rattle.infer_goals.specs.Words.{RawFacts, State, Grew, System, GoalTree, IsLater}
use Rattle.infer_goals.proofs.Words.{grew_twice, grew_by_nothing, later_then, proved_none}
use Rattle.infer_goals.specs.Own.{Obligations, IsStep, AreSteps, counted, Went, Stays}

-- ---- counting

counted_none : (bounded : Bool) (n : ℕ) → counted bounded 0 n ≡ n
counted_none true n = omega arith
counted_none false n = refl

counted_more : (bounded : Bool) (m n k : ℕ) → counted bounded n (counted bounded m k) ≡ counted bounded (m + n) k
counted_more true m n k = omega arith
counted_more false m n k = refl

-- ---- lists of steps

module _ (raw : RawFacts) (f : System) where
  steps_then : (us vs : List (State × GoalTree)) (s : State) (t : GoalTree) (s' : State) (t' : GoalTree) (s'' : State) (t'' : GoalTree) → AreSteps raw f us s t s' t' → AreSteps raw f vs s' t' s'' t'' → AreSteps raw f (us ++ vs) s t s'' t''
  steps_then [] vs s t s' t' s'' t'' a b =
      let c = subst (λ (z : State). AreSteps raw f vs z t' s'' t'') a.0 b in
      subst (λ (z : GoalTree). AreSteps raw f vs s z s'' t'') a.1 c
  steps_then (u ∷ us) vs s t s' t' s'' t'' a b = (a.0, steps_then us vs u.0 u.1 s' t' s'' t'' a.1 b)

  steps_grew : (us : List (State × GoalTree)) (s : State) (t : GoalTree) (s' : State) (t' : GoalTree) → AreSteps raw f us s t s' t' → Grew s s'
  steps_grew [] s t s' t' a = grew_by_nothing s s' a.0
  steps_grew (u ∷ us) s t s' t' a = grew_twice s u.0 s' a.0.selected.grew (steps_grew us u.0 u.1 s' t' a.1)

  steps_later : (us : List (State × GoalTree)) (s : State) (t : GoalTree) (s' : State) (t' : GoalTree) → AreSteps raw f us s t s' t' → IsLater t t'
  steps_later [] s t s' t' a = subst (λ (z : GoalTree). IsLater t z) (sym a.1) (proved_none t).later
  steps_later (u ∷ us) s t s' t' a = later_then t u.1 t' a.0.by.later (steps_later us u.0 u.1 s' t' a.1)

-- ---- obligations that went on

module _ (raw : RawFacts) (f : System) (bounded : Bool) where
  pub went_none : (s : State) (o : Obligations) (s' : State) (o' : Obligations) → Stays s o s' o' → Went raw f bounded s o s' o'
  went_none s o s' o' h = record { states = []; steps = (h.table, h.tree); selected = h.selected ∙ sym (counted_none bounded o.selected) }

  pub went_one : (s : State) (o : Obligations) (s' : State) (o' : Obligations) → IsStep raw f s o.tree s' o'.tree → o'.selected ≡ counted bounded 1 o.selected → Went raw f bounded s o s' o'
  went_one s o s' o' h e = record { states = (s', o'.tree) ∷ []; steps = (h, (refl, refl)); selected = e }

  pub went_then : (s : State) (o : Obligations) (s' : State) (o' : Obligations) (s'' : State) (o'' : Obligations) → Went raw f bounded s o s' o' → Went raw f bounded s' o' s'' o'' → Went raw f bounded s o s'' o''
  went_then s o s' o' s'' o'' a b = record {
    states = a.states ++ b.states;
    steps = steps_then raw f a.states b.states s o.tree s' o'.tree s'' o''.tree a.steps b.steps;
    selected = b.selected ∙ (ap (counted bounded (length b.states)) a.selected ∙ (counted_more bounded (length a.states) (length b.states) o.selected ∙ ap (λ n. counted bounded n o.selected) (sym (length-append a.states b.states))));
  }

  pub went_grew : (s : State) (o : Obligations) (s' : State) (o' : Obligations) → Went raw f bounded s o s' o' → Grew s s'
  went_grew s o s' o' a = steps_grew raw f a.states s o.tree s' o'.tree a.steps

  pub went_later : (s : State) (o : Obligations) (s' : State) (o' : Obligations) → Went raw f bounded s o s' o' → IsLater o.tree o'.tree
  went_later s o s' o' a = steps_later raw f a.states s o.tree s' o'.tree a.steps

pub stays_itself : (s : State) (o : Obligations) → Stays s o s o
stays_itself s o = record { table = refl; tree = refl; selected = refl }

pub stays_then : (s : State) (o : Obligations) (s' : State) (o' : Obligations) (s'' : State) (o'' : Obligations) → Stays s o s' o' → Stays s' o' s'' o'' → Stays s o s'' o''
stays_then s o s' o' s'' o'' a b = record { table = b.table ∙ a.table; tree = b.tree ∙ a.tree; selected = b.selected ∙ a.selected }
