-- The laws of what holes are replaced in: refinement, and lists, pairs and goals.
use Rattle.std.proofs.Common.{◌≡◌, ap, ◌∙◌, List, map}
use Rattle.hir_types.specs.declared.goal.Goal.{Goal}
use Rattle.hir_types.specs.declared.goal.Goal.TheVariants as goal
use Rattle.hir_types.specs.Subst.{Assignment, with_holes, each_itself, composed}
use Rattle.hir_types.specs.Goals.{goal_replaced}
use Rattle.hir_types.specs.Folds.{map_twice, map_itself}
use Rattle.hir_types.specs.Replacements.{each_same, folded_itself, args_folded_itself, trait_folded_itself, folded_twice, args_folded_twice, trait_folded_twice}

-- an instance stays an instance
pub refined : {A : Type 0} (r : Assignment → A → A) → ((f g : Assignment) (t : A) → r f (r g t) ≡ r (composed f g) t)
    → (f : Assignment) (t u : A) → ((g : Assignment) × (u ≡ r g t)) → ((h : Assignment) × (r f u ≡ r h t))
refined r twice f t u i = (composed f i.0, ap (r f) i.1 ∙ twice f i.0 t)

pub list_itself : {A : Type 0} (f : A → A) → ((t : A) → f t ≡ t) → (ts : List A) → map f ts ≡ ts
list_itself f is ts = each_same f (λ t. t) is ts ∙ map_itself ts

pub list_twice : {A : Type 0} (f g h : A → A) → ((t : A) → f (g t) ≡ h t) → (ts : List A) → map f (map g ts) ≡ map h ts
list_twice f g h is ts = map_twice f g ts ∙ each_same (λ t. f (g t)) h is ts

pub pair_itself : {A B : Type 0} (f : A → A) (g : B → B) → ((t : A) → f t ≡ t) → ((t : B) → g t ≡ t) → (p : A × B) → (f p.0, g p.1) ≡ p
pair_itself f g is its p = λ i. (is p.0 i, its p.1 i)

pub goal_itself : (t : Goal) → goal_replaced (with_holes each_itself) t ≡ t
goal_itself (goal.Trait r) = ap goal.Trait (trait_folded_itself r)
goal_itself (goal.Projection id xs t) = λ i. goal.Projection id (args_folded_itself xs i) (folded_itself t i)

pub goal_twice : (f g : Assignment) (t : Goal)
    → goal_replaced (with_holes f) (goal_replaced (with_holes g) t) ≡ goal_replaced (with_holes (composed f g)) t
goal_twice f g (goal.Trait r) = ap goal.Trait (trait_folded_twice f g r)
goal_twice f g (goal.Projection id xs t) = λ i. goal.Projection id (args_folded_twice f g xs i) (folded_twice f g t i)
