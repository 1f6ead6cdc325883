-- Goals about a trait that are made equal bring no heads into the table but theirs.
use Rattle.std.proofs.Common.{◌≡◌, suc, Bool, true, false, cond, if◌then◌else◌, IsTrue, refl, sym, ap, ap₂, ◌∙◌, subst, [], ◌∷◌}
use Rattle.goal_select.specs.Words.{Goal, Head, TraitRef, Term, hole, leaf, pair, apply, solution, solution_apply, IsPlain, Shape, TermRole, whole, part, rest, width, IsMadeOf, AreMadeOf, BindsOnly, NoMark, NoAlias, width_apply, made_of_apply, made_of_within, made_of_resolved, plain_of, meets_before, Log, Solves, resolved, State, resolved_term, AreUnified, Fill, IsConcrete, IsTraitKind, trait_goal, asked_goal}
use Rattle.hir_types.specs.declared.goal.Goal.TheVariants as goal
use Rattle.hir_types.specs.declared.head.Head.TheVariants as head
use Rattle.goal_select.specs.Own.{known_goal, goal_type, HasHeadsOf, HasHeadsIfConcrete}
use Rattle.goal_select.proofs.Known.{log, goal_type_resolved, known_kind, known_parts}
use Rattle.goal_select.proofs.Uniting.{united_by, unites_by}

-- ---- what is known of a goal

-- arguments stay made of these heads once bindings are put in
pub args_resolved : (P : Shape) (l : Log) (t : Term) → BindsOnly P l → IsMadeOf P rest t → IsMadeOf P rest (resolved l t)
args_resolved P l t binds made =
    subst (IsMadeOf P rest) (solution_apply l t) (made_of_apply P (solution l) rest t (λ k. made_of_resolved P l (hole k) binds tt) made)

-- what is concrete with types in the place of its holes is concrete
pub concrete_within : (f : Fill) (t : Term) → IsConcrete (apply f t) → IsConcrete t
concrete_within f (hole k) h = tt
concrete_within f (leaf x) h = h
concrete_within f (pair a b) h = (concrete_within f a h.0, concrete_within f b h.1)

-- the goal was concrete before what is known of its holes was put in
known_concrete : (s : State) (g : Goal) (k : TraitRef) → known_goal s g ≡ goal.Trait k → IsConcrete (trait_goal k).parts → IsConcrete (asked_goal g).parts
known_concrete s g k known h =
    let t = (asked_goal g).parts in
    concrete_within (solution (log s)) t (subst IsConcrete (known_parts s g k known ∙ sym (solution_apply (log s) t)) h)

-- those of a concrete goal that is known
pub known_heads : (P : Shape) (s : State) (g : Goal) (k : TraitRef) → known_goal s g ≡ goal.Trait k → IsConcrete (trait_goal k).parts → BindsOnly P (log s) → HasHeadsIfConcrete P (asked_goal g) → HasHeadsOf P (trait_goal k)
known_heads P s g k known concrete binds if_concrete =
    let made = if_concrete (subst IsTraitKind (known_kind s g k known) tt) (known_concrete s g k known concrete) in
    let args = subst (λ c. HasHeadsOf P (record { kind = c; parts = (asked_goal g).parts })) (sym (known_kind s g k known)) made in
    subst (IsMadeOf P rest) (sym (known_parts s g k known)) (args_resolved P (log s) (asked_goal g).parts binds args)

-- none of them is read
args_plain : (P : Shape) → NoAlias P → (t : Term) → IsMadeOf P rest t → IsPlain t
args_plain P none (leaf g) made = tt
args_plain P none (pair (pair (leaf head.TypePart) t) b) made = (refl, (refl, tt, plain_of P none t made.0.1), args_plain P none b made.1)
args_plain P none (pair (pair _ t) b) made = absurd made.0.0
args_plain P none (pair _ b) made = absurd made.0
args_plain P none (hole k) made = absurd made

-- ---- with one type without parts in the place of each that is not of these heads

module _ (P : Shape) (h : Head) (is : IsTrue (P h 0)) where
  abbrev bare : Term
  bare = pair (leaf h) (leaf head.End)

  abbrev kept : TermRole → Term → Term
  kept whole (hole k) = hole k
  kept whole (pair (leaf g) b) = if P g (width b) then pair (leaf g) (kept rest b) else bare
  kept whole _ = bare
  kept part (pair a b) = pair (leaf head.TypePart) (kept whole b)
  kept part _ = pair (leaf head.TypePart) bare
  kept rest (pair a b) = pair (kept part a) (kept rest b)
  kept rest _ = leaf head.End

  width_kept : (t : Term) → width (kept rest t) ≡ width t
  width_kept (hole k) = refl
  width_kept (leaf g) = refl
  width_kept (pair a b) = ap suc (width_kept b)

  over_made : (g : Head) (b : Term) (v : Bool) → P g (width b) ≡ v → IsMadeOf P rest (kept rest b) → IsMadeOf P whole (cond v (pair (leaf g) (kept rest b)) bare)
  over_made g b true e made = (ap (P g) (width_kept b) ∙ e, made)
  over_made g b false e made = (is, tt)

  kept_made : (r : TermRole) (t : Term) → IsMadeOf P r (kept r t)
  kept_made whole (hole k) = tt
  kept_made whole (pair (leaf g) b) = over_made g b (P g (width b)) refl (kept_made rest b)
  kept_made whole _ = (is, tt)
  kept_made part (pair a b) = (tt, kept_made whole b)
  kept_made part _ = (tt, (is, tt))
  kept_made rest (pair a b) = (kept_made part a, kept_made rest b)
  kept_made rest _ = tt

  module _ (s : Fill) where
    abbrev kept_fill : Fill
    kept_fill k = kept whole (s k)

    -- a term of these heads keeps them
    kept_apply : (r : TermRole) (t : Term) → IsMadeOf P r t → kept r (apply s t) ≡ apply kept_fill t
    kept_apply whole (hole k) made = refl
    kept_apply whole (pair (leaf g) b) made =
        ap (λ (v : Bool). cond v (pair (leaf g) (kept rest (apply s b))) bare) (ap (P g) (width_apply P s b made.1) ∙ made.0)
        ∙ ap (pair (leaf g)) (kept_apply rest b made.1)
    kept_apply part (pair (leaf head.TypePart) b) made = ap (pair (leaf head.TypePart)) (kept_apply whole b made.1)
    kept_apply rest (leaf head.End) made = refl
    kept_apply rest (pair a b) made = ap₂ pair (kept_apply part a made.0) (kept_apply rest b made.1)
    kept_apply whole (pair _ b) made = absurd made.0
    kept_apply part (pair _ b) made = absurd made.0
    kept_apply _ _ made = absurd made

    kept_solves : (l : Log) → BindsOnly P l → Solves s l → Solves kept_fill l
    kept_solves [] binds m = tt
    kept_solves (p ∷ l) binds m = (ap (kept whole) m.0 ∙ kept_apply whole p.1 binds.0, kept_solves l binds.1 m.1)

-- what a filling of these heads solves has no others
solved_made : (P : Shape) (s : Fill) (l : Log) → NoMark P → AreMadeOf P s → Solves s l → BindsOnly P l
solved_made P s [] none made m = tt
solved_made P s (p ∷ l) none made m = (made_of_within P s whole p.1 none made (subst (IsMadeOf P whole) m.0 (made p.0)), solved_made P s l none made m.1)

-- ---- two goals about a trait

type_plain : (P : Shape) → NoAlias P → (s : State) (r : TraitRef) → BindsOnly P (log s) → HasHeadsOf P (trait_goal r) → IsPlain (resolved_term s (goal_type r))
type_plain P none s r binds made =
    let args = resolved (log s) (trait_goal r).parts in
    subst IsPlain (sym (goal_type_resolved s r)) (refl, tt, args_plain P none args (args_resolved P (log s) (trait_goal r).parts binds made))

pub heads_united : (P : Shape) → NoAlias P → (x : Head) → IsTrue (P x 0) → (s after : State) (k h : TraitRef) → AreUnified s after (goal_type k) (goal_type h) → BindsOnly P (log s) → HasHeadsOf P (trait_goal k) → HasHeadsOf P (trait_goal h) → BindsOnly P (log after)
heads_united P none x is s after k h met binds left right =
    let most = met.most_general (type_plain P none s k binds left) (type_plain P none s h binds right) in
    let f = met.solvable.0 in
    let m = met.solvable.2 in
    let z = kept_fill P x is f in
    let same =
    sym (kept_apply P x is f rest (trait_goal k).parts left)
    ∙ ap (kept P x is rest) (united_by s after k h most f m)
    ∙ kept_apply P x is f rest (trait_goal h).parts right in
    let before = kept_solves P x is f (log s) binds (meets_before s after (goal_type k) (goal_type h) met f m) in
    solved_made P z (log after) none.no_mark (λ j. kept_made P x is whole (f j)) (unites_by s after k h most z before same)
