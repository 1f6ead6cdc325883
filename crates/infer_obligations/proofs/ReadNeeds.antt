-- What was read of the associated types that goals are about, one after another.
use Rattle.std.specs.Prelude.{◌≡◌, ◌<◌, ◌≤◌, ◌+◌, ℕ, suc, List, [], length, slice_get, Option, Some, None, ◌-◌, ◌^◌}
use Rattle.std.proofs.Common.{refl, sym, ap, subst, ◌∙◌, arith, length-append}
use Rattle.infer_obligations.specs.Words.{Goal, TypeAliasId, GenericArg, TraitRef, Ty, RawExpr, bindings, resolved_type, IsTypeRead, IsSystemOf, system, IsOfBody, needed_goals, needs_of, needs_at, Given, recorded, InferenceContext, IsSound, OnlyBinds, Settles}
use Rattle.hir_types.specs.declared.goal.Goal.TheVariants as goal
use Rattle.hir_types.specs.declared.ty.Ty.TheVariants as ty
use Rattle.infer_obligations.proofs.Words.{binds_nothing, binds_twice}
use Rattle.infer_obligations.specs.Own.{UnifiesInHand, ReadsAlias, ReadsGoal, ReadsFirst, ReadsEach, ReadsFor, SelectsAndReads, ReadsPath, ReadsPaths, ReadsPat, ReadsPats, ReadsAll, ReadsTimes, ReadsOn, SettlesNeeds, SelectsInWalk}

-- ---- one associated type

module _ (g : Given) (alias t : Ty) (c : InferenceContext) (of : IsSystemOf c.goals.sources.facts c.goals.sources.item (system c.goals.sources.sources)) where
  abbrev IsRead : Option Ty → Type 0
  IsRead = IsTypeRead (system c.goals.sources.sources) c.goals.sources.facts.limits.goal_depth (resolved_type c.goals.table alias)

  pub alias_known : (known read : Ty) (new : InferenceContext) → known ≡ resolved_type c.goals.table t → IsRead (Some read) → UnifiesInHand g known read c new → ReadsAlias g alias t c new
  alias_known known read new resolved is made = record {
    of_item = of;
    found = Some read;
    is = is;
    made = λ u same. (let other : read ≡ u = cc in subst (λ v. UnifiesInHand g v u c new) resolved (subst (λ v. UnifiesInHand g known v c new) other made));
    binds = made.binds;
  }

  pub alias_unknown : IsOfBody g.body c.result → IsSound g.scope c → IsRead None → ReadsAlias g alias t c c
  alias_unknown body sound is = record { of_item = of; found = None; is = is; made = λ u same. absurd (cc); binds = binds_nothing g c body sound }

-- ---- one goal

same_alias : (a b : TypeAliasId) (xs ys : List GenericArg) (t u : Ty) → goal.Projection a xs t ≡ goal.Projection b ys u → (ty.Projection a xs ≡ ty.Projection b ys) × (t ≡ u)
same_alias a b xs ys t u e = (
  (let first : a ≡ b = cc in let second : xs ≡ ys = cc in λ i. ty.Projection (first i) (second i)),
  (let last : t ≡ u = cc in last),
)

pub reads_goal : (g : Given) (q copy : Goal) (a : TypeAliasId) (xs : List GenericArg) (t : Ty) (old new : InferenceContext) → copy ≡ q → copy ≡ goal.Projection a xs t → ReadsAlias g (ty.Projection a xs) t old new → ReadsGoal g q old new
reads_goal g q copy a xs t old new same is reads = record {
  binds = reads.binds;
  reads = λ b ys u at.
      (let both = same_alias a b xs ys t u (sym is ∙ (same ∙ at)) in
      subst (λ v. ReadsAlias g (ty.Projection b ys) v old new) both.1 (subst (λ v. ReadsAlias g v t old new) both.0 reads));
}

pub reads_no_goal : (g : Given) (q copy : Goal) (r : TraitRef) (c : InferenceContext) → IsOfBody g.body c.result → IsSound g.scope c → copy ≡ q → copy ≡ goal.Trait r → ReadsGoal g q c c
reads_no_goal g q copy r c body sound same is = record {
  binds = binds_nothing g c body sound;
  reads = λ b ys u at. absurd (let clash : goal.Trait r ≡ goal.Projection b ys u = sym is ∙ (same ∙ at) in cc);
}

-- ---- one after another

-- the first n of them were read
pub record FirstRead (g : Given) (qs : List Goal) (n : ℕ) (old c : InferenceContext) : Type 0 where
  pub within : n ≤ length qs
  pub binds : OnlyBinds g old c
  pub reads : ReadsFirst g qs n old c

one_more : (n : ℕ) → suc n ≡ n + 1
one_more n = omega arith

pub begins_reading : (g : Given) (qs : List Goal) (c : InferenceContext) → IsOfBody g.body c.result → IsSound g.scope c → FirstRead g qs 0 c c
begins_reading g qs c body sound = record { within = omega arith; binds = binds_nothing g c body sound; reads = refl }

pub reads_on : (g : Given) (qs : List Goal) (n : ℕ) (old c next : InferenceContext) (q : Goal) → FirstRead g qs n old c → n < length qs → slice_get qs n ≡ Some q → ReadsGoal g q c next → FirstRead g qs (n + 1) old next
reads_on g qs n old c next q so_far more at reads = subst (λ m. FirstRead g qs m old next) (one_more n) (record {
  within = omega (arith, more);
  binds = binds_twice g old c next so_far.binds reads.binds;
  reads = (c, so_far.reads, λ p here. (let same : Some q ≡ Some p = sym at ∙ here in let is : q ≡ p = cc in subst (λ z. ReadsGoal g z c next) is reads));
})

pub ends_reading : (g : Given) (qs : List Goal) (n : ℕ) (old c : InferenceContext) → length qs ≤ n → FirstRead g qs n old c → ReadsEach g qs old c
ends_reading g qs n old c all so_far = (let end : n ≡ length qs = omega (arith, all, so_far.within) in record { binds = so_far.binds; reads = subst (λ m. ReadsFirst g qs m old c) end so_far.reads })

-- ---- for a type that is expected

pub reads_for : (g : Given) (qs : List Goal) (t : Ty) (old new : InferenceContext) → ReadsEach g qs old new → ReadsFor g qs t old new
reads_for g qs t old new reads = record { binds = reads.binds; reads = λ n is. reads }

pub reads_for_known : (g : Given) (qs : List Goal) (t : Ty) (c : InferenceContext) → IsOfBody g.body c.result → IsSound g.scope c → ((n : ℕ) → resolved_type c.goals.table t ≡ ty.Var n → ⊥) → ReadsFor g qs t c c
reads_for_known g qs t c body sound other = record { binds = binds_nothing g c body sound; reads = λ n is. absurd (other n is) }

-- ---- between two selections

pub selects_and_reads : (g : Given) (qs : List Goal) (old first mid new : InferenceContext) → SelectsInWalk g old first → ReadsEach g qs first mid → SelectsInWalk g mid new → SelectsAndReads g qs old new
selects_and_reads g qs old first mid new a b d = record {
  selected = first;
  selects = a;
  read = mid;
  reads = b;
  again = d;
  binds = binds_twice g old mid new (binds_twice g old first mid a.binds b.binds) d.binds;
}

-- ---- each path

-- what an expression with a type needs
pub needed_at : (g : Given) (c : InferenceContext) (n : ℕ) (x : RawExpr) (t : Ty) → slice_get g.body.exprs n ≡ Some x → recorded c.result.type_of_expr n ≡ Some t → needed_goals g.scope.facts x t ≡ needs_at g.scope.facts g.body c.result n
needed_at g c n x t at has = λ i. needs_of g.scope.facts (sym at i) (sym has i)

none_needed : (g : Given) (o : Option RawExpr) → needs_of g.scope.facts o None ≡ []
none_needed g None = refl
none_needed g (Some x) = refl

-- and one without
pub none_at : (g : Given) (c : InferenceContext) (n : ℕ) → recorded c.result.type_of_expr n ≡ None → [] ≡ needs_at g.scope.facts g.body c.result n
none_at g c n none = sym (none_needed g (slice_get g.body.exprs n)) ∙ ap (needs_of g.scope.facts (slice_get g.body.exprs n)) (sym none)

-- those of the first n expressions were read
pub record FirstPathsRead (g : Given) (n : ℕ) (old c : InferenceContext) : Type 0 where
  pub within : n ≤ length g.body.exprs
  pub paths : ReadsPaths g n old c

pub begins_paths : (g : Given) (c : InferenceContext) → IsOfBody g.body c.result → IsSound g.scope c → FirstPathsRead g 0 c c
begins_paths g c body sound = record { within = omega arith; paths = record { binds = binds_nothing g c body sound; reads = refl } }

pub paths_on : (g : Given) (n k : ℕ) (old c next : InferenceContext) → FirstPathsRead g n old c → n < length g.body.exprs → k ≡ n → ReadsPath g k c next → FirstPathsRead g (n + 1) old next
paths_on g n k old c next so_far more is reads = subst (λ m. FirstPathsRead g m old next) (one_more n) (record {
  within = omega (arith, more);
  paths = record {
    binds = binds_twice g old c next so_far.paths.binds reads.reads.binds;
    reads = (c, so_far.paths.reads, subst (λ m. ReadsPath g m c next) is reads);
  };
})

pub ends_paths : (g : Given) (n : ℕ) (old c : InferenceContext) → length g.body.exprs ≤ n → FirstPathsRead g n old c → ReadsPaths g (length g.body.exprs) old c
ends_paths g n old c all so_far = (let end : n ≡ length g.body.exprs = omega (arith, all, so_far.within) in subst (λ m. ReadsPaths g m old c) end so_far.paths)

-- ---- each pattern

-- those of the first n patterns were read
pub record FirstPatsRead (g : Given) (n : ℕ) (old c : InferenceContext) : Type 0 where
  pub within : n ≤ length g.body.pats
  pub pats : ReadsPats g n old c

pub begins_pats : (g : Given) (c : InferenceContext) → IsOfBody g.body c.result → IsSound g.scope c → FirstPatsRead g 0 c c
begins_pats g c body sound = record { within = omega arith; pats = record { binds = binds_nothing g c body sound; reads = refl } }

pub pats_on : (g : Given) (n k : ℕ) (old c next : InferenceContext) → FirstPatsRead g n old c → n < length g.body.pats → k ≡ n → ReadsPat g k c next → FirstPatsRead g (n + 1) old next
pats_on g n k old c next so_far more is reads = subst (λ m. FirstPatsRead g m old next) (one_more n) (record {
  within = omega (arith, more);
  pats = record {
    binds = binds_twice g old c next so_far.pats.binds reads.reads.binds;
    reads = (c, so_far.pats.reads, subst (λ m. ReadsPat g m c next) is reads);
  };
})

pub ends_pats : (g : Given) (n : ℕ) (old c : InferenceContext) → length g.body.pats ≤ n → FirstPatsRead g n old c → ReadsPats g (length g.body.pats) old c
ends_pats g n old c all so_far = (let end : n ≡ length g.body.pats = omega (arith, all, so_far.within) in subst (λ m. ReadsPats g m old c) end so_far.pats)

-- ---- until nothing is bound

pub all_binds : (g : Given) (old new : InferenceContext) → ReadsAll g old new → OnlyBinds g old new
all_binds g old new reads = binds_twice g old reads.0 new reads.1.binds reads.2.binds

-- all were read so many times
pub record TimesRead (g : Given) (old c : InferenceContext) : Type 0 where
  pub binds : OnlyBinds g old c
  pub times : ℕ
  pub reads : ReadsTimes g times old c

pub begins_times : (g : Given) (c : InferenceContext) → IsOfBody g.body c.result → IsSound g.scope c → TimesRead g c c
begins_times g c body sound = record { binds = binds_nothing g c body sound; times = 0; reads = refl }

pub once_more : (g : Given) (old c next : InferenceContext) → TimesRead g old c → ReadsAll g c next → TimesRead g old next
once_more g old c next so_far reads = record { binds = binds_twice g old c next so_far.binds (all_binds g c next reads); times = suc so_far.times; reads = (c, so_far.reads, reads) }

pub bound_none : (g : Given) (old c next : InferenceContext) → TimesRead g old c → ReadsAll g c next → length (bindings next.goals.table) ≡ length (bindings c.goals.table) → ReadsOn g old next
bound_none g old c next so_far reads none = record { binds = binds_twice g old c next so_far.binds (all_binds g c next reads); times = so_far.times; before = c; first = so_far.reads; again = reads; none = none }

-- where a reading bound some hole, fewer bindings are left to be made
pub leaves_fewer : (g : Given) (c next : InferenceContext) (n : ℕ) → OnlyBinds g c next → n ≡ length (bindings next.goals.table) → n < 2 ^ 64 → (n ≡ length (bindings c.goals.table) → ⊥) → 2 ^ 64 - length (bindings next.goals.table) < 2 ^ 64 - length (bindings c.goals.table)
leaves_fewer g c next n binds is within other =
    let log = binds.follows.grew.log in
    let long : length (bindings next.goals.table) ≡ length (bindings c.goals.table) + length log.0 = ap length log.1 ∙ length-append (bindings c.goals.table) log.0 in
    omega (arith, is, within, other, long)

-- ---- once the body is walked

pub settles_needs : (g : Given) (old mid selected new : InferenceContext) → ReadsOn g old mid → SelectsInWalk g mid selected → Settles g selected new → SettlesNeeds g old new
settles_needs g old mid selected new reads selects settles = record {
  read = mid;
  reads = reads;
  selected = selected;
  selects = selects;
  settles = settles;
}

-- from before what was read on, nothing is left open that is asked
pub all_settled : (g : Given) (old new : InferenceContext) → SettlesNeeds g old new → Settles g old new
all_settled g old new h = record {
  binds = binds_twice g old h.selected new (binds_twice g old h.read h.selected h.reads.binds h.selects.binds) h.settles.binds;
  decided = h.settles.decided;
}
