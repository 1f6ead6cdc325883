-- A bound that is listed at an associated type, and what follows from it, is about an alias that stays.
use Rattle.std.specs.Prelude.{◌≡◌, ℕ, zero, suc, true, List, refl}
use Rattle.std.proofs.Common.{inl, inr, sym, ap, ◌∙◌, subst}
use Rattle.std.proofs.lemmas.Bool.{or_left, or_right}
use Rattle.goal_facts.specs.Words.{TypeAliasId, Hole, GenericArg, Term, hole, leaf, pair, apply, occurs, RawGoal, RawFacts, hole_eq_same, Fill, Kind, implements, projects, Asked, key, self_type, IsNth, AreArgs, IsTraitKind, IsConcrete}
use Rattle.hir_types.specs.declared.head.Head.TheVariants as head
use Rattle.hir_types.specs.declared.head.Hole.TheVariants as hole_of
use Rattle.goal_facts.specs.Words.hir_raw.declared.raw.RawGoal.TheVariants as goal
use Rattle.goal_facts.specs.Own.{goal_at, SaysAt, trait_holes, IsSuper, Follows, BoundSays, IsListed}

abbrev IsStaying : Term → Type 0
IsStaying (pair (leaf (head.AssociatedType k)) w) = Unit {0}
IsStaying _ = ⊥

-- the self type is an alias that was read and stays
abbrev IsOnStaying : Asked → Type 0
IsOnStaying d = IsStaying (self_type (key d.kind d.parts))

-- ---- listed

bound_stays : (raw : RawFacts) (k : TypeAliasId) (xs : List GenericArg) (g : RawGoal) (d : Asked) → BoundSays raw k xs g d → IsOnStaying d
bound_stays raw k xs (goal.Trait r) d h = subst IsOnStaying (sym h.4) tt
bound_stays raw k xs (goal.Projection m ws w) d h = subst IsOnStaying (sym h.4) tt

listed_stays : (raw : RawFacts) (d : Asked) → IsListed raw d → IsOnStaying d
listed_stays raw d (i, a, at, (k, is, (j, g, here, says))) = bound_stays raw k (trait_holes raw a.trait_) g d says

-- ---- what follows

-- the self type is a hole of the term
self_at : (p : Fill) (k : Hole) (t : Term) → self_type t ≡ hole k → self_type (apply p t) ≡ p k
self_at p k (pair (pair m x) b) e = ap (apply p) e
self_at p k (pair (leaf x) b) e = cc
self_at p k (pair (hole j) b) e = cc
self_at p k (leaf x) e = cc
self_at p k (hole j) e = cc

self_occurs : (k : Hole) (t : Term) → self_type t ≡ hole k → occurs k t ≡ true
self_occurs k (pair (pair m x) b) e =
    let here : occurs k x ≡ true = ap (occurs k) e ∙ hole_eq_same k in
    or_left (occurs k (pair m x)) (occurs k b) (or_right (occurs k m) (occurs k x) here)
self_occurs k (pair (leaf x) b) e = cc
self_occurs k (pair (hole j) b) e = cc
self_occurs k (leaf x) e = cc
self_occurs k (hole j) e = cc

first_is_self : (args u : Term) → IsNth 0 args u → u ≡ self_type args
first_is_self (pair (pair m t) b) u h = h
first_is_self (pair (leaf x) b) u h = absurd h
first_is_self (pair (hole j) b) u h = absurd h
first_is_self (leaf x) u h = absurd h
first_is_self (hole j) u h = absurd h

-- a hole of the key is one of all parts
key_at : (p : Fill) (c : Kind) (t : Term) → self_type (key c t) ≡ hole (hole_of.Ty 0) → self_type (key c (apply p t)) ≡ p (hole_of.Ty 0)
key_at p (implements n) t e = self_at p (hole_of.Ty 0) t e
key_at p (projects m) (pair a b) e = self_at p (hole_of.Ty 0) a e
key_at p (projects m) (leaf x) e = cc
key_at p (projects m) (hole j) e = cc

key_occurs : (c : Kind) (k : Hole) (t : Term) → self_type (key c t) ≡ hole k → occurs k t ≡ true
key_occurs (implements n) k t e = self_occurs k t e
key_occurs (projects m) k (pair a b) e = or_left (occurs k a) (occurs k b) (self_occurs k a e)
key_occurs (projects m) k (leaf x) e = cc
key_occurs (projects m) k (hole j) e = cc

-- what is said of `Self` is said of the first argument
said_of_self : (args : Term) (p : Fill) (g : Asked) → self_type (key g.kind g.parts) ≡ hole (hole_of.Ty 0) → AreArgs args p g.parts → self_type (key g.kind (apply p g.parts)) ≡ self_type args
said_of_self args p g on are = key_at p g.kind g.parts on ∙ first_is_self args (p (hole_of.Ty 0)) (are (hole_of.Ty 0) (key_occurs g.kind (hole_of.Ty 0) g.parts on))

said_stays : (raw : RawFacts) (xs : List GenericArg) (args : Term) (g : RawGoal) (d : Asked) → SaysAt raw xs args g d → IsStaying (self_type args) → IsOnStaying d
said_stays raw xs args g d (on, p, are, is) h = subst IsOnStaying (sym is) (subst IsStaying (sym (said_of_self args p (goal_at raw xs g) on are)) h)

super_stays : (raw : RawFacts) (c d : Asked) → IsSuper raw c d → IsOnStaying c → IsOnStaying d
super_stays raw c d super h =
    let own : IsStaying (self_type c.parts) = subst (λ x. IsStaying (self_type (key x c.parts))) super.kind h in
    said_stays raw (trait_holes raw super.trait_) c.parts super.says.1 d super.says.3 own

follows_stays : (raw : RawFacts) (n : ℕ) (d : Asked) → Follows raw (IsListed raw) n d → IsOnStaying d
follows_stays raw zero d h = listed_stays raw d h
follows_stays raw (suc n) d (inl h) = follows_stays raw n d h
follows_stays raw (suc n) d (inr (c, h, super)) = super_stays raw c d super (follows_stays raw n c h)

-- ---- it is not concrete

staying_not_concrete : (t : Term) → IsStaying t → IsConcrete t → ⊥
staying_not_concrete (pair (leaf (head.AssociatedType k)) w) s c = c.0
staying_not_concrete (pair (leaf _) w) s c = s
staying_not_concrete (pair (pair a b) w) s c = s
staying_not_concrete (pair (hole k) w) s c = s
staying_not_concrete (leaf x) s c = s
staying_not_concrete (hole k) s c = s

self_concrete : (t : Term) → IsStaying (self_type t) → IsConcrete t → ⊥
self_concrete (pair (pair m t) b) s c = staying_not_concrete t s c.0.1
self_concrete (pair (leaf x) b) s c = s
self_concrete (pair (hole j) b) s c = s
self_concrete (leaf x) s c = s
self_concrete (hole j) s c = s

goal_not_concrete : (d : Asked) (k : Kind) → d.kind ≡ k → IsOnStaying d → IsTraitKind k → IsConcrete d.parts → ⊥
goal_not_concrete d (implements t) e s kind c = self_concrete d.parts (subst (λ x. IsStaying (self_type (key x d.parts))) e s) c
goal_not_concrete d (projects m) e s kind c = kind

pub listed_not_concrete : (raw : RawFacts) (n : ℕ) (d : Asked) → Follows raw (IsListed raw) n d → IsTraitKind d.kind → IsConcrete d.parts → ⊥
listed_not_concrete raw n d h kind c = goal_not_concrete d d.kind refl (follows_stays raw n d h) kind c
