-- Folds over types: what goes by one step at each layer is the fold by that step.
use Rattle.std.proofs.Common.{◌≡◌, refl, sym, ap, subst, ◌∙◌, List, [], ◌∷◌, map, Some, None}
use Rattle.hir_types.specs.declared.ty.Ty.{Ty, Ty-F, fold-Ty, roll-Ty, map-Ty, ind-Ty, fold-roll-Ty}
use Rattle.hir_types.specs.declared.ty.GenericArg.{GenericArg, GenericArg-F, fold-GenericArg, roll-GenericArg, map-GenericArg, ind-GenericArg, fold-roll-GenericArg}
use Rattle.hir_types.specs.declared.ty.TraitRef.{TraitRef, TraitRef-F, fold-TraitRef, roll-TraitRef, map-TraitRef, ind-TraitRef, fold-roll-TraitRef}
use Rattle.hir_types.specs.declared.ty.AliasBound.{AliasBound, AliasBound-F, fold-AliasBound, roll-AliasBound, map-AliasBound, ind-AliasBound, fold-roll-AliasBound}

-- ---- lists and options

pub map_twice : {X Y Z : Type 0} (f : Y → Z) (g : X → Y) (xs : List X) → map f (map g xs) ≡ map (λ x. f (g x)) xs
map_twice f g [] = refl
map_twice f g (x ∷ xs) = ap (◌∷◌ (f (g x))) (map_twice f g xs)

pub map_itself : {X : Type 0} (xs : List X) → map (λ (x : X). x) xs ≡ xs
map_itself [] = refl
map_itself (x ∷ xs) = ap (◌∷◌ x) (map_itself xs)

-- a value at which two maps agree
abbrev pub AgreedOn : {X Y : Type 0} → (X → Y) → (X → Y) → Type 0
AgreedOn {X = X} h k = (x : X) × (h x ≡ k x)

pub map_agreed : {X Y : Type 0} (h k : X → Y) (xs : List (AgreedOn h k)) → map h (map (λ e. e.0) xs) ≡ map k (map (λ e. e.0) xs)
map_agreed h k [] = refl
map_agreed h k (x ∷ xs) = λ i. x.1 i ∷ map_agreed h k xs i

-- ---- steps and maps

-- one step for each of the four types
pub record Steps (A T B R : Type 0) : Type 0 where
  pub arg : GenericArg-F A T B R → A
  pub ty : Ty-F A T B R → T
  pub bound : AliasBound-F A T B R → B
  pub trait : TraitRef-F A T B R → R

-- one map from each of the four types
pub record Maps (A T B R : Type 0) : Type 0 where
  pub arg : GenericArg → A
  pub ty : Ty → T
  pub bound : AliasBound → B
  pub trait : TraitRef → R

abbrev pub folds : {A T B R : Type 0} → Steps A T B R → Maps A T B R
folds {A = A} {T = T} {B = B} {R = R} s = record {
  arg = fold-GenericArg A T B R s.arg s.ty s.bound s.trait;
  ty = fold-Ty A T B R s.arg s.ty s.bound s.trait;
  bound = fold-AliasBound A T B R s.arg s.ty s.bound s.trait;
  trait = fold-TraitRef A T B R s.arg s.ty s.bound s.trait;
}

-- the maps in one layer
abbrev pub in_arg : {A T B R : Type 0} → Maps A T B R → GenericArg-F GenericArg Ty AliasBound TraitRef → GenericArg-F A T B R
in_arg {A = A} {T = T} {B = B} {R = R} m = map-GenericArg GenericArg Ty AliasBound TraitRef A T B R m.arg m.ty m.bound m.trait

abbrev pub in_ty : {A T B R : Type 0} → Maps A T B R → Ty-F GenericArg Ty AliasBound TraitRef → Ty-F A T B R
in_ty {A = A} {T = T} {B = B} {R = R} m = map-Ty GenericArg Ty AliasBound TraitRef A T B R m.arg m.ty m.bound m.trait

abbrev pub in_bound : {A T B R : Type 0} → Maps A T B R → AliasBound-F GenericArg Ty AliasBound TraitRef → AliasBound-F A T B R
in_bound {A = A} {T = T} {B = B} {R = R} m = map-AliasBound GenericArg Ty AliasBound TraitRef A T B R m.arg m.ty m.bound m.trait

abbrev pub in_trait : {A T B R : Type 0} → Maps A T B R → TraitRef-F GenericArg Ty AliasBound TraitRef → TraitRef-F A T B R
in_trait {A = A} {T = T} {B = B} {R = R} m = map-TraitRef GenericArg Ty AliasBound TraitRef A T B R m.arg m.ty m.bound m.trait

-- the maps go by the steps
pub record GoBySteps {A T B R : Type 0} (s : Steps A T B R) (m : Maps A T B R) : Type 0 where
  pub arg : (x : GenericArg-F GenericArg Ty AliasBound TraitRef) → m.arg (roll-GenericArg x) ≡ s.arg (in_arg m x)
  pub ty : (x : Ty-F GenericArg Ty AliasBound TraitRef) → m.ty (roll-Ty x) ≡ s.ty (in_ty m x)
  pub bound : (x : AliasBound-F GenericArg Ty AliasBound TraitRef) → m.bound (roll-AliasBound x) ≡ s.bound (in_bound m x)
  pub trait : (x : TraitRef-F GenericArg Ty AliasBound TraitRef) → m.trait (roll-TraitRef x) ≡ s.trait (in_trait m x)

pub folds_follow : {A T B R : Type 0} (s : Steps A T B R) → GoBySteps s (folds s)
folds_follow {A = A} {T = T} {B = B} {R = R} s = record {
  arg = fold-roll-GenericArg A T B R s.arg s.ty s.bound s.trait;
  ty = fold-roll-Ty A T B R s.arg s.ty s.bound s.trait;
  bound = fold-roll-AliasBound A T B R s.arg s.ty s.bound s.trait;
  trait = fold-roll-TraitRef A T B R s.arg s.ty s.bound s.trait;
}

-- ---- maps that go by the same steps are the same

module _ (A T B R : Type 0) (s : Steps A T B R) (m n : Maps A T B R) (by_m : GoBySteps s m) (by_n : GoBySteps s n) where
  abbrev AgreedArg : Type 0
  AgreedArg = AgreedOn m.arg n.arg

  abbrev AgreedTy : Type 0
  AgreedTy = AgreedOn m.ty n.ty

  abbrev AgreedBound : Type 0
  AgreedBound = AgreedOn m.bound n.bound

  abbrev AgreedTrait : Type 0
  AgreedTrait = AgreedOn m.trait n.trait

  abbrev arg_values : GenericArg-F AgreedArg AgreedTy AgreedBound AgreedTrait → GenericArg-F GenericArg Ty AliasBound TraitRef
  arg_values = map-GenericArg AgreedArg AgreedTy AgreedBound AgreedTrait GenericArg Ty AliasBound TraitRef (λ e. e.0) (λ e. e.0) (λ e. e.0)
      (λ e. e.0)

  abbrev ty_values : Ty-F AgreedArg AgreedTy AgreedBound AgreedTrait → Ty-F GenericArg Ty AliasBound TraitRef
  ty_values = map-Ty AgreedArg AgreedTy AgreedBound AgreedTrait GenericArg Ty AliasBound TraitRef (λ e. e.0) (λ e. e.0) (λ e. e.0)
      (λ e. e.0)

  abbrev bound_values : AliasBound-F AgreedArg AgreedTy AgreedBound AgreedTrait → AliasBound-F GenericArg Ty AliasBound TraitRef
  bound_values = map-AliasBound AgreedArg AgreedTy AgreedBound AgreedTrait GenericArg Ty AliasBound TraitRef (λ e. e.0) (λ e. e.0)
      (λ e. e.0) (λ e. e.0)

  abbrev trait_values : TraitRef-F AgreedArg AgreedTy AgreedBound AgreedTrait → TraitRef-F GenericArg Ty AliasBound TraitRef
  trait_values = map-TraitRef AgreedArg AgreedTy AgreedBound AgreedTrait GenericArg Ty AliasBound TraitRef (λ e. e.0) (λ e. e.0) (λ e. e.0)
      (λ e. e.0)

  arg_layer_same : (y : GenericArg-F AgreedArg AgreedTy AgreedBound AgreedTrait) → in_arg m (arg_values y) ≡ in_arg n (arg_values y)
  arg_layer_same (GenericArg-F.Ty t) = λ i. GenericArg-F.Ty (t.1 i)
  arg_layer_same (GenericArg-F.Const c) = refl

  ty_layer_same : (y : Ty-F AgreedArg AgreedTy AgreedBound AgreedTrait) → in_ty m (ty_values y) ≡ in_ty n (ty_values y)
  ty_layer_same (Ty-F.Tuple ts) = λ i. Ty-F.Tuple (map_agreed m.ty n.ty ts i)
  ty_layer_same (Ty-F.Array t c) = λ i. Ty-F.Array (t.1 i) c
  ty_layer_same (Ty-F.Slice t) = λ i. Ty-F.Slice (t.1 i)
  ty_layer_same (Ty-F.Ref u r t) = λ i. Ty-F.Ref u r (t.1 i)
  ty_layer_same (Ty-F.RawPtr u t) = λ i. Ty-F.RawPtr u (t.1 i)
  ty_layer_same (Ty-F.Adt id xs) = λ i. Ty-F.Adt id (map_agreed m.arg n.arg xs i)
  ty_layer_same (Ty-F.FnDef id xs) = λ i. Ty-F.FnDef id (map_agreed m.arg n.arg xs i)
  ty_layer_same (Ty-F.FnPtr u ts t) = λ i. Ty-F.FnPtr u (map_agreed m.ty n.ty ts i) (t.1 i)
  ty_layer_same (Ty-F.Closure id ts t) = λ i. Ty-F.Closure id (map_agreed m.ty n.ty ts i) (t.1 i)
  ty_layer_same (Ty-F.Dynamic None bs ids) = λ i. Ty-F.Dynamic None (map_agreed m.bound n.bound bs i) ids
  ty_layer_same (Ty-F.Dynamic (Some r) bs ids) = λ i. Ty-F.Dynamic (Some (r.1 i)) (map_agreed m.bound n.bound bs i) ids
  ty_layer_same (Ty-F.Projection id xs) = λ i. Ty-F.Projection id (map_agreed m.arg n.arg xs i)
  ty_layer_same (Ty-F.AssociatedType id xs) = λ i. Ty-F.AssociatedType id (map_agreed m.arg n.arg xs i)
  ty_layer_same (Ty-F.Opaque id xs) = λ i. Ty-F.Opaque id (map_agreed m.arg n.arg xs i)
  ty_layer_same _ = refl

  bound_layer_same : (y : AliasBound-F AgreedArg AgreedTy AgreedBound AgreedTrait)
      → in_bound m (bound_values y) ≡ in_bound n (bound_values y)
  bound_layer_same y = λ i. record { alias = y.alias; ty = y.ty.1 i }

  trait_layer_same : (y : TraitRef-F AgreedArg AgreedTy AgreedBound AgreedTrait) → in_trait m (trait_values y) ≡ in_trait n (trait_values y)
  trait_layer_same y = λ i. record { id = y.id; args = map_agreed m.arg n.arg y.args i }

  arg_same_at : (x : GenericArg-F GenericArg Ty AliasBound TraitRef) (y : GenericArg-F AgreedArg AgreedTy AgreedBound AgreedTrait)
      → arg_values y ≡ x → m.arg (roll-GenericArg x) ≡ n.arg (roll-GenericArg x)
  arg_same_at x y is = by_m.arg x ∙ ap s.arg (subst (λ z. in_arg m z ≡ in_arg n z) is (arg_layer_same y)) ∙ sym (by_n.arg x)

  ty_same_at : (x : Ty-F GenericArg Ty AliasBound TraitRef) (y : Ty-F AgreedArg AgreedTy AgreedBound AgreedTrait) → ty_values y ≡ x
      → m.ty (roll-Ty x) ≡ n.ty (roll-Ty x)
  ty_same_at x y is = by_m.ty x ∙ ap s.ty (subst (λ z. in_ty m z ≡ in_ty n z) is (ty_layer_same y)) ∙ sym (by_n.ty x)

  bound_same_at : (x : AliasBound-F GenericArg Ty AliasBound TraitRef) (y : AliasBound-F AgreedArg AgreedTy AgreedBound AgreedTrait)
      → bound_values y ≡ x → m.bound (roll-AliasBound x) ≡ n.bound (roll-AliasBound x)
  bound_same_at x y is = by_m.bound x ∙ ap s.bound (subst (λ z. in_bound m z ≡ in_bound n z) is (bound_layer_same y)) ∙ sym (by_n.bound x)

  trait_same_at : (x : TraitRef-F GenericArg Ty AliasBound TraitRef) (y : TraitRef-F AgreedArg AgreedTy AgreedBound AgreedTrait)
      → trait_values y ≡ x → m.trait (roll-TraitRef x) ≡ n.trait (roll-TraitRef x)
  trait_same_at x y is = by_m.trait x ∙ ap s.trait (subst (λ z. in_trait m z ≡ in_trait n z) is (trait_layer_same y)) ∙ sym (by_n.trait x)

  abbrev ArgSame : GenericArg → Type 0
  ArgSame x = m.arg x ≡ n.arg x

  abbrev TySame : Ty → Type 0
  TySame t = m.ty t ≡ n.ty t

  abbrev BoundSame : AliasBound → Type 0
  BoundSame b = m.bound b ≡ n.bound b

  abbrev TraitSame : TraitRef → Type 0
  TraitSame r = m.trait r ≡ n.trait r

  pub arg_unique : (x : GenericArg) → m.arg x ≡ n.arg x
  arg_unique = ind-GenericArg ArgSame TySame BoundSame TraitSame arg_same_at ty_same_at bound_same_at trait_same_at

  pub ty_unique : (t : Ty) → m.ty t ≡ n.ty t
  ty_unique = ind-Ty ArgSame TySame BoundSame TraitSame arg_same_at ty_same_at bound_same_at trait_same_at

  pub bound_unique : (b : AliasBound) → m.bound b ≡ n.bound b
  bound_unique = ind-AliasBound ArgSame TySame BoundSame TraitSame arg_same_at ty_same_at bound_same_at trait_same_at

  pub trait_unique : (r : TraitRef) → m.trait r ≡ n.trait r
  trait_unique = ind-TraitRef ArgSame TySame BoundSame TraitSame arg_same_at ty_same_at bound_same_at trait_same_at

pub record SameMaps {A T B R : Type 0} (m n : Maps A T B R) : Type 0 where
  pub arg : (x : GenericArg) → m.arg x ≡ n.arg x
  pub ty : (t : Ty) → m.ty t ≡ n.ty t
  pub bound : (b : AliasBound) → m.bound b ≡ n.bound b
  pub trait : (r : TraitRef) → m.trait r ≡ n.trait r

-- maps that go by the same steps are the same
pub unique : {A T B R : Type 0} (s : Steps A T B R) (m n : Maps A T B R) → GoBySteps s m → GoBySteps s n → SameMaps m n
unique {A = A} {T = T} {B = B} {R = R} s m n by_m by_n = record {
  arg = arg_unique A T B R s m n by_m by_n;
  ty = ty_unique A T B R s m n by_m by_n;
  bound = bound_unique A T B R s m n by_m by_n;
  trait = trait_unique A T B R s m n by_m by_n;
}

-- ---- two maps, one after the other

-- the second maps lead from the four types to themselves
abbrev pub maps_after : {A T B R : Type 0} → Maps A T B R → Maps GenericArg Ty AliasBound TraitRef → Maps A T B R
maps_after m n = record {
  arg = λ x. m.arg (n.arg x);
  ty = λ t. m.ty (n.ty t);
  bound = λ b. m.bound (n.bound b);
  trait =
      λ r. m.trait (n.trait r);
}

pub in_arg_twice : {A T B R : Type 0} (m : Maps A T B R) (n : Maps GenericArg Ty AliasBound TraitRef)
    (x : GenericArg-F GenericArg Ty AliasBound TraitRef) → in_arg m (in_arg n x) ≡ in_arg (maps_after m n) x
in_arg_twice m n (GenericArg-F.Ty t) = refl
in_arg_twice m n (GenericArg-F.Const c) = refl

pub in_ty_twice : {A T B R : Type 0} (m : Maps A T B R) (n : Maps GenericArg Ty AliasBound TraitRef)
    (x : Ty-F GenericArg Ty AliasBound TraitRef) → in_ty m (in_ty n x) ≡ in_ty (maps_after m n) x
in_ty_twice m n (Ty-F.Tuple ts) = λ i. Ty-F.Tuple (map_twice m.ty n.ty ts i)
in_ty_twice m n (Ty-F.Adt id xs) = λ i. Ty-F.Adt id (map_twice m.arg n.arg xs i)
in_ty_twice m n (Ty-F.FnDef id xs) = λ i. Ty-F.FnDef id (map_twice m.arg n.arg xs i)
in_ty_twice m n (Ty-F.FnPtr u ts t) = λ i. Ty-F.FnPtr u (map_twice m.ty n.ty ts i) (m.ty (n.ty t))
in_ty_twice m n (Ty-F.Closure id ts t) = λ i. Ty-F.Closure id (map_twice m.ty n.ty ts i) (m.ty (n.ty t))
in_ty_twice m n (Ty-F.Dynamic None bs ids) = λ i. Ty-F.Dynamic None (map_twice m.bound n.bound bs i) ids
in_ty_twice m n (Ty-F.Dynamic (Some r) bs ids) = λ i. Ty-F.Dynamic (Some (m.trait (n.trait r))) (map_twice m.bound n.bound bs i) ids
in_ty_twice m n (Ty-F.Projection id xs) = λ i. Ty-F.Projection id (map_twice m.arg n.arg xs i)
in_ty_twice m n (Ty-F.AssociatedType id xs) = λ i. Ty-F.AssociatedType id (map_twice m.arg n.arg xs i)
in_ty_twice m n (Ty-F.Opaque id xs) = λ i. Ty-F.Opaque id (map_twice m.arg n.arg xs i)
in_ty_twice m n _ = refl

pub in_bound_twice : {A T B R : Type 0} (m : Maps A T B R) (n : Maps GenericArg Ty AliasBound TraitRef)
    (x : AliasBound-F GenericArg Ty AliasBound TraitRef) → in_bound m (in_bound n x) ≡ in_bound (maps_after m n) x
in_bound_twice m n x = refl

pub in_trait_twice : {A T B R : Type 0} (m : Maps A T B R) (n : Maps GenericArg Ty AliasBound TraitRef)
    (x : TraitRef-F GenericArg Ty AliasBound TraitRef) → in_trait m (in_trait n x) ≡ in_trait (maps_after m n) x
in_trait_twice m n x = λ i. record { id = x.id; args = map_twice m.arg n.arg x.args i }

-- ---- each value itself

abbrev pub itself : Maps GenericArg Ty AliasBound TraitRef
itself = record { arg = λ x. x; ty = λ t. t; bound = λ b. b; trait = λ r. r }

pub in_ty_itself : (x : Ty-F GenericArg Ty AliasBound TraitRef) → in_ty itself x ≡ x
in_ty_itself (Ty-F.Tuple ts) = λ i. Ty-F.Tuple (map_itself ts i)
in_ty_itself (Ty-F.Adt id xs) = λ i. Ty-F.Adt id (map_itself xs i)
in_ty_itself (Ty-F.FnDef id xs) = λ i. Ty-F.FnDef id (map_itself xs i)
in_ty_itself (Ty-F.FnPtr u ts t) = λ i. Ty-F.FnPtr u (map_itself ts i) t
in_ty_itself (Ty-F.Closure id ts t) = λ i. Ty-F.Closure id (map_itself ts i) t
in_ty_itself (Ty-F.Dynamic None bs ids) = λ i. Ty-F.Dynamic None (map_itself bs i) ids
in_ty_itself (Ty-F.Dynamic (Some r) bs ids) = λ i. Ty-F.Dynamic (Some r) (map_itself bs i) ids
in_ty_itself (Ty-F.Projection id xs) = λ i. Ty-F.Projection id (map_itself xs i)
in_ty_itself (Ty-F.AssociatedType id xs) = λ i. Ty-F.AssociatedType id (map_itself xs i)
in_ty_itself (Ty-F.Opaque id xs) = λ i. Ty-F.Opaque id (map_itself xs i)
in_ty_itself _ = refl

pub in_bound_itself : (x : AliasBound-F GenericArg Ty AliasBound TraitRef) → in_bound itself x ≡ x
in_bound_itself x = refl

pub in_trait_itself : (x : TraitRef-F GenericArg Ty AliasBound TraitRef) → in_trait itself x ≡ x
in_trait_itself x = λ i. record { id = x.id; args = map_itself x.args i }
