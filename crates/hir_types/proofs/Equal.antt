-- `==` of types holds of equal types alone.
use Rattle.std.proofs.Common.{rules, ◌≡◌, refl, sym, ap, subst, ◌∙◌, Bool, true, ◌&&◌, ℕ, List, Option, Some, None, map, nat_eq}
use Rattle.std.specs.Prelude.{option_map}
use mathlib.Core.Bool.{true≢false}
use denote.Enum.Declared.{values_one}
use denote.Enum.Compared.{Each}
use denote.Enum.Bare.{same_true}
use denote.Hole.Carrier as carrier
use Rattle.std.specs.Bool.{Decides}
use Rattle.std.specs.Cmp.{first_so, second_so, unsigned_Decides}
use Rattle.std.specs.Option.{option_eq}
use Rattle.std.specs.Cmp.Lexicographic.{pointwise, pointwise_decides}
use Rattle.hir_types.proofs.ExactEquality.{IsExactAt, one_tells, pair_tells, items_tell, AreExactAt, by_tells, nat_tells}
use Rattle.hir_types.specs.Own.{AdtId, TraitId, TypeAliasId, OpaqueId, ClosureId, CallableDefId, IntTy, UintTy, FloatTy, Mutability, Safety, Region, Const, TraitRef, TraitRef-F, map-TraitRef, roll-TraitRef, AliasBound, AliasBound-F, map-AliasBound, roll-AliasBound, Ty, Ty-F, map-Ty, ind-Ty, roll-Ty, out-roll-Ty, GenericArg, GenericArg-F, map-GenericArg, roll-GenericArg, out-roll-GenericArg}
use Rattle.hir_types.specs.declared.ty.GenericArg.TheBlock.{the_members, the_sigs, the_carrier, split-Ty, split-GenericArg}
use Rattle.hir_types.specs.declared.ty.GenericArg.TheViews.{parts_is-GenericArg}
use Rattle.hir_types.specs.contracts.ty.Ty as ty
use Rattle.hir_types.specs.contracts.ty.GenericArg as arg
use Rattle.hir_types.specs.contracts.ty.IntTy as int
use Rattle.hir_types.specs.contracts.ty.UintTy as uint
use Rattle.hir_types.specs.contracts.ty.FloatTy as float
use Rattle.hir_types.specs.contracts.ty.Mutability as mutability
use Rattle.hir_types.specs.contracts.ty.Safety as safety
use Rattle.hir_types.specs.contracts.ty.TraitRefPartialEq.TheImpl as trait_impl
use Rattle.hir_types.specs.contracts.ty.TraitRefPartialEq.TheImpl.Laws as trait_laws
use Rattle.hir_types.specs.contracts.ty.AliasBoundPartialEq.TheImpl as bound_impl
use Rattle.hir_types.specs.contracts.ty.AliasBoundPartialEq.TheImpl.Laws as bound_laws
use Rattle.hir_types.specs.contracts.ty.GenericArgPartialEq.TheImpl as arg_impl
use Rattle.hir_types.specs.contracts.ty.GenericArgPartialEq.TheImpl.Laws as arg_laws
use Rattle.hir_types.specs.contracts.ty.TyPartialEq.TheImpl as ty_impl
use Rattle.hir_types.specs.contracts.ty.TyPartialEq.TheImpl.Laws as ty_laws
use Rattle.hir_types.specs.contracts.ty.TyEq.TheImpl.Laws as ty_equiv
use Rattle.hir_types.specs.contracts.ty.IntTyPartialEq.TheImpl as int_impl
use Rattle.hir_types.specs.contracts.ty.UintTyPartialEq.TheImpl as uint_impl
use Rattle.hir_types.specs.contracts.ty.FloatTyPartialEq.TheImpl as float_impl
use Rattle.hir_types.specs.contracts.ty.MutabilityPartialEq.TheImpl as mutability_impl
use Rattle.hir_types.specs.contracts.ty.SafetyPartialEq.TheImpl as safety_impl
use Rattle.hir_types.specs.contracts.ty.RegionPartialEq.TheImpl as region_impl
use Rattle.hir_types.specs.contracts.ty.ConstPartialEq.TheImpl as const_impl
use Rattle.hir_types.specs.contracts.ids.AdtIdPartialEq.TheImpl as adt_id_impl
use Rattle.hir_types.specs.contracts.ids.TraitIdPartialEq.TheImpl as trait_id_impl
use Rattle.hir_types.specs.contracts.ids.TypeAliasIdPartialEq.TheImpl as alias_id_impl
use Rattle.hir_types.specs.contracts.ids.OpaqueIdPartialEq.TheImpl as opaque_id_impl
use Rattle.hir_types.specs.contracts.ids.ClosureIdPartialEq.TheImpl as closure_id_impl
use Rattle.hir_types.specs.contracts.ids.CallableDefIdPartialEq.TheImpl as callable_id_impl

-- ---- of what types are made of besides types

abbrev int_eq : IntTy → IntTy → Bool
int_eq = int_impl.ghosts.eq

abbrev uint_eq : UintTy → UintTy → Bool
uint_eq = uint_impl.ghosts.eq

abbrev float_eq : FloatTy → FloatTy → Bool
float_eq = float_impl.ghosts.eq

abbrev mutability_eq : Mutability → Mutability → Bool
mutability_eq = mutability_impl.ghosts.eq

abbrev safety_eq : Safety → Safety → Bool
safety_eq = safety_impl.ghosts.eq

abbrev region_eq : Region → Region → Bool
region_eq = region_impl.ghosts.eq

abbrev const_eq : Const → Const → Bool
const_eq = const_impl.ghosts.eq

abbrev adt_id_eq : AdtId → AdtId → Bool
adt_id_eq = adt_id_impl.ghosts.eq

abbrev trait_id_eq : TraitId → TraitId → Bool
trait_id_eq = trait_id_impl.ghosts.eq

abbrev alias_id_eq : TypeAliasId → TypeAliasId → Bool
alias_id_eq = alias_id_impl.ghosts.eq

abbrev opaque_id_eq : OpaqueId → OpaqueId → Bool
opaque_id_eq = opaque_id_impl.ghosts.eq

abbrev closure_id_eq : ClosureId → ClosureId → Bool
closure_id_eq = closure_id_impl.ghosts.eq

abbrev callable_id_eq : CallableDefId → CallableDefId → Bool
callable_id_eq = callable_id_impl.ghosts.eq

int_tells : (a : IntTy) → IsExactAt int_eq a
int_tells = same_true int.the_type tt

uint_tells : (a : UintTy) → IsExactAt uint_eq a
uint_tells = same_true uint.the_type tt

float_tells : (a : FloatTy) → IsExactAt float_eq a
float_tells = same_true float.the_type tt

mutability_tells : (a : Mutability) → IsExactAt mutability_eq a
mutability_tells = same_true mutability.the_type tt

safety_tells : (a : Safety) → IsExactAt safety_eq a
safety_tells = same_true safety.the_type tt

text_tells : (a : List ℕ) → IsExactAt (pointwise nat_eq) a
text_tells a b h = (pointwise_decides unsigned_Decides a b).0 h

region_tells : (a : Region) → IsExactAt region_eq a
region_tells a b h = let e : a.0 ≡ b.0 = text_tells a.0 b.0 h in λ i. record { 0 = e i }

const_tells : (a : Const) → IsExactAt const_eq a
const_tells a b h = search rules

adt_id_tells : (a : AdtId) → IsExactAt adt_id_eq a
adt_id_tells a b h = search rules

trait_id_tells : (a : TraitId) → IsExactAt trait_id_eq a
trait_id_tells a b h = search rules

alias_id_tells : (a : TypeAliasId) → IsExactAt alias_id_eq a
alias_id_tells a b h = search rules

opaque_id_tells : (a : OpaqueId) → IsExactAt opaque_id_eq a
opaque_id_tells a b h = search rules

closure_id_tells : (a : ClosureId) → IsExactAt closure_id_eq a
closure_id_tells a b h = search rules

callable_id_tells : (a : CallableDefId) → IsExactAt callable_id_eq a
callable_id_tells a b h = search rules

trait_id_decides : (a b : TraitId) → Decides (trait_id_eq a b) (a ≡ b)
trait_id_decides a b = search rules

trait_ids_tell : (xs : List TraitId) → IsExactAt (pointwise trait_id_eq) xs
trait_ids_tell xs ys h = (pointwise_decides trait_id_decides xs ys).0 h

-- ---- of types, arguments, traits and bounds

abbrev pub ty_eq : Ty → Ty → Bool
ty_eq = ty_impl.ghosts.eq

abbrev pub arg_eq : GenericArg → GenericArg → Bool
arg_eq = arg_impl.ghosts.eq

abbrev pub trait_eq : TraitRef → TraitRef → Bool
trait_eq = trait_impl.ghosts.eq

abbrev pub bound_eq : AliasBound → AliasBound → Bool
bound_eq = bound_impl.ghosts.eq

trait_same : (a b : TraitRef) → a.id ≡ b.id → a.args ≡ b.args → a ≡ b
trait_same a b e f = λ i. record { id = e i; args = f i }

bound_same : (a b : AliasBound) → a.alias ≡ b.alias → a.ty ≡ b.ty → a ≡ b
bound_same a b e f = λ i. record { alias = e i; ty = f i }

trait_from_parts : (a : TraitRef) → IsExactAt (pointwise arg_eq) a.args → IsExactAt trait_eq a
trait_from_parts a t b h =
    let g : (trait_id_eq a.id b.id && pointwise arg_eq a.args b.args) ≡ true = sym (trait_laws.is a b) ∙ h in
    trait_same a b (trait_id_tells a.id b.id (first_so (trait_id_eq a.id b.id) (pointwise arg_eq a.args b.args) g)) (t b.args (second_so (trait_id_eq a.id b.id) (pointwise arg_eq a.args b.args) g))

bound_from_parts : (a : AliasBound) → IsExactAt ty_eq a.ty → IsExactAt bound_eq a
bound_from_parts a t b h =
    let g : (alias_id_eq a.alias b.alias && ty_eq a.ty b.ty) ≡ true = sym (bound_laws.is a b) ∙ h in
    bound_same a b (alias_id_tells a.alias b.alias (first_so (alias_id_eq a.alias b.alias) (ty_eq a.ty b.ty) g)) (t b.ty (second_so (alias_id_eq a.alias b.alias) (ty_eq a.ty b.ty) g))

-- at a value or none
maybe_tells : {A : Type 0} (E : A → A → Bool) (o : Option ((a : A) × IsExactAt E a)) → IsExactAt (option_eq E) (option_map (λ x. x.0) o)
maybe_tells E None None h = refl
maybe_tells E None (Some y) h = absurd (true≢false (sym h))
maybe_tells E (Some x) None h = absurd (true≢false (sym h))
maybe_tells E (Some x) (Some y) h = ap Some (x.1 y h)

abbrev V : the_members → Type 0
V = carrier.Values the_members the_sigs the_carrier

abbrev ty_each : Each Bool ty.the_parts
ty_each = (λ a b. true, (λ a b. true, (λ a b. int_eq a.0 b.0, (λ a b. uint_eq a.0 b.0, (λ a b. float_eq a.0 b.0, (λ a b. true, (λ a b. true, (λ a b. pointwise ty_eq a.0 b.0, (λ a b. ty_eq a.0 b.0 && const_eq a.1.0 b.1.0, (λ a b. ty_eq a.0 b.0, (λ a b. mutability_eq a.0 b.0 && (region_eq a.1.0 b.1.0 && ty_eq a.1.1.0 b.1.1.0), (λ a b. mutability_eq a.0 b.0 && ty_eq a.1.0 b.1.0, (λ a b. adt_id_eq a.0 b.0 && pointwise arg_eq a.1.0 b.1.0, (λ a b. callable_id_eq a.0 b.0 && pointwise arg_eq a.1.0 b.1.0, (λ a b. safety_eq a.0 b.0 && (pointwise ty_eq a.1.0 b.1.0 && ty_eq a.1.1.0 b.1.1.0), (λ a b. closure_id_eq a.0 b.0 && (pointwise ty_eq a.1.0 b.1.0 && ty_eq a.1.1.0 b.1.1.0), (λ a b. option_eq trait_eq a.0 b.0 && (pointwise bound_eq a.1.0 b.1.0 && pointwise trait_id_eq a.1.1.0 b.1.1.0), (λ a b. nat_eq a.0 b.0, (λ a b. alias_id_eq a.0 b.0 && pointwise arg_eq a.1.0 b.1.0, (λ a b. alias_id_eq a.0 b.0 && pointwise arg_eq a.1.0 b.1.0, (λ a b. opaque_id_eq a.0 b.0 && pointwise arg_eq a.1.0 b.1.0, (λ a b. true, (λ a b. nat_eq a.0 b.0, (λ a b. nat_eq a.0 b.0, (λ a b. true, tt)))))))))))))))))))))))))

abbrev arg_each : Each Bool arg.the_parts
arg_each = (λ a b. ty_eq a.0 b.0, (λ a b. const_eq a.0 b.0, tt))

ty_from_parts : (a : Ty) → AreExactAt ty.the_parts ty_each (ty.as_values a) → IsExactAt ty_eq a
ty_from_parts a t b h = values_one ty.enum a b (by_tells ty.the_parts ty_each (ty.as_values a) (ty.as_values b) t (sym (ty_laws.is a b) ∙ h))

arg_from_parts : (a : GenericArg) → AreExactAt arg.the_parts arg_each (arg.as_values a) → IsExactAt arg_eq a
arg_from_parts a t b h = values_one arg.enum a b (by_tells arg.the_parts arg_each (arg.as_values a) (arg.as_values b) t (sym (arg_laws.is a b) ∙ h))

abbrev ExactTy : Type 0
ExactTy = (a : Ty) × IsExactAt ty_eq a

abbrev ExactArg : Type 0
ExactArg = (a : GenericArg) × IsExactAt arg_eq a

abbrev ExactBound : Type 0
ExactBound = (a : AliasBound) × IsExactAt bound_eq a

abbrev ExactTrait : Type 0
ExactTrait = (a : TraitRef) × IsExactAt trait_eq a

abbrev ty_of : Ty-F ExactArg ExactTy ExactBound ExactTrait → Ty-F GenericArg Ty AliasBound TraitRef
ty_of = map-Ty ExactArg ExactTy ExactBound ExactTrait GenericArg Ty AliasBound TraitRef (λ e. e.0) (λ e. e.0) (λ e. e.0) (λ e. e.0)

abbrev arg_of : GenericArg-F ExactArg ExactTy ExactBound ExactTrait → GenericArg-F GenericArg Ty AliasBound TraitRef
arg_of = map-GenericArg ExactArg ExactTy ExactBound ExactTrait GenericArg Ty AliasBound TraitRef (λ e. e.0) (λ e. e.0) (λ e. e.0) (λ e. e.0)

abbrev bound_of : AliasBound-F ExactArg ExactTy ExactBound ExactTrait → AliasBound-F GenericArg Ty AliasBound TraitRef
bound_of = map-AliasBound ExactArg ExactTy ExactBound ExactTrait GenericArg Ty AliasBound TraitRef (λ e. e.0) (λ e. e.0) (λ e. e.0) (λ e. e.0)

abbrev trait_of : TraitRef-F ExactArg ExactTy ExactBound ExactTrait → TraitRef-F GenericArg Ty AliasBound TraitRef
trait_of = map-TraitRef ExactArg ExactTy ExactBound ExactTrait GenericArg Ty AliasBound TraitRef (λ e. e.0) (λ e. e.0) (λ e. e.0) (λ e. e.0)

-- a field before a list of arguments
with_args : {A : Type 0} (E : A → A → Bool) (a : A) (xs : List ExactArg) → IsExactAt E a → (y : A × (List GenericArg × Unit {0})) → (E a y.0 && pointwise arg_eq (map (λ e. e.0) xs) y.1.0) ≡ true → (a, (map (λ e. e.0) xs, tt)) ≡ y
with_args E a xs t = pair_tells E (λ u v. pointwise arg_eq u.0 v.0) a (map (λ e. e.0) xs, tt) t (one_tells (pointwise arg_eq) (map (λ e. e.0) xs) (items_tell arg_eq xs))

-- a field before inputs and an output
with_types : {A : Type 0} (E : A → A → Bool) (a : A) (ts : List ExactTy) (t : ExactTy) → IsExactAt E a → (y : A × (List Ty × (Ty × Unit {0}))) → (E a y.0 && (pointwise ty_eq (map (λ e. e.0) ts) y.1.0 && ty_eq t.0 y.1.1.0)) ≡ true → (a, (map (λ e. e.0) ts, (t.0, tt))) ≡ y
with_types E a ts t p = pair_tells E (λ u v. pointwise ty_eq u.0 v.0 && ty_eq u.1.0 v.1.0) a (map (λ e. e.0) ts, (t.0, tt)) p
    (pair_tells (pointwise ty_eq) (λ u v. ty_eq u.0 v.0) (map (λ e. e.0) ts) (t.0, tt) (items_tell ty_eq ts) (one_tells ty_eq t.0 t.1))

with_traits : (o : Option ExactTrait) (bs : List ExactBound) (ts : List TraitId) (y : Option TraitRef × (List AliasBound × (List TraitId × Unit {0}))) → (option_eq trait_eq (option_map (λ e. e.0) o) y.0 && (pointwise bound_eq (map (λ e. e.0) bs) y.1.0 && pointwise trait_id_eq ts y.1.1.0)) ≡ true → (option_map (λ e. e.0) o, (map (λ e. e.0) bs, (ts, tt))) ≡ y
with_traits o bs ts = pair_tells (option_eq trait_eq) (λ (a b : List AliasBound × (List TraitId × Unit {0})). pointwise bound_eq a.0 b.0 && pointwise trait_id_eq a.1.0 b.1.0) (option_map (λ e. e.0) o) (map (λ e. e.0) bs, (ts, tt)) (maybe_tells trait_eq o)
    (pair_tells (pointwise bound_eq) (λ (a b : List TraitId × Unit {0}). pointwise trait_id_eq a.0 b.0) (map (λ e. e.0) bs) (ts, tt) (items_tell bound_eq bs) (one_tells (pointwise trait_id_eq) ts (trait_ids_tell ts)))

ty_parts : (y : Ty-F ExactArg ExactTy ExactBound ExactTrait) → AreExactAt ty.the_parts ty_each (split-Ty V (ty_of y))
ty_parts Ty-F.Bool = λ y h. refl
ty_parts Ty-F.Char = λ y h. refl
ty_parts (Ty-F.Int i) = one_tells int_eq i (int_tells i)
ty_parts (Ty-F.Uint u) = one_tells uint_eq u (uint_tells u)
ty_parts (Ty-F.Float f) = one_tells float_eq f (float_tells f)
ty_parts Ty-F.Str = λ y h. refl
ty_parts Ty-F.Never = λ y h. refl
ty_parts (Ty-F.Tuple ts) = one_tells (pointwise ty_eq) (map (λ e. e.0) ts) (items_tell ty_eq ts)
ty_parts (Ty-F.Array t c) = pair_tells ty_eq (λ a b. const_eq a.0 b.0) t.0 (c, tt) t.1 (one_tells const_eq c (const_tells c))
ty_parts (Ty-F.Slice t) = one_tells ty_eq t.0 t.1
ty_parts (Ty-F.Ref m r t) = pair_tells mutability_eq (λ a b. region_eq a.0 b.0 && ty_eq a.1.0 b.1.0) m (r, (t.0, tt)) (mutability_tells m)
    (pair_tells region_eq (λ a b. ty_eq a.0 b.0) r (t.0, tt) (region_tells r) (one_tells ty_eq t.0 t.1))
ty_parts (Ty-F.RawPtr m t) = pair_tells mutability_eq (λ a b. ty_eq a.0 b.0) m (t.0, tt) (mutability_tells m) (one_tells ty_eq t.0 t.1)
ty_parts (Ty-F.Adt i xs) = with_args adt_id_eq i xs (adt_id_tells i)
ty_parts (Ty-F.FnDef i xs) = with_args callable_id_eq i xs (callable_id_tells i)
ty_parts (Ty-F.FnPtr s ts t) = with_types safety_eq s ts t (safety_tells s)
ty_parts (Ty-F.Closure i ts t) = with_types closure_id_eq i ts t (closure_id_tells i)
ty_parts (Ty-F.Dynamic None bs ts) = with_traits None bs ts
ty_parts (Ty-F.Dynamic (Some t) bs ts) = with_traits (Some t) bs ts
ty_parts (Ty-F.Param n) = one_tells nat_eq n (nat_tells n)
ty_parts (Ty-F.Projection i xs) = with_args alias_id_eq i xs (alias_id_tells i)
ty_parts (Ty-F.AssociatedType i xs) = with_args alias_id_eq i xs (alias_id_tells i)
ty_parts (Ty-F.Opaque i xs) = with_args opaque_id_eq i xs (opaque_id_tells i)
ty_parts Ty-F.Error = λ y h. refl
ty_parts (Ty-F.Var n) = one_tells nat_eq n (nat_tells n)
ty_parts (Ty-F.IntVar n) = one_tells nat_eq n (nat_tells n)
ty_parts Ty-F.Hole = λ y h. refl

arg_parts : (y : GenericArg-F ExactArg ExactTy ExactBound ExactTrait) → AreExactAt arg.the_parts arg_each (split-GenericArg V (arg_of y))
arg_parts (GenericArg-F.Ty t) = one_tells ty_eq t.0 t.1
arg_parts (GenericArg-F.Const c) = one_tells const_eq c (const_tells c)

ty_step : (x : Ty-F GenericArg Ty AliasBound TraitRef) (y : Ty-F ExactArg ExactTy ExactBound ExactTrait) → ty_of y ≡ x → IsExactAt ty_eq (roll-Ty x)
ty_step x y is = ty_from_parts (roll-Ty x) (subst (λ z. AreExactAt ty.the_parts ty_each (split-Ty V z)) (is ∙ sym (out-roll-Ty x)) (ty_parts y))

arg_step : (x : GenericArg-F GenericArg Ty AliasBound TraitRef) (y : GenericArg-F ExactArg ExactTy ExactBound ExactTrait) → arg_of y ≡ x → IsExactAt arg_eq (roll-GenericArg x)
arg_step x y is = arg_from_parts (roll-GenericArg x) (subst (AreExactAt arg.the_parts arg_each) (ap (split-GenericArg V) (is ∙ sym (out-roll-GenericArg x)) ∙ sym (parts_is-GenericArg (roll-GenericArg x))) (arg_parts y))

bound_step : (x : AliasBound-F GenericArg Ty AliasBound TraitRef) (y : AliasBound-F ExactArg ExactTy ExactBound ExactTrait) → bound_of y ≡ x → IsExactAt bound_eq (roll-AliasBound x)
bound_step x y is = subst (λ z. IsExactAt bound_eq (roll-AliasBound z)) is (bound_from_parts (roll-AliasBound (bound_of y)) y.ty.1)

trait_step : (x : TraitRef-F GenericArg Ty AliasBound TraitRef) (y : TraitRef-F ExactArg ExactTy ExactBound ExactTrait) → trait_of y ≡ x → IsExactAt trait_eq (roll-TraitRef x)
trait_step x y is = subst (λ z. IsExactAt trait_eq (roll-TraitRef z)) is (trait_from_parts (roll-TraitRef (trait_of y)) (items_tell arg_eq y.args))

pub ty_tells : (a : Ty) → IsExactAt ty_eq a
ty_tells = ind-Ty (IsExactAt arg_eq) (IsExactAt ty_eq) (IsExactAt bound_eq) (IsExactAt trait_eq) arg_step ty_step bound_step trait_step

pub ty_decides : (a b : Ty) → Decides (ty_eq a b) (a ≡ b)
ty_decides a b = (ty_tells a b, λ e. subst (λ z. ty_eq a z ≡ true) e (ty_equiv.laws-law.refl a))
