-- `==` of heads holds of equal heads alone.
use Rattle.std.proofs.Common.{rules, ◌≡◌, refl, subst, Bool, true, nat_eq}
use Rattle.std.specs.Bool.{Decides}
use denote.Enum.Declared.{values_one}
use denote.Enum.Compared.{Each}
use denote.Enum.Bare.{same_true}
use Rattle.infer_table.proofs.Words.{IsExactAt, AreExactAt, one_tells, by_tells, nat_tells}
use Rattle.infer_table.specs.Words.{Head, IntTy, UintTy, FloatTy, Mutability, Safety, AdtId, TraitId, TypeAliasId, OpaqueId, ClosureId, CallableDefId}
use Rattle.hir_types.specs.declared.head.Head.TheVariants as head
use Rattle.hir_types.specs.contracts.head.Head as the_head
use Rattle.hir_types.specs.contracts.head.HeadPartialEq.TheImpl as head_impl
use Rattle.hir_types.specs.contracts.head.HeadEq.TheImpl.Laws as head_equiv
use Rattle.hir_types.specs.contracts.ty.IntTyPartialEq.TheImpl as int_impl
use Rattle.hir_types.specs.contracts.ty.IntTy as int
use Rattle.hir_types.specs.contracts.ty.UintTyPartialEq.TheImpl as uint_impl
use Rattle.hir_types.specs.contracts.ty.UintTy as uint
use Rattle.hir_types.specs.contracts.ty.FloatTyPartialEq.TheImpl as float_impl
use Rattle.hir_types.specs.contracts.ty.FloatTy as float
use Rattle.hir_types.specs.contracts.ty.MutabilityPartialEq.TheImpl as mutability_impl
use Rattle.hir_types.specs.contracts.ty.Mutability as mutability
use Rattle.hir_types.specs.contracts.ty.SafetyPartialEq.TheImpl as safety_impl
use Rattle.hir_types.specs.contracts.ty.Safety as safety
use Rattle.hir_types.specs.contracts.ids.AdtIdPartialEq.TheImpl as adt_id_impl
use Rattle.hir_types.specs.contracts.ids.TraitIdPartialEq.TheImpl as trait_id_impl
use Rattle.hir_types.specs.contracts.ids.TypeAliasIdPartialEq.TheImpl as alias_id_impl
use Rattle.hir_types.specs.contracts.ids.OpaqueIdPartialEq.TheImpl as opaque_id_impl
use Rattle.hir_types.specs.contracts.ids.ClosureIdPartialEq.TheImpl as closure_id_impl
use Rattle.hir_types.specs.contracts.ids.CallableDefIdPartialEq.TheImpl as callable_id_impl

abbrev int_eq : IntTy → IntTy → Bool
int_eq = int_impl.ghosts.eq

int_tells : (a : IntTy) → IsExactAt int_eq a
int_tells = same_true int.the_type tt

abbrev uint_eq : UintTy → UintTy → Bool
uint_eq = uint_impl.ghosts.eq

uint_tells : (a : UintTy) → IsExactAt uint_eq a
uint_tells = same_true uint.the_type tt

abbrev float_eq : FloatTy → FloatTy → Bool
float_eq = float_impl.ghosts.eq

float_tells : (a : FloatTy) → IsExactAt float_eq a
float_tells = same_true float.the_type tt

abbrev mutability_eq : Mutability → Mutability → Bool
mutability_eq = mutability_impl.ghosts.eq

mutability_tells : (a : Mutability) → IsExactAt mutability_eq a
mutability_tells = same_true mutability.the_type tt

abbrev safety_eq : Safety → Safety → Bool
safety_eq = safety_impl.ghosts.eq

safety_tells : (a : Safety) → IsExactAt safety_eq a
safety_tells = same_true safety.the_type tt

abbrev adt_id_eq : AdtId → AdtId → Bool
adt_id_eq = adt_id_impl.ghosts.eq

adt_id_tells : (a : AdtId) → IsExactAt adt_id_eq a
adt_id_tells a b h = search rules

abbrev trait_id_eq : TraitId → TraitId → Bool
trait_id_eq = trait_id_impl.ghosts.eq

trait_id_tells : (a : TraitId) → IsExactAt trait_id_eq a
trait_id_tells a b h = search rules

abbrev alias_id_eq : TypeAliasId → TypeAliasId → Bool
alias_id_eq = alias_id_impl.ghosts.eq

alias_id_tells : (a : TypeAliasId) → IsExactAt alias_id_eq a
alias_id_tells a b h = search rules

abbrev opaque_id_eq : OpaqueId → OpaqueId → Bool
opaque_id_eq = opaque_id_impl.ghosts.eq

opaque_id_tells : (a : OpaqueId) → IsExactAt opaque_id_eq a
opaque_id_tells a b h = search rules

abbrev closure_id_eq : ClosureId → ClosureId → Bool
closure_id_eq = closure_id_impl.ghosts.eq

closure_id_tells : (a : ClosureId) → IsExactAt closure_id_eq a
closure_id_tells a b h = search rules

abbrev callable_id_eq : CallableDefId → CallableDefId → Bool
callable_id_eq = callable_id_impl.ghosts.eq

callable_id_tells : (a : CallableDefId) → IsExactAt callable_id_eq a
callable_id_tells a b h = search rules

abbrev pub head_eq : Head → Head → Bool
head_eq = head_impl.ghosts.eq

abbrev head_each : Each Bool the_head.the_parts
head_each = (λ a b. true, (λ a b. true, (λ a b. int_eq a.0 b.0, (λ a b. uint_eq a.0 b.0, (λ a b. float_eq a.0 b.0, (λ a b. true, (λ a b. true, (λ a b. true, (λ a b. true, (λ a b. true, (λ a b. mutability_eq a.0 b.0, (λ a b. mutability_eq a.0 b.0, (λ a b. adt_id_eq a.0 b.0, (λ a b. callable_id_eq a.0 b.0, (λ a b. safety_eq a.0 b.0, (λ a b. closure_id_eq a.0 b.0, (λ a b. true, (λ a b. nat_eq a.0 b.0, (λ a b. alias_id_eq a.0 b.0, (λ a b. alias_id_eq a.0 b.0, (λ a b. opaque_id_eq a.0 b.0, (λ a b. true, (λ a b. true, (λ a b. nat_eq a.0 b.0, (λ a b. nat_eq a.0 b.0, (λ a b. true, (λ a b. true, (λ a b. true, (λ a b. true, (λ a b. trait_id_eq a.0 b.0, (λ a b. true, (λ a b. alias_id_eq a.0 b.0, (λ a b. trait_id_eq a.0 b.0, (λ a b. true, tt))))))))))))))))))))))))))))))))))

head_parts : (a : Head) → AreExactAt the_head.the_parts head_each (the_head.as_values a)
head_parts head.Bool = λ y h. refl
head_parts head.Char = λ y h. refl
head_parts (head.Int x) = one_tells int_eq x (int_tells x)
head_parts (head.Uint x) = one_tells uint_eq x (uint_tells x)
head_parts (head.Float x) = one_tells float_eq x (float_tells x)
head_parts head.Str = λ y h. refl
head_parts head.Never = λ y h. refl
head_parts head.Tuple = λ y h. refl
head_parts head.Array = λ y h. refl
head_parts head.Slice = λ y h. refl
head_parts (head.Ref x) = one_tells mutability_eq x (mutability_tells x)
head_parts (head.RawPtr x) = one_tells mutability_eq x (mutability_tells x)
head_parts (head.Adt x) = one_tells adt_id_eq x (adt_id_tells x)
head_parts (head.FnDef x) = one_tells callable_id_eq x (callable_id_tells x)
head_parts (head.FnPtr x) = one_tells safety_eq x (safety_tells x)
head_parts (head.Closure x) = one_tells closure_id_eq x (closure_id_tells x)
head_parts head.Dynamic = λ y h. refl
head_parts (head.Param x) = one_tells nat_eq x (nat_tells x)
head_parts (head.Projection x) = one_tells alias_id_eq x (alias_id_tells x)
head_parts (head.AssociatedType x) = one_tells alias_id_eq x (alias_id_tells x)
head_parts (head.Opaque x) = one_tells opaque_id_eq x (opaque_id_tells x)
head_parts head.Error = λ y h. refl
head_parts head.Hole = λ y h. refl
head_parts (head.Value x) = one_tells nat_eq x (nat_tells x)
head_parts (head.ConstParam x) = one_tells nat_eq x (nat_tells x)
head_parts head.UnknownConst = λ y h. refl
head_parts head.ConstHole = λ y h. refl
head_parts head.TypePart = λ y h. refl
head_parts head.ConstPart = λ y h. refl
head_parts (head.Principal x) = one_tells trait_id_eq x (trait_id_tells x)
head_parts head.NoPrincipal = λ y h. refl
head_parts (head.Bound x) = one_tells alias_id_eq x (alias_id_tells x)
head_parts (head.AutoTrait x) = one_tells trait_id_eq x (trait_id_tells x)
head_parts head.End = λ y h. refl

head_tells : (a : Head) → IsExactAt head_eq a
head_tells a b h = values_one the_head.enum a b (by_tells the_head.the_parts head_each (the_head.as_values a) (the_head.as_values b) (head_parts a) h)

pub head_decides : (a b : Head) → Decides (head_eq a b) (a ≡ b)
head_decides a b = (head_tells a b, λ e. subst (λ z. head_eq a z ≡ true) e (head_equiv.laws-law.refl a))
