-- The one list of arguments whose term is that of `bool` alone.
use Rattle.std.specs.Prelude.{◌≡◌, List, [], ◌∷◌, map}
use Rattle.std.proofs.Common.{sym, ap, ◌∙◌}
use Rattle.infer_needs.specs.Words.{AliasBound, GenericArg, GenericArg-F, roll-GenericArg, out-GenericArg, roll-out-GenericArg, TraitRef, Ty, Ty-F, roll-Ty, out-Ty, roll-out-Ty, in_arg, in_ty, chain, type_part, arg_step, ty_step, term, arg_term, terms, term_at, arg_term_at, type_args, only}
use Rattle.hir_types.specs.declared.ty.GenericArg.TheVariants as arg
use Rattle.hir_types.specs.declared.ty.Ty.TheVariants as ty
use Rattle.infer_needs.proofs.Samples.Impls.{bool_term}

layer_is : (y : Ty-F GenericArg Ty AliasBound TraitRef) → ty_step (in_ty terms y) ≡ bool_term → roll-Ty y ≡ ty.Bool
layer_is Ty-F.Bool h = ty.rolls-Bool
layer_is Ty-F.Char h = absurd (cc)
layer_is (Ty-F.Int i) h = absurd (cc)
layer_is (Ty-F.Uint i) h = absurd (cc)
layer_is (Ty-F.Float i) h = absurd (cc)
layer_is Ty-F.Str h = absurd (cc)
layer_is Ty-F.Never h = absurd (cc)
layer_is (Ty-F.Tuple ts) h = absurd (cc)
layer_is (Ty-F.Array t c) h = absurd (cc)
layer_is (Ty-F.Slice t) h = absurd (cc)
layer_is (Ty-F.Ref m r t) h = absurd (cc)
layer_is (Ty-F.RawPtr m t) h = absurd (cc)
layer_is (Ty-F.Adt i xs) h = absurd (cc)
layer_is (Ty-F.FnDef i xs) h = absurd (cc)
layer_is (Ty-F.FnPtr s ts t) h = absurd (cc)
layer_is (Ty-F.Closure i ts t) h = absurd (cc)
layer_is (Ty-F.Dynamic p bs ids) h = absurd (cc)
layer_is (Ty-F.Param n) h = absurd (cc)
layer_is (Ty-F.Projection i xs) h = absurd (cc)
layer_is (Ty-F.AssociatedType i xs) h = absurd (cc)
layer_is (Ty-F.Opaque i xs) h = absurd (cc)
layer_is Ty-F.Error h = absurd (cc)
layer_is (Ty-F.Var n) h = absurd (cc)
layer_is (Ty-F.IntVar n) h = absurd (cc)
layer_is Ty-F.Hole h = absurd (cc)

bool_is : (t : Ty) → term t ≡ bool_term → t ≡ ty.Bool
bool_is t h = sym (roll-out-Ty t) ∙ layer_is (out-Ty t) (sym (ap term (sym (roll-out-Ty t)) ∙ term_at (out-Ty t)) ∙ h)

arg_layer_is : (y : GenericArg-F GenericArg Ty AliasBound TraitRef) → arg_step (in_arg terms y) ≡ type_part bool_term → roll-GenericArg y ≡ arg.Ty ty.Bool
arg_layer_is (GenericArg-F.Ty t) h = (let is : term t ≡ bool_term = cc in arg.rolls-Ty t ∙ ap arg.Ty (bool_is t is))
arg_layer_is (GenericArg-F.Const c) h = absurd (cc)

arg_is : (x : GenericArg) → arg_term x ≡ type_part bool_term → x ≡ arg.Ty ty.Bool
arg_is x h = sym (roll-out-GenericArg x) ∙ arg_layer_is (out-GenericArg x) (sym (ap arg_term (sym (roll-out-GenericArg x)) ∙ arg_term_at (out-GenericArg x)) ∙ h)

pub bool_args : (xs : List GenericArg) → chain (map arg_term xs) ≡ only bool_term → xs ≡ type_args (ty.Bool ∷ [])
bool_args [] h = absurd (cc)
bool_args (x ∷ []) h = (let is : arg_term x ≡ type_part bool_term = cc in ap (λ y. y ∷ []) (arg_is x is))
bool_args (x ∷ y ∷ ys) h = absurd (cc)
