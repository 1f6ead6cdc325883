-- Facts for tables about goals: `trait Tr { type Out; }`, `struct W<T>(T);`, `impl Tr for u8 { type Out = bool; }`,
-- `impl Tr for bool { type Out = char; }`, `impl<T: Tr> Tr for W<T> { type Out = bool; }`, `fn need<T: Tr>(x: T)`,
-- `fn f() { need(1u8) }`, `fn take<T: Tr>(x: T, y: T::Out)`, `struct H<T: Tr>(T::Out);` and `fn show(x: <u8 as Tr>::Out) {}`,
-- `fn both() where bool: Tr<Out = u8>, bool: Tr<Out = char>`; and what goals of `f` are answered by.
use Rattle.std.proofs.Common.{ℕ, zero, suc, ◌≡◌, inl, inr, List, [], ◌∷◌, ◌++◌, length, map, append-nil, refl, sym, ap, subst, ◌∙◌, false, Some, None, slice_get}
use Rattle.std.specs.Prelude.{codes, flat_map}
use Rattle.infer_needs.specs.Words.{DefWithBodyId, FunctionId, GenericDefId, TraitId, TypeAliasId, arg_as_type, Term, hole, pair, node, type_part, term, term_var, RawAdt, RawVariant, RawAlias, RawBody, RawFacts, RawFn, RawGoal, RawImpl, RawParam, RawTrait, RawType, TypeRefId, Asked, Rule, System, implements, projects, only, holes, type_at, args_at, goal_at, IsListed, IsStated, impl_rules, fact, IsSystemOf}
use Rattle.hir_types.specs.declared.ids.DefWithBodyId.TheVariants as def
use Rattle.hir_types.specs.declared.ids.GenericDefId.TheVariants as generic
use Rattle.hir_types.specs.declared.head.Head.TheVariants as head
use Rattle.hir_types.specs.declared.head.Hole.TheVariants as hole_of
use Rattle.hir_types.specs.declared.ty.IntegerTy.TheVariants as integer
use Rattle.hir_types.specs.declared.ty.Ty.TheVariants as ty
use Rattle.hir_types.specs.declared.ty.UintTy.TheVariants as uint
use Rattle.infer_needs.specs.Words.hir_raw.declared.raw.RawAdtKind.TheVariants as kind
use Rattle.infer_needs.specs.Words.hir_raw.declared.raw.RawArgs.TheVariants as args
use Rattle.infer_needs.specs.Words.hir_raw.declared.raw.RawCtor.TheVariants as ctor
use Rattle.infer_needs.specs.Words.hir_raw.declared.raw.RawExpr.TheVariants as expr
use Rattle.infer_needs.specs.Words.hir_raw.declared.raw.RawGoal.TheVariants as goal
use Rattle.infer_needs.specs.Words.hir_raw.declared.raw.RawPat.TheVariants as pat
use Rattle.infer_needs.specs.Words.hir_raw.declared.raw.RawParam.TheVariants as parameter
use Rattle.infer_needs.specs.Words.hir_raw.declared.raw.RawType.TheVariants as type
use Rattle.infer_needs.specs.Words.goal_facts.Environment.{Follows}
use Rattle.infer_needs.proofs.Words.{type_layer, args_are, facts_with, function_of, body_with, p, b, w, plain, one_u8, body, top_arg, v, adt, adt_of, variant_of}

abbrev pub tr : TraitId
tr = record { 0 = 0 }

abbrev pub out : TypeAliasId
out = record { 0 = 0 }

-- `u8`, `bool`, `T`, `W<T>`, `()`, `char`, `T::Out` and `<u8 as Tr>::Out`
abbrev pub types : List RawType
types = type.Integer (integer.Uint uint.U8) ∷ type.Bool ∷ type.Param 0 ∷ type.Adt adt (w 2 ∷ []) ∷ type.Tuple [] ∷ type.Char ∷ type.Projection out (w 2 ∷ []) ∷ type.Projection out (w 0 ∷ []) ∷ []

-- that the type implements the trait
abbrev pub bound : TypeRefId → RawGoal
bound t = goal.Trait (record { trait_ = tr; args = args.Types (t ∷ []) })

-- an impl of the trait for the first type, where the associated type is the second
abbrev impl_of : List RawParam → List RawGoal → TypeRefId → TypeRefId → RawImpl
impl_of params preds self_ found = record {
  trait_ = Some (record { trait_ = tr; args = args.Types [] });
  params = params;
  preds = preds;
  self_ = self_;
  fns = [];
  consts = [];
  types = record { alias = out; ty = found } ∷ [];
}

abbrev pub for_u8 : RawImpl
for_u8 = impl_of [] [] (w 0) (w 1)

abbrev pub for_bool : RawImpl
for_bool = impl_of [] [] (w 1) (w 5)

abbrev pub for_w : RawImpl
for_w = impl_of (parameter.Type ∷ []) (bound (w 2) ∷ []) (w 3) (w 1)

abbrev the_trait : RawTrait
the_trait = record { name = codes "Tr"; params = []; preds = []; fns = []; consts = []; types = out ∷ []; auto = false }

abbrev the_alias : RawAlias
the_alias = record { name = codes "Out"; trait_ = tr; bounds = [] }

abbrev pub need : RawFn
need = record (function_of (parameter.Type ∷ []) (w 2 ∷ []) (w 4)) { preds = bound (w 2) ∷ [] }

abbrev pub take : RawFn
take = record (function_of (parameter.Type ∷ []) (w 2 ∷ w 6 ∷ []) (w 4)) { preds = bound (w 2) ∷ [] }

abbrev show : RawFn
show = record (function_of [] (w 7 ∷ []) (w 4)) { body = Some (record { 0 = 1 }) }

abbrev pub showing : RawBody
showing = body_with (p 0 ∷ []) (expr.Block None [] None ∷ []) 0 (pat.Bind (b 0) None ∷ []) (plain ∷ [])

-- that `<bool as Tr>::Out` is the type
abbrev pub bool_out : TypeRefId → RawGoal
bool_out t = goal.Projection out (args.Types (w 1 ∷ [])) t

abbrev pub both_preds : List RawGoal
both_preds = bound (w 1) ∷ bool_out (w 0) ∷ bool_out (w 5) ∷ []

abbrev both : RawFn
both = record (function_of [] [] (w 4)) { preds = both_preds }

abbrev caller : RawFn
caller = record (function_of [] [] (w 4)) { body = Some (record { 0 = 0 }) }

abbrev holding : RawAdt
holding = record (adt_of kind.Struct (parameter.Type ∷ []) (v 1 ∷ [])) { preds = bound (w 2) ∷ [] }

abbrev holder : RawVariant
holder = record (variant_of ctor.Tuple (w 6 ∷ [])) { adt = record { 0 = 1 } }

abbrev pub facts : RawFacts
facts = record (facts_with types (need ∷ caller ∷ take ∷ show ∷ both ∷ [])) {
  adts = adt_of kind.Struct (parameter.Type ∷ []) (v 0 ∷ []) ∷ holding ∷ [];
  variants = variant_of ctor.Tuple (w 2 ∷ []) ∷ holder ∷ [];
  traits = the_trait ∷ [];
  aliases = the_alias ∷ [];
  impls = for_u8 ∷ for_bool ∷ for_w ∷ [];
  bodies = body one_u8 ∷ showing ∷ [];
}

-- `f`, which states nothing
abbrev pub f : FunctionId
f = record { 0 = 1 }

abbrev pub own : GenericDefId
own = generic.FunctionId f

abbrev pub own_body : DefWithBodyId
own_body = def.FunctionId f

-- ---- what the impls say

abbrev pub u8_term : Term
u8_term = node (head.Uint uint.U8) []

abbrev pub bool_term : Term
bool_term = node head.Bool []

abbrev pub char_term : Term
char_term = node head.Char []

abbrev pub w_term : Term → Term
w_term t = node (head.Adt adt) (type_part t ∷ [])

abbrev pub param : Term
param = hole (hole_of.Ty 0)

-- the type implements the trait; its associated type is the second
abbrev pub implemented : Term → Asked
implemented t = record { kind = implements tr; parts = only t }

abbrev pub found_as : Term → Term → Asked
found_as t u = record { kind = projects out; parts = pair (only t) u }

-- the rules of an impl, over the arguments of the trait
abbrev said_at : Term → Term → List Asked → List Rule
said_at a u preds = record { head = record { kind = implements tr; parts = a }; preds = preds } ∷ record { head = record { kind = projects out; parts = pair a u }; preds = preds } ∷ []

abbrev pub said : Term → Term → List Asked → List Rule
said t u preds = said_at (only t) u preds

rules_at : (params : List RawParam) (preds : List RawGoal) (s o : TypeRefId) (t u : Term) (qs : List Asked)
    → type_at facts (holes (length params)) s ≡ t → type_at facts (holes (length params)) o ≡ u → map (goal_at facts (holes (length params))) preds ≡ qs
    → impl_rules facts (impl_of params preds s o) ≡ said t u qs
rules_at params preds s o t u qs self found asked =
    let xs = holes (length params) in
    let args : args_at facts xs (s ∷ []) ≡ only t = args_are facts xs (s ∷ []) ∙ ap only self in
    λ i. said_at (args i) (found i) (asked i)

pub u8_rules : impl_rules facts for_u8 ≡ said u8_term bool_term []
u8_rules = rules_at [] [] (w 0) (w 1) u8_term bool_term [] (type_layer facts (holes 0) (w 0)) (type_layer facts (holes 0) (w 1)) refl

pub bool_rules : impl_rules facts for_bool ≡ said bool_term char_term []
bool_rules = rules_at [] [] (w 1) (w 5) bool_term char_term [] (type_layer facts (holes 0) (w 1)) (type_layer facts (holes 0) (w 5)) refl

param_is : type_at facts (holes 1) (w 2) ≡ param
param_is = type_layer facts (holes 1) (w 2) ∙ (ap (λ x. term (arg_as_type x)) (top_arg (ty.Var 0)) ∙ term_var 0)

w_is : type_at facts (holes 1) (w 3) ≡ w_term param
w_is = type_layer facts (holes 1) (w 3) ∙ ap w_term param_is

pub w_rules : impl_rules facts for_w ≡ said (w_term param) bool_term (implemented param ∷ [])
w_rules =
    let asked : args_at facts (holes 1) (w 2 ∷ []) ≡ only param = args_are facts (holes 1) (w 2 ∷ []) ∙ ap only param_is in
    rules_at (parameter.Type ∷ []) (bound (w 2) ∷ []) (w 3) (w 1) (w_term param) bool_term (implemented param ∷ []) w_is (type_layer facts (holes 1) (w 1))
    (λ i. record { kind = implements tr; parts = asked i } ∷ [])

abbrev pub all_said : List Rule
all_said = said u8_term bool_term [] ++ said bool_term char_term [] ++ said (w_term param) bool_term (implemented param ∷ []) ++ []

-- ---- what goals are answered by

pub nothing_follows : (S : Asked → Type 0) → ((d : Asked) → S d → ⊥) → (n : ℕ) (d : Asked) → Follows facts S n d → ⊥
nothing_follows S none zero d h = none d h
nothing_follows S none (suc n) d (inl h) = nothing_follows S none n d h
nothing_follows S none (suc n) d (inr (c, h, q)) = nothing_follows S none n c h

pub nothing_stated : (d : Asked) → IsStated facts own d → ⊥
nothing_stated d (inl (t, is, e)) = cc
nothing_stated d (inr (i, g, is, e)) = cc

no_bounds : (i j : ℕ) (a : RawAlias) (g : RawGoal) → slice_get (the_alias ∷ []) i ≡ Some a → slice_get a.bounds j ≡ Some g → ⊥
no_bounds zero j a g is among = (let one : the_alias ≡ a = cc in let none : slice_get [] j ≡ Some g = subst (λ (x : RawAlias). slice_get x.bounds j ≡ Some g) (sym one) among in cc)
no_bounds (suc i) j a g is among = cc

pub nothing_listed : (d : Asked) → IsListed facts d → ⊥
nothing_listed d (i, a, is, (k, same, (j, g, among, says))) = no_bounds i j a g is among

no_entries : (ds : List Asked) → ((i : ℕ) (d : Asked) → slice_get ds i ≡ Some d → ⊥) → ds ≡ []
no_entries [] h = refl
no_entries (d ∷ ds) h = absurd (h 0 d refl)

module _ (s : System) (of : IsSystemOf facts own s) where
  pub no_clauses : s.clauses ≡ []
  no_clauses = of.clauses.are ∙ ap (map fact) (no_entries of.clauses.stated (λ i d is. nothing_follows (IsStated facts own) nothing_stated 8 d (of.clauses.closed.only i d is)))

-- of whatever item
pub rules_are : {item : GenericDefId} (s : System) → IsSystemOf facts item s → s.rules ≡ all_said
rules_are s of =
    let none = no_entries of.rules.listed (λ i d is. nothing_follows (IsListed facts) nothing_listed 8 d (of.rules.closed.only i d is)) in
    of.rules.are ∙ (ap (λ ds. flat_map (impl_rules facts) facts.impls ++ map fact ds) none ∙ (append-nil (flat_map (impl_rules facts) facts.impls) ∙ (λ i. u8_rules i ++ bool_rules i ++ w_rules i ++ [])))
