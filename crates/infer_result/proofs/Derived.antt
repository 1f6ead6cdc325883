-- From what a walk shows of a table to all that is promised of it.
use Rattle.std.specs.Prelude.{ℕ, zero, suc, ◌<◌, ◌≡◌, ◌⊎◌, true, false, List, [], ◌∷◌, ◌++◌, length, map, slice_get, option_map, Option, Some, None, refl}
use Rattle.std.proofs.Common.{inl, inr, ap, arith, length-append, sym, subst, ◌∙◌}
use Rattle.std.specs.Option.{option_and_then}
use Rattle.std.proofs.lemmas.Option.{slice_get_within}
use Rattle.infer_result.specs.Words.{ExprId, PatId, BindingId, TypeRefId, AdtId, VariantId, CallableDefId, GenericArg, GenericArg-F, out-GenericArg, out-roll-GenericArg, Ty, Ty-F, out-Ty, out-roll-Ty, RawLiteral, RawPath, RawStmt, RawArm, RawExpr, RawPat, RawBody, RawFn, RawType, RawCtor, RawVariant, unit, written_type, filled_written, names_item, fn_arity, variant_arity, adt_params, Signature, fn_signature, ctor_signature, signature_by, taken_types, own_adt, ctor_type, signature_of, type_args, at_args, erased, Schedule, Role, root, initializer, let_pattern, argument, Part, Node, the_body, inner, IsNode, IsSchedule, part_at, stmts_of, stmt_at}
use Rattle.hir_types.specs.declared.ids.ExprOrPatId.TheVariants as node
use Rattle.hir_types.specs.declared.ids.CallableDefId.TheVariants as callable
use Rattle.hir_types.specs.declared.ty.GenericArg.TheVariants as arg
use Rattle.hir_types.specs.declared.ty.Ty.TheVariants as ty
use Rattle.infer_result.specs.Words.hir_raw.declared.raw.RawLiteral.TheVariants as literal
use Rattle.infer_result.specs.Words.hir_raw.declared.raw.RawPath.TheVariants as path
use Rattle.infer_result.specs.Words.hir_raw.declared.raw.RawStmt.TheVariants as stmt
use Rattle.infer_result.specs.Words.hir_raw.declared.raw.RawExpr.TheVariants as expr
use Rattle.infer_result.specs.Words.hir_raw.declared.raw.RawPat.TheVariants as pat
use Rattle.infer_result.specs.Words.hir_raw.declared.raw.RawCtor.TheVariants as ctor
use Rattle.infer_result.proofs.Words.{one_place}
use Rattle.infer_result.specs.Own.{InferenceResult, TypeMismatch, At, HasTy, PatTy, HasMismatch, AnyMismatch, AnyDiagnostic, mismatch, MaybeMismatch, IsTotal, Given, let_types, hole_type, declared, AreRecorded, IsAt, IsAtOrMismatch, IsAtMaybe, IsAtMaybeOrMismatch, MisfitsAs, PatIsAtOrMismatch, IsCtorAt, adt_at, fields_at, IsCallee, IsInputAt, ArgsRule, ItemCallRule, CallsNonGeneric, IsWrittenInput, IsPathToItem, IsAsked, Asks, AsksOf, Gives, GivesPart, Incoming, GivesComponent, AllPatsAt, GivesField, IsItemOf, IsPatOf, PatsAtFields, IsLiteralType, IsOwnType, PathRule, NamesLet, Placing, at_or_mismatch, at_types, AllAt, LetRule, StmtRule, StmtsRule, TailRule, StmtHasMismatch, StmtsHaveMismatch, IsBlockWithoutTail, branches_of, ElseRule, IsIfWithoutElse, arm_exprs, ArmPatterns, GuardRule, ArmsRule, GuardsHaveMismatch, Rule, BodyObeys, PatRule, ExcusedAs, BodyIsExcused, Up, of_literal, of_written, of_initializer, of_parameter, of_call, of_unit, Stated, EndsInUnit, IsTrueMismatch, IsMade, IsTyped}
use Rattle.infer_result.specs.declared.diagnostics.InferenceDiagnostic.TheVariants as diagnostic
use Rattle.infer_result.proofs.Parts.{LetStands, ArmStands, PartStands, comes_from}

-- a node stands at one place alone
abbrev pub StandsOnce : RawBody → Type 0
StandsOnce b = (n m : Node) (i j : ℕ) (p q : Part) → IsNode b n → IsNode b m → part_at b n i ≡ Some p → part_at b m j ≡ Some q → p.node ≡ q.node → (n ≡ m) × (i ≡ j)

-- one thing is recorded at one place
pub one_at : {A : Type 0} (xs : List (Option A)) (n : ℕ) (a c : A) → At xs n a → At xs n c → a ≡ c
one_at xs n a c h k = cc

top_tuple : (ts : List Ty) → out-Ty (ty.Tuple ts) ≡ Ty-F.Tuple ts
top_tuple ts = ap out-Ty (sym (ty.rolls-Tuple ts)) ∙ out-roll-Ty (Ty-F.Tuple ts)

pub tuple_parts : (ts us : List Ty) → ty.Tuple ts ≡ ty.Tuple us → ts ≡ us
tuple_parts ts us h = (let k : Ty-F.Tuple ts ≡ Ty-F.Tuple us = sym (top_tuple ts) ∙ (ap out-Ty h ∙ top_tuple us) in cc)

top_fn_def : (i : CallableDefId) (xs : List GenericArg) → out-Ty (ty.FnDef i xs) ≡ Ty-F.FnDef i xs
top_fn_def i xs = ap out-Ty (sym (ty.rolls-FnDef i xs)) ∙ out-roll-Ty (Ty-F.FnDef i xs)

pub fn_def_parts : (i j : CallableDefId) (xs ys : List GenericArg) → ty.FnDef i xs ≡ ty.FnDef j ys → (i ≡ j) × (xs ≡ ys)
fn_def_parts i j xs ys h = (let k : Ty-F.FnDef i xs ≡ Ty-F.FnDef j ys = sym (top_fn_def i xs) ∙ (ap out-Ty h ∙ top_fn_def j ys) in (cc, cc))

top_adt : (i : AdtId) (xs : List GenericArg) → out-Ty (ty.Adt i xs) ≡ Ty-F.Adt i xs
top_adt i xs = ap out-Ty (sym (ty.rolls-Adt i xs)) ∙ out-roll-Ty (Ty-F.Adt i xs)

pub adt_parts : (i j : AdtId) (xs ys : List GenericArg) → ty.Adt i xs ≡ ty.Adt j ys → (i ≡ j) × (xs ≡ ys)
adt_parts i j xs ys h = (let k : Ty-F.Adt i xs ≡ Ty-F.Adt j ys = sym (top_adt i xs) ∙ (ap out-Ty h ∙ top_adt j ys) in (cc, cc))

pub adt_no_tuple : (i : AdtId) (xs : List GenericArg) (ts : List Ty) → ty.Adt i xs ≡ ty.Tuple ts → ⊥
adt_no_tuple i xs ts h = (let k : Ty-F.Adt i xs ≡ Ty-F.Tuple ts = sym (top_adt i xs) ∙ (ap out-Ty h ∙ top_tuple ts) in cc)

top_type_arg : (t : Ty) → out-GenericArg (arg.Ty t) ≡ GenericArg-F.Ty t
top_type_arg t = ap out-GenericArg (sym (arg.rolls-Ty t)) ∙ out-roll-GenericArg (GenericArg-F.Ty t)

pub same_type_args : (ts us : List Ty) → type_args ts ≡ type_args us → ts ≡ us
same_type_args [] [] h = refl
same_type_args [] (u ∷ us) h = absurd (cc)
same_type_args (t ∷ ts) [] h = absurd (cc)
same_type_args (t ∷ ts) (u ∷ us) h =
    let first : arg.Ty t ≡ arg.Ty u = cc in
    let rest : type_args ts ≡ type_args us = cc in
    let tops : GenericArg-F.Ty t ≡ GenericArg-F.Ty u = sym (top_type_arg t) ∙ (ap out-GenericArg first ∙ top_type_arg u) in
    let tails : ts ≡ us = same_type_args ts us rest in
    cc

-- ---- items without generic parameters

no_items : (us : List Ty) → length us ≡ 0 → us ≡ []
no_items [] h = refl
no_items (u ∷ us) h = absurd (cc)

fn_count : (types : List RawType) (o : Option RawFn) (us : List Ty) (σ : Signature) → option_map (fn_arity types) o ≡ Some (length us) → option_map (fn_signature types) o ≡ Some σ → length us ≡ σ.params
fn_count types None us σ h k = absurd (cc)
fn_count types (Some f) us σ h k =
    let l : fn_signature types f ≡ σ = cc in
    let m : fn_arity types f ≡ σ.params = ap (λ (v : Signature). v.params) l in
    cc

pub ctor_type_of_tuple : (x : RawVariant) (v : VariantId) (ts : List Ty) → x.ctor ≡ ctor.Tuple → ctor_type x v ts ≡ ty.FnDef (callable.VariantId v) (type_args ts)
ctor_type_of_tuple x v ts h = rw h refl

pub ctor_type_of_unit : (x : RawVariant) (v : VariantId) (ts : List Ty) → x.ctor ≡ ctor.Unit → ctor_type x v ts ≡ ty.Adt x.adt (type_args ts)
ctor_type_of_unit x v ts h = rw h refl

-- what has a signature is a tuple constructor, at as many types as that has parameters
module _ (g : Given) (v : VariantId) (x : RawVariant) (ts : List Ty) (σ : Signature) where
  abbrev types : List RawType
  types = g.scope.facts.types

  by_ctor : (n : ℕ) → variant_arity g.scope.facts.types x n ≡ length ts → (k : RawCtor) → x.ctor ≡ k → signature_by k g.scope.facts.types n x ≡ Some σ → (x.ctor ≡ ctor.Tuple) × (length ts ≡ σ.params)
  by_ctor n count ctor.Tuple is made =
      let same : record { params = variant_arity types x n; inputs = taken_types types n x; output = own_adt x.adt n } ≡ σ = cc in
      (is, sym count ∙ ap (λ (τ : Signature). τ.params) same)
  by_ctor n count ctor.Unit is made = absurd (cc)
  by_ctor n count ctor.Record is made = absurd (cc)

  by_params : (o : Option ℕ) → option_map (variant_arity g.scope.facts.types x) o ≡ Some (length ts) → option_and_then (λ n. ctor_signature g.scope.facts.types n x) o ≡ Some σ → (x.ctor ≡ ctor.Tuple) × (length ts ≡ σ.params)
  by_params None count made = absurd (cc)
  by_params (Some n) count made = by_ctor n (cc) x.ctor refl made

  called_ctor : IsCtorAt g v x ts → signature_of g.scope.facts (callable.VariantId v) ≡ Some σ → (x.ctor ≡ ctor.Tuple) × (length ts ≡ σ.params)
  called_ctor h s =
      by_params (adt_params g.scope.facts x.adt)
      (sym (ap (λ o. option_and_then (λ y. option_map (variant_arity types y) (adt_params g.scope.facts y.adt)) o) h.found) ∙ h.count)
      (sym (ap (λ o. option_and_then (λ y. option_and_then (λ n. ctor_signature types n y) (adt_params g.scope.facts y.adt)) o) h.found) ∙ s)

-- ---- the item that a pattern is of

module _ (g : Given) (t : InferenceResult) (p : PatId) (v : VariantId) where
  one_hidden : (ts us hs ks : List Ty) → ts ≡ us → length hs ≡ length ks → IsItemOf t p v ts hs → IsItemOf t p v us ks → ts ++ hs ≡ us ++ ks
  one_hidden ts us [] [] same count h k = ap (λ ws. ws ++ []) same
  one_hidden ts us [] (y ∷ ks) same count h k = absurd (cc)
  one_hidden ts us (x ∷ hs) [] same count h k = absurd (cc)
  one_hidden ts us (x ∷ hs) (y ∷ ks) same count h k =
      let xs : List Ty = ts ++ x ∷ hs in
      let ys : List Ty = us ++ y ∷ ks in
      same_type_args xs ys (fn_def_parts (callable.VariantId v) (callable.VariantId v) (type_args xs) (type_args ys) (one_at t.item_of_pat p.0 _ _ h k)).1

  -- a pattern is of one constructor, at the same types
  pub one_item : (x y : RawVariant) (ts us hs ks : List Ty) → IsPatOf g t p v x ts hs → IsPatOf g t p v y us ks → (x ≡ y) × (ts ≡ us) × (ts ++ hs ≡ us ++ ks)
  one_item x y ts us hs ks h k =
      let found = h.is_variant.found in
      let other = k.is_variant.found in
      let one : x ≡ y = cc in
      let same : ts ≡ us = same_type_args ts us (adt_parts x.adt y.adt (type_args ts) (type_args us) (one_at t.type_of_pat p.0 (adt_at x ts) (adt_at y us) h.has k.has)).1 in
      let here = h.is_ctor.count in
      let there = k.is_ctor.count in
      let all : length (ts ++ hs) ≡ length (us ++ ks) = cc in
      let own = ap length same in
      let left = length-append ts hs in
      let right = length-append us ks in
      let count : length hs ≡ length ks = omega (arith, all, own, left, right) in
      (one, same, one_hidden ts us hs ks same count h.item k.item)

-- ---- each clause holds, or the part is excused

at_or_excused : (t : InferenceResult) (e : ExprId) (s : Ty) → IsAtOrMismatch t e s → IsAt t e s ⊎ HasMismatch t e
at_or_excused t e s (a, h, inl same) = inl (a, h, same)
at_or_excused t e s (a, h, inr m) = inr m

elements_obey : (t : InferenceResult) (es : List ExprId) (ss : List Ty) → AllAt (IsAtOrMismatch t) es ss → AllAt (λ e s. IsAt t e s ⊎ HasMismatch t e) es ss
elements_obey t [] [] h = tt
elements_obey t [] (s ∷ ss) h = absurd h
elements_obey t (e ∷ es) [] h = absurd h
elements_obey t (e ∷ es) (s ∷ ss) h = (at_or_excused t e s h.0, elements_obey t es ss h.1)

module _ (g : Given) (t : InferenceResult) where
  abbrev Made : Placing
  Made = at_or_mismatch g t

  abbrev Right : Placing
  Right = at_types g t

  let_obeys : (p : PatId) (w : Option TypeRefId) (init : Option ExprId) → LetRule Made g t p w init → MaybeMismatch t init ⊎ LetRule Right g t p w init
  let_obeys p (Some w) (Some e) (r, h, k) = elim (at_or_excused t e (declared g t w) h) [ inl a ↦ inr (r, a, k) | inr m ↦ inl m ]
  let_obeys p (Some w) None h = inr h
  let_obeys p None (Some e) h = inr h
  let_obeys p None None h = inr tt

  stmt_obeys : (s : RawStmt) → StmtRule Made g t s → StmtHasMismatch t s ⊎ StmtRule Right g t s
  stmt_obeys (stmt.Let p w init other) h = let_obeys p w init h
  stmt_obeys (stmt.Expr e true) h = inr tt
  stmt_obeys (stmt.Expr e false) h = elim (at_or_excused t e unit h) [ inl a ↦ inr a | inr m ↦ inl m ]

  stmts_obey : (ss : List RawStmt) → StmtsRule Made g t ss → StmtsHaveMismatch t ss ⊎ StmtsRule Right g t ss
  stmts_obey [] h = inr tt
  stmts_obey (s ∷ ss) h =
      elim (stmt_obeys s h.0) [
        | inl m ↦ inl (inl m)
        | inr a ↦ elim (stmts_obey ss h.1) [ inl m ↦ inl (inr m) | inr c ↦ inr (a, c) ]
      ]

  tail_obeys : (n : ExprId) (last : Option ExprId) (s : Ty) → TailRule Made n last s → (HasMismatch t n ⊎ MaybeMismatch t last) ⊎ TailRule Right n last s
  tail_obeys n None s (inl same) = inr same
  tail_obeys n None s (inr m) = inl (inl (mismatch s unit, m))
  tail_obeys n (Some e) s h = elim (at_or_excused t e s h) [ inl a ↦ inr a | inr m ↦ inl (inr m) ]

  else_obeys : (n first : ExprId) (other : Option ExprId) (s : Ty) → ElseRule Made n first other s → AnyMismatch t (branches_of n first other) ⊎ ElseRule Right n first other s
  else_obeys n first (Some other) s h = elim h [ inl a ↦ inr a | inr m ↦ inl m ]
  else_obeys n first None s h = elim h [ inl a ↦ inr a | inr m ↦ inl m ]

  guard_obeys : (o : Option ExprId) → GuardRule Made o → MaybeMismatch t o ⊎ GuardRule Right o
  guard_obeys None h = inr tt
  guard_obeys (Some e) h = elim (at_or_excused t e ty.Bool h) [ inl a ↦ inr a | inr m ↦ inl m ]

  arms_obey : (es : List ExprId) (arms : List RawArm) (s : Ty) → ArmsRule Made es arms s → (GuardsHaveMismatch t arms ⊎ AnyMismatch t es) ⊎ ArmsRule Right es arms s
  arms_obey es [] s h = inr tt
  arms_obey es (a ∷ as_) s ((k, c), h) =
      elim (guard_obeys a.guard k) [
        | inl m ↦ inl (inl (inl m))
        | inr x ↦ elim c [
          | inr m ↦ inl (inr m)
          | inl y ↦ elim (arms_obey es as_ s h) [ inl m ↦ inl (elim m [ inl z ↦ inl (inr z) | inr z ↦ inr z ]) | inr z ↦ inr ((x, y), z) ]
        ]
      ]

  if_obeys : (n c first : ExprId) (other : Option ExprId) (s : Ty) → HasTy t n s → IsAtOrMismatch t c ty.Bool → IsAt t first s ⊎ AnyMismatch t (branches_of n first other) → ElseRule Made n first other s → ExcusedAs t n (Some (expr.If c first other)) ⊎ Rule Right g t n (Some (expr.If c first other))
  if_obeys n c first other s k a x y =
      elim (at_or_excused t c ty.Bool a) [
        | inr m ↦ inl (inl m)
        | inl d ↦ elim x [
          | inr m ↦ inl (inr m)
          | inl u ↦ elim (else_obeys n first other s y) [ inl m ↦ inl (inr m) | inr v ↦ inr (record { condition = d; type = s; has = k; branch = u; otherwise = v }) ]
        ]
      ]

  args_obey : (n : ExprId) (args : List ExprId) (ss : List Ty) → ArgsRule Made n args ss → AnyDiagnostic t n ⊎ ArgsRule Right n args ss
  args_obey n args ss (inl h) = inr (inl (elements_obey t args ss h))
  args_obey n args ss (inr m) = inl (diagnostic.MismatchedArgCount n (length ss) (length args), m)

  judged : (n : ExprId) (o : Option RawExpr) → Rule Made g t n o → ExcusedAs t n o ⊎ Rule Right g t n o
  judged n None h = absurd h
  judged n (Some (expr.Lit l)) h = inr h
  judged n (Some (expr.Path p)) h = inr h
  judged n (Some (expr.Tuple es)) (ss, h, k) = inr (ss, h, elements_obey t es ss k)
  judged n (Some (expr.Block label ss last)) h =
      elim (stmts_obey ss h.statements) [
        | inl x ↦ inl (inr (inl x))
        | inr a ↦ elim (tail_obeys n last h.type h.ends) [ inl x ↦ inl (elim x [ inl y ↦ inl y | inr y ↦ inr (inr y) ]) | inr c ↦ inr (record { statements = a; type = h.type; has = h.has; ends = c }) ]
      ]
  judged n (Some (expr.If c first other)) h = if_obeys n c first other h.type h.has h.condition h.branch h.otherwise
  judged n (Some (expr.Match e arms)) h = elim (arms_obey (arm_exprs arms) arms h.type h.alternatives) [
    | inl x ↦ inl x
    | inr x ↦ inr (record { scrutinee = h.scrutinee; comes = h.comes; patterns = h.patterns; type = h.type; has = h.has; alternatives = x })
  ]
  judged n (Some (expr.Call f args)) (inl h) = elim (args_obey n args (map (at_args h.types) h.signature.inputs) h.arguments) [
    | inl m ↦ inl (inl m)
    | inr x ↦ inr (inl (record { signature = h.signature; types = h.types; is_callee = h.is_callee; arguments = x; has = h.has }))
  ]
  judged n (Some (expr.Call f args)) (inr (m, k)) = inl (inr m)
  judged n (Some (expr.Later later)) h = absurd h

-- ---- types are there

path_type : (g : Given) (t : InferenceResult) (n : ExprId) (p : _) → PathRule g t n p → (s : Ty) × HasTy t n s
path_type g t n (path.Local v) (s, h, k) = (s, h)
path_type g t n (path.Function f) (ts, h, k) = (ty.FnDef (callable.FunctionId f) (type_args ts), h)
path_type g t n (path.Ctor v) (s, h, k, r) = (s, h)

rule_type : (g : Given) (t : InferenceResult) (n : ExprId) (o : Option RawExpr) → Rule (at_or_mismatch g t) g t n o → (s : Ty) × HasTy t n s
rule_type g t n None h = absurd h
rule_type g t n (Some (expr.Lit l)) (s, h, k) = (s, h)
rule_type g t n (Some (expr.Path p)) h = path_type g t n p h
rule_type g t n (Some (expr.Tuple es)) (ss, h, k) = (ty.Tuple ss, h)
rule_type g t n (Some (expr.Block label ss last)) h = (h.type, h.has)
rule_type g t n (Some (expr.If c first other)) h = (h.type, h.has)
rule_type g t n (Some (expr.Match e arms)) h = (h.type, h.has)
rule_type g t n (Some (expr.Call f args)) (inl h) = (at_args h.types h.signature.output, h.has)
rule_type g t n (Some (expr.Call f args)) (inr (m, k)) = k
rule_type g t n (Some (expr.Later later)) h = absurd h

pat_type : (g : Given) (t : InferenceResult) (p : PatId) (o : Option RawPat) → PatRule g t p o → (s : Ty) × PatTy t p s
pat_type g t p None h = absurd h
pat_type g t p (Some pat.Wild) h = h
pat_type g t p (Some (pat.Bind v sub)) (s, h, k, m) = (s, h)
pat_type g t p (Some (pat.Tuple ps)) (ss, h, k) = (ty.Tuple ss, h)
pat_type g t p (Some (pat.TupleStruct v ps)) h = (adt_at h.variant h.types, h.is.has)
pat_type g t p (Some (pat.Path (path.Ctor v))) (s, h, k, r) = (s, h)
pat_type g t p (Some (pat.Path (path.Local v))) h = absurd h
pat_type g t p (Some (pat.Path (path.Function f))) h = absurd h
pat_type g t p (Some (pat.Lit e)) (s, h, k) = (s, h)
pat_type g t p (Some (pat.Later later)) h = absurd h

literal_type : (l : RawLiteral) (s r : Ty) → IsOwnType l s → IsLiteralType l r → r ≡ s
literal_type (literal.Bool b) s r h k = k ∙ sym h
literal_type (literal.Char c) s r h k = k ∙ sym h
literal_type (literal.Int digits (Some suffix)) s r h k = k ∙ sym h
literal_type (literal.Int digits None) s r h k = absurd h

-- ---- the statements of a block of the body

stmt_obeys_at : (g : Given) (t : InferenceResult) (ss : List RawStmt) (i : ℕ) (s : RawStmt) → StmtsRule (at_or_mismatch g t) g t ss → slice_get ss i ≡ Some s → StmtRule (at_or_mismatch g t) g t s
stmt_obeys_at g t [] i s h e = absurd (cc)
stmt_obeys_at g t (u ∷ ss) zero s h e = (let k : u ≡ s = cc in subst (λ v. StmtRule (at_or_mismatch g t) g t v) k h.0)
stmt_obeys_at g t (u ∷ ss) (suc i) s h e = stmt_obeys_at g t ss i s h.1 e

block_stmts : (g : Given) (t : InferenceResult) (n : ExprId) (o : Option RawExpr) → Rule (at_or_mismatch g t) g t n o → (i : ℕ) (s : RawStmt) → slice_get (stmts_of o) i ≡ Some s → StmtRule (at_or_mismatch g t) g t s
block_stmts g t n (Some (expr.Block label ss last)) h i s e = stmt_obeys_at g t ss i s h.statements e
block_stmts g t n _ h i s e = absurd (cc)

-- an expression that is there stands among those of the body
is_there : (b : RawBody) (n : ExprId) (i : ℕ) (s : RawStmt) → stmt_at b n i ≡ Some s → n.0 < length b.exprs
is_there b n i s e = by_cases (slice_get b.exprs n.0) refl e
  where
    by_cases : (o : Option RawExpr) → slice_get b.exprs n.0 ≡ o → slice_get (stmts_of o) i ≡ Some s → n.0 < length b.exprs
    by_cases None is h = absurd (cc)
    by_cases (Some x) is h = slice_get_within b.exprs n.0 x is

module _ (g : Given) (t : InferenceResult) (h : IsMade g t) where
  clause_at : (n : ExprId) (x : RawExpr) → slice_get g.body.exprs n.0 ≡ Some x → Rule (at_or_mismatch g t) g t n (Some x)
  clause_at n x e = subst (λ o. Rule (at_or_mismatch g t) g t n o) e (h.clauses n (slice_get_within g.body.exprs n.0 x e))

  kind_at : (p : PatId) (x : RawPat) → slice_get g.body.pats p.0 ≡ Some x → PatRule g t p (Some x)
  kind_at p x e = subst (λ o. PatRule g t p o) e (h.kinds p (slice_get_within g.body.pats p.0 x e))

  let_stands : (n : ExprId) (p : PatId) (w : Option TypeRefId) (init : Option ExprId) → LetStands g.body n p w init → LetRule (at_or_mismatch g t) g t p w init
  let_stands n p w init l =
      let at = block_stmts g t n (slice_get g.body.exprs n.0) (h.clauses n (is_there g.body n l.at_stmt l.stmt l.stands)) l.at_stmt l.stmt l.stands in
      subst (λ s. StmtRule (at_or_mismatch g t) g t s) l.is_let.1 at

  -- the pattern of an arm is at the type of the scrutinee
  arm_stands : (n e : ExprId) (p : PatId) (s : Ty) → ArmStands g.body n e p → HasTy t e s → PatIsAtOrMismatch g t p s
  arm_stands n e p s a has =
      let r = clause_at n (expr.Match e a.arms) a.is_match in
      let k : r.scrutinee ≡ s = one_at t.type_of_expr e.0 r.scrutinee s r.comes has in
      subst (λ q. PatIsAtOrMismatch g t q s) a.is_pattern (subst (λ u. PatIsAtOrMismatch g t a.the_arm.pat u) k (among a.arms a.at_arm a.the_arm r.scrutinee r.patterns a.stands))
    where
      among : (arms : List RawArm) (i : ℕ) (x : RawArm) (u : Ty) → ArmPatterns (at_or_mismatch g t) arms u → slice_get arms i ≡ Some x → PatIsAtOrMismatch g t x.pat u
      among [] i x u h is = absurd (cc)
      among (y ∷ arms) zero x u h is = (let k : y ≡ x = cc in subst (λ (z : RawArm). PatIsAtOrMismatch g t z.pat u) k h.0)
      among (y ∷ arms) (suc i) x u h is = among arms i x u h.1 is

  -- the part of a tuple pattern is at the component
  component_stands : (q p : PatId) (i : ℕ) (s : Ty) → PartStands g.body q i p → GivesComponent t q i s → PatIsAtOrMismatch g t p s
  component_stands q p i s a c =
      elim a.whole [
        | inl tuple ↦
            (let r = kind_at q (pat.Tuple a.parts) tuple in
            let k : ty.Tuple r.0 ≡ ty.Tuple c.types = one_at t.type_of_pat q.0 (ty.Tuple r.0) (ty.Tuple c.types) r.1 c.has in
            among a.parts r.0 i r.2 a.stands (subst (λ us. slice_get us i ≡ Some s) (sym (tuple_parts r.0 c.types k)) c.component))
        | inr named ↦
            (let r = kind_at q (pat.TupleStruct named.0 a.parts) named.1 in
            absurd (adt_no_tuple r.variant.adt (type_args r.types) c.types (one_at t.type_of_pat q.0 (adt_at r.variant r.types) (ty.Tuple c.types) r.is.has c.has)))
      ]
    where
      among : (ps : List PatId) (us : List Ty) (i : ℕ) → AllPatsAt g t ps us → slice_get ps i ≡ Some p → slice_get us i ≡ Some s → PatIsAtOrMismatch g t p s
      among [] us i h is there = absurd (cc)
      among (x ∷ ps) [] i h is there = absurd h
      among (x ∷ ps) (u ∷ us) zero h is there =
          (let k : x ≡ p = cc in
          let l : u ≡ s = cc in
          subst (λ v. PatIsAtOrMismatch g t p v) l (subst (λ z. PatIsAtOrMismatch g t z u) k h.0))
      among (x ∷ ps) (u ∷ us) (suc i) h is there = among ps us i h.1 is there

  -- the part of a constructor's pattern is at the type of its field
  field_stands : (q p : PatId) (i : ℕ) (s : Ty) → PartStands g.body q i p → GivesField g t q i s → PatIsAtOrMismatch g t p s
  field_stands q p i s a f =
      elim a.whole [
        | inl tuple ↦ (let k = f.is_pat in cc)
        | inr named ↦
            (let is = f.is_pat in
            let other = named.1 in
            let parts : a.parts ≡ f.parts = cc in
            let r = kind_at q (pat.TupleStruct f.named f.parts) f.is_pat in
            let (one, own, all) = one_item g t q f.named r.variant f.variant r.types f.types r.hidden f.hidden r.is f.is in
            let fields : fields_at g r.variant (length r.types) (r.types ++ r.hidden) ≡ fields_at g f.variant (length f.types) (f.types ++ f.hidden) = λ j. fields_at g (one j) (length (own j)) (all j) in
            among f.parts (fields_at g r.variant (length r.types) (r.types ++ r.hidden)) i r.parts (subst (λ ps. slice_get ps i ≡ Some p) parts a.stands)
            (ap (λ us. slice_get us i) fields ∙ f.field))
      ]
    where
      among : (ps : List PatId) (us : List Ty) (i : ℕ) → PatsAtFields g t ps us → slice_get ps i ≡ Some p → slice_get us i ≡ Some s → PatIsAtOrMismatch g t p s
      among [] us i h is there = absurd (cc)
      among (x ∷ ps) [] i h is there = absurd (cc)
      among (x ∷ ps) (u ∷ us) zero h is there =
          (let k : x ≡ p = cc in
          let l : u ≡ s = cc in
          subst (λ v. PatIsAtOrMismatch g t p v) l (subst (λ z. PatIsAtOrMismatch g t z u) k h.0))
      among (x ∷ ps) (u ∷ us) (suc i) h is there = among ps us i h.1 is there

  part_stands : (q p : PatId) (i : ℕ) (s : Ty) → PartStands g.body q i p → GivesPart g t (inner (node.PatId q)) i s → PatIsAtOrMismatch g t p s
  part_stands q p i s a gives = elim gives [ inl c ↦ component_stands q p i s a c | inr f ↦ field_stands q p i s a f ]

  same_pat : (x p q : _) → x ≡ node.PatId p → x ≡ node.PatId q → p ≡ q
  same_pat x p q h k = cc

  -- for each `_` in the type of a `let` its type is recorded
  let_recorded : (p : PatId) (n : Node) (k : ℕ) (w : TypeRefId) (init : Option ExprId) → part_at g.body n k ≡ Some (record { node = node.PatId p; role = let_pattern (Some w) init }) → AreRecorded g t w
  let_recorded p n k w (Some e) at = (let (q, here, (m, l)) = comes_from g.body n k _ at in (let_stands m q (Some w) (Some e) l).0)
  let_recorded p n k w None at = (let (q, here, (m, l)) = comes_from g.body n k _ at in (let_stands m q (Some w) None l).0)

  by_role : (p : PatId) (n : Node) (k : ℕ) (role : Role) (s : Ty) → part_at g.body n k ≡ Some (record { node = node.PatId p; role = role }) → Gives g t n role s → PatIsAtOrMismatch g t p s
  by_role p n k (let_pattern (Some w) (Some e)) s at gives =
      (let (q, here, (m, l)) = comes_from g.body n k _ at in
      let r = let_stands m q (Some w) (Some e) l in
      subst (λ x. PatIsAtOrMismatch g t x s) (same_pat _ q p here refl) (subst (λ u. PatIsAtOrMismatch g t q u) (sym gives.1) r.2))
  by_role p n k (let_pattern (Some w) None) s at gives =
      (let (q, here, (m, l)) = comes_from g.body n k _ at in
      let r = let_stands m q (Some w) None l in
      subst (λ x. PatIsAtOrMismatch g t x s) (same_pat _ q p here refl) (subst (λ u. PatIsAtOrMismatch g t q u) (sym gives.1) r.1))
  by_role p n k (let_pattern None (Some e)) s at gives =
      (let (q, here, (m, l)) = comes_from g.body n k _ at in
      let r = let_stands m q None (Some e) l in
      subst (λ x. PatIsAtOrMismatch g t x s) (same_pat _ q p here refl) (subst (λ u. PatIsAtOrMismatch g t q u) (one_at t.type_of_expr e.0 r.0 s r.1 gives) r.2))
  by_role p n k (Role.parameter i) s at gives =
      (let (q, here, is) = comes_from g.body n k _ at in
      subst (λ x. PatIsAtOrMismatch g t x s) (same_pat _ q p here refl) (h.params i q s is gives))
  by_role p n k (Role.arm_pattern e i) s at gives =
      (let (q, here, (m, a)) = comes_from g.body n k _ at in
      subst (λ x. PatIsAtOrMismatch g t x s) (same_pat _ q p here refl) (arm_stands m e q s a gives))
  by_role p n k (Role.subpattern i) s at gives =
      (let (q, here, (m, is, a)) = comes_from g.body n k _ at in
      subst (λ x. PatIsAtOrMismatch g t x s) (same_pat _ q p here refl) (part_stands m q i s a (subst (λ x. GivesPart g t x i s) is gives)))
  by_role p n k _ s at gives = absurd gives

  incoming : (p : PatId) (s : Ty) → Incoming g t p s → PatIsAtOrMismatch g t p s
  incoming p s i = by_role p i.parent i.at_part i.role s i.stands.part i.gives

  -- what binds a name has the type that comes in
  bind_is_at : (p : PatId) (v : BindingId) (s : Ty) → slice_get g.body.pats p.0 ≡ Some (pat.Bind v None) → PatIsAtOrMismatch g t p s → PatTy t p s
  bind_is_at p v s binds (a, has, here) = elim here [ inl is ↦ subst (λ u. PatTy t p u) is has | inr m ↦ absurd (subst (λ o. MisfitsAs t p o) binds m) ]

  -- a local has the type of the pattern that binds it
  local : (e : ExprId) (v : BindingId) (p : PatId) (s : Ty) → slice_get g.body.exprs e.0 ≡ Some (expr.Path (path.Local v)) → slice_get g.body.pats p.0 ≡ Some (pat.Bind v None) → PatTy t p s → HasTy t e s
  local e v p s names binds has =
      let m = clause_at e (expr.Path (path.Local v)) names in
      let q = kind_at p (pat.Bind v None) binds in
      let f : m.0 ≡ q.0 = one_at t.type_of_binding v.0 m.0 q.0 m.2 q.2 in
      let k : q.0 ≡ s = one_at t.type_of_pat p.0 q.0 s q.1 has in
      subst (λ u. HasTy t e u) (f ∙ k) m.1

  local_of_let : (e : ExprId) (w : Option TypeRefId) (init : Option ExprId) (n : NamesLet g.body e w init) (s : Ty) → PatTy t n.pattern s → HasTy t e s
  local_of_let e w init n s has = local e n.binding n.pattern s n.names n.binds has

  comes_in : (e : ExprId) (w : Option TypeRefId) (init : Option ExprId) (n : NamesLet g.body e w init) (s : Ty) → Gives g t n.parent (let_pattern w init) s → PatTy t n.pattern s
  comes_in e w init n s gives = bind_is_at n.pattern n.binding s n.binds (by_role n.pattern n.parent n.at_part (let_pattern w init) s n.stands.part gives)

  -- a path to an item without generic parameters has that item's type, at no arguments
  bare_item : (e : ExprId) (q : RawPath) (i : CallableDefId) (σ : Signature) → PathRule g t e q → names_item q ≡ Some i → signature_of g.scope.facts i ≡ Some σ → σ.params ≡ 0 → HasTy t e (ty.FnDef i [])
  bare_item e (path.Local v) i σ h is s none = absurd (cc)
  bare_item e (path.Function f) i σ (us, has, count) is s none =
      (let l : callable.FunctionId f ≡ i = cc in
      let k : length us ≡ 0 = fn_count g.scope.facts.types (slice_get g.scope.facts.fns f.0) us σ count (subst (λ j. signature_of g.scope.facts j ≡ Some σ) (sym l) s) ∙ none in
      subst (λ j. HasTy t e (ty.FnDef j [])) l (subst (λ xs. HasTy t e (ty.FnDef (callable.FunctionId f) (type_args xs))) (no_items us k) has))
  bare_item e (path.Ctor v) i σ (s', has, c, r) is s none =
      (let l : callable.VariantId v ≡ i = cc in
      let here : signature_of g.scope.facts (callable.VariantId v) ≡ Some σ = subst (λ j. signature_of g.scope.facts j ≡ Some σ) (sym l) s in
      let (tuple, k) = called_ctor g v c.variant c.types σ c.is_ctor here in
      let at : s' ≡ ty.FnDef (callable.VariantId v) (type_args c.types) = c.is ∙ ctor_type_of_tuple c.variant v c.types tuple in
      subst (λ j. HasTy t e (ty.FnDef j [])) l (subst (λ xs. HasTy t e (ty.FnDef (callable.VariantId v) (type_args xs))) (no_items c.types (k ∙ none)) (subst (λ u. HasTy t e u) at has)))

  -- what is called by a path to an item without generic parameters has no arguments
  non_generic : (e : ExprId) (σ : Signature) (c : CallsNonGeneric g e σ) (τ : Signature) (ts : List Ty) → IsCallee g t c.called τ ts → (ts ≡ []) × (τ ≡ σ)
  non_generic e σ c τ ts is =
      let has = bare_item c.called c.path c.item σ (clause_at c.called (expr.Path c.path) c.names) c.is_item c.signature c.non_generic in
      let same = fn_def_parts is.item c.item (type_args ts) [] (one_at t.type_of_expr c.called.0 _ _ is.has has) in
      let other : signature_of g.scope.facts c.item ≡ Some τ = subst (λ i. signature_of g.scope.facts i ≡ Some τ) same.0 is.signature in
      let own = c.signature in
      (same_type_args ts [] same.1, cc)

  -- a call by a path to an item was not seen to call no function, so it has that item's output
  calls_item : (e called : ExprId) (args : List ExprId) → slice_get g.body.exprs e.0 ≡ Some (expr.Call called args) → IsPathToItem g called → ItemCallRule (at_or_mismatch g t) g t e called args
  calls_item e called args is item =
      elim (clause_at e (expr.Call called args) is) [
        | inl c ↦ c
        | inr m ↦
            (let seen = m.0 in
            let x = h.complaints.seen seen.position seen.entry seen.found in
            let here = seen.is_node in
            let there = x.is_node in
            let own = x.is_call in
            let same : called ≡ x.called = cc in
            absurd (x.no_item (subst (λ c. IsPathToItem g c) same item)))
      ]

  upward : (e : ExprId) (s : Ty) → Up g e s → HasTy t e s
  upward m r (of_literal e l s is own) =
      (let c = clause_at e (expr.Lit l) is in subst (λ u. HasTy t e u) (literal_type l s c.0 own c.2) c.1)
  upward m r (of_written e w init n none) =
      local_of_let e (Some w) init n (written_type (let_types g) w)
      (comes_in e (Some w) init n (written_type (let_types g) w) (let_recorded n.pattern n.parent n.at_part w init n.stands.part, sym (filled_written (hole_type t) (let_types g) w none)))
  upward m r (of_initializer e i s n u) = local_of_let e None (Some i) n s (comes_in e None (Some i) n s (upward i s u))
  upward m r (of_call e σ c) =
      (let r = calls_item e c.called c.args c.is_call (c.path, c.names, record { item = c.item; is_item = c.is_item; signature = σ; is_signature = c.signature }) in
      let (none, one) = non_generic e σ c r.signature r.types r.is_callee in
      subst (λ (v : Signature). HasTy t e (at_args [] v.output)) one (subst (λ us. HasTy t e (at_args us r.signature.output)) none r.has))
  upward m r (of_unit e x n) =
      (let (s, has, c, r') = clause_at e (expr.Path (path.Ctor n.variant)) n.names in
      let here = c.is_ctor.found in
      let there = n.is_variant in
      let one : c.variant ≡ x = cc in
      let none : c.types ≡ [] = no_items c.types (counted_none c.types c.is_ctor.count n.non_generic) in
      let at : s ≡ ty.Adt x.adt [] = c.is ∙ (ap (λ y. ctor_type y n.variant c.types) one ∙ (ctor_type_of_unit x n.variant c.types n.unit ∙ ap (λ us. ty.Adt x.adt (type_args us)) none)) in
      subst (λ u. HasTy t e u) at has)
    where
      counted_none : (us : List Ty) {o : Option ℕ} → o ≡ Some (length us) → o ≡ Some 0 → length us ≡ 0
      counted_none us h k = cc
  upward m r (of_parameter e i s n is) = local e n.binding n.pattern s n.names n.binds (bind_is_at n.pattern n.binding s n.binds (h.params i n.pattern s n.stands is))

  body_rule : BodyIsExcused g t ⊎ BodyObeys g t
  body_rule = root_rule g.output h.body_clause
    where
      root_rule : (o : Option Ty) → IsAtMaybeOrMismatch t g.body.root o → HasMismatch t g.body.root ⊎ IsAtMaybe t g.body.root o
      root_rule None a = inr a
      root_rule (Some u) a = elim (at_or_excused t g.body.root u a) [ inl b ↦ inr b | inr m ↦ inl m ]

  total : IsTotal g.body t
  total = record {
    exprs = λ e i. rule_type g t e (slice_get g.body.exprs e.0) (h.clauses e i);
    pats = λ p i. pat_type g t p (slice_get g.body.pats p.0) (h.kinds p i);
    bindings = h.bindings;
  }

  -- ---- what is stated at a place is what is demanded there

  asked_at_root : (n : Node) (role : Role) (s : Ty) → role ≡ root → Asks g t n role s → g.output ≡ Some s
  asked_at_root the_body role s is asks = asks.1
  asked_at_root (inner (node.ExprId n)) role s is asks = absurd (subst (λ r. AsksOf g t n r s) is asks)
  asked_at_root (inner (node.PatId p)) role s is asks = (let clash : root ≡ Role.pattern_literal = sym is ∙ asks.0 in cc)

  asked_at_let : (n : Node) (role : Role) (w : TypeRefId) (s : Ty) → role ≡ initializer (Some w) → Asks g t n role s → s ≡ declared g t w
  asked_at_let the_body role w s is asks =
      (let clash : initializer (Some w) ≡ root = sym is ∙ asks.0 in cc)
  asked_at_let (inner (node.ExprId n)) role w s is asks = (let declares : AsksOf g t n (initializer (Some w)) s = subst (λ r. AsksOf g t n r s) is asks in declares.1)
  asked_at_let (inner (node.PatId p)) role w s is asks = (let clash : initializer (Some w) ≡ Role.pattern_literal = sym is ∙ asks.0 in cc)

  -- the input of a function without generic parameters
  asked_of_argument : (n : Node) (role : Role) (i : ℕ) (s d : Ty) → role ≡ argument i → IsWrittenInput g n i s → Asks g t n role d → s ≡ d
  asked_of_argument the_body role i s d is written asks = (let clash : argument i ≡ root = sym is ∙ asks.0 in cc)
  asked_of_argument (inner (node.PatId p)) role i s d is written asks = (let clash : argument i ≡ Role.pattern_literal = sym is ∙ asks.0 in cc)
  asked_of_argument (inner (node.ExprId n)) role i s d is written asks =
      let input : IsInputAt g t n i d = subst (λ r. AsksOf g t n r d) is asks in
      let one = input.is_call in
      let other = written.calls.is_call in
      let here = written.is_node in
      let called : input.called ≡ written.calls.called = cc in
      let (none, same) = non_generic written.call written.signature written.calls input.signature input.types (subst (λ c. IsCallee g t c input.signature input.types) called input.is_callee) in
      let at : slice_get (map (at_args []) written.signature.inputs) i ≡ Some d =
      subst (λ (v : Signature). slice_get (map (at_args []) v.inputs) i ≡ Some d) same (subst (λ us. slice_get (map (at_args us) input.signature.inputs) i ≡ Some d) none input.input) in
      let own = written.is_input in
      cc

  module _ (once : StandsOnce g.body) where
    stated_demand : (e : ExprId) (s d : Ty) → Stated g e s → IsAsked g t e d → s ≡ d
    stated_demand e s d st dm =
        let same = once st.parent dm.parent st.at_part dm.at_part _ _ st.stands.node_is dm.stands.node_is st.stands.part dm.stands.part refl in
        let here : part_at g.body dm.parent dm.at_part ≡ Some (record { node = node.ExprId e; role = st.role }) =
        subst (λ k. part_at g.body dm.parent k ≡ Some (record { node = node.ExprId e; role = st.role })) same.1
        (subst (λ n. part_at g.body n st.at_part ≡ Some (record { node = node.ExprId e; role = st.role })) same.0 st.stands.part) in
        let one : record { node = node.ExprId e; role = dm.role } ≡ record { node = node.ExprId e; role = st.role } = one_part (part_at g.body dm.parent dm.at_part) _ _ dm.stands.part here in
        let roles : dm.role ≡ st.role = ap (λ (p : Part). p.role) one in
        elim st.states [
          | inl r ↦ same_output g.output s d r.1 (asked_at_root dm.parent dm.role d (roles ∙ r.0) dm.asks)
          | inr (inl w) ↦ w.3 ∙ (sym (filled_written (hole_type t) (let_types g) w.0 w.2) ∙ sym (asked_at_let dm.parent dm.role w.0 d (roles ∙ w.1) dm.asks))
          | inr (inr a) ↦ asked_of_argument dm.parent dm.role a.0 s d (roles ∙ a.1) (subst (λ n. IsWrittenInput g n a.0 s) same.0 a.2) dm.asks
        ]
      where
        one_part : (o : Option Part) (p q : Part) → o ≡ Some p → o ≡ Some q → p ≡ q
        one_part o p q x y = cc

        same_output : (o : Option Ty) (u v : Ty) → o ≡ Some u → o ≡ Some v → u ≡ v
        same_output o u v x y = cc

    no_up_of_block : (e : ExprId) (u : Ty) → IsBlockWithoutTail g.body e → Up g e u → ⊥
    no_up_of_block m r is (of_literal e l s at own) = (let k = is.is_block in cc)
    no_up_of_block m r is (of_written e w init n none) = (let k = is.is_block in let j = n.names in cc)
    no_up_of_block m r is (of_initializer e i s n u) = (let k = is.is_block in let j = n.names in cc)
    no_up_of_block m r is (of_parameter e i s n w) = (let k = is.is_block in let j = n.names in cc)
    no_up_of_block m r is (of_call e σ c) = (let k = is.is_block in let j = c.is_call in cc)
    no_up_of_block m r is (of_unit e x n) = (let k = is.is_block in let j = n.names in cc)

    no_up_of_if : (e : ExprId) (u : Ty) → IsIfWithoutElse g.body e → Up g e u → ⊥
    no_up_of_if m r is (of_literal e l s at own) = (let k = is.is_if in cc)
    no_up_of_if m r is (of_written e w init n none) = (let k = is.is_if in let j = n.names in cc)
    no_up_of_if m r is (of_initializer e i s n u) = (let k = is.is_if in let j = n.names in cc)
    no_up_of_if m r is (of_parameter e i s n w) = (let k = is.is_if in let j = n.names in cc)
    no_up_of_if m r is (of_call e σ c) = (let k = is.is_if in let j = c.is_call in cc)
    no_up_of_if m r is (of_unit e x n) = (let k = is.is_if in let j = n.names in cc)

    no_up_of_unit : (e : ExprId) (u : Ty) → EndsInUnit g.body e → Up g e u → ⊥
    no_up_of_unit e u is up = elim is [ inl k ↦ no_up_of_block e u k up | inr k ↦ no_up_of_if e u k up ]

    truths : (e : ExprId) (x : TypeMismatch) → At t.expr_mismatches e.0 x → IsTrueMismatch g t e x
    truths e x at =
        let m = h.misfits e x at in
        let d = h.demands e x at in
        record {
          differ = m.differ;
          actual = m.actual;
          demand = d;
          no_coercion = λ u s up st leads.
              elim m.actual [
                | inl has ↦
                    elim d [
                      | inl asked ↦
                          (let a : u ≡ x.actual = one_at t.type_of_expr e.0 u x.actual (upward e u up) has in
                          let b : s ≡ x.expected = stated_demand e s x.expected st asked in
                          m.differ (ap erased (sym b) ∙ (sym leads ∙ ap erased a)))
                      | inr branch ↦ no_up_of_if e u (record { condition = branch.condition; branch = branch.branch; is_if = branch.is_if }) up
                    ]
                | inr ends ↦ no_up_of_unit e u ends.0 up
              ];
        }

    pub typed_from_made : IsTyped g t
    typed_from_made = record {
      shape = h.shape;
      total = total;
      clauses = h.clauses;
      exprs = λ e i. judged g t e (slice_get g.body.exprs e.0) (h.clauses e i);
      pats = λ p i. record { incoming = incoming p; kind = h.kinds p i };
      body_clause = h.body_clause;
      body_rule = body_rule;
      upward = upward;
      truths = truths;
      complaints = h.complaints;
    }

-- in a body whose nodes are numbered in the order of the walk, each stands at one place
pub typed_by_schedule : (g : Given) (t : InferenceResult) (s : Schedule) → IsSchedule g.body s → IsMade g t → IsTyped g t
typed_by_schedule g t s law h = typed_from_made g t h (one_place g.body s law)
