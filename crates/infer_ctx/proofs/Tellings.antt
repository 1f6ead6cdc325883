-- What tells an expression's own type and its own head: the types that the walk gives to paths, tuples, calls and bindings.
use Rattle.std.specs.Prelude.{◌≡◌, List, length, [], ◌∷◌, refl, ℕ, Option, Some, None, slice_get, ◌⊎◌, ◌+◌, suc, zero, ◌++◌}
use Rattle.std.specs.Option.{option_and_then}
use Rattle.std.proofs.Common.{subst, ap, sym, ◌∙◌, inl, inr, arith}
use Rattle.infer_ctx.specs.Words.{ExprId, Ty, Ty-F, out-Ty, out-roll-Ty, AdtId, GenericArg, CallableDefId, VariantId, TypeRefId, FunctionId, BindingId, LabelId, with_params, PatId, RawCtor, type_args, ctor_type_by, Signature, at_args, ctor_type, signature_of, HasNoHole, written_type, RawPath, RawVariant, RawExpr, RawArm, RawLiteral, RawStmt, names_item, callable_params, Role, parameter, let_pattern, Part, pat_part, param_parts, root, expr_part, the_body, arm_pattern, subpattern, Node, part_at, binding_of, Binds, RawBody, Schedule, IsWalkable, filled_written, Given, let_types, StandsAt, IsInput, tuple, outermost_step, HasHead, other, Outermost, HeadOf, of_up, of_tuple, of_function, of_ctor, of_output, filled_head, CallsItem, CallsNonGeneric, IsPathToItem, NamesLet, NamesParameter, NamesUnit, Up, of_literal, of_written, of_initializer, of_parameter, of_call, of_unit, IsOwnType}
use Rattle.hir_types.specs.declared.ty.Ty.TheVariants as ty
use Rattle.hir_types.specs.declared.head.Head.TheVariants as head
use Rattle.hir_types.specs.declared.ids.CallableDefId.TheVariants as callable
use Rattle.hir_types.specs.declared.ids.ExprOrPatId.TheVariants as node
use Rattle.infer_ctx.proofs.Words.{one_place, ctor_type_of_unit}
use Rattle.infer_ctx.specs.Words.hir_raw.declared.raw.RawCtor.TheVariants as ctor
use Rattle.infer_ctx.specs.Words.hir_raw.declared.raw.RawPath.TheVariants as path
use Rattle.infer_ctx.specs.Words.hir_raw.declared.raw.RawExpr.TheVariants as expr
use Rattle.infer_ctx.specs.Words.hir_raw.declared.raw.RawPat.TheVariants as pat
use Rattle.infer_result.specs.Heads.{of_written as head_of_written, of_initializer as head_of_initializer, of_parameter as head_of_parameter}
use Rattle.infer_ctx.specs.Own.{Tells, TellsBinding, TellsLet, TellsBound}
use Rattle.infer_ctx.proofs.TellingsKept.{replaced_head}

-- an equal type tells the same
pub same_telling : (g : Given) (e : ExprId) (t u : Ty) → t ≡ u → Tells g e t → Tells g e u
same_telling g e t u same h = subst (λ x. Tells g e x) same h

-- ---- heads
tuple_head : (ts : List Ty) → HasHead (ty.Tuple ts) (tuple (length ts))
tuple_head ts = ap outermost_step (ap out-Ty (sym (ty.rolls-Tuple ts)) ∙ out-roll-Ty (Ty-F.Tuple ts))

adt_head : (i : AdtId) (xs : List GenericArg) → HasHead (ty.Adt i xs) (other (head.Adt i))
adt_head i xs = ap outermost_step (ap out-Ty (sym (ty.rolls-Adt i xs)) ∙ out-roll-Ty (Ty-F.Adt i xs))

fn_def_head : (i : CallableDefId) (xs : List GenericArg) → HasHead (ty.FnDef i xs) (other (head.FnDef i))
fn_def_head i xs = ap outermost_step (ap out-Ty (sym (ty.rolls-FnDef i xs)) ∙ out-roll-Ty (Ty-F.FnDef i xs))

-- the head of a path to a constructor does not depend on the types that it is at
ctor_head : (k : RawCtor) (a : AdtId) (v : VariantId) (ts us : List Ty) (h : Outermost) → HasHead (ctor_type_by k a v ts) h → HasHead (ctor_type_by k a v us) h
ctor_head ctor.Unit a v ts us h has = adt_head a (type_args us) ∙ (sym (adt_head a (type_args ts)) ∙ has)
ctor_head ctor.Tuple a v ts us h has = fn_def_head (callable.VariantId v) (type_args us) ∙ (sym (fn_def_head (callable.VariantId v) (type_args ts)) ∙ has)
ctor_head ctor.Record a v ts us h has = has

no_types : (ts : List Ty) → length ts ≡ 0 → ts ≡ []
no_types [] none = refl
no_types (t ∷ ts) none = absurd (cc)

-- ---- the type and the head that an expression has by itself, by what it is

-- of a path to a binding it is by the place of what binds it
data LocalUp (g : Given) (e : ExprId) (s : Ty) : Type 0 where
  by_written : (w : TypeRefId) (init : Option ExprId) → NamesLet g.body e (Some w) init → HasNoHole (let_types g) w → s ≡ written_type (let_types g) w → LocalUp g e s
  by_initializer : (i : ExprId) → NamesLet g.body e None (Some i) → Up g i s → LocalUp g e s
  by_parameter : (i : ℕ) → NamesParameter g.body e i → IsInput g i s → LocalUp g e s

data LocalHead (g : Given) (e : ExprId) (h : Outermost) : Type 0 where
  head_by_written : (w : TypeRefId) (init : Option ExprId) → NamesLet g.body e (Some w) init → HasHead (written_type (let_types g) w) h → LocalHead g e h
  head_by_initializer : (i : ExprId) → NamesLet g.body e None (Some i) → HeadOf g i h → LocalHead g e h
  head_by_parameter : (i : ℕ) (s : Ty) → NamesParameter g.body e i → IsInput g i s → HasHead s h → LocalHead g e h

abbrev UpPath : Given → ExprId → RawPath → Ty → Type 0
UpPath g e (path.Local v) s = LocalUp g e s
UpPath g e (path.Function f) s = ⊥
UpPath g e (path.Ctor v) s = (x : RawVariant) × NamesUnit g e x × (s ≡ ty.Adt x.adt [])

abbrev UpAs : Given → ExprId → Option RawExpr → Ty → Type 0
UpAs g e (Some (expr.Lit l)) s = IsOwnType l s
UpAs g e (Some (expr.Path p)) s = UpPath g e p s
UpAs g e (Some (expr.Call called args)) s = (σ : Signature) × CallsNonGeneric g e σ × (s ≡ at_args [] σ.output)
UpAs g e _ s = ⊥

abbrev HeadPath : Given → ExprId → RawPath → Outermost → Type 0
HeadPath g e (path.Local v) h = LocalHead g e h
HeadPath g e (path.Function f) h = h ≡ other (head.FnDef (callable.FunctionId f))
HeadPath g e (path.Ctor v) h = (x : RawVariant) × (ts : List Ty) × (slice_get g.scope.facts.variants v.0 ≡ Some x) × HasHead (ctor_type x v ts) h

-- the heads that the rules beside `of_up` give
abbrev HeadAs : Given → ExprId → Option RawExpr → Outermost → Type 0
HeadAs g e (Some (expr.Path p)) h = HeadPath g e p h
HeadAs g e (Some (expr.Tuple es)) h = h ≡ tuple (length es)
HeadAs g e (Some (expr.Call called args)) h = (σ : Signature) × CallsItem g e σ × HasHead σ.output h
HeadAs g e _ h = ⊥

module _ (g : Given) where
  abbrev At : ExprId → Option RawExpr
  At e = slice_get g.body.exprs e.0

  up_as : (e : ExprId) (s : Ty) → Up g e s → UpAs g e (At e) s
  up_as m r (of_literal e l s is own) = subst (λ o. UpAs g e o s) (sym is) own
  up_as m r (of_written e w init n none) = subst (λ o. UpAs g e o (written_type (let_types g) w)) (sym n.names) (by_written w init n none refl)
  up_as m r (of_initializer e i s n u) = subst (λ o. UpAs g e o s) (sym n.names) (by_initializer i n u)
  up_as m r (of_parameter e i s n is) = subst (λ o. UpAs g e o s) (sym n.names) (by_parameter i n is)
  up_as m r (of_call e σ c) = subst (λ o. UpAs g e o (at_args [] σ.output)) (sym c.is_call) (σ, c, refl)
  up_as m r (of_unit e x n) = subst (λ o. UpAs g e o (ty.Adt x.adt [])) (sym n.names) (x, n, refl)

  head_as : (e : ExprId) (h : Outermost) → HeadOf g e h → ((s : Ty) × Up g e s × HasHead s h) ⊎ HeadAs g e (At e) h
  head_as m k (of_up e s h u has) = inl (s, u, has)
  head_as m k (of_tuple e es is) = inr (subst (λ o. HeadAs g e o (tuple (length es))) (sym is) refl)
  head_as m k (of_function e f is) = inr (subst (λ o. HeadAs g e o (other (head.FnDef (callable.FunctionId f)))) (sym is) refl)
  head_as m k (of_ctor e v x ts h is found has) = inr (subst (λ o. HeadAs g e o h) (sym is) (x, ts, found, has))
  head_as m k (of_output e σ h c has) = inr (subst (λ o. HeadAs g e o h) (sym c.is_call) (σ, c, has))
  head_as m k (head_of_written e w init h n has) = inr (subst (λ o. HeadAs g e o h) (sym n.names) (head_by_written w init n has))
  head_as m k (head_of_initializer e i h n has) = inr (subst (λ o. HeadAs g e o h) (sym n.names) (head_by_initializer i n has))
  head_as m k (head_of_parameter e i s h n is has) = inr (subst (λ o. HeadAs g e o h) (sym n.names) (head_by_parameter i s n is has))

  tells_by : (e : ExprId) (o : Option RawExpr) → At e ≡ o → (t : Ty) → ((s : Ty) → UpAs g e o s → t ≡ s) → ((h : Outermost) → HeadAs g e o h → HasHead t h) → Tells g e t
  tells_by e o is t type own = record {
    type = by_type;
    head = λ h has. elim (head_as e h has) [
      | inl u ↦ subst (λ x. HasHead x h) (sym (by_type u.0 u.1)) u.2
      | inr k ↦ own h (subst (λ o. HeadAs g e o h) is k)
    ];
  }
    where
      by_type : (s : Ty) → Up g e s → t ≡ s
      by_type s up = type s (subst (λ o. UpAs g e o s) is (up_as e s up))

  -- ---- expressions

  pub no_telling_block : (e : ExprId) (label : Option LabelId) (stmts : List RawStmt) (last : Option ExprId) → At e ≡ Some (expr.Block label stmts last) → (t : Ty) → Tells g e t
  no_telling_block e label stmts last is t = tells_by e (Some (expr.Block label stmts last)) is t (λ s up. absurd up) (λ h has. absurd has)

  pub no_telling_if : (e c first : ExprId) (last : Option ExprId) → At e ≡ Some (expr.If c first last) → (t : Ty) → Tells g e t
  no_telling_if e c first last is t = tells_by e (Some (expr.If c first last)) is t (λ s up. absurd up) (λ h has. absurd has)

  pub no_telling_match : (e d : ExprId) (arms : List RawArm) → At e ≡ Some (expr.Match d arms) → (t : Ty) → Tells g e t
  no_telling_match e d arms is t = tells_by e (Some (expr.Match d arms)) is t (λ s up. absurd up) (λ h has. absurd has)

  pub literal_tells : (e : ExprId) (l : RawLiteral) (t : Ty) → At e ≡ Some (expr.Lit l) → ((s : Ty) → IsOwnType l s → t ≡ s) → Tells g e t
  literal_tells e l t is own = tells_by e (Some (expr.Lit l)) is t own (λ h has. absurd has)

  pub local_tells : (e : ExprId) (v : BindingId) (t : Ty) → At e ≡ Some (expr.Path (path.Local v)) → TellsBinding g v t → Tells g e t
  local_tells e v t is tells = tells e is

  pub function_tells : (e : ExprId) (f : FunctionId) (xs : List GenericArg) (t : Ty) → At e ≡ Some (expr.Path (path.Function f)) → t ≡ ty.FnDef (callable.FunctionId f) xs → Tells g e t
  function_tells e f xs t is same =
      same_telling g e (ty.FnDef (callable.FunctionId f) xs) t (sym same)
      (tells_by e (Some (expr.Path (path.Function f))) is (ty.FnDef (callable.FunctionId f) xs) (λ s up. absurd up) (λ h has. fn_def_head (callable.FunctionId f) xs ∙ ap (λ k. Some k) (sym has)))

  pub tuple_tells : (e : ExprId) (es : List ExprId) (ts : List Ty) (t : Ty) → At e ≡ Some (expr.Tuple es) → length ts ≡ length es → t ≡ ty.Tuple ts → Tells g e t
  tuple_tells e es ts t is count same =
      same_telling g e (ty.Tuple ts) t (sym same)
      (tells_by e (Some (expr.Tuple es)) is (ty.Tuple ts) (λ s up. absurd up) (λ h has. tuple_head ts ∙ (ap (λ n. Some (tuple n)) count ∙ ap (λ k. Some k) (sym has))))

  pub ctor_tells : (e : ExprId) (v : VariantId) (x : RawVariant) (ts : List Ty) (t : Ty) → At e ≡ Some (expr.Path (path.Ctor v)) → slice_get g.scope.facts.variants v.0 ≡ Some x → callable_params g.scope.facts (callable.VariantId v) ≡ Some (length ts) → t ≡ ctor_type x v ts → Tells g e t
  ctor_tells e v x ts t is found count same =
      same_telling g e (ctor_type x v ts) t (sym same) (tells_by e (Some (expr.Path (path.Ctor v))) is (ctor_type x v ts) (λ s up. of_unit_path s up.0 up.1 up.2) (λ h has. of_any_path h has.0 has.1 has.2 has.3))
    where
      counted_none : {o : Option ℕ} → o ≡ Some (length ts) → o ≡ Some 0 → length ts ≡ 0
      counted_none h k = cc

      of_unit_path : (s : Ty) (y : RawVariant) → NamesUnit g e y → s ≡ ty.Adt y.adt [] → ctor_type x v ts ≡ s
      of_unit_path s y n same =
          let names = n.names in
          let there = n.is_variant in
          let here : n.variant ≡ v = cc in
          let one : y ≡ x = cc in
          let none : ts ≡ [] = no_types ts (counted_none count (subst (λ (i : VariantId). callable_params g.scope.facts (callable.VariantId i) ≡ Some 0) here n.non_generic)) in
          ctor_type_of_unit x v ts (subst (λ (y : RawVariant). y.ctor ≡ ctor.Unit) one n.unit) ∙ (ap (λ us. ty.Adt x.adt (type_args us)) none ∙ (ap (λ (y : RawVariant). ty.Adt y.adt []) (sym one) ∙ sym same))

      of_any_path : (h : Outermost) (y : RawVariant) (us : List Ty) → slice_get g.scope.facts.variants v.0 ≡ Some y → HasHead (ctor_type y v us) h → HasHead (ctor_type x v ts) h
      of_any_path h y us there has =
          let one : y ≡ x = cc in
          ctor_head x.ctor x.adt v us ts h (subst (λ y. HasHead (ctor_type y v us) h) one has)

  -- ---- calls

  module _ (e called : ExprId) (args : List ExprId) (is : At e ≡ Some (expr.Call called args)) where
    pub call_tells : (p : RawPath) (id : CallableDefId) (σ : Signature) (ts : List Ty) (t : Ty) → At called ≡ Some (expr.Path p) → names_item p ≡ Some id → signature_of g.scope.facts id ≡ Some σ → length ts ≡ σ.params → t ≡ at_args ts σ.output → Tells g e t
    call_tells p id σ ts t names item signature count same =
        same_telling g e (at_args ts σ.output) t (sym same) (tells_by e (Some (expr.Call called args)) is (at_args ts σ.output) (λ s up. of_non_generic s up.0 up.1 up.2) (λ h has. of_item h has.0 has.1 has.2))
      where
        one_signature : (c : ExprId) (cs : List ExprId) (q : RawPath) (i : CallableDefId) (τ : Signature) → At e ≡ Some (expr.Call c cs) → At c ≡ Some (expr.Path q) → names_item q ≡ Some i → signature_of g.scope.facts i ≡ Some τ → τ ≡ σ
        one_signature c cs q i τ is_call there is_item has =
            let called_is : c ≡ called = cc in
            let at_called : At called ≡ Some (expr.Path q) = subst (λ c. At c ≡ Some (expr.Path q)) called_is there in
            let path_is : q ≡ p = cc in
            let named : names_item p ≡ Some i = subst (λ q. names_item q ≡ Some i) path_is is_item in
            let item_is : i ≡ id = cc in
            let made : signature_of g.scope.facts id ≡ Some τ = subst (λ i. signature_of g.scope.facts i ≡ Some τ) item_is has in
            cc

        of_non_generic : (s : Ty) (τ : Signature) → CallsNonGeneric g e τ → s ≡ at_args [] τ.output → at_args ts σ.output ≡ s
        of_non_generic s τ c same =
            let one : τ ≡ σ = one_signature c.called c.args c.path c.item τ c.is_call c.names c.is_item c.signature in
            let none : ts ≡ [] = no_types ts (count ∙ subst (λ (y : Signature). y.params ≡ 0) one c.non_generic) in
            ap (λ us. at_args us σ.output) none ∙ (ap (λ (y : Signature). at_args [] y.output) (sym one) ∙ sym same)

        of_item : (h : Outermost) (τ : Signature) → CallsItem g e τ → HasHead τ.output h → HasHead (at_args ts σ.output) h
        of_item h τ c has =
            let one : τ ≡ σ = one_signature c.called c.args c.path c.item τ c.is_call c.names c.is_item c.signature in
            replaced_head (with_params (type_args ts)) σ.output h (subst (λ (y : Signature). HasHead y.output h) one has)

    pub other_call_tells : (IsPathToItem g called → ⊥) → (t : Ty) → Tells g e t
    other_call_tells no_item t = tells_by e (Some (expr.Call called args)) is t (λ s up. absurd (of_non_generic up.0 up.1)) (λ h has. absurd (of_item has.0 has.1))
      where
        of_call_to : (c : ExprId) (cs : List ExprId) → At e ≡ Some (expr.Call c cs) → IsPathToItem g c → ⊥
        of_call_to c cs is_call path =
            let same : c ≡ called = cc in
            no_item (subst (λ c. IsPathToItem g c) same path)

        of_non_generic : (τ : Signature) → CallsNonGeneric g e τ → ⊥
        of_non_generic τ c = of_call_to c.called c.args c.is_call (c.path, c.names, record { item = c.item; is_item = c.is_item; signature = τ; is_signature = c.signature })

        of_item : (τ : Signature) → CallsItem g e τ → ⊥
        of_item τ c = of_call_to c.called c.args c.is_call (c.path, c.names, record { item = c.item; is_item = c.is_item; signature = τ; is_signature = c.signature })

-- ---- bindings

-- the type is that of the parameter, if that is known
abbrev pub IsInputIfKnown : Given → ℕ → Ty → Type 0
IsInputIfKnown g i t = (u : Ty) → IsInput g i u → t ≡ u

-- the same for a pattern in this role; nothing where what it binds has no type by itself
abbrev RoleTells : Given → Role → Ty → Type 0
RoleTells g (let_pattern w init) t = TellsLet g w init t
RoleTells g (parameter i) t = IsInputIfKnown g i t
RoleTells g _ t = Unit {0}

plus_zero : (n : ℕ) → n ≡ n + 0
plus_zero n = omega arith

zero_plus : (n : ℕ) → 0 + n ≡ n
zero_plus n = omega arith

suc_plus : (n i : ℕ) → suc n + i ≡ n + suc i
suc_plus n i = omega arith

param_part : (ps : List PatId) (from i : ℕ) (rest : List Part) (p : PatId) → slice_get ps i ≡ Some p → slice_get (param_parts from ps ++ rest) i ≡ Some (pat_part (parameter (from + i)) p)
param_part [] from i rest p found = absurd (cc)
param_part (q ∷ ps) from zero rest p found =
    let here : q ≡ p = cc in
    ap (λ n. Some (pat_part (parameter n) q)) (plus_zero from) ∙ ap (λ q. Some (pat_part (parameter (from + 0)) q)) here
param_part (q ∷ ps) from (suc i) rest p found = param_part ps (suc from) i rest p found ∙ ap (λ n. Some (pat_part (parameter n) p)) (suc_plus from i)

-- the pattern of a parameter stands as a part of the body
pub param_stands : (b : RawBody) (i : ℕ) (p : PatId) → slice_get b.params i ≡ Some p → StandsAt b (node.PatId p) the_body i (parameter i)
param_stands b i p found = record {
  node_is = tt;
  part = param_part b.params 0 i (expr_part root b.root ∷ []) p found ∙ ap (λ n. Some (pat_part (parameter n) p)) (zero_plus i);
}

one_part : (o : Option Part) (p q : Part) → o ≡ Some p → o ≡ Some q → p ≡ q
one_part o p q x y = cc

module _ (g : Given) (s : Schedule) (law : IsWalkable g.body s) where
  -- a pattern stands in one role
  one_role : (p : PatId) (n m : Node) (k j : ℕ) (role there : Role) → StandsAt g.body (node.PatId p) n k role → StandsAt g.body (node.PatId p) m j there → role ≡ there
  one_role p n m k j role there here again =
      let same = one_place g.body s law.schedule n m k j _ _ here.node_is again.node_is here.part again.part refl in
      let moved : part_at g.body m j ≡ Some (pat_part role p) =
      subst (λ k. part_at g.body m k ≡ Some (pat_part role p)) same.1 (subst (λ n. part_at g.body n k ≡ Some (pat_part role p)) same.0 here.part) in
      ap (λ (x : Part). x.role) (one_part (part_at g.body m j) (pat_part role p) (pat_part there p) moved again.part)

  -- a binding has one binder
  one_binder : (v : BindingId) (p q : PatId) → Binds g.body p v → Binds g.body q v → q ≡ p
  one_binder v p q binds again = (let b = law.bound v (law.binders p v binds) in b.only q again ∙ sym (b.only p binds))

  module _ (n : Node) (k : ℕ) (p : PatId) (role : Role) (stands : StandsAt g.body (node.PatId p) n k role) (t : Ty) (tells : RoleTells g role t) where
    module _ (v : BindingId) (binds : Binds g.body p v) (e : ExprId) (is : slice_get g.body.exprs e.0 ≡ Some (expr.Path (path.Local v))) where
      -- what binds the local that e names is p, in p's role
      role_is : (u : BindingId) (q : PatId) (m : Node) (j : ℕ) (there : Role) → slice_get g.body.exprs e.0 ≡ Some (expr.Path (path.Local u)) → slice_get g.body.pats q.0 ≡ Some (pat.Bind u None) → StandsAt g.body (node.PatId q) m j there → RoleTells g there t
      role_is u q m j there names bind at =
          let one : u ≡ v = cc in
          let bound : Binds g.body q u = ap (option_and_then binding_of) bind in
          let same : q ≡ p = one_binder v p q binds (subst (λ u. Binds g.body q u) one bound) in
          subst (λ r. RoleTells g r t) (one_role p n m k j role there stands (subst (λ q. StandsAt g.body (node.PatId q) m j there) same at)) tells

      let_is : (w : Option TypeRefId) (init : Option ExprId) → NamesLet g.body e w init → RoleTells g (let_pattern w init) t
      let_is w init l = role_is l.binding l.pattern l.parent l.at_part (let_pattern w init) l.names l.binds l.stands

      parameter_is : (i : ℕ) → NamesParameter g.body e i → IsInputIfKnown g i t
      parameter_is i l = role_is l.binding l.pattern the_body i (parameter i) l.names l.binds (param_stands g.body i l.pattern l.stands)

      local_type : (u : Ty) → LocalUp g e u → t ≡ u
      local_type u (by_written w init l none there) = (let (h, here) = let_is (Some w) init l in here ∙ (filled_written h (let_types g) w none ∙ sym there))
      local_type u (by_initializer i l up) = (let_is None (Some i) l).type u up
      local_type u (by_parameter i l input) = parameter_is i l u input

      local_head : (h : Outermost) → LocalHead g e h → HasHead t h
      local_head h (head_by_written w init l has) = (let (f, here) = let_is (Some w) init l in subst (λ x. HasHead x h) (sym here) (filled_head f (let_types g) w h has))
      local_head h (head_by_initializer i l has) = (let_is None (Some i) l).head h has
      local_head h (head_by_parameter i u l input has) = subst (λ x. HasHead x h) (sym (parameter_is i l u input)) has

      path_tells : Tells g e t
      path_tells = tells_by g e (Some (expr.Path (path.Local v))) is t local_type local_head

    role_tells : TellsBound g p t
    role_tells v binds e is = path_tells v binds e is

  pub let_tells : (n : Node) (k : ℕ) (p : PatId) (w : Option TypeRefId) (init : Option ExprId) → StandsAt g.body (node.PatId p) n k (let_pattern w init) → (t : Ty) → TellsLet g w init t → TellsBound g p t
  let_tells n k p w init stands t tells = role_tells n k p (let_pattern w init) stands t tells

  pub param_tells : (n : Node) (k i : ℕ) (p : PatId) → StandsAt g.body (node.PatId p) n k (parameter i) → (t : Ty) → IsInputIfKnown g i t → TellsBound g p t
  param_tells n k i p stands t input = role_tells n k p (parameter i) stands t input

  pub param_at_tells : (i : ℕ) (p : PatId) → slice_get g.body.params i ≡ Some p → (t : Ty) → IsInputIfKnown g i t → TellsBound g p t
  param_at_tells i p found t input = param_tells the_body i i p (param_stands g.body i p found) t input

  -- what an arm's pattern, or a part of a pattern, binds has no type by itself
  pub arm_tells : (n : Node) (k : ℕ) (p : PatId) (e : ExprId) (i : ℕ) → StandsAt g.body (node.PatId p) n k (arm_pattern e i) → (t : Ty) → TellsBound g p t
  arm_tells n k p e i stands t = role_tells n k p (arm_pattern e i) stands t tt

  pub part_tells : (n : Node) (k : ℕ) (p : PatId) (i : ℕ) → StandsAt g.body (node.PatId p) n k (subpattern i) → (t : Ty) → TellsBound g p t
  part_tells n k p i stands t = role_tells n k p (subpattern i) stands t tt
